use Rattle.std.proofs.Common.{◌≡◌, ◌≤◌, Some, ap, ◌∙◌, arith, string_bytes}
use Rattle.std.proofs.lemmas.Str.{IsUtf8-string_bytes}
use Rattle.toml.specs.Data.{members_depth}
use Rattle.toml.specs.Parse.{parse_document}
use Rattle.toml.specs.View.{table_view}
use Rattle.profile_toml.proofs.DepthLemmas.{profile_shallow}
use Rattle.profile_toml.proofs.ReadBackLemmas.{profile_of_bytes-written}
use Rattle.profile_toml.specs.WrittenFields.{profile_table}
use Rattle.profile_toml.proofs.writing.profile.write_profile.Goals as goal

pub returns-in-Ok-clause-reads_back : goal.returns-in-Ok-clause-reads_back
returns-in-Ok-clause-reads_back c =
    let apps = c.args.catalogue.now in
    let mirrors = c.args.mirrors.now in
    let shallow : members_depth (profile_table apps mirrors) ≤ 5 = profile_shallow apps mirrors in
    let is : table_view c.in_ok-table.table ≡ profile_table apps mirrors = c.in_ok-table.ensures in
    let depth : members_depth (table_view c.in_ok-table.table) ≤ 80 = rw is (omega arith) in
    let parsed : parse_document (string_bytes c.in-Ok.text) ≡ Some (profile_table apps mirrors) =
    c.in-Ok.ensures.reads_back depth ∙ ap Some is in
    rw c.into_bytes.ensures.value (record {
      read = profile_of_bytes-written (string_bytes c.in-Ok.text) apps mirrors (IsUtf8-string_bytes c.in-Ok.text) parsed
          c.validity.ensures.apps_valid c.requires;
      made = c.contents.ensures apps c.validity.ensures;
    })
