use Rattle.std.proofs.Common.{ap, ◌∙◌}
use Rattle.toml.specs.View.{members_view, view}
use Rattle.profile_toml.specs.WrittenTables.{put}
use Rattle.profile_toml.specs.Writers.{filled}
use Rattle.profile_toml.proofs.WritingLemmas.{members_view-insert_entry}
use Rattle.profile_toml.proofs.writing.table.TableWriter.put.Goals as goal

pub returns : goal.returns
returns c =
    ap members_view c.in_ok-insert.ensures.entries
    ∙ members_view-insert_entry c.args.self.now.table.entries c.in_ok-key.key c.args.value
    ∙ ap (λ k. put k (view c.args.value) (filled c.args.self.now)) c.in_ok-key.ensures.ok
