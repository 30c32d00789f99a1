use Rattle.std.proofs.Common.{◌≡◌, ◌∙◌, ap, sym, string_bytes, List}
use Rattle.catalogue.proofs.PackageLemmas.{Indexes-with_diff}
use Rattle.catalogue.specs.Changes.{new_diff, with_diff}
use Rattle.values.specs.Lists.{change}
use Rattle.catalogue.specs.Draft.{Indexes}
use Rattle.catalogue.specs.Lookups.{declared_of, is_app}
use Rattle.catalogue.specs.declared.content.App.{App}
use Rattle.catalogue.specs.declared.content.Diff.{Diff}
use Rattle.catalogue.proofs.draft.Draft.add_diff.Goals as goal

pub returns : goal.returns
returns c =
    let draft = c.args.self.now in
    let edit = c.args.edit.now in
    let diff = c.in_ok-diff.diff in
    let content : c.place_diff_in.new.apps ≡ change (is_app edit.app) (with_diff (new_diff edit)) draft.apps =
    c.in_ok-place_diff_in.ensures
    ∙ ap (λ (d : Diff). change (is_app edit.app) (with_diff d) draft.apps) (c.in_ok-shared.ensures ∙ c.in_ok-diff.ensures) in
    let indexed : Indexes c.insert.new.self (change (is_app edit.app) (with_diff (new_diff edit)) draft.apps) =
    Indexes-with_diff draft.packages c.insert.new.self draft.apps edit (string_bytes c.in_ok-package.package) diff c.requires.indexed c.requires.accepted c.in_ok-diff.ensures
    (c.in_ok-package.ensures.ok ∙ c.as_str.ensures) c.in_ok-insert.ensures in
    record {
      content = content;
      indexed = λ name. indexed name ∙ sym (ap (λ (apps : List App). declared_of apps name) content);
    }
