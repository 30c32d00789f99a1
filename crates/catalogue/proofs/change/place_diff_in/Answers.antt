use Rattle.std.proofs.Common.{sym, ap, List}
use Rattle.std.proofs.lemmas.List.Quantifiers.{position-Some}
use Rattle.values.proofs.ChangeLemmas.{change-Some, change-None}
use Rattle.catalogue.proofs.PlaceLemmas.{IsValidApp-item}
use Rattle.catalogue.specs.Changes.{with_diff}
use Rattle.catalogue.specs.Lookups.{is_app}
use Rattle.catalogue.specs.declared.content.Diff.{Diff}
use Rattle.catalogue.proofs.change.place_diff_in.Goals as goal

pub returns-in_ok-place_diff : goal.returns-in_ok-place_diff
returns-in_ok-place_diff c =
    let app = c.item_mut-app.result.now in
    change-Some (is_app c.args.id.now) (with_diff c.args.diff) c.args.apps.now c.in-Some.index app _ (sym c.in-Some.ensures) c.item_mut-app.ensures.value
    (ap (λ (diffs : List Diff). record app { diffs = diffs }) c.in_ok-place_diff.ensures)

pub returns-in_default : goal.returns-in_default
returns-in_default c = change-None (is_app c.args.id.now) (with_diff c.args.diff) c.args.apps.now (sym c.in_default.ensures)

pub place_diff-requires : goal.place_diff-requires
place_diff-requires c =
    let app = c.item_mut-app.result.now in
    let at = position-Some (is_app c.args.id.now) c.args.apps.now c.in-Some.index app (sym c.in-Some.ensures) in
    (IsValidApp-item c.args.apps.now c.in-Some.index app at.0 c.item_mut-app.ensures.value c.requires).diffs_ascend
