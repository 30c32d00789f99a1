use Rattle.std.proofs.Common.{sym, ap, List}
use Rattle.std.proofs.lemmas.List.Quantifiers.{position-Some}
use Rattle.values.proofs.ChangeLemmas.{change-Some, change-None}
use Rattle.catalogue.proofs.PlaceLemmas.{IsValidApp-item}
use Rattle.catalogue.specs.Changes.{with_release}
use Rattle.catalogue.specs.Lookups.{is_app}
use Rattle.catalogue.specs.declared.content.Release.{Release}
use Rattle.catalogue.proofs.change.place_in.Goals as goal

pub returns-in_ok-place : goal.returns-in_ok-place
returns-in_ok-place c =
    let app = c.item_mut-app.result.now in
    change-Some (is_app c.args.id.now) (with_release c.args.release) c.args.apps.now c.in-Some.index app _ (sym c.in-Some.ensures) c.item_mut-app.ensures.value
    (ap (λ (releases : List Release). record app { releases = releases }) c.in_ok-place.ensures)

pub returns-in_default : goal.returns-in_default
returns-in_default c = change-None (is_app c.args.id.now) (with_release c.args.release) c.args.apps.now (sym c.in_default.ensures)

pub place-requires : goal.place-requires
place-requires c =
    let app = c.item_mut-app.result.now in
    let at = position-Some (is_app c.args.id.now) c.args.apps.now c.in-Some.index app (sym c.in-Some.ensures) in
    (IsValidApp-item c.args.apps.now c.in-Some.index app at.0 c.item_mut-app.ensures.value c.requires).releases_ascend
