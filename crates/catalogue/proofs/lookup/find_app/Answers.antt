use Rattle.std.proofs.Common.{◌∙◌, length, refl, ap, sym, arith}
use Rattle.std.specs.List.{slice_get}
use Rattle.std.specs.Option.{option_copied}
use Rattle.std.proofs.lemmas.List.Folds.{find_at}
use Rattle.std.proofs.lemmas.List.Quantifiers.{position-Some}
use Rattle.std.proofs.lemmas.Option.{slice_get_past, slice_get_read}
use Rattle.values.proofs.ChangeLemmas.{position_or_len-None, position_or_len-Some}
use Rattle.catalogue.specs.Lookups.{is_app}
use Rattle.catalogue.proofs.lookup.find_app.Goals as goal

pub returns : goal.returns
returns c =
    let test = is_app c.args.id.now in
    let apps = c.args.apps.now in
    let index = c.in_ok-index.index in
    let app = c.index-apps-index.result in
    let found = sym c.in_ok-index.ensures in
    let within = (position-Some test apps index app found).0 in
    sym (find_at test apps ∙ ap (slice_get apps) (sym (position_or_len-Some test apps index found))
    ∙ slice_get_read apps (length apps) index app refl within c.index-apps-index.is)

pub returns-in_err-index : goal.returns-in_err-index
returns-in_err-index c =
    let test = is_app c.args.id.now in
    let apps = c.args.apps.now in
    let none = position_or_len-None test apps (sym c.in_err-index.ensures) in
    ap option_copied c.from_residual.ensures ∙ sym (find_at test apps ∙ slice_get_past apps _ (omega (arith, none)))
