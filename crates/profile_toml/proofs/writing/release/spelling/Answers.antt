use Rattle.std.proofs.Common.{ℕ, List, [], Option, length, refl, arith, sym, ap, ◌∙◌}
use Rattle.std.specs.List.{slice_get}
use Rattle.std.specs.Option.{option_map_or}
use Rattle.std.proofs.lemmas.List.Folds.{find_at}
use Rattle.std.proofs.lemmas.List.Quantifiers.{position-Some}
use Rattle.std.proofs.lemmas.Option.{slice_get_past, slice_get_read}
use Rattle.catalogue.specs.Lookups.{is_release}
use Rattle.catalogue.specs.declared.content.Release.{Release}
use Rattle.values.proofs.ChangeLemmas.{position_or_len-None, position_or_len-Some}
use Rattle.profile_toml.proofs.writing.release.spelling.Goals as goal

abbrev spelled : Option Release → List ℕ
spelled found = option_map_or (λ release. release.spelled) found []

pub returns-in-Some : goal.returns-in-Some
returns-in-Some c =
    let test = is_release c.args.version.now in
    let releases = c.args.releases.now in
    let index = c.in-Some.index in
    let release = c.index-releases-index.result in
    let found = sym c.in-Some.ensures in
    let within = (position-Some test releases index release found).0 in
    c.as_str.ensures
    ∙ ap (λ (r : Release). r.spelled) (sym c.index-releases-index.is)
    ∙ sym (ap spelled (find_at test releases ∙ ap (slice_get releases) (sym (position_or_len-Some test releases index found))
    ∙ slice_get_read releases (length releases) index release refl within c.index-releases-index.is))

pub returns-in-None : goal.returns-in-None
returns-in-None c =
    let test = is_release c.args.version.now in
    let releases = c.args.releases.now in
    let none = position_or_len-None test releases (sym c.in-None.ensures) in
    sym (ap spelled (find_at test releases ∙ slice_get_past releases _ (omega (arith, none))))
