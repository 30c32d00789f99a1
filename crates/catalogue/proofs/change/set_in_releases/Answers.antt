use Rattle.std.proofs.Common.{◌≡◌, ◌∙◌, sym, ap, get_or, List}
use Rattle.values.proofs.ChangeLemmas.{change-Some, change-None}
use Rattle.catalogue.specs.Changes.{with_release_setting}
use Rattle.catalogue.specs.Lookups.{is_release}
use Rattle.catalogue.specs.declared.content.Release.{Release}
use Rattle.catalogue.proofs.change.set_in_releases.Goals as goal

pub returns-in_ok-replace : goal.returns-in_ok-replace
returns-in_ok-replace c =
    let found = c.index-as_slice-index.result in
    let item : found ≡ get_or c.args.releases.now c.in-Some.index found =
    c.index-as_slice-index.is ∙ ap (λ (releases : List Release). get_or releases c.in-Some.index found) c.as_slice.ensures in
    c.in_ok-replace.ensures.ok
    ∙ change-Some (is_release c.args.version.now) (with_release_setting c.args.setting) c.args.releases.now c.in-Some.index found _ (sym c.in-Some.ensures) item
    (c.set.ensures ∙ ap (with_release_setting c.args.setting) c.in_ok-release.ensures)

pub returns-in_default : goal.returns-in_default
returns-in_default c =
    change-None (is_release c.args.version.now) (with_release_setting c.args.setting) c.args.releases.now (sym c.in_default.ensures)
