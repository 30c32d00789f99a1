use Rattle.std.proofs.Common.{◌≡◌, ◌∙◌, Some, sym, ap, List}
use Rattle.catalogue.proofs.PlaceLemmas.{IsValidApp-app_of}
use Rattle.catalogue.specs.Lookups.{app_of}
use Rattle.catalogue.specs.declared.content.App.{App}
use Rattle.catalogue.proofs.draft.Draft.named_app.Goals as goal

pub returns-in-Some-clause-ascending : goal.returns-in-Some-clause-ascending
returns-in-Some-clause-ascending c =
    let apps = c.args.self.now.apps in
    let id = c.args.id.now in
    let found : app_of apps id ≡ Some c.in-Some.app.now =
    ap (λ (content : List App). app_of content id) (sym c.as_slice.ensures)
    ∙ ap (app_of c.as_slice.result.now) (sym c.as_str.ensures)
    ∙ sym c.in-Some.ensures in
    (IsValidApp-app_of apps id c.in-Some.app.now found c.requires).releases_ascend

pub returns-in-Some-clause-diffs_ascending : goal.returns-in-Some-clause-diffs_ascending
returns-in-Some-clause-diffs_ascending c =
    let apps = c.args.self.now.apps in
    let id = c.args.id.now in
    let found : app_of apps id ≡ Some c.in-Some.app.now =
    ap (λ (content : List App). app_of content id) (sym c.as_slice.ensures)
    ∙ ap (app_of c.as_slice.result.now) (sym c.as_str.ensures)
    ∙ sym c.in-Some.ensures in
    (IsValidApp-app_of apps id c.in-Some.app.now found c.requires).diffs_ascend
