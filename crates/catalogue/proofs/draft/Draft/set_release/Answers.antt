use Rattle.std.proofs.Common.{◌≡◌, ◌∙◌, ap, sym, List, ℕ}
use Rattle.catalogue.specs.Versions.{lenient_version_of}
use Rattle.catalogue.proofs.PackageLemmas.{declared_of-kept_in_release}
use Rattle.catalogue.specs.Changes.{in_release, with_release_setting}
use Rattle.values.specs.Lists.{change}
use Rattle.catalogue.specs.Lookups.{declared_of, is_app}
use Rattle.catalogue.specs.declared.content.App.{App}
use Rattle.catalogue.proofs.draft.Draft.set_release.Goals as goal

pub returns : goal.returns
returns c =
    let apps = c.args.self.now.apps in
    let id = c.args.id.now in
    let version = lenient_version_of c.args.version.now in
    let new = c.args.setting in
    let content : c.set_release_in_apps.new.apps ≡ change (is_app id) (in_release version (with_release_setting new)) apps =
    c.in_ok-set_release_in_apps.ensures
    ∙ ap (λ (v : List ℕ). change (is_app id) (in_release v (with_release_setting new)) apps) (c.lenient-version.ensures ∙ ap lenient_version_of c.as_str.ensures) in
    record {
      content = content;
      indexed = λ name.
          c.requires.indexed name
          ∙ sym (declared_of-kept_in_release id version new apps name)
          ∙ sym (ap (λ (made : List App). declared_of made name) content);
    }
