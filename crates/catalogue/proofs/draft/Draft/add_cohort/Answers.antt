use Rattle.std.proofs.Common.{◌≡◌, ◌∙◌, ap, sym, refl, List}
use Rattle.catalogue.proofs.PackageLemmas.{declared_of-kept}
use Rattle.catalogue.specs.Changes.{new_cohort, with_cohort}
use Rattle.values.specs.Lists.{change}
use Rattle.catalogue.specs.Lookups.{declared_of, is_app}
use Rattle.catalogue.specs.declared.content.App.{App}
use Rattle.catalogue.specs.declared.content.Cohort.{Cohort}
use Rattle.catalogue.proofs.draft.Draft.add_cohort.Goals as goal

pub returns : goal.returns
returns c =
    let edit = c.args.edit.now in
    let apps = c.args.self.now.apps in
    let new = with_cohort (new_cohort edit.cohort) in
    let content : c.add_cohort_to.new.apps ≡ change (is_app edit.app) new apps =
    c.in_ok-add_cohort_to.ensures
    ∙ ap (λ (cohort : Cohort). change (is_app edit.app) (with_cohort cohort) apps) c.in_ok-cohort.ensures in
    record {
      content = content;
      indexed = λ name.
          c.requires.indexed name
          ∙ sym (declared_of-kept edit.app new (λ app. refl) apps name)
          ∙ sym (ap (λ (content : List App). declared_of content name) content);
    }
