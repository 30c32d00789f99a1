use Rattle.std.proofs.Common.{◌∙◌, ap, sym, refl, List}
use Rattle.catalogue.proofs.PackageLemmas.{declared_of-kept}
use Rattle.catalogue.specs.Changes.{in_cohort, with_setting}
use Rattle.catalogue.specs.Lookups.{declared_of}
use Rattle.catalogue.specs.declared.content.App.{App}
use Rattle.catalogue.proofs.draft.Draft.set_cohort.Goals as goal

pub returns : goal.returns
returns c = record {
  content = c.set_cohort_in_apps.ensures;
  indexed = λ name.
      c.requires.indexed name
      ∙ sym (declared_of-kept c.args.id.now (in_cohort c.args.cohort.now (with_setting c.args.setting)) (λ app. refl) c.args.self.now.apps name)
      ∙ sym (ap (λ (apps : List App). declared_of apps name) c.set_cohort_in_apps.ensures);
}
