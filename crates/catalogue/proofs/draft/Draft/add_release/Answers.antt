use Rattle.std.proofs.Common.{◌≡◌, ◌∙◌, ap, sym, string_bytes, List}
use Rattle.catalogue.proofs.PackageLemmas.{Indexes-with_release}
use Rattle.catalogue.specs.Changes.{new_release, with_release}
use Rattle.values.specs.Lists.{change}
use Rattle.catalogue.specs.Draft.{Indexes}
use Rattle.catalogue.specs.Lookups.{declared_of, is_app}
use Rattle.catalogue.specs.declared.content.App.{App}
use Rattle.catalogue.specs.declared.content.Release.{Release}
use Rattle.catalogue.proofs.draft.Draft.add_release.Goals as goal

pub returns : goal.returns
returns c =
    let draft = c.args.self.now in
    let edit = c.args.edit.now in
    let release = c.in_ok-release.release in
    let content : c.place_in.new.apps ≡ change (is_app edit.app) (with_release (new_release edit)) draft.apps =
    c.in_ok-place_in.ensures
    ∙ ap (λ (r : Release). change (is_app edit.app) (with_release r) draft.apps) c.in_ok-release.ensures in
    let indexed : Indexes c.insert.new.self (change (is_app edit.app) (with_release (new_release edit)) draft.apps) =
    Indexes-with_release draft.packages c.insert.new.self draft.apps edit (string_bytes c.in_ok-name.name) release c.requires.indexed c.requires.accepted c.in_ok-release.ensures
    (c.in_ok-name.ensures.ok ∙ c.as_str.ensures) c.in_ok-insert.ensures in
    record {
      content = content;
      indexed = λ name. indexed name ∙ sym (ap (λ (apps : List App). declared_of apps name) content);
    }
