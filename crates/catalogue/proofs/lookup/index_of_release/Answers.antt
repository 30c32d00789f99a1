use Rattle.std.proofs.Common.{◌∙◌, Bool, cond, sym, ap, Some, None}
use Rattle.std.specs.Str.{bytes_eq}
use Rattle.catalogue.specs.Versions.{is_below}
use Rattle.catalogue.proofs.KeyLemmas.{IsOrder-versions, VersionLaws}
use Rattle.values.proofs.OrderedLemmas.{position-at_place}
use Rattle.catalogue.specs.Lookups.{place_of}
use Rattle.catalogue.specs.declared.content.Release.{Release}
use Rattle.catalogue.proofs.lookup.index_of_release.Goals as goal

pub returns-then-has_release : goal.returns-then-has_release
returns-then-has_release c =
    let key = λ (release : Release). release.version in
    let version = c.args.version.now in
    let xs = c.args.releases.now in
    let laws : VersionLaws = record {
      irreflexive = c.order.ensures.irreflexive;
      transitive = c.order.ensures.transitive;
      total = c.order.ensures.total;
    } in
    let there = sym c.has_release.ensures ∙ c.if-has_release.true in
    ap Some c.place_of.ensures.value
    ∙ sym (position-at_place is_below bytes_eq key (IsOrder-versions laws) version xs c.requires
    ∙ ap (λ (b : Bool). cond b (Some (place_of version xs)) None) there)

pub returns-else-has_release : goal.returns-else-has_release
returns-else-has_release c =
    let key = λ (release : Release). release.version in
    let version = c.args.version.now in
    let xs = c.args.releases.now in
    let laws : VersionLaws = record {
      irreflexive = c.order.ensures.irreflexive;
      transitive = c.order.ensures.transitive;
      total = c.order.ensures.total;
    } in
    let absent = sym c.has_release.ensures ∙ c.if-has_release.false in
    sym (position-at_place is_below bytes_eq key (IsOrder-versions laws) version xs c.requires
    ∙ ap (λ (b : Bool). cond b (Some (place_of version xs)) None) absent)
