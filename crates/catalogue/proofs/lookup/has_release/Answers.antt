use Rattle.std.proofs.Common.{◌∙◌, sym, ap, refl, length, false, Option}
use Rattle.std.specs.List.{slice_get}
use Rattle.std.specs.Option.{option_map_or}
use Rattle.std.proofs.lemmas.Option.{slice_get_past, slice_get_read}
use Rattle.std.specs.Str.{bytes_eq}
use Rattle.catalogue.specs.Versions.{is_below}
use Rattle.catalogue.proofs.KeyLemmas.{IsOrder-versions, VersionLaws}
use Rattle.values.proofs.OrderedLemmas.{has_in-at_place}
use Rattle.catalogue.specs.Lookups.{is_release}
use Rattle.catalogue.specs.declared.content.Release.{Release}
use Rattle.catalogue.proofs.lookup.has_release.Goals as goal

pub returns-in-Some : goal.returns-in-Some
returns-in-Some c =
    let key = λ (release : Release). release.version in
    let version = c.args.version.now in
    let xs = c.args.releases.now in
    let laws : VersionLaws = record {
      irreflexive = c.order.ensures.irreflexive;
      transitive = c.order.ensures.transitive;
      total = c.order.ensures.total;
    } in
    let item = c.in-Some.ensures.lookup in
    let there = ap (slice_get xs) (sym c.place_of.ensures.value)
    ∙ slice_get_read xs (length xs) c.place_of.result c.in-Some.release.now refl item.3.0 item.1 in
    c.is_equal.ensures.tested
    ∙ sym (has_in-at_place is_below bytes_eq key (IsOrder-versions laws) version xs c.requires
    ∙ ap (λ (o : Option Release). option_map_or (is_release version) o false) there)

pub returns-in-None : goal.returns-in-None
returns-in-None c =
    let key = λ (release : Release). release.version in
    let version = c.args.version.now in
    let xs = c.args.releases.now in
    let laws : VersionLaws = record {
      irreflexive = c.order.ensures.irreflexive;
      transitive = c.order.ensures.transitive;
      total = c.order.ensures.total;
    } in
    let past = ap (slice_get xs) (sym c.place_of.ensures.value)
    ∙ slice_get_past xs c.place_of.result c.in-None.ensures.lookup.3 in
    sym (has_in-at_place is_below bytes_eq key (IsOrder-versions laws) version xs c.requires
    ∙ ap (λ (o : Option Release). option_map_or (is_release version) o false) past)
