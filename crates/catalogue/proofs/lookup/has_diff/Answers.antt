use Rattle.std.proofs.Common.{◌∙◌, sym, ap, refl, length, false, Option}
use Rattle.std.specs.List.{slice_get}
use Rattle.std.specs.Option.{option_map_or}
use Rattle.std.proofs.lemmas.Option.{slice_get_past, slice_get_read}
use Rattle.catalogue.proofs.KeyLemmas.{IsOrder-pairs, VersionLaws}
use Rattle.values.proofs.OrderedLemmas.{has_in-at_place}
use Rattle.catalogue.specs.Lookups.{Pair, is_diff, is_pair_below, pair_of, same_pair}
use Rattle.catalogue.specs.declared.content.Diff.{Diff}
use Rattle.catalogue.proofs.lookup.has_diff.Goals as goal

pub returns-in-Some : goal.returns-in-Some
returns-in-Some c =
    let key = λ (diff : Diff). pair_of diff in
    let pair : Pair = (c.args.from.now, c.args.to.now) in
    let xs = c.args.diffs.now in
    let laws : VersionLaws = record {
      irreflexive = c.order.ensures.irreflexive;
      transitive = c.order.ensures.transitive;
      total = c.order.ensures.total;
    } in
    let item = c.in-Some.ensures.lookup in
    let there = ap (slice_get xs) (sym c.place_of_pair.ensures.value)
    ∙ slice_get_read xs (length xs) c.place_of_pair.result c.in-Some.diff.now refl item.3.0 item.1 in
    c.is_diff.ensures
    ∙ ap (is_diff pair) c.get-in-Some.ensures
    ∙ sym (has_in-at_place is_pair_below same_pair key (IsOrder-pairs laws) pair xs c.requires
    ∙ ap (λ (o : Option Diff). option_map_or (is_diff pair) o false) there)

pub returns-in-None : goal.returns-in-None
returns-in-None c =
    let key = λ (diff : Diff). pair_of diff in
    let pair : Pair = (c.args.from.now, c.args.to.now) in
    let xs = c.args.diffs.now in
    let laws : VersionLaws = record {
      irreflexive = c.order.ensures.irreflexive;
      transitive = c.order.ensures.transitive;
      total = c.order.ensures.total;
    } in
    let past = ap (slice_get xs) (sym c.place_of_pair.ensures.value)
    ∙ slice_get_past xs c.place_of_pair.result c.in-None.ensures.lookup.3 in
    sym (has_in-at_place is_pair_below same_pair key (IsOrder-pairs laws) pair xs c.requires
    ∙ ap (λ (o : Option Diff). option_map_or (is_diff pair) o false) past)
