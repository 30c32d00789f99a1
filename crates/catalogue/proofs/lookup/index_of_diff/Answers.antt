use Rattle.std.proofs.Common.{◌∙◌, Bool, cond, sym, ap, Some, None}
use Rattle.catalogue.proofs.KeyLemmas.{IsOrder-pairs, VersionLaws}
use Rattle.values.proofs.OrderedLemmas.{position-at_place}
use Rattle.catalogue.specs.Lookups.{Pair, is_pair_below, pair_of, place_of_pair, same_pair}
use Rattle.catalogue.specs.declared.content.Diff.{Diff}
use Rattle.catalogue.proofs.lookup.index_of_diff.Goals as goal

pub returns-then-has_diff : goal.returns-then-has_diff
returns-then-has_diff c =
    let key = λ (diff : Diff). pair_of diff in
    let pair : Pair = (c.args.from.now, c.args.to.now) in
    let xs = c.args.diffs.now in
    let laws : VersionLaws = record {
      irreflexive = c.order.ensures.irreflexive;
      transitive = c.order.ensures.transitive;
      total = c.order.ensures.total;
    } in
    let there = sym c.has_diff.ensures ∙ c.if-has_diff.true in
    ap Some c.place_of_pair.ensures.value
    ∙ sym (position-at_place is_pair_below same_pair key (IsOrder-pairs laws) pair xs c.requires
    ∙ ap (λ (b : Bool). cond b (Some (place_of_pair pair xs)) None) there)

pub returns-else-has_diff : goal.returns-else-has_diff
returns-else-has_diff c =
    let key = λ (diff : Diff). pair_of diff in
    let pair : Pair = (c.args.from.now, c.args.to.now) in
    let xs = c.args.diffs.now in
    let laws : VersionLaws = record {
      irreflexive = c.order.ensures.irreflexive;
      transitive = c.order.ensures.transitive;
      total = c.order.ensures.total;
    } in
    let absent = sym c.has_diff.ensures ∙ c.if-has_diff.false in
    sym (position-at_place is_pair_below same_pair key (IsOrder-pairs laws) pair xs c.requires
    ∙ ap (λ (b : Bool). cond b (Some (place_of_pair pair xs)) None) absent)
