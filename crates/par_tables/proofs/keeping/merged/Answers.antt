use Rattle.std.proofs.Common.{ℕ, ◌+◌, List, [], ◌∷◌, cond, length, take, sym, ap, ◌∙◌, subst, arith}
use Rattle.std.specs.List.{All, filter}
use Rattle.std.proofs.lemmas.List.{take_all}
use Rattle.payload_graph.specs.declared.payload.TrackKey.{TrackKey}
use Rattle.par_tables.proofs.BuiltLemmas.{IsNext-built, length-marked_more}
use Rattle.par_tables.proofs.ListingLemmas.{Adds-more}
use Rattle.par_tables.proofs.OwnLemmas.{All-tracks}
use Rattle.par_tables.proofs.TargetLemmas.{AreTables-tracks}
use Rattle.par_tables.specs.Marks.{is_marked, IsNext, IsTrack}
use Rattle.par_tables.specs.Pieces.{HasTarget}
use Rattle.par_tables.specs.Tables.{Adds}
use Rattle.par_tables.proofs.keeping.merged.Goals as goal

pub source_of-table-requires-clause-next : goal.source_of-table-requires-clause-next
source_of-table-requires-clause-next c =
    let apps = c.args.made.now in
    let marks = c.args.marks.now in
    let listed = c.as_slice-listed.result.now in
    let all : All (HasTarget apps) listed = subst (All (HasTarget apps)) (sym c.as_slice-listed.ensures.value) c.in_ok-keys.ensures.targets in
    subst (IsNext apps marks c.args.built.now c.loop-key.next) (sym c.key-item.is)
    (IsNext-built apps marks listed c.args.built.now c.loop-key.key-index c.loop-key.next c.key-item.result c.requires.built
    (c.as_slice-listed.ensures.value ∙ c.in_ok-keys.ensures.value) all c.loop-key-test.true c.loop-key.invariant.counted)

pub source_of-table-requires-clause-track : goal.source_of-table-requires-clause-track
source_of-table-requires-clause-track c =
    let apps = c.args.made.now in
    let all = subst (All (IsTrack apps)) (sym (c.as_slice-listed.ensures.value ∙ c.in_ok-keys.ensures.value)) (All-tracks apps) in
    subst (IsTrack apps) (sym c.key-item.is) (all c.loop-key.key-index c.key-item.result c.loop-key-test.true)

pub index_after-next-requires : goal.index_after-next-requires
index_after-next-requires c =
    let apps = c.args.made.now in
    let marks = c.args.marks.now in
    let listed = c.as_slice-listed.result.now in
    let all : All (HasTarget apps) listed = subst (All (HasTarget apps)) (sym c.as_slice-listed.ensures.value) c.in_ok-keys.ensures.targets in
    λ marked.
    (subst (IsNext apps marks c.args.built.now c.loop-key.next) (sym c.key-item.is)
    (IsNext-built apps marks listed c.args.built.now c.loop-key.key-index c.loop-key.next c.key-item.result c.requires.built
    (c.as_slice-listed.ensures.value ∙ c.in_ok-keys.ensures.value) all c.loop-key-test.true c.loop-key.invariant.counted) marked).0

pub loop-key-preserved : goal.loop-key-preserved
loop-key-preserved c =
    let marks = c.args.marks.now in
    let listed = c.as_slice-listed.result.now in
    let index = c.loop-key.key-index in
    let key = c.key-item.result in
    record {
      adds =
          Adds-more c.args.made.now listed index key [] c.loop-key.merged.items c.push_copy.new.tables.items c.loop-key-test.true
          c.loop-key.invariant.adds
          (subst (λ (k : TrackKey). Adds c.args.made.now (k ∷ []) c.loop-key.merged.items c.push_copy.new.tables.items) c.key-item.is c.in_ok-push_copy.ensures);
      counted =
          c.index_after-next.ensures
          ∙ ap (λ (n : ℕ). n + cond (is_marked marks key) 1 0) c.loop-key.invariant.counted
          ∙ ap (λ (k : TrackKey). length (filter (is_marked marks) (take index listed)) + cond (is_marked marks k) 1 0) c.key-item.is
          ∙ sym (length-marked_more marks listed index key c.loop-key-test.true);
    }

pub returns : goal.returns
returns c =
    let whole = take_all c.loop-key.key-index c.as_slice-listed.result.now (omega arith) in
    AreTables-tracks c.args.made.now c.as_slice-listed.result.now c.loop-key.merged.items
    (c.as_slice-listed.ensures.value ∙ c.in_ok-keys.ensures.value)
    (subst (λ (keys : List TrackKey). Adds c.args.made.now keys [] c.loop-key.merged.items) whole c.loop-key.invariant.adds)
