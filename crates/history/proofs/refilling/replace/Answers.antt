use Rattle.std.proofs.Common.{[], ◌∷◌, subst, sym}
use Rattle.kept_records.specs.Keeping.{record_of}
use Rattle.kept_records.specs.declared.record.Kind.TheVariants.{Profile}
use Rattle.sqlite.specs.Held.{state}
use Rattle.sqlite.specs.Tree.{Trees}
use Rattle.history.proofs.ChecksumLemmas.{HasChecksum-only}
use Rattle.history.proofs.HistoryLemmas.{CrashLeaves-then, history_committed}
use Rattle.history.specs.Holdings.{Holds}
use Rattle.history.proofs.refilling.replace.Goals as goal

pub returns-clause-done : goal.returns-clause-done
returns-clause-done g c clean =
    let only = record_of Profile c.args.bytes.now in
    let early = c.seal.ensures.leaves.clean clean in
    let before = c.in_ok-commit.ensures.leaves.clean early in
    c.seal.ensures.keeps clean c.args.number (only ∷ []) (HasChecksum-only c.args.number only c.args.sum.now c.requires.sum)
    (history_committed (state g.S.Store c.refill.new.conn) (state g.S.Store c.commit.new.conn) c.args.number (only ∷ [])
    (c.in_ok-refill.ensures.inside before) (c.in_ok-commit.ensures.done early))

pub returns-clause-leaves : goal.returns-clause-leaves
returns-clause-leaves g c =
    let old = state g.S.Store c.args.conn.now in
    let begun = state g.S.Store c.begin.new.conn in
    let filled = state g.S.Store c.refill.new.conn in
    let done = state g.S.Store c.commit.new.conn in
    let only = record_of Profile c.args.bytes.now in
    let P : Trees → Type 0 = λ db. Holds db c.args.number (only ∷ []) in
    CrashLeaves-then old done (state g.S.Store c.seal.new.conn) P _ P
    (CrashLeaves-then old filled done (λ _. ⊥) _ P
    (CrashLeaves-then old begun filled (λ _. ⊥) (λ _. ⊥) (λ _. ⊥) c.in_ok-begin.ensures.leaves c.in_ok-refill.ensures.leaves (λ early db made. made) (λ early db made. made))
    c.in_ok-commit.ensures.leaves
    (λ early db made. absurd made)
    (λ early db made. subst (λ trees. Holds trees c.args.number (only ∷ [])) (sym made) (c.in_ok-refill.ensures.inside early).holds))
    c.seal.ensures.leaves
    (λ early db made. made)
    (λ early db made. made c.args.number (only ∷ []) (HasChecksum-only c.args.number only c.args.sum.now c.requires.sum)
    (history_committed filled done c.args.number (only ∷ []) (c.in_ok-refill.ensures.inside (c.in_ok-commit.ensures.leaves.clean early)) (c.in_ok-commit.ensures.done early)).holds)
