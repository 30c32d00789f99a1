use Rattle.std.proofs.Common.{◌≡◌, ◌-◌, ◌≤◌, ℕ, length, take, sym, ap, ◌∙◌, arith, length-take-le, take-take}
use Rattle.kept_records.proofs.storing.MemoryRecordsRecords.unread.Goals as goal

pub returns-clause-forgets : goal.returns-clause-forgets
returns-clause-forgets c =
    let old = c.args.self.now in
    let within : old.known ≤ length old.stored = search in
    let many : length (take old.known old.stored) ≡ old.known = length-take-le old.known old.stored within in
    sym (take-take (old.known - 1) old.known old.stored (omega arith))
    ∙ ap (λ (n : ℕ). take (n - 1) (take old.known old.stored)) (sym many)
