use Rattle.std.proofs.Common.{◌∙◌, ◌<◌, ℕ, List, length, sym, subst, inl, inr, arith}
use Rattle.http_memory.specs.Seats.{IsQuietAt}
use Rattle.http_memory.specs.declared.scripts.seat.Seat.{Seat}
use Rattle.http_memory.proofs.SlotLemmas.{below_or_last, quiet_at, set-same}
use Rattle.http_memory.proofs.scripts.script.Script.report_of.Goals as goal

pub loop-slot-preserved : goal.loop-slot-preserved
loop-slot-preserved c =
    let (same, len, terms, stopped, quiet) = c.loop-slot.invariant in
    let seats = c.loop-slot.self.seats.items in
    let at = c.loop-slot.slot in
    let seat = c.index_mut.result.now in
    let (is_quiet, unchanged) = c.in_default.ensures.quiet in
    let restored = set-same seats at seat c.report.new.self (unchanged ∙ c.index_mut.ensures.value) in
    let within : at < length seats = omega (arith, c.loop-slot-test.true, c.requires, len, c.loop-slot.self.seats.ok) in (
      restored ∙ same,
      len,
      terms,
      stopped,
      λ k first below. elim (below_or_last k at below) [
        | inl before ↦ quiet k first before
        | inr last ↦ subst (λ (j : ℕ). IsQuietAt c.args.patient c.args.self.now.seats.items j) (sym last)
            (subst (λ (s : List Seat). IsQuietAt c.args.patient s at) same
            (quiet_at seats at seat c.args.patient within c.index_mut.ensures.value is_quiet))
      ],
    )
