use Rattle.std.proofs.Common.{◌∙◌, refl, sym, ap, arith}
use Rattle.http_ports.specs.Books.{slots_after}
use Rattle.systems.proofs.PlaceLemmas.{all_free}
use Rattle.systems.proofs.mio_ports.waiting.MioPortPort.wait.Goals as goal

-- src/waiting.rt:70:17
pub returns-then-is_done-clause-reports : goal.returns-then-is_done-clause-reports
returns-then-is_done-clause-reports g c =
    let same = c.in_default.ensures.same ∙ c.loop.invariant.0 in
    let book = c.report.new.self.book in
    let none = all_free book.places.items (slots_after book.moves) book.tied
    (λ k below. c.if-is_done.ensures.idle refl k (omega (arith, below, book.places.ok))) in
    (λ k. sym (ap (λ b. (slots_after b.moves k).current) same) ∙ none k, λ k. ap (λ b. slots_after b.moves k) same)
