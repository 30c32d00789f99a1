use Rattle.std.proofs.Common.{◌≡◌, ◌∙◌, ◌+◌, ◌&&◌, ℕ, Bool, ap, if◌then◌else◌, is_some, not, sym}
use Rattle.http_ports.specs.Speech.{one_if}
use Rattle.server_ports.proofs.OutletLemmas.{fit-by}
use Rattle.server_ports.proofs.PageLemmas.{both-some}
use Rattle.server_ports.proofs.logging.open_outlets.Goals as goal

pub part_lines-requires-clause-fit : goal.part_lines-requires-clause-fit
part_lines-requires-clause-fit g c κs within =
    fit-by c.args.setup.now.place.now _ _ _ _
    (both-some (λ page writing. writing.page ≡ page) c.take-2.result c.in_ok-here.here.writing c.in_ok-here.ensures.page ∙ ap is_some c.take-2.ensures.value)
    (both-some (λ page writing. writing.page ≡ page) c.take.result c.in_ok-filed.filed.writing c.in_ok-filed.ensures.page ∙ ap is_some c.take.ensures.value)
    c.requires.fit

pub part_lines-requires-clause-is_here : goal.part_lines-requires-clause-is_here
part_lines-requires-clause-is_here g c κs within =
    c.is_on_errors-is_here.ensures ∙ ap (λ (b : Bool). is_some c.args.setup.now.place.now.log && not b) c.is_some.ensures

pub part_lines-requires-clause-filed : goal.part_lines-requires-clause-filed
part_lines-requires-clause-filed g c κs within =
    let has = both-some (λ page writing. writing.page ≡ page) c.take.result c.in_ok-filed.filed.writing c.in_ok-filed.ensures.page in
    c.in_ok-filed.ensures.many
    ∙ ap (λ (b : Bool). if b then c.count_ports.result else 0) (sym has)
    ∙ ap (λ (n : ℕ). if is_some c.in_ok-filed.filed.writing then n else 0) c.count_ports.ensures

pub part_lines-requires-clause-here : goal.part_lines-requires-clause-here
part_lines-requires-clause-here g c κs within =
    let place = c.args.setup.now.place.now in
    let ports = place.workers + one_if (is_some place.operator) in
    let on = c.is_on_errors-is_here.result in
    let has = both-some (λ page writing. writing.page ≡ page) c.take-2.result c.in_ok-here.here.writing c.in_ok-here.ensures.page in
    c.in_ok-here.ensures.many
    ∙ ap (λ (b : Bool). if b then c.with_one-count.result else 0) (sym has)
    ∙ ap (λ (n : ℕ). if is_some c.in_ok-here.here.writing then n else 0)
    (c.with_one-count.ensures ∙ ap (λ (n : ℕ). n + one_if c.is_some-2.result) c.count_ports-2.ensures
    ∙ ap (λ (b : Bool). (if on then ports else 0) + one_if b) c.is_some-2.ensures)
