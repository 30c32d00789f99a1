use Rattle.std.proofs.Common.{◌≡◌, ℕ, Option, ap, ◌+◌, ◌||◌, ◌∙◌, sym, subst, arith}
use Rattle.quotes.proofs.OutsideLemmas.{HasLooked, HasLooked-next}
use Rattle.quotes.proofs.WindowLemmas.{HasLooked-start, IsBest-blocked, IsBest-end, no_stone_more}
use Rattle.quotes.specs.Outside.{best_with, is_stone_above, sum_into}
use Rattle.catalogue.specs.Versions.{is_below}
use Rattle.quotes.proofs.outside.find_best.Goals.{in-Some, in_default, then-release+else-blocked, else-release}
use Rattle.quotes.specs.declared.outside.Best.{Best}
use Rattle.quotes.proofs.outside.find_best.Goals as goal

pub loop-to-init : goal.loop-to-init
loop-to-init c =
    let visitor = c.args.visitor.now in
    let window = c.find_window-start.ensures in (
      HasLooked-start c.args.releases.now visitor.cohort.now visitor.key.now visitor.target visitor.version c.args.rows.now
          c.find_window-start.result.start c.find_window-start.result.end window,
      window.begins,
    )

pub returns-then-not-falls : goal.returns-then-not-falls
returns-then-not-falls c =
    let releases = c.args.releases.now in
    let visitor = c.args.visitor.now in
    let rows = c.args.rows.now in
    let sums = sum_into releases visitor.cohort.now visitor.key.now visitor.target visitor.version rows in
    let ends = c.find_window-start.ensures.ends in
    let inside = c.loop-to-test.true in
    let looked =
    HasLooked-next c.order.ensures.irreflexive c.order.ensures.transitive releases c.requires.ascending
    visitor.cohort.now visitor.key.now visitor.target visitor.version rows
    c.loop-to.to c.index-releases-to.result c.loop-to.best (best_with c.loop-to.best c.loop-to.to c.next_sum.result) c.loop-to.blocked
    (omega arith) c.index-releases-to.is c.loop-to.invariant.0
    (c.next_sum.ensures sums c.loop-to.to) in
    let chosen : best_with c.loop-to.best c.loop-to.to c.next_sum.result ≡ c.match-next_sum.best =
    elim c.match-next_sum.branch [
      | in-Some w ↦ ap (λ (sum : Option ℕ). best_with c.loop-to.best c.loop-to.to sum) w.in-Some.is ∙ sym w.best-is
      | in_default w ↦ ap (λ (sum : Option ℕ). best_with c.loop-to.best c.loop-to.to sum) w.in_default.is ∙ sym w.best-is
    ] in
    let kept =
    subst (λ (best : Option Best). HasLooked releases visitor.cohort.now visitor.key.now visitor.target visitor.version rows (c.loop-to.to + 1) best (c.loop-to.blocked || is_stone_above visitor.version c.index-releases-to.result))
    chosen looked in
    let passed =
    subst (λ blocked. HasLooked releases visitor.cohort.now visitor.key.now visitor.target visitor.version rows (c.loop-to.to + 1) c.match-next_sum.best blocked)
    (sym c.is_blocked_by-blocked.ensures ∙ c.if-blocked.true) kept in
    IsBest-blocked releases visitor.cohort.now visitor.key.now visitor.target visitor.version rows
    c.order.ensures.irreflexive c.order.ensures.transitive c.requires.ascending (c.loop-to.to + 1) c.match-next_sum.best
    (omega arith) (sym c.may_fall-falls.ensures ∙ c.if-not-falls.true) passed

pub loop-to-preserved : goal.loop-to-preserved
loop-to-preserved c =
    let releases = c.args.releases.now in
    let visitor = c.args.visitor.now in
    let rows = c.args.rows.now in
    let release = c.index-releases-to.result in
    let sums = sum_into releases visitor.cohort.now visitor.key.now visitor.target visitor.version rows in
    let ends = c.find_window-start.ensures.ends in
    let inside = c.loop-to-test.true in
    let looked =
    HasLooked-next c.order.ensures.irreflexive c.order.ensures.transitive releases c.requires.ascending
    visitor.cohort.now visitor.key.now visitor.target visitor.version rows
    c.loop-to.to release c.loop-to.best (best_with c.loop-to.best c.loop-to.to c.next_sum.result) c.loop-to.blocked
    (omega arith) c.index-releases-to.is c.loop-to.invariant.0
    (c.next_sum.ensures sums c.loop-to.to) in
    let chosen : best_with c.loop-to.best c.loop-to.to c.next_sum.result ≡ c.match-next_sum.best =
    elim c.match-next_sum.branch [
      | in-Some w ↦ ap (λ (sum : Option ℕ). best_with c.loop-to.best c.loop-to.to sum) w.in-Some.is ∙ sym w.best-is
      | in_default w ↦ ap (λ (sum : Option ℕ). best_with c.loop-to.best c.loop-to.to sum) w.in_default.is ∙ sym w.best-is
    ] in
    let kept =
    subst (λ (best : Option Best). HasLooked releases visitor.cohort.now visitor.key.now visitor.target visitor.version rows (c.loop-to.to + 1) best (c.loop-to.blocked || is_stone_above visitor.version c.index-releases-to.result))
    chosen looked in
    let same : (c.loop-to.blocked || is_stone_above visitor.version release) ≡ c.if-release.blocked =
    elim c.if-release.branch [
      | then-release+else-blocked w ↦ sym w.is_blocked_by-blocked.ensures ∙ sym w.blocked-is
      | else-release w ↦
          no_stone_more c.loop-to.blocked release.stone (is_below visitor.version release.version) w.if-release.false
          ∙ sym w.blocked-is
    ] in (
      subst (λ blocked. HasLooked releases visitor.cohort.now visitor.key.now visitor.target visitor.version rows (c.loop-to.to + 1) c.match-next_sum.best blocked)
          same kept,
      omega arith,
    )

pub returns : goal.returns
returns c =
    let visitor = c.args.visitor.now in
    let over = c.loop-to-test.false in
    IsBest-end c.args.releases.now visitor.cohort.now visitor.key.now visitor.target visitor.version c.args.rows.now
    c.find_window-start.result.start c.find_window-start.result.end c.loop-to.to c.loop-to.best c.loop-to.blocked
    c.find_window-start.ensures (omega arith) c.loop-to.invariant.1 c.loop-to.invariant.0
