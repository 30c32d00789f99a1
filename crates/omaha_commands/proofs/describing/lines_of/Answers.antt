use Rattle.std.proofs.Common.{◌++◌, ◌∙◌, ℕ, List, Ok, Err, ap, string_bytes, subst}
use Rattle.package_files.specs.Paths.{IsDescribed}
use Rattle.omaha_commands.proofs.DescriptionLemmas.{AreDescribed-item, IsFound-stop}
use Rattle.omaha_commands.proofs.describing.lines_of.Goals as goal

pub returns-in-Err-clause-err : goal.returns-in-Err-clause-err
returns-in-Err-clause-err g c =
    let storage = g.R.Folders.storage c.args.rt.now in
    let P : List ℕ → Type 0 = λ path. IsDescribed storage path (Err c.in-Err.reason) in
    IsFound-stop storage c.args.paths.now c.loop-path.path-index c.path-item.result (string_bytes c.loop-path.lines) c.in-Err.reason c.failure_at.result
    c.loop-path-test.true c.path-item.is c.loop-path.invariant (subst P c.as_str.ensures c.in-Err.ensures.err) c.failure_at.ensures

pub loop-path-preserved : goal.loop-path-preserved
loop-path-preserved g c =
    let storage = g.R.Folders.storage c.args.rt.now in
    let before = string_bytes c.loop-path.lines in
    let P : List ℕ → Type 0 = λ path. IsDescribed storage path (Ok (string_bytes c.in-Ok.text)) in
    AreDescribed-item storage c.args.paths.now c.loop-path.path-index c.path-item.result before (string_bytes c.in-Ok.text) (string_bytes c.push_str.new.self)
    c.loop-path-test.true c.path-item.is c.loop-path.invariant (subst P c.as_str.ensures c.in-Ok.ensures.ok)
    (c.in_ok-push_str-in-Ok.ensures.bytes ∙ ap (λ (it : List ℕ). before ++ it) c.as_str-in-Ok.ensures.value)
