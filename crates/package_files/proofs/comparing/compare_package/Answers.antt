use Rattle.std.proofs.Common.{List, ℕ, None, Option, sym, subst}
use Rattle.std.proofs.lemmas.List.{append-nil}
use Rattle.package_files.specs.Findings.{IsFound}
use Rattle.package_files.specs.declared.finding.Mismatch.{Mismatch}
use Rattle.package_files.proofs.FindingLemmas.{Adds-one}
use Rattle.package_files.proofs.comparing.compare_package.Goals as goal

pub returns-in-Ok-None : goal.returns-in-Ok-None
returns-in-Ok-None g c =
    let opens = g.P.OpenPackages.opens c.args.packages.now in
    let reads = g.P.Packages.reads c.args.packages.now in
    Adds-one opens reads c.args.name.now c.args.declared None c.args.findings.now c.args.findings.now
    (subst (λ (name : List ℕ). IsFound (opens name) (reads name) c.args.declared None) c.as_bytes.ensures.value
    (subst (λ (differs : Option Mismatch). IsFound (opens c.as_bytes.result.now) (reads c.as_bytes.result.now) c.args.declared differs) c.in-Ok-None.field-0-is c.in-Ok-None.ensures))
    (sym (append-nil c.args.findings.now))
