-- The lines so far are those of the first findings.
use Rattle.std.proofs.Common.{◌≡◌, string_bytes, take}
use Rattle.package_files.specs.FindingLines.{findings_string}
use Rattle.package_files.proofs.findings.findings_string.Given as goal

abbrev pub invariant-loop-finding : goal.invariant-loop-finding
invariant-loop-finding l = string_bytes l.text ≡ findings_string (take l.finding-index l.findings)
