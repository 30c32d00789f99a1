use Rattle.std.proofs.Common.{◌≡◌, ◌++◌, string_bytes, take}
use Rattle.operator_pages.specs.Families.{cohort_samples}
use Rattle.operator_pages.proofs.families.push_cohort_samples.Given as goal

abbrev pub invariant-loop-app : goal.invariant-loop-app
invariant-loop-app l = string_bytes l.text ≡ string_bytes l.initial.text ++ cohort_samples l.metric (take l.app-index l.apps)
