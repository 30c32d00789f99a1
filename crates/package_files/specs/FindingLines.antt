-- How the findings of declared packages print; this project's profile.
use Rattle.std.specs.Prelude.{ℕ, List, ◌++◌, codes, flat_map}
use Rattle.package_files.specs.FindingStrings.{finding_string}
use Rattle.package_files.specs.declared.finding.Finding.{Finding}

-- the line of a finding
abbrev pub finding_line : Finding → List ℕ
finding_line finding = finding_string finding ++ codes "\n"

-- rule: Lines of findings
-- a line for each finding, in their order
abbrev pub findings_string : List Finding → List ℕ
findings_string findings = flat_map finding_line findings
