use Rattle.package_files.proofs.comparing.compare_edit.Goals as goal

pub returns-in-AddRelease : goal.returns-in-AddRelease
returns-in-AddRelease g c =
    rw c.in-AddRelease.is
    (rw c.as_str-name.ensures at (rw c.as_str.ensures at (rw c.declared_as-declared.ensures at c.compare_package.ensures)))

pub returns-in-AddDiff : goal.returns-in-AddDiff
returns-in-AddDiff g c =
    rw c.in-AddDiff.is
    (rw c.as_str-name-in-AddDiff.ensures
    at (rw c.as_str-in-AddDiff.ensures at (rw c.declared_as-declared-in-AddDiff.ensures at c.compare_package-in-AddDiff.ensures)))
