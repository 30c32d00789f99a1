use Rattle.std.proofs.Common.{None, Some, inr, sym, ◌∙◌}
use Rattle.package_files.proofs.DescriptionLemmas.{Describes-unopened, IsMeasured-named}
use Rattle.package_files.proofs.describing.describe.Goals as goal

pub returns-in-Err-clause-err : goal.returns-in-Err-clause-err
returns-in-Err-clause-err g c =
    Describes-unopened (g.P.OpenPackages.opens c.args.packages.now) (g.P.Packages.reads c.args.packages.now) c.as_bytes-bytes.result.now c.args.name.now c.in-Err.error
    c.as_bytes-bytes.ensures.value (sym c.is_package_name.ensures ∙ c.if-not-is_package_name.false) c.in-Err.ensures.err

pub returns-in_default-clause-err : goal.returns-in_default-clause-err
returns-in_default-clause-err g c =
    let unread =
    IsMeasured-named (g.P.OpenPackages.opens c.args.packages.now) (g.P.Packages.reads c.args.packages.now) c.as_bytes-bytes.result.now c.args.name.now c.in-Ok.size c.hash_package.result None
    c.as_bytes-bytes.ensures.value c.in_default.is c.in-Ok.ensures.ok c.hash_package.ensures in
    (sym c.is_package_name.ensures ∙ c.if-not-is_package_name.false, inr (c.in-Ok.size, unread))

pub returns-clause-ok : goal.returns-clause-ok
returns-clause-ok g c =
    let read =
    IsMeasured-named (g.P.OpenPackages.opens c.args.packages.now) (g.P.Packages.reads c.args.packages.now) c.as_bytes-bytes.result.now c.args.name.now c.in-Ok.size c.hash_package.result (Some c.in-Some.hash)
    c.as_bytes-bytes.ensures.value c.in-Some.is c.in-Ok.ensures.ok c.hash_package.ensures in
    (sym c.is_package_name.ensures ∙ c.if-not-is_package_name.false, (c.in-Ok.size, c.in-Some.hash, read, c.in_ok-write_lines.ensures))
