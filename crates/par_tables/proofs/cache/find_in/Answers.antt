use Rattle.std.proofs.Common.{sym, ap, ◌∙◌}
use Rattle.std.specs.Option.{option_copied}
use Rattle.par_tables.specs.Caches.{tables_among}
use Rattle.par_tables.proofs.CacheLemmas.{All-promoted, Contains-found, IfSome-copied}
use Rattle.par_tables.proofs.cache.find_in.Goals as goal

pub returns-then-not-promote-clause-kept : goal.returns-then-not-promote-clause-kept
returns-then-not-promote-clause-kept c = All-promoted _ c.args.entries.now c.promote.new.self c.promote.ensures.entries

pub returns-in_err-peek-clause-kept : goal.returns-in_err-peek-clause-kept
returns-in_err-peek-clause-kept c = All-promoted _ c.args.entries.now c.promote.new.self c.promote.ensures.entries

pub returns-clause-kept : goal.returns-clause-kept
returns-clause-kept c = All-promoted _ c.args.entries.now c.promote.new.self c.promote.ensures.entries

pub returns-clause-found : goal.returns-clause-found
returns-clause-found c =
    let entries = c.args.entries.now in
    let table = c.in_ok-peek.field-0.now in
    IfSome-copied (tables_among entries.entries) c.args.key.now table c.copy_of.result c.copy_of.ensures.same c.copy_of.ensures.key
    (Contains-found _ entries c.promote.new.self c.promote.ensures.entries table
    (sym c.peek.ensures ∙ ap option_copied c.in_ok-peek.was))
