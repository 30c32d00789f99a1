use Rattle.std.proofs.Common.{sym, ◌∙◌}
use Rattle.http_ports.proofs.KeptLemmas.{kept_at-is-get_or, kept_at-set-elsewhere, kept_at-set-here}
use Rattle.http_ports.proofs.table.swap.Goals as goal

pub returns-clause-took : goal.returns-clause-took
returns-clause-took g c =
    c.replace.ensures.value ∙ sym (kept_at-is-get_or c.args.items.now c.args.slot c.index-items-slot.result c.requires)

pub returns-clause-put : goal.returns-clause-put
returns-clause-put g c =
    kept_at-set-here c.args.items.now c.args.slot c.replace.new.dest c.requires ∙ c.replace.ensures.after

pub returns-clause-elsewhere : goal.returns-clause-elsewhere
returns-clause-elsewhere g c = λ k other.
    kept_at-set-elsewhere c.args.items.now c.args.slot c.replace.new.dest k other
