use Rattle.std.proofs.Common.{inl, inr, refl, subst, ap, ◌∙◌}
use Rattle.http_wire.specs.Heads.{HeadFound}
use Rattle.http_wire.specs.declared.head.Head.TheVariants as head
use Rattle.http_sessions.specs.Stops.{end_with}
use Rattle.http_sessions.proofs.ReadingLemmas.{Reads-then, Reads-window, long_window, never_window, ok_head}
use Rattle.http_sessions.proofs.message.read_message.Goals as goal

pub returns-in-Ok-Whole-clause-reads : goal.returns-in-Ok-Whole-clause-reads
returns-in-Ok-Whole-clause-reads g c =
    Reads-then _ _ _ c.args.window.now c.read_head-head.new.window c.take_message.new.window c.take_message.new.target
    c.take_message.new.body c.take_message.result c.read_head-head.ensures.came c.take_message.ensures.reads

pub returns-in-Ok-Ended-clause-reads : goal.returns-in-Ok-Ended-clause-reads
returns-in-Ok-Ended-clause-reads g c =
    let (part, ended) = subst (HeadFound (g.S.Source.remaining c.read_head-head.new.source) c.read_head-head.new.window c.read_head-head.new.fields)
    (ok_head c.read_head-head.result c.in-Ok-Ended.field-0 head.Ended c.in-Ok-Ended.is (rw c.in-Ok-Ended.is at c.in-Ok-Ended.field-0-is)) c.read_head-head.ensures.found in
    Reads-window _ _ c.args.window.now c.read_head-head.new.window _ _ _ _ c.read_head-head.ensures.came
    (inl part, ended, c.end_of_input.ensures ∙ ap end_with c.bytes-left.ensures.value)

pub returns-in-Ok-Bad-clause-reads : goal.returns-in-Ok-Bad-clause-reads
returns-in-Ok-Bad-clause-reads g c =
    let never = subst (HeadFound (g.S.Source.remaining c.read_head-head.new.source) c.read_head-head.new.window c.read_head-head.new.fields)
    (ok_head c.read_head-head.result c.in-Ok-Bad.field-0 head.Bad c.in-Ok-Bad.is (rw c.in-Ok-Bad.is at c.in-Ok-Bad.field-0-is)) c.read_head-head.ensures.found in
    Reads-window _ _ c.args.window.now c.read_head-head.new.window _ _ _ _ c.read_head-head.ensures.came
    (inl (refl, never_window c.read_head-head.new.window c.bytes-left.ensures.bound never))

pub returns-in-Ok-Long-clause-reads : goal.returns-in-Ok-Long-clause-reads
returns-in-Ok-Long-clause-reads g c =
    let long = subst (HeadFound (g.S.Source.remaining c.read_head-head.new.source) c.read_head-head.new.window c.read_head-head.new.fields)
    (ok_head c.read_head-head.result c.in-Ok-Long.field-0 head.Long c.in-Ok-Long.is (rw c.in-Ok-Long.is at c.in-Ok-Long.field-0-is)) c.read_head-head.ensures.found in
    Reads-window _ _ c.args.window.now c.read_head-head.new.window _ _ _ _ c.read_head-head.ensures.came
    (inr (inl (refl, long_window c.read_head-head.new.window long)))

pub returns-in-Err-clause-reads : goal.returns-in-Err-clause-reads
returns-in-Err-clause-reads g c =
    let part = rw c.in-Err.is at c.read_head-head.ensures.found in
    Reads-window _ _ c.args.window.now c.read_head-head.new.window _ _ _ _ c.read_head-head.ensures.came (inl part)
