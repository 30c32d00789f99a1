use Rattle.std.proofs.Common.{◌≡◌, ◌∙◌, List, ℕ, refl, sym, ap, drop, take, arith}
use Rattle.http_desks.specs.Uses.{IsUse}
use Rattle.http_ports.specs.Traffic.{IsTime}
use Rattle.http_ports.specs.Speech.{Busy}
use Rattle.http_sessions.specs.Talks.{IsSending, phase_of}
use Rattle.http_sessions.specs.declared.talks.talk.Sending.{Sending}
use Rattle.http_sessions.specs.declared.talks.talk.Stage.{Stage}
use Rattle.http_sessions.specs.declared.talks.talk.Stage.TheVariants as stage
use Rattle.http_sessions.proofs.SendLemmas.{Said-cut, Said-full, Said-last}
use Rattle.http_sessions.proofs.TalkLemmas.{Said-lost, written_over}
use Rattle.http_sessions.proofs.talks.sending.send_on.Goals as goal

-- a package is sent
sends_none : (at : Stage) → IsSending at → ((sending : Sending) → at ≡ stage.Sends sending → ⊥) → ⊥
sends_none stage.Busy is never = absurd is
sends_none stage.Part is never = absurd is
sends_none (stage.Sends sending) is never = never sending refl
sends_none stage.Over is never = absurd is
sends_none stage.Failed is never = absurd is
sends_none stage.Lost is never = absurd is

busy_sending : (at : Stage) → IsSending at → phase_of at ≡ Busy
busy_sending stage.Busy is = absurd is
busy_sending stage.Part is = absurd is
busy_sending (stage.Sends sending) is = refl
busy_sending stage.Over is = absurd is
busy_sending stage.Failed is = absurd is
busy_sending stage.Lost is = absurd is

pub returns-in_default-clause-sends : goal.returns-in_default-clause-sends
returns-in_default-clause-sends g c = absurd (sends_none c.args.talk.now.stage c.requires.sends (rw c.replace-old.ensures.value at c.in_default.not-Sends))

pub returns-then-not-has_block-clause-sends : goal.returns-then-not-has_block-clause-sends
returns-then-not-has_block-clause-sends g c = λ path kind timestamps received sent calls said.
    Said-lost (IsUse path IsTime (g.Z.Packages.sizes c.args.site.now) (g.Z.Packages.reads c.args.site.now)) kind timestamps
    c.args.talk.now _ received sent calls (busy_sending c.args.talk.now.stage c.requires.sends) c.requires.none c.replace-old.ensures.after
    (ap (λ (bytes : List ℕ). drop 0 bytes) (c.if-not-has_block.ensures.none refl)) said

pub returns-in-Full-clause-sends : goal.returns-in-Full-clause-sends
returns-in-Full-clause-sends g c = λ path kind timestamps received sent calls said.
    Said-full path kind timestamps IsTime (g.Z.Packages.sizes c.args.site.now) (g.Z.Packages.reads c.args.site.now)
    c.args.talk.now c.in-Sends.sending received sent calls (sym c.in-Sends.ensures.value) c.requires.none said _ c.in-Full.next
    c.next.new.block (rw c.deref.ensures.value at c.in-Full.ensures.makes) c.in-Full.ensures.follows.0 refl refl refl
    (written_over c.make_block-has_block.new.made.len c.next.new.block _ (omega (arith, c.next.auto.block, c.deref_mut.ensures.len)))

pub returns-in-Last-clause-sends : goal.returns-in-Last-clause-sends
returns-in-Last-clause-sends g c = λ path kind timestamps received sent calls said.
    Said-last path kind timestamps IsTime (g.Z.Packages.sizes c.args.site.now) (g.Z.Packages.reads c.args.site.now)
    c.args.talk.now c.in-Sends.sending received sent calls (sym c.in-Sends.ensures.value) c.requires.none said _
    c.next.new.block c.in-Last.count c.in-Sends.sending.closes refl (rw c.deref.ensures.value at c.in-Last.ensures.makes)
    c.stage_after.ensures refl refl (ap (λ (bytes : List ℕ). drop 0 bytes) c.truncate.ensures.items ∙ ap (λ (bytes : List ℕ). take c.in-Last.count bytes)
    (written_over c.make_block-has_block.new.made.len c.next.new.block _ (omega (arith, c.next.auto.block, c.deref_mut.ensures.len))))

pub returns-in-Cut-clause-sends : goal.returns-in-Cut-clause-sends
returns-in-Cut-clause-sends g c = λ path kind timestamps received sent calls said.
    Said-cut path kind timestamps IsTime (g.Z.Packages.sizes c.args.site.now) (g.Z.Packages.reads c.args.site.now)
    c.args.talk.now c.in-Sends.sending received sent calls (sym c.in-Sends.ensures.value) c.requires.none said _
    c.next.new.block (rw c.deref.ensures.value at c.in-Cut.ensures.makes) refl
    (ap (λ (bytes : List ℕ). drop 0 bytes) c.clear-in-Cut.ensures.items)
