use Rattle.std.proofs.Common.{◌∙◌, refl}
use Rattle.access_logs.proofs.RingLemmas.{all-after, all-same}
use Rattle.access_logs.proofs.RoundLemmas.{HaveLogged-next}
use Rattle.access_logs.proofs.queues.writer.LogWriter.write_all.Goals as goal

pub loop-init : goal.loop-init
loop-init g c = record { next = tt; finite = tt; logged = (0, (refl, refl, refl)); out = refl; same = all-same c.args.self.now.ends }

pub loop-preserved-then-write_now : goal.loop-preserved-then-write_now
loop-preserved-then-write_now g c =
    let output = g.W.WriteWhole.output in
    record {
      next = tt;
      finite = tt;
      logged =
          HaveLogged-next c.args.self.now.received c.loop.self.received c.write_now.new.self.received
          (output c.args.page.now.out.now) (output c.loop.page.out.now) (output c.write_now.new.page.out.now)
          c.args.page.now.is_cut c.loop.page.is_cut c.write_now.new.page.is_cut c.loop.invariant.logged
          c.write_now.ensures.written;
      out = c.write_now.ensures.out ∙ c.loop.invariant.out;
      same =
          all-after c.args.self.now.ends c.loop.self.ends c.write_now.new.self.ends c.loop.invariant.same
          c.write_now.ensures.same;
    }

pub loop-preserved : goal.loop-preserved
loop-preserved g c =
    let output = g.W.WriteWhole.output in
    record {
      next = tt;
      finite = tt;
      logged =
          HaveLogged-next c.args.self.now.received c.loop.self.received c.write_now.new.self.received
          (output c.args.page.now.out.now) (output c.loop.page.out.now) (output c.write_now.new.page.out.now)
          c.args.page.now.is_cut c.loop.page.is_cut c.write_now.new.page.is_cut c.loop.invariant.logged
          c.write_now.ensures.written;
      out = c.write_now.ensures.out ∙ c.loop.invariant.out;
      same =
          all-after c.args.self.now.ends c.loop.self.ends c.write_now.new.self.ends c.loop.invariant.same
          c.write_now.ensures.same;
    }

pub returns-then-is_over-clause-written : goal.returns-then-is_over-clause-written
returns-then-is_over-clause-written g c =
    let output = g.W.WriteWhole.output in
    HaveLogged-next c.args.self.now.received c.loop.self.received c.write_now.new.self.received
    (output c.args.page.now.out.now) (output c.loop.page.out.now) (output c.write_now.new.page.out.now)
    c.args.page.now.is_cut c.loop.page.is_cut c.write_now.new.page.is_cut c.loop.invariant.logged c.write_now.ensures.written

pub returns-then-is_over-clause-same : goal.returns-then-is_over-clause-same
returns-then-is_over-clause-same g c =
    all-after c.args.self.now.ends c.loop.self.ends c.write_now.new.self.ends c.loop.invariant.same c.write_now.ensures.same
