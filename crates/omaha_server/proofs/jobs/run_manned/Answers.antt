use Rattle.std.proofs.Common.{◌≡◌, arith, vec_len}
use Rattle.omaha_server.proofs.RunLemmas.{AreLogged-run, AreTotals-run}
use Rattle.omaha_server.proofs.jobs.run_manned.Goals as goal

pub returns-clause-ok : goal.returns-clause-ok
returns-clause-ok g c =
    let own = c.args.own.now in
    let manned = c.requires.manned in
    let valid = rw c.into_vec.ensures.list at c.into_vec.ensures.valid in
    let works = rw c.into_vec.ensures.list at c.run_with_tills-ran.ensures.works in
    let led = rw c.into_vec.ensures.list at c.run_with_tills-ran.ensures.own in
    let counted : vec_len c.args.jobs ≡ c.args.setup.now.place.now.workers = omega (arith, c.args.jobs.ok.0, manned.many) in
    AreTotals-run _ g.S.System.edges g.P.Port.terms g.P.Port.slots g.P.Port.accepted g.K.Records.first g.K.Records.kept c.args.setup.now c.args.mirrors
    c.args.jobs.items own _ c.run_with_tills-ran.result c.in_ok-ended.ended c.in_ok-run.run' valid manned
    (cc (manned.operates, counted)) works led c.in_ok-ended.ensures.ok c.in_ok-run.ensures.ok

pub returns-clause-replies : goal.returns-clause-replies
returns-clause-replies g c =
    let works = rw c.into_vec.ensures.list at c.run_with_tills-ran.ensures.works in
    let led = rw c.into_vec.ensures.list at c.run_with_tills-ran.ensures.own in
    (AreLogged-run _ g.S.System.edges g.P.Port.terms g.P.Port.slots g.P.Port.accepted g.K.Records.first g.K.Records.kept c.args.setup.now c.args.mirrors
    c.args.jobs.items c.args.own.now _ c.run_with_tills-ran.result c.in_ok-ended.ended c.in_ok-run.run' c.requires.manned works led
    c.in_ok-ended.ensures.ok c.in_ok-run.ensures.ok).0

pub returns-clause-same : goal.returns-clause-same
returns-clause-same g c =
    let works = rw c.into_vec.ensures.list at c.run_with_tills-ran.ensures.works in
    let led = rw c.into_vec.ensures.list at c.run_with_tills-ran.ensures.own in
    (AreLogged-run _ g.S.System.edges g.P.Port.terms g.P.Port.slots g.P.Port.accepted g.K.Records.first g.K.Records.kept c.args.setup.now c.args.mirrors
    c.args.jobs.items c.args.own.now _ c.run_with_tills-ran.result c.in_ok-ended.ended c.in_ok-run.run' c.requires.manned works led
    c.in_ok-ended.ensures.ok c.in_ok-run.ensures.ok).1
