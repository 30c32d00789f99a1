use Rattle.std.proofs.Common.{rules, is_some, map}
use Rattle.http_ports.specs.Speech.{one_if}
use Rattle.server_ports.specs.Passages.{passages_of}
use Rattle.server_ports.specs.Logging.{IsSilent}
use Rattle.omaha_server.proofs.PageLemmas.{beside-lines, here-lines, silent-lines}
use Rattle.omaha_server.proofs.serving.serve.Goals as goal

pub returns-in-Some-clause-lines : goal.returns-in-Some-clause-lines
returns-in-Some-clause-lines g c =
    let place = c.args.place.now in
    beside-lines (λ ports. map (λ ended. ended.sent) ports.log) (one_if (is_some place.named)) place.log c.in-Some.path.now
    (g.F.WriteWhole.output c.args.errors.now) (g.F.WriteWhole.output c.serve_beside.new.errors) c.serve_beside.result (search rules)
    c.serve_beside.ensures.page

pub returns-in-None-clause-lines : goal.returns-in-None-clause-lines
returns-in-None-clause-lines g c =
    let place = c.args.place.now in
    here-lines (λ ports. map (λ ended. ended.sent) ports.log) (passages_of g.P.Port.terms g.P.Port.slots g.P.Port.accepted)
    (one_if (is_some place.named)) place.log (g.F.WriteWhole.output c.args.errors.now) (g.F.WriteWhole.output c.serve_here.new.errors)
    c.serve_here.result (search rules) c.serve_here.ensures.replies c.serve_here.ensures.page

pub returns-clause-lines : goal.returns-clause-lines
returns-clause-lines g c =
    let place = c.args.place.now in
    let silent : IsSilent place = search rules in
    silent-lines (λ ports. map (λ ended. ended.sent) ports.log) place.named place.log (g.F.WriteWhole.output c.args.errors.now)
    c.serve_silently.result silent.0 silent.1

pub returns-in-Some-clause-serves : goal.returns-in-Some-clause-serves
returns-in-Some-clause-serves g c = c.serve_beside.ensures.serves

pub returns-in-Some-clause-replies : goal.returns-in-Some-clause-replies
returns-in-Some-clause-replies g c = c.serve_beside.ensures.replies

pub returns-in-Some-clause-stocked : goal.returns-in-Some-clause-stocked
returns-in-Some-clause-stocked g c = c.serve_beside.ensures.stocked

pub returns-in-Some-clause-early : goal.returns-in-Some-clause-early
returns-in-Some-clause-early g c = c.serve_beside.ensures.early

pub returns-in-None-clause-serves : goal.returns-in-None-clause-serves
returns-in-None-clause-serves g c = c.serve_here.ensures.serves

pub returns-in-None-clause-replies : goal.returns-in-None-clause-replies
returns-in-None-clause-replies g c = c.serve_here.ensures.replies

pub returns-in-None-clause-stocked : goal.returns-in-None-clause-stocked
returns-in-None-clause-stocked g c = c.serve_here.ensures.stocked

pub returns-in-None-clause-early : goal.returns-in-None-clause-early
returns-in-None-clause-early g c = c.serve_here.ensures.early

pub returns-clause-serves : goal.returns-clause-serves
returns-clause-serves g c = c.serve_silently.ensures.serves

pub returns-clause-logged : goal.returns-clause-logged
returns-clause-logged g c = c.serve_silently.ensures.logged

pub returns-clause-replies : goal.returns-clause-replies
returns-clause-replies g c = c.serve_silently.ensures.replies

pub returns-clause-stocked : goal.returns-clause-stocked
returns-clause-stocked g c = c.serve_silently.ensures.stocked
