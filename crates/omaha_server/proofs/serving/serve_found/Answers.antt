use Rattle.std.proofs.Common.{◌∙◌, ℕ, Err, List, ap, subst}
use Rattle.catalogue.specs.Histories.{History}
use Rattle.server_ports.specs.Passages.{passages_of}
use Rattle.omaha_server.specs.Runs.{HasServed, PrintsLines}
use Rattle.omaha_server.specs.Serving.{begun}
use Rattle.service_desks.specs.Totals.{names_of}
use Rattle.omaha_server.proofs.RunLemmas.{Serves-printed, Serves-unprinted}
use Rattle.omaha_server.proofs.serving.serve_found.Goals as goal

pub returns-in-Ok-clause-serves : goal.returns-in-Ok-clause-serves
returns-in-Ok-clause-serves g c =
    let edges = g.S.System.edges c.args.setup.now.system.now in
    let place = c.args.setup.now.place.now in
    let old = g.O.WriteWhole.output c.args.out.now in
    let between = g.O.WriteWhole.output c.serve_press.new.out in
    let passages = passages_of g.P.Port.terms g.P.Port.slots g.P.Port.accepted c.into_parts-ports.result.0 in
    let totals = c.into_parts-ports.result.1.items in
    let run = rw (← c.into_parts-ports.ensures.ports, ← c.into_parts-ports.ensures.totals) at c.in_ok-run.ensures.ok in
    let served =
    subst (λ (h : History). HasServed edges place (record { edition = h; mirrors = c.args.kept.service.mirrors }) (begun h (g.K.Records.first c.args.kept.records) (g.K.Records.kept c.args.kept.records)).store old between passages totals) c.in_ok-press.ensures.press
    run in
    Serves-printed edges place c.args.kept.service (begun c.args.kept.service.edition (g.K.Records.first c.args.kept.records) (g.K.Records.kept c.args.kept.records)).store old between passages totals served c.as_slice-2.result.now (g.O.WriteWhole.output c.print_totals.new.out)
    (c.as_slice-2.ensures ∙ c.in_ok-names.ensures ∙ ap names_of c.as_slice.ensures.list) (rw c.deref.ensures.value at c.in-Ok.ensures)

pub returns-clause-serves : goal.returns-clause-serves
returns-clause-serves g c =
    let edges = g.S.System.edges c.args.setup.now.system.now in
    let place = c.args.setup.now.place.now in
    let old = g.O.WriteWhole.output c.args.out.now in
    let between = g.O.WriteWhole.output c.serve_press.new.out in
    let passages = passages_of g.P.Port.terms g.P.Port.slots g.P.Port.accepted c.into_parts-ports.result.0 in
    let totals = c.into_parts-ports.result.1.items in
    let run = rw (← c.into_parts-ports.ensures.ports, ← c.into_parts-ports.ensures.totals) at c.in_ok-run.ensures.ok in
    let served =
    subst (λ (h : History). HasServed edges place (record { edition = h; mirrors = c.args.kept.service.mirrors }) (begun h (g.K.Records.first c.args.kept.records) (g.K.Records.kept c.args.kept.records)).store old between passages totals) c.in_ok-press.ensures.press
    run in
    Serves-unprinted edges place c.args.kept.service (begun c.args.kept.service.edition (g.K.Records.first c.args.kept.records) (g.K.Records.kept c.args.kept.records)).store old between passages totals served c.as_slice-2.result.now (g.O.WriteWhole.output c.print_totals.new.out)
    _ (c.as_slice-2.ensures ∙ c.in_ok-names.ensures ∙ ap names_of c.as_slice.ensures.list) (subst (λ (t : List ℕ). PrintsLines c.as_slice-2.result.now t between (g.O.WriteWhole.output c.print_totals.new.out) (Err c.in-Err.error))
    c.deref.ensures.value c.in-Err.ensures)

pub returns-in-Ok-clause-page : goal.returns-in-Ok-clause-page
returns-in-Ok-clause-page g c = rw c.into_parts-ports.ensures.ports c.in_ok-run.ensures.page

pub returns-in-Ok-clause-replies : goal.returns-in-Ok-clause-replies
returns-in-Ok-clause-replies g c = rw c.into_parts-ports.ensures.ports c.in_ok-run.ensures.replies
