use Rattle.std.proofs.Common.{◌≡◌, ℕ, Bool, List, [], Option, Some, None, Result, Ok, Err, IfErr, IfOk, is_some, map}
use Rattle.catalogue.specs.Histories.{History}
use Rattle.http_ports.specs.Traffic.{Slot}
use Rattle.http_ports.specs.declared.terms.Terms.{Terms}
use Rattle.omaha_arguments.specs.declared.command.Serve.{Serve}
use Rattle.omaha_cli.specs.Serving.{EndsAs}
use Rattle.failures.specs.declared.failure.Failure.{Failure}
use Rattle.streams.specs.Streams.{Known}
use Rattle.systems.specs.Edges.{Edges}
use Rattle.omaha_server.specs.Checks.{IsStockedFor}
use Rattle.server_ports.specs.Logging.{AreLogged, IsLoggedHere}
use Rattle.server_ports.specs.Passages.{passages_in, passages_of}
use Rattle.server_ports.specs.Errors.{IsEarly}
use Rattle.omaha_server.specs.Serving.{IsLogged}
use Rattle.server_ports.specs.declared.error.ServerError.{ServerError}
use Rattle.server_ports.specs.declared.place.Place.{Place}
use Rattle.server_ports.specs.declared.ports.ServedPorts.{ServedPorts}
use Rattle.omaha_cli.proofs.serving.host.Goals as goal

pub returns-clause-hosted : goal.returns-clause-hosted
returns-clause-hosted g c = record {
  ended = passages_in g.P.Port.terms g.P.Port.slots g.P.Port.accepted c.serve-ended.result;
  serves = c.serve-ended.ensures.serves;
  logged = logged_so g.P.Port.terms g.P.Port.slots g.P.Port.accepted c.serve-ended.result
      (g.S.System.edges c.args.system.now) c.args.place.now.log c.serve-ended.ensures.logged;
  sents = sents_in c.serve-ended.result;
  replies = replies_so g.P.Port.terms g.P.Port.slots g.P.Port.accepted c.serve-ended.result (is_some c.args.place.now.log)
      c.serve-ended.ensures.replies;
  lines = lines_so g.P.Port.terms g.P.Port.slots g.P.Port.accepted c.serve-ended.result c.args.place.now _ _ c.serve-ended.ensures.lines;
  early = early_so g.P.Port.terms g.P.Port.slots g.P.Port.accepted c.serve-ended.result _ _ c.serve-ended.ensures.early;
  stocked = stocked_so g.P.Port.terms g.P.Port.slots g.P.Port.accepted c.serve-ended.result
      (g.S.System.edges c.args.system.now) c.args.place.now c.args.kept.service.edition _ _ c.serve-ended.ensures.stocked;
  ends = ends_so g.P.Port.terms g.P.Port.slots g.P.Port.accepted c.serve-ended.result c.args.asked.now c.end_of.result c.end_of.ensures;
}
  where
    -- the same, of what passed at the ports
    ends_so :
        {P : Type 0} (terms_of : P → Terms) (slots_of : P → ℕ → Slot) (accepted_of : P → ℕ) (ended : Result (ServedPorts P) ServerError)
        (serve : Serve) (result : Result (Unit {0}) Failure) → EndsAs ended serve result →
        EndsAs (passages_in terms_of slots_of accepted_of ended) serve result
    ends_so terms_of slots_of accepted_of (Ok served) serve result ends = ends
    ends_so terms_of slots_of accepted_of (Err error) serve result ends = ends

    stocked_so :
        {P : Type 0} (terms_of : P → Terms) (slots_of : P → ℕ → Slot) (accepted_of : P → ℕ) (ended : Result (ServedPorts P) ServerError)
        (edges : Edges) (place : Place) (history : History) (old new : Known) → IsStockedFor edges place history old new ended →
        IsStockedFor edges place history old new (passages_in terms_of slots_of accepted_of ended)
    stocked_so terms_of slots_of accepted_of (Ok served) edges place history old new stocked =
        record { there = stocked.there; lacks = stocked.lacks }
    stocked_so terms_of slots_of accepted_of (Err error) edges place history old new stocked =
        record { there = stocked.there; lacks = stocked.lacks }

    logged_so :
        {P : Type 0} (terms_of : P → Terms) (slots_of : P → ℕ → Slot) (accepted_of : P → ℕ) (ended : Result (ServedPorts P) ServerError)
        (edges : Edges) (log : Option (List ℕ)) → IsLogged edges log ended → IsLogged edges log (passages_in terms_of slots_of accepted_of ended)
    logged_so terms_of slots_of accepted_of (Ok served) edges (Some path) logged = logged
    logged_so terms_of slots_of accepted_of (Ok served) edges None logged = logged
    logged_so terms_of slots_of accepted_of (Err error) edges (Some path) logged = logged
    logged_so terms_of slots_of accepted_of (Err error) edges None logged = logged

    -- what was sent to the log for each port, if the server gave them back
    sents_in : {P : Type 0} → Result (ServedPorts P) ServerError → List (List ℕ)
    sents_in (Ok served) = map (λ ended. ended.sent) served.log
    sents_in (Err error) = []

    replies_so :
        {P : Type 0} (terms_of : P → Terms) (slots_of : P → ℕ → Slot) (accepted_of : P → ℕ) (ended : Result (ServedPorts P) ServerError)
        (is_logged : Bool) →
        IfOk ended (λ served. AreLogged is_logged (passages_of terms_of slots_of accepted_of served) (map (λ e. e.sent) served.log)) →
        IfOk (passages_in terms_of slots_of accepted_of ended) (λ passages. AreLogged is_logged passages (sents_in ended))
    replies_so terms_of slots_of accepted_of (Ok served) is_logged replies = replies
    replies_so terms_of slots_of accepted_of (Err error) is_logged replies = replies

    lines_so :
        {P : Type 0} (terms_of : P → Terms) (slots_of : P → ℕ → Slot) (accepted_of : P → ℕ) (ended : Result (ServedPorts P) ServerError)
        (place : Place) (before after : Known) →
        IfOk ended (λ served. IsLoggedHere place (map (λ e. e.sent) served.log) before after) →
        IfOk (passages_in terms_of slots_of accepted_of ended) (λ _. IsLoggedHere place (sents_in ended) before after)
    lines_so terms_of slots_of accepted_of (Ok served) place before after lines = lines
    lines_so terms_of slots_of accepted_of (Err error) place before after lines = lines

    early_so :
        {P : Type 0} (terms_of : P → Terms) (slots_of : P → ℕ → Slot) (accepted_of : P → ℕ) (ended : Result (ServedPorts P) ServerError)
        (before after : Known) → IfErr ended (λ error. IsEarly error → after ≡ before) →
        IfErr (passages_in terms_of slots_of accepted_of ended) (λ error. IsEarly error → after ≡ before)
    early_so terms_of slots_of accepted_of (Ok served) before after early = early
    early_so terms_of slots_of accepted_of (Err error) before after early = early
