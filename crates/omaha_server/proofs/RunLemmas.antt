-- What the workers of a server and its operator came to, once all began.
use Rattle.std.proofs.Common.{◌≡◌, ◌∙◌, ◌⊎◌, ◌&&◌, ℕ, zero, suc, ◌<◌, All, Bool, true, List, [], ◌∷◌, Option, Some, None, Result, Ok, Err, IfOk, IfSome, inl, inr, refl, ap, arith, get_or, length, map, option_map, subst, sym}
use Rattle.std.specs.Io.KnownBytes.{Appends}
use Rattle.std.specs.List.{AllZip}
use Rattle.std.specs.Option.{is_some}
use Rattle.std.proofs.lemmas.List.{length-map}
use Rattle.std.proofs.lemmas.Slice.Zip.{AllZip-long}
use Rattle.catalogue.specs.Histories.{History}
use Rattle.http_desks.specs.Calls.{Call}
use Rattle.http_ports.specs.Rounds.{all_calls}
use Rattle.http_ports.specs.Traffic.{Slot}
use Rattle.http_ports.specs.declared.terms.Terms.{Terms}
use Rattle.http_sessions.specs.Ports.{Passage}
use Rattle.mirror_ledger.specs.Asks.{Ask}
use Rattle.mirror_ledger.specs.Tills.{AreTotalsOf, HadNoRoom, HasEnded, HaveWorked, WorksAs}
use Rattle.mirror_ledger.specs.declared.running.Ran.{Ran}
use Rattle.profile_toml.specs.Laws.{AreMirrors}
use Rattle.publisher.specs.Sights.{Allows, Sight, fresh}
use Rattle.kept_records.specs.declared.record.Record.{Record}
use Rattle.catalogue.specs.declared.mirror.Mirror.{Mirror}
use Rattle.service_desks.specs.Served.{IsWorked}
use Rattle.service_desks.specs.States.{Publication, Store}
use Rattle.systems.specs.Edges.{Edges}
use Rattle.access_logs.specs.Queues.{Ended as SenderEnd, Sending}
use Rattle.omaha_server.specs.Jobs.{IsClients, IsManned}
use Rattle.server_ports.specs.Logging.{AreLogged, HasSent, senders_of}
use Rattle.server_ports.specs.Opening.{AreClientTerms, IsOperatorsPort, client_terms}
use Rattle.omaha_server.specs.OperatorPorts.{has_operator, terms_left}
use Rattle.server_ports.specs.Passages.{HaveAcceptedAll, Passages, passage_of, passages_of}
use Rattle.server_ports.specs.Places.{ArePorts}
use Rattle.omaha_server.specs.Runs.{HasServed, HaveRun, IsPublished, PrintsLines}
use Rattle.server_ports.specs.Starts.{IsReady}
use Rattle.omaha_server.specs.Serving.{AreServed, AreTotals, IsOperated, IsWorkersPort, PrintsTotals, Serves, ServesToEnd, begun, is_single, with_mirrors}
use Rattle.omaha_server.specs.Overviews.{Overview, overview, overview_at}
use Rattle.operator_pages.specs.declared.counts.Counts.{Counts}
use Rattle.operator_pages.specs.declared.publishes.Publish.{Publish}
use Rattle.service_desks.specs.Totals.{names_of, totals_string}
use Rattle.omaha_server.specs.declared.clients.Clients.{Clients}
use Rattle.omaha_server.specs.declared.clients.Visited.{Visited}
use Rattle.server_ports.specs.declared.error.ServerError.{ServerError}
use Rattle.server_ports.specs.declared.error.ServerError.TheVariants as server
use Rattle.server_ports.specs.declared.opening.Ports.{Ports}
use Rattle.omaha_server.specs.declared.operating.Operated.{Operated}
use Rattle.omaha_server.specs.declared.operating.Operating.{Operating}
use Rattle.server_ports.specs.declared.place.Place.{Place}
use Rattle.server_ports.specs.declared.ports.ServedPort.{ServedPort}
use Rattle.omaha_server.specs.declared.running.Ended.{Ended}
use Rattle.omaha_server.specs.declared.running.Run.{Run}
use Rattle.service_desks.specs.declared.services.service.Service.{Service}
use Rattle.server_ports.specs.declared.setup.Served.{Served}
use Rattle.server_ports.specs.declared.setup.Setup.{Setup}
use Rattle.streams.specs.Streams.{Known}
use Rattle.streams.specs.Writing.{Breaks}
use Rattle.omaha_server.proofs.AlongLemmas.{Leads-operated, Leads-worked}
use Rattle.omaha_server.proofs.ChoiceLemmas.{AllZip-by, chosen}
use Rattle.omaha_server.proofs.SenderLemmas.{AreSame, ended-all, logged-all}

-- each job that came to its end
ends-each :
    {J E : Type 0} (comes : J → List Ask → E → Type 0) (Is : J → E → Type 0) →
    ((job : J) (asks : List Ask) (end : E) → comes job asks end → Is job end) →
    (jobs : List J) (worked : List (List Ask × Result E J)) (ends : List E) →
    AllZip (λ job its. WorksAs comes job its.0 its.1) jobs worked →
    map (λ (its : List Ask × Result E J). its.1) worked ≡ map Ok ends → AllZip Is jobs ends
ends-each comes Is is [] [] [] works same = tt
ends-each comes Is is [] [] (end ∷ ends) works same = cc same
ends-each comes Is is [] (its ∷ worked) ends works same = absurd works
ends-each comes Is is (job ∷ jobs) [] ends works same = absurd works
ends-each comes Is is (job ∷ jobs) (its ∷ worked) [] works same = cc same
ends-each {J} {E} comes Is is (job ∷ jobs) (its ∷ worked) (end ∷ ends) works same =
    let ended : its.1 ≡ Ok end = cc same in (
      is job its.0 end (subst (λ (r : Result E J). WorksAs comes job its.0 r) ended works.0),
      ends-each comes Is is jobs worked ends works.1 (cc same),
    )

-- an item of a list that was mapped
pub get_or-mapped :
    {A B : Type 0} (f : A → B) (items : List A) (index : ℕ) (a : A) (b : B) → index < length items →
    get_or (map f items) index b ≡ f (get_or items index a)
get_or-mapped f [] index a b below = absurd (omega (arith, below))
get_or-mapped f (item ∷ items) zero a b below = refl
get_or-mapped f (item ∷ items) (suc index) a b below = get_or-mapped f items index a b (omega (arith, below))

-- an item that is there, by either default
get_or-else : {A : Type 0} (items : List A) (index : ℕ) (one other : A) → index < length items → get_or items index one ≡ get_or items index other
get_or-else [] index one other below = absurd (omega (arith, below))
get_or-else (item ∷ items) zero one other below = refl
get_or-else (item ∷ items) (suc index) one other below = get_or-else items index one other (omega (arith, below))

-- each job came to its end
ended-at :
    {J E : Type 0} (comes : J → List Ask → E → Type 0) (jobs : List J) (worked : List (List Ask × Result E J)) (ends : List E)
    (worker : ℕ) (j : J) (a : List Ask) (e : E) →
    AllZip (λ job its. WorksAs comes job its.0 its.1) jobs worked →
    map (λ (its : List Ask × Result E J). its.1) worked ≡ map Ok ends → worker < length jobs →
    comes (get_or jobs worker j) (get_or (map (λ (its : List Ask × Result E J). its.0) worked) worker a) (get_or ends worker e)
ended-at comes [] worked ends worker j a e works same below = absurd (omega (arith, below))
ended-at comes (job ∷ jobs) [] ends worker j a e works same below = absurd works
ended-at comes (job ∷ jobs) (its ∷ worked) [] worker j a e works same below = cc same
ended-at {J} {E} comes (job ∷ jobs) (its ∷ worked) (end ∷ ends) zero j a e works same below =
    let is : its.1 ≡ Ok end = cc same in subst (λ (r : Result E J). WorksAs comes job its.0 r) is works.0
ended-at comes (job ∷ jobs) (its ∷ worked) (end ∷ ends) (suc worker) j a e works same below =
    ended-at comes jobs worked ends worker j a e works.1 (cc same) (omega (arith, below))

-- the operator's port was served if there is an operator
is_served :
    {P : Type 0} (edges : Edges) (place its : Place) (terms : Option Terms) (before : Overview) (calls : List Call) (after : Overview)
    (passage : ServedPort P → Passage) (served : Option (Served P)) →
    IsOperatorsPort its terms →
    IsOperated edges place terms before calls after (option_map passage (option_map (λ (s : Served P). s.port) served)) →
    is_some its.operator ≡ is_some served
is_served edges place its None before calls after passage None port operated = port
is_served edges place its None before calls after passage (Some served) port operated = absurd operated
is_served edges place its (Some terms) before calls after passage None port operated = absurd operated
is_served edges place its (Some terms) before calls after passage (Some served) port operated = port.0

module _ {S R P K : Type 0} (O : Type 0) (edges_of : S → Edges) (terms_of : P → Terms) (slots_of : P → ℕ → Slot) (accepted_of : P → ℕ)
    (first_of : K → ℕ) (kept_of : K → List Record) (setup : Setup S R) (mirrors : List Mirror) where
  -- what passed at the port of a worker
  abbrev passed : Visited P → Passage
  passed end = passage_of terms_of slots_of accepted_of end.served.port

  -- what it sent to the log
  abbrev sends : Clients S R P O → Visited P → Type 0
  sends clients end = HasSent (slots_of end.served.port.port) clients.lines end.served.log

  -- what a worker's job comes to
  abbrev comes : Bool → Clients S R P O → List Ask → Visited P → Type 0
  comes single clients asks end =
      IsWorkersPort (edges_of clients.setup.now.system.now) clients.setup.now.place.now (terms_of clients.port) single mirrors
      clients.view (record { sight = end.view; asks = asks }) (passed end)
      × sends clients end

  -- what the operator's job comes to
  abbrev led : Operating S R P K O → List Mirror → List Mirror → Operated P → Type 0
  led own before after end =
      (left : Publication) × (calls : List Call) × (started : ℕ) × (counts : Counts) × (publishes : List Publish)
      × IsOperated (edges_of own.setup.now.system.now) own.setup.now.place.now (terms_left terms_of own.port)
      (overview_at started (with_mirrors before (begun own.press (first_of own.records) (kept_of own.records)))) calls
      (overview (with_mirrors after left) counts publishes end.ending)
      (option_map (passage_of terms_of slots_of accepted_of) (option_map (λ (served : Served P). served.port) end.served))
      × IfOk end.left (λ receipt. receipt ≡ left.history)
      × IfSome end.served (λ (served : Served P). HasSent (slots_of served.port.port) own.lines served.log)

  -- as many jobs came to their end
  as_many :
      {A E J : Type 0} (worked : List (A × Result E J)) (ends : List E) → map (λ (its : A × Result E J). its.1) worked ≡ map Ok ends →
      length ends ≡ length worked
  as_many {A} {E} {J} worked ends same =
      sym (length-map ends Ok) ∙ ap length (sym same) ∙ length-map worked (λ (its : A × Result E J). its.1)

  module _ (single : Bool) (history left : History) (capacity : ℕ) where
    -- a worker served its port by these calls, and then its view may enter what is left
    abbrev IsSo : List (List Ask) → List Passage → ℕ → List Call → Type 0
    IsSo asks passages worker calls =
        ((a : List Ask) → IsWorked mirrors history left calls (get_or asks worker a))
        × ((a : List Ask) (p : Passage) →
        AreServed (edges_of setup.system.now) setup.place.now (client_terms setup.place.now capacity worker) single mirrors
        (fresh history) calls (get_or asks worker a) (get_or passages worker p))

    -- the job is said of the setup
    at-setup : (terms : Terms) (clients : Clients S R P O) (asks : List Ask) (end : Visited P) →
        IsClients setup (fresh history) clients → terms_of clients.port ≡ terms → comes single clients asks end →
        IsWorkersPort (edges_of setup.system.now) setup.place.now terms single mirrors (fresh history)
        (record { sight = end.view; asks = asks }) (passed end)
    at-setup terms clients asks end is by came =
        subst (λ t. IsWorkersPort (edges_of setup.system.now) setup.place.now t single mirrors (fresh history) (record { sight = end.view; asks = asks }) (passed end)) by
        (subst (λ (s : Sight). IsWorkersPort (edges_of setup.system.now) setup.place.now (terms_of clients.port) single mirrors s (record { sight = end.view; asks = asks }) (passed end)) is.by
        (subst (λ (s : Setup S R). IsWorkersPort (edges_of s.system.now) s.place.now (terms_of clients.port) single mirrors clients.view (record { sight = end.view; asks = asks }) (passed end)) is.with came.0))

    -- the calls by which it did
    called-at :
        (asks : List (List Ask)) (passages : List Passage) (worker : ℕ) (own : List Ask) (end : Visited P) →
        ((a : List Ask) → get_or asks worker a ≡ own) → ((p : Passage) → get_or passages worker p ≡ passed end) →
        Allows end.view left →
        IsWorkersPort (edges_of setup.system.now) setup.place.now (client_terms setup.place.now capacity worker) single mirrors
        (fresh history) (record { sight = end.view; asks = own }) (passed end) →
        (calls : List Call) × IsSo asks passages worker calls
    called-at asks passages worker own end asked passes allowed port =
        let calls = all_calls port.talked.2.rounds in
        let edges = edges_of setup.system.now in
        let terms = client_terms setup.place.now capacity worker in (
          calls,
          (
            (λ a. subst (IsWorked mirrors history left calls) (sym (asked a)) (record {
              sight = end.view;
              allowed = allowed;
              leads = Leads-worked edges setup.place.now terms single mirrors (fresh history)
                  (record { sight = end.view; asks = own }) (passed end) calls port refl;
            })),
            λ a p.
                subst (λ (q : Passage). AreServed edges setup.place.now terms single mirrors (fresh history) calls (get_or asks worker a) q) (sym (passes p))
                (subst (λ (these : List Ask). AreServed edges setup.place.now terms single mirrors (fresh history) calls these (passed end)) (sym (asked a))
                (record { left = end.view; served = port; called = refl })),
          ),
        )

    -- a worker's job that came to its end
    served-at :
        (jobs : List (Clients S R P O)) (asks : List (List Ask)) (results : List (Result (Visited P) (Clients S R P O))) (ends : List (Visited P))
        (worker : ℕ) (worked : HaveWorked (comes single) jobs asks results) →
        map (λ (its : List Ask × Result (Visited P) (Clients S R P O)). its.1) worked.worked ≡ map Ok ends →
        worker < length jobs → length ends ≡ length jobs → All (IsClients setup (fresh history)) jobs →
        ((d : Terms) → get_or (map terms_of (map (λ (job : Clients S R P O). job.port) jobs)) worker d ≡ client_terms setup.place.now capacity worker) →
        All (λ (end : Visited P). Allows end.view left) ends →
        (calls : List Call)
        × IsSo asks (map (passage_of terms_of slots_of accepted_of) (map (λ (end : Visited P). end.served.port) ends)) worker calls
    served-at [] asks results ends worker worked same below long each by allowed = absurd (omega (arith, below))
    served-at (job ∷ jobs) asks results [] worker worked same below long each by allowed = cc long
    served-at (job ∷ jobs) asks results (end ∷ ends) worker worked same below long each by allowed =
        let read = λ (its : List Ask × Result (Visited P) (Clients S R P O)). its.0 in
        let here = get_or (job ∷ jobs) worker job in
        let there = get_or (end ∷ ends) worker end in
        let own = get_or (map read worked.worked) worker [] in
        let in_ends : worker < length (end ∷ ends) = omega (arith, below, long) in
        let in_worked : worker < length (map read worked.worked) =
        omega (arith, below, length-map worked.worked read, AllZip-long (λ job its. WorksAs (comes single) job its.0 its.1) (job ∷ jobs) worked.worked worked.each) in
        let came = ended-at (comes single) (job ∷ jobs) worked.worked (end ∷ ends) worker job [] end worked.each same below in
        let terms = client_terms setup.place.now capacity worker in
        let is_by : terms_of here.port ≡ terms =
        sym (ap terms_of (get_or-mapped (λ (c : Clients S R P O). c.port) (job ∷ jobs) worker job job.port below))
        ∙ sym (get_or-mapped terms_of (map (λ (c : Clients S R P O). c.port) (job ∷ jobs)) worker job.port terms
        (omega (arith, below, length-map (job ∷ jobs) (λ (c : Clients S R P O). c.port)))) ∙ by terms in
        called-at asks (map (passage_of terms_of slots_of accepted_of) (map (λ (e : Visited P). e.served.port) (end ∷ ends))) worker own there
        (λ a. ap (λ (list : List (List Ask)). get_or list worker a) worked.asked ∙ get_or-else (map read worked.worked) worker a [] in_worked)
        (λ p. get_or-mapped (passage_of terms_of slots_of accepted_of) (map (λ (e : Visited P). e.served.port) (end ∷ ends)) worker end.served.port p
        (omega (arith, in_ends, length-map (end ∷ ends) (λ (e : Visited P). e.served.port)))
        ∙ ap (passage_of terms_of slots_of accepted_of) (get_or-mapped (λ (e : Visited P). e.served.port) (end ∷ ends) worker end end.served.port in_ends))
        (allowed worker end in_ends)
        (at-setup terms here own there (each worker job below) is_by came)

  pub AreTotals-run :
      {X : Type 0} (jobs : List (Clients S R P O)) (own : Operating S R P K O) (single : Bool)
      (ran : Result (Ran (Clients S R P O) (Operating S R P K O) (Visited P) (Operated P)) X) (ended : Ended (Visited P) (Operated P)) (run : Run P) →
      AreMirrors mirrors →
      IsManned (edges_of setup.system.now) terms_of setup jobs own → is_single (is_some setup.place.now.operator) setup.place.now.workers ≡ single →
      IfOk ran (λ done. (asks : List (List Ask)) × HaveWorked (comes single) jobs asks done.ends.items × AreTotalsOf done.mirrors.items asks done.totals.items
      × HadNoRoom mirrors asks done.totals.items) →
      IfOk ran (λ done. HasEnded (λ before after. led own before after) mirrors done.mirrors.items done.own) →
      HaveRun ran ended → IsPublished terms_of slots_of accepted_of ended run →
      AreTotals (edges_of setup.system.now) setup.place.now (record { edition = own.press; mirrors = mirrors })
      (begun own.press (first_of own.records) (kept_of own.records)).store
      (passages_of terms_of slots_of accepted_of run.ports) run.totals.items
  AreTotals-run jobs own single (Err error) ended run valid manned alone works operated have published = absurd have
  AreTotals-run jobs own single (Ok done) ended run valid manned alone works operated (ends, ended_own, totals) published =
      let edges = edges_of setup.system.now in
      let place = setup.place.now in
      let passage = passage_of terms_of slots_of accepted_of in
      let ports = map (λ (end : Visited P). end.served.port) ended.clients.items in
      let operator = option_map (λ (served : Served P). served.port) ended.own.served in
      let first = begun own.press (first_of own.records) (kept_of own.records) in
      let (asks, worked, sums, rejected) = works in
      let same : map (λ (its : List Ask × Result (Visited P) (Clients S R P O)). its.1) worked.worked ≡ map Ok ended.clients.items = sym worked.ended ∙ ends in
      let long : length worked.worked ≡ length jobs = AllZip-long (λ job its. WorksAs (comes single) job its.0 its.1) jobs worked.worked worked.each in
      let ended_all : length ended.clients.items ≡ length jobs = as_many worked.worked ended.clients.items same ∙ long in
      let asked : length asks ≡ place.workers = ap length worked.asked ∙ length-map worked.worked (λ its. its.0) ∙ long ∙ manned.many in
      let (left, calls, started, counts, publishes, there, receipt, sent) = subst (λ (o : Option (Operated P)). HasEnded (λ before after. led own before after) mirrors done.mirrors.items o) ended_own operated in
      let behind = overview (with_mirrors done.mirrors.items left) counts publishes ended.own.ending in
      let is : published.left ≡ left.history = subst (λ (r : Result History _). IfOk r (λ history. history ≡ left.history)) published.is receipt in
      let allowed = subst (λ (history : History). All (λ (end : Visited P). Allows end.view history) ended.clients.items) is published.allowed in
      let all = chosen (IsSo single own.press left.history manned.capacity asks (map passage ports)) place.workers
      (λ worker below. served-at single own.press left.history manned.capacity jobs asks done.ends.items ended.clients.items worker worked same
      (omega (arith, below, manned.many)) ended_all manned.each (λ d. manned.ports worker d below) allowed) in
      let whole = subst (λ (list : List (ServedPort P)). (ended.own.ending ≡ true)
      ⊎ HaveAcceptedAll (record { clients = map passage list; operator = option_map passage operator })) published.clients
      (subst (λ (one : Option (ServedPort P)). (ended.own.ending ≡ true)
      ⊎ HaveAcceptedAll (record { clients = map passage run.ports.clients.items; operator = option_map passage one })) published.operator
      published.whole) in
      let ran : AreTotals edges place (record { edition = own.press; mirrors = mirrors }) first.store
      (record { clients = map passage ports; operator = option_map passage operator }) ended.totals.items = record {
        calls = all.0;
        operator_calls = calls;
        left = behind;
        run = record {
          some = valid.some;
          few = valid.few;
          due = refl;
          operated = Leads-operated (edges_of own.setup.now.system.now) own.setup.now.place.now (terms_left terms_of own.port)
              (overview_at started (with_mirrors mirrors first)) calls behind (option_map passage operator) there;
          asks = asks;
          worked = AllZip-by (IsWorked mirrors own.press left.history) all.0 asks (all.1 ∙ sym asked)
              (λ worker c a below. (all.2 worker c (omega (arith, below, all.1))).0 a);
          summed = subst (AreTotalsOf done.mirrors.items asks) totals sums;
          rejected = subst (HadNoRoom mirrors asks) totals rejected;
        };
        many = all.1;
        ports = length-map ports passage ∙ length-map ended.clients.items (λ (end : Visited P). end.served.port) ∙ ended_all ∙ manned.many;
        capacity = manned.capacity;
        held = manned.held;
        served = λ worker c a p below.
            subst (λ (s : Bool). AreServed edges place (client_terms place manned.capacity worker) s mirrors (fresh own.press)
            (get_or all.0 worker c) (get_or asks worker a) (get_or (map passage ports) worker p)) (sym alone) ((all.2 worker c below).1 a p);
        operator = terms_left terms_of own.port;
        port = manned.port;
        started = started;
        operated = subst (λ (s : Setup S R). IsOperated (edges_of s.system.now) s.place.now (terms_left terms_of own.port)
            (overview_at started (with_mirrors mirrors first)) calls behind (option_map passage operator)) manned.with there;
        whole = whole;
      } in
      subst (λ (list : List (ServedPort P)). AreTotals edges place (record { edition = own.press; mirrors = mirrors }) first.store
      (record { clients = map passage list; operator = option_map passage run.ports.operator }) run.totals.items) (sym published.clients)
      (subst (λ (one : Option (ServedPort P)). AreTotals edges place (record { edition = own.press; mirrors = mirrors }) first.store
      (record { clients = map passage ports; operator = option_map passage one }) run.totals.items) (sym published.operator)
      (subst (λ (t : List ℕ). AreTotals edges place (record { edition = own.press; mirrors = mirrors }) first.store
      (record { clients = map passage ports; operator = option_map passage operator }) t) (sym published.totals) ran))

  -- the lines of each reply were sent to the log, if there is one, and nothing else, by the senders that the ports were given
  pub AreLogged-run :
      {X : Type 0} (jobs : List (Clients S R P O)) (own : Operating S R P K O) (single : Bool)
      (ran : Result (Ran (Clients S R P O) (Operating S R P K O) (Visited P) (Operated P)) X) (ended : Ended (Visited P) (Operated P)) (run : Run P) →
      IsManned (edges_of setup.system.now) terms_of setup jobs own →
      IfOk ran (λ done. (asks : List (List Ask)) × HaveWorked (comes single) jobs asks done.ends.items × AreTotalsOf done.mirrors.items asks done.totals.items
      × HadNoRoom mirrors asks done.totals.items) →
      IfOk ran (λ done. HasEnded (λ before after. led own before after) mirrors done.mirrors.items done.own) →
      HaveRun ran ended → IsPublished terms_of slots_of accepted_of ended run →
      AreLogged (is_some setup.place.now.log) (passages_of terms_of slots_of accepted_of run.ports) (map (λ (e : SenderEnd). e.sent) run.ports.log)
      × AreSame (senders_of (map (λ (job : Clients S R P O). job.lines) jobs) own.lines) run.ports.log
  AreLogged-run jobs own single (Err error) ended run manned works operated have published = absurd have
  AreLogged-run jobs own single (Ok done) ended run manned works operated (ends, ended_own, totals) published =
      let passage = passage_of terms_of slots_of accepted_of in
      let (asks, worked, sums, rejected) = works in
      let same : map (λ (its : List Ask × Result (Visited P) (Clients S R P O)). its.1) worked.worked ≡ map Ok ended.clients.items = sym worked.ended ∙ ends in
      let (left, calls, started, counts, publishes, there, receipt, own_sent) = subst (λ (o : Option (Operated P)). HasEnded (λ before after. led own before after) mirrors done.mirrors.items o) ended_own operated in
      let is : is_some own.lines ≡ (is_some setup.place.now.log && is_some ended.own.served) =
      manned.own_lined ∙ ap (λ (b : Bool). is_some setup.place.now.log && b)
      (is_served (edges_of own.setup.now.system.now) own.setup.now.place.now setup.place.now (terms_left terms_of own.port)
      (overview_at started (with_mirrors mirrors (begun own.press (first_of own.records) (kept_of own.records)))) calls
      (overview (with_mirrors done.mirrors.items left) counts publishes ended.own.ending) passage ended.own.served manned.port there) in
      let sent =
      ends-each (comes single) sends (λ job asks end came. came.1) jobs worked.worked ended.clients.items worked.each same in
      let lines = λ (job : Clients S R P O). job.lines in
      let served = λ (end : Visited P). end.served in
      let logged =
      logged-all passage lines served (is_some setup.place.now.log) jobs ended.clients.items own.lines ended.own.served manned.lined is
      sent own_sent in (
        subst (λ (list : List (ServedPort P)). AreLogged (is_some setup.place.now.log)
            (record { clients = map passage list; operator = option_map passage run.ports.operator }) (map (λ (e : SenderEnd). e.sent) run.ports.log)) (sym published.clients)
            (subst (λ (one : Option (ServedPort P)). AreLogged (is_some setup.place.now.log)
            (record { clients = map passage (map (λ (end : Visited P). end.served.port) ended.clients.items); operator = option_map passage one }) (map (λ (e : SenderEnd). e.sent) run.ports.log)) (sym published.operator)
            (subst (λ (list : List SenderEnd). AreLogged (is_some setup.place.now.log)
            (record { clients = map passage (map (λ (end : Visited P). end.served.port) ended.clients.items); operator = option_map passage (option_map (λ (served : Served P). served.port) ended.own.served) }) (map (λ (e : SenderEnd). e.sent) list)) (sym published.log) logged)),
        subst (AreSame (senders_of (map lines jobs) own.lines)) (sym published.log)
            (ended-all passage lines served (is_some setup.place.now.log) jobs ended.clients.items own.lines ended.own.served is sent own_sent),
      )

-- there is a port for the operator if there is an operator
is_operated : {P : Type 0} (place : Place) (terms_of : P → Terms) (port : Option P) →
    IsOperatorsPort place (option_map terms_of port) → is_some place.operator ≡ is_some port
is_operated place terms_of None is = is
is_operated place terms_of (Some port) is = is.0

-- jobs over new ports are those of a setup
pub IsManned-over :
    {S R P K O : Type 0} (edges : Edges) (terms_of : P → Terms) (slots_of : P → ℕ → Slot) (accepted_of : P → ℕ)
    (IsOver : P → Type 0) (setup : Setup S R) (ports : Ports P) (jobs : List (Clients S R P O)) (own : Operating S R P K O) →
    ArePorts edges terms_of slots_of accepted_of IsOver setup.place.now ports →
    map (λ (job : Clients S R P O). job.port) jobs ≡ ports.clients.items → All (IsClients setup (fresh own.press)) jobs →
    own.setup.now ≡ setup → has_operator own.port ≡ is_some ports.operator →
    terms_left terms_of own.port ≡ option_map terms_of ports.operator →
    All (λ (line : Option Sending). is_some line ≡ is_some setup.place.now.log) (map (λ (job : Clients S R P O). job.lines) jobs) →
    is_some own.lines ≡ (is_some setup.place.now.log && is_some setup.place.now.operator) → IsManned edges terms_of setup jobs own
IsManned-over {S} {R} {P} {K} {O} edges terms_of slots_of accepted_of IsOver setup ports jobs own are same each with operates terms lined own_lined = record {
  many = sym (length-map jobs (λ (job : Clients S R P O). job.port)) ∙ ap length same ∙ are.many;
  capacity = are.capacity;
  held = are.held;
  ports = subst (λ (list : List P). AreClientTerms setup.place.now are.capacity (map terms_of list)) (sym same) are.terms;
  each = each;
  with = with;
  operates = operates ∙ sym (is_operated setup.place.now terms_of ports.operator are.port);
  port = subst (IsOperatorsPort setup.place.now) (sym terms) are.port;
  lined = lined;
  own_lined = own_lined;
}

module _ (edges : Edges) (place : Place) (service : Service) (kept : Store) (old between : Known) (passages : Passages) (totals : List ℕ)
    (served : HasServed edges place service kept old between passages totals) where
  to-end : (new : Known) (result : Result Passages ServerError) → PrintsTotals service.mirrors totals passages between new result →
      ServesToEnd edges place service kept old new result
  to-end new result printed = record {
    opened = served.opened;
    passages = passages;
    totals = totals;
    served = served.served;
    between = between;
    ready = served.ready;
    printed = printed;
  }

  -- a server that was served prints its totals
  pub Serves-printed : (names : List (List ℕ)) (new : Known) → names ≡ names_of service.mirrors →
      Appends between.bytes new.bytes (totals_string names totals) → Serves edges place service kept old new (Ok passages)
  Serves-printed names new named printed =
      inl (to-end new (Ok passages) (refl, subst (λ (these : List (List ℕ)). Appends between.bytes new.bytes (totals_string these totals)) named printed))

  -- or it ends with a first part of them, or without memory after `ready`
  pub Serves-unprinted : (names : List (List ℕ)) (new : Known) (error : ServerError) → names ≡ names_of service.mirrors →
      PrintsLines names totals between new (Err error) → Serves edges place service kept old new (Err error)
  Serves-unprinted names new server.Write named printed =
      inl (to-end new (Err server.Write) (refl, subst (λ (these : List (List ℕ)). Breaks between new (totals_string these totals)) named printed))
  Serves-unprinted names new server.Memory named same =
      inr (server.Memory, refl, inr (served.opened, subst (IsReady old) (sym same) served.ready))
  Serves-unprinted names new server.Net named never = absurd never
  Serves-unprinted names new server.OperatorNet named never = absurd never
  Serves-unprinted names new server.Log named never = absurd never
  Serves-unprinted names new server.Folder named never = absurd never
  Serves-unprinted names new (server.Package name what) named never = absurd never
  Serves-unprinted names new server.NoPlace named never = absurd never
  Serves-unprinted names new server.Thread named never = absurd never
  Serves-unprinted names new server.RoomLeft named never = absurd never
  Serves-unprinted names new server.Unpublished named never = absurd never
  Serves-unprinted names new server.EndedEarly named never = absurd never
