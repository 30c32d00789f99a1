-- Ports that were served, seen by a part of the desk's state.
use Rattle.std.proofs.Common.{◌≡◌, ◌∙◌, ℕ, Bool, true, List, [], ◌∷◌, Option, Some, None, Result, Ok, Err, ap, inl, inr, refl, subst, sym}
use Rattle.http_desks.specs.Calls.{Call, Asks, Leads, Looks, Shows}
use Rattle.http_desks.specs.declared.desk.DeskStatus.{DeskStatus}
use Rattle.http_desks.specs.declared.desk.Off.{Off}
use Rattle.http_desks.specs.declared.desk.Off.TheVariants as off
use Rattle.http_ports.specs.Rounds.{all_calls}
use Rattle.http_ports.specs.declared.terms.Terms.{Terms}
use Rattle.http_sessions.specs.Ports.{Passage}
use Rattle.mirror_ledger.specs.Asks.{Ask}
use Rattle.publisher.specs.Sights.{Sight}
use Rattle.catalogue.specs.declared.mirror.Mirror.{Mirror}
use Rattle.service_desks.specs.Operators.{IsCall as IsOperatorCall}
use Rattle.service_desks.specs.Workers.{IsCall, Progress}
use Rattle.replies.specs.Asking.{GrantsFirst}
use Rattle.systems.specs.Edges.{Edges}
use Rattle.package_files.specs.Lacking.{Sizes}
use Rattle.omaha_server.specs.Checks.{ChecksCall, LeadsPast, sizes_at}
use Rattle.server_ports.specs.Served.{IsServedPort}
use Rattle.omaha_server.specs.Serving.{AreOperated, DeskSteps, IsAsked, IsOperated, IsPassed, IsWorkersPort, OperatorSteps, desk_path, desk_type, operator_path, operator_type}
use Rattle.omaha_server.specs.Overviews.{Overview}
use Rattle.omaha_server.specs.Stopping.{IsEnding}
use Rattle.server_ports.specs.declared.place.Place.{Place}
use Rattle.server_ports.specs.declared.setup.Setup.{Setup}

-- each step keeps what holds of the state, and is a step of the part
abbrev Follows :
    {D : Type 0} → {E : Type 0} → (D → E) → (D → Type 0) → (D → Call → D → Type 0) → (E → Call → E → Type 0) → Type 0
Follows {D} {E} part Kept steps along =
    (old : D) → (call : Call) → (new : D) → Kept old → steps old call new → Kept new × along (part old) call (part new)

Leads-along :
    {D : Type 0} {E : Type 0} (part : D → E) (Kept : D → Type 0) (steps : D → Call → D → Type 0) (along : E → Call → E → Type 0)
    → Follows part Kept steps along
    → (calls : List Call) (old new : D) → Kept old → Leads steps old calls new
    → Kept new × Leads along (part old) calls (part new)
Leads-along part Kept steps along follows [] old new kept same = (subst Kept (sym same) kept, ap part same)
Leads-along part Kept steps along follows (call ∷ calls) old new kept leads =
    let one = follows old call leads.0 kept leads.1 in
    let rest = Leads-along part Kept steps along follows calls leads.0 new one.0 leads.2 in
    (rest.0, (part leads.0, one.1, rest.1))

IsServedPort-along :
    {D : Type 0} {E : Type 0} (part : D → E) (Kept : D → Type 0) (steps : D → Call → D → Type 0) (along : E → Call → E → Type 0)
    → Follows part Kept steps along
    → (edges : Edges) (place : Place) (path kind : List ℕ) (terms : Terms) (passage : Passage) (before behind : D) → Kept before
    → IsServedPort edges place path kind steps before behind terms passage
    → Kept behind × IsServedPort edges place path kind along (part before) (part behind) terms passage
IsServedPort-along part Kept steps along follows edges place path kind terms passage before behind kept port =
    let (lost, is, served) = port.talked in
    let led = Leads-along part Kept steps along follows _ before behind kept served.leads in (
      led.0,
      record {
        by = port.by;
        few = port.few;
        talked = (
          lost,
          is,
          record {
            rounds = served.rounds;
            ends = served.ends;
            leads = led.1;
            each = served.each;
            accepted = served.accepted;
            lost = served.lost;
          },
        );
      },
    )

-- what stays of a worker's desk: the mirrors, and that nobody else is granted on them, if the worker is single
pub IsWorkersPort-along :
    {D : Type 0} (mirrors : D → List Mirror) (sight : D → Sight) (asks : D → List Ask) (Alone : D → Type 0)
    (steps : D → Call → D → Type 0) (edges : Edges) (place : Place) (terms : Terms) (single : Bool) (passage : Passage) (before behind : D)
    → ((old : D) (call : Call) (new : D) → steps old call new →
    (mirrors new ≡ mirrors old)
    × IsCall (mirrors old) (record { sight = sight old; asks = asks old }) call (record { sight = sight new; asks = asks new })
    × (Alone old → Alone new × GrantsFirst (mirrors old) (asks old) (asks new)))
    → (single ≡ true → Alone before) → asks before ≡ []
    → IsServedPort edges place desk_path desk_type steps before behind terms passage
    → IsWorkersPort edges place terms single (mirrors before) (sight before) (record { sight = sight behind; asks = asks behind }) passage
IsWorkersPort-along {D} mirrors sight asks Alone steps edges place terms single passage before behind step alone none port =
    let part : D → Progress = λ d. record { sight = sight d; asks = asks d } in
    let Kept : D → Type 0 = λ d. (mirrors d ≡ mirrors before) × (single ≡ true → Alone d) in
    let follows : Follows part Kept steps (DeskSteps single (mirrors before)) = λ old call new kept stepped.
    let told = step old call new stepped in (
      (told.0 ∙ kept.0, λ is. (told.2 (kept.1 is)).0),
      (
        subst (λ (m : List Mirror). IsCall m (part old) call (part new)) kept.0 told.1,
        λ is. subst (λ (m : List Mirror). GrantsFirst m (asks old) (asks new)) kept.0 (told.2 (kept.1 is)).1,
      ),
    ) in
    let along = IsServedPort-along part Kept steps (DeskSteps single (mirrors before)) follows edges place desk_path desk_type terms passage
    before behind (refl, alone) port in
    subst (λ (first : List Ask). IsServedPort edges place desk_path desk_type (DeskSteps single (mirrors before))
    (record { sight = sight before; asks = first }) (part behind) terms passage) none along.1

-- each step is one of others too
Leads-weaker :
    {D : Type 0} (steps others : D → Call → D → Type 0)
    → ((old : D) (call : Call) (new : D) → steps old call new → others old call new)
    → (calls : List Call) (old new : D) → Leads steps old calls new → Leads others old calls new
Leads-weaker steps others weaker [] old new same = same
Leads-weaker steps others weaker (call ∷ calls) old new leads =
    (leads.0, weaker old call leads.0 leads.1, Leads-weaker steps others weaker calls leads.0 new leads.2)

-- the calls of a worker at its port lead its desk on
pub Leads-worked :
    (edges : Edges) (place : Place) (terms : Terms) (single : Bool) (mirrors : List Mirror) (sight : Sight) (after : Progress)
    (passage : Passage) (calls : List Call) (port : IsWorkersPort edges place terms single mirrors sight after passage)
    → all_calls port.talked.2.rounds ≡ calls
    → Leads (IsCall mirrors) (record { sight = sight; asks = [] }) calls after
Leads-worked edges place terms single mirrors sight after passage calls port called =
    Leads-weaker (DeskSteps single mirrors) (IsCall mirrors) (λ old call new stepped. stepped.0) calls
    (record { sight = sight; asks = [] }) after
    (subst (λ (these : List Call). Leads (DeskSteps single mirrors) (record { sight = sight; asks = [] }) these after) called
    port.talked.2.leads)

-- one more call at a desk before which another looks at it
LeadsPast-more :
    {D : Type 0} (Passes : D → Call → D → Type 0) (must : Bool) (sizes : Sizes) (steps : D → Call → D → Type 0) (before : D) (call : Call)
    (next : D) (calls asked : List Call) (after : D)
    → ChecksCall Passes must sizes steps before call next → LeadsPast Passes must sizes steps next calls asked after
    → (all : List Call) × LeadsPast Passes must sizes steps before (call ∷ calls) all after
LeadsPast-more Passes must sizes steps before call next calls asked after (inl passed) past =
    (asked, (next, inl (passed, past)))
LeadsPast-more Passes must sizes steps before call next calls asked after (inr (looked, step)) past =
    (call ∷ asked, (next, inr (looked, (asked, refl, step, past))))

-- some of the calls at such a desk are those for which it was asked
pub LeadsPast-all :
    {D : Type 0} (Passes : D → Call → D → Type 0) (must : Bool) (sizes : Sizes) (steps : D → Call → D → Type 0) (calls : List Call)
    (before after : D)
    → Leads (ChecksCall Passes must sizes steps) before calls after
    → (asked : List Call) × LeadsPast Passes must sizes steps before calls asked after
LeadsPast-all Passes must sizes steps [] before after same = ([], (refl, same))
LeadsPast-all Passes must sizes steps (call ∷ calls) before after (next, step, leads) =
    let (asked, past) = LeadsPast-all Passes must sizes steps calls next after leads in
    LeadsPast-more Passes must sizes steps before call next calls asked after step past

-- and they change the part of it that all others keep
Leads-asked :
    {D E : Type 0} (part : D → E) (along : E → Call → E → Type 0) (Passes : D → Call → D → Type 0) (must : Bool) (sizes : Sizes)
    (steps : D → Call → D → Type 0)
    → ((old : D) (call : Call) (new : D) → Passes old call new → part new ≡ part old)
    → ((old : D) (call : Call) (new : D) → steps old call new → along (part old) call (part new))
    → (calls asked : List Call) (before after : D)
    → LeadsPast Passes must sizes steps before calls asked after → Leads along (part before) asked (part after)
Leads-asked part along Passes must sizes steps stays follows [] asked before after (none, same) =
    subst (λ (these : List Call). Leads along (part before) these (part after)) (sym none) (ap part same)
Leads-asked {D} {E} part along Passes must sizes steps stays follows (call ∷ calls) asked before after (next, inl (passed, past)) =
    subst (λ (e : E). Leads along e asked (part after)) (stays before call next passed)
    (Leads-asked part along Passes must sizes steps stays follows calls asked next after past)
Leads-asked part along Passes must sizes steps stays follows (call ∷ calls) asked before after (next, inr (looked, (rest, is, step, past))) =
    subst (λ (these : List Call). Leads along (part before) these (part after)) (sym is)
    (part next, follows before call next step, Leads-asked part along Passes must sizes steps stays follows calls rest next after past)

-- whoever asks the server to end publishes nothing
IsEnding-keeps :
    (before : Overview) (answer : Result (DeskStatus × List ℕ) Off) (after : Overview) → IsEnding before answer after →
    after.state ≡ before.state
IsEnding-keeps before (Ok reply) after told = told.1
IsEnding-keeps before (Err off.Memory) after same = same.state
IsEnding-keeps before (Err off.Closed) after never = absurd never

-- what passes the operator's desk publishes nothing
IsPassed-keeps :
    (edges : Edges) (place : Place) (before : Overview) (call : Call) (after : Overview) → IsPassed edges place before call after →
    after.state ≡ before.state
IsPassed-keeps edges place before (Asks body moment answer) after (inl (word, shown, same)) = same.state
IsPassed-keeps edges place before (Asks body moment answer) after (inr (inl (word, told))) = IsEnding-keeps before answer after told
IsPassed-keeps edges place before (Asks body moment answer) after (inr (inr (must, stopped, same))) = same.state
IsPassed-keeps edges place before (Looks name found) after never = absurd never
IsPassed-keeps edges place before (Shows at page) after (shown, same) = same.state

-- those of the operator lead the service on
pub Leads-operated :
    (edges : Edges) (place : Place) (terms : Option Terms) (before : Overview) (calls : List Call) (after : Overview)
    (passage : Option Passage)
    → IsOperated edges place terms before calls after passage → Leads IsOperatorCall before.state calls after.state
Leads-operated edges place None before calls after None operated =
    subst (λ (these : List Call). Leads IsOperatorCall before.state these after.state) (sym operated.0)
    (ap (λ (s : Overview). s.state) operated.1)
Leads-operated edges place None before calls after (Some passage) never = absurd never
Leads-operated edges place (Some terms) before calls after None never = absurd never
Leads-operated edges place (Some terms) before calls after (Some passage) (port, past) =
    Leads-asked (λ (s : Overview). s.state) IsOperatorCall (IsPassed edges place) place.packages_must_exist (sizes_at edges place)
    IsAsked (IsPassed-keeps edges place) (λ old call new step. step.0) (all_calls port.talked.2.rounds) calls before after past

-- the calls of an operator's port, and those of them for which the operator's desk was asked
pub LeadsPast-operated :
    (edges : Edges) (place : Place) (terms : Terms) (before after : Overview) (passage : Passage)
    (port : AreOperated edges place terms before after passage)
    → (asked : List Call)
    × LeadsPast (IsPassed edges place) place.packages_must_exist (sizes_at edges place) IsAsked before (all_calls port.talked.2.rounds)
    asked after
LeadsPast-operated edges place terms before after passage port =
    LeadsPast-all (IsPassed edges place) place.packages_must_exist (sizes_at edges place) IsAsked (all_calls port.talked.2.rounds) before after
    (Leads-weaker (OperatorSteps edges place) (ChecksCall (IsPassed edges place) place.packages_must_exist (sizes_at edges place) IsAsked)
    (λ old call new stepped. stepped.0) (all_calls port.talked.2.rounds) before after port.talked.2.leads)

-- what stays of the operator's desk: what it is served with, and the names of what it borrows
pub AreOperated-along :
    {S R D N M Q O : Type 0} (edges_of : S → Edges) (set : D → Setup S R)
    (name : D → N) (other : D → M) (third : D → Q) (fourth : D → O) (part : D → Overview) (steps : D → Call → D → Type 0)
    (setup : Setup S R) (terms : Terms) (passage : Passage) (before behind : D)
    → ((old : D) (call : Call) (new : D) → steps old call new →
    (set new ≡ set old)
    × (name new ≡ name old) × (other new ≡ other old) × (third new ≡ third old) × (fourth new ≡ fourth old)
    × OperatorSteps (edges_of (set old).system.now) (set old).place.now (part old) call (part new))
    → set before ≡ setup
    → IsServedPort (edges_of setup.system.now) setup.place.now operator_path operator_type steps before behind terms passage
    → (name behind ≡ name before) × (other behind ≡ other before) × (third behind ≡ third before) × (fourth behind ≡ fourth before)
    × AreOperated (edges_of setup.system.now) setup.place.now terms (part before) (part behind) passage
AreOperated-along {S} {R} {D} edges_of set name other third fourth part steps setup terms passage before behind step first port =
    let edges = edges_of setup.system.now in
    let place = setup.place.now in
    let Kept : D → Type 0 = λ d. (set d ≡ setup) × (name d ≡ name before) × (other d ≡ other before) × (third d ≡ third before)
    × (fourth d ≡ fourth before) in
    let follows : Follows part Kept steps (OperatorSteps edges place) = λ old call new kept stepped.
    let told = step old call new stepped in (
      (told.0 ∙ kept.0, told.1 ∙ kept.1, told.2 ∙ kept.2, told.3 ∙ kept.3, told.4 ∙ kept.4),
      subst (λ (s : Setup S R). OperatorSteps (edges_of s.system.now) s.place.now (part old) call (part new)) kept.0 told.5,
    ) in
    let along = IsServedPort-along part Kept steps (OperatorSteps edges place) follows edges place operator_path operator_type terms passage
    before behind (first, refl, refl, refl, refl) port in
    (along.0.1, along.0.2, along.0.3, along.0.4, along.1)
