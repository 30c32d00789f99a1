-- Wrong machines whose replies don't say what is true, or whose offers lead nowhere, each in a run of the small service.
use Rattle.std.proofs.Common.{◌≡◌, ℕ, zero, suc, ◌<◌, inl, inr, List, [], ◌∷◌, length, Option, None, Some, refl, sym, ap, ◌∙◌, subst, arith}
use Rattle.catalogue.specs.declared.mirror.Mirror.{Mirror}
use Rattle.std.specs.List.{AllZip, zip}
use Rattle.std.specs.Option.{IfSome, option_map_or}
use Rattle.hex.proofs.OnLiterals.{hex_on_literals}
use Rattle.catalogue.specs.Histories.{History}
use Rattle.cohorts.specs.CohortTexts.{parsed}
use Rattle.omaha_json.specs.declared.reply.AppReply.{AppReply}
use Rattle.omaha_json.specs.declared.reply.Offer.{Offer}
use Rattle.payload_graph.specs.declared.payload.Payload.TheVariants.{Full}
use Rattle.catalogue.specs.Forms.{hash_of}
use Rattle.catalogue.specs.declared.content.Diff.{Diff}
use Rattle.catalogue.specs.declared.content.Release.{Release}
use Rattle.replies.specs.Replies.{check_reply}
use Rattle.replies.specs.declared.choices.Choice.{Choice}
use Rattle.theorems.specs.Asks.{IsGranted, offer_by, offer_in}
use Rattle.catalogue.specs.Versions as version
use Rattle.theorems.specs.Events.{Event, Grant, Render}
use Rattle.theorems.specs.Headline.{OfferLeads, OffersLead, OffersLeadToTargets, RepliesSayTrue, SayTrue, SaysTrue}
use Rattle.theorems.specs.Jobs.{Job, Pending, Rendered, new_worker, outcomes_of}
use Rattle.theorems.specs.Runs.{begins, small_batch, small_mirrors}
use Rattle.theorems.specs.Services.{content_at}
use Rattle.theorems.specs.Wrong.{offers_from_no_mirror, says_no_update}
use Rattle.theorems.proofs.WrongLemmas.{apart, no_job, small-accepted}

-- what a reply says and offers, of a job whose reply in the making is known
says :
    (mirrors : List Mirror) (history : History) (job : Job) (rendered : Rendered) → SayTrue mirrors history job rendered →
    (pending : Pending) → job.pending ≡ Some pending →
    AllZip (SaysTrue (content_at history job.number) mirrors pending.request.session)
    (zip pending.request.apps (outcomes_of pending)) rendered.reply.apps
says mirrors history job rendered true pending is =
    let both : Some true.pending ≡ Some pending = sym true.planned ∙ is in
    let same : true.pending ≡ pending = cc in
    subst
    (λ (p : Pending). AllZip (SaysTrue (content_at history job.number) mirrors p.request.session)
    (zip p.request.apps (outcomes_of p)) rendered.reply.apps)
    same true.each

leads :
    (mirrors : List Mirror) (history : History) (job : Job) (rendered : Rendered) →
    OffersLead mirrors history job rendered → (pending : Pending) → job.pending ≡ Some pending →
    AllZip (OfferLeads (content_at history job.number) mirrors pending.request.session) pending.request.apps
    rendered.reply.apps
leads mirrors history job rendered lead pending is =
    let both : Some lead.pending ≡ Some pending = sym lead.planned ∙ is in
    let same : lead.pending ≡ pending = cc in
    subst
    (λ (p : Pending). AllZip (OfferLeads (content_at history job.number) mirrors p.request.session) p.request.apps
    rendered.reply.apps)
    same lead.each

-- a worker replies to the small request, for which the mirror granted the bytes
abbrev replied_events : List Event
replied_events = begins 0 (Grant 0 0 3 ∷ Render 0 86400 ∷ [])

-- the client isn't at its target, and a chain leads there
pub untrue : ¬ (RepliesSayTrue says_no_update)
unfolding hex_on_literals version.version_of version.components_of version.lenient_version_of hash_of parsed
untrue law =
    let within : 0 < 1 = omega arith in
    let true = law small_mirrors (small_batch ∷ []) 1 replied_events small-accepted 0 (new_worker 1) within 0 no_job within in
    elim ((says _ _ _ _ true _ refl).0 _ (record { known = refl; wants = refl })) [
      | inl at ↦ cc
      | inr none ↦ none (Full 0 ∷ []) (refl, refl)
    ]

-- how long the codebase of an offer is, 1 if there is no offer
abbrev codebase_length : Option Offer → ℕ
codebase_length offer = option_map_or (λ (made : Offer). length made.full.codebase) offer 1

-- an offer from the one mirror has its codebase
has-codebase :
    (release : Option Release) (diff : Option Diff) (outcome : Option ℕ) → IfSome outcome (λ mirror. mirror < 1) →
    codebase_length (offer_by (check_reply small_mirrors release diff outcome)) ≡ 0 → ⊥
has-codebase None diff outcome within none = apart 1 0 refl none
has-codebase (Some release) diff None within none = apart 1 0 refl none
has-codebase (Some release) diff (Some zero) within none = apart 12 0 refl none
has-codebase (Some release) diff (Some (suc mirror)) within none = absurd (omega (arith, within))

granted-within : (choice : Option Choice) (outcome : Option ℕ) → IsGranted small_mirrors choice outcome →
    IfSome outcome (λ mirror. mirror < 1)
granted-within None outcome granted = subst (λ (o : Option ℕ). IfSome o (λ mirror. mirror < 1)) (sym granted) tt
granted-within (Some choice) None granted = absurd granted
granted-within (Some choice) (Some mirror) granted = granted

-- the offer has no codebase, so that the client's walk can't begin with it
pub nowhere : ¬ (OffersLeadToTargets offers_from_no_mirror)
unfolding hex_on_literals version.version_of version.components_of version.lenient_version_of hash_of parsed
nowhere law =
    let within : 0 < 1 = omega arith in
    let lead = law small_mirrors (small_batch ∷ []) 1 replied_events small-accepted 0 (new_worker 1) within 0 no_job within in
    let way = (leads _ _ _ _ lead _ refl).0 _ _ (record { known = refl; wants = refl }) refl in
    let first = way.walk.0 in
    has-codebase _ _ first.outcome (granted-within first.choice first.outcome first.granted)
    (sym (ap (λ (r : AppReply). codebase_length (offer_in r)) first.is))
