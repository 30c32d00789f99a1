-- What follows of the work of one worker, by a till that was opened for it.
use Rattle.std.proofs.Common.{◌≡◌, ◌+◌, ℕ, Bool, List, [], ◌∷◌, ◌++◌, Some, Result, Ok, Err, IfOk, append-nil, true, ◌&&◌, nat_le, length, map, refl, sym, ap, ap₂, ◌∙◌, subst, arith}
use Rattle.std.specs.Prelude.{MatchResult}
use Rattle.std.proofs.lemmas.List.{length-append, length-map}
use Rattle.std.proofs.lemmas.List.Elements.{All-pop}
use Rattle.catalogue.specs.declared.mirror.Mirror.{Mirror}
use Rattle.mirror_ledger.specs.Asks.{Ask}
use Rattle.mirror_ledger.specs.Tills.{AreOpened}
use Rattle.catalogue.specs.Histories.{History}
use Rattle.omaha_json.specs.declared.request.Request.{Request}
use Rattle.publisher.specs.Heard.{GoesOn}
use Rattle.publisher.specs.Sights.{Allows, Sight, fresh}
use Rattle.publisher.specs.Beginnings.{StartsWith}
use Rattle.service_desks.specs.Workers.{Replies, stock_of}
use Rattle.replies.specs.Answering.{IsReply}
use Rattle.replies.specs.Asking.{AreGranted, GrantsFirst}
use Rattle.omaha_commands.specs.Answering.{IsRepliedAlone, RepliesFor}

-- the asks of the only worker
pub only_worker : (workers : List (List Ask)) → length workers ≡ 1 → (asks : List Ask) × (workers ≡ asks ∷ [])
only_worker [] one = absurd (omega (arith, one))
only_worker (asks ∷ []) one = (asks, refl)
only_worker (asks ∷ more ∷ workers) one = absurd (omega (arith, one))

-- the only till's asks
pub only_till :
    {T : Type 0} (asks_of : T → List Ask) (rest : List T) (till : T) (asks : List Ask) →
    map asks_of (rest ++ till ∷ []) ≡ asks ∷ [] → (length rest ≡ 0) × (asks_of till ≡ asks)
only_till asks_of [] till asks same = (refl, cc)
only_till {T} asks_of (first ∷ rest) till asks same =
    let rest_long : length (map asks_of (rest ++ till ∷ [])) ≡ length rest + 1 = simp (length-map, length-append) in
    let long : length (map asks_of (first ∷ rest ++ till ∷ [])) ≡ 1 = ap (λ (all : List (List Ask)). length all) same in
    absurd (omega (arith, rest_long, long))

-- the only one of opened tills is alone, and was asked for nothing
pub alone_last :
    {T : Type 0} (mirrors_of : T → List Mirror) (asks_of : T → List Ask) (Alone : T → Type 0) (mirrors : List Mirror)
    (tills rest : List T) (till : T) →
    tills ≡ rest ++ till ∷ [] → AreOpened mirrors_of asks_of Alone true mirrors tills → length rest ≡ 0 →
    (mirrors_of till ≡ mirrors) × (asks_of till ≡ []) × Alone till
alone_last {T} mirrors_of asks_of Alone mirrors tills rest till same opened none =
    let one : length tills ≡ 1 = ap (λ (all : List T). length all) same ∙ length-append rest (till ∷ []) ∙ ap (λ (k : ℕ). k + 1) none in (
      (All-pop (λ t. mirrors_of t ≡ mirrors) tills rest (Some till) same opened.mirrored).1,
      (All-pop (λ t. asks_of t ≡ []) tills rest (Some till) same opened.unused).1,
      (All-pop Alone tills rest (Some till) same (opened.alone refl one)).1,
    )

-- all that was asked since nothing had been
AreGranted-all :
    (mirrors : List Mirror) (before after : List Ask) →
    before ≡ [] → GrantsFirst mirrors before after → AreGranted mirrors [] after
AreGranted-all mirrors before after none grants =
    let same : after ≡ grants.0 = grants.1 ∙ ap (λ (asks : List Ask). asks ++ grants.0) none in
    subst (λ (asks : List Ask). AreGranted mirrors asks after) none
    (subst (λ (asks : List Ask). AreGranted mirrors before asks) (sym same) grants.2)

-- the reply by a till of these mirrors that nothing had been asked of
pub IsRepliedAlone-reply :
    (mirrors given : List Mirror) (sight left : Sight) (request : Request) (moment : ℕ) (before after asks : List Ask) (text : List ℕ) →
    mirrors ≡ given → before ≡ [] → after ≡ asks → GrantsFirst mirrors before after →
    Replies mirrors (record { sight = sight; asks = before }) request moment (Ok text) (record { sight = left; asks = after }) →
    IsRepliedAlone given sight request moment asks text left
IsRepliedAlone-reply mirrors given sight left request moment before after asks text same none end grants replied =
    let granted = AreGranted-all given before after none (subst (λ (all : List Mirror). GrantsFirst all before after) same grants) in
    let here : Replies given (record { sight = sight; asks = before }) request moment (Ok text) (record { sight = left; asks = after }) =
    subst (λ (all : List Mirror). Replies all (record { sight = sight; asks = before }) request moment (Ok text) (record { sight = left; asks = after })) same replied in
    subst (λ (list : List Ask). IsRepliedAlone given sight request moment list text left) end
    (record {
      replies = subst (λ (first : List Ask). Replies given (record { sight = sight; asks = first }) request moment (Ok text) (record { sight = left; asks = after })) none here;
      granted = granted;
    })

-- a history that begins with another of its length is that one
same-history : (later earlier : History) → StartsWith later earlier → length later ≡ length earlier → later ≡ earlier
same-history later earlier (rest, is) long =
    is ∙ ap (λ (xs : History). earlier ++ xs) (no-rest rest (omega (arith, ap length is, length-append earlier rest, long))) ∙ append-nil earlier
  where
    no-rest : (rest : History) → length rest ≡ 0 → rest ≡ []
    no-rest [] none = refl
    no-rest (batch ∷ rest) none = absurd (omega (arith, none))

-- the reply of a view that has seen one edition, and sees as many batches afterwards, is that edition's
pub RepliesFor-same :
    (mirrors : List Mirror) (sight left : Sight) (request : Request) (moment : ℕ) (asks : List Ask) (text : List ℕ) (history : History) →
    IsRepliedAlone mirrors sight request moment asks text left → sight ≡ fresh history → left.seen ≡ sight.seen →
    RepliesFor history mirrors request moment text
RepliesFor-same mirrors sight left request moment asks text history replied is same =
    let (entered, enters, reply) = replied.replies in
    let began : GoesOn entered (history ∷ []) = (subst (λ (s : Sight). Allows s entered) is enters.allowed).1 in
    let long : length entered ≡ length history =
    sym (ap (λ (s : Sight). s.seen) enters.left) ∙ same ∙ ap (λ (s : Sight). s.seen) is in
    record {
      asks = asks;
      replied = subst (λ (h : History). IsReply (stock_of h mirrors) request moment [] asks text) (same-history entered history began.0 long) reply;
      granted = replied.granted;
    }

-- what holds of a value in both cases holds if it is there
pub IfOk-of :
    {A E : Type 0} {P Q : A → Type 0} (R : E → Type 0) (result : Result A E) →
    ((value : A) → Q value → P value) → MatchResult result Q R → IfOk result P
IfOk-of R (Ok value) step holds = step value holds
IfOk-of R (Err error) step holds = tt

-- the reply that a view gave is that of the edition that it had seen, if it saw as many batches
pub RepliesFor-seen :
    {A E F : Type 0} (items : A → List ℕ) (mirrors : List Mirror) (view old left : Sight) (request : Request) (moment : ℕ) (asks : List Ask)
    (reply : Result A F) (is_same : Bool) (replied : Result A E) →
    IfOk reply (λ text. IsRepliedAlone mirrors old request moment asks (items text) left) →
    old ≡ view → (is_same ≡ true → left.seen ≡ view.seen) →
    IfOk replied (λ text. (reply ≡ Ok text) × (is_same ≡ true)) →
    IfOk replied (λ text. (history : History) → view ≡ fresh history → RepliesFor history mirrors request moment (items text))
RepliesFor-seen items mirrors view old left request moment asks reply is_same (Err error) alone own seen said = tt
RepliesFor-seen {A} {E} {F} items mirrors view old left request moment asks reply is_same (Ok text) alone own seen said = λ history is.
    let here = subst (λ (r : Result A F). IfOk r (λ t. IsRepliedAlone mirrors old request moment asks (items t) left)) said.0 alone in
    RepliesFor-same mirrors old left request moment asks (items text) history here (own ∙ is)
    (seen said.1 ∙ sym (ap (λ (s : Sight). s.seen) own))
