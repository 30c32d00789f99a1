-- A service in which one worker is in the place of another, and what the events of that worker make of it.
use Rattle.std.proofs.Common.{◌≡◌, ℕ, zero, suc, ◌+◌, ◌<◌, ◌≤◌, ◌&&◌, Bool, true, false, cond, eqb, ltb, List, [], ◌∷◌, ◌++◌, length, map, Option, None, Some, refl, sym, ap, ◌∙◌, append_assoc, subst, arith}
use Rattle.std.specs.List.{AllByRecursion, slice_get}
use Rattle.std.specs.Option.{option_map_or}
use Rattle.std.proofs.lemmas.Bool.{and_from, cond-false, cond-true, eq-eqb, false_from_ne_true, le-leb, leb-true, lt-ltb, ne_eqb}
use Rattle.std.proofs.lemmas.List.{append-nil, length-append}
use Rattle.std.proofs.lemmas.List.Sums.{sum_by-cons, sum_by_push}
use Rattle.std.proofs.lemmas.Option.{none-some, same_Some}
use Rattle.catalogue.specs.Histories.{History}
use Rattle.mirror_ledger.specs.Asks.{Ask, booked, granted_at}
use Rattle.mirror_books.specs.Budgets.{Account}
use Rattle.mirror_ledger.specs.Order.{HasRoomAt, IsFirstWithRoom}
use Rattle.omaha_json.specs.declared.request.Request.{Request}
use Rattle.catalogue.specs.declared.mirror.Mirror.{Mirror}
use Rattle.replies.specs.declared.choices.Choice.{Choice}
use Rattle.replies.specs.Asking.{AreGranted}
use Rattle.theorems.specs.Calls.{AreForRoom, IsOfOneWorker, ask_events, asks_events, rejections}
use Rattle.theorems.specs.Events.{Event, Grant, Reject, asks, decided, granted, happens, moved, rejected, run}
use Rattle.theorems.specs.Jobs.{EndedJob, Pending, Worker, bytes_asked}
use Rattle.theorems.specs.Moves.{after_grant, after_rejection, is_asking, with_outcome, with_pending}
use Rattle.theorems.specs.Services.{Service, changed_at, has_room, with_grant}
use Rattle.theorems.proofs.KeptLemmas.{IsNamed}
use Rattle.theorems.proofs.EventPlaceLemmas.{slice_get-seam}
use Rattle.theorems.proofs.RunLemmas.{run-append}

-- an item that was put at an index, and is changed
changed-twice :
    {A : Type 0} (change : A → A) (item : A) (index : ℕ) (items : List A) →
    changed_at index change (changed_at index (λ (old : A). item) items)
    ≡ changed_at index (λ (old : A). change item) items
changed-twice change item index [] = refl
changed-twice change item zero (first ∷ items) = refl
changed-twice {A} change item (suc index) (first ∷ items) =
    ap (λ (rest : List A). first ∷ rest) (changed-twice change item index items)

-- is there
pub there-changed :
    {A : Type 0} (item old : A) (index : ℕ) (items : List A) → slice_get items index ≡ Some old →
    slice_get (changed_at index (λ (other : A). item) items) index ≡ Some item
there-changed item old index [] there = absurd (none-some old there)
there-changed item old zero (first ∷ items) there = refl
there-changed item old (suc index) (first ∷ items) there = there-changed item old index items there

-- the item that is there already
pub changed-own :
    {A : Type 0} (old : A) (index : ℕ) (items : List A) → slice_get items index ≡ Some old →
    changed_at index (λ (other : A). old) items ≡ items
changed-own old index [] there = refl
changed-own {A} old zero (first ∷ items) there = ap (λ (a : A). a ∷ items) (sym (same_Some first old there))
changed-own {A} old (suc index) (first ∷ items) there =
    ap (λ (rest : List A). first ∷ rest) (changed-own old index items there)

-- shares and books after an ask, and after some
abbrev pub share_by : (ℕ → ℕ) → ℕ → Option ℕ → ℕ → ℕ
share_by share bytes None = share
share_by share bytes (Some granting) = λ mirror. share mirror + booked mirror bytes (Some granting)

abbrev pub books_by : (ℕ → Account) → ℕ → Option ℕ → ℕ → Account
books_by books bytes None = books
books_by books bytes (Some granting) = with_grant books granting bytes

abbrev pub share_after : (ℕ → ℕ) → List Ask → ℕ → ℕ
share_after share [] = share
share_after share (ask ∷ asks) = share_after (share_by share ask.0 ask.1) asks

abbrev pub books_after : (ℕ → Account) → List Ask → ℕ → Account
books_after books [] = books
books_after books (ask ∷ asks) = books_after (books_by books ask.0 ask.1) asks

share_by-is : (share : ℕ → ℕ) (bytes : ℕ) (outcome : Option ℕ) (mirror : ℕ) →
    share_by share bytes outcome mirror ≡ share mirror + booked mirror bytes outcome
share_by-is share bytes None mirror = omega arith
share_by-is share bytes (Some granting) mirror = refl

books_by-is : (books : ℕ → Account) (bytes : ℕ) (outcome : Option ℕ) (mirror : ℕ) →
    (books_by books bytes outcome mirror).total ≡ (books mirror).total + booked mirror bytes outcome
books_by-is books bytes None mirror = omega arith
books_by-is books bytes (Some granting) mirror = refl

pub share_after-is : (share : ℕ → ℕ) (asks : List Ask) (mirror : ℕ) →
    share_after share asks mirror ≡ share mirror + granted_at mirror asks
share_after-is share [] mirror = omega arith
share_after-is share (ask ∷ asks) mirror =
    let rest = share_after-is (share_by share ask.0 ask.1) asks mirror in
    let one = share_by-is share ask.0 ask.1 mirror in
    let whole = sum_by-cons (λ (a : Ask). booked mirror a.0 a.1) ask asks in
    omega arith

pub books_after-is : (books : ℕ → Account) (asks : List Ask) (mirror : ℕ) →
    (books_after books asks mirror).total ≡ (books mirror).total + granted_at mirror asks
books_after-is books [] mirror = omega arith
books_after-is books (ask ∷ asks) mirror =
    let rest = books_after-is (books_by books ask.0 ask.1) asks mirror in
    let one = books_by-is books ask.0 ask.1 mirror in
    let whole = sum_by-cons (λ (a : Ask). booked mirror a.0 a.1) ask asks in
    omega arith

books_by-budget : (books : ℕ → Account) (bytes : ℕ) (outcome : Option ℕ) (mirror : ℕ) →
    (books_by books bytes outcome mirror).budget ≡ (books mirror).budget
books_by-budget books bytes None mirror = refl
books_by-budget books bytes (Some granting) mirror = refl

pub books_after-budget : (books : ℕ → Account) (asks : List Ask) (mirror : ℕ) →
    (books_after books asks mirror).budget ≡ (books mirror).budget
books_after-budget books [] mirror = refl
books_after-budget books (ask ∷ asks) mirror =
    books_after-budget (books_by books ask.0 ask.1) asks mirror ∙ books_by-budget books ask.0 ask.1 mirror

-- the mirrors before this one reject an ask of such an outcome
abbrev pub rejected_by : List Mirror → Option ℕ → ℕ
rejected_by mirrors None = length mirrors
rejected_by mirrors (Some mirror) = mirror

-- they have no room for it, nor for the asks after it
abbrev pub HaveNoRoom : List Mirror → (ℕ → Account) → List Ask → Type 0
HaveNoRoom mirrors books [] = Unit {0}
HaveNoRoom mirrors books (ask ∷ asks) =
    ((at : ℕ) → at < rejected_by mirrors ask.1 → has_room (books at) ask.0 ≡ false)
    × HaveNoRoom mirrors (books_by books ask.0 ask.1) asks

-- of two lists of events
pub for-room-append : (mirrors : List Mirror) (events more : List Event) (service : Service) →
    AreForRoom mirrors service events → AreForRoom mirrors (run happens mirrors service events) more →
    AreForRoom mirrors service (events ++ more)
for-room-append mirrors [] more service first second = second
for-room-append mirrors (event ∷ events) more service first second =
    (first.0, for-room-append mirrors events more (happens mirrors service event) first.1 second)

-- what is granted by the first mirror with room, to a worker that is alone
pub no-room-first : (mirrors : List Mirror) (books : ℕ → Account) (before asks : List Ask) →
    IsOfOneWorker mirrors books before → AreGranted mirrors before asks → HaveNoRoom mirrors books asks
no-room-first mirrors books before [] alone granted = tt
no-room-first mirrors books before (ask ∷ asks) alone granted = (
  at-first ask.1 granted.0,
  no-room-first mirrors (books_by books ask.0 ask.1) (before ++ ask ∷ []) asks
      (λ mirror below. (
        (let own = (alone mirror below).0 in
            let more = books_by-is books ask.0 ask.1 mirror in
            let all = sum_by_push (λ (a : Ask). booked mirror a.0 a.1) before ask in
            omega arith),
        books_by-budget books ask.0 ask.1 mirror ∙ (alone mirror below).1,
      ))
      granted.1,
)
  where
    full : (at : ℕ) → at < length mirrors → (HasRoomAt mirrors before ask.0 at → ⊥) → has_room (books at) ask.0 ≡ false
    full at below none =
        let total = (alone at below).0 in
        let budget = (alone at below).1 in
        false_from_ne_true (has_room (books at) ask.0)
        (λ room.
        let low = leb-true ((books at).total + ask.0) (books at).budget room in
        none (omega arith))

    at-first : (outcome : Option ℕ) → IsFirstWithRoom mirrors before ask.0 outcome →
        (at : ℕ) → at < rejected_by mirrors outcome → has_room (books at) ask.0 ≡ false
    at-first None first at below = full at below (first at below)
    at-first (Some mirror) first at below =
        let within = first.0 in
        full at (omega arith) (first.2 at below)

-- a mirror that isn't the last one rejects, and the last one
not-last : (mirrors : List Mirror) (mirror : ℕ) (pending : Pending) → (mirror + 1 ≡ length mirrors → ⊥) →
    after_rejection mirrors mirror pending ≡ record pending { tried = mirror + 1 }
not-last mirrors mirror pending other =
    cond-false (eqb (mirror + 1) (length mirrors)) (with_outcome None pending) (record pending { tried = mirror + 1 })
    (ne_eqb (mirror + 1) (length mirrors) other)

last : (mirrors : List Mirror) (mirror : ℕ) (pending : Pending) → mirror + 1 ≡ length mirrors →
    after_rejection mirrors mirror pending ≡ with_outcome None pending
last mirrors mirror pending same =
    cond-true (eqb (mirror + 1) (length mirrors)) (with_outcome None pending) (record pending { tried = mirror + 1 })
    (eq-eqb (mirror + 1) (length mirrors) same)

module _ (mirrors : List Mirror) (history : History) (workers : List Worker) (index : ℕ) (old : Worker)
    (there : slice_get workers index ≡ Some old) where
  -- the service with a worker at the index, and some books
  abbrev pub state : Worker → (ℕ → Account) → Service
  state worker books =
      record { history = history; books = books; workers = changed_at index (λ (other : Worker). worker) workers }

  -- the worker moves
  pub moves : (move : Worker → Worker) (worker : Worker) (books : ℕ → Account) →
      moved index move (state worker books) ≡ state (move worker) books
  moves move worker books =
      ap (λ (ws : List Worker). record { history = history; books = books; workers = ws })
      (changed-twice move worker index workers)

  module _ (request : Request) (choices : List (Option Choice)) (seen number : ℕ) (ended : List EndedJob) where
    -- a reply in the making, and a worker that has it
    abbrev pub pending_with : List (Option ℕ) → ℕ → Pending
    pending_with outcomes tried =
        record { request = request; choices = choices; outcomes = outcomes; tried = tried }

    abbrev pub busy : (ℕ → ℕ) → Pending → Worker
    busy share pending =
        record {
          seen = seen;
          job = Some (record { number = number; pending = Some pending });
          ended = ended;
          share
              = share;
        }

    module _ (share : ℕ → ℕ) (books : ℕ → Account) (outcomes : List (Option ℕ)) (bytes : ℕ)
        (next : slice_get (bytes_asked choices) (length outcomes) ≡ Some bytes) where
      abbrev trying : ℕ → Service
      trying tried = state (busy share (pending_with outcomes tried)) books

      is-asked : (mirror : ℕ) → mirror < length mirrors → asks mirrors (trying mirror) index mirror bytes ≡ true
      is-asked mirror within =
          ap (λ (o : Option Worker). option_map_or (is_asking mirrors mirror bytes) o false)
          (there-changed (busy share (pending_with outcomes mirror)) old index workers there)
          ∙ and_from (option_map_or (λ (size : ℕ). eqb size bytes)
          (slice_get (bytes_asked choices) (length outcomes)) false)
          (eqb mirror mirror && ltb mirror (length mirrors))
          (ap (λ (o : Option ℕ). option_map_or (λ (size : ℕ). eqb size bytes) o false) next ∙ eq-eqb bytes bytes refl)
          (and_from (eqb mirror mirror) (ltb mirror (length mirrors)) (eq-eqb mirror mirror refl)
          (lt-ltb mirror (length mirrors) within))

      rejects : (mirror : ℕ) → mirror < length mirrors →
          happens mirrors (trying mirror) (Reject index mirror bytes)
          ≡ state (busy share (after_rejection mirrors mirror (pending_with outcomes mirror))) books
      rejects mirror within =
          cond-true (asks mirrors (trying mirror) index mirror bytes) (rejected mirrors index mirror (trying mirror))
          (trying mirror) (is-asked mirror within)
          ∙ moves (with_pending (after_rejection mirrors mirror)) (busy share (pending_with outcomes mirror)) books

      -- some mirrors reject, and there are more
      some-reject : (count mirror : ℕ) → mirror + count < length mirrors →
          run happens mirrors (trying mirror) (rejections index bytes mirror count) ≡ trying (mirror + count)
      some-reject zero mirror within =
          let same : mirror ≡ mirror + 0 = omega arith in
          ap trying same
      some-reject (suc count) mirror within =
          let same : mirror + 1 + count ≡ mirror + suc count = omega arith in
          ap (λ (s : Service). run happens mirrors s (rejections index bytes (mirror + 1) count))
          (rejects mirror (omega arith)
          ∙ ap (λ (p : Pending). state (busy share p) books)
          (not-last mirrors mirror (pending_with outcomes mirror) (λ last. omega arith)))
          ∙ some-reject count (mirror + 1) (omega arith)
          ∙ ap trying same

      -- all that are left reject
      abbrev rejected_by_all : Service
      rejected_by_all = state (busy share (pending_with (outcomes ++ None ∷ []) 0)) books

      all-reject : (count mirror : ℕ) → mirror + count + 1 ≡ length mirrors →
          run happens mirrors (trying mirror) (rejections index bytes mirror (suc count)) ≡ rejected_by_all
      all-reject zero mirror whole =
          rejects mirror (omega arith)
          ∙ ap (λ (p : Pending). state (busy share p) books)
          (last mirrors mirror (pending_with outcomes mirror) (omega arith))
      all-reject (suc count) mirror whole =
          ap (λ (s : Service). run happens mirrors s (rejections index bytes (mirror + 1) (suc count)))
          (rejects mirror (omega arith)
          ∙ ap (λ (p : Pending). state (busy share p) books)
          (not-last mirrors mirror (pending_with outcomes mirror) (λ same. omega arith)))
          ∙ all-reject count (mirror + 1) (omega arith)

      none-grants : (count : ℕ) → 1 ≤ count → count ≡ length mirrors →
          run happens mirrors (trying 0) (rejections index bytes 0 count) ≡ rejected_by_all
      none-grants zero some whole = absurd (omega arith)
      none-grants (suc count) some whole = all-reject count 0 (omega arith)

      -- if they have no room, that is why
      for-room : (count mirror : ℕ) → mirror + count ≤ length mirrors →
          ((at : ℕ) → at < mirror + count → has_room (books at) bytes ≡ false) →
          AreForRoom mirrors (trying mirror) (rejections index bytes mirror count)
      for-room zero mirror within full = tt
      for-room (suc zero) mirror within full = (full mirror (omega arith), tt)
      for-room (suc (suc count)) mirror within full = (
        full mirror (omega arith),
        subst (λ (s : Service). AreForRoom mirrors s (rejections index bytes (mirror + 1) (suc count)))
            (sym (rejects mirror (omega arith)
            ∙ ap (λ (p : Pending). state (busy share p) books)
            (not-last mirrors mirror (pending_with outcomes mirror) (λ last. omega arith))))
            (for-room (suc count) (mirror + 1) (omega arith) (λ at below. full at (omega arith))),
      )

      -- a mirror grants
      grants : (mirror : ℕ) → mirror < length mirrors → (books mirror).total + bytes ≤ (books mirror).budget →
          happens mirrors (trying mirror) (Grant index mirror bytes)
          ≡ state (busy (share_by share bytes (Some mirror)) (pending_with (outcomes ++ Some mirror ∷ []) 0))
          (books_by books bytes (Some mirror))
      grants mirror within room =
          cond-true (asks mirrors (trying mirror) index mirror bytes)
          (decided mirrors index mirror bytes (trying mirror))
          (trying mirror) (is-asked mirror within)
          ∙ cond-true (has_room (books mirror) bytes) (granted index mirror bytes (trying mirror))
          (rejected mirrors index mirror (trying mirror))
          (le-leb ((books mirror).total + bytes) (books mirror).budget room)
          ∙ ap
          (λ (ws : List Worker). record { history = history; books = with_grant books mirror bytes; workers = ws })
          (changed-twice (after_grant mirror bytes) (busy share (pending_with outcomes mirror)) index workers)

      -- one ask
      asked-once : (outcome : Option ℕ) → 1 ≤ length mirrors → IsNamed mirrors outcome →
          ((mirror : ℕ) → mirror < length mirrors → (books mirror).total + booked mirror bytes outcome
          ≤ (books mirror).budget) →
          run happens mirrors (trying 0) (ask_events mirrors index bytes outcome)
          ≡ state (busy (share_by share bytes outcome) (pending_with (outcomes ++ outcome ∷ []) 0))
          (books_by books bytes outcome)
      asked-once None some named room = none-grants (length mirrors) some refl
      asked-once (Some mirror) some named room =
          let start : 0 + mirror ≡ mirror = omega arith in
          let own = ap (λ (b : Bool). (books mirror).total + cond b bytes 0) (eq-eqb mirror mirror refl) in
          let within = room mirror named in
          run-append happens mirrors (rejections index bytes 0 mirror) (Grant index mirror bytes ∷ []) (trying 0)
          ∙ ap (λ (s : Service). happens mirrors s (Grant index mirror bytes))
          (some-reject mirror 0 (omega arith) ∙ ap trying start)
          ∙ grants mirror named (omega arith)

      -- the mirrors that reject one ask have no room
      once-for-room : (outcome : Option ℕ) → IsNamed mirrors outcome →
          ((at : ℕ) → at < rejected_by mirrors outcome → has_room (books at) bytes ≡ false) →
          AreForRoom mirrors (trying 0) (ask_events mirrors index bytes outcome)
      once-for-room None named full = for-room (length mirrors) 0 (omega arith) (λ at below. full at (omega arith))
      once-for-room (Some mirror) named full =
          for-room-append mirrors (rejections index bytes 0 mirror) (Grant index mirror bytes ∷ []) (trying 0)
          (for-room mirror 0 (omega arith) (λ at below. full at (omega arith))) (tt, tt)

    -- some asks, after those that have an outcome
    abbrev pub outcomes_in : List Ask → List (Option ℕ)
    outcomes_in asks = map (λ (ask : Ask). ask.1) asks

    abbrev pub sizes_in : List Ask → List ℕ
    sizes_in asks = map (λ (ask : Ask). ask.0) asks

    module _ (some : 1 ≤ length mirrors) where
      pub asked :
          (asks : List Ask) (before rest : List ℕ) (outcomes : List (Option ℕ)) (share : ℕ → ℕ) (books : ℕ → Account) →
          bytes_asked choices ≡ before ++ (sizes_in asks ++ rest) → length outcomes ≡ length before →
          AllByRecursion (λ (ask : Ask). IsNamed mirrors ask.1) asks →
          ((mirror : ℕ) → mirror < length mirrors → (books mirror).total + granted_at mirror asks
          ≤ (books mirror).budget) →
          run happens mirrors (state (busy share (pending_with outcomes 0)) books) (asks_events mirrors index asks)
          ≡ state (busy (share_after share asks) (pending_with (outcomes ++ outcomes_in asks) 0))
          (books_after books asks)
      asked [] before rest outcomes share books parts sized named room =
          ap (λ (os : List (Option ℕ)). state (busy share (pending_with os 0)) books) (sym (append-nil outcomes))
      asked (ask ∷ asks) before rest outcomes share books parts sized named room =
          let next = ap (λ (sizes : List ℕ). slice_get sizes (length outcomes)) parts
          ∙ ap (slice_get (before ++ (ask.0 ∷ sizes_in asks ++ rest))) sized
          ∙ slice_get-seam before ask.0 (sizes_in asks ++ rest) in
          let long = length-append outcomes (ask.1 ∷ []) in
          let wide = length-append before (ask.0 ∷ []) in
          let cons = λ (mirror : ℕ). sum_by-cons (λ (a : Ask). booked mirror a.0 a.1) ask asks in
          run-append happens mirrors (ask_events mirrors index ask.0 ask.1) (asks_events mirrors index asks)
          (state (busy share (pending_with outcomes 0)) books)
          ∙ ap (λ (s : Service). run happens mirrors s (asks_events mirrors index asks))
          (asked-once share books outcomes ask.0 next ask.1 some named.0
          (λ mirror below.
          let all = room mirror below in
          let both = cons mirror in
          omega arith))
          ∙ asked asks (before ++ ask.0 ∷ []) rest (outcomes ++ ask.1 ∷ []) (share_by share ask.0 ask.1)
          (books_by books ask.0 ask.1)
          (parts ∙ sym (append_assoc before (ask.0 ∷ []) (sizes_in asks ++ rest)))
          (omega arith) named.1
          (λ mirror below.
          let all = room mirror below in
          let both = cons mirror in
          let own = books_by-is books ask.0 ask.1 mirror in
          let budget = books_by-budget books ask.0 ask.1 mirror in
          omega arith)
          ∙ ap
          (λ (os : List (Option ℕ)). state (busy (share_after share (ask ∷ asks)) (pending_with os 0))
          (books_after books (ask ∷ asks)))
          (append_assoc outcomes (ask.1 ∷ []) (outcomes_in asks))

      -- the mirrors that reject some asks have no room
      pub asked-for-room :
          (asks : List Ask) (before rest : List ℕ) (outcomes : List (Option ℕ)) (share : ℕ → ℕ) (books : ℕ → Account) →
          bytes_asked choices ≡ before ++ (sizes_in asks ++ rest) → length outcomes ≡ length before →
          AllByRecursion (λ (ask : Ask). IsNamed mirrors ask.1) asks →
          ((mirror : ℕ) → mirror < length mirrors → (books mirror).total + granted_at mirror asks
          ≤ (books mirror).budget) →
          HaveNoRoom mirrors books asks →
          AreForRoom mirrors (state (busy share (pending_with outcomes 0)) books) (asks_events mirrors index asks)
      asked-for-room [] before rest outcomes share books parts sized named room full = tt
      asked-for-room (ask ∷ asks) before rest outcomes share books parts sized named room full =
          let next = ap (λ (sizes : List ℕ). slice_get sizes (length outcomes)) parts
          ∙ ap (slice_get (before ++ (ask.0 ∷ sizes_in asks ++ rest))) sized
          ∙ slice_get-seam before ask.0 (sizes_in asks ++ rest) in
          let long = length-append outcomes (ask.1 ∷ []) in
          let wide = length-append before (ask.0 ∷ []) in
          let cons = λ (mirror : ℕ). sum_by-cons (λ (a : Ask). booked mirror a.0 a.1) ask asks in
          for-room-append mirrors (ask_events mirrors index ask.0 ask.1) (asks_events mirrors index asks)
          (state (busy share (pending_with outcomes 0)) books)
          (once-for-room share books outcomes ask.0 next ask.1 named.0 full.0)
          (subst (λ (s : Service). AreForRoom mirrors s (asks_events mirrors index asks))
          (sym (asked-once share books outcomes ask.0 next ask.1 some named.0
          (λ mirror below.
          let all = room mirror below in
          let both = cons mirror in
          omega arith)))
          (asked-for-room asks (before ++ ask.0 ∷ []) rest (outcomes ++ ask.1 ∷ []) (share_by share ask.0 ask.1)
          (books_by books ask.0 ask.1)
          (parts ∙ sym (append_assoc before (ask.0 ∷ []) (sizes_in asks ++ rest)))
          (omega arith) named.1
          (λ mirror below.
          let all = room mirror below in
          let both = cons mirror in
          let own = books_by-is books ask.0 ask.1 mirror in
          let budget = books_by-budget books ask.0 ask.1 mirror in
          omega arith)
          full.1))
