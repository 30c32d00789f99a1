-- What is left to do for the workers of a service, and that it can be done by events, batch by batch.
use Rattle.std.proofs.Common.{◌≡◌, ℕ, zero, suc, ◌+◌, ◌<◌, ◌≤◌, ◌⊎◌, inl, inr, List, [], ◌∷◌, ◌++◌, length, map, None, Some, refl, sym, ap, ◌∙◌, append_assoc, subst, arith}
use Rattle.std.specs.List.{AllByRecursion, AllZip, flat_map, slice_get, sum_by}
use Rattle.std.proofs.lemmas.Bool.{cases_lt, cond_both}
use Rattle.std.proofs.lemmas.List.{append-nil, length-append}
use Rattle.std.proofs.lemmas.List.Sums.{sum_by-cons}
use Rattle.std.proofs.lemmas.Option.{none-some, same_Some}
use Rattle.catalogue.specs.declared.edit.Edit.{Edit}
use Rattle.catalogue.specs.Histories.{History}
use Rattle.http_desks.specs.Calls.{Call}
use Rattle.mirror_ledger.specs.Asks.{Ask, granted_at}
use Rattle.mirror_ledger.specs.Tills.{AreFull}
use Rattle.publisher.specs.Beginnings.{StartsWith}
use Rattle.publisher.specs.Sights.{Allows}
use Rattle.catalogue.specs.declared.mirror.Mirror.{Mirror}
use Rattle.service_desks.specs.Workers.{IsCall, Progress}
use Rattle.theorems.specs.Calls.{IsBetween, Sent, sent_by, sent_in}
use Rattle.theorems.specs.Events.{Event, happens, run}
use Rattle.theorems.specs.Jobs.{Worker}
use Rattle.theorems.specs.InterleavingServed.{IsOfFull}
use Rattle.theorems.specs.Services.{Service, changed_at, is_published, published}
use Rattle.theorems.proofs.ProgressLemmas.{allowed-before, granted-more, leads-on, seen-more, shorter}

-- a call, and what it led to
pub record Round : Type 0 where
  pub call : Call
  pub after : Progress

abbrev pub Chain : List Mirror → Progress → List Round → Progress → Type 0
Chain mirrors now [] left = left ≡ now
Chain mirrors now (round ∷ rounds) left = IsCall mirrors now round.call round.after × Chain mirrors round.after rounds
    left

-- the replies of some calls
abbrev pub sent_by_all : List Round → List Sent
sent_by_all rounds = flat_map sent_by (map (λ (round : Round). round.call) rounds)

-- a worker's task: where it is, what it sent, the calls that are left, where they lead, and all that it sends
pub record Task : Type 0 where
  pub now : Progress
  pub sent : List Sent
  pub rounds : List Round
  pub left : Progress
  pub whole : List Sent

-- the next call leads to at least so many batches
abbrev pub IsFrom : ℕ → List Round → Type 0
IsFrom number [] = Unit {0}
IsFrom number (round ∷ rounds) = number ≤ round.after.sight.seen

pub record IsTask (mirrors : List Mirror) (all : History) (number : ℕ) (task : Task) : Type 0 where
  pub chain : Chain mirrors task.now task.rounds task.left
  pub allowed : Allows task.left.sight all
  pub low : task.now.sight.seen ≤ number
  pub from : IsFrom number task.rounds
  pub whole : task.sent ++ sent_by_all task.rounds ≡ task.whole

-- its next call leads to more
abbrev pub IsLater : ℕ → Task → Type 0
IsLater number task = IsFrom (number + 1) task.rounds

-- what a view may enter at the end of a chain, it could enter at its start; and nothing that was granted is lost
pub allowed-now : (mirrors : List Mirror) (all : History) (now : Progress) (rounds : List Round) (left : Progress) →
    Chain mirrors now rounds left → Allows left.sight all → Allows now.sight all
allowed-now mirrors all now [] left chain allows = subst (λ (p : Progress). Allows p.sight all) chain allows
allowed-now mirrors all now (round ∷ rounds) left chain allows =
    allowed-before now round.after (leads-on mirrors now round.after round.call chain.0) all
    (allowed-now mirrors all round.after rounds left chain.1 allows)

pub granted-now : (mirrors : List Mirror) (mirror : ℕ) (now : Progress) (rounds : List Round) (left : Progress) →
    Chain mirrors now rounds left → granted_at mirror now.asks ≤ granted_at mirror left.asks
granted-now mirrors mirror now [] left chain =
    let same = ap (λ (p : Progress). granted_at mirror p.asks) chain in
    omega arith
granted-now mirrors mirror now (round ∷ rounds) left chain =
    let first = granted-more now round.after (leads-on mirrors now round.after round.call chain.0) mirror in
    let rest = granted-now mirrors mirror round.after rounds left chain.1 in
    omega arith

-- what is asked for joins what was asked for before
pub asks-now : (mirrors : List Mirror) (now : Progress) (rounds : List Round) (left : Progress) →
    Chain mirrors now rounds left → (more : List Ask) × (left.asks ≡ now.asks ++ more)
asks-now mirrors now [] left chain = ([], ap (λ (p : Progress). p.asks) chain ∙ sym (append-nil now.asks))
asks-now mirrors now (round ∷ rounds) left chain =
    let on = leads-on mirrors now round.after round.call chain.0 in
    let (more, is) = asks-now mirrors round.after rounds left chain.1 in (
      on.asks ++ more,
      is ∙ ap (λ (asks : List Ask). asks ++ more) on.asked ∙ append_assoc now.asks on.asks more,
    )

pub from-now : (mirrors : List Mirror) (number : ℕ) (now : Progress) (rounds : List Round) (left : Progress) →
    Chain mirrors now rounds left → number ≤ now.sight.seen → IsFrom number rounds
from-now mirrors number now [] left chain low = tt
from-now mirrors number now (round ∷ rounds) left chain low =
    let more = seen-more now round.after (leads-on mirrors now round.after round.call chain.0) in
    omega arith

-- more batches are published
pub IsTask-longer : (mirrors : List Mirror) (all : History) (number longer : ℕ) → number ≤ longer →
    longer ≤ number + 1 →
    (task : Task) → IsLater number task → IsTask mirrors all number task → IsTask mirrors all longer task
IsTask-longer mirrors all number longer less most task later is =
    let low = is.low in
    record {
      chain = is.chain;
      allowed = is.allowed;
      low = omega arith;
      from = from-more task.rounds later;
      whole = is.whole;
    }
  where
    from-more : (rounds : List Round) → IsFrom (number + 1) rounds → IsFrom longer rounds
    from-more [] later = tt
    from-more (round ∷ rounds) later = omega arith

-- a task whose next call leads to no more than so many batches
pub record Ready (number : ℕ) (tasks : List Task) : Type 0 where
  pub index : ℕ
  pub task : Task
  pub there : slice_get tasks index ≡ Some task
  pub round : Round
  pub rest : List Round
  pub is : task.rounds ≡ round ∷ rest
  pub low : round.after.sight.seen ≤ number

-- there is one, or all go on to more
abbrev pub Looked : ℕ → List Task → Type 0
Looked number tasks = Ready number tasks ⊎ AllByRecursion (IsLater number) tasks

look-further : (number : ℕ) (task : Task) (tasks : List Task) → IsLater number task → Looked number tasks →
    Looked number (task ∷ tasks)
look-further number task tasks later (inl ready) =
    inl (record {
      index = suc ready.index;
      task = ready.task;
      there = ready.there;
      round = ready.round;
      rest = ready.rest;
      is = ready.is;
      low = ready.low;
    })
look-further number task tasks later (inr all) = inr (later, all)

look-here : (number : ℕ) (task : Task) (tasks : List Task) (rounds : List Round) → task.rounds ≡ rounds →
    Looked number tasks → Looked number (task ∷ tasks)
look-here number task tasks [] is others = look-further number task tasks
    (subst (IsFrom (number + 1)) (sym is) tt) others
look-here number task tasks (round ∷ rest) is others = elim (cases_lt number round.after.sight.seen) [
  | inl more ↦
      let past : number + 1 ≤ round.after.sight.seen = omega arith in
      look-further number task tasks (subst (IsFrom (number + 1)) (sym is) past) others
  | inr low ↦
      inl (record { index = 0; task = task; there = refl; round = round; rest = rest; is = is; low = low })
]

pub look : (number : ℕ) (tasks : List Task) → Looked number tasks
look number [] = inr tt
look number (task ∷ tasks) = look-here number task tasks task.rounds refl (look number tasks)

-- the sum over a list of which one item is another one
pub sum-balance :
    {A : Type 0} (part : A → ℕ) (new old : A) (index : ℕ) (items : List A) → slice_get items index ≡ Some old →
    sum_by part (changed_at index (λ (a : A). new) items) + part old ≡ sum_by part items + part new
sum-balance part new old index [] there = absurd (none-some old there)
sum-balance part new old zero (item ∷ items) there =
    let same = ap part (same_Some item old there) in
    let after = sum_by-cons part new items in
    let before = sum_by-cons part item items in
    omega arith
sum-balance part new old (suc index) (item ∷ items) there =
    let rest = sum-balance part new old index items there in
    let after = sum_by-cons part item (changed_at index (λ a. new) items) in
    let before = sum_by-cons part item items in
    omega arith

pub sum-less : {A : Type 0} (part other : A → ℕ) (items : List A) →
    AllByRecursion (λ (item : A). part item ≤ other item) items →
    sum_by part items ≤ sum_by other items
sum-less part other [] all = omega arith
sum-less part other (item ∷ items) all =
    let rest = sum-less part other items all.1 in
    let first = all.0 in
    let one = sum_by-cons part item items in
    let two = sum_by-cons other item items in
    omega arith

pub sum-same : {A : Type 0} (part other : A → ℕ) (items : List A) →
    AllByRecursion (λ (item : A). part item ≡ other item) items →
    sum_by part items ≡ sum_by other items
sum-same part other [] all = refl
sum-same part other (item ∷ items) all =
    let rest = sum-same part other items all.1 in
    let first = all.0 in
    let one = sum_by-cons part item items in
    let two = sum_by-cons other item items in
    omega arith

-- what is read of the changed item is as before
pub map-changed : {A B : Type 0} (read : A → B) (new old : A) (index : ℕ) (items : List A) →
    slice_get items index ≡ Some old →
    read new ≡ read old → map read (changed_at index (λ (a : A). new) items) ≡ map read items
map-changed read new old index [] there same = refl
map-changed {A} {B} read new old zero (item ∷ items) there same =
    ap (λ (b : B). b ∷ map read items) (same ∙ sym (ap read (same_Some item old there)))
map-changed {A} {B} read new old (suc index) (item ∷ items) there same =
    ap (λ (rest : List B). read item ∷ rest) (map-changed read new old index items there same)

-- two lists that go together, with one item changed in each
pub zip-both : {A B : Type 0} (R : A → B → Type 0) (a : A) (b : B) (index : ℕ) (xs : List A) (ys : List B) → R a b →
    AllZip R xs ys → AllZip R (changed_at index (λ (x : A). a) xs) (changed_at index (λ (y : B). b) ys)
zip-both R a b index [] [] is all = tt
zip-both R a b index [] (y ∷ ys) is all = absurd all
zip-both R a b index (x ∷ xs) [] is all = absurd all
zip-both R a b zero (x ∷ xs) (y ∷ ys) is all = (is, all.1)
zip-both R a b (suc index) (x ∷ xs) (y ∷ ys) is all = (all.0, zip-both R a b index xs ys is all.1)

-- the item that goes with another one
pub record Partner {A B : Type 0} (R : A → B → Type 0) (a : A) (index : ℕ) (ys : List B) : Type 0 where
  pub item : B
  pub there : slice_get ys index ≡ Some item
  pub is : R a item

pub partner : {A B : Type 0} (R : A → B → Type 0) (a : A) (index : ℕ) (xs : List A) (ys : List B) →
    slice_get xs index ≡ Some a → AllZip R xs ys → Partner R a index ys
partner R a index [] ys there all = absurd (none-some a there)
partner R a index (x ∷ xs) [] there all = absurd all
partner {A} {B} R a zero (x ∷ xs) (y ∷ ys) there all =
    record { item = y; there = refl; is = subst (λ (own : A). R own y) (same_Some x a there) all.0 }
partner R a (suc index) (x ∷ xs) (y ∷ ys) there all =
    let rest = partner R a index xs ys there all.1 in
    record { item = rest.item; there = rest.there; is = rest.is }

-- batches that are given one after the other, each by somebody who knows of so many
abbrev pub Given : Type 0
Given = List (ℕ × List Edit)

abbrev pub shown : History → Given → History
shown history [] = history
shown history (given ∷ more) = shown (published history given.0 given.1) more

starts-same : (history : History) → StartsWith history history
starts-same history = ([], sym (append-nil history))

starts-published : (history : History) (known : ℕ) (batch : List Edit) →
    StartsWith (published history known batch) history
starts-published history known batch =
    cond_both (is_published history known batch) (history ++ batch ∷ []) history (λ (h : History). StartsWith h history)
    (λ taken. (batch ∷ [], refl)) (λ none. starts-same history)

pub length-published : (history : History) (known : ℕ) (batch : List Edit) →
    length (published history known batch) ≤ length history + 1
length-published history known batch =
    cond_both (is_published history known batch) (history ++ batch ∷ []) history
    (λ (h : History). length h ≤ length history + 1)
    (λ taken. let long = length-append history (batch ∷ []) in omega arith) (λ none. omega arith)

pub shorter-published : (history : History) (known : ℕ) (batch : List Edit) →
    length history ≤ length (published history known batch)
shorter-published history known batch =
    shorter (published history known batch) history (starts-published history known batch)

pub starts-shown : (history : History) (given : Given) → StartsWith (shown history given) history
starts-shown history [] = starts-same history
starts-shown history (given ∷ more) =
    let (rest, is) = starts-shown (published history given.0 given.1) more in
    let (first, own) = starts-published history given.0 given.1 in
    (first ++ rest, is ∙ ap (λ (h : History). h ++ rest) own ∙ append_assoc history first rest)

-- what is granted of a mirror so far, and at the end
abbrev pub granted_so_far : ℕ → Task → ℕ
granted_so_far mirror task = granted_at mirror task.now.asks

abbrev pub granted_in_all : ℕ → Task → ℕ
granted_in_all mirror task = granted_at mirror task.left.asks

-- a service whose workers are at their tasks
pub record IsServing (mirrors : List Mirror) (all : History) (tasks : List Task) (given : Given)
    (service : Service) : Type 0 where
  pub workers : AllZip (λ (task : Task) (worker : Worker). IsBetween task.now task.sent worker) tasks service.workers
  pub totals : (mirror : ℕ) → (service.books mirror).total ≡ sum_by (granted_so_far mirror) tasks
  pub within :
      (mirror : ℕ) → mirror < length mirrors → sum_by (granted_in_all mirror) tasks ≤ (service.books mirror).budget
  pub each : AllByRecursion (IsTask mirrors all (length service.history)) tasks
  pub shows : shown service.history given ≡ all

-- what was rejected of a task's asks had no room
abbrev pub HadNone : List Mirror → List ℕ → Task → Type 0
HadNone mirrors totals task = AllByRecursion (λ (ask : Ask). ask.1 ≡ None → AreFull mirrors totals ask.0) task.left.asks

-- a service whose workers have done their tasks, after some events; if what was rejected had no room, these are of full
-- mirrors
pub record HasDone (mirrors : List Mirror) (totals_left : List ℕ) (all : History) (tasks : List Task)
    (service : Service) : Type 0 where
  pub events : List Event
  pub last : Service
  pub leads : run happens mirrors service events ≡ last
  pub history : last.history ≡ all
  pub budgets : (mirror : ℕ) → (last.books mirror).budget ≡ (service.books mirror).budget
  pub sent : map sent_in last.workers ≡ map (λ (task : Task). task.whole) tasks
  pub idle : AllByRecursion (λ (worker : Worker). worker.job ≡ None) last.workers
  pub totals : (mirror : ℕ) → (last.books mirror).total ≡ sum_by (granted_in_all mirror) tasks
  pub rejected : AllByRecursion (HadNone mirrors totals_left) tasks → AllByRecursion (IsOfFull mirrors totals_left) events
