-- The pages of a server's lines, once the senders have ended.
use Rattle.std.proofs.Common.{◌≡◌, ◌∙◌, ◌-◌, ℕ, Bool, true, false, List, [], Option, Some, None, Result, Ok, Err, IfOk, IfSome, ap, arith, if◌then◌else◌, is_some, length, map, not, option_map, refl, subst, sym}
use Rattle.std.proofs.lemmas.List.{length-append}
use Rattle.std.proofs.lemmas.Slice.Zip.{AllZip-long}
use Rattle.http_ports.specs.Speech.{one_if}
use Rattle.access_logs.specs.Queues.{Ended, HaveEnded, IsWhole, Sending}
use Rattle.access_logs.specs.declared.queues.page.Page.{Page}
use Rattle.rtrb.specs.Ring.{SameProducer}
use Rattle.streams.specs.Streams.{Known}
use Rattle.server_ports.specs.Logging.{AreLogged, BeginWith, Both, IsFilled, LogsElsewhere, file_of, is_dash, logs_here, unless}
use Rattle.server_ports.specs.Passages.{Passages}
use Rattle.omaha_server.proofs.SenderLemmas.{AreSame}

is_some-map : {A B : Type 0} (f : A → B) (option : Option A) → is_some (option_map f option) ≡ is_some option
is_some-map f None = refl
is_some-map f (Some a) = refl

-- those that are elsewhere have ended, too
pub unless-same :
    (elsewhere : Bool) (senders : List Sending) (ended : List Ended) → AreSame senders ended →
    AreSame (unless elsewhere senders) (unless elsewhere ended)
unless-same true senders ended same = tt
unless-same false senders ended same = same

pub unless-map : {A B : Type 0} (f : A → B) (elsewhere : Bool) (items : List A) → map f (unless elsewhere items) ≡ unless elsewhere (map f items)
unless-map f true items = refl
unless-map f false items = refl

-- how many others there are beside the senders that have ended
others-of :
    (many : ℕ) (senders opened : List Sending) (ended : List Ended) → BeginWith many senders opened → AreSame senders ended →
    length opened - length ended ≡ many
others-of many senders opened ended (others, long, all) same =
    omega (
      arith,
      long,
      ap length all,
      length-append senders others,
      AllZip-long (λ (sender : Sending) (last : Ended). SameProducer sender.end last.end) senders ended same,
    )

module _ {W T : Type 0} (opened_of : W → List Sending) (began_of : T → W) (many : ℕ) (senders : List Sending)
    (ended given : List Ended) (same : AreSame senders ended) (are : given ≡ ended) where
  -- the first senders of a thread's log have ended
  pub ended-there :
      (writing : Option W) (thread : Option T) → Both (λ (w : W) (t : T). began_of t ≡ w) writing thread →
      IfSome (option_map opened_of writing) (BeginWith many senders) →
      IfSome thread (λ (t : T). HaveEnded (opened_of (began_of t)) given)
  ended-there None None began opened = tt
  ended-there None (Some t) began opened = absurd began
  ended-there (Some w) None began opened = absurd began
  ended-there (Some w) (Some t) began (others, long, all) =
      subst (HaveEnded (opened_of (began_of t))) (sym are) (senders, others, ap opened_of began ∙ all, same)

  -- and then its page has what they have sent
  pub written-there :
      {F : Type 0} (output : F → Known) (page_of : W → Page F) (writing : Option W) (thread : Option T) (page : Option (Page F)) →
      Both (λ (w : W) (t : T). began_of t ≡ w) writing thread → IfSome (option_map opened_of writing) (BeginWith many senders) →
      Both (λ (t : T) (p : Page F). IsFilled output (length (opened_of (began_of t)) - length given)
      (map (λ (e : Ended). e.sent) given) (page_of (began_of t)) p) thread page →
      Both (λ (w : W) (p : Page F). IsFilled output many (map (λ (e : Ended). e.sent) ended) (page_of w) p) writing page
  written-there output page_of None None None began opened written = tt
  written-there output page_of None None (Some p) began opened written = absurd written
  written-there output page_of None (Some t) page began opened written = absurd began
  written-there output page_of (Some w) None page began opened written = absurd began
  written-there output page_of (Some w) (Some t) None began opened written = absurd written
  written-there output page_of (Some w) (Some t) (Some p) began opened written =
      subst (λ (n : ℕ). IsFilled output n (map (λ (e : Ended). e.sent) ended) (page_of w) p)
      (others-of many senders (opened_of w) ended opened same)
      (subst (λ (was : W). IsFilled output (length (opened_of was) - length ended) (map (λ (e : Ended). e.sent) ended) (page_of was) p) began
      (subst (λ (these : List Ended). IsFilled output (length (opened_of (began_of t)) - length these)
      (map (λ (e : Ended). e.sent) these) (page_of (began_of t)) p) are written))

-- there is a file's log as its thread, and the other page's senders are those that are not its
pub here-given :
    {W T : Type 0} (began : W → T → Type 0) (opened_of : W → List Sending) (log senders given : List Ended) (has_file : Bool)
    (writing : Option W) (thread : Option T) → Both began writing thread → has_file ≡ is_some thread → senders ≡ log →
    given ≡ unless has_file senders → given ≡ unless (is_some (option_map opened_of writing)) log
here-given began opened_of log senders given has_file None None both has are is =
    is ∙ ap (λ (b : Bool). unless b senders) has ∙ are
here-given began opened_of log senders given has_file None (Some t) both has are is = absurd both
here-given began opened_of log senders given has_file (Some w) None both has are is = absurd both
here-given began opened_of log senders given has_file (Some w) (Some t) both has are is =
    is ∙ ap (λ (b : Bool). unless b senders) has

-- the page of the standard error has what was sent by senders that aren't the file's
pub page-written :
    {F V W T U : Type 0} (output : F → Known) (opened_on : V → List Sending) (opened_in : W → List Sending) (began_of : T → V)
    (page_of : V → Page F) (began : W → U → Type 0) (many : ℕ) (first : List Sending) (log senders given : List Ended)
    (has_file : Bool) (file : Option W) (filing : Option U) → Both began file filing → has_file ≡ is_some filing →
    senders ≡ log → given ≡ unless has_file senders → AreSame first log →
    (writing : Option V) (thread : Option T) (page : Option (Page F)) →
    Both (λ (v : V) (t : T). began_of t ≡ v) writing thread →
    IfSome (option_map opened_on writing) (BeginWith many (unless (is_some (option_map opened_in file)) first)) →
    Both (λ (t : T) (p : Page F). IsFilled output (length (opened_on (began_of t)) - length given)
    (map (λ (e : Ended). e.sent) given) (page_of (began_of t)) p) thread page →
    Both (λ (v : V) (p : Page F). IsFilled output many (unless (is_some file) (map (λ (e : Ended). e.sent) log)) (page_of v) p)
    writing page
page-written {F} {V} output opened_on opened_in began_of page_of began many first log senders given has_file file filing both has are is same
    writing thread page started opened written =
    let filed = is_some (option_map opened_in file) in
    let now = here-given began opened_in log senders given has_file file filing both has are is in
    subst (λ (sents : List (List ℕ)). Both (λ (v : V) (p : Page F). IsFilled output many sents (page_of v) p) writing page)
    (unless-map (λ (e : Ended). e.sent) filed log
    ∙ ap (λ (b : Bool). unless b (map (λ (e : Ended). e.sent) log)) (is_some-map opened_in file))
    (written-there opened_on began_of many (unless filed first) (unless filed log) given (unless-same filed first log same) now
    output page_of writing thread page started opened written)

-- the senders that are given to the thread of a file's log are all, if there is one
pub there-given :
    {T : Type 0} (Is : T → List Ended → Type 0) (senders given : List Ended) (has_file : Bool) (thread : Option T) →
    has_file ≡ is_some thread → given ≡ unless (not has_file) senders → IfSome thread (λ (t : T). Is t senders) →
    IfSome thread (λ (t : T). Is t given)
there-given Is senders given has_file None has is ended = tt
there-given Is senders given has_file (Some t) has is ended =
    subst (Is t) (sym (is ∙ ap (λ (b : Bool). unless (not b) senders) has)) ended

-- a page is there again
pub written-over :
    {F W : Type 0} (output : F → Known) (page_of : W → Page F) (many : ℕ) (sents : List (List ℕ)) (was is : Bool)
    (before : Option (Page F)) (writing : Option W) (after : Option (Page F)) →
    Both (λ (p : Page F) (w : W). page_of w ≡ p) before writing → is ≡ was →
    Both (λ (w : W) (p : Page F). IsFilled output many (unless is sents) (page_of w) p) writing after →
    Both (IsFilled output many (unless was sents)) before after
written-over output page_of many sents was is None None None taken filed written = tt
written-over output page_of many sents was is None None (Some p) taken filed written = absurd written
written-over output page_of many sents was is None (Some w) after taken filed written = absurd taken
written-over output page_of many sents was is (Some p) None after taken filed written = absurd taken
written-over output page_of many sents was is (Some p) (Some w) None taken filed written = absurd written
written-over {F} output page_of many sents was is (Some p) (Some w) (Some q) taken filed written =
    subst (λ (b : Bool). IsFilled output many (unless b sents) p q) filed
    (subst (λ (first : Page F). IsFilled output many (unless is sents) first q) taken written)

-- a log with a file isn't on the standard error
elsewhere : (dash : Bool) (path it : List ℕ) → (if dash then None else Some path) ≡ Some it → dash ≡ false
elsewhere true path it is = cc is
elsewhere false path it is = refl

-- and one without a file is there
there : (dash : Bool) (path : List ℕ) → (if dash then None else Some path) ≡ None → dash ≡ true
there true path is = refl
there false path is = cc is

-- what the standard error has beside a file
pub beside-lines :
    {A E : Type 0} (sents_of : A → List (List ℕ)) (many : ℕ) (log : Option (List ℕ)) (path : List ℕ) (old new : Known)
    (result : Result A E) → file_of log ≡ Some path → IfOk result (λ (a : A). IsWhole many [] old new) →
    IfOk result (λ (a : A). IsWhole many (if logs_here log then sents_of a else []) old new)
beside-lines sents_of many None path old new (Ok a) is whole = cc is
beside-lines sents_of many (Some it) path old new (Ok a) is whole =
    subst (λ (dash : Bool). IsWhole many (if dash then sents_of a else []) old new) (sym (elsewhere (is_dash it) it path is)) whole
beside-lines sents_of many log path old new (Err error) is whole = tt

-- what it has without one
pub here-lines :
    {A E : Type 0} (sents_of : A → List (List ℕ)) (passages_of : A → Passages) (many : ℕ) (log : Option (List ℕ)) (old new : Known)
    (result : Result A E) → file_of log ≡ None → IfOk result (λ (a : A). AreLogged (is_some log) (passages_of a) (sents_of a)) →
    IfOk result (λ (a : A). IsWhole many (sents_of a) old new) →
    IfOk result (λ (a : A). IsWhole many (if logs_here log then sents_of a else []) old new)
here-lines sents_of passages_of many None old new (Ok a) is logged whole =
    subst (λ (sents : List (List ℕ)). IsWhole many sents old new) logged whole
here-lines sents_of passages_of many (Some it) old new (Ok a) is logged whole =
    subst (λ (dash : Bool). IsWhole many (if dash then sents_of a else []) old new) (sym (there (is_dash it) it is)) whole
here-lines sents_of passages_of many log old new (Err error) is logged whole = tt

-- and what it has of a silent server
pub silent-lines :
    {A E B : Type 0} (sents_of : A → List (List ℕ)) (named : Option B) (log : Option (List ℕ)) (known : Known) (result : Result A E) →
    LogsElsewhere log → named ≡ None →
    IfOk result (λ (a : A). IsWhole (one_if (is_some named)) (if logs_here log then sents_of a else []) known known)
silent-lines sents_of None None known (Ok a) elsewhere none = ([], false, refl, (0, (refl, refl, refl)))
silent-lines sents_of None (Some path) known (Ok a) elsewhere none =
    subst (λ (dash : Bool). IsWhole 0 (if dash then sents_of a else []) known known) (sym elsewhere)
    ([], false, refl, (0, (refl, refl, refl)))
silent-lines sents_of (Some name) log known (Ok a) elsewhere none = cc none
silent-lines sents_of named log known (Err error) elsewhere none = tt
