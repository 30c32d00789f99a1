-- The pages of a server's lines, as they are opened.
use Rattle.std.proofs.Common.{◌≡◌, ◌∙◌, ◌+◌, ◌-◌, ◌&&◌, ℕ, Bool, true, false, List, [], ◌∷◌, ◌++◌, Option, Some, None, IfSome, ap, append-nil, arith, if◌then◌else◌, is_some, length, not, option_map, option_to_list, refl, subst, sym}
use Rattle.http_ports.specs.Speech.{one_if}
use Rattle.access_logs.specs.Queues.{Sending}
use Rattle.server_ports.specs.Logging.{AreOpened, BeginWith, Both, unless}
use Rattle.server_ports.proofs.OutletLemmas.{length-option}

-- where one is, the other is
pub both-some :
    {A B : Type 0} (related : A → B → Type 0) (one : Option A) (other : Option B) → Both related one other →
    is_some other ≡ is_some one
both-some related None None both = refl
both-some related None (Some b) both = absurd both
both-some related (Some a) None both = absurd both
both-some related (Some a) (Some b) both = refl

-- a list that has no item
none-at : {A : Type 0} (items : List A) → length items ≡ 0 → items ≡ []
none-at [] none = refl
none-at (item ∷ items) none = absurd (omega (arith, none))

alone-of :
    (on : Bool) (ports many long : ℕ) → on ≡ false → long ≡ (if on then ports else 0) + many → long ≡ many
alone-of true ports many long is sum = cc is
alone-of false ports many long is sum = omega (arith, sum)

-- the log on the standard error was opened with the senders that are chosen, unless there is a file
opened-here :
    (log named file on : Bool) (ports : ℕ) (filed others rest : List Sending) (own : Option Sending) (opened : List Sending) →
    on ≡ (log && not file) → length filed ≡ (if file then ports else 0) →
    length others ≡ (if on then ports else 0) + one_if named → rest ++ option_to_list own ≡ others → is_some own ≡ named →
    opened ≡ others → BeginWith (one_if named) (unless file (if on then rest else filed)) opened
opened-here true named false on ports filed others rest own opened is many long parted so all =
    subst (λ (o : Bool). BeginWith (one_if named) (if o then rest else filed) opened) (sym is)
    (option_to_list own, length-option own ∙ ap one_if so, all ∙ sym parted)
opened-here false named false on ports filed others rest own opened is many long parted so all =
    subst (λ (o : Bool). BeginWith (one_if named) (if o then rest else filed) opened) (sym is)
    (subst (λ (these : List Sending). BeginWith (one_if named) these opened) (sym (none-at filed many))
    (others, alone-of on ports (one_if named) (length others) is long, all))
opened-here true named true on ports filed others rest own opened is many long parted so all =
    (others, alone-of on ports (one_if named) (length others) is long, all)
opened-here false named true on ports filed others rest own opened is many long parted so all =
    (others, alone-of on ports (one_if named) (length others) is long, all)

-- and that of the file with them, if there is one
opened-there :
    (log on : Bool) (filed rest opened : List Sending) → on ≡ (log && false) → opened ≡ filed →
    BeginWith 0 (if on then rest else filed) opened
opened-there true on filed rest opened is all =
    subst (λ (o : Bool). BeginWith 0 (if o then rest else filed) opened) (sym is) ([], refl, all ∙ sym (append-nil filed))
opened-there false on filed rest opened is all =
    subst (λ (o : Bool). BeginWith 0 (if o then rest else filed) opened) (sym is) ([], refl, all ∙ sym (append-nil filed))

-- the logs of a server were opened with the senders of its ports
pub are-opened :
    {V W : Type 0} (opened_on : V → List Sending) (opened_in : W → List Sending) (log named on : Bool) (ports : ℕ)
    (filed others rest all : List Sending) (own : Option Sending) (errors : Option V) (file : Option W) →
    on ≡ (log && not (is_some file)) → length filed ≡ (if is_some file then ports else 0) →
    length others ≡ (if is_some errors then (if on then ports else 0) + one_if named else 0) →
    rest ++ option_to_list own ≡ others → is_some own ≡ named → IfSome errors (λ (v : V). opened_on v ≡ others) →
    IfSome file (λ (w : W). opened_in w ≡ filed) → all ≡ (if on then rest else filed) →
    AreOpened named all (option_map opened_on errors) (option_map opened_in file)
are-opened {V} {W} opened_on opened_in log named on ports filed others rest all own errors file is many long parted so here there are =
    subst (λ (these : List Sending). AreOpened named these (option_map opened_on errors) (option_map opened_in file)) (sym are)
    (record { here = at_errors errors file is many long here; there = at_file file is there })
  where
    at_errors :
        (errors : Option V) (file : Option W) → on ≡ (log && not (is_some file)) →
        length filed ≡ (if is_some file then ports else 0) →
        length others ≡ (if is_some errors then (if on then ports else 0) + one_if named else 0) →
        IfSome errors (λ (v : V). opened_on v ≡ others) →
        IfSome (option_map opened_on errors)
        (BeginWith (one_if named) (unless (is_some (option_map opened_in file)) (if on then rest else filed)))
    at_errors None file is many long here = tt
    at_errors (Some v) None is many long here =
        opened-here log named false on ports filed others rest own (opened_on v) is many long parted so here
    at_errors (Some v) (Some w) is many long here =
        opened-here log named true on ports filed others rest own (opened_on v) is many long parted so here

    at_file :
        (file : Option W) → on ≡ (log && not (is_some file)) → IfSome file (λ (w : W). opened_in w ≡ filed) →
        IfSome (option_map opened_in file) (BeginWith 0 (if on then rest else filed))
    at_file None is there = tt
    at_file (Some w) is there = opened-there log on filed rest (opened_in w) is there
