-- The senders of a server's lines, by where they are written.
use Rattle.std.proofs.Common.{◌≡◌, ◌∙◌, ◌+◌, ◌<◌, ◌&&◌, ℕ, Bool, true, false, List, ◌++◌, Option, Some, None, arith, if◌then◌else◌, is_some, length, not, option_to_list, refl, sym, subst, ap}
use Rattle.std.proofs.lemmas.List.{length-append}
use Rattle.http_ports.specs.Speech.{one_if}
use Rattle.access_logs.specs.Queues.{Sending}
use Rattle.server_ports.specs.Logging.{FitOutlets}
use Rattle.server_ports.specs.declared.place.Place.{Place}

pub length-option : {A : Type 0} (option : Option A) → length (option_to_list option) ≡ one_if (is_some option)
length-option None = refl
length-option (Some a) = refl

-- what is left of a list whose last item was parted from it
pub left_of :
    {A : Type 0} (all rest : List A) (last : Option A) (is : Bool) (count : ℕ) → rest ++ option_to_list last ≡ all →
    is_some last ≡ is → length all ≡ count + one_if is → length rest ≡ count
left_of all rest last is count parted so many =
    let sum : length rest + length (option_to_list last) ≡ length all = sym (length-append rest (option_to_list last)) ∙ ap length parted in
    let one : length (option_to_list last) ≡ one_if is = length-option last ∙ ap one_if so in omega (arith, sum, one, many)

-- the senders of the log are as many as its ports
pub chosen_many :
    {A B : Type 0} (log : Bool) (file : Option A) (errors : Option B) (on named : Bool) (ports : ℕ) (filed others rest : List Sending)
    (own : Option Sending) → on ≡ (log && not (is_some file)) → (is_some file ≡ true → log ≡ true) →
    (log ≡ true → is_some file ≡ false → is_some errors ≡ true) → length filed ≡ (if is_some file then ports else 0) →
    length others ≡ (if is_some errors then (if on then ports else 0) + one_if named else 0) → rest ++ option_to_list own ≡ others →
    is_some own ≡ named → length (if on then rest else filed) ≡ (if log then ports else 0)
chosen_many true (Some page) errors on named ports filed others rest own is logged written many more parted so =
    subst (λ (o : Bool). length (if o then rest else filed) ≡ ports) (sym is) many
chosen_many false (Some page) errors on named ports filed others rest own is logged written many more parted so = cc (logged refl)
chosen_many true None (Some page) on named ports filed others rest own is logged written many more parted so =
    let sum : length others ≡ ports + one_if named = subst (λ (o : Bool). length others ≡ (if o then ports else 0) + one_if named) is more in
    subst (λ (o : Bool). length (if o then rest else filed) ≡ ports) (sym is) (left_of others rest own named ports parted so sum)
chosen_many true None None on named ports filed others rest own is logged written many more parted so = cc (written refl refl)
chosen_many false None errors on named ports filed others rest own is logged written many more parted so =
    subst (λ (o : Bool). length (if o then rest else filed) ≡ 0) (sym is) many

-- and those of the clients, of which the operator's was parted
pub clients_many :
    (log operated : Bool) (workers : ℕ) (all rest : List Sending) (last : Option Sending) → rest ++ option_to_list last ≡ all →
    is_some last ≡ (log && operated) → length all ≡ (if log then workers + one_if operated else 0) →
    length rest ≡ (if log then workers else 0)
clients_many true operated workers all rest last parted so many = left_of all rest last operated workers parted so many
clients_many false operated workers all rest last parted so many = left_of all rest last false 0 parted so many

-- what fits the pages that there were fits those that are there
pub fit-by :
    (place : Place) (errors file errors' file' : Bool) → errors' ≡ errors → file' ≡ file → FitOutlets place errors file →
    FitOutlets place errors' file'
fit-by place errors file errors' file' same are fit =
    subst (λ (e : Bool). FitOutlets place e file') (sym same) (subst (λ (f : Bool). FitOutlets place errors f) (sym are) fit)

-- the server's own sender is there
pub own-there :
    {B : Type 0} (errors : Option B) (ports long : ℕ) (named : Bool) → (named ≡ true → is_some errors ≡ true) →
    long ≡ (if is_some errors then ports + one_if named else 0) → named ≡ true → 0 < long
own-there None ports long named written many so = cc (written so)
own-there (Some page) ports long true written many so = omega (arith, many)
own-there (Some page) ports long false written many so = cc so

-- and the operator's
pub operators-there :
    (log operated : Bool) (workers long : ℕ) → long ≡ (if log then workers + one_if operated else 0) →
    (log && operated) ≡ true → 0 < long
operators-there true true workers long many so = omega (arith, many)
operators-there true false workers long many so = cc so
operators-there false operated workers long many so = cc so
