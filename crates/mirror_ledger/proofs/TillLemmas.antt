-- What tills were granted, and what they begin with.
use Rattle.std.proofs.Common.{◌≡◌, ◌∙◌, ℕ, ◌+◌, ◌<◌, ◌≤◌, Bool, true, List, [], ◌∷◌, ◌++◌, All, Result, Ok, Err, ap, arith, length, map, slice_index, subst, sym}
use Rattle.std.specs.Result.{OnErr}
use Rattle.std.proofs.lemmas.List.{length-map, map-append}
use Rattle.std.proofs.lemmas.List.Elements.{All-weaker}
use Rattle.std.proofs.lemmas.List.Sums.{sum_by_push}
use Rattle.catalogue.specs.declared.mirror.Mirror.{Mirror}
use Rattle.mirror_ledger.specs.Asks.{AreUnused, Ask, granted_at}
use Rattle.mirror_ledger.specs.Named.{AreFixed, budget_at, totals_of}
use Rattle.mirror_ledger.specs.Order.{IsAlone}
use Rattle.mirror_ledger.specs.Tills.{AreOpened, AreTotalsOf, granted_by}

-- what tills were granted is what the last one was, and the others
granted_by-last :
    {T : Type 0} (asks : T → List Ask) (tills rest : List T) (last : T) (index : ℕ) → tills ≡ rest ++ last ∷ [] →
    granted_by (map asks tills) index ≡ granted_by (map asks rest) index + granted_at index (asks last)
granted_by-last {T} asks tills rest last index same =
    ap (λ (all : List T). granted_by (map asks all) index) same
    ∙ ap (λ (lists : List (List Ask)). granted_by lists index) (map-append asks rest (last ∷ []))
    ∙ sum_by_push (λ (list : List Ask). granted_at index list) (map asks rest) (asks last)

-- the last till's share is added to those of the tills after it
pub taken_back :
    {T : Type 0} (asks : T → List Ask) (tills rest : List T) (last : T) (index total before amount share : ℕ) →
    tills ≡ rest ++ last ∷ [] → amount ≡ before + share → share ≡ granted_at index (asks last) →
    before + granted_by (map asks tills) index ≡ total →
    amount + granted_by (map asks rest) index ≡ total
taken_back asks tills rest last index total before amount share same added tallied sum =
    omega (arith, granted_by-last asks tills rest last index same)

-- tills of workers whose shares are 0, over books of these mirrors whose ledgers have a part for each, and the most that
-- their budgets may come to
pub AreOpened-unused :
    {T : Type 0} (mirrors_of : T → List Mirror) (first second third fourth : T → ℕ) (asks_of : T → List Ask)
    (one two three four workers m1 m2 m3 m4 : ℕ) (fixed : Bool) (books mirrors : List Mirror) (tills : List T) →
    books ≡ mirrors →
    All (λ till. mirrors_of till ≡ books) tills →
    All (λ till. AreUnused (first till) (second till) (third till) (fourth till) (asks_of till)) tills →
    length tills ≡ workers →
    one ≡ workers → two ≡ workers → three ≡ workers → four ≡ workers →
    (fixed ≡ true → AreFixed mirrors m1 m2 m3 m4) →
    AreOpened mirrors_of asks_of (λ till. IsAlone (mirrors_of till) one two three four m1 m2 m3 m4) fixed mirrors tills
AreOpened-unused {T} mirrors_of first second third fourth asks_of one two three four workers m1 m2 m3 m4 fixed books mirrors tills same given unused many a b c d tops =
    let Unused : T → Type 0 = λ till. AreUnused (first till) (second till) (third till) (fourth till) (asks_of till) in
    let mirrored = All-weaker (λ till. mirrors_of till ≡ books) (λ till. mirrors_of till ≡ mirrors) (λ till its. its ∙ same) tills given in
    record {
      mirrored = mirrored;
      unused = All-weaker Unused (λ till. asks_of till ≡ []) (λ till none. none.none_asked) tills unused;
      alone = λ is single.
          All-weaker (λ till. mirrors_of till ≡ mirrors) (λ till. IsAlone (mirrors_of till) one two three four m1 m2 m3 m4)
          (λ till its.
          record {
            parts =
                record {
                  at_first = omega (arith, a, many, single);
                  at_second = omega (arith, b, many, single);
                  at_third = omega (arith, c, many, single);
                  at_fourth = omega (arith, d, many, single);
                };
            fixed = subst (λ (all : List Mirror). AreFixed all m1 m2 m3 m4) (sym its) (tops is);
          })
          tills mirrored;
    }

-- the totals of books that are closed by what the tills' asks came to
pub AreTotalsOf-parts :
    (books mirrors : List Mirror) (workers : List (List Ask)) (totals : List ℕ) (first second third fourth : ℕ) →
    books ≡ mirrors →
    totals ≡ totals_of books first second third fourth →
    first ≡ granted_by workers 0 → second ≡ granted_by workers 1 → third ≡ granted_by workers 2 → fourth ≡ granted_by workers 3 →
    ((index : ℕ) → index < length books → slice_index totals index ≤ budget_at books index) →
    AreTotalsOf mirrors workers totals
AreTotalsOf-parts books mirrors workers totals first second third fourth same summed one two three four within =
    subst (λ (all : List Mirror). AreTotalsOf all workers totals) same
    (record {
      sums = summed
          ∙ ap (λ (k : ℕ). totals_of books k second third fourth) one
          ∙ ap (λ (k : ℕ). totals_of books (granted_by workers 0) k third fourth) two
          ∙ ap (λ (k : ℕ). totals_of books (granted_by workers 0) (granted_by workers 1) k fourth) three
          ∙ ap (λ (k : ℕ). totals_of books (granted_by workers 0) (granted_by workers 1) (granted_by workers 2) k) four;
      within = within;
    })

-- each till has one list of asks
pub length-asks : {T : Type 0} (asks : T → List Ask) (tills : List T) → length (map asks tills) ≡ length tills
length-asks asks tills = simp length-map

-- what holds anyhow holds after an error
pub OnErr-any : {T E : Type 0} {A : Type 0} (result : Result T E) → A → OnErr result A
OnErr-any (Ok value) holds = tt
OnErr-any (Err error) holds = holds
