-- Histories that begin with those that were heard.
use Rattle.std.proofs.Common.{◌≡◌, ◌≤◌, List, [], ◌∷◌, ◌++◌, length, sym, ap, ◌∙◌, take, drop, append_assoc, arith, subst}
use Rattle.std.proofs.lemmas.List.{append-nil, length-append, nil_from_length, take-append-drop, take-append-le}
use Rattle.std.proofs.Math.Seq.{take-append_seam}
use Rattle.catalogue.specs.Histories.{History}
use Rattle.publisher.specs.Beginnings.{StartsWith}
use Rattle.publisher.specs.Heard.{GoesOn, IsLinked, newest}

pub starts_with-self : (now : History) → StartsWith now now
starts_with-self now = ([], sym (append-nil now))

pub starts_with-trans : (later now before : History) → StartsWith later now → StartsWith now before
    → StartsWith later before
starts_with-trans later now before on from =
    (from.0 ++ on.0, on.1 ∙ ap (λ (start : History). start ++ on.0) from.1 ∙ append_assoc before from.0 on.0)

pub starts_with-length : (now before : History) → StartsWith now before → length before ≤ length now
starts_with-length now before from =
    subst (λ (all : History). length before ≤ length all) (sym from.1)
    (grind (arith, length-append))

-- a history that begins with one of as many batches is that
pub starts_with-same : (now before : History) → StartsWith now before → length now ≡ length before → now ≡ before
starts_with-same now before from same =
    let none : from.0 ≡ [] = nil_from_length from.0 (omega (arith, same, ap length from.1, length-append before from.0)) in
    from.1 ∙ ap (λ (rest : History). before ++ rest) none ∙ append-nil before

pub goes_on-later : (later now : History) → StartsWith later now → (heard : List History) → GoesOn now heard
    → GoesOn later heard
goes_on-later later now on [] all = tt
goes_on-later later now on (first ∷ others) all =
    (starts_with-trans later now first on all.0, goes_on-later later now on others all.1)

pub goes_on-append : (now : History) (one other : List History) → GoesOn now one → GoesOn now other
    → GoesOn now (one ++ other)
goes_on-append now [] other of_one of_other = of_other
goes_on-append now (first ∷ others) other of_one of_other =
    (of_one.0, goes_on-append now others other of_one.1 of_other)

pub newest-le : (now : History) (heard : List History) → GoesOn now heard → newest heard ≤ length now
newest-le now [] all = grind arith
newest-le now (first ∷ others) all =
    let one : length first ≤ length now = starts_with-length now first all.0 in
    let rest : newest others ≤ length now = newest-le now others all.1 in
    omega arith

-- of two beginnings of one history the longer begins with the shorter
starts_with-longer : (now one other : History) → StartsWith now one → StartsWith now other → length one ≤ length other
    → StartsWith other one
starts_with-longer now one other from_one from_other longer =
    let start : take (length one) other ≡ one =
    sym (take-append-le (length one) other from_other.0 longer)
    ∙ ap (take (length one)) (sym from_other.1 ∙ from_one.1)
    ∙ take-append_seam one from_one.0
    in (
      drop (length one) other,
      sym (take-append-drop (length one) other) ∙ ap (λ (first : History). first ++ drop (length one) other) start,
    )

pub beginnings-linked : (now one other : History) → StartsWith now one → StartsWith now other → IsLinked one other
beginnings-linked now one other from_one from_other =
    (starts_with-longer now one other from_one from_other, starts_with-longer now other one from_other from_one)
