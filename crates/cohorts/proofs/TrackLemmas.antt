-- What a parsed cohort text says of a client's bucket, and the cohort at an index.
use Rattle.std.proofs.Common.{◌≡◌, ℕ, zero, suc, ◌<◌, List, [], ◌∷◌, length, get_or, arith, Option, None, Some, option_map, IfSome, Bor, refl, sym, subst}
use Rattle.std.specs.Option.{option_map_or}
use Rattle.catalogue.specs.declared.content.Cohort.{Cohort}
use Rattle.cohorts.specs.CohortTexts.{parsed}
use Rattle.cohorts.specs.Laws.{ParsedIsPrinted}
use Rattle.cohorts.specs.Tracks.{cohort_at}

-- the name and the bucket, as a definition has them
abbrev seen : Option (Bor (List ℕ) × ℕ) → Option (List ℕ × ℕ)
seen named = option_map (λ named. (named.0.now, named.1)) named

same_bucket : (named : Option (Bor (List ℕ) × ℕ)) (other : ℕ)
    → option_map_or (λ named. named.1) named other ≡ option_map_or (λ named. named.1) (seen named) other
same_bucket None other = refl
same_bucket (Some named) other = refl

pub named_bucket : (named : Option (Bor (List ℕ) × ℕ)) (text : List ℕ) (other : ℕ) → seen named ≡ parsed text
    → option_map_or (λ named. named.1) named other ≡ option_map_or (λ named. named.1) (parsed text) other
named_bucket named text other is =
    subst (λ found. option_map_or (λ named. named.1) named other ≡ option_map_or (λ named. named.1) found other) is (same_bucket named other)

pub named_bucket-small : (named : Option (Bor (List ℕ) × ℕ)) (text : List ℕ) → seen named ≡ parsed text
    → ParsedIsPrinted → IfSome named (λ named. named.1 < 1000)
named_bucket-small None text is law = tt
named_bucket-small (Some named) text is law = (law text named.0.now named.1 (sym is)).1

pub there-cohort_at : (cohorts : List Cohort) (index : ℕ) (other : Cohort) → index < length cohorts
    → get_or cohorts index other ≡ cohort_at cohorts index
there-cohort_at [] index other within = absurd (omega (arith, within))
there-cohort_at (cohort ∷ cohorts) zero other within = refl
there-cohort_at (cohort ∷ cohorts) (suc index) other within = there-cohort_at cohorts index other (omega (arith, within))
