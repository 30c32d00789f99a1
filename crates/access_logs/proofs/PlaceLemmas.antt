-- What is kept for a slot: of one more slot, and of one of which something is seen.
use Rattle.std.proofs.Common.{◌≡◌, ◌<◌, ℕ, zero, suc, List, [], ◌∷◌, ◌++◌, length, Option, None, Some, refl, sym, subst, arith}
use Rattle.http_ports.specs.Loops.{kept_at}
use Rattle.access_logs.specs.Replies.{Piece}
use Rattle.access_logs.specs.Sights.{IsGoing, IsSeenOf}
use Rattle.access_logs.specs.declared.seen.Seen.{Seen}

-- one more slot without a connection
pub kept_at-push :
    {C : Type 0} (items : List (Option C)) →
    ((k : ℕ) → kept_at items k ≡ None) → (k : ℕ) → kept_at (items ++ None ∷ []) k ≡ None
kept_at-push [] empty zero = refl
kept_at-push [] empty (suc k) = refl
kept_at-push (item ∷ items) empty zero = empty zero
kept_at-push (item ∷ items) empty (suc k) = kept_at-push items (λ j. empty (suc j)) k

-- a slot of whose reply something is seen is one of those that there are
pub going_within :
    (seens : List (Option Seen)) (at : ℕ) (piece : Piece) → IsGoing (Some piece) (kept_at seens at) → at < length seens
going_within [] at piece going = absurd going
going_within (None ∷ seens) zero piece going = absurd going
going_within (Some seen ∷ seens) zero piece going = omega arith
going_within (seen ∷ seens) (suc at) piece going = omega (arith, going_within seens at piece going)

-- what is seen of a reply that is under way
pub going_some :
    (kept : Option Seen) (piece : Piece) (seen : Seen) → kept ≡ Some seen → IsSeenOf piece seen →
    IsGoing (Some piece) kept
going_some kept piece seen is saw = subst (λ (s : Option Seen). IsGoing (Some piece) s) (sym is) saw

-- none is
pub going_none : (kept : Option Seen) → kept ≡ None → IsGoing None kept
going_none kept is = subst (λ (s : Option Seen). IsGoing None s) (sym is) tt

-- what was seen of the reply that is under way
pub seen_is :
    (going : Option Piece) (kept : Option Seen) (piece : Piece) (seen : Seen) → going ≡ Some piece → kept ≡ Some seen →
    IsGoing going kept → IsSeenOf piece seen
seen_is going kept piece seen is was goes =
    subst (λ (s : Option Seen). IsGoing (Some piece) s) was (subst (λ (p : Option Piece). IsGoing p kept) is goes)

-- something was
pub seen_none :
    (going : Option Piece) (kept : Option Seen) (piece : Piece) → going ≡ Some piece → kept ≡ None →
    IsGoing going kept → ⊥
seen_none going kept piece is was goes =
    subst (λ (s : Option Seen). IsGoing (Some piece) s) was (subst (λ (p : Option Piece). IsGoing p kept) is goes)
