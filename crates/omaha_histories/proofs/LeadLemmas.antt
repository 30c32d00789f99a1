-- Records with one more.
use Rattle.std.proofs.Common.{◌≡◌, ◌<◌, ℕ, zero, suc, List, [], ◌∷◌, ◌++◌, arith, get_or, length, refl, subst, take}
use Rattle.kept_records.specs.declared.record.Record.{Record}
use Rattle.omaha_histories.specs.Restarting.{FollowAll, Follows, Found, LeadTo}

FollowAll-more : (start found next : Found) (records : List Record) (entry : Record) →
    FollowAll start records found → Follows found entry next → FollowAll start (records ++ entry ∷ []) next
FollowAll-more start found next [] entry same follows =
    (next, subst (λ (f : Found). Follows f entry next) same follows, refl)
FollowAll-more start found next (first ∷ records) entry (between, one, rest) follows =
    (between, one, FollowAll-more between found next records entry rest follows)

-- what records lead to, with one that follows
pub LeadTo-more : (records : List Record) (found next : Found) (entry : Record) →
    LeadTo records found → Follows found entry next → LeadTo (records ++ entry ∷ []) next
LeadTo-more [] found next entry never follows = absurd never
LeadTo-more (first ∷ records) found next entry (start, begins, all) follows =
    (start, begins, FollowAll-more start found next records entry all follows)

-- the first ones, with the next one
pub FollowAll-next : (start found next : Found) (records : List Record) (index : ℕ) (entry : Record) → index < length records →
    entry ≡ get_or records index entry → FollowAll start (take index records) found → Follows found entry next →
    FollowAll start (take (suc index) records) next
FollowAll-next start found next [] index entry below is all follows = absurd (omega (arith, below))
FollowAll-next start found next (first ∷ records) zero entry below is same follows =
    (next, subst (λ (f : Found). Follows f first next) same (subst (λ (r : Record). Follows found r next) is follows), refl)
FollowAll-next start found next (first ∷ records) (suc index) entry below is (between, one, rest) follows =
    (between, one, FollowAll-next between found next records index entry (omega (arith, below)) is rest follows)
