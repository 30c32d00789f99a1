-- Bytes that are written in parts, each after the one before.
use Rattle.std.proofs.Common.{ℕ, ◌+◌, ◌-◌, ◌≤◌, List, ◌++◌, length, take, drop, Option, Some, None, sym, subst, ap, ◌∙◌, arith, append_assoc, take-add, take-take}
use Rattle.std.proofs.Common.{inl, inr, Result, Ok, Err, OnOk, OnErr}
use Rattle.std.specs.Io.KnownBytes.{Appends, Keeps}
use Rattle.streams.specs.Streams.{Known}
use Rattle.streams.specs.Writing.{Breaks, IsWritten}

pub Appends-more :
    (before between after : Option (List ℕ)) (first second : List ℕ) →
    Appends before between first →
    Appends between after second →
    Appends before after (first ++ second)
Appends-more None between after first second grown more = tt
Appends-more (Some xs) None after first second grown more = elim grown [ ]
Appends-more (Some xs) (Some ys) None first second grown more = elim more [ ]
Appends-more (Some xs) (Some ys) (Some zs) first second grown more =
    more ∙ ap (λ (front : List ℕ). front ++ second) grown ∙ append_assoc xs first second

pub Appends-kept :
    (before between after : Option (List ℕ)) (first : List ℕ) →
    Appends before between first →
    Keeps between after →
    Appends before after first
Appends-kept None between after first grown kept = tt
Appends-kept (Some xs) None after first grown kept = elim grown [ ]
Appends-kept (Some xs) (Some ys) None first grown kept = elim kept [ ]
Appends-kept (Some xs) (Some ys) (Some zs) first grown kept = kept ∙ grown

-- the part that is written grows by what the writer accepts of the rest
pub Appends-next :
    (before between after : Option (List ℕ)) (taken count : ℕ) (bytes : List ℕ) →
    taken + count ≤ length bytes →
    Appends before between (take taken bytes) →
    Appends between after (take count (take (length bytes - taken) (drop taken bytes))) →
    Appends before after (take (taken + count) bytes)
Appends-next before between after taken count bytes fits grown more =
    let rest = take-take count (length bytes - taken) (drop taken bytes) (omega arith) in
    let longer = take-add taken count bytes in
    subst (Appends before after) (sym longer)
    (Appends-more before between after (take taken bytes) (take count (drop taken bytes)) grown (subst (Appends between after) rest more))

-- either way the bytes were written, unless the writer failed
pub IsWritten-tried :
    {E : Type 0} (old new : Known) (bytes : List ℕ) (tried : Result (Unit {0}) E) →
    OnOk tried (Appends old.bytes new.bytes bytes) →
    OnErr tried (Breaks old new bytes) →
    IsWritten old new bytes
IsWritten-tried old new bytes (Ok done) appends breaks = inl appends
IsWritten-tried old new bytes (Err error) appends breaks = inr breaks
