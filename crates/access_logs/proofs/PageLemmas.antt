-- What is written after a part of a line, in parts.
use Rattle.std.proofs.Common.{◌≡◌, ◌∙◌, ◌++◌, ℕ, suc, Bool, true, List, append_assoc, take, Option, None, Some, OnErr, Result, Ok, Err, sym, subst, ap, arith}
use Rattle.std.specs.Prelude.{codes}
use Rattle.std.specs.Io.KnownBytes.{Appends}
use Rattle.streams.specs.Streams.{Known}
use Rattle.streams.specs.Writing.{Breaks}
use Rattle.access_logs.specs.Queues.{end_of}

-- bytes that were written after others
pub Appends-after :
    (old between new : Option (List ℕ)) (first second : List ℕ) →
    Appends old between first → Appends between new second → Appends old new (first ++ second)
Appends-after None between new first second one two = tt
Appends-after (Some xs) None new first second one two = absurd one
Appends-after (Some xs) (Some ys) None first second one two = absurd two
Appends-after (Some xs) (Some ys) (Some zs) first second one two =
    two ∙ ap (λ (front : List ℕ). front ++ second) one ∙ append_assoc xs first second

-- the writer failed after the line feed
pub Breaks-after :
    (old between new : Known) (lines : List ℕ) → Appends old.bytes between.bytes (codes "\n") → Breaks between new lines →
    Breaks old new (codes "\n" ++ lines)
Breaks-after old between new lines head ((count, few, part), failed) = (
  (
    suc count,
    omega (arith, few),
    Appends-after old.bytes between.bytes new.bytes (codes "\n") (take count lines) head part,
  ),
  failed,
)

-- what is written after the line feed
pub OnErr-after :
    {A E : Type 0} (result : Result A E) (was_cut : Bool) (old between new : Known) (lines : List ℕ) → was_cut ≡ true →
    Appends old.bytes between.bytes (codes "\n") → OnErr result (Breaks between new lines) →
    OnErr result (Breaks old new (end_of was_cut ++ lines))
OnErr-after (Ok a) was_cut old between new lines is head breaks = tt
OnErr-after (Err e) was_cut old between new lines is head breaks =
    subst (λ (b : Bool). Breaks old new (end_of b ++ lines)) (sym is) (Breaks-after old between new lines head breaks)
