-- Bytes that are read and used in parts, each after the one before.
use Rattle.std.proofs.Common.{◌≡◌, ℕ, List, [], ◌++◌, take, drop, Option, Some, None, refl, sym, subst, ap, ◌∙◌, append_assoc, append-nil}
use Rattle.std.proofs.lemmas.List.{take-append-drop}
use Rattle.std.specs.Io.KnownBytes.{Consumes}
use Rattle.update_client.specs.declared.heads.fault.LinkFault.{LinkFault}
use Rattle.update_client.specs.declared.heads.fault.LinkFault.TheVariants as fault
use Rattle.update_client.specs.Reads.{Sees, Uses}

Consumes-none : (bytes : Option (List ℕ)) → Consumes bytes bytes []
Consumes-none None = tt
Consumes-none (Some xs) = refl

pub Consumes-then :
    (before between after : Option (List ℕ)) (first second : List ℕ) →
    Consumes before between first →
    Consumes between after second →
    Consumes before after (first ++ second)
Consumes-then None between after first second one two = tt
Consumes-then (Some xs) None after first second one two = absurd one
Consumes-then (Some xs) (Some ys) None first second one two = absurd two
Consumes-then (Some xs) (Some ys) (Some zs) first second one two =
    one ∙ ap (λ (rest : List ℕ). first ++ rest) two ∙ sym (append_assoc first second zs)

pub Uses-none : (known : Option (List ℕ)) (waiting : List ℕ) → Uses known known waiting waiting []
Uses-none known waiting = record { bytes = []; consumed = Consumes-none known; cut = append-nil waiting }

pub Uses-front :
    (known : Option (List ℕ)) (waiting : List ℕ) (count : ℕ) →
    Uses known known waiting (drop count waiting) (take count waiting)
Uses-front known waiting count = record {
  bytes = [];
  consumed = Consumes-none known;
  cut = append-nil waiting ∙ sym (take-append-drop count waiting);
}

-- what is used, and all bytes that are seen after it
pub seen_after :
    (before first used between more : List ℕ) →
    before ++ first ≡ used ++ between →
    used ++ (between ++ more) ≡ before ++ (first ++ more)
seen_after before first used between more cut =
    sym (append_assoc used between more)
    ∙ ap (λ (text : List ℕ). text ++ more) (sym cut)
    ∙ append_assoc before first more

pub Uses-then :
    (old mid new : Option (List ℕ)) (before between after first second : List ℕ) →
    Uses old mid before between first →
    Uses mid new between after second →
    Uses old new before after (first ++ second)
Uses-then old mid new before between after first second one two = record {
  bytes = one.bytes ++ two.bytes;
  consumed = Consumes-then old mid new one.bytes two.bytes one.consumed two.consumed;
  cut =
      sym (seen_after before one.bytes first between two.bytes one.cut)
      ∙ ap (λ (text : List ℕ). first ++ text) two.cut
      ∙ sym (append_assoc first second after);
}

pub Sees-after :
    (old mid new : Option (List ℕ)) (before between used : List ℕ) (part whole : List ℕ → LinkFault → Type 0) (why : LinkFault) →
    Uses old mid before between used →
    ((bytes : List ℕ) → part bytes why → whole (used ++ bytes) why) →
    Sees mid new between part why →
    Sees old new before whole why
Sees-after old mid new before between used part whole fault.Ended uses fails (bytes, consumed, failed, at_end) = (
  uses.bytes ++ bytes,
  Consumes-then old mid new uses.bytes bytes uses.consumed consumed,
  subst (λ (text : List ℕ). whole text fault.Ended) (seen_after before uses.bytes used between bytes uses.cut)
      (fails (between ++ bytes) failed),
  at_end,
)
Sees-after old mid new before between used part whole fault.Memory uses fails sees = tt
Sees-after old mid new before between used part whole fault.Read uses fails sees = tt
Sees-after old mid new before between used part whole why uses fails sees = (
  uses.bytes ++ sees.0,
  Consumes-then old mid new uses.bytes sees.0 uses.consumed sees.1,
  subst (λ (text : List ℕ). whole text why) (seen_after before uses.bytes used between sees.0 uses.cut)
      (fails (between ++ sees.0) sees.2),
)
