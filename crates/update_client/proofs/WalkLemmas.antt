-- One more step of a walk, and how it ends.
use Rattle.std.proofs.Common.{◌≡◌, ℕ, ◌+◌, ◌<◌, List, [], ◌∷◌, ◌++◌, length, map, true, false, Option, Some, Ok, refl, sym, subst, ap, ◌∙◌, arith, append_assoc, length-append, eq-eqb}
use Rattle.std.specs.Str.{bytes_eq}
use Rattle.update_client.specs.Installed.{Installed}
use Rattle.update_client.specs.declared.hearing.Accepted.{Accepted}
use Rattle.update_client.specs.declared.installer.Step.{Step}
use Rattle.update_client.specs.Clients.{heard, part_of, address_of, client_after}
use Rattle.update_client.specs.Walks.{Post, Commit, Turn, post_of, IsReadBack, IsTurn, Follows, posts_of, addresses_of, commit_of, bytes_of, Takes, Turned}

-- an offer that was installed is a step
pub turned_step : (client after : Installed) (steps : ℕ) (old between new : List Post)
    (asked opened : List (List ℕ)) (before commits : List Commit) (received : List ℕ) (ended : Type 0)
    (reply : List ℕ) (news : Option Accepted) (accepted : Accepted) (step : Step)
    → between ≡ old ++ post_of client reply ∷ []
    → IsReadBack client → heard client.app reply ≡ Ok news → news ≡ Some accepted
    → (accepted.offer.fp ≡ client.fp → ⊥) → steps < 1024
    → Takes client after accepted before commits received ended (Ok step)
    → new ≡ between
    → opened ≡ asked ++ address_of accepted.offer ∷ []
    → Turned client after steps old new asked opened before commits received ended (Ok (Some step))
turned_step client after steps old between new asked opened before commits received ended reply news accepted step posted read said is other few (file, whole, next, kept, size) same reached = (
  record { reply = reply; accepted = accepted; bytes = file },
  (read, (said ∙ ap Ok is, other), whole),
  few,
  next,
  same ∙ posted,
  reached,
  kept,
  size,
)

pub Follows-more : (client : Installed) (turns : List Turn) (mid : Installed) (turn : Turn) (after : Installed)
    → Follows client turns mid → IsTurn mid turn → after ≡ client_after mid turn.accepted
    → Follows client (turns ++ turn ∷ []) after
Follows-more client [] mid turn after led is next =
    let P : Installed → Type 0 = λ m. IsTurn m turn in
    (subst P led is, next ∙ ap (λ m. client_after m turn.accepted) led)
Follows-more client (first ∷ turns) mid turn after led is next =
    (led.0, Follows-more (client_after client first.accepted) turns mid turn after led.1 is next)

pub posts-more : (client : Installed) (turns : List Turn) (mid : Installed) (turn : Turn)
    → Follows client turns mid
    → posts_of client (turns ++ turn ∷ []) ≡ posts_of client turns ++ post_of mid turn.reply ∷ []
posts-more client [] mid turn led = ap (λ m. post_of m turn.reply ∷ []) (sym led)
posts-more client (first ∷ turns) mid turn led =
    ap (λ posts. post_of client first.reply ∷ posts)
    (posts-more (client_after client first.accepted) turns mid turn led.1)

pub addresses-more : (turns : List Turn) (turn : Turn)
    → addresses_of (turns ++ turn ∷ []) ≡ addresses_of turns ++ address_of turn.accepted.offer ∷ []
addresses-more [] turn = refl
addresses-more (first ∷ turns) turn =
    ap (λ addresses. address_of first.accepted.offer ∷ addresses) (addresses-more turns turn)

commits-more : (turns : List Turn) (turn : Turn)
    → map commit_of (turns ++ turn ∷ []) ≡ map commit_of turns ++ commit_of turn ∷ []
commits-more [] turn = refl
commits-more (first ∷ turns) turn =
    ap (λ commits. commit_of first ∷ commits) (commits-more turns turn)

pub bytes-more : (turns : List Turn) (turn : Turn)
    → bytes_of (turns ++ turn ∷ []) ≡ bytes_of turns + (part_of turn.accepted.offer).size
bytes-more [] turn = omega arith
bytes-more (first ∷ turns) turn = omega (arith, bytes-more turns turn)

-- the steps so far
pub record SoFar (client now : Installed) (old posts : List Post) (asked opened : List (List ℕ)) (before commits : List Commit)
    (steps bytes : ℕ) : Type 0 where
  pub turns : List Turn
  pub follows : Follows client turns now
  pub posted : posts ≡ old ++ posts_of client turns
  pub reached : opened ≡ asked ++ addresses_of turns
  pub committed : commits ≡ before ++ map commit_of turns
  pub count : steps ≡ length turns
  pub sum : bytes ≡ bytes_of turns

-- one more step was made
pub so_far-more : (client mid after : Installed) (old between new : List Post)
    (asked opening opened : List (List ℕ)) (before middle commits : List Commit) (steps bytes : ℕ) (step : Step) (received : List ℕ) (ended : Type 0)
    → SoFar client mid old between asked opening before middle steps bytes
    → Turned mid after steps between new opening opened middle commits received ended (Ok (Some step))
    → SoFar client after old new asked opened before commits (steps + 1) (bytes + step.bytes)
so_far-more client mid after old between new asked opening opened before middle commits steps bytes step received ended so_far (turn, is, few, next, posted, reached, kept, sized) =
    record {
      turns = so_far.turns ++ turn ∷ [];
      follows = Follows-more client so_far.turns mid turn after so_far.follows is next;
      posted = posted ∙ ap (λ posts. posts ++ post_of mid turn.reply ∷ []) so_far.posted
          ∙ append_assoc old (posts_of client so_far.turns) (post_of mid turn.reply ∷ [])
          ∙ ap (λ posts. old ++ posts) (sym (posts-more client so_far.turns mid turn so_far.follows));
      reached = reached
          ∙ ap (λ addresses. addresses ++ address_of turn.accepted.offer ∷ []) so_far.reached
          ∙ append_assoc asked (addresses_of so_far.turns) (address_of turn.accepted.offer ∷ [])
          ∙ ap (λ addresses. asked ++ addresses) (sym (addresses-more so_far.turns turn));
      committed = kept ∙ ap (λ made. made ++ commit_of turn ∷ []) so_far.committed
          ∙ append_assoc before (map commit_of so_far.turns) (commit_of turn ∷ [])
          ∙ ap (λ made. before ++ made) (sym (commits-more so_far.turns turn));
      count = omega (arith, so_far.count, length-append so_far.turns (turn ∷ []));
      sum = omega (arith, so_far.sum, ap (λ made. made.bytes) sized, bytes-more so_far.turns turn);
    }

same_bytes : (text : List ℕ) → bytes_eq text text ≡ true
same_bytes [] = refl
same_bytes (byte ∷ text) = rw (eq-eqb byte byte refl) (same_bytes text)

-- bytes that a test finds different are not the same
pub apart : (x y : List ℕ) → bytes_eq x y ≡ false → x ≡ y → ⊥
apart x y differs same =
    let P : List ℕ → Type 0 = λ z. bytes_eq x z ≡ false in
    let false_is_true : false ≡ true = sym (subst P (sym same) differs) ∙ same_bytes x in
    cc
