-- The replies of a log, and one more.
use Rattle.std.proofs.Common.{◌≡◌, ◌∙◌, ℕ, Bool, true, false, List, [], ◌∷◌, ◌++◌, length, refl, sym, subst, ap, if◌then◌else◌}
use Rattle.std.specs.Prelude.{◌==◌, nat_lt}
use Rattle.std.proofs.lemmas.Bool.{eq-eqb, ne_eqb}
use Rattle.access_logs.specs.Queues.{Sending}
use Rattle.access_logs.specs.Logs.{Logged, LogsAll, LogsAt, LogsOne, pieces_at}
use Rattle.access_logs.specs.Replies.{Piece, piece_if}

-- more were logged
pub LogsAll-append :
    (old between new : Sending) (logged more : List Logged) →
    LogsAll old logged between → LogsAll between more new → LogsAll old (logged ++ more) new
LogsAll-append old between new [] more same rest = subst (λ (s : Sending). LogsAll s more new) same rest
LogsAll-append old between new (first ∷ logged) more (next, logs, all) rest =
    (next, logs, LogsAll-append next between new logged more all rest)

pub pieces_at-append :
    (at : ℕ) (logged more : List Logged) → pieces_at at (logged ++ more) ≡ pieces_at at logged ++ pieces_at at more
pieces_at-append at [] more = refl
pieces_at-append at (first ∷ logged) more =
    ap (λ (rest : List Piece). if first.slot == at then first.piece ∷ rest else rest) (pieces_at-append at logged more)
    ∙ of_first (first.slot == at)
  where
    of_first :
        (is : Bool) →
        (if is then first.piece ∷ pieces_at at logged ++ pieces_at at more
        else pieces_at at logged ++ pieces_at at more)
        ≡ (if is then first.piece ∷ pieces_at at logged else pieces_at at logged) ++ pieces_at at more
    of_first true = refl
    of_first false = refl

-- a reply of which a byte was sent
piece_if-some :
    (piece : Piece) → nat_lt 0 (length piece.reply) ≡ true → piece_if piece.message piece.reply ≡ piece ∷ []
piece_if-some piece some = of_reply piece.reply some
  where
    of_reply :
        (reply : List ℕ) → nat_lt 0 (length reply) ≡ true →
        piece_if piece.message reply ≡ record { message = piece.message; reply = reply } ∷ []
    of_reply [] none = cc none
    of_reply (byte ∷ reply) some = refl

-- the only one
pub LogsAt-one :
    (at : ℕ) (piece : Piece) (is_short : Bool) (old new : Sending) → nat_lt 0 (length piece.reply) ≡ true →
    LogsOne old (record { slot = at; piece = piece; is_short = is_short }) new →
    LogsAt at (piece_if piece.message piece.reply) old new
LogsAt-one at piece is_short old new some one = (
  record { slot = at; piece = piece; is_short = is_short } ∷ [],
  (new, one, refl),
  ap (λ (is : Bool). if is then piece ∷ [] else []) (eq-eqb at at refl) ∙ sym (piece_if-some piece some),
  λ k other. ap (λ (is : Bool). if is then piece ∷ [] else []) (ne_eqb at k (λ same. other (sym same))),
)
