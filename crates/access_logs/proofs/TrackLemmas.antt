-- A port's log of which one slot becomes another one.
use Rattle.std.proofs.Common.{◌≡◌, ◌≢◌, ◌∙◌, ◌++◌, ℕ, List, [], append-nil, Option, refl, sym, subst, ap, inl, inr}
use Rattle.std.proofs.lemmas.Bool.Decides.{eqb_tells}
use Rattle.rtrb.specs.Ring.{SameProducer}
use Rattle.http_ports.specs.Loops.{kept_at}
use Rattle.access_logs.specs.Queues.{Sending, SendingEnd}
use Rattle.access_logs.specs.Logs.{LogsAt, pieces_at}
use Rattle.access_logs.specs.Replies.{Piece}
use Rattle.access_logs.specs.Sights.{Becomes, IsGoing, Sight}
use Rattle.access_logs.specs.Tracks.{Tracks}
use Rattle.access_logs.specs.declared.port_log.PortLog.{PortLog}
use Rattle.access_logs.specs.declared.seen.Seen.{Seen}
use Rattle.access_logs.proofs.LogLemmas.{LogsAll-append, pieces_at-append}

-- the same ends of a ring
pub SameProducer-refl : (end : SendingEnd) → SameProducer end end
SameProducer-refl end = ((refl, refl, refl, refl), refl)

SameProducer-after :
    (first second third : SendingEnd) → SameProducer first second → SameProducer second third → SameProducer first third
SameProducer-after first second third ((a, b, c, d), e) ((f, g, h, i), j) = ((f ∙ a, g ∙ b, h ∙ c, i ∙ d), j ∙ e)

-- nothing was logged
pub LogsAt-nothing : (at : ℕ) (old : Sending) → LogsAt at [] old old
LogsAt-nothing at old = ([], refl, refl, λ k other. refl)

-- the slots are the same
pub Tracks-same :
    (start : Sending) (log : PortLog) (old new : ℕ → Sight) → ((k : ℕ) → new k ≡ old k) → Tracks start log old →
    Tracks start log new
Tracks-same start log old new same tracks = record {
  logged = tracks.logged;
  sends = tracks.sends;
  ring = tracks.ring;
  done = λ k. tracks.done k ∙ ap (λ (s : Sight). s.done) (sym (same k));
  going = λ k. subst (λ (s : Sight). IsGoing s.going (kept_at log.seens.items k)) (sym (same k)) (tracks.going k);
}

-- one slot becomes another one, of which more replies were logged
pub Tracks-on :
    (start : Sending) (was now : PortLog) (at : ℕ) (sight : Sight) (old new : ℕ → Sight) (more : List Piece) →
    Becomes at sight old new → sight.done ≡ (old at).done ++ more → LogsAt at more was.lines now.lines →
    SameProducer was.lines.end now.lines.end → IsGoing sight.going (kept_at now.seens.items at) →
    ((k : ℕ) → k ≢ at → kept_at now.seens.items k ≡ kept_at was.seens.items k) → Tracks start was old →
    Tracks start now new
Tracks-on start was now at sight old new more (here, elsewhere) done (logged, sends, own, others) ring going kept
    tracks =
    record {
      logged = tracks.logged ++ logged;
      sends = LogsAll-append start was.lines now.lines tracks.logged logged tracks.sends sends;
      ring = SameProducer-after start.end was.lines.end now.lines.end tracks.ring ring;
      done = λ k. elim (eqb_tells k at) [
        | inl (is, same) ↦
            subst (λ (j : ℕ). pieces_at j (tracks.logged ++ logged) ≡ (new j).done) (sym same) done_here
        | inr (is, other) ↦
            pieces_at-append k tracks.logged logged
            ∙ ap (λ (pieces : List Piece). pieces_at k tracks.logged ++ pieces) (others k other)
            ∙ append-nil (pieces_at k tracks.logged) ∙ tracks.done k
            ∙ ap (λ (s : Sight). s.done) (sym (elsewhere k other))
      ];
      going = λ k. elim (eqb_tells k at) [
        | inl (is, same) ↦
            subst (λ (j : ℕ). IsGoing (new j).going (kept_at now.seens.items j)) (sym same)
            (subst (λ (s : Sight). IsGoing s.going (kept_at now.seens.items at)) (sym here) going)
        | inr (is, other) ↦
            subst (λ (s : Sight). IsGoing s.going (kept_at now.seens.items k)) (sym (elsewhere k other))
            (subst (λ (seen : Option Seen). IsGoing (old k).going seen) (sym (kept k other)) (tracks.going k))
      ];
    }
  where
    done_here : pieces_at at (tracks.logged ++ logged) ≡ (new at).done
    done_here =
        pieces_at-append at tracks.logged logged
        ∙ ap (λ (pieces : List Piece). pieces_at at tracks.logged ++ pieces) own
        ∙ ap (λ (pieces : List Piece). pieces ++ more) (tracks.done at) ∙ sym done
        ∙ ap (λ (s : Sight). s.done) (sym here)
