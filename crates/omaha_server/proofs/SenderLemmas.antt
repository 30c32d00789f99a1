-- What was sent to the log of a server, once its jobs have ended.
use Rattle.std.proofs.Common.{◌≡◌, ◌∙◌, ◌&&◌, ℕ, All, Bool, true, false, List, [], ◌∷◌, ◌++◌, Option, Some, None, IfSome, append-nil, map, option_map, option_to_list, refl, sym, subst, ap}
use Rattle.std.specs.List.{AllZip}
use Rattle.std.specs.Option.{is_some}
use Rattle.std.proofs.lemmas.List.{map-append}
use Rattle.std.proofs.lemmas.List.Elements.{All-head, All-tail}
use Rattle.access_logs.specs.Logs.{IsLogOf}
use Rattle.http_ports.specs.Traffic.{Slot}
use Rattle.http_sessions.specs.Ports.{Passage}
use Rattle.access_logs.specs.Queues.{Ended, Sending}
use Rattle.rtrb.specs.Ring.{SameProducer}
use Rattle.server_ports.specs.Logging.{AreLogged, HasSent, log_at, senders_of, those_of}
use Rattle.server_ports.specs.Passages.{Passages}
use Rattle.server_ports.specs.declared.ports.ServedPort.{ServedPort}
use Rattle.server_ports.specs.declared.setup.Served.{Served}

-- one more of those that are there
pub those_of-more :
    {A : Type 0} (items : List (Option A)) (item : Option A) → those_of (items ++ item ∷ []) ≡ those_of items ++ option_to_list item
those_of-more [] None = refl
those_of-more [] (Some one) = refl
those_of-more (None ∷ items) item = those_of-more items item
those_of-more (Some one ∷ items) item = ap (λ (rest : List _). one ∷ rest) (those_of-more items item)

-- the lines of ports were sent by these
abbrev pub HaveLines : List Passage → List Ended → Type 0
HaveLines passages ended =
    AllZip (λ (passage : Passage) (sent : List ℕ). IsLogOf passage.slots sent) passages (map (λ (e : Ended). e.sent) ended)

-- a port's, before others'
sent-one :
    (passage : Passage) (line : Option Sending) (log : Option Ended) (passages : List Passage) (logs : List (Option Ended)) →
    is_some line ≡ true → HasSent passage.slots line log → HaveLines passages (those_of logs) →
    HaveLines (passage ∷ passages) (those_of (log ∷ logs))
sent-one passage None log passages logs some sent rest = cc some
sent-one passage (Some first) None passages logs some sent rest = absurd sent
sent-one passage (Some first) (Some last) passages logs some sent rest = (sent.0, rest)

-- nor was anything without a log
none-one :
    (slots : ℕ → Slot) (line : Option Sending) (log : Option Ended) (logs : List (Option Ended)) →
    is_some line ≡ false → HasSent slots line log → those_of logs ≡ [] → those_of (log ∷ logs) ≡ []
none-one slots None None logs none sent rest = rest
none-one slots None (Some last) logs none sent rest = absurd sent
none-one slots (Some first) log logs none sent rest = cc none

zip-push :
    {A B : Type 0} (Agree : A → B → Type 0) (one : List A) (other : List B) (a : A) (b : B) → AllZip Agree one other → Agree a b →
    AllZip Agree (one ++ a ∷ []) (other ++ b ∷ [])
zip-push Agree [] [] a b all last = (last, tt)
zip-push Agree [] (y ∷ other) a b all last = absurd all
zip-push Agree (x ∷ one) [] a b all last = absurd all
zip-push Agree (x ∷ one) (y ∷ other) a b all last = (all.0, zip-push Agree one other a b all.1 last)

-- one more, after others'
sent-last :
    (passage : Passage) (line : Option Sending) (log : Option Ended) (passages : List Passage) (ended : List Ended) →
    is_some line ≡ true → HasSent passage.slots line log → HaveLines passages ended →
    HaveLines (passages ++ passage ∷ []) (ended ++ option_to_list log)
sent-last passage None log passages ended some sent lines = cc some
sent-last passage (Some first) None passages ended some sent lines = absurd sent
sent-last passage (Some first) (Some last) passages ended some sent lines =
    subst (λ (sents : List (List ℕ)). AllZip (λ (p : Passage) (sent : List ℕ). IsLogOf p.slots sent) (passages ++ passage ∷ []) sents)
    (sym (map-append (λ (e : Ended). e.sent) ended (last ∷ [])))
    (zip-push (λ (p : Passage) (sent : List ℕ). IsLogOf p.slots sent) passages (map (λ (e : Ended). e.sent) ended) passage last.sent
    lines sent.0)

-- senders have ended, of the rings that they had
abbrev pub AreSame : List Sending → List Ended → Type 0
AreSame senders ended = AllZip (λ (sender : Sending) (last : Ended). SameProducer sender.end last.end) senders ended

same-one :
    (slots : ℕ → Slot) (line : Option Sending) (log : Option Ended) (lines : List (Option Sending)) (logs : List (Option Ended)) →
    HasSent slots line log → AreSame (those_of lines) (those_of logs) → AreSame (those_of (line ∷ lines)) (those_of (log ∷ logs))
same-one slots None None lines logs sent rest = rest
same-one slots None (Some last) lines logs sent rest = absurd sent
same-one slots (Some first) None lines logs sent rest = absurd sent
same-one slots (Some first) (Some last) lines logs sent rest = (sent.1, rest)

same-none : (senders : List Sending) (ended : List Ended) → AreSame senders ended → AreSame (senders ++ []) (ended ++ [])
same-none senders ended same =
    subst (λ (these : List Sending). AreSame these (ended ++ [])) (sym (append-nil senders))
    (subst (AreSame senders) (sym (append-nil ended)) same)

same-last :
    (slots : ℕ → Slot) (line : Option Sending) (log : Option Ended) (senders : List Sending) (ended : List Ended) →
    HasSent slots line log → AreSame senders ended → AreSame (senders ++ option_to_list line) (ended ++ option_to_list log)
same-last slots None None senders ended sent same = same-none senders ended same
same-last slots None (Some last) senders ended sent same = absurd sent
same-last slots (Some first) None senders ended sent same = absurd sent
same-last slots (Some first) (Some last) senders ended sent same =
    zip-push (λ (sender : Sending) (one : Ended). SameProducer sender.end one.end) senders ended first last same sent.1

none_of : (line : Option Sending) → is_some line ≡ false → line ≡ None
none_of None none = refl
none_of (Some sender) none = cc none

module _ {J E P : Type 0} (passage : ServedPort P → Passage) (line_of : J → Option Sending) (served_of : E → Served P) where
  -- each job has sent the lines of its port
  abbrev pub HaveSent : List J → List E → Type 0
  HaveSent jobs ends =
      AllZip (λ (job : J) (end : E). HasSent (passage (served_of end).port).slots (line_of job) (served_of end).log) jobs ends

  -- those of all ports that log
  sent-all :
      (jobs : List J) (ends : List E) → All (λ (line : Option Sending). is_some line ≡ true) (map line_of jobs) →
      HaveSent jobs ends →
      HaveLines (map passage (map (λ (end : E). (served_of end).port) ends)) (those_of (map (λ (end : E). (served_of end).log) ends))
  sent-all [] [] lined sent = tt
  sent-all [] (end ∷ ends) lined sent = absurd sent
  sent-all (job ∷ jobs) [] lined sent = absurd sent
  sent-all (job ∷ jobs) (end ∷ ends) lined sent =
      let Is = λ (line : Option Sending). is_some line ≡ true in
      sent-one (passage (served_of end).port) (line_of job) (served_of end).log
      (map passage (map (λ (e : E). (served_of e).port) ends)) (map (λ (e : E). (served_of e).log) ends)
      (All-head Is (line_of job) (map line_of jobs) lined) sent.0
      (sent-all jobs ends (All-tail Is (line_of job) (map line_of jobs) lined) sent.1)

  -- and without a log nothing was sent
  none-all :
      (jobs : List J) (ends : List E) → All (λ (line : Option Sending). is_some line ≡ false) (map line_of jobs) →
      HaveSent jobs ends → those_of (map (λ (end : E). (served_of end).log) ends) ≡ []
  none-all [] [] lined sent = refl
  none-all [] (end ∷ ends) lined sent = absurd sent
  none-all (job ∷ jobs) [] lined sent = absurd sent
  none-all (job ∷ jobs) (end ∷ ends) lined sent =
      let Is = λ (line : Option Sending). is_some line ≡ false in
      none-one (passage (served_of end).port).slots (line_of job) (served_of end).log (map (λ (e : E). (served_of e).log) ends)
      (All-head Is (line_of job) (map line_of jobs) lined) sent.0
      (none-all jobs ends (All-tail Is (line_of job) (map line_of jobs) lined) sent.1)

  -- what passed at the ports of jobs that have ended, and of the operator's, if it has one
  abbrev pub passages_at : List E → Option (Served P) → Passages
  passages_at ends served = record {
    clients = map passage (map (λ (end : E). (served_of end).port) ends);
    operator = option_map passage (option_map (λ (s : Served P). s.port) served);
  }

  -- the senders that have ended
  abbrev pub ended_at : List E → Option (Served P) → List Ended
  ended_at ends served = those_of (map (λ (end : E). (served_of end).log) ends) ++ option_to_list (log_at served)

  -- what they sent was what the ports' replies ask
  pub logged-all :
      (log : Bool) (jobs : List J) (ends : List E) (line : Option Sending) (served : Option (Served P)) →
      All (λ (l : Option Sending). is_some l ≡ log) (map line_of jobs) → is_some line ≡ (log && is_some served) →
      HaveSent jobs ends → IfSome served (λ (s : Served P). HasSent (passage s.port).slots line s.log) →
      AreLogged log (passages_at ends served) (map (λ (e : Ended). e.sent) (ended_at ends served))
  logged-all true jobs ends line (Some served) lined own sent own_sent =
      sent-last (passage served.port) line served.log _ _ own own_sent (sent-all jobs ends lined sent)
  logged-all true jobs ends line None lined own sent own_sent =
      let clients = map passage (map (λ (end : E). (served_of end).port) ends) in
      let ended = those_of (map (λ (end : E). (served_of end).log) ends) in
      subst (λ (passages : List Passage). HaveLines passages (ended ++ [])) (sym (append-nil clients))
      (subst (HaveLines clients) (sym (append-nil ended)) (sent-all jobs ends lined sent))
  logged-all false jobs ends line served lined own sent own_sent =
      ap (map (λ (e : Ended). e.sent))
      (ap (λ (these : List Ended). these ++ option_to_list (log_at served)) (none-all jobs ends lined sent)
      ∙ own_none served line (none_of line own) own_sent)
    where
      own_none :
          (served : Option (Served P)) (line : Option Sending) → line ≡ None →
          IfSome served (λ (s : Served P). HasSent (passage s.port).slots line s.log) → option_to_list (log_at served) ≡ []
      own_none None line none own_sent = refl
      own_none (Some served) line none own_sent =
          unsent_of served.log (passage served.port).slots
          (subst (λ (l : Option Sending). HasSent (passage served.port).slots l served.log) none own_sent)
        where
          unsent_of : (log : Option Ended) (slots : ℕ → Slot) → HasSent slots None log → option_to_list log ≡ []
          unsent_of None slots sent = refl
          unsent_of (Some last) slots sent = absurd sent

  -- senders of the jobs' ports have ended
  same-all :
      (jobs : List J) (ends : List E) → HaveSent jobs ends →
      AreSame (those_of (map line_of jobs)) (those_of (map (λ (end : E). (served_of end).log) ends))
  same-all [] [] sent = tt
  same-all [] (end ∷ ends) sent = absurd sent
  same-all (job ∷ jobs) [] sent = absurd sent
  same-all (job ∷ jobs) (end ∷ ends) sent =
      same-one (passage (served_of end).port).slots (line_of job) (served_of end).log (map line_of jobs)
      (map (λ (e : E). (served_of e).log) ends) sent.0 (same-all jobs ends sent.1)

  -- and the operator's, if it has one
  pub ended-all :
      (log : Bool) (jobs : List J) (ends : List E) (line : Option Sending) (served : Option (Served P)) →
      is_some line ≡ (log && is_some served) → HaveSent jobs ends →
      IfSome served (λ (s : Served P). HasSent (passage s.port).slots line s.log) →
      AreSame (senders_of (map line_of jobs) line) (ended_at ends served)
  ended-all log jobs ends line (Some served) own sent own_sent =
      same-last (passage served.port).slots line served.log (those_of (map line_of jobs))
      (those_of (map (λ (end : E). (served_of end).log) ends)) own_sent (same-all jobs ends sent)
  ended-all log jobs ends None None own sent own_sent =
      same-none (those_of (map line_of jobs)) (those_of (map (λ (end : E). (served_of end).log) ends)) (same-all jobs ends sent)
  ended-all true jobs ends (Some first) None own sent own_sent = cc own
  ended-all false jobs ends (Some first) None own sent own_sent = cc own
