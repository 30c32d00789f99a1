-- What the bytes after some messages come to, and that it is one thing.
use Rattle.std.proofs.Common.{◌≡◌, ℕ, ◌+◌, ◌-◌, ◌⊎◌, Bool, true, false, ◌||◌, List, [], ◌++◌, append_assoc, length, length-append, take, None, Result, Ok, Err, inl, inr, refl, sym, subst, ap, ◌∙◌, arith}
use Rattle.std.proofs.lemmas.List.{append-nil, append_cancel_left, take_all}
use Rattle.std.proofs.Math.Seq.{take-append-add}
use Rattle.httparse.specs.Grammar.{EndsInTarget, HasNoRequest, MayBecomeRequest, NeverHasRequest, RequestHead, print_request}
use Rattle.httparse.proofs.GrammarLemmas.{request_unique}
use Rattle.http_wire.specs.declared.heads.status.Status.{Status}
use Rattle.http_wire.specs.Heads.{IsLongHead, IsPartOfHead}
use Rattle.http_desks.specs.Replies.{empty_reply, handled_of, reply_to}
use Rattle.http_desks.specs.Uses.{Use}
use Rattle.http_sessions.specs.Messages.{BeginsWith, Exchange, IsExchange, IsOpen, closing, exchange_bytes, message_length}
use Rattle.http_sessions.specs.Stops.{Bad, IsPartOfBody, Last, Long, More, Refuses, Stop, StopsAt, Waits, stop_bytes}
use Rattle.http_sessions.specs.Laws.{IsAnyUse, IsFinal}
use Rattle.http_sessions.proofs.ReadingLemmas.{take_front}

-- a head at the front is one of the first 16384 bytes
begins_excludes :
    (bytes : List ℕ) (head : RequestHead) (after : List ℕ) →
    BeginsWith bytes head after →
    HasNoRequest (take 16384 bytes) →
    ⊥
begins_excludes bytes head after (reads, short) none =
    let room : 16384 ≡ length (print_request head) + (16384 - length (print_request head)) = omega (arith, short) in
    let front : take 16384 bytes ≡ print_request head ++ take (16384 - length (print_request head)) after =
    ap (take 16384) reads.1 ∙ ap (λ (n : ℕ). take n (print_request head ++ after)) room
    ∙ take-append-add (print_request head) after (16384 - length (print_request head)) in
    none head (take (16384 - length (print_request head)) after) (reads.0, front)

never_none : (bytes : List ℕ) → NeverHasRequest bytes → HasNoRequest bytes
never_none bytes never = subst HasNoRequest (append-nil bytes) (never [])

part_all : (bytes : List ℕ) → IsPartOfHead bytes → bytes ≡ take 16384 bytes
part_all bytes part = sym (take_all 16384 bytes (omega (arith, part.short)))

part_none : (bytes : List ℕ) → IsPartOfHead bytes → HasNoRequest (take 16384 bytes)
part_none bytes part = subst HasNoRequest (part_all bytes part) part.none

-- bytes that may become a head, and never do, end within a target
never_may : (bytes : List ℕ) → NeverHasRequest bytes → MayBecomeRequest bytes → EndsInTarget bytes
never_may bytes never (inl (more, head, reads)) = absurd (never more head [] reads)
never_may bytes never (inr target) = target

same_head :
    (bytes : List ℕ) (head other : RequestHead) (after behind : List ℕ) →
    BeginsWith bytes head after →
    BeginsWith bytes other behind →
    (head ≡ other) × (after ≡ behind)
same_head bytes head other after behind one two = request_unique bytes head other after behind one.0 two.0

pub split_same :
    (front back first last : List ℕ) →
    length front ≡ length first →
    front ++ back ≡ first ++ last →
    (front ≡ first) × (back ≡ last)
split_same front back first last long same =
    let fronts : front ≡ first =
    sym (take_front (length front) front back refl) ∙ ap (take (length front)) same ∙ take_front (length front) first last (sym long) in
    (fronts, append_cancel_left front back last (same ∙ ap (λ (f : List ℕ). f ++ last) (sym fronts)))

begins :
    (stream rest : List ℕ) (e : Exchange) →
    stream ≡ exchange_bytes e ++ rest →
    IsExchange IsAnyUse e →
    BeginsWith stream e.head (e.body ++ rest)
begins stream rest e cut exchange =
    ((exchange.head, cut ∙ append_assoc (print_request e.head) e.body rest), exchange.short)

same_length : (head other : RequestHead) (n m : ℕ) → head ≡ other → message_length head ≡ Ok n → message_length other ≡ Ok m → n ≡ m
same_length head other n m same one two =
    let both : ◌≡◌ {A = Result ℕ Status} (Ok n) (Ok m) = sym one ∙ ap message_length same ∙ two in cc

ok_or_err : (head other : RequestHead) (n : ℕ) (why : Status) → head ≡ other → message_length head ≡ Ok n → message_length other ≡ Err why → ⊥
ok_or_err head other n why same one two =
    let both : ◌≡◌ {A = Result ℕ Status} (Ok n) (Err why) = sym one ∙ ap message_length same ∙ two in cc

same_parts :
    (head other : RequestHead) (body rest : List ℕ) (used use_too : Use) →
    head ≡ other →
    body ≡ rest →
    used ≡ use_too →
    ◌≡◌ {A = Exchange} (record { head = head; body = body; used = used }) (record { head = other; body = rest; used = use_too })
same_parts head other body rest used use_too heads bodies uses = cc

pub same_exchange :
    (stream rest left : List ℕ) (e f : Exchange) →
    stream ≡ exchange_bytes e ++ rest →
    stream ≡ exchange_bytes f ++ left →
    IsExchange IsAnyUse e →
    IsExchange IsAnyUse f →
    e.used ≡ f.used →
    (e ≡ f) × (rest ≡ left)
same_exchange stream rest left e f one two valid fine used =
    let (heads, after) = same_head stream e.head f.head (e.body ++ rest) (f.body ++ left) (begins stream rest e one valid) (begins stream left f two fine) in
    let long = same_length e.head f.head (length e.body) (length f.body) heads valid.framed fine.framed in
    let (bodies, rests) = split_same e.body rest f.body left long after in
    (same_parts e.head f.head e.body f.body e.used f.used heads bodies used, rests)

-- a message at the front, and less than a body
not_part :
    (bytes rest : List ℕ) (e : Exchange) →
    bytes ≡ exchange_bytes e ++ rest →
    IsExchange IsAnyUse e →
    IsPartOfBody bytes →
    ⊥
not_part bytes rest e cut exchange part =
    let (heads, after) = same_head bytes part.head e.head part.after (e.body ++ rest) part.begins (begins bytes rest e cut exchange) in
    let long = same_length part.head e.head part.size (length e.body) heads part.framed exchange.framed in
    omega (arith, part.short, ap length after, long, length-append e.body rest)

-- where a message kept the connection open, nothing else is
pub excluded :
    (last : Bool) (stream rest : List ℕ) (stop : Stop) (f : Exchange) (used : Use) →
    last ≡ false →
    StopsAt IsAnyUse stop stream →
    IsFinal last stop →
    ((e : Exchange) → stop ≡ Last e → e.used ≡ used) →
    stream ≡ exchange_bytes f ++ rest →
    IsOpen IsAnyUse f →
    f.used ≡ used →
    ⊥
excluded last stream rest More f used on stops final uses cut stays same = final
excluded last stream rest Waits f used on (inl part) final uses cut stays same =
    begins_excludes stream f.head (f.body ++ rest) (begins stream rest f cut stays.exchange) (part_none stream part)
excluded last stream rest Waits f used on (inr part) final uses cut stays same = not_part stream rest f cut stays.exchange part
excluded last stream rest Bad f used on never final uses cut stays same =
    begins_excludes stream f.head (f.body ++ rest) (begins stream rest f cut stays.exchange) (never_none (take 16384 stream) never)
excluded last stream rest Long f used on long final uses cut stays same =
    begins_excludes stream f.head (f.body ++ rest) (begins stream rest f cut stays.exchange) long.none
excluded last stream rest (Refuses head why) f used on (after, front, framed) final uses cut stays same =
    let (heads, behind) = same_head stream f.head head (f.body ++ rest) after (begins stream rest f cut stays.exchange) front in
    ok_or_err f.head head (length f.body) why heads stays.exchange.framed framed
excluded last stream rest (Last e) f used on (after, front, exchange) final uses cut stays same =
    let (equal, behind) = same_exchange stream after rest e f front cut exchange stays.exchange (uses e refl ∙ sym same) in
    let stays_on : closing last e.head ≡ false =
    ap (λ (x : Exchange). closing last x.head) equal ∙ ap (λ (b : Bool). b || last) stays.stays ∙ on in
    final stays_on (ap (λ (x : Exchange). handled_of x.used) equal ∙ stays.whole)

-- the bytes of two stops are the same, or the rest ends within a target
abbrev SameBytes : List ℕ → Bool → List ℕ → Stop → Stop → Type 0
SameBytes kind last rest s t = (stop_bytes kind last s ≡ stop_bytes kind last t) ⊎ EndsInTarget (take 16384 rest)

part_or_long : (rest : List ℕ) → IsPartOfHead rest → IsLongHead (take 16384 rest) → ⊥
part_or_long rest part long = omega (arith, part.short, ap length (part_all rest part), long.full)

part_or_never : (rest : List ℕ) → IsPartOfHead rest → NeverHasRequest (take 16384 rest) → EndsInTarget (take 16384 rest)
part_or_never rest part never = never_may (take 16384 rest) never (subst MayBecomeRequest (part_all rest part) part.unfinished)

pub same_stop :
    (kind : List ℕ) (last : Bool) (rest : List ℕ) (used : Use) (s t : Stop) →
    StopsAt IsAnyUse s rest →
    StopsAt IsAnyUse t rest →
    IsFinal last s →
    IsFinal last t →
    ((e : Exchange) → s ≡ Last e → e.used ≡ used) →
    ((e : Exchange) → t ≡ Last e → e.used ≡ used) →
    SameBytes kind last rest s t
same_stop kind last rest used More t a b final end u v = absurd final
same_stop kind last rest used Waits More a b final end u v = absurd end
same_stop kind last rest used Waits Waits a b final end u v = inl refl
same_stop kind last rest used Waits Bad (inl part) never final end u v = inr (part_or_never rest part never)
same_stop kind last rest used Waits Bad (inr part) never final end u v =
    absurd (begins_excludes rest part.head part.after part.begins (never_none (take 16384 rest) never))
same_stop kind last rest used Waits Long (inl part) long final end u v = absurd (part_or_long rest part long)
same_stop kind last rest used Waits Long (inr part) long final end u v =
    absurd (begins_excludes rest part.head part.after part.begins long.none)
same_stop kind last rest used Waits (Refuses head why) (inl part) (after, front, framed) final end u v =
    absurd (begins_excludes rest head after front (part_none rest part))
same_stop kind last rest used Waits (Refuses head why) (inr part) (after, front, framed) final end u v =
    absurd (ok_or_err part.head head part.size why (same_head rest part.head head part.after after part.begins front).0 part.framed framed)
same_stop kind last rest used Waits (Last e) (inl part) (after, cut, exchange) final end u v =
    absurd (begins_excludes rest e.head (e.body ++ after) (begins rest after e cut exchange) (part_none rest part))
same_stop kind last rest used Waits (Last e) (inr part) (after, cut, exchange) final end u v =
    absurd (not_part rest after e cut exchange part)
same_stop kind last rest used Bad More a b final end u v = absurd end
same_stop kind last rest used Bad Waits never (inl part) final end u v = inr (part_or_never rest part never)
same_stop kind last rest used Bad Waits never (inr part) final end u v =
    absurd (begins_excludes rest part.head part.after part.begins (never_none (take 16384 rest) never))
same_stop kind last rest used Bad Bad a b final end u v = inl refl
same_stop kind last rest used Bad Long never long final end u v = inr (never_may (take 16384 rest) never long.unfinished)
same_stop kind last rest used Bad (Refuses head why) never (after, front, framed) final end u v =
    absurd (begins_excludes rest head after front (never_none (take 16384 rest) never))
same_stop kind last rest used Bad (Last e) never (after, cut, exchange) final end u v =
    absurd (begins_excludes rest e.head (e.body ++ after) (begins rest after e cut exchange) (never_none (take 16384 rest) never))
same_stop kind last rest used Long More a b final end u v = absurd end
same_stop kind last rest used Long Waits long (inl part) final end u v = absurd (part_or_long rest part long)
same_stop kind last rest used Long Waits long (inr part) final end u v =
    absurd (begins_excludes rest part.head part.after part.begins long.none)
same_stop kind last rest used Long Bad long never final end u v = inr (never_may (take 16384 rest) never long.unfinished)
same_stop kind last rest used Long Long a b final end u v = inl refl
same_stop kind last rest used Long (Refuses head why) long (after, front, framed) final end u v =
    absurd (begins_excludes rest head after front long.none)
same_stop kind last rest used Long (Last e) long (after, cut, exchange) final end u v =
    absurd (begins_excludes rest e.head (e.body ++ after) (begins rest after e cut exchange) long.none)
same_stop kind last rest used (Refuses head why) More a b final end u v = absurd end
same_stop kind last rest used (Refuses head why) Waits (after, front, framed) (inl part) final end u v =
    absurd (begins_excludes rest head after front (part_none rest part))
same_stop kind last rest used (Refuses head why) Waits (after, front, framed) (inr part) final end u v =
    absurd (ok_or_err part.head head part.size why (same_head rest part.head head part.after after part.begins front).0 part.framed framed)
same_stop kind last rest used (Refuses head why) Bad (after, front, framed) never final end u v =
    absurd (begins_excludes rest head after front (never_none (take 16384 rest) never))
same_stop kind last rest used (Refuses head why) Long (after, front, framed) long final end u v =
    absurd (begins_excludes rest head after front long.none)
same_stop kind last rest used (Refuses head why) (Refuses other reason) (after, front, framed) (behind, begin, frame) final end u v =
    let heads = (same_head rest head other after behind front begin).0 in
    let both : ◌≡◌ {A = Result ℕ Status} (Err why) (Err reason) = sym framed ∙ ap message_length heads ∙ frame in
    let whys : why ≡ reason = cc in
    inl (ap (λ (w : Status). empty_reply w None true) whys)
same_stop kind last rest used (Refuses head why) (Last e) (after, front, framed) (behind, cut, exchange) final end u v =
    absurd (ok_or_err e.head head (length e.body) why
    (same_head rest e.head head (e.body ++ behind) after (begins rest behind e cut exchange) front).0 exchange.framed framed)
same_stop kind last rest used (Last e) More a b final end u v = absurd end
same_stop kind last rest used (Last e) Waits (after, cut, exchange) (inl part) final end u v =
    absurd (begins_excludes rest e.head (e.body ++ after) (begins rest after e cut exchange) (part_none rest part))
same_stop kind last rest used (Last e) Waits (after, cut, exchange) (inr part) final end u v =
    absurd (not_part rest after e cut exchange part)
same_stop kind last rest used (Last e) Bad (after, cut, exchange) never final end u v =
    absurd (begins_excludes rest e.head (e.body ++ after) (begins rest after e cut exchange) (never_none (take 16384 rest) never))
same_stop kind last rest used (Last e) Long (after, cut, exchange) long final end u v =
    absurd (begins_excludes rest e.head (e.body ++ after) (begins rest after e cut exchange) long.none)
same_stop kind last rest used (Last e) (Refuses head why) (after, cut, exchange) (behind, front, framed) final end u v =
    absurd (ok_or_err e.head head (length e.body) why
    (same_head rest e.head head (e.body ++ after) behind (begins rest after e cut exchange) front).0 exchange.framed framed)
same_stop kind last rest used (Last e) (Last f) (after, cut, exchange) (behind, front, other) final end u v =
    let (equal, rests) = same_exchange rest after behind e f cut front exchange other (u e refl ∙ sym (v f refl)) in
    inl (ap (λ (x : Exchange). reply_to kind (closing last x.head) x.used) equal)
