-- One more block of a package, after what was said.
use Rattle.std.proofs.Common.{◌≡◌, ◌∙◌, ◌+◌, ◌==◌, ◌++◌, ◌≤◌, ◌||◌, ℕ, Bool, true, false, List, [], ◌∷◌, append-nil, append_assoc, cond, length, length-append, take, Option, None, Some, refl, sym, subst, ap, arith}
use Rattle.std.specs.Prelude.{flat_map}
use Rattle.std.proofs.lemmas.Grind.{flat_map-append}
use Rattle.http_desks.specs.Calls.{Call, Looks}
use Rattle.http_desks.specs.Downloads.{IsRead, Reads, ReadsFrom, agrees, full_blocks, joined_blocks}
use Rattle.http_desks.specs.Replies.{fetch_reply, handled_of, reply_to}
use Rattle.http_desks.specs.Transfers.{IsAt as HasMade, Makes, package_size}
use Rattle.http_desks.specs.Uses.{Broken, Fetch, Fetched, IsFetch, IsUse, Read, Use, calls_of}
use Rattle.http_desks.specs.declared.answering.Handled.TheVariants.{Answered, Cut as CutOff}
use Rattle.http_desks.specs.declared.method.Method.{Method}
use Rattle.http_desks.specs.declared.transfer.NextBlock.TheVariants as next
use Rattle.http_desks.specs.declared.transfer.Transfer.{Transfer}
use Rattle.http_ports.specs.declared.timestamp.Timestamp.{Timestamp}
use Rattle.http_sessions.specs.declared.ends.End.{End}
use Rattle.http_sessions.specs.declared.ends.End.TheVariants.{Cut, Finished}
use Rattle.http_sessions.specs.Messages.{Exchange, IsExchange, IsOpen, asks_close, closing, exchange_bytes, exchange_calls, open_reply}
use Rattle.http_sessions.specs.Stops.{Last, More, Stop, StopsAt, end_after, stop_calls}
use Rattle.http_sessions.specs.Talks.{IsAt, IsSent, Said, pending}
use Rattle.http_sessions.specs.declared.talks.talk.Sending.{Sending}
use Rattle.http_sessions.specs.declared.talks.talk.Stage.{Stage}
use Rattle.http_sessions.specs.declared.talks.talk.Stage.TheVariants as stage
use Rattle.http_sessions.specs.declared.talks.talk.Talk.{Talk}
use Rattle.http_sessions.proofs.TalkLemmas.{RepliesAt, all_replies}
use Rattle.http_sessions.specs.Timestamps.{HasStart, IsAnyTime, IsAskedAt, IsLastTimed}
use Rattle.http_sessions.proofs.TimestampLemmas.{ArePlaced-more, AreTimed-then, all_append, at_any_time}
use Rattle.values.specs.declared.declared.Declared.{Declared}

joined_more : (blocks : List (List ℕ)) (block : List ℕ) → joined_blocks (blocks ++ block ∷ []) ≡ joined_blocks blocks ++ block
joined_more blocks block =
    flat_map-append (λ (b : List ℕ). b) blocks (block ∷ []) ∙ ap (λ (end : List ℕ). joined_blocks blocks ++ end) (append-nil block)

more_of :
    (front : List ℕ) (blocks : List (List ℕ)) (block : List ℕ) →
    front ++ joined_blocks (blocks ++ block ∷ []) ≡ (front ++ joined_blocks blocks) ++ block
more_of front blocks block =
    ap (λ (l : List ℕ). front ++ l) (joined_more blocks block) ∙ sym (append_assoc front (joined_blocks blocks) block)

last_of :
    (front bytes last : List ℕ) (agreed : Bool) → agreed ≡ true →
    front ++ cond agreed (bytes ++ last) bytes ≡ (front ++ bytes) ++ last
last_of front bytes last agreed is =
    ap (λ (b : Bool). front ++ cond b (bytes ++ last) bytes) is ∙ sym (append_assoc front bytes last)

none_of :
    (front bytes last : List ℕ) (agreed : Bool) → agreed ≡ false → front ++ cond agreed (bytes ++ last) bytes ≡ front ++ bytes
none_of front bytes last agreed is = ap (λ (b : Bool). front ++ cond b (bytes ++ last) bytes) is

module _ (declared : Declared) (closes : Bool) where
  -- one more block
  reply_more :
      (blocks : List (List ℕ)) (block : List ℕ) →
      fetch_reply declared closes (Broken (blocks ++ block ∷ [])) ≡ fetch_reply declared closes (Broken blocks) ++ block
  reply_more blocks block = more_of _ blocks block

  -- the last one
  reply_last :
      (blocks : List (List ℕ)) (last : List ℕ) → agrees declared.hash blocks (Some last) ≡ true →
      fetch_reply declared closes (Read blocks (Some last)) ≡ fetch_reply declared closes (Broken blocks) ++ last
  reply_last blocks last agreed = last_of _ (joined_blocks blocks) last (agrees declared.hash blocks (Some last)) agreed

  -- no more
  reply_cut :
      (blocks : List (List ℕ)) (last : Option (List ℕ)) → agrees declared.hash blocks last ≡ false →
      fetch_reply declared closes (Read blocks last) ≡ fetch_reply declared closes (Broken blocks)
  reply_cut blocks None differs = refl
  reply_cut blocks (Some last) differs = none_of _ (joined_blocks blocks) last (agrees declared.hash blocks (Some last)) differs

open_left : (a b : Bool) → (a || b) ≡ false → a ≡ false
open_left true b e = cc
open_left false b e = refl

module _
    (path kind : List ℕ) (timestamps : List Timestamp) (tells : ℕ → Type 0) (sizes : List ℕ → Option ℕ → Type 0) (reads : List ℕ → Reads)
    (talk : Talk) (sending : Sending) (received sent : List ℕ) (calls : List Call) (is : talk.stage ≡ stage.Sends sending)
    (waits : pending talk ≡ []) (said : Said (IsUse path tells sizes reads) kind timestamps talk received sent calls)
  where
    abbrev last : Bool
    last = length said.exchanges == 999

    abbrev before : List ℕ
    before = flat_map (open_reply kind) said.exchanges

    abbrev name : List ℕ
    name = sending.name.items

    abbrev declared : Declared
    declared = sending.declared

    abbrev Fits : Method → List ℕ → Use → Type 0
    Fits = IsUse path tells sizes reads

    -- the message, used otherwise
    abbrev used_so : Exchange → Fetch → Exchange
    used_so e fetch = record { head = e.head; body = e.body; used = Fetched name declared fetch }

    -- what is known of the package
    record IsMid (e : Exchange) (blocks : List (List ℕ)) : Type 0 where
      pub count : sending.closes ≡ false → talk.begun ≡ length said.exchanges + 1
      pub kept : talk.kept.items ≡ said.unread
      pub rest : said.rest ≡ exchange_bytes e
      pub is_sent : IsSent last sending e blocks
      pub sized : sizes name (Some declared.size)
      pub read : ReadsFrom (reads name) 0 blocks
      pub fits : (fetch : Fetch) → IsFetch (sizes name) (reads name) declared.size fetch → IsExchange Fits (used_so e fetch)
      pub called : calls ≡ flat_map exchange_calls said.exchanges ++ Looks name (Some declared) ∷ []
      pub text : sent ≡ before ++ fetch_reply declared sending.closes (Broken blocks)
      pub began : HasStart timestamps (length (flat_map exchange_bytes said.exchanges)) (length before) (exchange_bytes e) IsAnyTime

    mid_of : (e : Exchange) × (blocks : List (List ℕ)) × IsMid e blocks
    mid_of =
        let (count, kept, (e, blocks, stop, rest, is_sent)) =
        subst (λ (at : Stage). IsAt at talk.begun talk.kept.items talk.need (length said.exchanges) said.stop said.rest said.unread) is said.is_at in
        let replies = subst (λ (at : Stage). RepliesAt kind at sent (pending talk) said.exchanges said.stop) is said.replies in
        let (after, cut, exchange) = subst (λ (s : Stop). StopsAt Fits s said.rest) stop said.stops in
        let (routed, get, (sized, few, read)) = subst (Fits _ e.head.target) is_sent.used exchange.fits in (
          e,
          blocks,
          record {
            count = count;
            kept = kept;
            rest = rest;
            is_sent = is_sent;
            sized = sized;
            read = read;
            fits = λ fetch fit. record {
              head = exchange.head;
              short = exchange.short;
              framed = exchange.framed;
              fits = (routed, get, fit);
            };
            called = said.called ∙ ap (λ (s : Stop). flat_map exchange_calls said.exchanges ++ stop_calls s) stop
                ∙ ap (λ (u : Use). flat_map exchange_calls said.exchanges ++ calls_of e.body u) is_sent.used;
            text = sym (append-nil sent) ∙ ap (λ (l : List ℕ). sent ++ l) (sym waits) ∙ replies
                ∙ ap (all_replies kind said.exchanges) stop
                ∙ ap (λ (u : Use). before ++ reply_to kind (closing last e.head) u) is_sent.used
                ∙ ap (λ (b : Bool). before ++ fetch_reply declared b (Broken blocks)) (sym is_sent.closes);
            began = at_any_time timestamps _ _ (exchange_bytes e) (IsAskedAt e.used)
                (subst (λ (s : Stop). IsLastTimed timestamps (length (flat_map exchange_bytes said.exchanges)) (length before) s) stop said.last_timed);
          },
        )

    -- the bytes that were received, with other bytes for what is after the messages
    cut_as : (e : Exchange) (blocks : List (List ℕ)) → IsMid e blocks → received ≡ flat_map exchange_bytes said.exchanges ++ (exchange_bytes e ++ said.unread)
    cut_as e blocks mid = said.cut ∙ ap (λ (l : List ℕ). flat_map exchange_bytes said.exchanges ++ (l ++ said.unread)) mid.rest

    -- a full block was made
    pub Said-full :
        (new : Talk) (more : Transfer) (cells : List ℕ) →
        ((blocks : List (List ℕ)) → HasMade blocks sending.transfer → ReadsFrom (reads name) 0 blocks →
        Makes (reads name) (package_size sending.transfer) declared.hash blocks cells (next.Full more)) →
        package_size more ≡ package_size sending.transfer →
        new.stage ≡ stage.Sends (record sending { transfer = more }) → new.begun ≡ talk.begun →
        new.kept.items ≡ talk.kept.items → pending new ≡ cells → Said Fits kind timestamps new received sent calls
    Said-full new more cells makes same_size on begun kept makes_cells =
        let (e, blocks, mid) = mid_of in
        let (made, few, read) = makes blocks mid.is_sent.blocks_made mid.read in
        let all = blocks ++ cells ∷ [] in
        let fetch : IsFetch (sizes name) (reads name) declared.size (Broken all) =
        (mid.sized, subst (λ (n : ℕ). length all ≤ full_blocks n) mid.is_sent.size few, read) in
        record {
          exchanges = said.exchanges;
          stop = Last (used_so e (Broken all));
          rest = exchange_bytes e;
          unread = said.unread;
          cut = cut_as e blocks mid;
          each = said.each;
          few = said.few;
          stops = ([], sym (append-nil (exchange_bytes e)), mid.fits (Broken all) fetch);
          called = mid.called;
          timed = said.timed;
          last_timed = mid.began;
          placed = said.placed;
          replies = subst (λ (at : Stage). RepliesAt kind at sent (pending new) said.exchanges (Last (used_so e (Broken all)))) (sym on)
              (ap (λ (l : List ℕ). sent ++ l) makes_cells ∙ ap (λ (l : List ℕ). l ++ cells) mid.text
              ∙ append_assoc before (fetch_reply declared sending.closes (Broken blocks)) cells
              ∙ ap (λ (l : List ℕ). before ++ l) (sym (reply_more declared sending.closes blocks cells))
              ∙ ap (λ (b : Bool). before ++ fetch_reply declared b (Broken all)) mid.is_sent.closes);
          is_at = subst (λ (at : Stage). IsAt at new.begun new.kept.items new.need (length said.exchanges) (Last (used_so e (Broken all))) (exchange_bytes e) said.unread) (sym on) (
            (λ stays. begun ∙ mid.count stays),
            kept ∙ mid.kept,
            (
              used_so e (Broken all),
              all,
              refl,
              refl,
              record { used = refl; closes = mid.is_sent.closes; size = same_size ∙ mid.is_sent.size; blocks_made = made },
            ),
          );
        }

    -- the package ends the session, in whole or cut
    over_with :
        (new : Talk) (how : End) (made : List ℕ) (e : Exchange) (blocks : List (List ℕ)) (end : Option (List ℕ)) →
        IsMid e blocks → IsFetch (sizes name) (reads name) declared.size (Read blocks end) →
        fetch_reply declared sending.closes (Read blocks end) ≡ fetch_reply declared sending.closes (Broken blocks) ++ made →
        end_after (closing last e.head) (handled_of (Fetched name declared (Read blocks end))) ≡ Some how →
        new.stage ≡ stage.Over → pending new ≡ made → Said Fits kind timestamps new received sent calls
    over_with new how made e blocks end mid fetch text ends over makes_cells = record {
      exchanges = said.exchanges;
      stop = Last (used_so e (Read blocks end));
      rest = exchange_bytes e;
      unread = said.unread;
      cut = cut_as e blocks mid;
      each = said.each;
      few = said.few;
      stops = ([], sym (append-nil (exchange_bytes e)), mid.fits (Read blocks end) fetch);
      called = mid.called;
      timed = said.timed;
      last_timed = mid.began;
      placed = said.placed;
      replies = subst (λ (at : Stage). RepliesAt kind at sent (pending new) said.exchanges (Last (used_so e (Read blocks end)))) (sym over)
          (ap (λ (l : List ℕ). sent ++ l) makes_cells ∙ ap (λ (l : List ℕ). l ++ made) mid.text
          ∙ append_assoc before (fetch_reply declared sending.closes (Broken blocks)) made
          ∙ ap (λ (l : List ℕ). before ++ l) (sym text)
          ∙ ap (λ (b : Bool). before ++ fetch_reply declared b (Read blocks end)) mid.is_sent.closes);
      is_at = subst (λ (at : Stage). IsAt at new.begun new.kept.items new.need (length said.exchanges) (Last (used_so e (Read blocks end))) (exchange_bytes e) said.unread) (sym over)
          (how, ends, refl);
    }

    -- no more blocks
    pub Said-cut :
        (new : Talk) (cells : List ℕ) →
        ((blocks : List (List ℕ)) → HasMade blocks sending.transfer → ReadsFrom (reads name) 0 blocks →
        Makes (reads name) (package_size sending.transfer) declared.hash blocks cells next.Cut) →
        new.stage ≡ stage.Over → pending new ≡ [] → Said Fits kind timestamps new received sent calls
    Said-cut new cells makes over none =
        let (e, blocks, mid) = mid_of in
        let (end, read, differs) = makes blocks mid.is_sent.blocks_made mid.read in
        over_with new Cut [] e blocks end mid
        (mid.sized, subst (λ (n : ℕ). IsRead (reads name) n blocks end) mid.is_sent.size read)
        (reply_cut declared sending.closes blocks end differs ∙ sym (append-nil (fetch_reply declared sending.closes (Broken blocks))))
        (ap (λ (b : Bool). end_after (closing last e.head) (Some (cond b Answered CutOff))) differs) over none

    -- the last block, after which the session ends or goes on
    pub Said-last :
        (new : Talk) (cells : List ℕ) (count : ℕ) (closes : Bool) → sending.closes ≡ closes →
        ((blocks : List (List ℕ)) → HasMade blocks sending.transfer → ReadsFrom (reads name) 0 blocks →
        Makes (reads name) (package_size sending.transfer) declared.hash blocks cells (next.Last count)) →
        new.stage ≡ cond closes stage.Over stage.Busy → new.begun ≡ talk.begun → new.kept.items ≡ talk.kept.items →
        pending new ≡ take count cells → Said Fits kind timestamps new received sent calls
    Said-last new cells count true ends makes over begun kept makes_cells =
        let (e, blocks, mid) = mid_of in
        let (read, agreed) = makes blocks mid.is_sent.blocks_made mid.read in
        let end = take count cells in
        let closes : closing last e.head ≡ true = sym mid.is_sent.closes ∙ ends in
        over_with new Finished end e blocks (Some end) mid
        (mid.sized, subst (λ (n : ℕ). IsRead (reads name) n blocks (Some end)) mid.is_sent.size read)
        (reply_last declared sending.closes blocks end agreed)
        (ap (λ (b : Bool). end_after (closing last e.head) (Some (cond b Answered CutOff))) agreed
        ∙ ap (λ (b : Bool). end_after b (Some Answered)) closes) over makes_cells
    Said-last new cells count false goes_on makes busy begun kept makes_cells =
        let (e, blocks, mid) = mid_of in
        let (read, agreed) = makes blocks mid.is_sent.blocks_made mid.read in
        let end = take count cells in
        let on : closing last e.head ≡ false = sym mid.is_sent.closes ∙ goes_on in
        let whole = used_so e (Read blocks (Some end)) in
        let exchange = mid.fits (Read blocks (Some end))
        (mid.sized, subst (λ (n : ℕ). IsRead (reads name) n blocks (Some end)) mid.is_sent.size read) in
        let stays : IsOpen Fits whole = record {
          exchange = exchange;
          stays = open_left (asks_close e.head) last on;
          whole = ap (λ (b : Bool). Some (cond b Answered CutOff)) agreed;
        } in
        let one : flat_map exchange_bytes (whole ∷ []) ≡ exchange_bytes e = append-nil (exchange_bytes e) in
        let reply : flat_map (open_reply kind) (whole ∷ []) ≡ fetch_reply declared false (Read blocks (Some end)) = append-nil (open_reply kind whole) in
        let asked : flat_map exchange_calls (whole ∷ []) ≡ Looks name (Some declared) ∷ [] = refl in
        record {
          exchanges = said.exchanges ++ whole ∷ [];
          stop = More;
          rest = [];
          unread = said.unread;
          cut = cut_as e blocks mid
              ∙ sym (append_assoc (flat_map exchange_bytes said.exchanges) (exchange_bytes e) said.unread)
              ∙ ap (λ (l : List ℕ). (flat_map exchange_bytes said.exchanges ++ l) ++ said.unread) (sym one)
              ∙ ap (λ (l : List ℕ). l ++ said.unread) (sym (flat_map-append exchange_bytes said.exchanges (whole ∷ [])));
          each = all_append (IsOpen Fits) said.exchanges (whole ∷ []) said.each (stays, tt);
          few = omega (arith, length-append said.exchanges (whole ∷ []), mid.count goes_on, talk.few);
          stops = tt;
          called = mid.called ∙ ap (λ (l : List Call). flat_map exchange_calls said.exchanges ++ l) (sym asked)
              ∙ sym (flat_map-append exchange_calls said.exchanges (whole ∷ []))
              ∙ sym (append-nil (flat_map exchange_calls (said.exchanges ++ whole ∷ [])));
          timed = AreTimed-then kind timestamps said.exchanges (whole ∷ []) said.timed (mid.began, tt);
          last_timed = tt;
          placed = ArePlaced-more kind timestamps said.exchanges (whole ∷ []) said.placed;
          replies = subst (λ (at : Stage). RepliesAt kind at sent (pending new) (said.exchanges ++ whole ∷ []) More) (sym busy)
              (ap (λ (l : List ℕ). sent ++ l) makes_cells ∙ ap (λ (l : List ℕ). l ++ end) mid.text
              ∙ append_assoc before (fetch_reply declared sending.closes (Broken blocks)) end
              ∙ ap (λ (l : List ℕ). before ++ l) (sym (reply_last declared sending.closes blocks end agreed))
              ∙ ap (λ (b : Bool). before ++ fetch_reply declared b (Read blocks (Some end))) goes_on
              ∙ ap (λ (l : List ℕ). before ++ l) (sym reply)
              ∙ sym (flat_map-append (open_reply kind) said.exchanges (whole ∷ []))
              ∙ sym (append-nil (flat_map (open_reply kind) (said.exchanges ++ whole ∷ []))));
          is_at = subst (λ (at : Stage). IsAt at new.begun new.kept.items new.need (length (said.exchanges ++ whole ∷ [])) More [] said.unread) (sym busy) (
            refl,
            omega (arith, begun, mid.count goes_on, length-append said.exchanges (whole ∷ [])),
            kept ∙ mid.kept,
          );
        }
