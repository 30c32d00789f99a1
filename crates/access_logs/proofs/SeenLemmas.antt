-- What is seen of a reply, and the line of it.
use Rattle.std.proofs.Common.{◌≡◌, ◌||◌, ℕ, Bool, true, false, List, refl}
use Rattle.access_logs.specs.Entries.{IsEntry, IsKept, IsLineOf, size_of}
use Rattle.access_logs.specs.Lines.{IsLine}
use Rattle.access_logs.specs.Replies.{Piece}
use Rattle.access_logs.specs.Sights.{IsSeenOf}
use Rattle.access_logs.specs.declared.entry.Entry.{Entry}
use Rattle.access_logs.specs.declared.seen.Seen.{Seen}

or_first : (a b : Bool) → (a || b) ≡ false → a ≡ false
or_first true b neither = neither
or_first false b neither = refl

or_second : (a b : Bool) → (a || b) ≡ false → b ≡ false
or_second true b neither = cc neither
or_second false b neither = neither

-- memory may have run out for something else
IsKept-or :
    (most : ℕ) (is_short either : Bool) (bytes kept : List ℕ) → (either ≡ false → is_short ≡ false) →
    IsKept most is_short bytes kept → IsKept most either bytes kept
IsKept-or most is_short either bytes kept short keeps =
    record { first = keeps.first; within = keeps.within; whole = λ none. keeps.whole (short none) }

pub IsLineOf-of :
    (piece : Piece) (seen : Seen) (entry : Entry) (line : List ℕ) → IsSeenOf piece seen →
    IsEntry seen.message.bytes.items seen.reply.bytes.items (size_of piece.reply) entry → IsLine entry line →
    IsLineOf (seen.message.is_short || seen.reply.is_short) piece line
IsLineOf-of piece seen entry line saw says prints = record {
  message = seen.message.bytes.items;
  reply = seen.reply.bytes.items;
  entry = entry;
  keeps_message = IsKept-or 16384 _ _ _ _ (or_first seen.message.is_short seen.reply.is_short) saw.message;
  keeps_reply = IsKept-or 1024 _ _ _ _ (or_second seen.message.is_short seen.reply.is_short) saw.reply;
  says = says;
  prints = prints;
}
