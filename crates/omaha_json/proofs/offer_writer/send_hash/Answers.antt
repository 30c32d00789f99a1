use Rattle.std.proofs.Common.{rules}
use Rattle.std.specs.Str.{IsUtf8}
use Rattle.omaha_json.proofs.ReplyLemmas.{IsUtf8-encode_lower}
use Rattle.omaha_json.proofs.offer_writer.send_hash.Goals as goal

pub unwrap-requires-2 : goal.unwrap-requires-2
unwrap-requires-2 g c =
    let valid : IsUtf8 c.encode_to_slice.new.output = search (rules, IsUtf8-encode_lower c.args.part.now.hash) in
    search (rules, valid)
