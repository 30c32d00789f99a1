use Rattle.std.proofs.Common.{take, arith}
use Rattle.std.proofs.lemmas.Grind.{common_steps, take_at_read}
use Rattle.std.proofs.lemmas.List.{flat_map_more}
use Rattle.profile_toml.specs.Lines.{word_string}
use Rattle.profile_toml.proofs.script_lines.script.push_words.Goals as goal

pub returns : goal.returns
returns c = grind (arith, common_steps)

pub loop-word-preserved : goal.loop-word-preserved
loop-word-preserved c =
    let words = c.args.words.now in
    let word = c.word-item.result in
    let index = c.loop-word.word-index in
    let next = take_at_read words index word (omega arith) in
    let more = flat_map_more word_string c.args.text.now.items (take index words) word in
    cc (c.in_ok-push_word.ensures, next.1, more)
