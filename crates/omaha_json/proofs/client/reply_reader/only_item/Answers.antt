use Rattle.omaha_json.proofs.ClientReplyLemmas.{only_item-none}
use Rattle.omaha_json.proofs.client.reply_reader.only_item.Goals as goal

pub returns-else-items-eq1 : goal.returns-else-items-eq1
returns-else-items-eq1 c = only_item-none c.args.items.now c.if-items-eq1.false
