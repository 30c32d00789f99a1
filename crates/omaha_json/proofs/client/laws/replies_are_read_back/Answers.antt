use Rattle.omaha_json.proofs.Returns.{text_back}
use Rattle.omaha_json.proofs.client.laws.replies_are_read_back.Goals as goal

pub returns : goal.returns
returns c = text_back
