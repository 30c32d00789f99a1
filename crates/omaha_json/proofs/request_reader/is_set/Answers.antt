use Rattle.std.proofs.Common.{rules}
use Rattle.omaha_json.proofs.request_reader.is_set.Goals as goal

pub returns : goal.returns
returns c = search rules
