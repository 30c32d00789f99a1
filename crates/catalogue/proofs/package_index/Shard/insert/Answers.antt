use Rattle.std.proofs.Common.{string_bytes}
use Rattle.std.proofs.lemmas.Map.Text.{btree_map_updates_text}
use Rattle.catalogue.proofs.package_index.Shard.insert.Goals as goal

pub returns : goal.returns
returns c = λ other.
    btree_map_updates_text (string_bytes c.args.name) c.args.self.now.declared c.insert.new.self _ c.in_ok-insert.ensures.updates other
