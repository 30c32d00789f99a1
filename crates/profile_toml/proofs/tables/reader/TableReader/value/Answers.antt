use Rattle.toml.proofs.Views.{table_get}
use Rattle.profile_toml.proofs.tables.reader.TableReader.value.Goals as goal

pub returns : goal.returns
returns c =
    table_get c.get.result c.args.key.now c.args.self.now.table.now.entries c.get.ensures.value
