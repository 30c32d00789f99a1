-- The table that a writer has filled so far; private to this crate.
use Rattle.toml.specs.Data.{Members}
use Rattle.toml.specs.View.{table_view}
use Rattle.profile_toml.specs.declared.writing.table.TableWriter.{TableWriter}

abbrev pub filled : TableWriter → Members
filled writer = table_view writer.table
