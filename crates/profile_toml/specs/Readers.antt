-- The table and the list that a reader reads.
use Rattle.toml.specs.View.{items_view, table_view}
use Rattle.profile_toml.specs.Paths.{prefix}
use Rattle.profile_toml.specs.Tables.{PlacedList, PlacedTable, list_at, table_at}
use Rattle.profile_toml.specs.declared.tables.list.TableList.{TableList}
use Rattle.profile_toml.specs.declared.tables.reader.TableReader.{TableReader}

abbrev pub placed : TableReader → PlacedTable
placed reader = table_at (prefix reader.place) (table_view reader.table.now)

abbrev pub listed : TableList → PlacedList
listed list = list_at list.path (items_view list.values.now)
