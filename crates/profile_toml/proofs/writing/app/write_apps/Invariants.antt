use Rattle.std.proofs.Common.{◌≡◌, map, take}
use Rattle.toml.specs.View.{table_view}
use Rattle.profile_toml.specs.WrittenFields.{app_table}
use Rattle.profile_toml.proofs.writing.app.write_apps.Given as goal

abbrev pub invariant-loop-app : goal.invariant-loop-app
invariant-loop-app l =
    map table_view l.tables.items ≡ map app_table (take l.app-index l.apps)
