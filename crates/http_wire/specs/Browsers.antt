-- Which messages a browser sends (the Fetch Standard, "`Origin` header"; Fetch Metadata Request Headers, section 2).
use Rattle.std.specs.Prelude.{Bool, ◌||◌, List, codes}
use Rattle.std.specs.List.{list_any}
use Rattle.http_wire.specs.Fields.{Pair, is_named}

-- a field that browsers add, and no page can leave out or make
abbrev pub is_browsers : Pair → Bool
is_browsers field =
    is_named (codes "origin") field || is_named (codes "sec-fetch-site") field || is_named (codes "sec-fetch-mode") field

-- rule: Message of a browser
-- a field is one of these
abbrev pub is_from_browser : List Pair → Bool
is_from_browser fields = list_any is_browsers fields
