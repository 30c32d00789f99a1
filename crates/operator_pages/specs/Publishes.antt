-- The last publishes; this project's profile.
use Rattle.std.specs.Prelude.{ℕ, Bool, ◌==◌, if◌then◌else◌, List, ◌∷◌, ◌++◌, codes, decimal, flat_map, length, take}
use Rattle.operator_pages.specs.Html.{number_cell}
use Rattle.operator_pages.specs.declared.headings.TheConstants.{NO_PUBLISHES, PUBLISHES, TABLE_END}
use Rattle.operator_pages.specs.declared.publishes.Publish.{Publish}

-- rule: Last publishes
-- one more publish before the others, and no more than ten
abbrev pub with_publish : Publish → List Publish → List Publish
with_publish publish others = take 10 (publish ∷ others)

-- a cell with the number of an edition, which names its row
unfoldable pub edition_cell : ℕ → List ℕ
edition_cell edition = codes "<th>" ++ decimal edition ++ codes "</th>"

-- the end of a row, in which a publish that was adopted of another server is marked
abbrev pub publish_end : Bool → List ℕ
publish_end adopted = if adopted then codes "<td><span class=\"tag\">adopted</span></td></tr>\n" else codes "</tr>\n"

-- rule: Row of a publish
-- the number of the edition, when it was published, how many edits its script has, and whether it was adopted
unfoldable pub publish_row : Publish → List ℕ
publish_row publish =
    codes "<tr>" ++ (edition_cell publish.edition ++ (number_cell publish.time
    ++ (number_cell publish.edits ++ publish_end publish.adopted)))

abbrev pub publish_rows : List Publish → List ℕ
publish_rows publishes = flat_map publish_row publishes

unfoldable pub publish_table : List Publish → List ℕ
publish_table publishes = PUBLISHES.now ++ (publish_rows publishes ++ (TABLE_END.now ++ codes "</section>\n"))

-- the last publishes, or that there are none
unfoldable pub publishes_section : List Publish → List ℕ
publishes_section publishes = if length publishes == 0 then NO_PUBLISHES.now else publish_table publishes
