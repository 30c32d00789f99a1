-- What the page says of the releases of an app; this project's profile.
use Rattle.std.specs.Prelude.{ℕ, ◌==◌, if◌then◌else◌, List, [], ◌++◌, codes, decimal, flat_map, length, Option, None, Some}
use Rattle.operator_pages.specs.Html.{cell, name_cell}
use Rattle.operator_pages.specs.declared.headings.TheConstants.{DRAWING, DRAWING_END, NO_DRAWING, NO_STUCK, STUCK, TABLE_END, UNKNOWN_STUCK}
use Rattle.operator_pages.specs.declared.sights.AppSight.{AppSight}
use Rattle.operator_pages.specs.declared.sights.StuckClients.{StuckClients}
use Rattle.operator_pages.specs.declared.sights.StuckList.{StuckList}

-- rule: Row of stuck clients
-- the version of their release, who they are, and why they are stuck
unfoldable pub stuck_row : StuckClients → List ℕ
stuck_row stuck =
    codes "<tr>" ++ (name_cell stuck.version ++ (cell stuck.clients ++ (cell stuck.reason ++ codes "</tr>\n")))

abbrev pub stuck_rows : List StuckClients → List ℕ
stuck_rows stuck = flat_map stuck_row stuck

-- how many stuck clients have no row, if there are any
unfoldable pub others_note : ℕ → List ℕ
others_note others =
    if others == 0 then [] else
    codes "<p class=\"note\">And " ++ decimal others ++ codes " more: <code>omaha review</code> prints all.</p>\n"

unfoldable pub stuck_table : List StuckClients → List ℕ
stuck_table stuck = STUCK.now ++ (stuck_rows stuck ++ TABLE_END.now)

-- the stuck clients, or that there are none
unfoldable pub stuck_list : StuckList → List ℕ
stuck_list list =
    if length list.first == 0 then NO_STUCK.now else stuck_table list.first ++ others_note list.others

-- the same, or that they weren't looked for
unfoldable pub stuck_part : Option StuckList → List ℕ
stuck_part None = UNKNOWN_STUCK.now
stuck_part (Some list) = stuck_list list

-- the picture of the releases as it is, which is markup; or that there is none
unfoldable pub drawing_part : Option (List ℕ) → List ℕ
drawing_part None = NO_DRAWING.now
drawing_part (Some image) = DRAWING.now ++ (image ++ DRAWING_END.now)

-- rule: Sight of an app
-- the stuck clients, and the picture
unfoldable pub sight_part : AppSight → List ℕ
sight_part sight = stuck_part sight.stuck ++ drawing_part sight.drawing
