-- Cells and tags of the page: HTML.
use Rattle.std.specs.Prelude.{ℕ, Bool, if◌then◌else◌, List, [], ◌++◌, codes, decimal, Option, None, Some}
use Rattle.reviews.specs.Escaping.{escaped_string}
use Rattle.operator_pages.specs.declared.html.Tag.{Tag}
use Rattle.operator_pages.specs.declared.html.Tag.TheVariants as tag
use Rattle.catalogue.specs.Versions.{printed}

-- a cell with a string
unfoldable pub cell : List ℕ → List ℕ
cell value = codes "<td>" ++ (escaped_string value ++ codes "</td>")

-- a cell that names its row
unfoldable pub name_cell : List ℕ → List ℕ
name_cell value = codes "<th>" ++ (escaped_string value ++ codes "</th>")

-- a cell with a number
unfoldable pub number_cell : ℕ → List ℕ
number_cell number = codes "<td class=\"number\">" ++ decimal number ++ codes "</td>"

-- a tag with a string after a word
unfoldable pub named_tag : List ℕ → List ℕ → List ℕ
named_tag word value = codes "<span class=\"tag\">" ++ (word ++ (escaped_string value ++ codes "</span>"))

-- what a tag says of a cohort or of a release
abbrev pub tag_word : Tag → List ℕ
tag_word tag.Open = codes "open"
tag_word tag.Rollback = codes "rollback"
tag_word tag.Withdrawn = codes "withdrawn"
tag_word tag.Stone = codes "stone"

-- a tag, if it is so
unfoldable pub tag_if : Bool → Tag → List ℕ
tag_if is_so tag =
    if is_so then codes "<span class=\"tag " ++ tag_word tag ++ codes "\">" ++ tag_word tag ++ codes "</span>" else []

unfoldable pub bar_part : ℕ → List ℕ
bar_part part = codes "<td class=\"share\"><span class=\"bar\"><span style=\"width:calc(100%*" ++ decimal part

unfoldable pub bar_whole : ℕ → List ℕ
bar_whole whole = codes "/max(1," ++ decimal whole ++ codes "))\"></span></span>"

-- the beginning of a cell: a bar, of which a part of a whole is filled
unfoldable pub bar : ℕ → ℕ → List ℕ
bar part whole = bar_part part ++ bar_whole whole

unfoldable pub share_string : ℕ → List ℕ
share_string share = decimal share ++ codes " of 1000</td>"

-- a cell with a share of 1000 clients, and a bar of as many of them
unfoldable pub share_cell : ℕ → List ℕ
share_cell share = bar share 1000 ++ share_string share

-- a version, or that there is none
abbrev pub version_or : Option (List ℕ) → List ℕ
version_or (Some version) = printed version
version_or None = codes "none"
