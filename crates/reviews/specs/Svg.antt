-- Pictures as SVG images: SVG 1.1, and the colours of a light and a dark page by CSS; this project's profile.
use Rattle.std.specs.Prelude.{ℕ, Bool, ◌+◌, ◌-◌, ◌*◌, ◌/◌, ◌%◌, max, nat_lt, if◌then◌else◌, codes, decimal, List, ◌++◌, flat_map, fold, length}
use Rattle.std.specs.List.{list_any}
use Rattle.catalogue.specs.declared.content.App.{App}
use Rattle.reviews.specs.Names.{spelled_at}
use Rattle.reviews.specs.Escaping.{escaped_string}
use Rattle.reviews.specs.Labels.{arrow_tip, bytes_of, goals_string, kind_word, label_string, node_tip, pen_string, word_if}
use Rattle.reviews.specs.declared.pictures.arrows.Arrow.{Arrow}
use Rattle.reviews.specs.declared.pictures.nodes.Goal.{Goal}
use Rattle.reviews.specs.declared.pictures.nodes.Node.{Node}
use Rattle.reviews.specs.declared.pictures.picture.Picture.{Picture}

-- the colours, on a light page and on a dark one
unfoldable pub style_string : List ℕ
style_string =
    codes "<style>\n"
    ++ (codes "text{fill:#1f2328;font:14px system-ui,sans-serif}\n"
    ++ (codes ".back{fill:#fff}.name{font-size:20px;font-weight:600}\n"
    ++ (codes ".release text{font-weight:600}.release tspan{fill:#1a7f37}\n"
    ++ (codes ".mark{fill:#eaeef2;stroke:#57606a;stroke-width:2}\n"
    ++ (codes ".goal .mark{fill:#aceebb;stroke:#1a7f37}\n"
    ++ (codes ".withdrawn .mark{fill:#fff;stroke-dasharray:3 2}\n"
    ++ (codes ".stuck .mark{stroke:#cf222e}\n"
    ++ (codes ".legend text{font-weight:400}\n"
    ++ (codes ".arrow{fill:none}\n"
    ++ (codes ".bytes{font-size:11px;fill:#57606a;text-anchor:end;paint-order:stroke;stroke:#fff;stroke-width:4px}\n"
    ++ (codes ".diff .arrow{stroke:#0969da}.full .arrow{stroke:#8250df}.down .arrow{stroke:#bc4c00;stroke-dasharray:6 3}\n"
    ++ (codes ".diff-tip{fill:#0969da}.full-tip{fill:#8250df}.down-tip{fill:#bc4c00}\n"
    ++ (codes "@media(prefers-color-scheme:dark){\n"
    ++ (codes "text{fill:#e6edf3}\n"
    ++ (codes ".back,.withdrawn .mark{fill:#0d1117}\n"
    ++ (codes ".release tspan{fill:#3fb950}\n"
    ++ (codes ".mark{fill:#30363d;stroke:#8b949e}\n"
    ++ (codes ".goal .mark{fill:#1f6f3a;stroke:#3fb950}\n"
    ++ (codes ".stuck .mark{stroke:#ff7b72}\n"
    ++ (codes ".bytes{fill:#9198a1;stroke:#0d1117}\n"
    ++ (codes ".diff .arrow{stroke:#58a6ff}.full .arrow{stroke:#bc8cff}.down .arrow{stroke:#f0883e}\n"
    ++ (codes ".diff-tip{fill:#58a6ff}.full-tip{fill:#bc8cff}.down-tip{fill:#f0883e}\n"
    ++ (codes "}\n"
    ++ codes "</style>\n")))))))))))))))))))))))

-- the heads of arrows
unfoldable pub heads_string : List ℕ
heads_string =
    codes "<defs>\n"
    ++ (codes "<marker id=\"diff-head\" viewBox=\"0 0 8 8\" refX=\"7\" refY=\"4\" markerWidth=\"9\" markerHeight=\"9\" markerUnits=\"userSpaceOnUse\" orient=\"auto\"><path class=\"diff-tip\" d=\"M0 0 8 4 0 8Z\"/></marker>\n"
    ++ (codes "<marker id=\"full-head\" viewBox=\"0 0 8 8\" refX=\"7\" refY=\"4\" markerWidth=\"9\" markerHeight=\"9\" markerUnits=\"userSpaceOnUse\" orient=\"auto\"><path class=\"full-tip\" d=\"M0 0 8 4 0 8Z\"/></marker>\n"
    ++ (codes "<marker id=\"down-head\" viewBox=\"0 0 8 8\" refX=\"7\" refY=\"4\" markerWidth=\"9\" markerHeight=\"9\" markerUnits=\"userSpaceOnUse\" orient=\"auto\"><path class=\"down-tip\" d=\"M0 0 8 4 0 8Z\"/></marker>\n"
    ++ codes "</defs>\n")))

-- what the colours and shapes mean
unfoldable pub legend_string : List ℕ
legend_string =
    codes "<g class=\"legend\" transform=\"translate(32 62)\">\n"
    ++ (codes "<g class=\"release\"><circle class=\"mark\" r=\"7\"/><text x=\"13\" y=\"5\">release</text></g>\n"
    ++ (codes "<g class=\"release stone\" transform=\"translate(92 0)\"><path class=\"mark\" d=\"M0-9 9 0 0 9-9 0Z\"/><text x=\"13\" y=\"5\">stepping stone</text></g>\n"
    ++ (codes "<g class=\"release withdrawn\" transform=\"translate(230 0)\"><circle class=\"mark\" r=\"7\"/><text x=\"13\" y=\"5\">withdrawn</text></g>\n"
    ++ (codes "<g class=\"release goal\" transform=\"translate(338 0)\"><circle class=\"mark\" r=\"7\"/><text x=\"13\" y=\"5\">target<tspan dx=\"4\"> [cohort]</tspan></text></g>\n"
    ++ (codes "<g class=\"release stuck\" transform=\"translate(484 0)\"><circle class=\"mark\" r=\"7\"/><text x=\"13\" y=\"5\">stuck clients</text></g>\n"
    ++ (codes "<g class=\"diff\" transform=\"translate(0 26)\"><path class=\"arrow\" stroke-width=\"2\" d=\"M-8 0H22\" marker-end=\"url(#diff-head)\"/><text x=\"30\" y=\"5\">differential</text></g>\n"
    ++ (codes "<g class=\"full\" transform=\"translate(128 26)\"><path class=\"arrow\" stroke-width=\"2\" d=\"M-8 0H22\" marker-end=\"url(#full-head)\"/><text x=\"30\" y=\"5\">full package</text></g>\n"
    ++ (codes "<g class=\"down\" transform=\"translate(262 26)\"><path class=\"arrow\" stroke-width=\"2\" d=\"M-8 0H22\" marker-end=\"url(#down-head)\"/><text x=\"30\" y=\"5\">downgrade</text></g>\n"
    ++ (codes "<text x=\"380\" y=\"31\">wider: more bytes</text>\n"
    ++ codes "</g>\n")))))))))

-- the longest of a label and the others, in bytes
abbrev pub longer_label : App → List Goal → ℕ → Node → ℕ
longer_label app goals longest node = max longest (length (label_string app node.release goals))

-- how many bytes the longest label has
abbrev pub longest_label : App → List Goal → List Node → ℕ
longest_label app goals nodes = fold (longer_label app goals) 0 nodes

-- how many releases a package leads up or down
abbrev pub span_of : Arrow → ℕ
span_of arrow = if nat_lt arrow.from arrow.to then arrow.to - arrow.from else arrow.from - arrow.to

-- the larger one of that and of the others
abbrev pub longer_jump : ℕ → Arrow → ℕ
longer_jump longest arrow = max longest (span_of arrow)

abbrev pub longest_jump : List Arrow → ℕ
longest_jump arrows = fold longer_jump 0 arrows

-- a package leads down
abbrev pub is_downgrade : Arrow → Bool
is_downgrade arrow = nat_lt arrow.to arrow.from

abbrev pub has_downgrade : List Arrow → Bool
has_downgrade arrows = list_any is_downgrade arrows

-- how far the releases are from the left: enough for the curve of the longest jump, also of a downgrade if there is one
abbrev pub left_of : ℕ → Bool → ℕ
left_of jump down = 150 + 9 * jump + (if down then 90 else 0)

-- how wide the image is: enough for the longest label, for the app's identifier, and for what the colours and shapes mean
abbrev pub width_of : ℕ → ℕ → ℕ → ℕ
width_of left longest name = max (max (left + 60 + 9 * longest) (48 + 13 * name)) 640

-- how high it is
abbrev pub height_of : ℕ → ℕ
height_of nodes = 120 + 44 * nodes

-- its first lines, with the app's identifier as it is written there
abbrev pub head_string : ℕ → ℕ → List ℕ → List ℕ
head_string width height name =
    codes "<svg xmlns=\"http://www.w3.org/2000/svg\" viewBox=\"0 0 "
    ++ (decimal width ++ (codes " " ++ (decimal height
    ++ (codes "\" width=\"" ++ (decimal width ++ (codes "\" height=\"" ++ (decimal height
    ++ (codes "\" role=\"img\">\n<title>" ++ (name ++ codes "</title>\n")))))))))

-- the lines of the app's identifier and of what the colours and shapes mean
abbrev pub title_string : ℕ → List ℕ → List ℕ
title_string left name =
    style_string ++ (heads_string
    ++ (codes "<rect class=\"back\" width=\"100%\" height=\"100%\"/>\n<text class=\"name\" x=\"24\" y=\"34\">"
    ++ (name ++ (codes "</text>\n" ++ (legend_string
    ++ (codes "<g transform=\"translate(" ++ (decimal left ++ codes " 0)\">\n")))))))

-- what is before the packages and releases, by its measures and the app's identifier as it is written there
abbrev pub frame_of : ℕ → ℕ → ℕ → List ℕ → List ℕ
frame_of left width height name = head_string width height name ++ title_string left name

-- rule: Frame of an SVG image
-- what is before the packages and releases
unfoldable pub frame_string : App → Picture → List ℕ
frame_string app picture =
    frame_of (left_of (longest_jump picture.arrows) (has_downgrade picture.arrows))
    (width_of (left_of (longest_jump picture.arrows) (has_downgrade picture.arrows)) (longest_label app picture.goals picture.nodes) (length app.id))
    (height_of (length picture.nodes)) (escaped_string app.id)

-- how far down a release is
abbrev pub row_of : ℕ → ℕ
row_of release = 132 + 44 * release

-- how far to the left a package's curve is drawn: downgrades to the left of all others and of their bytes
abbrev pub bow_of : Arrow → ℕ
bow_of arrow = (if is_downgrade arrow then 164 else 44) + 12 * span_of arrow

-- how far to the left its bytes end: beside the middle of a downgrade, and beside the beginning of another curve
abbrev pub bytes_end : Arrow → ℕ
bytes_end arrow = if is_downgrade arrow then 132 + 9 * span_of arrow else 54 + 3 * span_of arrow

-- how far down its curve begins and ends: it leaves a release below its middle and reaches another above its middle, and the
-- other way round for a downgrade
abbrev pub start_of : Arrow → ℕ
start_of arrow = if is_downgrade arrow then row_of arrow.from - 4 else row_of arrow.from + 4

abbrev pub end_of : Arrow → ℕ
end_of arrow = if is_downgrade arrow then row_of arrow.to + 4 else row_of arrow.to - 4

-- how far down they are written: beside the middle of a downgrade, where those of the same middle have rows of their own, up
-- to three; and below the release that another package starts at: there those of packages that start at one release and lead
-- up to three releases further than one another have rows of their own
abbrev pub bytes_row : Arrow → ℕ
bytes_row arrow =
    if is_downgrade arrow then (row_of arrow.from + row_of arrow.to) / 2 + 11 * (span_of arrow / 2 % 3) - 7
    else row_of arrow.from + 8 + 11 * (span_of arrow % 4)

-- an element of what is said of a release or of a package, which a browser shows beside the pointer
abbrev pub tip_title : List ℕ → List ℕ
tip_title tip = codes "<title>" ++ (escaped_string tip ++ codes "</title>")

-- a diamond for a stone, and a circle for another release
abbrev pub shape_of : Node → List ℕ
shape_of node =
    if node.stone then codes "<path class=\"mark\" d=\"M0-12 12 0 0 12-12 0Z\"/>" else codes "<circle class=\"mark\" r=\"9\"/>"

abbrev pub node_title : App → Node → List ℕ
node_title app node = tip_title (node_tip app node)

-- the version of a release, and the cohorts of which it is the target
abbrev pub label_element : List ℕ → List ℕ → List ℕ
label_element version goals =
    codes "<text x=\"22\" y=\"5\">"
    ++ (escaped_string version ++ (codes "<tspan dx=\"4\">" ++ (escaped_string goals ++ codes "</tspan></text>")))

abbrev pub node_element : App → List Goal → Node → List ℕ
node_element app goals node = label_element (spelled_at app node.release) (goals_string app node.release goals)

-- what a release is, as classes of the style, and how far down it is
abbrev pub node_head : Node → List ℕ
node_head node =
    codes "<g class=\"release" ++ (word_if node.stone (codes " stone") ++ (word_if node.withdrawn (codes " withdrawn")
    ++ (word_if node.goal (codes " goal") ++ (word_if node.stuck (codes " stuck")
    ++ (codes "\" transform=\"translate(0 " ++ (decimal (row_of node.release) ++ codes ")\">"))))))

-- the line of a release with its parts
abbrev pub node_line : Node → List ℕ → List ℕ → List ℕ
node_line node title text = node_head node ++ (title ++ (shape_of node ++ (text ++ codes "</g>\n")))

-- rule: Release of an SVG image
-- a release: its shape, what is said of it, and its label
unfoldable pub node_svg : App → List Goal → Node → List ℕ
node_svg app goals node = node_line node (node_title app node) (node_element app goals node)

abbrev pub all_nodes_svg : App → List Goal → List Node → List ℕ
all_nodes_svg app goals nodes = flat_map (node_svg app goals) nodes

abbrev pub arrow_title : App → Arrow → List ℕ
arrow_title app arrow = tip_title (arrow_tip app arrow)

-- the two halves of a curve, as path data
abbrev pub curve_start : ℕ → ℕ → List ℕ
curve_start bow start = codes "M-13 " ++ (decimal start ++ (codes "C-" ++ (decimal bow ++ (codes " " ++ decimal start))))

abbrev pub curve_end : ℕ → ℕ → List ℕ
curve_end bow end = codes "-" ++ (decimal bow ++ (codes " " ++ (decimal end ++ (codes "-13 " ++ decimal end))))

-- a curve of a package's colour and width
abbrev pub curve_string : Arrow → List ℕ → List ℕ → List ℕ → List ℕ
curve_string arrow first second pen =
    codes "<path class=\"arrow\" stroke-width=\"" ++ (pen ++ (codes "\" d=\"" ++ (first ++ (second
    ++ (codes "\" marker-end=\"url(#" ++ (kind_word arrow ++ codes "-head)\"/>"))))))

abbrev pub arrow_path : App → Arrow → List ℕ
arrow_path app arrow =
    curve_string arrow (curve_start (bow_of arrow) (start_of arrow)) (curve_end (bow_of arrow) (end_of arrow))
    (pen_string (bytes_of app arrow.payload))

-- the bytes of a package, beside its curve
abbrev pub arrow_bytes : App → Arrow → List ℕ
arrow_bytes app arrow =
    codes "<text class=\"bytes\" x=\"-" ++ (decimal (bytes_end arrow) ++ (codes "\" y=\"" ++ (decimal (bytes_row arrow)
    ++ (codes "\">" ++ (decimal (bytes_of app arrow.payload) ++ codes " B</text>")))))

-- the line of a package with its parts
abbrev pub arrow_line : Arrow → List ℕ → List ℕ → List ℕ → List ℕ
arrow_line arrow title path bytes =
    codes "<g class=\"" ++ (kind_word arrow ++ (codes "\">" ++ (title ++ (path ++ (bytes ++ codes "</g>\n")))))

-- rule: Package of an SVG image
-- a package: its curve, what is said of it, and its bytes
unfoldable pub arrow_svg : App → Arrow → List ℕ
arrow_svg app arrow = arrow_line arrow (arrow_title app arrow) (arrow_path app arrow) (arrow_bytes app arrow)

abbrev pub all_arrows_svg : App → List Arrow → List ℕ
all_arrows_svg app arrows = flat_map (arrow_svg app) arrows

-- rule: SVG image of an app
-- the frame, the packages, and the releases over them
abbrev pub svg_string : App → Picture → List ℕ
svg_string app picture =
    frame_string app picture
    ++ (all_arrows_svg app picture.arrows ++ (all_nodes_svg app picture.goals picture.nodes ++ codes "</g>\n</svg>\n"))
