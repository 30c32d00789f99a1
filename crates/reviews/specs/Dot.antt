-- Pictures as graphs: the language DOT of Graphviz; this project's profile.
use Rattle.std.specs.Prelude.{ℕ, ◌==◌, ◌-◌, nat_lt, if◌then◌else◌, chars, codes, decimal, encode_utf8, List, [], ◌++◌, flat_map, Option, None, Some}
use Rattle.std.specs.Option.{option_map_or}
use Rattle.catalogue.specs.declared.content.App.{App}
use Rattle.payload_graph.specs.declared.payload.Payload.{Payload}
use Rattle.payload_graph.specs.declared.payload.Payload.TheVariants.{Full, Differ}
use Rattle.reviews.specs.Labels.{arrow_tip, bytes_of, label_string, node_tip, pen_string, word_if}
use Rattle.reviews.specs.declared.pictures.arrows.Arrow.{Arrow}
use Rattle.reviews.specs.declared.pictures.nodes.Goal.{Goal}
use Rattle.reviews.specs.declared.pictures.nodes.Node.{Node}
use Rattle.reviews.specs.declared.pictures.picture.Picture.{Picture}

-- what is in place of a character that DOT reads otherwise: a quote, a backslash and `&`
abbrev pub quoted_of : ℕ → Option (List ℕ)
quoted_of c =
    if c == 34 then Some (codes "\\\"") else
    if c == 92 then Some (codes "\\\\") else
    if c == 38 then Some (codes "&amp;") else None

-- the bytes of a character
abbrev pub quoted_char : ℕ → List ℕ
quoted_char c = option_map_or (λ there. there) (quoted_of c) (encode_utf8 c)

-- rule: Quoted string of DOT
-- the bytes of each character of a string, in their order
abbrev pub quoted_string : List ℕ → List ℕ
quoted_string value = flat_map quoted_char (chars value)

-- the first lines of a graph
unfoldable pub head_dot : App → List ℕ
head_dot app =
    codes "digraph releases {\nlabel=\"" ++ (quoted_string app.id
    ++ codes "\"; labelloc=t; rankdir=LR; fontname=\"sans-serif\";\nnode [fontname=\"sans-serif\", shape=ellipse, style=filled, fillcolor=\"#eaeef2\", color=\"#57606a\"];\nedge [fontname=\"sans-serif\", fontsize=10, constraint=false];\n")

-- what a release is, as attributes
abbrev pub node_words : Node → List ℕ
node_words node =
    word_if node.stone (codes ", shape=diamond") ++ (word_if node.goal (codes ", fillcolor=\"#aceebb\", color=\"#1a7f37\"")
    ++ (word_if node.withdrawn (codes ", style=dashed") ++ word_if node.stuck (codes ", color=\"#cf222e\"")))

-- the line of a release with its parts
abbrev pub node_line_dot : Node → List ℕ → List ℕ → List ℕ
node_line_dot node label tip =
    codes "r" ++ (decimal node.release ++ (codes " [label=\"" ++ (quoted_string label
    ++ (codes "\", tooltip=\"" ++ (quoted_string tip ++ (codes "\"" ++ (node_words node ++ codes "];\n")))))))

-- rule: Release of a graph
-- a release: its label, what is said of it, and what it is
unfoldable pub node_dot : App → List Goal → Node → List ℕ
node_dot app goals node = node_line_dot node (label_string app node.release goals) (node_tip app node)

-- the line that puts a release after the one below it, if there is one
abbrev pub order_dot : Node → List ℕ
order_dot node =
    if node.release == 0 then []
    else codes "r" ++ (decimal (node.release - 1) ++ (codes " -> r" ++ (decimal node.release ++ codes " [style=invis, constraint=true];\n")))

-- both lines of a release
unfoldable pub node_lines : App → List Goal → Node → List ℕ
node_lines app goals node = node_dot app goals node ++ order_dot node

abbrev pub all_nodes_dot : App → List Goal → List Node → List ℕ
all_nodes_dot app goals nodes = flat_map (node_lines app goals) nodes

-- the colour of a package
abbrev pub payload_color : Payload → List ℕ
payload_color (Full release) = codes "#8250df"
payload_color (Differ index) = codes "#0969da"

-- the colour of an arrow: that of a downgrade, or of its package
abbrev pub arrow_color : Arrow → List ℕ
arrow_color arrow = if nat_lt arrow.to arrow.from then codes "#bc4c00" else payload_color arrow.payload

-- how a package is drawn
abbrev pub arrow_words : App → Arrow → List ℕ
arrow_words app arrow =
    codes "label=\"" ++ (decimal (bytes_of app arrow.payload) ++ (codes " B\", penwidth="
    ++ (pen_string (bytes_of app arrow.payload) ++ (codes ", color=\"" ++ (arrow_color arrow
    ++ (codes "\"" ++ word_if (nat_lt arrow.to arrow.from) (codes ", style=dashed")))))))

-- rule: Package of a graph
-- a package: where it leads from and to, how it is drawn, and what is said of it
unfoldable pub arrow_dot : App → Arrow → List ℕ
arrow_dot app arrow =
    codes "r" ++ (decimal arrow.from ++ (codes " -> r" ++ (decimal arrow.to ++ (codes " [" ++ (arrow_words app arrow
    ++ (codes ", tooltip=\"" ++ (quoted_string (arrow_tip app arrow) ++ codes "\"];\n")))))))

abbrev pub all_arrows_dot : App → List Arrow → List ℕ
all_arrows_dot app arrows = flat_map (arrow_dot app) arrows

-- rule: Graph of an app
-- the first lines, the releases in their order, and the packages
abbrev pub dot_string : App → Picture → List ℕ
dot_string app picture =
    head_dot app
    ++ (all_nodes_dot app picture.goals picture.nodes ++ (all_arrows_dot app picture.arrows ++ codes "}\n"))
