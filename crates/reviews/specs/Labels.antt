-- The words in a picture; this project's profile.
use Rattle.std.specs.Prelude.{ℕ, ◌==◌, ◌*◌, ◌/◌, ◌%◌, nat_lt, Bool, if◌then◌else◌, codes, decimal, List, [], ◌++◌, flat_map, length, slice_get}
use Rattle.std.specs.Option.{option_map_or}
use Rattle.catalogue.specs.declared.content.App.{App}
use Rattle.catalogue.specs.declared.content.Diff.{Diff}
use Rattle.catalogue.specs.declared.content.Release.{Release}
use Rattle.cohorts.specs.declared.track.Lane.{Lane}
use Rattle.cohorts.specs.declared.track.Lane.TheVariants as lane
use Rattle.payload_graph.specs.declared.payload.Payload.{Payload}
use Rattle.payload_graph.specs.declared.payload.Payload.TheVariants.{Full, Differ}
use Rattle.reviews.specs.Names.{cohort_name, spelled_at}
use Rattle.reviews.specs.declared.pictures.arrows.Arrow.{Arrow}
use Rattle.reviews.specs.declared.pictures.nodes.Goal.{Goal}
use Rattle.reviews.specs.declared.pictures.nodes.Node.{Node}

-- a word, if a flag is set
abbrev pub word_if : Bool → List ℕ → List ℕ
word_if flag word = if flag then word else []

-- whether the clients are held
abbrev pub held_word : Lane → List ℕ
held_word lane.Target = []
held_word lane.Held = codes " held"

-- a target: the cohort in brackets, and whether its clients are held
abbrev pub goal_string : App → Goal → List ℕ
goal_string app goal = codes " [" ++ (cohort_name app goal.cohort ++ (held_word goal.lane ++ codes "]"))

-- a target, if the release is it
abbrev pub goal_at : App → ℕ → Goal → List ℕ
goal_at app release goal = if goal.release == release then goal_string app goal else []

-- the cohorts of which a release is the target
abbrev pub goals_string : App → ℕ → List Goal → List ℕ
goals_string app release goals = flat_map (goal_at app release) goals

-- rule: Label of a release
-- its version as it was added, and the cohorts of which it is the target
abbrev pub label_string : App → ℕ → List Goal → List ℕ
label_string app release goals = spelled_at app release ++ goals_string app release goals

-- the name of a package; empty if it isn't there
abbrev pub name_of : App → Payload → List ℕ
name_of app (Full release) = option_map_or (λ (there : Release). there.name) (slice_get app.releases release) []
name_of app (Differ index) = option_map_or (λ (there : Diff). there.name) (slice_get app.diffs index) []

-- its bytes; 0 if it isn't there
abbrev pub bytes_of : App → Payload → ℕ
bytes_of app (Full release) = option_map_or (λ (there : Release). there.size) (slice_get app.releases release) 0
bytes_of app (Differ index) = option_map_or (λ (there : Diff). there.size) (slice_get app.diffs index) 0

-- what is said of a release: its version, its full package, and what it is
abbrev pub node_tip : App → Node → List ℕ
node_tip app node =
    spelled_at app node.release
    ++ (codes ": " ++ (name_of app (Full node.release)
    ++ (codes ", " ++ (decimal (bytes_of app (Full node.release))
    ++ (codes " bytes" ++ (word_if node.stone (codes ", stepping stone")
    ++ (word_if node.withdrawn (codes ", withdrawn")
    ++ (word_if node.goal (codes ", target") ++ word_if node.stuck (codes ", stuck clients")))))))))

-- what is said of a package: where it leads from and to, its name and its bytes
abbrev pub arrow_tip : App → Arrow → List ℕ
arrow_tip app arrow =
    spelled_at app arrow.from ++ (codes " to " ++ (spelled_at app arrow.to
    ++ (codes ": " ++ (name_of app arrow.payload
    ++ (codes ", " ++ (decimal (bytes_of app arrow.payload) ++ codes " bytes"))))))

-- whether a package is full
abbrev pub payload_word : Payload → List ℕ
payload_word (Full release) = codes "full"
payload_word (Differ index) = codes "diff"

-- the kind of an arrow: a downgrade, else a full package or a differential
abbrev pub kind_word : Arrow → List ℕ
kind_word arrow = if nat_lt arrow.to arrow.from then codes "down" else payload_word arrow.payload

-- half of a number, with one decimal
abbrev pub half_string : ℕ → List ℕ
half_string number = decimal (number / 2) ++ (codes "." ++ decimal (number % 2 * 5))

-- rule: Width of an arrow
-- a half for each decimal digit of the package's bytes
abbrev pub pen_string : ℕ → List ℕ
pen_string bytes = half_string (length (decimal bytes))
