-- Which table and which key the path of a fault names, and on which lines they are; this project's profile.
use Rattle.std.specs.Prelude.{ℕ, ◌+◌, ◌==◌, Bool, List, [], codes, drop, length, take, unwrap_or, Option, Some, None, option_map}
use Rattle.std.specs.List.{after_first, before_first}
use Rattle.omaha_arguments.specs.Options.{number_of}
use Rattle.advice.specs.Places.{Found, header_after, key_after, string_in}
use Rattle.advice.specs.Tables.{header_of, inner_kind, outer_kind}
use Rattle.advice.specs.declared.tables.Kind.{Kind}
use Rattle.advice.specs.declared.tables.Kind.TheVariants as kind
use Rattle.advice.specs.declared.spots.PathStep.{PathStep}
use Rattle.advice.specs.declared.spots.TableSpot.{TableSpot}

abbrev pub is_open : ℕ → Bool
is_open byte = byte == 91

abbrev pub is_close : ℕ → Bool
is_close byte = byte == 93

abbrev pub is_dot : ℕ → Bool
is_dot byte = byte == 46

-- a step of a path: the key of a list, an index in it, and what follows the dot
pub record Step : Type 0 where
  pub name : List ℕ
  pub index : ℕ
  pub rest : List ℕ

-- what a step in memory says
abbrev pub step_seen : PathStep → Step
step_seen step = record { name = step.name.now; index = step.index; rest = step.rest.now }

-- the step with an index, if it is one
abbrev pub step_with : List ℕ → List ℕ → Option ℕ → Option Step
step_with name after None = None
step_with name after (Some index) =
    Some (record { name = name; index = index; rest = after_first is_dot (after_first is_close after) })

-- the first step of a path
abbrev pub step_of : List ℕ → Option Step
step_of path =
    step_with (before_first is_open path) (after_first is_open path)
    (number_of (before_first is_close (after_first is_open path)))

-- a key without the index of a list's element
abbrev pub key_named : List ℕ → List ℕ
key_named key = before_first is_open key

-- a table's kind, the index of the line after its header, and a key in it
pub record Spot : Type 0 where
  pub kind : Kind
  pub first : Option ℕ
  pub key : List ℕ

-- what a spot in memory says
abbrev pub spot_seen : TableSpot → Spot
spot_seen spot = record { kind = spot.kind; first = spot.first; key = spot.key.now }

-- the index of the line after the header of a kind's table of an index, from a line on
abbrev pub first_in : List (List ℕ) → Kind → ℕ → ℕ → Option ℕ
first_in lines of index from = option_map (λ at. at + 1) (header_after (header_of of) from index (drop from lines))

-- the index of the next app's header from a line on, else how many lines there are
abbrev pub app_end : List (List ℕ) → ℕ → ℕ
app_end lines from = unwrap_or (header_after (header_of kind.App) from 0 (drop from lines)) (length lines)

-- the same before the next app's header, from a line on that may be unknown
abbrev pub first_below : List (List ℕ) → Kind → ℕ → Option ℕ → Option ℕ
first_below lines of index None = None
first_below lines of index (Some from) = first_in (take (app_end lines from) lines) of index from

-- a table in a table of an app, or the table itself
abbrev pub spot_below : List (List ℕ) → Kind → Option ℕ → Step → Option Kind → Spot
spot_below lines of first step None = record { kind = of; first = first; key = step.name }
spot_below lines of first step (Some inner) =
    record { kind = inner; first = first_below lines inner step.index first; key = key_named step.rest }

abbrev pub spot_in : List (List ℕ) → Kind → Option ℕ → List ℕ → Option Step → Spot
spot_in lines of first rest None = record { kind = of; first = first; key = rest }
spot_in lines of first rest (Some step) = spot_below lines of first step (inner_kind step.name)

-- a table of the document
abbrev pub spot_at : List (List ℕ) → Kind → List ℕ → Step → Option Kind → Spot
spot_at lines document path step None = record { kind = document; first = None; key = path }
spot_at lines document path step (Some of) =
    spot_in lines of (first_in lines of step.index 0) step.rest (step_of step.rest)

abbrev pub spot_by : List (List ℕ) → Kind → List ℕ → Option Step → Spot
spot_by lines document path None = record { kind = document; first = Some 0; key = path }
spot_by lines document path (Some step) = spot_at lines document path step (outer_kind step.name)

-- rule: Table of a path
-- the table and the key that a path names: of the document, of one of its tables, or of a table of an app
abbrev pub spot_of : List (List ℕ) → Kind → List ℕ → Spot
spot_of lines document path = spot_by lines document path (step_of path)

-- the line of a key, from a line on that may be unknown
abbrev pub found_from : List (List ℕ) → List ℕ → Option ℕ → Option Found
found_from lines key None = None
found_from lines key (Some first) = key_after key first (drop first lines)

-- the line of a spot's key
abbrev pub found_at : List (List ℕ) → Spot → Option Found
found_at lines spot = found_from lines spot.key spot.first

-- the value of a line, if there is one
abbrev pub value_found : Option Found → List ℕ
value_found None = []
value_found (Some found) = found.value

-- the word after `do =`, if there is one
abbrev pub verb_at : List (List ℕ) → Spot → List ℕ
verb_at lines spot = string_in (value_found (found_from lines (codes "do") spot.first))
