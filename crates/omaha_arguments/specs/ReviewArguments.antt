-- The arguments of the command `review`; this project's profile.
use Rattle.std.specs.Prelude.{Bool, not, if◌then◌else◌, List, [], ◌∷◌, codes, is_some}
use Rattle.std.specs.Option.{option_map_or}
use Rattle.clap.specs.Words.{App, Kinds, Row, first_of, new_app, new_rule, with_rule}
use Rattle.clap.specs.declared.error.kind.ErrorKind.TheVariants.{ValueValidation}
use Rattle.omaha_arguments.specs.Options.{flag_in, flag_named, option_named, string_in}
use Rattle.omaha_arguments.specs.declared.command.Source.{Source}
use Rattle.omaha_arguments.specs.declared.command.Source.TheVariants.{Profile, Server}
use Rattle.omaha_arguments.specs.declared.command.Review.{Review}

-- the command `review [F]`, with its options
abbrev pub review_app : App
review_app =
    with_rule
    (with_rule
    (with_rule
    (with_rule
    (with_rule (with_rule (new_app (codes "review")) (new_rule (codes "F"))) (option_named (codes "to")))
    (option_named (codes "script")))
    (flag_named (codes "all")))
    (flag_named (codes "json")))
    (flag_named (codes "strict"))

-- where the catalogue is: on a server, if one is named, or in a file
abbrev pub source_in : List Row → Source
source_in options =
    option_map_or (λ to. Server to) (first_of (codes "to") options) (Profile (string_in (codes "F") options))

-- a profile is named, or a server, and not both
abbrev pub is_one_source : List Row → Bool
is_one_source options =
    if is_some (first_of (codes "to") options) then not (is_some (first_of (codes "F") options))
    else is_some (first_of (codes "F") options)

-- what is wrong with the arguments of `review`
abbrev pub faults_of_review : List Row → Kinds
faults_of_review options = if is_one_source options then [] else ValueValidation ∷ []

-- rule: Arguments of a review
-- what the arguments of `review` ask for
abbrev pub review_in : List Row → Review
review_in options =
    record {
      source = source_in options;
      script = first_of (codes "script") options;
      all = flag_in (codes "all") options;
      json = flag_in (codes "json") options;
      strict = flag_in (codes "strict") options;
    }
