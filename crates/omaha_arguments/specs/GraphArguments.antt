-- The arguments of the command `graph`; this project's profile.
use Rattle.std.specs.Prelude.{List, codes}
use Rattle.clap.specs.Words.{App, Row, first_of, new_app, with_rule}
use Rattle.omaha_arguments.specs.Options.{flag_in, flag_named, option_named, string_in, wanted}
use Rattle.omaha_arguments.specs.declared.command.Graph.{Graph}

-- the command `graph F APP`, with its options
abbrev pub graph_app : App
graph_app =
    with_rule
    (with_rule
    (with_rule
    (with_rule (with_rule (new_app (codes "graph")) (wanted (codes "F"))) (wanted (codes "APP")))
    (option_named (codes "cohort")))
    (option_named (codes "from")))
    (flag_named (codes "dot"))

-- rule: Arguments of a picture
-- what the arguments of `graph` ask for
abbrev pub graph_in : List Row → Graph
graph_in options =
    record {
      profile = string_in (codes "F") options;
      app = string_in (codes "APP") options;
      cohort = first_of (codes "cohort") options;
      from = first_of (codes "from") options;
      dot = flag_in (codes "dot") options;
    }
