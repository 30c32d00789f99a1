-- What the options of the command line spell.
use Rattle.std.proofs.Common.{◌≡◌, Bool, true, false, not, ◌&&◌, List, [], ◌∷◌, inl, inr, subst, ap₂, Option, Some, None, Result, Ok, Err, refl, ap, sym, ◌∙◌}
use Rattle.std.specs.Option.{option_map, option_map_or}
use Rattle.std.specs.Result.{IsErrAnd}
use Rattle.clap.specs.Kinds.{or_else}
use Rattle.clap.specs.Words.{App, FailsBy, HasKind, Kinds, Row, Text, fault_of, is_simple, is_simple_and_free, subcommand_of}
use Rattle.std.specs.Prelude.{Box, IfOk}
use Rattle.std.specs.Box.{box_value}
use Rattle.clap.specs.Words.{subcommand_name_of, subcommand_rows, subcommand_rows_of}
use Rattle.clap.specs.declared.parser.matches.ArgMatches.{ArgMatches}
use Rattle.clap.specs.declared.parser.matches.ArgMatches.TheViews.{out-ArgMatches, out-SubCommand}
use Rattle.clap.specs.declared.parser.matches.SubCommand.{SubCommand}
use Rattle.clap.specs.declared.error.Error.{Error}
use Rattle.omaha_arguments.specs.Commands.{faults_in, faults_of, invocation_in, invocation_of, omaha_app, plain_invocation}
use Rattle.omaha_arguments.specs.declared.command.Invocation.{Invocation}

-- the third of three tests that are true says no to its question
pub third_denies : (first second asked others : Bool) → (first && (second && (not asked && others))) ≡ true → asked ≡ false
third_denies true true false others all = refl
third_denies true true true others all = cc
third_denies true false asked others all = cc
third_denies false second asked others all = cc

-- `clap` reads the program's commands by its plain rules
pub omaha_app-is_simple : is_simple omaha_app ≡ true
omaha_app-is_simple = refl

pub omaha_app-is_simple_and_free : is_simple_and_free omaha_app ≡ true
omaha_app-is_simple_and_free = refl

-- an error of one of the first kinds has one of both
has_first : (first next : Kinds) (error : Error) → HasKind first error → HasKind (or_else first next) error
has_first [] next error (inl memory) = inl memory
has_first [] next error (inr among) = elim among [ ]
has_first (kind ∷ kinds) next error has = has

fails_first : (words : List Text) (result : Result Invocation Error) (error : Error) → HasKind (fault_of omaha_app words) error → IsErrAnd result (λ told. told ≡ error) → FailsBy (faults_of words) result
fails_first words (Ok asked) error has same = elim same [ ]
fails_first words (Err told) error has same =
    subst (λ (e : Error). HasKind (faults_of words) e) (sym same) (has_first (fault_of omaha_app words) _ error has)

-- what `clap` finds wrong with the arguments is wrong with them
pub fails_by_clap : (app : App) (words : List Text) (result : Result Invocation Error) (error : Error) → app ≡ omaha_app → (is_simple_and_free app ≡ true → HasKind (fault_of app words) error) → IsErrAnd result (λ told. told ≡ error) → FailsBy (faults_of words) result
fails_by_clap app words result error is has same =
    fails_first words result error
    (subst (λ (a : App). is_simple_and_free a ≡ true → HasKind (fault_of a words) error) is has omaha_app-is_simple_and_free)
    same

options_of : (name : Text) (options : List Row) (found : Option (Text × List Row)) → found ≡ Some (name, options) → option_map_or (λ named. faults_in named.0 named.1) found [] ≡ faults_in name options
options_of name options None some = cc
options_of name options (Some found) some = ap (λ (o : Option (Text × List Row)). option_map_or (λ named. faults_in named.0 named.1) o []) some

-- if `clap` finds nothing wrong, what is wrong with the options of a command is wrong with the arguments
pub fails_by_options : (app : App) (words : List Text) (name : Text) (options : List Row) (result : Result Invocation Error) (found : Option (Text × List Row)) → app ≡ omaha_app → (is_simple_and_free app ≡ true → fault_of app words ≡ []) → (is_simple app ≡ true → found ≡ subcommand_of app words) → found ≡ Some (name, options) → FailsBy (faults_in name options) result → FailsBy (faults_of words) result
fails_by_options app words name options result found is none names named fails =
    let nothing : fault_of omaha_app words ≡ [] =
    subst (λ (a : App). is_simple_and_free a ≡ true → fault_of a words ≡ []) is none omaha_app-is_simple_and_free in
    let entered : found ≡ subcommand_of omaha_app words =
    subst (λ (a : App). is_simple a ≡ true → found ≡ subcommand_of a words) is names omaha_app-is_simple in
    let met = sym entered ∙ named in
    subst (λ (kinds : Kinds). FailsBy kinds result) (sym (ap₂ or_else nothing (options_of name options (subcommand_of omaha_app words) met))) fails

no_command : (found : Option (Text × List Row)) → None ≡ option_map (λ named. named.0) found → found ≡ None
no_command None same = refl
no_command (Some found) same = cc

-- if `clap` finds nothing wrong and there is no command, nothing is wrong with the arguments
pub no_faults : (app : App) (words : List Text) (found : Option (Text × List Row)) → app ≡ omaha_app → (is_simple_and_free app ≡ true → fault_of app words ≡ []) → (is_simple app ≡ true → found ≡ subcommand_of app words) → None ≡ option_map (λ named. named.0) found → faults_of words ≡ []
no_faults app words found is none names without =
    let nothing : fault_of omaha_app words ≡ [] =
    subst (λ (a : App). is_simple_and_free a ≡ true → fault_of a words ≡ []) is none omaha_app-is_simple_and_free in
    let entered : found ≡ subcommand_of omaha_app words =
    subst (λ (a : App). is_simple a ≡ true → found ≡ subcommand_of a words) is names omaha_app-is_simple in
    let met : subcommand_of omaha_app words ≡ None = sym entered ∙ no_command found without in
    ap₂ or_else nothing (ap (λ (o : Option (Text × List Row)). option_map_or (λ named. faults_in named.0 named.1) o []) met)

-- if there is no command, the arguments ask for what `once` without options asks for
pub without_command : (app : App) (words : List Text) (found : Option (Text × List Row)) → app ≡ omaha_app → (is_simple app ≡ true → found ≡ subcommand_of app words) → None ≡ option_map (λ named. named.0) found → plain_invocation ≡ invocation_of words
without_command app words found is names without =
    let entered : found ≡ subcommand_of omaha_app words =
    subst (λ (a : App). is_simple a ≡ true → found ≡ subcommand_of a words) is names omaha_app-is_simple in
    let met : subcommand_of omaha_app words ≡ None = sym entered ∙ no_command found without in
    sym (ap (λ (o : Option (Text × List Row)). option_map_or (λ named. invocation_in named.0 named.1) o plain_invocation) met)

-- if `clap` found a command, what the arguments ask for is what its options ask for
pub invocation_by_options : (app : App) (words : List Text) (name : Text) (options : List Row) (result : Result Invocation Error) (found : Option (Text × List Row)) → app ≡ omaha_app → (is_simple app ≡ true → found ≡ subcommand_of app words) → found ≡ Some (name, options) → IfOk result (λ asked. asked ≡ invocation_in name options) → IfOk result (λ asked. asked ≡ invocation_of words)
invocation_by_options app words name options result found is names named same =
    let entered : found ≡ subcommand_of omaha_app words =
    subst (λ (a : App). is_simple a ≡ true → found ≡ subcommand_of a words) is names omaha_app-is_simple in
    let met = sym entered ∙ named in
    subst (λ (o : Option (Text × List Row)). IfOk result (λ asked. asked ≡ option_map_or (λ found. invocation_in found.0 found.1) o plain_invocation))
    (sym met) same

-- a command's name and its options, as they are kept apart, are those that it was found with
pub named_as : (name : Text) (options : List Row) (found : Option (Text × List Row)) → Some name ≡ option_map (λ named. named.0) found → Some options ≡ option_map (λ named. named.1) found → found ≡ Some (name, options)
named_as name options None same_name same_options = cc
named_as name options (Some found) same_name same_options =
    let one : found.0 ≡ name = cc in
    let other : found.1 ≡ options = cc in
    ap₂ (λ (n : Text) (rows : List Row). Some (n, rows)) one other

-- the name of the subcommand that a parse met is that of its rows
pub named_by_name : (matches : ArgMatches) → option_map (λ named. named.0) (subcommand_rows_of matches) ≡ subcommand_name_of matches
named_by_name matches = cases (out-ArgMatches matches).subcommand
  where
    cases :
        {Z : Type 0} (found : Option (Box SubCommand Z)) →
        option_map (λ named. named.0) (subcommand_rows found) ≡ option_map (λ b. (out-SubCommand (box_value b)).name.now) found
    cases None = refl
    cases (Some sub) = refl
