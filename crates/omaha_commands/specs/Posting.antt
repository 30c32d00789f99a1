-- How a script is posted, once its packages are compared; this project's profile.
use Rattle.std.specs.Prelude.{◌≡◌, ℕ, Bool, List, Result, Ok, Err}
use Rattle.streams.specs.Streams.{Known}
use Rattle.package_files.specs.Storages.{Storage}
use Rattle.omaha_arguments.specs.declared.command.Publication.{Publication}
use Rattle.omaha_commands.specs.Operating.{IsScript, Listeners, PostsBytes}
use Rattle.profiles.specs.Profiles.{Files}
use Rattle.omaha_commands.specs.Stocking.{StocksBytes}
use Rattle.profiles.specs.Streams.{Streams}
use Rattle.failures.specs.declared.failure.Failure.{Failure}

-- a script whose packages agree is sent; of another one nothing is
abbrev pub PostsIf : Listeners → Bool → List ℕ → List ℕ → Result (Unit {0}) Failure → Known → Known → Result (Unit {0}) Failure → Type 0
PostsIf listeners shown to script (Ok done) before after result = PostsBytes listeners shown to script before after result
PostsIf listeners shown to script (Err refusal) before after result = (result ≡ Err refusal) × (after ≡ before)

-- the packages of a script are compared, if a folder is named, and then it is sent
pub record PostsStocked (storage : Storage) (listeners : Listeners) (shown : Bool) (asked : Publication) (script : List ℕ) (before after : Known) (result : Result (Unit {0}) Failure) : Type 0 where
  pub stocked : Result (Unit {0}) Failure
  pub between : Known
  pub is : StocksBytes storage asked.packages script before between stocked
  pub posts : PostsIf listeners shown asked.to script stocked between after result

-- what was read is sent; or nothing is done
abbrev pub PostsRead : Storage → Listeners → Bool → Publication → Result (List ℕ) Failure → Known → Known → Result (Unit {0}) Failure → Type 0
PostsRead storage listeners shown asked (Ok script) before after result =
    PostsStocked storage listeners shown asked script before after result
PostsRead storage listeners shown asked (Err refusal) before after result = (result ≡ Err refusal) × (after ≡ before)

-- the script is read and sent
abbrev pub Posts : Files → Storage → Listeners → Bool → Publication → Streams → Streams → Result (Unit {0}) Failure → Type 0
Posts files storage listeners shown publication old new result =
    (read : Result (List ℕ) Failure) × IsScript files publication.script old.input new.input read
    × PostsRead storage listeners shown publication read old.output new.output result
