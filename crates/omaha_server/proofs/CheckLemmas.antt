-- Scripts whose packages are looked for.
use Rattle.std.proofs.Common.{◌≡◌, ◌≢◌, ◌∙◌, ℕ, List, Option, Some, None, Result, Ok, Err, ap, inl, inr, subst, sym}
use Rattle.catalogue.specs.declared.edit.Edit.{Edit}
use Rattle.http_desks.specs.Calls.{Asks}
use Rattle.http_desks.specs.declared.desk.Answer.{Answer}
use Rattle.http_desks.specs.declared.desk.DeskStatus.{DeskStatus}
use Rattle.http_desks.specs.declared.desk.Off.{Off}
use Rattle.http_desks.specs.declared.desk.Off.TheVariants as off
use Rattle.package_files.specs.Lacking.{AreThere, IsLooked, Sizes, sizes_in}
use Rattle.package_files.specs.declared.lacking.Lacking.{Lacking}
use Rattle.profile_toml.specs.Reading.{script_of_bytes}
use Rattle.profile_toml.specs.declared.fault.ProfileFault.{ProfileFault}
use Rattle.systems.specs.Edges.{Edges}
use Rattle.omaha_server.specs.Checking.{ChecksBody, IsLookedAt, IsStop, StopsFor}
use Rattle.omaha_server.specs.Checks.{ChecksCall, IsStocked, IsStopped, sizes_at}
use Rattle.omaha_server.specs.Outcomes.{status_word, stop_word}
use Rattle.omaha_server.specs.Overviews.{Overview}
use Rattle.omaha_server.specs.Serving.{IsAsked, IsPassed}
use Rattle.server_ports.specs.declared.place.Place.{Place}

-- the edits of a script, or others if it is none
abbrev edits_or : List Edit → Result (ℕ × List Edit) ProfileFault → List Edit
edits_or others (Ok script) = script.1
edits_or others (Err fault) = others

-- a body is stocked if the packages of the script that it is are there
stocked-by :
    (sizes : Sizes) (body : List ℕ) (base : ℕ) (batch : List Edit) → script_of_bytes body ≡ Ok (base, batch) →
    AreThere sizes (sizes_in batch) → IsStocked sizes body
stocked-by sizes body base batch read there other edits same =
    subst (λ (list : List Edit). AreThere sizes (sizes_in list)) (ap (edits_or batch) (sym read ∙ same)) there

-- what a look for the packages of a script comes to
pub StopsFor-looked :
    (sizes : Sizes) (body : List ℕ) (base : ℕ) (batch : List Edit) (looked : Result (Unit {0}) Lacking)
    (stopped : Option (Result Answer Off)) → script_of_bytes body ≡ Ok (base, batch) →
    IsLooked sizes (sizes_in batch) looked → IsLookedAt looked stopped → StopsFor sizes body stopped
StopsFor-looked sizes body base batch (Ok done) stopped read there none =
    subst (StopsFor sizes body) (sym none) (stocked-by sizes body base batch read there)
StopsFor-looked sizes body base batch (Err lacking) None read first never = absurd never
StopsFor-looked sizes body base batch (Err lacking) (Some (Ok answer)) read first named = record {
  base = base;
  batch = batch;
  read = read;
  name = lacking.name.now;
  what = lacking.lack;
  lacks = first;
  replied = named;
}
StopsFor-looked sizes body base batch (Err lacking) (Some (Err off.Memory)) read first named = tt
StopsFor-looked sizes body base batch (Err lacking) (Some (Err off.Closed)) read first named = absurd named

-- a reply in place of the desk's, as a call
stopped-by :
    (sizes : Sizes) (body : List ℕ) (moment : ℕ) (answer : Result (DeskStatus × List ℕ) Off) → IsStop sizes body answer →
    IsStopped sizes (Asks body moment answer)
stopped-by sizes body moment (Ok reply) rejected = rejected
stopped-by sizes body moment (Err off.Memory) stop = tt
stopped-by sizes body moment (Err off.Closed) never = never

-- a body that is no word, as a call of the operator
pub called-checked :
    (edges : Edges) (place : Place) (before after : Overview) (body : List ℕ) (moment : ℕ)
    (answer : Result (DeskStatus × List ℕ) Off) → body ≢ status_word → body ≢ stop_word →
    ChecksBody place.packages_must_exist (sizes_at edges place) before.state body moment answer after.state →
    after.ending ≡ before.ending →
    ChecksCall (IsPassed edges place) place.packages_must_exist (sizes_at edges place) IsAsked before (Asks body moment answer) after
called-checked edges place before after body moment answer differs unlike (inl (must, stop, same)) ending =
    inl (inr (inr (must, stopped-by (sizes_at edges place) body moment answer stop, record { state = same; ending = ending })))
called-checked edges place before after body moment answer differs unlike (inr (stocked, called)) ending =
    inr ((differs, unlike, stocked), (called, ending))
