-- Packages that must be in the folder before they are published; this project's profile.
use Rattle.std.specs.Prelude.{◌≡◌, ◌≢◌, ◌⊎◌, ⊤, ℕ, Bool, true, List, [], ◌∷◌, ◌++◌, codes, Result, Ok, Err, IfErr}
use Rattle.catalogue.specs.declared.edit.Edit.{Edit}
use Rattle.catalogue.specs.Histories.{History}
use Rattle.editions.specs.Editions.{content_of}
use Rattle.http_desks.specs.Calls.{Call, Asks, Looks, Shows}
use Rattle.http_desks.specs.declared.desk.DeskStatus.{DeskStatus}
use Rattle.http_desks.specs.declared.desk.DeskStatus.TheVariants as status
use Rattle.http_desks.specs.declared.desk.Off.TheVariants as off
use Rattle.package_files.specs.Lacking.{AreThere, LacksFirst, Sizes, lacking_string, sizes_in, sizes_of}
use Rattle.package_files.specs.declared.lacking.Lack.{Lack}
use Rattle.profile_toml.specs.Reading.{script_of_bytes}
use Rattle.streams.specs.Streams.{Known}
use Rattle.systems.specs.Edges.{Edges}
use Rattle.server_ports.specs.declared.error.ServerError.{ServerError}
use Rattle.server_ports.specs.declared.error.ServerError.TheVariants as server
use Rattle.server_ports.specs.declared.place.Place.{Place}
use Rattle.omaha_server.specs.Outcomes.{status_word, stop_word}

-- the sizes of the files of a place's folder
abbrev pub sizes_at : Edges → Place → Sizes
sizes_at edges place = edges.sizes place.packages

-- the line of a package that isn't there
abbrev pub lacking_line : List ℕ → Lack → List ℕ
lacking_line name what = lacking_string name what ++ codes "\n"

-- a script is rejected with the first package that it adds and that isn't there
pub record IsRejected (sizes : Sizes) (body : List ℕ) (reply : DeskStatus × List ℕ) : Type 0 where
  pub base : ℕ
  pub batch : List Edit
  pub read : script_of_bytes body ≡ Ok (base, batch)
  pub name : List ℕ
  pub what : Lack
  pub lacks : LacksFirst sizes (sizes_in batch) name what
  pub replied : reply ≡ (status.UnprocessableContent, lacking_line name what)

-- a call for which a desk isn't asked: a script is rejected, or memory ran out before the look
abbrev pub IsStopped : Sizes → Call → Type 0
IsStopped sizes (Asks body moment (Ok reply)) = IsRejected sizes body reply
IsStopped sizes (Asks body moment (Err off.Memory)) = ⊤
IsStopped sizes (Asks body moment (Err off.Closed)) = ⊥
IsStopped sizes (Looks name found) = ⊥
IsStopped sizes (Shows at page) = ⊥

-- the packages that a body adds, if it is a script, are there
abbrev pub IsStocked : Sizes → List ℕ → Type 0
IsStocked sizes body =
    (base : ℕ) (batch : List Edit) → script_of_bytes body ≡ Ok (base, batch) → AreThere sizes (sizes_in batch)

-- a call for which a desk is asked: a body other than `status` and `stop`, whose packages were looked for if they must
-- exist, and are there; or a package of a name; and no page
abbrev pub IsAskedFor : Bool → Sizes → Call → Type 0
IsAskedFor must sizes (Asks body moment answer) =
    (body ≢ status_word) × (body ≢ stop_word) × (must ≡ true → IsStocked sizes body)
IsAskedFor must sizes (Looks name found) = ⊤
IsAskedFor must sizes (Shows at page) = ⊥

-- rule: Packages that must exist
-- a call at a desk before which another desk looks at it: it isn't asked for what passes it; for all else it is asked
abbrev pub ChecksCall :
    {D : Type 0} → (D → Call → D → Type 0) → Bool → Sizes → (D → Call → D → Type 0) → D → Call → D → Type 0
ChecksCall Passes must sizes steps before call after =
    Passes before call after ⊎ (IsAskedFor must sizes call × steps before call after)

-- the calls at such a desk, and those of them for which it was asked, in their order, which lead it on
abbrev pub LeadsPast :
    {D : Type 0} → (D → Call → D → Type 0) → Bool → Sizes → (D → Call → D → Type 0) → D → List Call → List Call → D → Type 0
LeadsPast Passes must sizes steps before [] asked after = (asked ≡ []) × (after ≡ before)
LeadsPast {D} Passes must sizes steps before (call ∷ calls) asked after =
    (next : D)
    × ((Passes before call next × LeadsPast Passes must sizes steps next calls asked after)
    ⊎ (IsAskedFor must sizes call
    × ((rest : List Call) × (asked ≡ call ∷ rest) × steps before call next
    × LeadsPast Passes must sizes steps next calls rest after)))

-- the packages of a history are in the folder, if they must be
abbrev pub HasPackages : Edges → Place → History → Type 0
HasPackages edges place history =
    place.packages_must_exist ≡ true → AreThere (sizes_at edges place) (sizes_of (content_of history))

-- a server that ends since a package isn't there looked for it, and it is the first one that isn't
abbrev pub LacksPackage : Edges → Place → History → ServerError → Type 0
LacksPackage edges place history (server.Package name what) =
    (place.packages_must_exist ≡ true) × LacksFirst (sizes_at edges place) (sizes_of (content_of history)) name what
LacksPackage edges place history other = ⊤

-- rule: Packages at the start of a server
-- nothing is printed unless the packages of what a server begins with are there, if they must be; if the server ends since
-- one isn't, that is the first
pub record IsStockedFor {A : Type 0} (edges : Edges) (place : Place) (history : History) (old new : Known)
    (result : Result A ServerError) : Type 0 where
  pub there : HasPackages edges place history ⊎ (new ≡ old)
  pub lacks : IfErr result (LacksPackage edges place history)
