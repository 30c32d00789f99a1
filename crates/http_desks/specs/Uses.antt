-- What becomes of a whole message; this project's profile.
use Rattle.std.specs.Prelude.{◌≡◌, ◌≢◌, ◌≤◌, ℕ, Bool, true, false, not, List, [], ◌∷◌, length, Option, None, Some, Result, if◌then◌else◌, bytes_eq, codes}
use Rattle.http_wire.specs.Targets.{package_in, path_in}
use Rattle.http_desks.specs.Downloads.{IsRead, Reads, ReadsFrom, full_blocks}
use Rattle.http_desks.specs.declared.desk.DeskStatus.{DeskStatus}
use Rattle.http_desks.specs.declared.desk.Off.{Off}
use Rattle.values.specs.declared.declared.Declared.{Declared}
use Rattle.http_desks.specs.declared.method.Method.{Method}
use Rattle.http_desks.specs.declared.method.Method.TheVariants.{Get, ForeignGet, Post, BrowserPost, Other}
use Rattle.http_desks.specs.declared.page.PageKind.{PageKind}
use Rattle.http_desks.specs.Calls.{Call, Asks, Looks, Shows}

-- a POST, which a browser sends or not
abbrev pub post_of : Bool → Method
post_of browser = if browser then BrowserPost else Post

-- a GET, for this host or another one
abbrev pub get_of : Bool → Method
get_of foreign = if foreign then ForeignGet else Get

-- the method of this name, by whether a browser sends the message, and whether it is for another host; case matters
abbrev pub method_of : List ℕ → Bool → Bool → Method
method_of name browser foreign =
    if bytes_eq name (codes "GET") then get_of foreign
    else (if bytes_eq name (codes "POST") then post_of browser else Other)

-- it is GET, for whatever host
abbrev pub is_get : Method → Bool
is_get Get = true
is_get ForeignGet = true
is_get Post = false
is_get BrowserPost = false
is_get Other = false

-- rule: Desk that no browser asks
-- the desk of this path is asked for a message of this method; no browser asks the operator's
abbrev pub is_asked : List ℕ → Method → Bool
is_asked path Get = false
is_asked path ForeignGet = false
is_asked path Post = true
is_asked path BrowserPost = not (bytes_eq path (codes "/operate"))
is_asked path Other = false

-- what a target names: the desk, a package, or another path
pub data Route : Type 0 where
  AtDesk : Route
  AtPackage : List ℕ → Route
  Elsewhere : List ℕ → Route

abbrev pub package_route : List ℕ → Option (List ℕ) → Route
package_route path None = Elsewhere path
package_route path (Some name) = AtPackage name

-- rule: Route of a message
-- the desk, if the path is the desk's, else the package of the path, if it is below `/p/`
abbrev pub route_of : List ℕ → List ℕ → Route
route_of path target = if bytes_eq (path_in target) path then AtDesk else package_route (path_in target) (package_in (path_in target))

-- what becomes of a package that is sent: its file has another size than declared; or these blocks
-- were read, and this of the last one; or a write failed after these blocks
pub data Fetch : Type 0 where
  Mismatched : Fetch
  Read : List (List ℕ) → Option (List ℕ) → Fetch
  Broken : List (List ℕ) → Fetch

-- what becomes of a message: the desk was asked for the page of another path, and this was returned; it has another
-- method than POST at the desk; a browser sends it to a desk that no browser asks; the desk was asked at this timestamp,
-- and this was returned; no package has the name; it has another method than GET at a package; or the package is sent
pub data Use : Type 0 where
  Paged : List ℕ → Method → Result (Option (PageKind × List ℕ)) Off → Use
  Misused : Use
  Barred : Use
  Asked : ℕ → Result (DeskStatus × List ℕ) Off → Use
  Unknown : List ℕ → Use
  Untaken : List ℕ → Declared → Use
  Fetched : List ℕ → Declared → Fetch → Use

-- the calls of the desk for a message with this body
abbrev pub calls_of : List ℕ → Use → List Call
calls_of body (Paged path method page) = Shows path page ∷ []
calls_of body Misused = []
calls_of body Barred = []
calls_of body (Asked moment answer) = Asks body moment answer ∷ []
calls_of body (Unknown name) = Looks name None ∷ []
calls_of body (Untaken name declared) = Looks name (Some declared) ∷ []
calls_of body (Fetched name declared fetch) = Looks name (Some declared) ∷ []

-- the file may have another size; or it may have this one, and these blocks may be read of it
abbrev pub IsFetch : (Option ℕ → Type 0) → Reads → ℕ → Fetch → Type 0
IsFetch sizes reads size Mismatched = (other : Option ℕ) × sizes other × (other ≢ Some size)
IsFetch sizes reads size (Read blocks last) = sizes (Some size) × IsRead reads size blocks last
IsFetch sizes reads size (Broken blocks) =
    sizes (Some size) × (length blocks ≤ full_blocks size) × ReadsFrom reads 0 blocks

-- rule: Use of a message
-- the use agrees with the route, the method, the clock and the packages
abbrev pub IsUse :
    List ℕ → (ℕ → Type 0) → (List ℕ → Option ℕ → Type 0) → (List ℕ → Reads) → Method → List ℕ → Use → Type 0
IsUse path tells sizes reads method target (Paged other by page) =
    (route_of path target ≡ Elsewhere other) × (method ≡ by)
IsUse path tells sizes reads method target Misused =
    (route_of path target ≡ AtDesk) × (is_asked path method ≡ false) × (method ≢ BrowserPost)
IsUse path tells sizes reads method target Barred =
    (route_of path target ≡ AtDesk) × (is_asked path method ≡ false) × (method ≡ BrowserPost)
IsUse path tells sizes reads method target (Asked moment answer) =
    (route_of path target ≡ AtDesk) × (is_asked path method ≡ true) × tells moment
IsUse path tells sizes reads method target (Unknown name) = route_of path target ≡ AtPackage name
IsUse path tells sizes reads method target (Untaken name declared) =
    (route_of path target ≡ AtPackage name) × (is_get method ≡ false)
IsUse path tells sizes reads method target (Fetched name declared fetch) =
    (route_of path target ≡ AtPackage name) × (is_get method ≡ true) × IsFetch (sizes name) (reads name) declared.size fetch

-- the desk was asked at a timestamp that the clock may give
abbrev pub IsAsked : (ℕ → Type 0) → Use → Type 0
IsAsked tells (Asked moment answer) = tells moment
IsAsked tells (Paged path method page) = ⊥
IsAsked tells Misused = ⊥
IsAsked tells Barred = ⊥
IsAsked tells (Unknown name) = ⊥
IsAsked tells (Untaken name declared) = ⊥
IsAsked tells (Fetched name declared fetch) = ⊥

-- the desk was asked for the package of this name
abbrev pub IsRouted : (Option ℕ → Type 0) → Reads → Method → List ℕ → Use → Type 0
IsRouted sizes reads method path (Unknown name) = name ≡ path
IsRouted sizes reads method path (Untaken name declared) = (name ≡ path) × (is_get method ≡ false)
IsRouted sizes reads method path (Fetched name declared fetch) =
    (name ≡ path) × (is_get method ≡ true) × IsFetch sizes reads declared.size fetch
IsRouted sizes reads method path (Paged other by page) = ⊥
IsRouted sizes reads method path Misused = ⊥
IsRouted sizes reads method path Barred = ⊥
IsRouted sizes reads method path (Asked moment answer) = ⊥

-- the desk was asked for the page of this path, for a message of this method
abbrev pub IsPaged : Method → List ℕ → Use → Type 0
IsPaged method path (Paged other by page) = (other ≡ path) × (method ≡ by)
IsPaged method path Misused = ⊥
IsPaged method path Barred = ⊥
IsPaged method path (Asked moment answer) = ⊥
IsPaged method path (Unknown name) = ⊥
IsPaged method path (Untaken name declared) = ⊥
IsPaged method path (Fetched name declared fetch) = ⊥
