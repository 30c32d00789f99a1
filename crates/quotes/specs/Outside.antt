-- What a table says of clients that are at no release but at a version: the least sum among the full
-- packages that are permitted. Releases are given by index, by ascending version.
use Rattle.std.specs.Prelude.{◌≡◌, ℕ, ◌+◌, ◌<◌, ◌≤◌, ◌&&◌, ◌||◌, ◌⊎◌, not, Bool, false, if◌then◌else◌, List, length, slice_get, IfSome, Option, None, Some, option_and_then, option_map}
use Rattle.std.specs.List.{list_any, AllWithin}
use Rattle.std.specs.Option.{option_map_or}
use Rattle.catalogue.specs.Versions.{is_below}
use Rattle.catalogue.specs.declared.content.Cohort.{Cohort}
use Rattle.catalogue.specs.declared.content.Release.{Release}
use Rattle.payload_graph.specs.Permitted.{is_offered_at, leads_down, permits_full, rolls_back}
use Rattle.payload_graph.specs.declared.payload.Payload.TheVariants.{Differ, Full}
use Rattle.payload_graph.specs.declared.payload.TrackKey.{TrackKey}
use Rattle.price_cert.specs.Laws.{IsSmall}
use Rattle.price_cert.specs.Rows.{price_at}
use Rattle.price_cert.specs.declared.row.Row.{Row}
use Rattle.quotes.specs.declared.outside.Best.{Best}
use Rattle.quotes.specs.declared.quote.Quote.{Quote}
use Rattle.quotes.specs.declared.quote.Quote.TheVariants.{Here, Next, NoChain}

-- a stone above a version
abbrev pub is_stone_above : List ℕ → Release → Bool
is_stone_above version release = release.stone && is_below version release.version

-- a stone above a version is among some releases: nothing above them all is permitted
abbrev pub is_blocked : List ℕ → List Release → Bool
is_blocked version releases = list_any (is_stone_above version) releases

-- a version is above another one, and not above the target
abbrev pub rises_to : List ℕ → List ℕ → List ℕ → Bool
rises_to target version to = is_below version to && not (is_below target to)

-- a client of a version may be downgraded: it is above the target, and the track rolls back
abbrev pub may_fall : Cohort → TrackKey → List ℕ → List ℕ → Bool
may_fall cohort key target version = rolls_back cohort key && is_below target version

-- releases that a client of a version may be led to are within a range: above the version unless it may be downgraded
pub record IsWindow (releases : List Release) (cohort : Cohort) (key : TrackKey) (target version : List ℕ) (start end : ℕ) : Type 0 where
  pub begins : start ≤ length releases
  pub ends : end ≤ length releases
  pub low : AllWithin (λ release. is_below version release.version ≡ false) releases 0 start
  pub before : AllWithin (λ release. permits_full releases cohort key target version release ≡ false) releases 0 start
  pub behind : AllWithin (λ release. permits_full releases cohort key target version release ≡ false) releases end (length releases)

-- a full package is permitted from a version, given whether a stone is between
abbrev pub leads_to : Cohort → TrackKey → List ℕ → List ℕ → Bool → Release → Bool
leads_to cohort key target version blocked release =
    is_offered_at cohort key.pin version release
    && ((not blocked && rises_to target version release.version)
    || (rolls_back cohort key && leads_down target version release.version))

-- the sum by a release's full package, if a chain goes on from there
abbrev pub sum_through : List Row → ℕ → Release → Option ℕ
sum_through rows to release = option_map (λ rest. release.size + rest) (price_at rows to)

-- the same if the package is permitted
abbrev pub sum_if : Bool → List Row → ℕ → Release → Option ℕ
sum_if permitted rows to release = if permitted then sum_through rows to release else None

-- the least sum of a chain that begins with the full package of the release at an index, if there is one
abbrev pub sum_into : List Release → Cohort → TrackKey → List ℕ → List ℕ → List Row → ℕ → Option ℕ
sum_into releases cohort key target version rows to =
    option_and_then
    (λ release. sum_if (permits_full releases cohort key target version release) rows to release)
    (slice_get releases to)

-- the best of the sums below an index: the least one and, of equal ones, that of the highest release
pub record IsBestOf (sums : ℕ → Option ℕ) (count : ℕ) (best : Best) : Type 0 where
  pub within : best.to < count
  pub is : sums best.to ≡ Some best.sum
  pub least :
      (to sum : ℕ) → to < count → sums to ≡ Some sum →
      (best.sum < sum) ⊎ ((best.sum ≡ sum) × (to ≤ best.to))

-- the best one, if there is a sum
abbrev pub IsBest : (ℕ → Option ℕ) → ℕ → Option Best → Type 0
IsBest sums count None = (to : ℕ) → to < count → sums to ≡ None
IsBest sums count (Some best) = IsBestOf sums count best

-- the best one, beside a sum by one more release that is no worse
abbrev pub best_with : Option Best → ℕ → Option ℕ → Option Best
best_with best to None = best
best_with best to (Some sum) = Some (record { to = to; sum = sum })

-- the prices of a table are small
abbrev pub AreSmall : List Row → Type 0
AreSmall rows = (from : ℕ) → from < length rows → IfSome (price_at rows from) IsSmall

-- what the best way says
abbrev pub best_quote : Option Best → Quote
best_quote best = option_map_or (λ way. Next (Full way.to) way.sum) best NoChain

-- a quote at a release as one from outside at its version, unless a differential is offered: the same full packages are
-- permitted, and no place outside is the target
abbrev pub without_differentials : Quote → Option Quote
without_differentials Here = Some NoChain
without_differentials NoChain = Some NoChain
without_differentials (Next (Full to) sum) = Some (Next (Full to) sum)
without_differentials (Next (Differ index) sum) = None
