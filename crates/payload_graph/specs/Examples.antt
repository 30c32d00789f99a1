-- A catalogue's app with differentials, a stone and a rollback, worked by hand.
use Rattle.std.specs.Prelude.{◌≡◌, ℕ, Bool, true, false, List, [], ◌∷◌, ◌++◌, codes, length, map, replicate, None, Some}
use Rattle.std.specs.List.{filter, range_with_len}
use Rattle.catalogue.specs.declared.content.App.{App}
use Rattle.catalogue.specs.declared.content.Cohort.{Cohort}
use Rattle.catalogue.specs.declared.content.Diff.{Diff}
use Rattle.catalogue.specs.declared.content.Release.{Release}
use Rattle.cohorts.specs.declared.pin.Pin.TheVariants as pin
use Rattle.cohorts.specs.declared.track.Lane.{Lane}
use Rattle.cohorts.specs.declared.track.Lane.TheVariants as lane
use Rattle.payload_graph.specs.Chains.{IsChain, sum_of}
use Rattle.payload_graph.specs.Permitted.{permits}
use Rattle.payload_graph.specs.declared.payload.Payload.{Payload}
use Rattle.payload_graph.specs.declared.payload.Payload.TheVariants.{Full, Differ}
use Rattle.payload_graph.specs.declared.payload.TrackKey.{TrackKey}
use Rattle.payload_graph.specs.declared.place.Place.{Place}
use Rattle.payload_graph.specs.declared.place.Place.TheVariants.{At, Outside}

-- version `number`.0
abbrev pub major : ℕ → List ℕ
major number = number ∷ replicate 15 0

-- a release that is open to all; its package's name and hash make no difference here
abbrev pub release_of : ℕ → ℕ → Bool → Release
release_of number size stone =
    record {
      version = major number;
      spelled = [];
      name = [];
      size = size;
      hash = replicate 32 number;
      stone = stone;
      withdrawn = false;
      audience = None;
      floor = major 0;
    }

-- a differential between two of these versions
abbrev pub diff_of : ℕ → ℕ → ℕ → Diff
diff_of from to size =
    record { from = major from; to = major to; name = []; size = size; hash = [] }

-- the default cohort has 4.0, and its held clients 3.0; `beta` has 3.0 and rolls back
abbrev pub stable : Cohort
stable =
    record {
      name = codes "stable";
      target = Some (major 4);
      held = Some (major 3);
      share = 500;
      rollback = false;
      hintable = false;
    }

abbrev pub beta : Cohort
beta =
    record {
      name = codes "beta";
      target = Some (major 3);
      held = None;
      share = 1000;
      rollback = true;
      hintable = true;
    }

-- four releases, of which 2.0 is a stone, and five differentials, of which 1.0 to 3.0 jumps it
abbrev pub demo : App
demo =
    record {
      id = codes "demo";
      cohorts = stable ∷ beta ∷ [];
      releases = release_of 1 1000 false ∷ release_of 2 1200 true ∷ release_of 3 1500 false ∷ release_of 4 1600 false ∷ [];
      diffs = diff_of 1 2 300 ∷ diff_of 1 3 100 ∷ diff_of 2 3 200 ∷ diff_of 2 4 500 ∷ diff_of 3 4 250 ∷ [];
    }

-- `demo` with floors at 2.0 and 4.0, and 3.0 withdrawn or not
abbrev pub floored : ℕ → ℕ → Bool → App
floored second fourth withdrawn =
    record demo {
      releases =
          release_of 1 1000 false
          ∷ record (release_of 2 1200 true) { floor = major second }
          ∷ record (release_of 3 1500 false) { withdrawn = withdrawn }
          ∷ record (release_of 4 1600 false) { floor = major fourth }
          ∷ [];
    }

-- the key of a cohort's track in the only app
abbrev pub key_of : ℕ → Lane → Bool → TrackKey
key_of cohort lane rollback = record { app = 0; cohort = cohort; lane = lane; rollback = rollback; pin = pin.Any }

-- the same key for clients whose pin allows the versions that begin with a number
abbrev pub pinned_to : ℕ → TrackKey → TrackKey
pinned_to number key = record key { pin = pin.Prefix (major number) 1 }

-- all payloads of an app: the full ones, then the differentials
abbrev pub payloads_of : App → List Payload
payloads_of app =
    map (λ release. Full release) (range_with_len 0 (length app.releases))
    ++ map (λ index. Differ index) (range_with_len 0 (length app.diffs))

-- those that are permitted from a place
abbrev pub permitted_from : App → TrackKey → Place → List Payload
permitted_from app key place = filter (permits app key place) (payloads_of app)

-- what is permitted from each release in turn
abbrev pub permitted_of : App → TrackKey → List (List Payload)
permitted_of app key =
    map (λ release. permitted_from app key (At release)) (range_with_len 0 (length app.releases))

-- the payloads from the releases of `demo`: 8 on the default track, 4 on the held one, and 7 in the
-- cohort that rolls back, of which 3 lead down; with the floor 3.0 at 4.0 there are 6 on the default track. A pin
-- leaves those to releases that it matches: pinned to 4 all lead to 4.0 at once, and pinned to 3 none leave 1.0,
-- since no way leads past the stone 2.0
pub record ExampleIsWorked : Type 0 where
  pub target :
      permitted_of demo (key_of 0 lane.Target false)
      ≡ (Full 1 ∷ Differ 0 ∷ [])
      ∷ (Full 2 ∷ Full 3 ∷ Differ 2 ∷ Differ 3 ∷ [])
      ∷ (Full 3 ∷ Differ 4 ∷ [])
      ∷ []
      ∷ []
  pub held :
      permitted_of demo (key_of 0 lane.Held false)
      ≡ (Full 1 ∷ Differ 0 ∷ []) ∷ (Full 2 ∷ Differ 2 ∷ []) ∷ [] ∷ [] ∷ []
  pub rollback :
      permitted_of demo (key_of 1 lane.Target true)
      ≡ (Full 1 ∷ Differ 0 ∷ []) ∷ (Full 2 ∷ Differ 2 ∷ []) ∷ [] ∷ (Full 0 ∷ Full 1 ∷ Full 2 ∷ []) ∷ []
  pub no_target : permitted_of demo (key_of 1 lane.Held true) ≡ [] ∷ [] ∷ [] ∷ [] ∷ []
  pub outside :
      permitted_from demo (key_of 0 lane.Target false) (Outside (replicate 16 0)) ≡ Full 0 ∷ Full 1 ∷ []
  pub floor :
      permitted_of (floored 0 3 false) (key_of 0 lane.Target false)
      ≡ (Full 1 ∷ Differ 0 ∷ []) ∷ (Full 2 ∷ Differ 2 ∷ []) ∷ (Full 3 ∷ Differ 4 ∷ []) ∷ [] ∷ []
  pub floor_downward :
      permitted_from (floored 5 0 false) (key_of 1 lane.Target true) (At 3) ≡ Full 0 ∷ Full 2 ∷ []
  pub outside_below_floor :
      permitted_from (floored 0 3 false) (key_of 0 lane.Target false) (Outside (2 ∷ 5 ∷ replicate 14 0)) ≡ Full 2 ∷ []
  pub outside_at_floor :
      permitted_from (floored 0 3 false) (key_of 0 lane.Target false) (Outside (major 3)) ≡ Full 3 ∷ []
  pub pinned :
      permitted_of demo (pinned_to 4 (key_of 0 lane.Target false))
      ≡ [] ∷ (Full 3 ∷ Differ 3 ∷ []) ∷ (Full 3 ∷ Differ 4 ∷ []) ∷ [] ∷ []
  pub pinned_below_target :
      permitted_of demo (pinned_to 3 (key_of 0 lane.Target false))
      ≡ [] ∷ (Full 2 ∷ Differ 2 ∷ []) ∷ [] ∷ [] ∷ []
  pub pinned_rollback :
      permitted_of demo (pinned_to 2 (key_of 1 lane.Target true))
      ≡ (Full 1 ∷ Differ 0 ∷ []) ∷ [] ∷ (Full 1 ∷ []) ∷ (Full 1 ∷ []) ∷ []
  pub pinned_above_target :
      permitted_of demo (pinned_to 4 (key_of 1 lane.Target true)) ≡ [] ∷ [] ∷ [] ∷ [] ∷ []
  pub pinned_to_withdrawn :
      permitted_of (floored 0 0 true) (pinned_to 3 (key_of 0 lane.Target false)) ≡ [] ∷ [] ∷ [] ∷ [] ∷ []
  pub chain : IsChain demo (key_of 0 lane.Target false) (At 0) (Differ 0 ∷ Differ 2 ∷ Differ 4 ∷ [])
  pub sum : sum_of demo (Differ 0 ∷ Differ 2 ∷ Differ 4 ∷ []) ≡ 750
