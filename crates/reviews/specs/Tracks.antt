-- A track of an app, as its review sees it.
use Rattle.std.specs.Prelude.{◌≡◌, ℕ, slice_get, Some}
use Rattle.catalogue.specs.Validity.{IsValidApp}
use Rattle.catalogue.specs.declared.content.App.{App}
use Rattle.catalogue.specs.declared.content.Cohort.{Cohort}
use Rattle.cohorts.specs.declared.pin.Pin.TheVariants as pin
use Rattle.payload_graph.specs.Chains.{cohort_target}
use Rattle.payload_graph.specs.declared.payload.TrackKey.{TrackKey}

-- a track of clients without a pin: its cohort, and the index of its target
pub record IsTrackOf (app : App) (key : TrackKey) (cohort : Cohort) (target : ℕ) : Type 0 where
  pub valid : IsValidApp app
  pub pin : key.pin ≡ pin.Any
  pub cohort_there : slice_get app.cohorts key.cohort ≡ Some cohort
  pub target_there : cohort_target app cohort key ≡ Some target
