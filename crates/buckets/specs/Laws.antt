-- What holds of all changes of cohorts, and of all clients.
use Rattle.std.specs.Prelude.{◌≡◌, ℕ, ◌<◌, ◌≤◌, List, length, true, Ok}
use Rattle.std.specs.List.{count_by}
use Rattle.catalogue.specs.Batches.{outcome_from}
use Rattle.catalogue.specs.declared.content.App.{App}
use Rattle.catalogue.specs.declared.content.Cohort.{Cohort}
use Rattle.catalogue.specs.declared.edit.Edit.{Edit}
use Rattle.omaha_json.specs.declared.request.AppAsk.{AppAsk}
use Rattle.cohorts.specs.Tracks.{bucket_of, cohort_at, cohort_of, lane_of, sent_cohort}
use Rattle.buckets.specs.Buckets.{IsExactly, all_buckets, cut_off_of, has_target, is_cut_off, is_in, is_moved, moves_of, parts_of, width_of}
use Rattle.buckets.specs.Clients.{AllGrow, CutsNobodyOff, Grows}
use Rattle.buckets.specs.declared.change.Span.{Span}
use Rattle.std.specs.Prelude.{All}

-- all buckets of a part have the lanes of its first one, before a change and after it
abbrev pub PartsAreAlike : Type 0
PartsAreAlike =
    (before after : Cohort) (bucket : ℕ) →
    All (λ (span : Span). is_in bucket span ≡ true →
    (lane_of before bucket ≡ lane_of before span.start) × (lane_of after bucket ≡ lane_of after span.start))
    (parts_of before after)

-- the cut off parts have exactly the cut off buckets
abbrev pub CutOffIsExact : Type 0
CutOffIsExact = (before after : Cohort) → IsExactly (cut_off_of before after) (is_cut_off before after)

-- and as many as there are
abbrev pub CutOffIsCounted : Type 0
CutOffIsCounted =
    (before after : Cohort) → before.share ≤ 1000 → after.share ≤ 1000 →
    width_of (cut_off_of before after) ≡ count_by (is_cut_off before after) all_buckets

-- the moved parts have exactly the moved buckets
abbrev pub MovesAreExact : Type 0
MovesAreExact = (before after : Cohort) → IsExactly (moves_of before after) (is_moved before after)

-- if nobody is cut off, no client loses its target; the string that it sends names one cohort before and after, or none
abbrev pub KeepsTargets : Type 0
KeepsTargets =
    (before after : List Cohort) (ask : AppAsk) (session : List ℕ) →
    0 < length before → Grows before after → CutsNobodyOff before after →
    sent_cohort before ask.cohort ≡ sent_cohort after ask.cohort →
    bucket_of ask session < 1000 →
    has_target (cohort_at before (cohort_of before ask)) (bucket_of ask session) ≡ true →
    has_target (cohort_at after (cohort_of after ask)) (bucket_of ask session) ≡ true

-- a batch that is accepted leaves each cohort of each app in its place, by its name
abbrev pub BatchesGrow : Type 0
BatchesGrow =
    (batch : List Edit) (index : ℕ) (before after : List App) → outcome_from index batch before ≡ Ok after → AllGrow before after
