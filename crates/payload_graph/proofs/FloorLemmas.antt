-- The floor of a release as an index: the one place at which versions and indexes meet.
use Rattle.std.proofs.Common.{◌≡◌, ℕ, ◌<◌, ◌≤◌, ◌&&◌, inl, inr, Bool, false, true, refl, leb, not, List, length, get_or, sym, ap, ◌∙◌, arith}
use Rattle.std.proofs.lemmas.Bool.{cases_eq, cases_lt, false_from_ne_true, false≢true, le-leb, lt-leb, not-false, not-true, not_from_false, not_from_true}
use Rattle.std.proofs.lemmas.List.Sums.{prefix_len_passes, prefix_len_stops}
use Rattle.catalogue.specs.VersionLaws.{BelowIsTransitive}
use Rattle.catalogue.specs.Versions.{is_below}
use Rattle.values.specs.Ordered.{ascend}
use Rattle.catalogue.specs.Lookups.{place_of}
use Rattle.catalogue.specs.Validity.{is_release_below}
use Rattle.catalogue.specs.declared.content.Release.{Release}
use Rattle.payload_graph.proofs.OrderLemmas.{below_at}

pub and-swap : (b c : Bool) → (b && c) ≡ (c && b)
and-swap true true = refl
and-swap true false = refl
and-swap false true = refl
and-swap false false = refl

-- a release of an index is at or above a version exactly if the version's place is at most the index
pub place_of-le :
    BelowIsTransitive → (releases : List Release) (d : Release) (version : List ℕ) (from : ℕ) →
    ascend is_release_below releases ≡ true → from < length releases →
    leb (place_of version releases) from ≡ not (is_below (get_or releases from d).version version)
place_of-le transitive releases d version from rises there = elim (cases_lt from (place_of version releases)) [
  | inl before ↦
      let passes = prefix_len_passes (λ release. not (not (is_below release.version version))) releases from d before in
      lt-leb (place_of version releases) from before
      ∙ sym (not_from_true _ (not-false _ (not-true _ passes)))
  | inr behind ↦
      le-leb (place_of version releases) from behind
      ∙ sym (not_from_false _ (above behind))
]
  where
    above : place_of version releases ≤ from → is_below (get_or releases from d).version version ≡ false
    above behind =
        let stops = prefix_len_stops (λ release. not (not (is_below release.version version))) releases d (omega arith) in
        let stopped = not-true _ (not-false _ stops) in
        elim (cases_eq (place_of version releases) from) [
          | inl same ↦ ap (λ n. is_below (get_or releases n d).version version) (sym same) ∙ stopped
          | inr other ↦
              false_from_ne_true _ (λ up.
              false≢true (sym stopped
              ∙ transitive (get_or releases (place_of version releases) d).version (get_or releases from d).version version
              (below_at releases d (place_of version releases) from rises (omega arith) there) up))
        ]
