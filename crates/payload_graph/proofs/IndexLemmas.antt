-- The index of a version among releases.
use Rattle.std.proofs.Common.{◌≡◌, ℕ, ◌+◌, ◌<◌, ◌≤◌, inl, inr, true, false, not, List, length, get_or, Some, find, sym, ap, ◌∙◌, arith}
use Rattle.std.proofs.lemmas.Bool.{cases_eq, cases_lt, false≢true, not-false, not_from_false, not_from_true}
use Rattle.std.proofs.lemmas.List.Folds.{Any-from_list_any, find_at}
use Rattle.std.proofs.lemmas.List.Sums.{prefix_len-le-length, prefix_len_passes, prefix_len_stops}
use Rattle.std.proofs.lemmas.Option.{slice_get-get_or}
use Rattle.std.proofs.lemmas.Slice.Eq.{bytes_eq-Decides}
use Rattle.catalogue.specs.VersionLaws.{BelowIsIrreflexive, BelowIsTransitive}
use Rattle.catalogue.specs.Versions.{is_below}
use Rattle.catalogue.specs.Lookups.{has_release, is_release}
use Rattle.values.specs.Ordered.{ascend}
use Rattle.catalogue.specs.Validity.{is_release_below}
use Rattle.catalogue.specs.declared.content.Release.{Release}
use Rattle.payload_graph.specs.Chains.{index_of}
use Rattle.payload_graph.proofs.OrderLemmas.{not_below_at}

-- the search goes on past a release of another version
pub index_of-past :
    (releases : List Release) (version : List ℕ) (index : ℕ) (d : Release) →
    index ≤ index_of releases version → index < length releases →
    is_release version (get_or releases index d) ≡ false → index + 1 ≤ index_of releases version
index_of-past releases version index d low within other = elim (cases_eq index (index_of releases version)) [
  | inl here ↦
      let stops = prefix_len_stops (λ release. not (is_release version release)) releases d (omega arith) in
      let at = ap (λ n. not (is_release version (get_or releases n d))) here in
      absurd (false≢true (sym stops ∙ sym at ∙ not_from_false _ other))
  | inr further ↦ omega arith
]

-- it ends at the release of the version
pub index_of-here :
    (releases : List Release) (version : List ℕ) (index : ℕ) (d : Release) →
    index ≤ index_of releases version →
    is_release version (get_or releases index d) ≡ true → index ≡ index_of releases version
index_of-here releases version index d low here = elim (cases_lt index (index_of releases version)) [
  | inl before ↦
      let passes = prefix_len_passes (λ release. not (is_release version release)) releases index d before in
      absurd (false≢true (sym (not_from_true _ here) ∙ passes))
  | inr behind ↦ omega arith
]

-- or at the end of the releases
pub index_of-end :
    (releases : List Release) (version : List ℕ) (index : ℕ) →
    index ≤ index_of releases version → length releases ≤ index → index ≡ index_of releases version
index_of-end releases version index low past =
    let most = prefix_len-le-length (λ release. not (is_release version release)) releases in
    omega arith

-- a released version's index is that of its release
pub record IsIndex (releases : List Release) (version : List ℕ) (d : Release) : Type 0 where
  pub within : index_of releases version < length releases
  pub there : (get_or releases (index_of releases version) d).version ≡ version

pub IsIndex-released :
    (releases : List Release) (version : List ℕ) (d : Release) →
    has_release releases version ≡ true → IsIndex releases version d
IsIndex-released releases version d released =
    let found = Any-from_list_any (is_release version) releases released in
    let within : index_of releases version < length releases =
    elim (cases_lt (index_of releases version) (length releases)) [
      | inl less ↦ less
      | inr past ↦
          let passes = prefix_len_passes (λ release. not (is_release version release)) releases found.0 found.1 (let there = found.2 in omega arith) in
          let same = ap (λ release. not (is_release version release)) found.3 in
          absurd (false≢true (sym (not_from_true _ found.4) ∙ sym same ∙ passes))
    ] in
    let stops = prefix_len_stops (λ release. not (is_release version release)) releases d within in
    record {
      within = within;
      there = sym ((bytes_eq-Decides version (get_or releases (index_of releases version) d).version).0 (not-false _ stops));
    }

-- the release that a version finds
pub find-index_of :
    (releases : List Release) (version : List ℕ) (d : Release) →
    IsIndex releases version d →
    find (is_release version) releases ≡ Some (get_or releases (index_of releases version) d)
find-index_of releases version d is =
    find_at (is_release version) releases ∙ slice_get-get_or releases (index_of releases version) d is.within

-- a release that some version finds
pub released_one : (releases : List Release) (version : List ℕ) → has_release releases version ≡ true → Release
released_one releases version released = (Any-from_list_any (is_release version) releases released).1

module _ (irreflexive : BelowIsIrreflexive) (transitive : BelowIsTransitive) where
  -- the lower version has the lower index
  pub index_of-below :
      (releases : List Release) (lower upper : List ℕ) →
      ascend is_release_below releases ≡ true →
      has_release releases lower ≡ true → has_release releases upper ≡ true →
      is_below lower upper ≡ true → index_of releases lower < index_of releases upper
  index_of-below releases lower upper rises low high below =
      let d = released_one releases lower low in
      let at_low = IsIndex-released releases lower d low in
      let at_high = IsIndex-released releases upper d high in
      elim (cases_lt (index_of releases lower) (index_of releases upper)) [
        | inl less ↦ less
        | inr more ↦
            let not_below = not_below_at irreflexive transitive releases d (index_of releases lower) (index_of releases upper) rises more at_low.within in
            let same = ap (λ version. is_below version (get_or releases (index_of releases upper) d).version) at_low.there ∙ ap (is_below lower) at_high.there in
            absurd (false≢true (sym not_below ∙ same ∙ below))
      ]
