-- The walk along the differentials and the releases.
use Rattle.std.proofs.Common.{◌≡◌, ℕ, ◌+◌, ◌<◌, ◌≤◌, ◌&&◌, ◌⊎◌, inl, inr, true, List, [], ◌∷◌, ◌++◌, length, get_or, map, take, sym, ap, ◌∙◌, arith}
use Rattle.std.specs.List.{list_all}
use Rattle.std.specs.Str.{bytes_eq}
use Rattle.std.proofs.lemmas.Bool.{and_parts, or_cases}
use Rattle.std.proofs.lemmas.List.{get_or_read, map_more}
use Rattle.std.proofs.lemmas.Slice.Eq.{bytes_eq-Decides}
use Rattle.catalogue.specs.VersionLaws.{BelowIsIrreflexive, BelowIsTransitive}
use Rattle.catalogue.specs.Versions.{is_below}
use Rattle.catalogue.specs.Forms.{is_hash, is_package_name, is_size}
use Rattle.catalogue.specs.Lookups.{has_release}
use Rattle.values.specs.Ordered.{ascend}
use Rattle.catalogue.specs.Validity.{is_diff_before, is_valid_diff, is_release_below}
use Rattle.catalogue.specs.declared.content.Diff.{Diff}
use Rattle.catalogue.specs.declared.content.Release.{Release}
use Rattle.payload_graph.specs.Chains.{index_of}
use Rattle.payload_graph.proofs.IndexLemmas.{index_of-below}
use Rattle.payload_graph.proofs.OrderLemmas.{ascend-get_or, list_all-get_or}
use Rattle.payload_graph.specs.Net.{edge_of}
use Rattle.payload_graph.specs.declared.edge.Edge.{Edge}
use Rattle.payload_graph.specs.declared.edge.Kind.TheVariants as kind

-- a valid differential leads up between releases
pub record LeadsUp (releases : List Release) (diff : Diff) : Type 0 where
  pub upward : is_below diff.from diff.to ≡ true
  pub starts : has_release releases diff.from ≡ true
  pub ends : has_release releases diff.to ≡ true
  pub sized : is_size diff.size ≡ true

pub LeadsUp-good : (releases : List Release) (diff : Diff) → is_valid_diff releases diff ≡ true → LeadsUp releases diff
LeadsUp-good releases diff good =
    let hashed = and_parts (is_below diff.from diff.to && has_release releases diff.from && has_release releases diff.to && is_package_name diff.name && is_size diff.size) (is_hash diff.hash) good in
    let sized = and_parts (is_below diff.from diff.to && has_release releases diff.from && has_release releases diff.to && is_package_name diff.name) (is_size diff.size) hashed.0 in
    let named = and_parts (is_below diff.from diff.to && has_release releases diff.from && has_release releases diff.to) (is_package_name diff.name) sized.0 in
    let ends = and_parts (is_below diff.from diff.to && has_release releases diff.from) (has_release releases diff.to) named.0 in
    let starts = and_parts (is_below diff.from diff.to) (has_release releases diff.from) ends.0 in
    record { upward = starts.0; starts = starts.1; ends = ends.1; sized = sized.1 }

-- the differentials so far, and where the search for the rest begins
pub record HasWalked (releases : List Release) (diffs : List Diff) (index from to : ℕ) (edges : List Edge) : Type 0 where
  pub made : edges ≡ map (edge_of releases) (take index diffs)
  pub from_low : (k : ℕ) (d : Diff) → index ≤ k → k < length diffs → from ≤ index_of releases (get_or diffs k d).from
  pub to_low : (k : ℕ) (d : Diff) → index ≤ k → k < length diffs → index_of releases (get_or diffs k d).from ≡ from → to ≤ index_of releases (get_or diffs k d).to

-- a differential between two indexes
abbrev pub differ : ℕ → ℕ → ℕ → Edge
differ from to bytes = record { from = from; to = to; kind = kind.Differ; bytes = bytes }

-- differentials of valid releases
pub record AreValid (releases : List Release) (diffs : List Diff) : Type 0 where
  pub rises : ascend is_release_below releases ≡ true
  pub sorted : ascend is_diff_before diffs ≡ true
  pub good : list_all (is_valid_diff releases) diffs ≡ true

module _ (irreflexive : BelowIsIrreflexive) (transitive : BelowIsTransitive) (releases : List Release) (diffs : List Diff) (are : AreValid releases diffs) where
  good_at : (k : ℕ) (d : Diff) → k < length diffs → LeadsUp releases (get_or diffs k d)
  good_at k d within = LeadsUp-good releases (get_or diffs k d) (list_all-get_or (is_valid_diff releases) diffs k d are.good within)

  -- the origin is below the destination
  pub ends_above :
      (k : ℕ) (d : Diff) → k < length diffs →
      index_of releases (get_or diffs k d).from < index_of releases (get_or diffs k d).to
  ends_above k d within =
      let good = good_at k d within in
      index_of-below irreflexive transitive releases (get_or diffs k d).from (get_or diffs k d).to are.rises good.starts good.ends good.upward

  -- of two differentials the later one has the higher origin, or the same and the higher destination
  pub pairs_rise :
      (i k : ℕ) (d : Diff) → i < k → k < length diffs →
      (index_of releases (get_or diffs i d).from < index_of releases (get_or diffs k d).from)
      ⊎ ((index_of releases (get_or diffs i d).from ≡ index_of releases (get_or diffs k d).from)
      × (index_of releases (get_or diffs i d).to < index_of releases (get_or diffs k d).to))
  pairs_rise i k d less within =
      let first = get_or diffs i d in
      let second = get_or diffs k d in
      let low = good_at i d (omega arith) in
      let high = good_at k d within in
      let before : is_diff_before first second ≡ true = ascend-get_or is_diff_before diffs i k d are.sorted less within in
      elim (or_cases (is_below first.from second.from) (bytes_eq first.from second.from && is_below first.to second.to) before) [
        | inl origin ↦
            inl (index_of-below irreflexive transitive releases first.from second.from are.rises low.starts high.starts origin)
        | inr same ↦
            let parts = and_parts (bytes_eq first.from second.from) (is_below first.to second.to) same in
            let equal = (bytes_eq-Decides first.from second.from).0 parts.0 in
            inr ((ap (index_of releases) equal, index_of-below irreflexive transitive releases first.to second.to are.rises low.ends high.ends parts.1))
      ]

  -- one more differential
  pub HasWalked-more :
      (index from to next end : ℕ) (edges : List Edge) (item : Diff) →
      HasWalked releases diffs index from to edges →
      index < length diffs → item ≡ get_or diffs index item →
      next ≡ index_of releases item.from → end ≡ index_of releases item.to →
      HasWalked releases diffs (index + 1) next end (edges ++ differ next end item.size ∷ [])
  HasWalked-more index from to next end edges item has within is starts ends = record {
    made =
        ap (λ n. edges ++ differ n end item.size ∷ []) starts
        ∙ ap (λ n. edges ++ differ (index_of releases item.from) n item.size ∷ []) ends
        ∙ ap (λ (es : List Edge). es ++ edge_of releases item ∷ []) has.made
        ∙ ap (λ (diff : Diff). map (edge_of releases) (take index diffs) ++ edge_of releases diff ∷ []) is
        ∙ sym (map_more (edge_of releases) diffs index item within);
    from_low = λ k d low there.
        let here : item ≡ get_or diffs index d = get_or_read diffs index item within is d in
        let origin = starts ∙ ap (λ (diff : Diff). index_of releases diff.from) here in
        elim (pairs_rise index k d (omega arith) there) [
          | inl less ↦ omega arith
          | inr same ↦ let equal = same.0 in omega arith
        ];
    to_low = λ k d low there equal.
        let here : item ≡ get_or diffs index d = get_or_read diffs index item within is d in
        let origin = starts ∙ ap (λ (diff : Diff). index_of releases diff.from) here in
        let destination = ends ∙ ap (λ (diff : Diff). index_of releases diff.to) here in
        elim (pairs_rise index k d (omega arith) there) [
          | inl less ↦ absurd (omega arith)
          | inr same ↦ let higher = same.1 in omega arith
        ];
  }
