-- The differentials that leave a release are the permitted ones.
use Rattle.std.proofs.Common.{◌≡◌, ℕ, suc, ◌+◌, ◌<◌, ◌&&◌, inl, inr, Bool, true, false, cond, eqb, List, [], ◌∷◌, length, get_or, map, refl, sym, ap, ◌∙◌, arith}
use Rattle.std.specs.List.{enumerate_from, filter, list_all}
use Rattle.std.specs.Option.{option_map_or}
use Rattle.std.proofs.lemmas.Bool.{cases_order, eq-eqb, false_from_ne_true, false≢true, ne_eqb}
use Rattle.std.proofs.lemmas.Option.{slice_get-get_or}
use Rattle.std.proofs.lemmas.Slice.Eq.{bytes_eq-Decides}
use Rattle.catalogue.specs.VersionLaws.{BelowIsIrreflexive, BelowIsTransitive}
use Rattle.catalogue.specs.Versions.{is_below}
use Rattle.catalogue.specs.Lookups.{is_release}
use Rattle.catalogue.specs.Validity.{IsValidApp, is_valid_diff}
use Rattle.catalogue.specs.declared.content.App.{App}
use Rattle.catalogue.specs.declared.content.Cohort.{Cohort}
use Rattle.catalogue.specs.declared.content.Diff.{Diff}
use Rattle.catalogue.specs.declared.content.Release.{Release}
use Rattle.payload_graph.specs.Chains.{index_of}
use Rattle.payload_graph.specs.Permitted.{permits, permits_differ, starts_at}
use Rattle.payload_graph.specs.declared.payload.Payload.TheVariants.{Differ}
use Rattle.payload_graph.specs.declared.payload.TrackKey.{TrackKey}
use Rattle.payload_graph.specs.declared.place.Place.TheVariants.{At}
use Rattle.payload_graph.proofs.FlatLemmas.{filter-filter}
use Rattle.payload_graph.proofs.DifferLemmas.{filter-map_agree}
use Rattle.payload_graph.proofs.IndexLemmas.{IsIndex-released}
use Rattle.payload_graph.proofs.OrderLemmas.{below_at, list_all-get_or}
use Rattle.payload_graph.proofs.WalkLemmas.{LeadsUp-good}
use Rattle.payload_graph.specs.Laws.{DiffersArePermitted, IsTrack}
use Rattle.payload_graph.specs.Net.{differs_of, edge_of, leaves, version_of_index}

list_all-always : {A : Type 0} (xs : List A) → list_all (λ (x : A). true) xs ≡ true
list_all-always [] = refl
list_all-always (x ∷ xs) = list_all-always xs

-- a test by index that agrees with a test of the items
filter-enumerate :
    {A B : Type 0} (p : ℕ → Bool) (q : A → Bool) (f : A → B) (n : ℕ) (xs : List A) →
    ((k : ℕ) (d : A) → k < length xs → p (n + k) ≡ q (get_or xs k d)) →
    map (λ (numbered : ℕ × A). f numbered.1) (filter (λ (numbered : ℕ × A). p numbered.0) (enumerate_from n xs))
    ≡ map f (filter q xs)
filter-enumerate p q f n [] agrees = refl
filter-enumerate {A} {B} p q f n (x ∷ xs) agrees =
    let first : n + 0 ≡ n = omega arith in
    let here = ap p (sym first) ∙ agrees 0 x (omega arith) in
    let rest = filter-enumerate p q f (n + 1) xs (λ k d within.
    let next : n + 1 + k ≡ n + (k + 1) = omega arith in
    let behind : k + 1 ≡ suc k = omega arith in
    ap p next ∙ agrees (k + 1) d (omega arith) ∙ ap (λ m. q (get_or (x ∷ xs) m d)) behind) in
    cases (p n) (q x) here rest
  where
    cases :
        (b d : Bool) → b ≡ d → map (λ (numbered : ℕ × A). f numbered.1) (filter (λ (numbered : ℕ × A). p numbered.0) (enumerate_from (n + 1) xs)) ≡ map f (filter q xs) →
        map (λ (numbered : ℕ × A). f numbered.1) (cond b ((n, x) ∷ filter (λ (numbered : ℕ × A). p numbered.0) (enumerate_from (n + 1) xs)) (filter (λ (numbered : ℕ × A). p numbered.0) (enumerate_from (n + 1) xs)))
        ≡ map f (cond d (x ∷ filter q xs) (filter q xs))
    cases true true same rest = ap (λ (ys : List B). f x ∷ ys) rest
    cases true false same rest = cc
    cases false true same rest = cc
    cases false false same rest = rest

module _ (irreflexive : BelowIsIrreflexive) (transitive : BelowIsTransitive) (app : App) (key : TrackKey) (cohort : Cohort) (target from : ℕ) (release : Release) (valid : IsValidApp app) (track : IsTrack app key cohort target release) (there : from < length app.releases) where
  -- the differential is permitted by the rule
  abbrev passes : Diff → Bool
  passes diff = permits_differ app.releases cohort key.pin (version_of_index app.releases target) diff

  -- it starts at the release
  starts-at :
      (diff : Diff) → is_valid_diff app.releases diff ≡ true →
      starts_at app.releases (At from) diff ≡ eqb from (index_of app.releases diff.from)
  starts-at diff good =
      let up = LeadsUp-good app.releases diff good in
      let is = IsIndex-released app.releases diff.from release up.starts in
      let within = is.within in
      ap (λ found. option_map_or (λ here. is_release diff.from here) found false) (slice_get-get_or app.releases from release there)
      ∙ elim (cases_order from (index_of app.releases diff.from)) [
        | inl same ↦
            (bytes_eq-Decides diff.from (get_or app.releases from release).version).1 (sym is.there ∙ ap (λ n. (get_or app.releases n release).version) (sym same))
            ∙ sym (eq-eqb from (index_of app.releases diff.from) same)
        | inr (inl less) ↦
            false_from_ne_true _ (λ equal.
            let spelled = (bytes_eq-Decides diff.from (get_or app.releases from release).version).0 equal in
            let below = below_at app.releases release from (index_of app.releases diff.from) valid.releases_ascend less within in
            let own = ap (is_below (get_or app.releases from release).version) (is.there ∙ spelled) in
            false≢true (sym (irreflexive (get_or app.releases from release).version) ∙ sym own ∙ below))
            ∙ sym (ne_eqb from (index_of app.releases diff.from) (λ same. omega arith))
        | inr (inr more) ↦
            false_from_ne_true _ (λ equal.
            let spelled = (bytes_eq-Decides diff.from (get_or app.releases from release).version).0 equal in
            let below = below_at app.releases release (index_of app.releases diff.from) from valid.releases_ascend more there in
            let own = ap (λ version. is_below version (get_or app.releases from release).version) (is.there ∙ spelled) in
            false≢true (sym (irreflexive (get_or app.releases from release).version) ∙ sym own ∙ below))
            ∙ sym (ne_eqb from (index_of app.releases diff.from) (λ same. omega arith))
      ]

  -- by index
  permits-at :
      (k : ℕ) (d : Diff) → k < length app.diffs →
      permits app key (At from) (Differ k)
      ≡ (leaves from (edge_of app.releases (get_or app.diffs k d)) && passes (get_or app.diffs k d))
  permits-at k d within =
      let good = list_all-get_or (is_valid_diff app.releases) app.diffs k d valid.diffs_valid within in
      let aimed = ap (λ found. option_map_or (λ (r : Release). r.version) found []) track.release_there in
      rw (track.cohort_there, track.targeted, slice_get-get_or app.diffs k d within)
      (ap (λ version. starts_at app.releases (At from) (get_or app.diffs k d) && permits_differ app.releases cohort key.pin version (get_or app.diffs k d)) (sym aimed)
      ∙ ap (λ b. b && passes (get_or app.diffs k d)) (starts-at (get_or app.diffs k d) good))

  leaving_are_permitted :
      filter (leaves from) (differs_of app cohort key.pin target)
      ≡ map (λ (numbered : ℕ × Diff). edge_of app.releases numbered.1) (filter (λ (numbered : ℕ × Diff). permits app key (At from) (Differ numbered.0)) (enumerate_from 0 app.diffs))
  leaving_are_permitted =
      filter-map_agree (λ (diff : Diff). true) (edge_of app.releases) (leaves from) (λ diff. leaves from (edge_of app.releases diff)) (λ diff good. refl) (filter passes app.diffs) (list_all-always (filter passes app.diffs))
      ∙ ap (map (edge_of app.releases)) (filter-filter (λ diff. leaves from (edge_of app.releases diff)) passes app.diffs)
      ∙ sym (filter-enumerate (λ k. permits app key (At from) (Differ k)) (λ diff. leaves from (edge_of app.releases diff) && passes diff) (edge_of app.releases) 0 app.diffs (λ k d within.
      let first : 0 + k ≡ k = omega arith in
      ap (λ n. permits app key (At from) (Differ n)) first ∙ permits-at k d within))

pub differs_are_permitted : BelowIsIrreflexive → BelowIsTransitive → DiffersArePermitted
differs_are_permitted irreflexive transitive app key cohort target from release valid track there =
    leaving_are_permitted irreflexive transitive app key cohort target from release valid track there
