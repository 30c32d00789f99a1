-- The places of the tables of one app more.
use Rattle.std.proofs.Common.{◌≡◌, ℕ, ◌+◌, ◌<◌, ◌≤◌, List, [], ◌∷◌, ◌++◌, get_or, length, take, Some, sym, ap, ◌∙◌, subst, arith}
use Rattle.std.specs.List.{slice_get}
use Rattle.std.specs.Option.{option_and_then}
use Rattle.std.proofs.Math.Seq.{get_or-append_seam}
use Rattle.std.proofs.lemmas.List.{append-nil, append_assoc, length-append, take_all}
use Rattle.std.proofs.lemmas.List.Elements.{filter_map-append}
use Rattle.std.proofs.lemmas.Option.{slice_get-get_or}
use Rattle.catalogue.specs.declared.content.App.{App}
use Rattle.catalogue.specs.declared.content.Cohort.{Cohort}
use Rattle.payload_graph.specs.declared.payload.TrackKey.{TrackKey}
use Rattle.payload_graph.specs.Net.{Net, net_among}
use Rattle.par_tables.proofs.JoinLemmas.{joined_from-more}
use Rattle.par_tables.proofs.KeyLemmas.{All-cohort_keys, IsOfCohort, length-cohort_keys}
use Rattle.par_tables.proofs.PlaceLemmas.{All-nets_of, ArePlaced-append, ArePlaced-more, length-nets_of}
use Rattle.par_tables.specs.Places.{ArePlaced, ArePlacesOf, start_of}
use Rattle.par_tables.specs.Tables.{nets_of}
use Rattle.par_tables.specs.Tracks.{app_keys, cohort_keys, joined_from}
use Rattle.par_tables.specs.declared.places.Places.{Places}

-- the item after all others
slice_get-seam : (xs : List ℕ) (x index : ℕ) → length xs ≡ index → slice_get (xs ++ x ∷ []) index ≡ Some x
slice_get-seam xs x index same =
    ap (slice_get (xs ++ x ∷ [])) (sym same)
    ∙ slice_get-get_or (xs ++ x ∷ []) (length xs) x (let sized = length-append xs (x ∷ []) in omega arith)
    ∙ ap (λ y. Some y) (get_or-append_seam xs x [] x)

-- the keys of the first apps, and of the first cohorts of the next one
abbrev pub known_keys : List App → ℕ → ℕ → List Cohort → List TrackKey
known_keys apps app index cohorts = joined_from app_keys 0 (take app apps) ++ joined_from (cohort_keys app) 0 (take index cohorts)

-- the places of their tables
pub record IsPartial (apps : List App) (app first index : ℕ) (cohorts : List Cohort) (firsts starts : List ℕ) (count : ℕ) : Type 0 where
  pub apps_count : length firsts ≡ app + 1
  pub own : slice_get firsts app ≡ Some first
  pub begun : length starts ≡ first + index
  pub counted : count ≡ length (nets_of apps (known_keys apps app index cohorts))
  pub placed : ArePlaced firsts starts (nets_of apps (known_keys apps app index cohorts))

-- before the first cohort
pub IsPartial-first :
    (apps : List App) (app : ℕ) (cohorts : List Cohort) (places : Places) →
    ArePlacesOf apps app places →
    IsPartial apps app (length places.starts.items) 0 cohorts (places.firsts.items ++ length places.starts.items ∷ []) places.starts.items places.count
IsPartial-first apps app cohorts places is =
    let count = is.apps_count in
    let sized = length-append places.firsts.items (length places.starts.items ∷ []) in
    let same = sym (append-nil (joined_from app_keys 0 (take app apps))) in
    record {
      apps_count = omega arith;
      own = slice_get-seam places.firsts.items (length places.starts.items) app is.apps_count;
      begun = omega arith;
      counted = is.counted ∙ ap (λ (keys : List TrackKey). length (nets_of apps keys)) same;
      placed =
          subst (λ (keys : List TrackKey). ArePlaced (places.firsts.items ++ length places.starts.items ∷ []) places.starts.items (nets_of apps keys)) same
          (subst (λ (starts : List ℕ). ArePlaced (places.firsts.items ++ length places.starts.items ∷ []) starts (nets_of apps (joined_from app_keys 0 (take app apps)))) (append-nil places.starts.items)
          (ArePlaced-more places.firsts.items places.starts.items (length places.starts.items ∷ []) [] (nets_of apps (joined_from app_keys 0 (take app apps))) is.placed));
    }

-- one cohort more
pub IsPartial-more :
    (apps : List App) (app first index : ℕ) (cohorts : List Cohort) (d : Cohort) (firsts starts : List ℕ) (old more new : ℕ) →
    IsPartial apps app first index cohorts firsts starts old → index < length cohorts →
    more ≡ length (nets_of apps (cohort_keys app index (get_or cohorts index d))) → new ≡ old + more →
    IsPartial apps app first (index + 1) cohorts firsts (starts ++ old ∷ []) new
IsPartial-more apps app first index cohorts d firsts starts old more new is within counts sum =
    let begun = is.begun in
    let sized = length-append starts (old ∷ []) in
    record {
      apps_count = is.apps_count;
      own = is.own;
      begun = omega arith;
      counted =
          let parts = length-append (nets_of apps known) (nets_of apps own) in
          let before = is.counted in
          let whole = ap (λ (nets : List Net). length nets) split in
          omega arith;
      placed =
          subst (ArePlaced firsts (starts ++ old ∷ [])) (sym split)
          (ArePlaced-append firsts (starts ++ old ∷ []) (nets_of apps known) (nets_of apps own) app index
          (subst (λ (fs : List ℕ). ArePlaced fs (starts ++ old ∷ []) (nets_of apps known)) (append-nil firsts)
          (ArePlaced-more firsts starts [] (old ∷ []) (nets_of apps known) is.placed))
          begins
          (All-nets_of (IsOfCohort app index) apps own (All-cohort_keys app index (get_or cohorts index d)))
          (let few = length-cohort_keys app index (get_or cohorts index d) in let most = length-nets_of apps own in omega arith));
    }
  where
    known : List TrackKey
    known = known_keys apps app index cohorts

    own : List TrackKey
    own = cohort_keys app index (get_or cohorts index d)

    listed : known ++ own ≡ known_keys apps app (index + 1) cohorts
    listed =
        append_assoc (joined_from app_keys 0 (take app apps)) (joined_from (cohort_keys app) 0 (take index cohorts)) own
        ∙ ap (λ keys. joined_from app_keys 0 (take app apps) ++ keys) (sym (joined_from-more (cohort_keys app) cohorts index d within))

    split : nets_of apps (known_keys apps app (index + 1) cohorts) ≡ nets_of apps known ++ nets_of apps own
    split = ap (nets_of apps) (sym listed) ∙ filter_map-append (net_among apps) known own

    begins : (key : TrackKey) → IsOfCohort app index key → start_of firsts (starts ++ old ∷ []) key ≡ Some (length (nets_of apps known))
    begins key of_cohort =
        ap (λ n. option_and_then (λ place. slice_get (starts ++ old ∷ []) (place + key.cohort)) (slice_get firsts n)) of_cohort.own_app
        ∙ ap (option_and_then (λ place. slice_get (starts ++ old ∷ []) (place + key.cohort))) is.own
        ∙ slice_get-seam starts old (first + key.cohort) (is.begun ∙ ap (λ n. first + n) (sym of_cohort.own_cohort))
        ∙ ap (λ n. Some n) is.counted

-- all cohorts of the app
pub ArePlacesOf-more :
    (apps : List App) (app first index : ℕ) (d : App) (places : Places) →
    app < length apps → length (get_or apps app d).cohorts ≤ index →
    IsPartial apps app first index (get_or apps app d).cohorts places.firsts.items places.starts.items places.count →
    ArePlacesOf apps (app + 1) places
ArePlacesOf-more apps app first index d places within last is = record {
  apps_count = is.apps_count;
  counted = is.counted ∙ ap (λ (keys : List TrackKey). length (nets_of apps keys)) listed;
  placed = subst (λ (keys : List TrackKey). ArePlaced places.firsts.items places.starts.items (nets_of apps keys)) listed is.placed;
}
  where
    listed : known_keys apps app index (get_or apps app d).cohorts ≡ joined_from app_keys 0 (take (app + 1) apps)
    listed =
        ap (λ (cohorts : List Cohort). joined_from app_keys 0 (take app apps) ++ joined_from (cohort_keys app) 0 cohorts) (take_all index (get_or apps app d).cohorts last)
        ∙ sym (joined_from-more app_keys apps app d within)
