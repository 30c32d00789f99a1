-- The reached differentials of an app are the permitted ones.
use Rattle.std.proofs.Common.{◌≡◌, ℕ, ◌<◌, ◌&&◌, inl, inr, Bool, true, false, cond, List, [], ◌∷◌, length, get_or, leb, ltb, map, refl, sym, ap, ◌∙◌, arith}
use Rattle.std.specs.List.{filter, list_all}
use Rattle.std.specs.Option.{option_map_or}
use Rattle.std.proofs.lemmas.Bool.{and_left, and_parts, and_right, cases_lt, le-leb, le-ltb, lt-leb, lt-ltb}
use Rattle.std.proofs.lemmas.List.{get_or-map, length-map}
use Rattle.std.proofs.lemmas.Option.{slice_get-get_or}
use Rattle.catalogue.specs.VersionLaws.{BelowIsIrreflexive, BelowIsTransitive}
use Rattle.catalogue.specs.Forms.{is_size}
use Rattle.catalogue.specs.Validity.{is_valid_diff}
use Rattle.catalogue.specs.Lookups.{place_of}
use Rattle.catalogue.specs.declared.content.App.{App}
use Rattle.catalogue.specs.declared.content.Cohort.{Cohort}
use Rattle.catalogue.specs.declared.content.Diff.{Diff}
use Rattle.catalogue.specs.declared.content.Release.{Release}
use Rattle.payload_graph.specs.Chains.{index_of}
use Rattle.cohorts.specs.Offers.{is_offered}
use Rattle.payload_graph.specs.Permitted.{is_offered_at, leads_up, permits_differ}
use Rattle.payload_graph.specs.declared.payload.TrackKey.{TrackKey}
use Rattle.payload_graph.proofs.DoorLemmas.{get_or-doors_of}
use Rattle.payload_graph.proofs.FloorLemmas.{and-swap, place_of-le}
use Rattle.payload_graph.proofs.IndexLemmas.{IsIndex, IsIndex-released, find-index_of, index_of-below, released_one}
use Rattle.payload_graph.proofs.OrderLemmas.{list_all-get_or}
use Rattle.payload_graph.proofs.UpwardLemmas.{and-true, leads_up-above, leads_up-inside, leads_up-past}
use Rattle.payload_graph.proofs.WalkLemmas.{AreValid, LeadsUp-good, ends_above, pairs_rise}
use Rattle.payload_graph.specs.Net.{differs_of, doors_of, edge_of, net_of, opens, net_with, resolved_of, version_of_index}
use Rattle.payload_graph.specs.Soundness.{AreResolved, is_reached, net_from, no_door, reach_of}
use Rattle.payload_graph.specs.declared.door.Door.{Door}
use Rattle.payload_graph.specs.declared.edge.Edge.{Edge}

-- tests that agree on each valid item keep the same ones
pub filter-map_agree :
    {A B : Type 0} (good : A → Bool) (f : A → B) (p : B → Bool) (q : A → Bool) →
    ((x : A) → good x ≡ true → p (f x) ≡ q x) →
    (xs : List A) → list_all good xs ≡ true → filter p (map f xs) ≡ map f (filter q xs)
filter-map_agree good f p q agrees [] all = refl
filter-map_agree {A} {B} good f p q agrees (x ∷ xs) all =
    let parts = and_parts (good x) (list_all good xs) all in
    ap (λ b. cond b (f x ∷ filter p (map f xs)) (filter p (map f xs))) (agrees x parts.0)
    ∙ ap (λ (ys : List B). cond (q x) (f x ∷ ys) ys) (filter-map_agree good f p q agrees xs parts.1)
    ∙ both (q x)
  where
    both : (b : Bool) → cond b (f x ∷ map f (filter q xs)) (map f (filter q xs)) ≡ map f (cond b (x ∷ filter q xs) (filter q xs))
    both true = refl
    both false = refl

module _ (irreflexive : BelowIsIrreflexive) (transitive : BelowIsTransitive) (app : App) (are : AreValid app.releases app.diffs) where
  -- resolved differentials lead up and are sorted by origin
  pub AreResolved-app : AreResolved (length app.releases) (resolved_of app)
  AreResolved-app = record {
    sorted = λ i j e low within.
        let sized = length-map app.diffs (edge_of app.releases) in
        let d = some_diff app.diffs j (omega arith) in
        let first = ap (λ (edge : Edge). edge.from) (get_or-map (edge_of app.releases) app.diffs i d e (omega arith)) in
        let second = ap (λ (edge : Edge). edge.from) (get_or-map (edge_of app.releases) app.diffs j d e (omega arith)) in
        elim (cases_lt i j) [
          | inl less ↦
              elim (pairs_rise irreflexive transitive app.releases app.diffs are i j d less (omega arith)) [
                | inl higher ↦ omega arith
                | inr same ↦ let equal = same.0 in omega arith
              ]
          | inr more ↦
              let same : i ≡ j = omega arith in
              let equal = ap (λ n. (get_or (resolved_of app) n e).from) same in
              omega arith
        ];
    rising = λ k e within.
        let sized = length-map app.diffs (edge_of app.releases) in
        let d = some_diff app.diffs k (omega arith) in
        let at = get_or-map (edge_of app.releases) app.diffs k d e (omega arith) in
        let low = ap (λ (edge : Edge). edge.from) at in
        let high = ap (λ (edge : Edge). edge.to) at in
        let less = ends_above irreflexive transitive app.releases app.diffs are k d (omega arith) in
        let good = LeadsUp-good app.releases (get_or app.diffs k d) (good_at k d (omega arith)) in
        let there = (IsIndex-released app.releases (get_or app.diffs k d).to (released_one app.releases (get_or app.diffs k d).to good.ends) good.ends).within in
        (omega arith, omega arith);
    sized = λ k e within.
        let sized = length-map app.diffs (edge_of app.releases) in
        let d = some_diff app.diffs k (omega arith) in
        ap (λ (edge : Edge). is_size edge.bytes) (get_or-map (edge_of app.releases) app.diffs k d e (omega arith))
        ∙ (LeadsUp-good app.releases (get_or app.diffs k d) (good_at k d (omega arith))).sized;
  }
    where
      some_diff : (diffs : List Diff) (k : ℕ) → k < length diffs → Diff
      some_diff [] k within = absurd (omega arith)
      some_diff (diff ∷ diffs) k within = diff

      good_at : (k : ℕ) (d : Diff) → k < length app.diffs → is_valid_diff app.releases (get_or app.diffs k d) ≡ true
      good_at k d within = list_all-get_or (is_valid_diff app.releases) app.diffs k d are.good within

  module _ (cohort : Cohort) (key : TrackKey) (target : ℕ) (aimed : target < length app.releases) where
    abbrev doors : List Door
    doors = doors_of cohort key.pin app.releases

    -- a differential is reached if it is permitted
    reached-at :
        (diff : Diff) → is_valid_diff app.releases diff ≡ true →
        is_reached target doors (edge_of app.releases diff)
        ≡ permits_differ app.releases cohort key.pin (version_of_index app.releases target) diff
    reached-at diff good =
        let up = LeadsUp-good app.releases diff good in
        let d = released_one app.releases diff.from up.starts in
        let origin = IsIndex-released app.releases diff.from d up.starts in
        let end = IsIndex-released app.releases diff.to d up.ends in
        let less = index_of-below irreflexive transitive app.releases diff.from diff.to are.rises up.starts up.ends up.upward in
        by_index diff d origin end less ∙ sym (by_rule diff d origin end)
      where
        -- what the rule says of it
        by_rule :
            (diff : Diff) (d : Release) → IsIndex app.releases diff.from d → IsIndex app.releases diff.to d →
            permits_differ app.releases cohort key.pin (version_of_index app.releases target) diff
            ≡ (is_offered_at cohort key.pin (get_or app.releases (index_of app.releases diff.from) d).version (get_or app.releases (index_of app.releases diff.to) d)
            && leads_up app.releases (get_or app.releases target d).version (get_or app.releases (index_of app.releases diff.from) d).version (get_or app.releases (index_of app.releases diff.to) d).version)
        by_rule diff d origin end =
            let there = get_or app.releases (index_of app.releases diff.to) d in
            ap (λ found. option_map_or (λ (to : Release). is_offered_at cohort key.pin diff.from to && leads_up app.releases (version_of_index app.releases target) diff.from to.version) found false) (find-index_of app.releases diff.to d end)
            ∙ ap (λ found. is_offered_at cohort key.pin diff.from there && leads_up app.releases (option_map_or (λ (r : Release). r.version) found []) diff.from there.version) (slice_get-get_or app.releases target d aimed)
            ∙ ap (λ from. is_offered_at cohort key.pin from there && leads_up app.releases (get_or app.releases target d).version from there.version) (sym origin.there)

        -- what its indexes say of it
        by_index :
            (diff : Diff) (d : Release) → IsIndex app.releases diff.from d → IsIndex app.releases diff.to d →
            index_of app.releases diff.from < index_of app.releases diff.to →
            is_reached target doors (edge_of app.releases diff)
            ≡ (is_offered_at cohort key.pin (get_or app.releases (index_of app.releases diff.from) d).version (get_or app.releases (index_of app.releases diff.to) d)
            && leads_up app.releases (get_or app.releases target d).version (get_or app.releases (index_of app.releases diff.from) d).version (get_or app.releases (index_of app.releases diff.to) d).version)
        by_index diff d origin end less =
            let low = origin.within in
            let high = end.within in
            let offered = ap (opens (index_of app.releases diff.from)) (get_or-doors_of cohort key.pin app.releases (index_of app.releases diff.to) no_door d high)
            ∙ and-swap (leb (place_of (get_or app.releases (index_of app.releases diff.to) d).floor app.releases) (index_of app.releases diff.from)) (is_offered cohort key.pin (get_or app.releases (index_of app.releases diff.to) d))
            ∙ ap (λ b. is_offered cohort key.pin (get_or app.releases (index_of app.releases diff.to) d) && b) (place_of-le transitive app.releases d (get_or app.releases (index_of app.releases diff.to) d).floor (index_of app.releases diff.from) are.rises low) in
            elim (cases_lt target (index_of app.releases diff.from)) [
              | inl past ↦
                  and_left _ _ (lt-leb (index_of app.releases diff.from) target past)
                  ∙ sym (and_right _ _ (leads_up-past irreflexive transitive cohort key.pin app.releases d are.rises target (index_of app.releases diff.from) aimed (index_of app.releases diff.to) past low high))
              | inr below ↦
                  ap (λ b. b && (ltb (index_of app.releases diff.to) (reach_of target doors (index_of app.releases diff.from)) && opens (index_of app.releases diff.from) (get_or doors (index_of app.releases diff.to) no_door))) (le-leb (index_of app.releases diff.from) target below)
                  ∙ (elim (cases_lt (index_of app.releases diff.to) (reach_of target doors (index_of app.releases diff.from))) [
                    | inl reached ↦
                        ap (λ b. b && opens (index_of app.releases diff.from) (get_or doors (index_of app.releases diff.to) no_door)) (lt-ltb (index_of app.releases diff.to) (reach_of target doors (index_of app.releases diff.from)) reached)
                        ∙ offered
                        ∙ sym (and-true (is_offered_at cohort key.pin (get_or app.releases (index_of app.releases diff.from) d).version (get_or app.releases (index_of app.releases diff.to) d)))
                        ∙ ap (λ b. is_offered_at cohort key.pin (get_or app.releases (index_of app.releases diff.from) d).version (get_or app.releases (index_of app.releases diff.to) d) && b) (sym (leads_up-inside irreflexive transitive cohort key.pin app.releases d are.rises target (index_of app.releases diff.from) aimed (index_of app.releases diff.to) below less reached))
                    | inr behind ↦
                        and_left _ _ (le-ltb (index_of app.releases diff.to) (reach_of target doors (index_of app.releases diff.from)) behind)
                        ∙ sym (and_right _ _ (leads_up-above irreflexive transitive cohort key.pin app.releases d are.rises target (index_of app.releases diff.from) aimed (index_of app.releases diff.to) below behind high))
                  ])
            ]

    pub reached_are_permitted : filter (is_reached target doors) (resolved_of app) ≡ differs_of app cohort key.pin target
    reached_are_permitted =
        filter-map_agree (is_valid_diff app.releases) (edge_of app.releases) (is_reached target doors) (permits_differ app.releases cohort key.pin (version_of_index app.releases target)) reached-at app.diffs are.good

    -- the graph of the releases and resolved differentials is the track's
    pub net_from-app : net_from key cohort app.releases target (resolved_of app) ≡ net_of app key cohort target
    net_from-app = ap (λ (differs : List Edge). net_with app key cohort target differs) reached_are_permitted
