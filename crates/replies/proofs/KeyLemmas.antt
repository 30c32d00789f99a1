-- The keys of pinned clients, one app of a request after the other.
use Rattle.std.proofs.Common.{◌≡◌, ◌≢◌, ℕ, ◌+◌, ◌<◌, ◌≤◌, inl, inr, Bool, true, false, cond, not, eqb, List, [], ◌∷◌, ◌++◌, length, get_or, take, Option, None, Some, refl, sym, ap, ◌∙◌, subst, arith}
use Rattle.std.specs.List.{All, Any, Contains, slice_get}
use Rattle.std.specs.Option.{option_and_then, option_map, option_map_or, IfSome}
use Rattle.std.proofs.lemmas.Bool.{cases_lt, eq-eqb, false≢true}
use Rattle.std.proofs.lemmas.List.{take_all}
use Rattle.std.proofs.lemmas.List.Elements.{All-more, All-nil, All-push, All-weaker, Contains-append_left, Contains-push}
use Rattle.std.proofs.lemmas.List.Quantifiers.{all_pairs_push}
use Rattle.std.proofs.lemmas.Option.{IfSome_then}
use Rattle.catalogue.specs.declared.content.App.{App}
use Rattle.catalogue.specs.declared.content.Cohort.{Cohort}
use Rattle.cohorts.specs.Offers.{is_any}
use Rattle.omaha_json.specs.declared.request.AppAsk.{AppAsk}
use Rattle.par_tables.specs.Pieces.{HasTarget}
use Rattle.payload_graph.specs.declared.payload.TrackKey.{TrackKey}
use Rattle.replies.specs.Clients.{Client, IsAssigned, IsInCohort, client_in, is_pinned, key_of, track_by}
use Rattle.replies.specs.Pinned.{AddsKey, ArePinnedKeys, IsAdded, IsKept, key_in, key_of_pin, key_pinned}
use Rattle.replies.specs.Plans.{pinned_key, wants_update}
use Rattle.replies.specs.declared.client.Assignment.{Assignment}

-- the key of a client, if it is pinned
abbrev key_if_pinned : Client → Option TrackKey
key_if_pinned client = cond (is_pinned client) (Some (key_of client)) None

of_pin : (assignment : Assignment) (any : Bool) → cond (not any) (Some assignment.key) None ≡ cond any None (Some assignment.key)
of_pin assignment true = refl
of_pin assignment false = refl

of_assignment :
    (apps : List App) (assignment : Assignment) → IsInCohort apps (Some assignment) →
    option_and_then key_if_pinned (client_in apps assignment) ≡ key_of_pin assignment
of_assignment apps assignment within = in_app (slice_get apps assignment.key.app) refl
  where
    in_app :
        (app : Option App) → slice_get apps assignment.key.app ≡ app →
        option_and_then key_if_pinned
        (option_map (λ (a : App). record { index = assignment.key.app; app = a; track = track_by a assignment }) app)
        ≡ key_of_pin assignment
    in_app None none =
        let few : assignment.key.cohort < 0 =
        subst (λ (cohorts : List Cohort). assignment.key.cohort < length cohorts)
        (ap (λ (o : Option App). option_map_or (λ (a : App). a.cohorts) o []) none) within in
        absurd (omega arith)
    in_app (Some app) there = of_pin assignment (is_any assignment.key.pin)

-- the key of an ask's client is that of its assignment
pub pinned_key-assigned :
    (apps : List App) (session : List ℕ) (ask : AppAsk) (assigned : Option Assignment) →
    IsAssigned apps session ask assigned → pinned_key apps session ask ≡ key_pinned ask assigned
pinned_key-assigned apps session ask assigned is =
    ap (λ (o : Option Client). option_and_then key_if_pinned (cond (wants_update ask) o None)) (sym is.client)
    ∙ by_wish (wants_update ask)
  where
    of_assigned :
        (a : Option Assignment) → IsInCohort apps a →
        option_and_then key_if_pinned (option_and_then (client_in apps) a) ≡ option_and_then key_of_pin a
    of_assigned None within = refl
    of_assigned (Some assignment) within = of_assignment apps assignment within

    by_wish :
        (wants : Bool) →
        option_and_then key_if_pinned (cond wants (option_and_then (client_in apps) assigned) None)
        ≡ cond wants (option_and_then key_of_pin assigned) None
    by_wish false = refl
    by_wish true = of_assigned assigned is.cohort

module _ (apps : List App) (session : List ℕ) (asks : List AppAsk) (app : ℕ) where
  abbrev IsAsked : TrackKey → Type 0
  IsAsked key = Any (λ (ask : AppAsk). pinned_key apps session ask ≡ Some key) asks

  abbrev Keys : ℕ → List TrackKey → Type 0
  Keys index keys = ArePinnedKeys apps session asks app (take index asks) keys

  IsKept-more :
      (count : ℕ) (old : List TrackKey) (key : TrackKey) (ask : AppAsk) → IsKept apps session count old ask →
      IsKept apps session count (old ++ key ∷ []) ask
  IsKept-more count old key ask kept =
      IfSome_then (pinned_key apps session ask) kept
      (λ k reached low target. Contains-append_left old (key ∷ []) k (reached low target))

  IsKept-some :
      (count : ℕ) (keys : List TrackKey) (ask : AppAsk) (key : TrackKey) → pinned_key apps session ask ≡ Some key →
      (key.app < count → HasTarget apps key → Contains keys key) → IsKept apps session count keys ask
  IsKept-some count keys ask key is there =
      subst (λ (o : Option TrackKey). IfSome o (λ k. k.app < count → HasTarget apps k → Contains keys k)) (sym is) there

  with_added :
      (index : ℕ) (ask : AppAsk) (key : TrackKey) (old new : List TrackKey) → index < length asks →
      ask ≡ get_or asks index ask → pinned_key apps session ask ≡ Some key → Keys index old →
      IsAdded apps key old new → Keys (index + 1) new
  with_added index ask key old new within item is before adds =
      let more = old ++ key ∷ [] in
      subst (λ (keys : List TrackKey). Keys (index + 1) keys) (sym adds.added)
      (record {
        targets = All-push (HasTarget apps) old key before.targets adds.target;
        once = all_pairs_push (λ (k other : TrackKey). k ≢ other) old key before.once adds.other;
        asked = All-push IsAsked old key before.asked (index, ask, within, sym item, is);
        below =
            All-weaker (IsKept apps session app old) (IsKept apps session app more) (IsKept-more app old key) asks
            before.below;
        each =
            All-more (IsKept apps session (app + 1) more) asks index ask within
            (All-weaker (IsKept apps session (app + 1) old) (IsKept apps session (app + 1) more)
            (IsKept-more (app + 1) old key) (take index asks) before.each)
            (subst (IsKept apps session (app + 1) more) item
            (IsKept-some (app + 1) more ask key is (λ low target. Contains-push old key)));
      })

  with_same :
      (index : ℕ) (ask : AppAsk) (old new : List TrackKey) → index < length asks → ask ≡ get_or asks index ask →
      new ≡ old → Keys index old → IsKept apps session (app + 1) old ask → Keys (index + 1) new
  with_same index ask old new within item same before kept =
      subst (λ (keys : List TrackKey). Keys (index + 1) keys) (sym same)
      (record {
        targets = before.targets;
        once = before.once;
        asked = before.asked;
        below = before.below;
        each = All-more (IsKept apps session (app + 1) old) asks index ask within before.each
            (subst (IsKept apps session (app + 1) old) item kept);
      })

  -- a key of another app that is one of the first apps is kept already
  kept-other :
      (index : ℕ) (ask : AppAsk) (key : TrackKey) (old : List TrackKey) → index < length asks →
      ask ≡ get_or asks index ask → pinned_key apps session ask ≡ Some key → eqb key.app app ≡ false →
      Keys index old → IsKept apps session (app + 1) old ask
  kept-other index ask key old within item is other before =
      let own = subst (IsKept apps session app old) (sym item) (before.below index ask within) in
      let reached = subst (λ (o : Option TrackKey). IfSome o (λ k. k.app < app → HasTarget apps k → Contains old k)) is own in
      IsKept-some (app + 1) old ask key is
      (λ low target. elim (cases_lt key.app app) [
        | inl less ↦ reached less target
        | inr behind ↦
            let same : key.app ≡ app = omega (arith, low, behind) in
            absurd (false≢true (sym other ∙ eq-eqb key.app app same))
      ])

  -- the keys of one ask more
  pub ArePinnedKeys-more :
      (index : ℕ) (ask : AppAsk) (key : Option TrackKey) (old new : List TrackKey) → index < length asks →
      ask ≡ get_or asks index ask → key_in app (pinned_key apps session ask) ≡ key → Keys index old →
      AddsKey apps key old new → Keys (index + 1) new
  ArePinnedKeys-more index ask key old new within item own before adds = by_pin (pinned_key apps session ask) refl own
    where
      by_app :
          (k : TrackKey) → pinned_key apps session ask ≡ Some k → (same : Bool) → eqb k.app app ≡ same →
          cond same (Some k) None ≡ key → Keys (index + 1) new
      by_app k is true equal own =
          elim (subst (λ (o : Option TrackKey). AddsKey apps o old new) (sym own) adds) [
            | inl added ↦ with_added index ask k old new within item is before added
            | inr left ↦
                with_same index ask old new within item left.same before
                (IsKept-some (app + 1) old ask k is (λ low. left.there))
          ]
      by_app k is false equal own =
          with_same index ask old new within item
          (subst (λ (o : Option TrackKey). AddsKey apps o old new) (sym own) adds) before
          (kept-other index ask k old within item is equal before)

      by_pin : (pinned : Option TrackKey) → pinned_key apps session ask ≡ pinned → key_in app pinned ≡ key → Keys (index + 1) new
      by_pin None is own =
          with_same index ask old new within item
          (subst (λ (o : Option TrackKey). AddsKey apps o old new) (sym own) adds) before
          (subst (λ (o : Option TrackKey). IfSome o (λ k. k.app < app + 1 → HasTarget apps k → Contains old k)) (sym is) tt)
      by_pin (Some k) is own = by_app k is (eqb k.app app) refl own

  -- after all asks, the keys of one app more
  pub ArePinnedKeys-app :
      (index : ℕ) (keys : List TrackKey) → length asks ≤ index → Keys index keys →
      ArePinnedKeys apps session asks (app + 1) [] keys
  ArePinnedKeys-app index keys past are = record {
    targets = are.targets;
    once = are.once;
    asked = are.asked;
    below = subst (All (IsKept apps session (app + 1) keys)) (take_all index asks past) are.each;
    each = All-nil (IsKept apps session (app + 1 + 1) keys);
  }
