-- A request has one plan: at each place one choice is the right one.
use Rattle.std.proofs.Common.{◌≡◌, ℕ, ◌<◌, ◌≤◌, inl, inr, ◌&&◌, ◌||◌, Bool, true, false, eqb, ltb, List, [], ◌∷◌, length, Option, None, Some, refl, sym, ap, ◌∙◌, subst, arith}
use Rattle.std.specs.List.{AllZip, slice_get}
use Rattle.std.specs.Option.{MatchOption, option_map_or}
use Rattle.std.specs.Str.{bytes_eq}
use Rattle.std.proofs.lemmas.Bool.{and_parts, cases_order, cond_both, eqb-true, false≢true, ltb-true, or_cases}
use Rattle.std.proofs.lemmas.Option.{none-some, same_Some}
use Rattle.std.proofs.lemmas.Slice.Eq.{bytes_eq-Decides}
use Rattle.catalogue.specs.VersionLaws.{BelowIsIrreflexive, BelowIsTransitive}
use Rattle.catalogue.specs.Versions.{is_below}
use Rattle.catalogue.specs.Histories.{HistoriesAreValid}
use Rattle.omaha_json.specs.declared.request.AppAsk.{AppAsk}
use Rattle.catalogue.specs.Lookups.{is_release}
use Rattle.catalogue.specs.Validity.{IsValid, IsValidApp, is_diff_before}
use Rattle.catalogue.specs.declared.content.App.{App}
use Rattle.catalogue.specs.declared.content.Cohort.{Cohort}
use Rattle.catalogue.specs.declared.content.Diff.{Diff}
use Rattle.catalogue.specs.declared.content.Release.{Release}
use Rattle.cohorts.specs.Offers.{track_target}
use Rattle.payload_graph.specs.Chains.{bytes_of, destination_of, index_of}
use Rattle.payload_graph.specs.Permitted.{end_of, is_offered_at, leads_up, permits, permits_differ, permits_from, permits_in, starts_at}
use Rattle.payload_graph.specs.Places.{place_of, version_at}
use Rattle.payload_graph.specs.declared.payload.Payload.{Payload}
use Rattle.payload_graph.specs.declared.payload.Payload.TheVariants.{Full, Differ}
use Rattle.payload_graph.specs.declared.payload.TrackKey.{TrackKey}
use Rattle.payload_graph.specs.declared.place.Place.{Place}
use Rattle.quotes.specs.Quotes.{Begins, yields}
use Rattle.editions.specs.Editions.{content_of}
use Rattle.replies.specs.Clients.{Client, client_of, key_of}
use Rattle.replies.specs.Plans.{IsChoice, IsChosen, IsClientChoice, IsOffer, client_to_update, wants_update}
use Rattle.replies.specs.declared.choices.Choice.{Choice}
use Rattle.theorems.proofs.ChainLemmas.{IsLeast-one}
use Rattle.theorems.proofs.HistoryLemmas.{IsValid-content}
use Rattle.theorems.proofs.ItemLemmas.{AllByRecursion-slice_get, Passes-option_map_or, ascend-slice_get, find-passes, find-position}
use Rattle.theorems.proofs.LeadsLemmas.{starts-version}
use Rattle.theorems.proofs.PermittedLemmas.{away-permits}
use Rattle.theorems.proofs.TrackLemmas.{HasClient-client_of}
use Rattle.theorems.specs.Laws.{PlansAreOne}

-- lists whose items are determined by those of another list are the same
AllZip-one :
    {A B : Type 0} (R : A → B → Type 0) (xs : List A) (ys zs : List B) →
    ((x : A) (y z : B) → R x y → R x z → y ≡ z) → AllZip R xs ys → AllZip R xs zs → ys ≡ zs
AllZip-one R [] [] [] one first second = refl
AllZip-one R [] [] (z ∷ zs) one first second = absurd second
AllZip-one R [] (y ∷ ys) zs one first second = absurd first
AllZip-one R (x ∷ xs) [] zs one first second = absurd first
AllZip-one R (x ∷ xs) (y ∷ ys) [] one first second = absurd second
AllZip-one {A} {B} R (x ∷ xs) (y ∷ ys) (z ∷ zs) one first second =
    ap (λ (b : B). b ∷ ys) (one x y z first.0 second.0)
    ∙ ap (λ (bs : List B). z ∷ bs) (AllZip-one R xs ys zs one first.1 second.1)

-- what a permitted differential is between: the version of the place, and the release that it leads to
record IsBetween (app : App) (place : Place) (index : ℕ) : Type 0 where
  diff : Diff
  there : slice_get app.diffs index ≡ Some diff
  starts : version_at app.releases place ≡ Some diff.from
  end : Release
  leads : slice_get app.releases (destination_of app (Differ index)) ≡ Some end
  ends : diff.to ≡ end.version

IsBetween-permits :
    (app : App) (key : TrackKey) (place : Place) (index : ℕ) →
    permits app key place (Differ index) ≡ true → IsBetween app place index
IsBetween-permits app key place index permitted =
    let releases = app.releases in
    let served = Passes-option_map_or (λ (cohort : Cohort). permits_in app cohort key place (Differ index))
    (slice_get app.cohorts key.cohort) permitted in
    let cohort = served.item in
    let aimed = Passes-option_map_or (λ (target : List ℕ). permits_from app cohort key target place (Differ index))
    (track_target releases cohort key.lane key.pin) served.passed in
    let target = aimed.item in
    let found = Passes-option_map_or
    (λ (diff : Diff). starts_at releases place diff && permits_differ releases cohort key.pin target diff)
    (slice_get app.diffs index) aimed.passed in
    let diff = found.item in
    let parts = and_parts (starts_at releases place diff) (permits_differ releases cohort key.pin target diff)
    found.passed in
    let end = Passes-option_map_or
    (λ (to : Release). is_offered_at cohort key.pin diff.from to && leads_up releases target diff.from to.version)
    (end_of releases diff) parts.1 in
    let passes = find-passes (is_release diff.to) releases end.item end.is in
    let to : destination_of app (Differ index) ≡ index_of releases diff.to =
    ap (λ (o : Option Diff). option_map_or (λ (d : Diff). index_of releases d.to) o (length releases)) found.is in
    record {
      diff = diff;
      there = found.is;
      starts = starts-version releases place diff parts.0;
      end = end.item;
      leads = ap (λ n. slice_get releases n) to ∙ find-position (is_release diff.to) releases end.item end.is;
      ends = (bytes_eq-Decides diff.to end.item.version).0 passes;
    }

module _ (irreflexive : BelowIsIrreflexive) (transitive : BelowIsTransitive) (app : App) (valid : IsValidApp app)
    (key : TrackKey) (place : Place) where
  -- no differential comes before one of the same pair
  same_pair-before :
      (one other : Diff) → one.from ≡ other.from → one.to ≡ other.to → is_diff_before one other ≡ true → ⊥
  same_pair-before one other from to before =
      elim (or_cases (is_below one.from other.from) (bytes_eq one.from other.from && is_below one.to other.to) before) [
        | inl low ↦ false≢true (sym (irreflexive one.from) ∙ ap (is_below one.from) from ∙ low)
        | inr tie ↦
            let low = (and_parts (bytes_eq one.from other.from) (is_below one.to other.to) tie).1 in
            false≢true (sym (irreflexive one.to) ∙ ap (is_below one.to) to ∙ low)
      ]

  -- so differentials from the place to one release are one
  one-differ :
      (one other : ℕ) → permits app key place (Differ one) ≡ true → permits app key place (Differ other) ≡ true →
      destination_of app (Differ one) ≡ destination_of app (Differ other) → one ≡ other
  one-differ one other first second meets =
      let left = IsBetween-permits app key place one first in
      let right = IsBetween-permits app key place other second in
      let from = same_Some left.diff.from right.diff.from (sym left.starts ∙ right.starts) in
      let end = same_Some left.end right.end (sym left.leads ∙ ap (slice_get app.releases) meets ∙ right.leads) in
      let to = left.ends ∙ ap (λ (r : Release). r.version) end ∙ sym right.ends in
      elim (cases_order one other) [
        | inl same ↦ same
        | inr (inl less) ↦
            absurd (same_pair-before left.diff right.diff from to
            (ascend-slice_get is_diff_before app.diffs one other left.diff right.diff valid.diffs_ascend less
            left.there right.there))
        | inr (inr more) ↦
            absurd (same_pair-before right.diff left.diff (sym from) (sym to)
            (ascend-slice_get is_diff_before app.diffs other one right.diff left.diff valid.diffs_ascend more
            right.there left.there))
      ]

  -- what yields leads no higher, and lower if it yields to no tie
  yields-low : (low high : ℕ) (last : Bool) → (ltb low high || (eqb low high && last)) ≡ true → low ≤ high
  yields-low low high last yielding = elim (or_cases (ltb low high) (eqb low high && last) yielding) [
    | inl less ↦ let below = ltb-true low high less in omega arith
    | inr tie ↦ let same = eqb-true low high (and_parts (eqb low high) last tie).0 in omega arith
  ]

  yields-lower : (low high : ℕ) → (ltb low high || (eqb low high && false)) ≡ true → low < high
  yields-lower low high yielding = elim (or_cases (ltb low high) (eqb low high && false) yielding) [
    | inl less ↦ ltb-true low high less
    | inr tie ↦ absurd (false≢true (and_parts (eqb low high) false tie).1)
  ]

  -- permitted payloads that yield to one another are one
  one-payload :
      (one other : Payload) → permits app key place one ≡ true → permits app key place other ≡ true →
      yields app one other ≡ true → yields app other one ≡ true → one ≡ other
  one-payload (Full one) (Full other) first second low high =
      let up = yields-low one other true low in
      let down = yields-low other one true high in
      let same : one ≡ other = omega arith in
      ap (λ n. Full n) same
  one-payload (Full one) (Differ other) first second low high =
      let up = yields-low one (destination_of app (Differ other)) true low in
      let down = yields-lower (destination_of app (Differ other)) one high in
      absurd (omega arith)
  one-payload (Differ one) (Full other) first second low high =
      let up = yields-lower (destination_of app (Differ one)) other low in
      let down = yields-low other (destination_of app (Differ one)) true high in
      absurd (omega arith)
  one-payload (Differ one) (Differ other) first second low high =
      let up = yields-low (destination_of app (Differ one)) (destination_of app (Differ other)) true low in
      let down = yields-low (destination_of app (Differ other)) (destination_of app (Differ one)) true high in
      let meets : destination_of app (Differ one) ≡ destination_of app (Differ other) = omega arith in
      ap (λ n. Differ n) (one-differ one other first second meets)

  one-offer : (one other : Choice) → IsOffer app key place one → IsOffer app key place other → one ≡ other
  one-offer one other first second =
      let sums = IsLeast-one app key place first.sum second.sum first.first.least second.first.least in
      let mine = first.first.begins in
      let yours = second.first.begins in
      let payload = one-payload one.payload other.payload mine.permitted yours.permitted
      (second.first.first one.payload (subst (Begins app key place one.payload) sums mine))
      (first.first.first other.payload (subst (Begins app key place other.payload) (sym sums) yours)) in
      let bytes : one.bytes ≡ other.bytes = first.bytes ∙ ap (bytes_of app) payload ∙ sym second.bytes in
      ap (λ (p : Payload). record { payload = p; bytes = one.bytes }) payload
      ∙ ap (λ (n : ℕ). record { payload = other.payload; bytes = n }) bytes

  -- where something is offered, nothing is no choice
  none-offer : (choice : Choice) → IsChoice app key place None → IsOffer app key place choice → ⊥
  none-offer choice (inl at) offer =
      away-permits irreflexive transitive app valid.releases_ascend key place choice.payload
      offer.first.begins.permitted at
  none-offer choice (inr none) offer = none offer.first.least.chain offer.first.least.leads

  pub one-choice : (one other : Option Choice) → IsChoice app key place one → IsChoice app key place other → one ≡ other
  one-choice None None first second = refl
  one-choice None (Some other) first second = absurd (none-offer other first second)
  one-choice (Some one) None first second = absurd (none-offer one second first)
  one-choice (Some one) (Some other) first second = ap (λ (c : Choice). Some c) (one-offer one other first second)

module _ (irreflexive : BelowIsIrreflexive) (transitive : BelowIsTransitive) (apps : List App) (valid : IsValid apps)
    (session : List ℕ) where
  -- the app of a client is valid
  IsValidApp-client :
      (ask : AppAsk) (client : Client) → client_to_update apps session ask ≡ Some client → IsValidApp client.app
  IsValidApp-client ask client =
      cond_both (wants_update ask) (client_of apps session ask) None
      (λ (o : Option Client). o ≡ Some client → IsValidApp client.app)
      (λ wants known.
      let has = HasClient-client_of apps session ask client known in
      AllByRecursion-slice_get IsValidApp apps client.index client.app valid.apps_valid has.there)
      (λ idle none. absurd (none-some client none))

  one-chosen :
      (ask : AppAsk) (one other : Option Choice) → IsChosen apps session ask one → IsChosen apps session ask other →
      one ≡ other
  one-chosen ask one other first second = cases (client_to_update apps session ask) refl first second
    where
      cases :
          (client : Option Client) → client_to_update apps session ask ≡ client →
          MatchOption client (one ≡ None) (λ (c : Client). IsClientChoice c ask one) →
          MatchOption client (other ≡ None) (λ (c : Client). IsClientChoice c ask other) → one ≡ other
      cases None is first second = first ∙ sym second
      cases (Some client) is first second =
          one-choice irreflexive transitive client.app (IsValidApp-client ask client is) (key_of client)
          (place_of client.app.releases ask.fp ask.version) one other first second

pub plans_are_one : BelowIsIrreflexive → BelowIsTransitive → HistoriesAreValid → PlansAreOne
plans_are_one irreflexive transitive are_valid history request one other first second =
    let apps = content_of history in
    AllZip-one (IsChosen apps request.session) request.apps one other
    (one-chosen irreflexive transitive apps (IsValid-content are_valid history) request.session) first second
