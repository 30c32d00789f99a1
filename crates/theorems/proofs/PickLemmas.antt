-- The payloads of an app by number, and that each permitted one has a number.
use Rattle.std.proofs.Common.{◌≡◌, ℕ, ◌+◌, ◌-◌, ◌<◌, Bool, true, false, cond, ltb, length, ap, ◌∙◌, arith}
use Rattle.std.proofs.lemmas.Bool.{le-ltb, lt-ltb}
use Rattle.std.proofs.lemmas.Option.{slice_get_within}
use Rattle.catalogue.specs.declared.content.App.{App}
use Rattle.payload_graph.specs.Permitted.{permits}
use Rattle.payload_graph.specs.declared.payload.Payload.{Payload}
use Rattle.payload_graph.specs.declared.payload.Payload.TheVariants.{Full, Differ}
use Rattle.payload_graph.specs.declared.payload.TrackKey.{TrackKey}
use Rattle.payload_graph.specs.declared.place.Place.{Place}
use Rattle.theorems.proofs.PermittedLemmas.{IsPermitted-permits, destination-within, diff-there}

module _ (app : App) where
  -- all payloads of an app, numbered: the full packages, then the differentials
  abbrev pub count : ℕ
  count = length app.releases + length app.diffs

  abbrev pub pick : ℕ → Payload
  pick number = cond (ltb number (length app.releases)) (Full number) (Differ (number - length app.releases))

  pub record IsPicked (payload : Payload) : Type 0 where
    pub number : ℕ
    pub within : number < count
    pub is : pick number ≡ payload

  IsPicked-full : (to : ℕ) → to < length app.releases → IsPicked (Full to)
  IsPicked-full to within =
      record {
        number = to;
        within = omega arith;
        is = ap (λ (b : Bool). cond b (Full to) (Differ (to - length app.releases))) (lt-ltb to (length app.releases) within);
      }

  IsPicked-differ : (index : ℕ) → index < length app.diffs → IsPicked (Differ index)
  IsPicked-differ index within =
      let number : ℕ = length app.releases + index in
      let past : ltb number (length app.releases) ≡ false = le-ltb number (length app.releases) (omega arith) in
      let back : number - length app.releases ≡ index = omega arith in
      record {
        number = number;
        within = omega arith;
        is = ap (λ (b : Bool). cond b (Full number) (Differ (number - length app.releases))) past ∙ ap (λ (n : ℕ). Differ n) back;
      }

  pub IsPicked-permits :
      (key : TrackKey) (place : Place) (payload : Payload) → permits app key place payload ≡ true → IsPicked payload
  IsPicked-permits key place (Full to) permitted = IsPicked-full to (destination-within app key place (Full to) permitted)
  IsPicked-permits key place (Differ index) permitted =
      let leads = (IsPermitted-permits app key place (Differ index) permitted).leads in
      let diff = diff-there app index leads.release leads.there in
      IsPicked-differ index (slice_get_within app.diffs index diff.item diff.is)
