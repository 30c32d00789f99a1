-- The track of a client that sends back the cohort text of a reply is the one that it had.
use Rattle.std.proofs.Common.{◌≡◌, ℕ, ◌<◌, ◌≤◌, Bool, true, List, length, Option, None, Some, refl, sym, ap, ◌∙◌, subst, arith}
use Rattle.std.specs.List.{position, slice_get}
use Rattle.std.specs.Option.{option_and_then, option_map, option_map_or, option_or, unwrap_or, IfSome}
use Rattle.std.specs.Str.{bytes_eq}
use Rattle.std.proofs.lemmas.Bool.{and_parts}
use Rattle.std.proofs.lemmas.Option.{get_or_from_slice_get, slice_get-get_or, slice_get_within}
use Rattle.std.proofs.lemmas.Slice.Eq.{bytes_eq-Decides}
use Rattle.values.proofs.OnceLemmas.{position-once}
use Rattle.catalogue.specs.Forms.{is_cohort_name}
use Rattle.catalogue.specs.Lookups.{is_app, is_cohort}
use Rattle.catalogue.specs.Validity.{IsValidApp, is_valid_cohort}
use Rattle.catalogue.specs.declared.content.App.{App}
use Rattle.catalogue.specs.declared.content.Cohort.{Cohort}
use Rattle.omaha_json.specs.declared.request.AppAsk.{AppAsk}
use Rattle.cohorts.specs.CohortTexts.{parsed, printed}
use Rattle.cohorts.specs.Laws.{ParsedIsPrinted, PrintedIsParsed}
use Rattle.cohorts.specs.Tracks.{bucket_of, cohort_at, cohort_of, hinted_cohort, is_hinted, no_cohort, sent_cohort, session_bucket, track_in, track_of}
use Rattle.cohorts.specs.declared.track.Track.{Track}
use Rattle.replies.specs.Clients.{Client, client_at, client_of, cohort_text}
use Rattle.theorems.proofs.ItemLemmas.{list_all-slice_get, position-Passes}

-- what an ask is with another version, fingerprint and cohort text
abbrev pub again : AppAsk → List ℕ → List ℕ → List ℕ → AppAsk
again ask version fp text = record ask { version = version; fp = fp; cohort = text }

-- an index, if there is one, is in range
abbrev IsInside : ℕ → Option ℕ → Type 0
IsInside count index = IfSome index (λ i. i < count)

IsInside-position : {A : Type 0} (test : A → Bool) (items : List A) → IsInside (length items) (position test items)
IsInside-position test items = cases (position test items) refl
  where
    cases : (o : Option ℕ) → position test items ≡ o → IsInside (length items) o
    cases None is = tt
    cases (Some index) is =
        let passes = position-Passes test items index is in
        slice_get_within items index passes.item passes.is

IsInside-sent : (cohorts : List Cohort) (text : List ℕ) → IsInside (length cohorts) (sent_cohort cohorts text)
IsInside-sent cohorts text = cases (parsed text)
  where
    cases :
        (o : Option (List ℕ × ℕ)) →
        IsInside (length cohorts) (option_and_then (λ (named : List ℕ × ℕ). position (is_cohort named.0) cohorts) o)
    cases None = tt
    cases (Some named) = IsInside-position (is_cohort named.0) cohorts

chosen-inside :
    (count : ℕ) (hinted sent : Option ℕ) → 1 ≤ count → IsInside count hinted → IsInside count sent →
    unwrap_or (option_or hinted sent) 0 < count
chosen-inside count None None some hinted_in sent_in = omega arith
chosen-inside count None (Some index) some hinted_in sent_in = sent_in
chosen-inside count (Some index) sent some hinted_in sent_in = hinted_in

-- a client's cohort is chosen again if what it sends names it
chosen-again :
    (hinted sent : Option ℕ) →
    unwrap_or (option_or hinted (Some (unwrap_or (option_or hinted sent) 0))) 0 ≡ unwrap_or (option_or hinted sent) 0
chosen-again None sent = refl
chosen-again (Some index) sent = refl

session_bucket-small : (session : List ℕ) → session_bucket session < 1000
unfolding session_bucket
session_bucket-small session = omega arith

bucket_of-small : ParsedIsPrinted → (ask : AppAsk) (session : List ℕ) → bucket_of ask session < 1000
bucket_of-small parsed_is ask session = cases (parsed ask.cohort) refl
  where
    cases :
        (o : Option (List ℕ × ℕ)) → parsed ask.cohort ≡ o →
        option_map_or (λ (named : List ℕ × ℕ). named.1) o (session_bucket session) < 1000
    cases None is = session_bucket-small session
    cases (Some (name, bucket)) is = (parsed_is ask.cohort name bucket is).1

module _ (printed_is : PrintedIsParsed) (parsed_is : ParsedIsPrinted) (app : App) (valid : IsValidApp app) (session : List ℕ)
    (ask : AppAsk) where
  abbrev index : ℕ
  index = cohort_of app.cohorts ask

  abbrev bucket : ℕ
  bucket = bucket_of ask session

  abbrev name : List ℕ
  name = (cohort_at app.cohorts index).name

  index-inside : index < length app.cohorts
  index-inside =
      chosen-inside (length app.cohorts) (hinted_cohort app.cohorts ask.hint) (sent_cohort app.cohorts ask.cohort)
      valid.some_cohort
      (IsInside-position (is_hinted ask.hint) app.cohorts) (IsInside-sent app.cohorts ask.cohort)

  cohort-there : slice_get app.cohorts index ≡ Some (cohort_at app.cohorts index)
  cohort-there =
      let found = slice_get-get_or app.cohorts index no_cohort index-inside in
      found ∙ ap (λ (c : Cohort). Some c) (sym (ap (λ (o : Option Cohort). unwrap_or o no_cohort) found))

  name-good : is_cohort_name name ≡ true
  name-good =
      let good = list_all-slice_get (is_valid_cohort app.releases) app.cohorts index (cohort_at app.cohorts index)
      valid.cohorts_valid cohort-there in
      (and_parts _ _ (and_parts _ _ (and_parts _ _ good).0).0).0

  text-parsed : parsed (printed name bucket) ≡ Some (name, bucket)
  text-parsed = printed_is name bucket name-good (bucket_of-small parsed_is ask session)

  name-found : position (is_cohort name) app.cohorts ≡ Some index
  name-found =
      position-once (is_cohort name) app.cohorts index (valid.cohorts_once name) index-inside
      (λ (d : Cohort). ap (λ (c : Cohort). bytes_eq name c.name)
      (get_or_from_slice_get app.cohorts index (cohort_at app.cohorts index) d cohort-there) ∙ (bytes_eq-Decides name name).1
      refl)

  sent-again : sent_cohort app.cohorts (printed name bucket) ≡ Some index
  sent-again =
      ap (λ (o : Option (List ℕ × ℕ)). option_and_then (λ (named : List ℕ × ℕ). position (is_cohort named.0) app.cohorts) o)
      text-parsed
      ∙ name-found

  -- the track is the one that it was
  pub track_of-again :
      (version fp : List ℕ) →
      track_of app.releases app.cohorts (again ask version fp (printed name bucket)) session ≡ track_of app.releases app.cohorts ask session
  track_of-again version fp =
      let next : AppAsk = again ask version fp (printed name bucket) in
      let cohort : cohort_of app.cohorts next ≡ index =
      ap (λ (o : Option ℕ). unwrap_or (option_or (hinted_cohort app.cohorts ask.hint) o) 0) sent-again
      ∙ chosen-again (hinted_cohort app.cohorts ask.hint) (sent_cohort app.cohorts ask.cohort) in
      let own : bucket_of next session ≡ bucket =
      ap (λ (o : Option (List ℕ × ℕ)). option_map_or (λ (named : List ℕ × ℕ). named.1) o (session_bucket session)) text-parsed in
      ap (λ (k : ℕ). track_in app.releases (cohort_at app.cohorts k) k (bucket_of next session) next) cohort
      ∙ ap (λ (b : ℕ). track_in app.releases (cohort_at app.cohorts index) index b next) own

-- what a client is made of
pub record HasClient (apps : List App) (session : List ℕ) (ask : AppAsk) (client : Client) : Type 0 where
  pub found : position (is_app ask.appid) apps ≡ Some client.index
  pub there : slice_get apps client.index ≡ Some client.app
  pub track : client.track ≡ track_of client.app.releases client.app.cohorts ask session

pub HasClient-client_of :
    (apps : List App) (session : List ℕ) (ask : AppAsk) (client : Client) →
    client_of apps session ask ≡ Some client → HasClient apps session ask client
HasClient-client_of apps session ask client known = at (position (is_app ask.appid) apps) refl known
  where
    make : ℕ → App → Client
    make index app = record { index = index; app = app; track = track_of app.releases app.cohorts ask session }

    there :
        (index : ℕ) → position (is_app ask.appid) apps ≡ Some index →
        (app : Option App) → slice_get apps index ≡ app →
        option_map (λ (a : App). make index a) app ≡ Some client → HasClient apps session ask client
    there index found None is made = cc
    there index found (Some app) is made =
        let same : make index app ≡ client = cc in
        subst (λ (c : Client). HasClient apps session ask c) same (record { found = found; there = is; track = refl })

    at :
        (index : Option ℕ) → position (is_app ask.appid) apps ≡ index →
        option_and_then (client_at apps session ask) index ≡ Some client → HasClient apps session ask client
    at None found made = cc
    at (Some index) found made = there index found (slice_get apps index) refl made

-- a client that sends back its cohort text is the same one
pub client_of-again :
    PrintedIsParsed → ParsedIsPrinted →
    (apps : List App) (session : List ℕ) (ask : AppAsk) (client : Client) (version fp : List ℕ) →
    IsValidApp client.app → client_of apps session ask ≡ Some client →
    client_of apps session (again ask version fp (cohort_text client)) ≡ Some client
client_of-again printed_is parsed_is apps session ask client version fp valid known =
    let has = HasClient-client_of apps session ask client known in
    let text : cohort_text client ≡ printed (cohort_at client.app.cohorts (cohort_of client.app.cohorts ask)).name
    (bucket_of ask session) =
    ap (λ (t : Track). printed (cohort_at client.app.cohorts t.cohort).name t.bucket) has.track in
    let next : AppAsk = again ask version fp (cohort_text client) in
    let track : track_of client.app.releases client.app.cohorts next session ≡ client.track =
    ap (λ (t : List ℕ). track_of client.app.releases client.app.cohorts (again ask version fp t) session) text
    ∙ track_of-again printed_is parsed_is client.app valid session ask version fp
    ∙ sym has.track in
    ap (λ (o : Option ℕ). option_and_then (client_at apps session next) o) has.found
    ∙ ap (λ (o : Option App). option_map (λ (a : App). record
    { index = client.index; app = a; track = track_of a.releases a.cohorts next session }) o) has.there
    ∙ ap (λ (t : Track). Some (record { index = client.index; app = client.app; track = t })) track
