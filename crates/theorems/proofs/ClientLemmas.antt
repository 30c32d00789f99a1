-- The client of an app that is asked for: its app is one of the content's, and it is on the track that it asked for.
use Rattle.std.proofs.Common.{◌≡◌, ℕ, ◌&&◌, Bool, true, false, List, Option, None, Some, refl, sym, ap, ◌∙◌, subst}
use Rattle.std.specs.List.{position, slice_get}
use Rattle.std.specs.Option.{option_map, unwrap_or}
use Rattle.std.proofs.lemmas.Bool.{cond_both}
use Rattle.std.proofs.lemmas.List.Elements.{All-from_recursion}
use Rattle.std.proofs.lemmas.Option.{get_or_from_slice_get, none-some, option_and_then_some, slice_get_within}
use Rattle.cohorts.specs.Tracks.{asks_rollback, cohort_at, no_cohort, track_of}
use Rattle.cohorts.specs.declared.track.Track.{Track}
use Rattle.omaha_json.specs.declared.request.AppAsk.{AppAsk}
use Rattle.payload_graph.specs.Chains.{cohort_target}
use Rattle.payload_graph.specs.Net.{Net, net_of}
use Rattle.catalogue.specs.Lookups.{is_app}
use Rattle.catalogue.specs.Validity.{IsValid, IsValidApp}
use Rattle.catalogue.specs.declared.content.App.{App}
use Rattle.catalogue.specs.declared.content.Cohort.{Cohort}
use Rattle.replies.specs.Clients.{Client, client_at, client_of, key_of}
use Rattle.replies.specs.Plans.{client_to_update, wants_update}
use Rattle.theorems.specs.Choices.{graph_for}

-- the value that was mapped
pub record Mapped {A B : Type 0} (f : A → B) (from : Option A) (to : B) : Type 0 where
  pub item : A
  pub is : from ≡ Some item
  pub same : f item ≡ to

pub Mapped-Some : {A B : Type 0} (f : A → B) (from : Option A) (to : B) → option_map f from ≡ Some to → Mapped f from to
Mapped-Some f None to is = cc
Mapped-Some f (Some item) to is = let same : f item ≡ to = cc in record { item = item; is = refl; same = same }

module _ (apps : List App) (session : List ℕ) (ask : AppAsk) where
  -- what is known of a client that wants an update
  pub record Wants (client : Client) : Type 0 where
    pub there : slice_get apps client.index ≡ Some client.app
    pub track : client.track ≡ track_of client.app.releases client.app.cohorts ask session
    pub wants : wants_update ask ≡ true

  Wants-client_of : (client : Client) → wants_update ask ≡ true → client_of apps session ask ≡ Some client → Wants
      client
  Wants-client_of client wants known =
      option_and_then_some (client_at apps session ask) (position (is_app ask.appid) apps) client known
      (λ index found made.
      let app = Mapped-Some
      (λ (app : App). record { index = index; app = app; track = track_of app.releases app.cohorts ask session })
      (slice_get apps index) client made in
      subst (λ (c : Client). Wants c) app.same (record { there = app.is; track = refl; wants = wants }))

  pub Wants-client : (client : Client) → client_to_update apps session ask ≡ Some client → Wants client
  Wants-client client =
      cond_both (wants_update ask) (client_of apps session ask) None
      (λ (o : Option Client). o ≡ Some client → Wants client)
      (λ wants known. Wants-client_of client wants known) (λ idle none. absurd (none-some client none))

  module _ (client : Client) (is : Wants client) where
    pub IsValidApp-client : IsValid apps → IsValidApp client.app
    IsValidApp-client valid =
        let within = slice_get_within apps client.index client.app is.there in
        subst IsValidApp (get_or_from_slice_get apps client.index client.app client.app is.there)
        (All-from_recursion IsValidApp apps valid.apps_valid client.index client.app within)

    -- the graph of its track leads down if the key does
    pub same-rollback : (net : Net) → graph_for client ≡ Some net → net.rollback ≡ (key_of client).rollback
    same-rollback net made =
        option_and_then_some (λ (cohort : Cohort). option_map (net_of client.app (key_of client) cohort)
        (cohort_target client.app cohort (key_of client)))
        (slice_get client.app.cohorts (key_of client).cohort) net made
        (λ cohort there graph.
        let target = Mapped-Some (net_of client.app (key_of client) cohort)
        (cohort_target client.app cohort (key_of client)) net graph in
        let own : cohort_at client.app.cohorts client.track.cohort ≡ cohort = ap
        (λ (o : Option Cohort). unwrap_or o no_cohort) there in
        let rolls : client.track.rollback ≡ ((cohort_at client.app.cohorts
        client.track.cohort).rollback && asks_rollback ask) =
        ap (λ (t : Track). t.rollback) is.track
        ∙ sym (ap (λ (t : Track). (cohort_at client.app.cohorts t.cohort).rollback && asks_rollback ask) is.track) in
        let both : client.track.rollback ≡ (cohort.rollback && asks_rollback ask) =
        rolls ∙ ap (λ (c : Cohort). c.rollback && asks_rollback ask) own in
        sym (ap (λ (n : Net). n.rollback) target.same)
        ∙ ap (λ b. cohort.rollback && b) both ∙ twice cohort.rollback (asks_rollback ask) ∙ sym both)
      where
        twice : (b c : Bool) → (b && (b && c)) ≡ (b && c)
        twice true c = refl
        twice false c = refl
