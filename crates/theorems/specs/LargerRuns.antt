-- Larger runs, worked by hand: two mirrors, two apps, a differential, a pinned client, and a worker that hears of a
-- published batch.
use Rattle.std.specs.Prelude.{◌≡◌, ℕ, ◌+◌, false, List, [], ◌∷◌, ◌++◌, codes, flat_map, map, replicate, None, Some}
use Rattle.std.specs.Option.{option_map_or}
use Rattle.catalogue.specs.declared.edit.Edit.{Edit}
use Rattle.catalogue.specs.declared.edit.Edit.TheVariants as edit
use Rattle.omaha_json.specs.declared.reply.Offer.{Offer}
use Rattle.omaha_json.specs.declared.request.AppAsk.{AppAsk}
use Rattle.omaha_json.specs.declared.request.Request.{Request}
use Rattle.payload_graph.specs.declared.edge.Kind.TheVariants as kind
use Rattle.price_cert.specs.declared.row.Row.TheVariants.{End, Nothing, Price}
use Rattle.catalogue.specs.declared.mirror.Mirror.{Mirror}
use Rattle.theorems.specs.Asks.{offered_bytes}
use Rattle.theorems.specs.Walks.{offers_of}
use Rattle.theorems.specs.Choices.{Tables}
use Rattle.theorems.specs.Events.{Enter, Grant, Learn, Plan, Publish, Render, happens, service_after}
use Rattle.theorems.specs.Jobs.{EndedJob, Rendered, Worker}
use Rattle.theorems.specs.Runs.{begins, outcomes_in, replied, small_batch, small_mirrors, small_rows, small_run, withdrawal}
use Rattle.theorems.specs.Services.{Service}

-- what an offer comes to: its codebase, its version, and the bytes to download
abbrev pub Made : Type 0
Made = List ℕ × List ℕ × ℕ

abbrev pub made_of : Offer → Made
made_of offer = (offer.full.codebase, offer.version, offered_bytes offer)

abbrev pub made_by : EndedJob → List Made
made_by ended = option_map_or (λ (rendered : Rendered). map made_of (offers_of rendered.reply.apps)) ended.rendered []

-- the offers of all replies
abbrev pub offers_in : Service → List Made
offers_in service = flat_map (λ (worker : Worker). flat_map made_by worker.ended) service.workers

-- a mirror of 2 bytes, which has no room for the release, and one of 5, which grants it
abbrev pub two_mirrors : List Mirror
two_mirrors =
    record { name = codes "m0"; codebase = codes "http://m0/p/"; budget = 2 }
    ∷ record { name = codes "m1"; codebase = codes "http://m1/p/"; budget = 5 }
    ∷ []

abbrev pub second_grants : Service
second_grants =
    service_after happens two_mirrors (small_batch ∷ []) 1 (begins 0 (Grant 0 0 3 ∷ Grant 0 1 3 ∷ Render 0 86400 ∷ []))

pub record SecondMirrorGrants : Type 0 where
  pub offers : offers_in second_grants ≡ (codes "http://m1/p/", codes "1.0", 3) ∷ []
  pub first : (second_grants.books 0).total ≡ 0
  pub second : (second_grants.books 1).total ≡ 3

-- a release of an app, under a name of its own
abbrev pub app_release : List ℕ → List ℕ → ℕ → Edit
app_release app version size =
    edit.AddRelease (record {
      app = app;
      version = version;
      name = app ++ version;
      size = size;
      sha256 = replicate 64 (48 + size);
    })

abbrev pub app_target : List ℕ → List ℕ → Edit
app_target app version =
    edit.SetTarget (record { app = app; cohort = codes "stable"; target = Some version; held = None })

-- two apps, each with a release, which is the target; the mirror has room for the first one
abbrev pub two_apps : List Edit
two_apps =
    edit.AddApp (record { app = codes "mini"; default = codes "stable" })
    ∷ app_release (codes "mini") (codes "1.0") 3
    ∷ app_target (codes "mini") (codes "1.0")
    ∷ edit.AddApp (record { app = codes "maxi"; default = codes "stable" })
    ∷ app_release (codes "maxi") (codes "1.0") 4
    ∷ app_target (codes "maxi") (codes "1.0")
    ∷ []

-- an update check of a client of an app, with the fingerprint of its release and a prefix of versions
abbrev pub ask_of : List ℕ → List ℕ → List ℕ → AppAsk
ask_of app fp prefix =
    record {
      appid = app;
      version = codes "0.0";
      fp = fp;
      cohort = codes "stable:319";
      hint = [];
      check = Some (record { disabled = false; rollback = false; prefix = prefix });
      ping = false;
      events = 0;
    }

abbrev pub asking : List AppAsk → Request
asking asks = record { session = codes "s"; apps = asks }

abbrev pub both_replied : Service
both_replied =
    service_after happens small_mirrors (two_apps ∷ []) 1
    (Enter 0
    ∷ Plan 0 (asking (ask_of (codes "mini") [] [] ∷ ask_of (codes "maxi") [] [] ∷ [])) small_rows
    ∷ Grant 0 0 3
    ∷ Grant 0 0 4
    ∷ Render 0 86400
    ∷ [])

pub record TwoAppsInOneReply : Type 0 where
  pub outcomes :
      outcomes_in both_replied
      ≡ ((1, Some (Some (codes "ok") ∷ Some (codes "error-internal") ∷ [])) ∷ []) ∷ []
  pub offers : offers_in both_replied ≡ (codes "http://m0/p/", codes "1.0", 3) ∷ []
  pub total : (both_replied.books 0).total ≡ 3

-- releases 1.0 and 2.0, the target, and a differential of 2 bytes between them
abbrev pub two_releases : List Edit
two_releases =
    edit.AddApp (record { app = codes "mini"; default = codes "stable" })
    ∷ app_release (codes "mini") (codes "1.0") 3
    ∷ app_release (codes "mini") (codes "2.0") 9
    ∷ edit.AddDiff (record {
      app = codes "mini";
      from = codes "1.0";
      to = codes "2.0";
      name = codes "mini1.0-2.0";
      size = 2;
      sha256 = replicate 64 50;
    })
    ∷ app_target (codes "mini") (codes "2.0")
    ∷ []

-- the fingerprint of release 1.0
abbrev pub fp_of_first : List ℕ
fp_of_first = codes "1." ++ replicate 64 51

-- the certified rows of the track, and those of its clients that are pinned to versions that begin with 1, whose
-- target is 1.0
abbrev pub rows_of_two : Tables
rows_of_two ask = Price 2 kind.Differ 1 ∷ End ∷ []

abbrev pub rows_below_two : Tables
rows_below_two ask = End ∷ Nothing ∷ []

-- a client of the cohort that has 1.0 asks, and then a pinned one
abbrev pub differ_then_pin : Service
differ_then_pin =
    service_after happens small_mirrors (two_releases ∷ []) 1
    (Enter 0
    ∷ Plan 0 (asking (ask_of (codes "mini") fp_of_first [] ∷ [])) rows_of_two
    ∷ Grant 0 0 2
    ∷ Render 0 86400
    ∷ Enter 0
    ∷ Plan 0 (asking (ask_of (codes "mini") fp_of_first (codes "1.") ∷ [])) rows_below_two
    ∷ Render 0 86400
    ∷ [])

-- the first is offered 2.0 by the differential, the second has its target
pub record DifferentialAndPin : Type 0 where
  pub outcomes :
      outcomes_in differ_then_pin ≡ (replied 1 (codes "ok") ∷ replied 1 (codes "noupdate") ∷ []) ∷ []
  pub offers : offers_in differ_then_pin ≡ (codes "http://m0/p/", codes "2.0", 2) ∷ []

-- a pinned client without a release is offered 1.0
abbrev pub pinned_first : Service
pinned_first =
    service_after happens small_mirrors (two_releases ∷ []) 1
    (Enter 0
    ∷ Plan 0 (asking (ask_of (codes "mini") [] (codes "1.") ∷ [])) rows_below_two
    ∷ Grant 0 0 3
    ∷ Render 0 86400
    ∷ [])

pub record PinnedOffer : Type 0 where
  pub offers : offers_in pinned_first ≡ (codes "http://m0/p/", codes "1.0", 3) ∷ []

-- the release is withdrawn, one of two workers hears of it, and then enters
abbrev pub heard : Service
heard = small_run 2 (Publish 1 (withdrawal ∷ []) ∷ Learn 0 2 ∷ [])

abbrev pub heard_and_replied : Service
heard_and_replied =
    small_run 2 (Publish 1 (withdrawal ∷ []) ∷ Learn 0 2 ∷ begins 0 (Render 0 86400 ∷ []))

abbrev pub seen_in : Service → List ℕ
seen_in service = map (λ (worker : Worker). worker.seen) service.workers

pub record HeardOfABatch : Type 0 where
  pub seen : seen_in heard ≡ 2 ∷ 1 ∷ []
  pub outcomes : outcomes_in heard_and_replied ≡ (replied 2 (codes "noupdate") ∷ []) ∷ [] ∷ []
