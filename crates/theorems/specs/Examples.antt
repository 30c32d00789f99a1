-- The replies of a small walk, worked by hand: a client of the cohort `stable` goes from 1.0 by way of
-- 2.0 and 3.0 to 4.0, by differentials of 300, 200 and 250 bytes.
use Rattle.std.specs.Prelude.{◌≡◌, ℕ, false, List, [], ◌∷◌, ◌++◌, codes, length, replicate, Some}
use Rattle.omaha_json.specs.declared.reply.AppReply.{AppReply}
use Rattle.omaha_json.specs.declared.reply.AppState.TheVariants as state
use Rattle.omaha_json.specs.declared.reply.CheckReply.{CheckReply}
use Rattle.omaha_json.specs.declared.reply.CheckReply.TheVariants as check
use Rattle.omaha_json.specs.declared.reply.Offer.{Offer}
use Rattle.omaha_json.specs.declared.reply.Part.{Part}
use Rattle.omaha_json.specs.declared.request.AppAsk.{AppAsk}
use Rattle.theorems.specs.Walks.{asks_of, last_ask, offers_of, sum_of}

-- the fingerprint of a release whose hash has one digit
abbrev pub fp_of : ℕ → List ℕ
fp_of digit = codes "1." ++ replicate 64 digit

-- a package; its name, its hash and its codebase make no difference here
abbrev pub part_of : ℕ → Part
part_of size = record { codebase = []; name = []; size = size; hash = [] }

-- an offer of a version, by a full package and a differential
abbrev pub offer_of : List ℕ → ℕ → ℕ → ℕ → Offer
offer_of version digit size diff =
    record { version = version; fp = fp_of digit; full = part_of size; diff = Some (part_of diff) }

-- the reply to the app, in the bucket 319
abbrev pub reply_with : CheckReply → AppReply
reply_with status =
    record {
      appid = codes "demo";
      state = state.Known (record {
        cohort = codes "stable:319";
        name = codes "stable";
        ping = false;
        events = 0;
        check = Some status;
      });
    }

abbrev pub replies : List AppReply
replies =
    reply_with (check.Offered (offer_of (codes "2.0") 50 1200 300))
    ∷ reply_with (check.Offered (offer_of (codes "3.0") 51 1500 200))
    ∷ reply_with (check.Offered (offer_of (codes "4.0") 52 1600 250))
    ∷ reply_with check.NoUpdate
    ∷ []

-- what the client asks at a version, with a cohort text
abbrev pub ask_at : List ℕ → ℕ → List ℕ → AppAsk
ask_at version digit cohort =
    record {
      appid = codes "demo";
      version = version;
      fp = fp_of digit;
      cohort = cohort;
      hint = [];
      check = Some (record { disabled = false; rollback = false; prefix = [] });
      ping = false;
      events = 0;
    }

-- first it sends no cohort text, and then the one of the reply; it downloads 750 bytes
pub record ExampleIsWorked : Type 0 where
  pub offers : length (offers_of replies) ≡ 3
  pub sum : sum_of (offers_of replies) ≡ 750
  pub asks :
      asks_of (ask_at (codes "1.0") 49 []) replies
      ≡ ask_at (codes "1.0") 49 []
      ∷ ask_at (codes "2.0") 50 (codes "stable:319")
      ∷ ask_at (codes "3.0") 51 (codes "stable:319")
      ∷ ask_at (codes "4.0") 52 (codes "stable:319")
      ∷ []
  pub last : last_ask (ask_at (codes "1.0") 49 []) replies ≡ ask_at (codes "4.0") 52 (codes "stable:319")
