-- What comes of a request that is posted until etcd replies; this project's profile.
use Rattle.std.specs.Prelude.{◌≡◌, ℕ, ◌≤◌, Bool, List, [], ◌∷◌, ◌++◌, length, fold, Option, Some, None}
use Rattle.std.specs.List.{All, list_any}
use Rattle.serde_json.specs.Data.{Data}
use Rattle.serde_json.specs.View.{view}
use Rattle.kept_records.specs.declared.fault.Cause.{Cause}
use Rattle.kept_records.specs.declared.fault.Cause.TheVariants.{Unreachable}
use Rattle.kept_records.specs.declared.fault.Unreached.TheVariants.{NoReply}
use Rattle.etcd_records.specs.declared.asking.Asked.{Asked}
use Rattle.etcd_records.specs.declared.asking.Asked.TheVariants as asked
use Rattle.etcd_records.specs.declared.exchange.Exchange.{Exchange}
use Rattle.etcd_records.specs.Replies.{cause_of, counted_in, may_be_done}
use Rattle.etcd_records.specs.Headers.{header_of}
use Rattle.etcd_records.specs.declared.headers.Header.{Header}

-- etcd's reply, and whether an attempt before it may have been carried out; or why there is none, and whether an
-- attempt may have been carried out; or memory ran out
pub data Heard : Type 0 where
  replied : Data → Bool → Heard
  unreplied : Cause → Bool → Heard
  no_memory : Heard

-- the same of what the code has
abbrev pub heard_of : Asked → Heard
heard_of (asked.Replied reply in_doubt) = replied (view reply) in_doubt
heard_of (asked.Unreplied cause in_doubt) = unreplied cause in_doubt
heard_of asked.Memory = no_memory

-- an attempt posted this body to this path
abbrev pub Asks : List ℕ → List ℕ → Exchange → Type 0
Asks path body it = (it.path ≡ path) × (it.body ≡ body)

-- an attempt that brought no reply which counts after one with that header
abbrev pub IsMiss : Option Header → List ℕ → List ℕ → Exchange → Type 0
IsMiss seen path body it = Asks path body it × (counted_in seen it.outcome ≡ None)

-- an attempt may have been carried out
abbrev pub in_doubt : List Exchange → Bool
in_doubt attempts = list_any (λ (it : Exchange). may_be_done it.outcome) attempts

-- why the last attempt brought no reply which counts
abbrev pub last_cause : Option Header → List Exchange → Cause
last_cause seen attempts = fold (λ (earlier : Cause) (it : Exchange). cause_of seen it.outcome) (Unreachable NoReply) attempts

-- the last attempt brought this reply, and those before it none
pub record IsReplied (most : ℕ) (seen : Option Header) (path body : List ℕ) (done : List Exchange) (reply : Data)
    (is_doubtful : Bool) : Type 0 where
  pub missed : List Exchange
  pub last : Exchange
  pub all : done ≡ missed ++ last ∷ []
  pub within : length done ≤ most
  pub misses : All (IsMiss seen path body) missed
  pub asks : Asks path body last
  pub reply_is : counted_in seen last.outcome ≡ Some reply
  pub doubt_is : is_doubtful ≡ in_doubt missed

-- all attempts were made, and none brought a reply
pub record IsUnreplied (most : ℕ) (seen : Option Header) (path body : List ℕ) (done : List Exchange) (cause : Cause)
    (is_doubtful : Bool) : Type 0 where
  pub all : length done ≡ most
  pub misses : All (IsMiss seen path body) done
  pub cause_is : cause ≡ last_cause seen done
  pub doubt_is : is_doubtful ≡ in_doubt done

-- the attempts asked nothing else, and then memory ran out
pub record IsCutOff (most : ℕ) (path body : List ℕ) (done : List Exchange) : Type 0 where
  pub within : length done ≤ most
  pub asks : All (Asks path body) done

-- rule: Attempts of a request
-- so many attempts at most posted this body to this path, until one of them brought a reply of etcd that counts after one
-- with that header
abbrev pub IsHeard : ℕ → Option Header → List ℕ → List ℕ → List Exchange → Heard → Type 0
IsHeard most seen path body done (replied reply is_doubtful) = IsReplied most seen path body done reply is_doubtful
IsHeard most seen path body done (unreplied cause is_doubtful) = IsUnreplied most seen path body done cause is_doubtful
IsHeard most seen path body done no_memory = IsCutOff most path body done

-- the header of the last reply that counts, after what was heard
abbrev pub seen_by : Option Header → Heard → Option Header
seen_by seen (replied reply is_doubtful) = header_of reply
seen_by seen (unreplied cause is_doubtful) = seen
seen_by seen no_memory = seen
