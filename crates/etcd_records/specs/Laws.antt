-- What servers that share a history know of it; this project's profile.
use Rattle.std.specs.Prelude.{◌≡◌, ◌≤◌, ◌⊎◌, ℕ, List, [], ◌∷◌, ◌++◌, Option, Some, fold, ⊤}
use Rattle.std.specs.List.{Contains}
use Rattle.kept_records.specs.declared.record.Record.{Record}
use Rattle.etcd_records.specs.declared.exchange.Exchange.{Exchange}
use Rattle.etcd_records.specs.declared.headers.Header.{Header}
use Rattle.etcd_records.specs.Asking.{Heard, IsHeard, seen_by}
use Rattle.etcd_records.specs.Handles.{AreShown, Shows}

-- the values of keys at each time: once a key has a value, it has that one ever after
abbrev pub KeepsCreated : (ℕ → List ℕ → Option (List ℕ)) → Type 0
KeepsCreated store = (time later : ℕ) (key value : List ℕ)
    → time ≤ later → store time key ≡ Some value → store later key ≡ Some value

-- each exchange showed a value that its key had at some time
abbrev pub AgreeWith : (ℕ → List ℕ → Option (List ℕ)) → List Exchange → Type 0
AgreeWith store exchanges = (it : Exchange) (key value : List ℕ)
    → Contains exchanges it → Shows key value it → (time : ℕ) × (store time key ≡ Some value)

-- one of two lists begins with the other
abbrev pub AreOneHistory : List Record → List Record → Type 0
AreOneHistory ours theirs =
    ((rest : List Record) × (ours ≡ theirs ++ rest)) ⊎ ((rest : List Record) × (theirs ≡ ours ++ rest))

-- rule: One history for all servers
-- the known records of two servers begin alike, if the store keeps what it created and its replies are true
abbrev pub ServersKnowOneHistory : Type 0
ServersKnowOneHistory = (store : ℕ → List ℕ → Option (List ℕ)) → KeepsCreated store
    → (prefix : List ℕ) (ours theirs : List Exchange) → AgreeWith store ours → AgreeWith store theirs
    → (known others : List Record) → AreShown ours prefix known → AreShown theirs prefix others
    → AreOneHistory known others

-- what was heard of requests, one after another, each after the last reply that counted before it
abbrev pub AreHeard : Option Header → List Heard → Type 0
AreHeard seen [] = ⊤
AreHeard seen (heard ∷ later) =
    ((most : ℕ) × (path body : List ℕ) × (done : List Exchange) × IsHeard most seen path body done heard)
    × AreHeard (seen_by seen heard) later

-- the header of the last reply that counts, after all of these
abbrev pub seen_last : Option Header → List Heard → Option Header
seen_last seen all = fold seen_by seen all

-- after a reply that counts, the last one that does is of the same cluster, and of a state that is no older
abbrev pub RepliesNeverGoBack : Type 0
RepliesNeverGoBack = (first : Header) (all : List Heard) → AreHeard (Some first) all
    → (last : Header) × (seen_last (Some first) all ≡ Some last)
    × (last.cluster ≡ first.cluster) × (first.revision ≤ last.revision)
