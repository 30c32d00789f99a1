-- What is posted to the JSON gateway of etcd 3: API `etcdserverpb.KV` in the JSON form of proto3.
use Rattle.std.specs.Prelude.{ℕ, List, ◌++◌, codes}

-- the path of transactions
abbrev pub txn_path : List ℕ
txn_path = codes "/v3/kv/txn"

-- the path of reads
abbrev pub range_path : List ℕ
range_path = codes "/v3/kv/range"

-- rule: Requests to etcd
-- the transaction that puts a value at a key if there is none, and reads the key otherwise; both in base64
unfoldable pub txn_request : List ℕ → List ℕ → List ℕ
txn_request key value =
    codes "{\"compare\":[{\"key\":\"" ++ key
    ++ codes "\",\"target\":\"CREATE\",\"result\":\"EQUAL\",\"create_revision\":\"0\"}],"
    ++ codes "\"success\":[{\"request_put\":{\"key\":\"" ++ key
    ++ codes "\",\"value\":\"" ++ value
    ++ codes "\"}}],\"failure\":[{\"request_range\":{\"key\":\"" ++ key
    ++ codes "\"}}]}"

-- the read of a key in base64, which sees every write that etcd replied to before it
unfoldable pub range_request : List ℕ → List ℕ
range_request key = codes "{\"key\":\"" ++ key ++ codes "\"}"
