-- The keys and values of records in etcd, which etcdctl prints; this project's profile.
use Rattle.std.specs.Prelude.{ℕ, ◌+◌, ◌/◌, ◌%◌, List, [], ◌∷◌, ◌++◌, codes}
use Rattle.base64.specs.Engines.{standard}
use Rattle.base64.specs.GeneralPurpose.{encode_of}
use Rattle.kept_records.specs.declared.record.Kind.{Kind}
use Rattle.kept_records.specs.declared.record.Kind.TheVariants.{Profile, Script, Raise}
use Rattle.kept_records.specs.declared.record.Record.{Record}

-- the decimal digit of a number at a unit
abbrev digit : ℕ → ℕ → ℕ
digit number unit = 48 + number / unit % 10

-- the eight last decimal digits
abbrev pub eight_digits : ℕ → List ℕ
eight_digits number =
    digit number 10000000 ∷ digit number 1000000 ∷ digit number 100000 ∷ digit number 10000
    ∷ digit number 1000 ∷ digit number 100 ∷ digit number 10 ∷ (48 + number % 10) ∷ []

-- rule: Key of a record in etcd
-- the prefix, and the record's number in eight decimal digits
abbrev pub key_of : List ℕ → ℕ → List ℕ
key_of prefix number = prefix ++ eight_digits number

-- the word of a kind, and a line feed
abbrev pub word_of : Kind → List ℕ
word_of Profile = codes "profile\n"
word_of Script = codes "script\n"
word_of Raise = codes "raise\n"

-- rule: Value of a record in etcd
-- the kind's word, a line feed, and the record's bytes
abbrev pub value_of : Record → List ℕ
value_of kept = word_of kept.kind ++ kept.bytes

-- the key in base64, as JSON carries it
unfoldable pub encoded_key : List ℕ → ℕ → List ℕ
encoded_key prefix number = encode_of standard (key_of prefix number)

-- the value in base64, as JSON carries it
unfoldable pub encoded_value : Record → List ℕ
encoded_value kept = encode_of standard (value_of kept)
