-- The header that each reply of etcd 3 has: `cluster_id` and `revision`, numbers in strings in the JSON form of proto3.
use Rattle.std.specs.Prelude.{ℕ, ◌==◌, ◌&&◌, ◌^◌, Bool, nat_lt, List, codes, length, if◌then◌else◌, Option, Some, None, option_and_then, slice_index}
use Rattle.std.specs.Str.{all_ascii_digits}
use Rattle.std.specs.Str.Parse.{digits_value}
use Rattle.serde_json.specs.Data.{Data}
use Rattle.serde_json.specs.Find.{as_str, pointer}
use Rattle.kept_records.specs.declared.fault.Unreached.{Unreached}
use Rattle.kept_records.specs.declared.fault.Unreached.TheVariants as unreached
use Rattle.etcd_records.specs.declared.headers.Header.{Header}

-- the string begins with a `+`
abbrev pub has_plus : List ℕ → Bool
has_plus text = slice_index text 0 == 43

-- the string is decimal digits, at least one, of a number below 2^64
abbrev pub is_number : List ℕ → Bool
is_number text = nat_lt 0 (length text) && all_ascii_digits text && nat_lt (digits_value 10 text) (2 ^ 64)

-- the number in a string
abbrev pub number_of : List ℕ → Option ℕ
number_of text = if is_number text then Some (digits_value 10 text) else None

-- the number in the string at a place of a reply
abbrev pub number_at : List ℕ → Data → Option ℕ
number_at place reply = option_and_then number_of (option_and_then as_str (pointer place reply))

-- the header with these numbers, if both are there
abbrev pub header_with : Option ℕ → Option ℕ → Option Header
header_with (Some cluster) (Some revision) = Some (record { cluster = cluster; revision = revision })
header_with cluster revision = None

-- the header of a reply
abbrev pub header_of : Data → Option Header
header_of reply = header_with (number_at (codes "/header/cluster_id") reply) (number_at (codes "/header/revision") reply)

-- why a reply with this header doesn't count after one with that header: it is of another cluster, or of an older state
abbrev pub trouble_of : Option Header → Header → Option Unreached
trouble_of None header = None
trouble_of (Some seen) header =
    if seen.cluster == header.cluster
    then (if nat_lt header.revision seen.revision then Some unreached.OlderState else None)
    else Some unreached.OtherCluster

-- why a reply doesn't count after one with that header
abbrev pub trouble_in : Option Header → Data → Option Unreached
trouble_in seen reply = option_and_then (trouble_of seen) (header_of reply)
