-- What is under a key of a table that was filled, which keys it has, and how deep it is.
use Rattle.std.proofs.Common.{◌≡◌, ℕ, ◌≤◌, max, Bool, true, false, cond, List, [], ◌∷◌, Option, Some, None, Ok, Ordering, Less, Equal, Greater, nat_cmp, is_eq, refl, sym, ap, ◌∙◌, arith}
use Rattle.std.proofs.lemmas.Bool.{and_parts}
use Rattle.std.proofs.lemmas.Cmp.{nat_list_cmp_total}
use Rattle.std.proofs.lemmas.Map.Text.{is_eq-slice_cmp}
use Rattle.std.proofs.lemmas.Slice.Eq.{bytes_eq-Decides}
use Rattle.std.specs.Cmp.{tied_itself}
use Rattle.std.specs.Cmp.Lexicographic.{slice_cmp}
use Rattle.std.specs.List.{AllByRecursion, list_all, list_any}
use Rattle.std.specs.Ordering.{match_ordering}
use Rattle.std.specs.Str.{bytes_eq}
use Rattle.toml.specs.Data.{Data, Members, member, no_members, get_member, same_key, depth, members_depth}
use Rattle.profile_toml.specs.Fields.{known_among}
use Rattle.profile_toml.specs.WrittenTables.{Field, put, filled_table, with_fields, with_key}

-- keys that compare as equal are equal
same_key-is : (key other : List ℕ) → same_key key other ≡ true → key ≡ other
same_key-is key other same =
    (bytes_eq-Decides key other).0 (sym (is_eq-slice_cmp key other) ∙ same)

-- the value under a key of a table by its first member
match_ordering-same : {A : Type 0} (o : Ordering) (other same : A)
    → match_ordering o other same other ≡ cond (is_eq o) same other
match_ordering-same Less other same = refl
match_ordering-same Equal other same = refl
match_ordering-same Greater other same = refl

get_member-member : (key other : List ℕ) (value : Data) (rest : Members)
    → get_member key (member other value rest) ≡ cond (same_key key other) (Some value) (get_member key rest)
get_member-member key other value rest =
    match_ordering-same (slice_cmp nat_cmp key other) (get_member key rest) (Some value)

twice : {A : Type 0} (b : Bool) (first second rest : A) → cond b first rest ≡ cond b first (cond b second rest)
twice true first second rest = refl
twice false first second rest = refl

-- of two tests that are not both true, either may come first
apart : {A : Type 0} (b c : Bool) (first second rest : A) → (b ≡ true → c ≡ true → ⊥)
    → cond b first (cond c second rest) ≡ cond c second (cond b first rest)
apart true true first second rest both = absurd (both refl refl)
apart true false first second rest both = refl
apart false c first second rest both = refl

-- what is put under a key is under it, and under no other key
get_member-put : (key other : List ℕ) (value : Data) (filled : Members)
    → get_member key (put other value filled) ≡ cond (same_key key other) (Some value) (get_member key filled)
get_member-put key other value no_members = get_member-member key other value no_members
get_member-put key other value (member first here rest) =
    cases (slice_cmp nat_cmp other first) refl (get_member-put key other value rest)
  where
    cases : (o : Ordering) → slice_cmp nat_cmp other first ≡ o
        → get_member key (put other value rest) ≡ cond (same_key key other) (Some value) (get_member key rest)
        → get_member key
        (match_ordering o (member other value (member first here rest)) (member first value rest)
        (member first here (put other value rest)))
        ≡ cond (same_key key other) (Some value) (get_member key (member first here rest))
    cases Less is later_on = get_member-member key other value (member first here rest)
    cases Equal is later_on =
        let same : other ≡ first = same_key-is other first (ap is_eq is) in
        let old = get_member-member key first here rest in
        get_member-member key first value rest
        ∙ twice (same_key key first) (Some value) (Some here) (get_member key rest)
        ∙ sym (ap (λ k. cond (same_key key k) (Some value) (get_member key (member first here rest))) same
        ∙ ap (λ found. cond (same_key key first) (Some value) found) old)
    cases Greater is later_on =
        get_member-member key first here (put other value rest)
        ∙ ap (λ found. cond (same_key key first) (Some here) found) later_on
        ∙ apart (same_key key first) (same_key key other) (Some here) (Some value) (get_member key rest)
        (λ is_first is_other.
        let same : other ≡ first = sym (same_key-is key other is_other) ∙ same_key-is key first is_first in
        let tied : slice_cmp nat_cmp first first ≡ Equal = tied_itself nat_list_cmp_total first in
        let compared : slice_cmp nat_cmp other first ≡ Equal = ap (λ k. slice_cmp nat_cmp k first) same ∙ tied in
        let wrong : Equal ≡ Greater = sym compared ∙ is in
        cc)
        ∙ ap (λ found. cond (same_key key other) (Some value) found) (sym (get_member-member key first here rest))

-- the value under a key after one more field, of the same key or of another
abbrev pub later : Bool → Option Data → Option Data → Option Data
later false before value = before
later true None value = value
later true (Some here) None = Some here
later true (Some here) (Some value) = Some value

later-None : (b : Bool) (before : Option Data) → before ≡ later b before None
later-None false before = refl
later-None true None = refl
later-None true (Some here) = refl

later-Some : (b : Bool) (before : Option Data) (value : Data) → cond b (Some value) before ≡ later b before (Some value)
later-Some false before value = refl
later-Some true None value = refl
later-Some true (Some here) value = refl

get_member-with_key : (key other : List ℕ) (value : Option Data) (filled : Members)
    → get_member key (with_key other value filled) ≡ later (same_key key other) (get_member key filled) value
get_member-with_key key other None filled = later-None (same_key key other) (get_member key filled)
get_member-with_key key other (Some value) filled =
    get_member-put key other value filled ∙ later-Some (same_key key other) (get_member key filled) value

-- the value under a key by the fields of a table
abbrev pub found : List ℕ → Option Data → List Field → Option Data
found key before [] = before
found key before (field ∷ fields) = found key (later (same_key key field.0) before field.1) fields

get_member-with_fields : (key : List ℕ) (filled : Members) (fields : List Field)
    → get_member key (with_fields filled fields) ≡ found key (get_member key filled) fields
get_member-with_fields key filled [] = refl
get_member-with_fields key filled (field ∷ fields) =
    get_member-with_fields key (with_key field.0 field.1 filled) fields
    ∙ ap (λ before. found key before fields) (get_member-with_key key field.0 field.1 filled)

pub get_member-filled_table : (key : List ℕ) (fields : List Field)
    → get_member key (filled_table fields) ≡ found key None fields
get_member-filled_table key fields = get_member-with_fields key no_members fields

-- a key that is known may be put
known_among-put : (keys : List (List ℕ)) (place key : List ℕ) (value : Data) (filled : Members)
    → list_any (bytes_eq key) keys ≡ true
    → known_among keys place (put key value filled) ≡ known_among keys place filled
known_among-put keys place key value no_members is = rw is refl
known_among-put keys place key value (member first here rest) is =
    cases (slice_cmp nat_cmp key first) (known_among-put keys place key value rest is)
  where
    cases : (o : Ordering) → known_among keys place (put key value rest) ≡ known_among keys place rest
        → known_among keys place
        (match_ordering o (member key value (member first here rest)) (member first value rest)
        (member first here (put key value rest)))
        ≡ known_among keys place (member first here rest)
    cases Less below = rw is refl
    cases Equal below = refl
    cases Greater below = rw below refl

known_among-with_key : (keys : List (List ℕ)) (place key : List ℕ) (value : Option Data) (filled : Members)
    → list_any (bytes_eq key) keys ≡ true
    → known_among keys place (with_key key value filled) ≡ known_among keys place filled
known_among-with_key keys place key None filled is = refl
known_among-with_key keys place key (Some value) filled is = known_among-put keys place key value filled is

known_among-with_fields : (keys : List (List ℕ)) (place : List ℕ) (filled : Members) (fields : List Field)
    → list_all (λ field. list_any (bytes_eq field.0) keys) fields ≡ true
    → known_among keys place (with_fields filled fields) ≡ known_among keys place filled
known_among-with_fields keys place filled [] known = refl
known_among-with_fields keys place filled (field ∷ fields) known =
    let (here, others) = and_parts (list_any (bytes_eq field.0) keys) (list_all (λ f. list_any (bytes_eq f.0) keys) fields) known in
    known_among-with_fields keys place (with_key field.0 field.1 filled) fields others
    ∙ known_among-with_key keys place field.0 field.1 filled here

-- a table of known keys has no other
pub known_among-filled_table : (keys : List (List ℕ)) (place : List ℕ) (fields : List Field)
    → list_all (λ field. list_any (bytes_eq field.0) keys) fields ≡ true
    → known_among keys place (filled_table fields) ≡ Ok tt
known_among-filled_table keys place fields known = known_among-with_fields keys place no_members fields known

-- a table is as deep as the deepest value that is put
members_depth-put : (key : List ℕ) (value : Data) (filled : Members)
    → members_depth (put key value filled) ≤ max (depth value) (members_depth filled)
members_depth-put key value no_members = omega arith
members_depth-put key value (member first here rest) =
    cases (slice_cmp nat_cmp key first) (members_depth-put key value rest)
  where
    cases : (o : Ordering) → members_depth (put key value rest) ≤ max (depth value) (members_depth rest)
        → members_depth
        (match_ordering o (member key value (member first here rest)) (member first value rest)
        (member first here (put key value rest)))
        ≤ max (depth value) (max (depth here) (members_depth rest))
    cases Less below = omega arith
    cases Equal below = omega arith
    cases Greater below = omega arith

-- how deep a value is, if there is one
abbrev pub value_depth : Option Data → ℕ
value_depth None = 0
value_depth (Some value) = depth value

members_depth-with_key : (bound : ℕ) (key : List ℕ) (value : Option Data) (filled : Members)
    → value_depth value ≤ bound → members_depth filled ≤ bound → members_depth (with_key key value filled) ≤ bound
members_depth-with_key bound key None filled shallow rest = rest
members_depth-with_key bound key (Some value) filled shallow rest =
    let deepest = members_depth-put key value filled in omega arith

members_depth-with_fields : (bound : ℕ) (filled : Members) (fields : List Field)
    → members_depth filled ≤ bound → AllByRecursion (λ field. value_depth field.1 ≤ bound) fields
    → members_depth (with_fields filled fields) ≤ bound
members_depth-with_fields bound filled [] rest shallow = rest
members_depth-with_fields bound filled (field ∷ fields) rest shallow =
    members_depth-with_fields bound (with_key field.0 field.1 filled) fields
    (members_depth-with_key bound field.0 field.1 filled shallow.0 rest) shallow.1

pub members_depth-filled_table : (bound : ℕ) (fields : List Field)
    → AllByRecursion (λ field. value_depth field.1 ≤ bound) fields → members_depth (filled_table fields) ≤ bound
members_depth-filled_table bound fields shallow = members_depth-with_fields bound no_members fields (omega arith) shallow
