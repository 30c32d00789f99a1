-- The compact form of a plain value, one with no float, reads back as the value.
use Rattle.std.proofs.Common.{◌≡◌, ℕ, ◌<◌, ◌≤◌, ◌^◌, List, [], ◌∷◌, ◌++◌, Bool, true, false, IsUtf8, Option, Some, option_map, option_and_then, decimal, refl, sym, ap, ◌∙◌, arith, append-nil}
use Rattle.std.specs.Prelude.{⊤}
use Rattle.std.proofs.lemmas.Str.{IsUtf8-append, IsUtf8-from_ascii}
use Rattle.std.proofs.lemmas.Fmt.{IsAscii-decimal}
use Rattle.json.specs.Token.{Token}
use Rattle.json.specs.Lex.{tokens, lex}
use Rattle.json.specs.Print.{quoted, token_text}
use Rattle.json.specs.Json as json
use Rattle.json.specs.Tree as tree
use Rattle.json.proofs.Printed.Decimals.{IsNumber-decimal}
use Rattle.json.proofs.Printed.Tokens.{tokens-print}
use Rattle.json.proofs.Printed.Trees.{value-json_tokens, ArePrintable-json_tokens}
use Rattle.json.proofs.Printed.Utf8.{IsUtf8-are_ascii, IsUtf8-quoted, IsUtf8-boolean}
use Rattle.serde_json.specs.Data.{Num, unsigned, negative, float, Data, null, boolean, number, string, array, object, Items, no_items, item, Members, no_members, member, put, depth, items_depth, members_depth}
use Rattle.serde_json.specs.Read.{of_json, of_items, of_members, max_depth, read}
use Rattle.serde_json.specs.Written.{outline, items_outline, members_outline, comma_if, compact_text, items_text, members_text}
use Rattle.serde_json.proofs.Numbers.{number_of-decimal}
use Rattle.serde_json.proofs.Texts.{print-outline}
use Rattle.omaha_json.specs.RequestReading.{json_of}
use Rattle.omaha_json.proofs.ClientReplyLemmas.{json_of-read}

-- the members, put into an object one after another
abbrev pub rebuilt : Members → Members → Members
rebuilt no_members found = found
rebuilt (member name value members) found = rebuilt members (put name value found)

-- a whole number below 2^64
abbrev pub IsPlainNumber : Num → Type 0
IsPlainNumber (unsigned n) = n < 2 ^ 64
IsPlainNumber (negative z) = ⊥
IsPlainNumber (float x) = ⊥

-- numbers are whole, strings are UTF-8, members are in order, each name once
abbrev mutual
  pub IsPlain : Data → Type 0
  IsPlain null = ⊤
  IsPlain (boolean b) = ⊤
  IsPlain (number n) = IsPlainNumber n
  IsPlain (string s) = IsUtf8 s
  IsPlain (array items) = ItemsArePlain items
  IsPlain (object members) = MembersArePlain members × (rebuilt members no_members ≡ members)

  pub ItemsArePlain : Items → Type 0
  ItemsArePlain no_items = ⊤
  ItemsArePlain (item value items) = IsPlain value × ItemsArePlain items

  pub MembersArePlain : Members → Type 0
  MembersArePlain no_members = ⊤
  MembersArePlain (member name value members) = IsUtf8 name × IsPlain value × MembersArePlain members

mutual
  value_back : (value : Data) → IsPlain value → of_json (outline value) ≡ Some value
  value_back null h = refl
  value_back (boolean b) h = refl
  value_back (number (unsigned n)) h = ap (option_map number) (number_of-decimal n h)
  value_back (number (negative z)) h = absurd h
  value_back (number (float x)) h = absurd h
  value_back (string s) h = refl
  value_back (array items) h = ap (option_map array) (items_back items h)
  value_back (object members) h =
      ap (option_map object) (members_back members no_members h.0 ∙ ap Some h.1)

  items_back : (items : Items) → ItemsArePlain items → of_items (items_outline items) ≡ Some items
  items_back no_items h = refl
  items_back (item value items) h = rw (value_back value h.0, items_back items h.1) refl

  members_back : (members found : Members) → MembersArePlain members
      → of_members (members_outline members) found ≡ Some (rebuilt members found)
  members_back no_members found h = refl
  members_back (member name value members) found h =
      rw (value_back value h.1) (members_back members (put name value found) h.2)

mutual
  numbers_in : (value : Data) → IsPlain value → tree.HasNumbers (outline value)
  numbers_in null h = tt
  numbers_in (boolean b) h = tt
  numbers_in (number (unsigned n)) h = IsNumber-decimal n h
  numbers_in (number (negative z)) h = absurd h
  numbers_in (number (float x)) h = absurd h
  numbers_in (string s) h = tt
  numbers_in (array items) h = numbers_in_items items h
  numbers_in (object members) h = numbers_in_members members h.0

  numbers_in_items : (items : Items) → ItemsArePlain items
      → tree.ItemsHaveNumbers (items_outline items)
  numbers_in_items no_items h = tt
  numbers_in_items (item value items) h = (numbers_in value h.0, numbers_in_items items h.1)

  numbers_in_members : (members : Members) → MembersArePlain members
      → tree.MembersHaveNumbers (members_outline members)
  numbers_in_members no_members h = tt
  numbers_in_members (member name value members) h =
      (numbers_in value h.1, numbers_in_members members h.2)

mutual
  depth_kept : (value : Data) → tree.depth (outline value) ≡ depth value
  depth_kept null = refl
  depth_kept (boolean b) = refl
  depth_kept (number n) = refl
  depth_kept (string s) = refl
  depth_kept (array items) = rw (items_depth_kept items) refl
  depth_kept (object members) = rw (members_depth_kept members) refl

  items_depth_kept : (items : Items) → tree.items_depth (items_outline items) ≡ items_depth items
  items_depth_kept no_items = refl
  items_depth_kept (item value items) = rw (depth_kept value, items_depth_kept items) refl

  members_depth_kept : (members : Members)
      → tree.members_depth (members_outline members) ≡ members_depth members
  members_depth_kept no_members = refl
  members_depth_kept (member name value members) =
      rw (depth_kept value, members_depth_kept members) refl

abbrev whole : Option (json.Json × List Token) → Option Data
whole found = option_and_then of_json (option_and_then (λ p. json.if_last p.0 p.1) found)

-- the compact form reads as the value
read_back : (value : Data) → IsPlain value → depth value ≤ max_depth
    → read (compact_text value) ≡ Some value
read_back value plain shallow =
    let tree_of = outline value in
    let printed : tokens (compact_text value) ≡ tree.json_tokens tree_of =
    ap tokens (sym (print-outline value))
    ∙ tokens-print (tree.json_tokens tree_of) (ArePrintable-json_tokens tree_of (numbers_in value plain)) in
    ap whole (ap (json.value max_depth) (printed ∙ sym (append-nil _))
    ∙ value-json_tokens tree_of max_depth [] (omega (arith, depth_kept value)))
    ∙ value_back value plain

bracket : (byte : ℕ) (rest : List ℕ) → IsUtf8 (byte ∷ []) → IsUtf8 rest → IsUtf8 (byte ∷ rest)
bracket byte rest one h = IsUtf8-append (byte ∷ []) rest one h

comma_utf8 : (later : Bool) → IsUtf8 (comma_if later)
comma_utf8 true = IsUtf8-are_ascii (44 ∷ []) refl
comma_utf8 false = IsUtf8-are_ascii [] refl

mutual
  utf8_of : (value : Data) → IsPlain value → IsUtf8 (compact_text value)
  utf8_of null h = IsUtf8-are_ascii (token_text Token.null) refl
  utf8_of (boolean b) h = IsUtf8-boolean b
  utf8_of (number (unsigned n)) h = IsUtf8-from_ascii (decimal n) (IsAscii-decimal n h)
  utf8_of (number (negative z)) h = absurd h
  utf8_of (number (float x)) h = absurd h
  utf8_of (string s) h = IsUtf8-quoted s h
  utf8_of (array items) h =
      bracket 91 (items_text false items) (IsUtf8-are_ascii (91 ∷ []) refl) (items_utf8 false items h)
  utf8_of (object members) h =
      bracket 123 (members_text false members) (IsUtf8-are_ascii (123 ∷ []) refl) (members_utf8 false members h.0)

  items_utf8 : (later : Bool) (items : Items) → ItemsArePlain items → IsUtf8 (items_text later items)
  items_utf8 later no_items h = IsUtf8-are_ascii (93 ∷ []) refl
  items_utf8 later (item value items) h =
      IsUtf8-append (comma_if later) (compact_text value ++ items_text true items) (comma_utf8 later)
      (IsUtf8-append (compact_text value) (items_text true items) (utf8_of value h.0) (items_utf8 true items h.1))

  members_utf8 : (later : Bool) (members : Members) → MembersArePlain members
      → IsUtf8 (members_text later members)
  members_utf8 later no_members h = IsUtf8-are_ascii (125 ∷ []) refl
  members_utf8 later (member name value members) h =
      let rest = compact_text value ++ members_text true members in
      IsUtf8-append (comma_if later) (quoted name ++ 58 ∷ rest) (comma_utf8 later)
      (IsUtf8-append (quoted name) (58 ∷ rest) (IsUtf8-quoted name h.0)
      (bracket 58 rest (IsUtf8-are_ascii (58 ∷ []) refl)
      (IsUtf8-append (compact_text value) (members_text true members) (utf8_of value h.1) (members_utf8 true members h.2))))

-- the compact form of a plain value is that JSON
pub json_of-compact : (value : Data) → IsPlain value → depth value ≤ max_depth
    → json_of (10 ∷ compact_text value) ≡ Some value
unfolding lex
json_of-compact value plain shallow =
    let same : read (10 ∷ compact_text value) ≡ read (compact_text value) = refl in
    json_of-read (10 ∷ compact_text value) value
    (bracket 10 (compact_text value) (IsUtf8-are_ascii (10 ∷ []) refl) (utf8_of value plain))
    (same ∙ read_back value plain shallow)
