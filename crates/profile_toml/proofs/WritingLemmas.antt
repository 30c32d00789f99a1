-- The tables that are filled, beside the map that holds them.
use Rattle.std.proofs.Common.{◌≡◌, ℕ, List, [], ◌∷◌, ◌++◌, String, Global, Ordering, Less, Equal, Greater, refl, ap, ◌∙◌, string_bytes}
use Rattle.std.specs.Ordering.{match_ordering}
use Rattle.std.specs.BTreeMap.{insert_entry}
use Rattle.std.specs.String.{string_cmp}
use Rattle.toml.specs.Data.{item, push_item, string, table, Members}
use Rattle.toml.specs.View.{view, members_view}
use Rattle.toml.specs.declared.value.Value.{Value}
use Rattle.toml.proofs.Views.{Entry}
use Rattle.profile_toml.specs.WrittenTables.{put, table_items, string_items}

members_view-match_ordering : (o : Ordering) (a b c : List Entry)
    → members_view (match_ordering o a b c) ≡ match_ordering o (members_view a) (members_view b) (members_view c)
members_view-match_ordering Less a b c = refl
members_view-match_ordering Equal a b c = refl
members_view-match_ordering Greater a b c = refl

-- an insert into the map of a table puts the value under the key
pub members_view-insert_entry : (es : List Entry) (k : String Global) (v : Value)
    → members_view (insert_entry string_cmp es k v) ≡ put (string_bytes k) (view v) (members_view es)
members_view-insert_entry [] k v = refl
members_view-insert_entry (e ∷ es) k v =
    members_view-match_ordering (string_cmp k e.0) _ _ _ ∙ rw (members_view-insert_entry es k v)

-- one more string, and one more table, at the end
pub string_items-last : (texts : List (List ℕ)) (text : List ℕ)
    → string_items (texts ++ text ∷ []) ≡ push_item (string_items texts) (string text)
string_items-last [] text = refl
string_items-last (first ∷ texts) text = ap (item (string first)) (string_items-last texts text)

pub table_items-last : (tables : List Members) (one : Members)
    → table_items (tables ++ one ∷ []) ≡ push_item (table_items tables) (table one)
table_items-last [] one = refl
table_items-last (first ∷ tables) one = ap (item (table first)) (table_items-last tables one)
