-- The tables of a cache, when one is found or kept.
use Rattle.std.proofs.Common.{◌≡◌, ◌⊎◌, inl, inr, Bool, List, Option, None, Some, IfSome, get_or, length, map, sym, ap, ◌∙◌, subst, arith}
use Rattle.std.specs.List.{All, Contains}
use Rattle.std.specs.Map.{lookup}
use Rattle.lru.proofs.CallerLemmas.{Contains-lookup, Contains-promoted, Contains-put_entries}
use Rattle.lru.specs.LruCache.{LruCache, lru_cache, promoted, put_entries}
use Rattle.std.proofs.lemmas.List.{get_or-map, length-map}
use Rattle.std.proofs.lemmas.List.Elements.{All-contains, All-map, All-weaker, Contains-get_or}
use Rattle.catalogue.specs.declared.content.App.{App}
use Rattle.payload_graph.specs.declared.payload.TrackKey.{TrackKey}
use Rattle.payload_graph.specs.Net.{net_among}
use Rattle.price_cert.specs.Tables.{Certificate}
use Rattle.par_tables.proofs.PlaceLemmas.{net_among-key}
use Rattle.par_tables.specs.Caches.{tables_among, AreOwnTables}
use Rattle.par_tables.specs.Marks.{IsTableOf}

abbrev Entry : Type 0
Entry = TrackKey × Certificate

-- the table of an entry is among the tables
pub Contains-table : (entries : List Entry) (entry : Entry) → Contains entries entry → Contains (tables_among entries) entry.1
Contains-table entries entry there =
    let within = there.1 in
    let sized = length-map entries (λ (e : Entry). e.1) in (
      there.0,
      omega arith,
      get_or-map (λ (e : Entry). e.1) entries there.0 entry entry.1 within ∙ ap (λ (e : Entry). e.1) there.2,
    )

-- what is known of each entry's table is known of each table
pub All-tables :
    (P : Certificate → Type 0) (entries : List Entry) →
    ((entry : Entry) → Contains entries entry → P entry.1) → All P (tables_among entries)
All-tables P entries each =
    All-map P (λ (e : Entry). e.1) entries
    (λ index d within. each (get_or entries index d) (Contains-get_or entries index d within))

-- entries that were there have tables that were there
pub All-fewer :
    (old new : List Entry) → ((entry : Entry) → Contains new entry → Contains old entry) →
    All (Contains (tables_among old)) (tables_among new)
All-fewer old new fewer =
    All-tables (Contains (tables_among old)) new (λ entry inside. Contains-table old entry (fewer entry inside))

-- so have others but for one table
pub All-with :
    (old new : List Entry) (table : Certificate) →
    ((entry : Entry) → Contains new entry → Contains old entry ⊎ (entry.1 ≡ table)) →
    All (λ (kept : Certificate). Contains (tables_among old) kept ⊎ (kept ≡ table)) (tables_among new)
All-with old new table more =
    All-tables (λ (kept : Certificate). Contains (tables_among old) kept ⊎ (kept ≡ table)) new
    (λ entry inside. elim (more entry inside) [
      | inl there ↦ inl (Contains-table old entry there)
      | inr same ↦ inr same
    ])

module _ (test : TrackKey → Bool) (old new : LruCache TrackKey Certificate)
    (is : new ≡ lru_cache (promoted test old.entries) old.cap) where
  -- the entries of which one was used were there
  pub All-promoted : All (Contains (tables_among old.entries)) (tables_among new.entries)
  All-promoted =
      subst (λ (cache : LruCache TrackKey Certificate). All (Contains (tables_among old.entries)) (tables_among cache.entries))
      (sym is)
      (All-fewer old.entries (promoted test old.entries) (Contains-promoted test old.entries))

  -- and so was a table that is found among them
  pub Contains-found : (table : Certificate) → lookup test new.entries ≡ Some table → Contains (tables_among old.entries) table
  Contains-found table found =
      let there = Contains-lookup test new.entries table found in
      Contains-table old.entries (there.0, table)
      (Contains-promoted test old.entries (there.0, table)
      (subst (λ (cache : LruCache TrackKey Certificate). Contains cache.entries (there.0, table)) is there.1))

-- so is its copy, which has its key
pub IfSome-copied :
    (tables : List Certificate) (key : TrackKey) (table : Certificate) (found : Option Certificate) →
    IfSome found (λ copied. copied ≡ table) → IfSome found (λ _. table.net.key ≡ key) → Contains tables table →
    IfSome found (λ copied. Contains tables copied × (copied.net.key ≡ key))
IfSome-copied tables key table None same own there = tt
IfSome-copied tables key table (Some copied) same own there =
    (subst (Contains tables) (sym same) there, ap (λ (t : Certificate). t.net.key) same ∙ own)

-- the entries after one was put in were there, or have its table
pub All-put :
    (test : TrackKey → Bool) (old new : LruCache TrackKey Certificate) (key : TrackKey) (table : Certificate) →
    new ≡ lru_cache (put_entries (λ _. test) old key table) old.cap →
    All (λ (kept : Certificate). Contains (tables_among old.entries) kept ⊎ (kept ≡ table)) (tables_among new.entries)
All-put test old new key table is =
    subst (λ (cache : LruCache TrackKey Certificate).
    All (λ (kept : Certificate). Contains (tables_among old.entries) kept ⊎ (kept ≡ table)) (tables_among cache.entries))
    (sym is)
    (All-with old.entries (put_entries (λ _. test) old key table) table
    (λ entry inside. elim (Contains-put_entries (λ _. test) old key table entry inside) [
      | inl there ↦ inl there
      | inr put ↦ inr put.0
    ]))

module _ (apps : List App) where
  abbrev IsOwn : Certificate → Type 0
  IsOwn table = IsTableOf apps table.net.key table

  -- tables that were there are tables of their tracks
  pub AreOwnTables-fewer : (old new : List Certificate) → All (Contains old) new → AreOwnTables apps old → AreOwnTables apps new
  AreOwnTables-fewer old new kept own =
      All-weaker (Contains old) IsOwn (λ table inside. All-contains IsOwn old table own inside) new kept

  -- so are those with one more
  pub AreOwnTables-with :
      (old new : List Certificate) (table : Certificate) →
      All (λ (kept : Certificate). Contains old kept ⊎ (kept ≡ table)) new →
      AreOwnTables apps old → IsOwn table → AreOwnTables apps new
  AreOwnTables-with old new table kept own is =
      All-weaker (λ (t : Certificate). Contains old t ⊎ (t ≡ table)) IsOwn
      (λ t inside. elim inside [
        | inl there ↦ All-contains IsOwn old t own there
        | inr same ↦ subst IsOwn (sym same) is
      ])
      new kept

  -- a table that is found by its key is that of the key's track
  pub IsTableOf-found :
      (tables : List Certificate) (key : TrackKey) (table : Certificate) →
      AreOwnTables apps tables → Contains tables table → table.net.key ≡ key → IsTableOf apps key table
  IsTableOf-found tables key table own inside same =
      subst (λ (k : TrackKey). IsTableOf apps k table) same (All-contains IsOwn tables table own inside)

  -- the table of a key's track is that of its own key's
  pub IsTableOf-own : (key : TrackKey) (table : Certificate) → IsTableOf apps key table → IsOwn table
  IsTableOf-own key table is = record {
    own = ap (net_among apps) (net_among-key apps key table.net is.own) ∙ is.own;
    is = is.is;
  }
