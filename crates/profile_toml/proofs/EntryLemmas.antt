-- The tables of a content are read as its entries.
use Rattle.std.proofs.Common.{◌≡◌, ℕ, Bool, true, false, List, codes, unwrap_or, Result, Ok, refl}
use Rattle.hex.specs.Hex.{encode_lower}
use Rattle.catalogue.specs.Contents.{spelling_of}
use Rattle.catalogue.specs.declared.content.Diff.{Diff}
use Rattle.catalogue.specs.declared.content.Release.{Release}
use Rattle.catalogue.specs.declared.mirror.Mirror.{Mirror}
use Rattle.toml.specs.Data.{Members, get_member}
use Rattle.profile_toml.specs.Fields.{known}
use Rattle.profile_toml.specs.Tables.{PlacedTable, table_at}
use Rattle.profile_toml.specs.declared.tables.path.BadEntry.{BadEntry}
use Rattle.profile_toml.specs.Diffs.{diff_in, diff_keys, diff_of}
use Rattle.profile_toml.specs.Documents.{newest}
use Rattle.profile_toml.specs.Mirrors.{mirror_keys, mirror_of}
use Rattle.profile_toml.specs.Releases.{package_in, release_keys, release_of}
use Rattle.profile_toml.proofs.KeyLemmas.{get_member-filled_table, known_among-filled_table}
use Rattle.profile_toml.proofs.ReaderLemmas.{given, optional-flag, optional-string, optional_strings-given, required-natural, required-string}
use Rattle.profile_toml.specs.WrittenFields.{diff_fields, diff_table, floor_given, mirror_fields, mirror_table, release_fields, release_table}
use Rattle.profile_toml.specs.WrittenTables.{Field, flag, natural, optional_list, optional_string, given_string}

-- what a table is read as
abbrev pub Read : {A : Type 0} → (PlacedTable → Result A BadEntry) → Type 0
Read {A} reads = A

pub unwrap_or-given : (on : Bool) → unwrap_or (given on) false ≡ on
unwrap_or-given true = refl
unwrap_or-given false = refl

-- a mirror
pub mirror_of-mirror_table : (place : List ℕ) (mirror : Mirror)
    → mirror_of (table_at place (mirror_table mirror)) ≡ Ok mirror
unfolding mirror_of
mirror_of-mirror_table place mirror = by_keys (mirror_table mirror) (known_among-filled_table mirror_keys place fields refl)
    (get_member-filled_table (codes "name") fields) (get_member-filled_table (codes "codebase") fields) (get_member-filled_table (codes "budget") fields)
  where
    fields : List Field
    fields = mirror_fields mirror

    by_keys : (members : Members) → known mirror_keys (table_at place members) ≡ Ok tt
        → get_member (codes "name") members ≡ given_string mirror.name
        → get_member (codes "codebase") members ≡ given_string mirror.codebase
        → get_member (codes "budget") members ≡ natural mirror.budget
        → mirror_of (table_at place members) ≡ Ok mirror
    by_keys members all_known name codebase budget =
        rw (
          all_known,
          required-string place (codes "name") members mirror.name name,
          required-string place (codes "codebase") members mirror.codebase codebase,
          required-natural place (codes "budget") members mirror.budget budget,
        ) refl

abbrev pub ReleaseEntry : Type 0
ReleaseEntry = Read (release_of newest)

abbrev pub entry_of_release : Release → ReleaseEntry
entry_of_release release =
    record {
      full = record {
        version = release.spelled;
        name = release.name;
        size = release.size;
        sha256 = encode_lower release.hash;
      };
      stone = release.stone;
      withdrawn = release.withdrawn;
      audience = release.audience;
      floor = floor_given release.floor;
    }

pub release_of-release_table : (place : List ℕ) (release : Release)
    → release_of newest (table_at place (release_table release)) ≡ Ok (entry_of_release release)
unfolding release_of package_in
release_of-release_table place release =
    by_keys (release_table release) (known_among-filled_table (release_keys newest) place fields refl)
    (get_member-filled_table (codes "version") fields) (get_member-filled_table (codes "name") fields)
    (get_member-filled_table (codes "size") fields) (get_member-filled_table (codes "sha256") fields)
    (get_member-filled_table (codes "stone") fields) (get_member-filled_table (codes "withdrawn") fields)
    (get_member-filled_table (codes "audience") fields) (get_member-filled_table (codes "floor") fields)
  where
    fields : List Field
    fields = release_fields release

    by_keys : (members : Members) → known (release_keys newest) (table_at place members) ≡ Ok tt
        → get_member (codes "version") members ≡ given_string release.spelled
        → get_member (codes "name") members ≡ given_string release.name
        → get_member (codes "size") members ≡ natural release.size
        → get_member (codes "sha256") members ≡ given_string (encode_lower release.hash)
        → get_member (codes "stone") members ≡ flag release.stone
        → get_member (codes "withdrawn") members ≡ flag release.withdrawn
        → get_member (codes "audience") members ≡ optional_list release.audience
        → get_member (codes "floor") members ≡ optional_string (floor_given release.floor)
        → release_of newest (table_at place members) ≡ Ok (entry_of_release release)
    by_keys members all_known version name size sha256 stone withdrawn audience floor =
        rw (
          all_known,
          required-string place (codes "version") members release.spelled version,
          required-string place (codes "name") members release.name name,
          required-natural place (codes "size") members release.size size,
          required-string place (codes "sha256") members (encode_lower release.hash) sha256,
          optional-flag place (codes "stone") members release.stone stone,
          optional-flag place (codes "withdrawn") members release.withdrawn withdrawn,
          optional_strings-given place (codes "audience") members release.audience audience,
          optional-string place (codes "floor") members (floor_given release.floor) floor,
          unwrap_or-given release.stone,
          unwrap_or-given release.withdrawn,
        ) refl

abbrev pub DiffEntry : Type 0
DiffEntry = Read diff_of

abbrev pub entry_of_diff : List Release → Diff → DiffEntry
entry_of_diff releases diff =
    record {
      from = spelling_of releases diff.from;
      to = spelling_of releases diff.to;
      name = diff.name;
      size = diff.size;
      sha256 = encode_lower diff.hash;
    }

pub diff_of-diff_table : (place : List ℕ) (releases : List Release) (diff : Diff)
    → diff_of (table_at place (diff_table releases diff)) ≡ Ok (entry_of_diff releases diff)
unfolding diff_of diff_in
diff_of-diff_table place releases diff =
    by_keys (diff_table releases diff) (known_among-filled_table diff_keys place fields refl)
    (get_member-filled_table (codes "from") fields) (get_member-filled_table (codes "to") fields)
    (get_member-filled_table (codes "name") fields) (get_member-filled_table (codes "size") fields)
    (get_member-filled_table (codes "sha256") fields)
  where
    fields : List Field
    fields = diff_fields releases diff

    by_keys : (members : Members) → known diff_keys (table_at place members) ≡ Ok tt
        → get_member (codes "from") members ≡ given_string (spelling_of releases diff.from)
        → get_member (codes "to") members ≡ given_string (spelling_of releases diff.to)
        → get_member (codes "name") members ≡ given_string diff.name
        → get_member (codes "size") members ≡ natural diff.size
        → get_member (codes "sha256") members ≡ given_string (encode_lower diff.hash)
        → diff_of (table_at place members) ≡ Ok (entry_of_diff releases diff)
    by_keys members all_known from to name size sha256 =
        rw (
          all_known,
          required-string place (codes "from") members (spelling_of releases diff.from) from,
          required-string place (codes "to") members (spelling_of releases diff.to) to,
          required-string place (codes "name") members diff.name name,
          required-natural place (codes "size") members diff.size size,
          required-string place (codes "sha256") members (encode_lower diff.hash) sha256,
        ) refl
