-- The form of a mirror; this project's profile.
use Rattle.std.specs.Prelude.{ℕ, ◌==◌, ◌&&◌, ◌||◌, ◌^◌, not, nat_le, nat_eq, codes, Bool, List}
use Rattle.std.specs.Char.{is_ascii_graphic}
use Rattle.std.specs.List.{list_all, starts_with, ends_with}
use Rattle.catalogue.specs.Forms.{has_length, is_cohort_name}
use Rattle.catalogue.specs.declared.mirror.Mirror.{Mirror}

-- a byte of a codebase: visible ASCII but for `"`, `#`, `?` and `\`
abbrev pub is_codebase_byte : ℕ → Bool
is_codebase_byte byte = is_ascii_graphic byte && not (byte == 34 || byte == 35 || byte == 63 || byte == 92)

-- a codebase: 9 to 256 such bytes that begin `http://` and end `/`
abbrev pub is_codebase : List ℕ → Bool
is_codebase text =
    has_length 9 256 text
    && list_all is_codebase_byte text
    && starts_with nat_eq text (codes "http://")
    && ends_with nat_eq text (codes "/")

-- a mirror's budget at most, in bytes
abbrev pub max_budget : ℕ
max_budget = 2 ^ 60

-- rule: Mirror
-- a mirror: its name is a valid cohort name
abbrev pub is_mirror : Mirror → Bool
is_mirror mirror =
    is_cohort_name mirror.name && is_codebase mirror.codebase && nat_le mirror.budget max_budget
