-- What contracts see of a history in a file; this project's profile.
use Rattle.std.specs.Prelude.{ℕ, Bool, List, refl}
use Rattle.std.specs.Coded.{Coded, code_by, coded×, coded_bool, coded_list, coded_ℕ}
use Rattle.kept_records.specs.contracts.record.Record as kept_record
use Rattle.kept_records.specs.declared.record.Record.{Record}

-- the number of the first record, the records that are known, how many bytes all may have, and whether calls still reach the
-- disk
pub record FileLog : Type 0 where
  pub first : ℕ
  pub kept : List Record
  pub limit : ℕ
  pub is_live : Bool

abbrev pub file_log_code : Coded FileLog
file_log_code =
    code_by (ℕ × (List Record × (ℕ × Bool)))
    (coded× coded_ℕ (coded× (coded_list kept_record.the_row.coded) (coded× coded_ℕ coded_bool)))
    (λ log. (log.first, (log.kept, (log.limit, log.is_live))))
    (λ p. record { first = p.0; kept = p.1.0; limit = p.1.1.0; is_live = p.1.1.1 })
    (λ _. refl)
