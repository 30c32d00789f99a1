-- Records that aren't kept; this project's profile.
use Rattle.std.specs.Prelude.{List, map}
use Rattle.kept_records.specs.Keeping.{record_of}
use Rattle.kept_records.specs.declared.record.Record.{Record}
use Rattle.kept_records.specs.declared.unkept.Note.{Note}

-- the records that were appended, in order
abbrev pub noted : List Note → List Record
noted notes = map (λ (note : Note). record_of note.kind note.bytes) notes
