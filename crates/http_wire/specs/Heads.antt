-- What is at the front of a connection's bytes: a head by the grammar of `httparse` (RFC 9112,
-- sections 2 to 5), of at most 16384 bytes.
use Rattle.std.specs.Prelude.{◌≡◌, ◌<◌, ◌≤◌, ℕ, List, length, take, All, Option, Result, Ok, Err}
use Rattle.std.specs.Io.KnownBytes.{IsAtEnd}
use Rattle.httparse.specs.Grammar.{HasNoRequest, MayBecomeRequest, NeverHasRequest}
use Rattle.httparse.specs.Spans.{IsWithin, IsHeaderWithin, IsRequestOf}
use Rattle.httparse.specs.declared.spans.RequestSpans.{RequestSpans}
use Rattle.httparse.specs.declared.spans.HeaderSpan.{HeaderSpan}
use Rattle.values.specs.declared.failed.Failed.{Failed}
use Rattle.http_wire.specs.declared.head.Head.{Head}
use Rattle.http_wire.specs.declared.head.Head.TheVariants as head

-- less than a head, and more bytes can make it one
pub record IsPartOfHead (bytes : List ℕ) : Type 0 where
  pub short : length bytes < 16384
  pub none : HasNoRequest bytes
  pub unfinished : MayBecomeRequest bytes

-- as many bytes as a head may have, and no whole head
pub record IsLongHead (bytes : List ℕ) : Type 0 where
  pub full : length bytes ≡ 16384
  pub none : HasNoRequest bytes
  pub unfinished : MayBecomeRequest bytes

-- each part of the head lies in the bytes
pub record IsWholeWithin (bytes : List ℕ) (fields : List HeaderSpan) (spans : RequestSpans) : Type 0 where
  pub method : IsWithin (length bytes) spans.method
  pub target : IsWithin (length bytes) spans.path
  pub minor : spans.version ≤ 1
  pub short : spans.len ≤ length bytes
  pub count : spans.headers ≤ length fields
  pub places : All (IsHeaderWithin (length bytes)) (take spans.headers fields)

-- rule: Head of a request
-- what the bytes begin with; the end of the input, or a failure, finds a part of a head
abbrev pub HeadFound : Option (List ℕ) → List ℕ → List HeaderSpan → Result Head Failed → Type 0
HeadFound left bytes fields (Ok (head.Whole spans)) =
    IsRequestOf bytes fields spans × IsWholeWithin bytes fields spans
HeadFound left bytes fields (Ok head.Ended) = IsPartOfHead bytes × IsAtEnd left
HeadFound left bytes fields (Ok head.Bad) = NeverHasRequest bytes
HeadFound left bytes fields (Ok head.Long) = IsLongHead bytes
HeadFound left bytes fields (Err failed) = IsPartOfHead bytes
