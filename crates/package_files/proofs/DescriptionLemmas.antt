-- What was measured of a file, under the name that a caller gave.
use Rattle.std.proofs.Common.{◌≡◌, ℕ, List, Option, Some, true, inl, subst}
use Rattle.std.specs.Prelude.{Err}
use Rattle.http_desks.specs.Downloads.{Reads}
use Rattle.http_devices.specs.Opening.{Opens}
use Rattle.catalogue.specs.Forms.{is_package_name}
use Rattle.package_files.specs.Descriptions.{Describes, IsMeasured, IsSized, IsUnopened}
use Rattle.package_files.specs.Hashing.{IsHashed}
use Rattle.package_files.specs.declared.describing.DescribeError.{DescribeError}
use Rattle.package_files.specs.declared.describing.DescribeError.TheVariants as error

pub IsMeasured-named :
    (opens : List ℕ → Opens) (reads : List ℕ → Reads) (bytes name : List ℕ) (size : ℕ) (hash found : Option (List ℕ)) →
    bytes ≡ name → hash ≡ found →
    IsSized (opens bytes) size → IsHashed (reads bytes) size hash →
    IsMeasured (opens name) (reads name) size found
IsMeasured-named opens reads bytes name size hash found same is sized hashed = (
  subst (λ (given : List ℕ). IsSized (opens given) size) same sized,
  subst (λ (digest : Option (List ℕ)). IsHashed (reads name) size digest) is
      (subst (λ (given : List ℕ). IsHashed (reads given) size hash) same hashed),
)

-- a file that can't be opened isn't described, for the same reason
Describes-so :
    (opens : Opens) (reads : Reads) (name : List ℕ) (refusal : DescribeError) →
    is_package_name name ≡ true → IsUnopened opens refusal → Describes opens reads name (Err refusal)
Describes-so opens reads name error.Name is unopened = absurd unopened
Describes-so opens reads name error.Missing is unopened = (is, unopened)
Describes-so opens reads name error.NotRegular is unopened = (is, unopened)
Describes-so opens reads name (error.Size size) is unopened = (is, unopened)
Describes-so opens reads name error.Unreadable is unopened = (is, inl unopened)
Describes-so opens reads name error.Memory is unopened = tt

pub Describes-unopened :
    (opens : List ℕ → Opens) (reads : List ℕ → Reads) (bytes name : List ℕ) (refusal : DescribeError) →
    bytes ≡ name → is_package_name name ≡ true → IsUnopened (opens bytes) refusal →
    Describes (opens name) (reads name) name (Err refusal)
Describes-unopened opens reads bytes name refusal same is unopened =
    Describes-so (opens name) (reads name) name refusal is
    (subst (λ (given : List ℕ). IsUnopened (opens given) refusal) same unopened)
