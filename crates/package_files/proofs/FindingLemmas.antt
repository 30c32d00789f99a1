-- Findings that are added package by package.
use Rattle.std.proofs.Common.{◌≡◌, ℕ, ◌+◌, ◌<◌, List, [], ◌∷◌, ◌++◌, flat_map, get_or, length, map, take, Option, refl, sym, ap, ◌∙◌, subst}
use Rattle.std.proofs.lemmas.Grind.{flat_map-append}
use Rattle.std.proofs.lemmas.List.{append-nil, append_assoc, map_more, take_more}
use Rattle.http_desks.specs.Downloads.{Reads}
use Rattle.http_devices.specs.Opening.{Opens}
use Rattle.values.specs.declared.declared.Declared.{Declared}
use Rattle.package_files.specs.Findings.{Adds, AreFindings, IsFound, Package, finding_of}
use Rattle.package_files.specs.declared.finding.Finding.{Finding}
use Rattle.package_files.specs.declared.finding.Mismatch.{Mismatch}

pub AreFindings-append :
    (opens : List ℕ → Opens) (reads : List ℕ → Reads) (packages others : List Package) (first second : List Finding) →
    AreFindings opens reads packages first → AreFindings opens reads others second →
    AreFindings opens reads (packages ++ others) (first ++ second)
AreFindings-append opens reads [] others first second none found =
    subst (AreFindings opens reads others) (sym (ap (λ (fs : List Finding). fs ++ second) none)) found
AreFindings-append opens reads (named ∷ rest) others first second (differs, later, is, listed, more) found = (
  differs,
  later ++ second,
  is,
  ap (λ (fs : List Finding). fs ++ second) listed ∙ append_assoc (finding_of named.0 differs) later second,
  AreFindings-append opens reads rest others later second more found,
)

-- what is found of one package
pub Adds-one :
    (opens : List ℕ → Opens) (reads : List ℕ → Reads) (name : List ℕ) (declared : Declared) (differs : Option Mismatch) (old new : List Finding) →
    IsFound (opens name) (reads name) declared differs → new ≡ old ++ finding_of name differs →
    Adds opens reads ((name, declared) ∷ []) old new
Adds-one opens reads name declared differs old new is added = (
  finding_of name differs ++ [],
  added ∙ ap (λ (fs : List Finding). old ++ fs) (sym (append-nil (finding_of name differs))),
  (differs, [], is, refl, refl),
)

-- what is found of some packages, then of those after them
pub Adds-next :
    (opens : List ℕ → Opens) (reads : List ℕ → Reads) (before part after : List Package) (old mid new : List Finding) →
    after ≡ before ++ part → Adds opens reads before old mid → Adds opens reads part mid new →
    Adds opens reads after old new
Adds-next opens reads before part after old mid new is (first, added, found) (second, more, later) = (
  first ++ second,
  more ∙ ap (λ (fs : List Finding). fs ++ second) added ∙ append_assoc old first second,
  subst (λ (ps : List Package). AreFindings opens reads ps (first ++ second)) (sym is)
      (AreFindings-append opens reads before part first second found later),
)

-- one more of the items that declare a package each
pub Adds-item :
    {X : Type 0} (package_of : X → Package) (opens : List ℕ → Opens) (reads : List ℕ → Reads) (items : List X) (index : ℕ) (item : X) (name : List ℕ) (old mid new : List Finding) →
    index < length items → item ≡ get_or items index item → name ≡ (package_of item).0 →
    Adds opens reads (map package_of (take index items)) old mid →
    Adds opens reads ((name, (package_of item).1) ∷ []) mid new →
    Adds opens reads (map package_of (take (index + 1) items)) old new
Adds-item {X} package_of opens reads items index item name old mid new within here named =
    let before = map package_of (take index items) in
    Adds-next opens reads before ((name, (package_of item).1) ∷ []) (map package_of (take (index + 1) items)) old mid new
    (map_more package_of items index item within
    ∙ ap (λ (there : X). before ++ package_of there ∷ []) (sym here)
    ∙ ap (λ (bytes : List ℕ). before ++ (bytes, (package_of item).1) ∷ []) (sym named))

-- one more of the items that have some packages each
pub Adds-part :
    {X : Type 0} (part : X → List Package) (opens : List ℕ → Opens) (reads : List ℕ → Reads) (items : List X) (index : ℕ) (item : X) (old mid new : List Finding) →
    index < length items → item ≡ get_or items index item →
    Adds opens reads (flat_map part (take index items)) old mid →
    Adds opens reads (part item) mid new →
    Adds opens reads (flat_map part (take (index + 1) items)) old new
Adds-part {X} part opens reads items index item old mid new within here =
    let before = flat_map part (take index items) in
    let there = get_or items index item in
    Adds-next opens reads before (part item) (flat_map part (take (index + 1) items)) old mid new
    (ap (flat_map part) (take_more items index item within)
    ∙ flat_map-append part (take index items) (there ∷ [])
    ∙ ap (λ (end : List Package). before ++ end) (append-nil (part there))
    ∙ ap (λ (other : X). before ++ part other) (sym here))
