-- Records lead to one thing at most.
use Rattle.std.proofs.Common.{◌≡◌, ◌∙◌, ℕ, List, [], ◌∷◌, ◌++◌, Some, Result, Ok, Err, ap, ap₂, subst, sym}
use Rattle.std.specs.Str.Parse.{digits_value}
use Rattle.std.proofs.lemmas.Option.{same_Some}
use Rattle.catalogue.specs.declared.edit.Edit.{Edit}
use Rattle.catalogue.specs.Histories.{History}
use Rattle.kept_records.specs.declared.record.Kind.{Kind}
use Rattle.kept_records.specs.declared.record.Kind.TheVariants as kind
use Rattle.kept_records.specs.declared.record.Record.{Record}
use Rattle.mirror_ledger.specs.Raising.{index_of, raise_at}
use Rattle.profile_toml.specs.declared.fault.ProfileFault.{ProfileFault}
use Rattle.catalogue.specs.declared.mirror.Mirror.{Mirror}
use Rattle.omaha_histories.specs.Laws.{RecordsLeadToOne}
use Rattle.omaha_histories.specs.Restarting.{BeginsAs, FollowAll, FollowsAs, Found}

same-found : (one other : Found) → one.history ≡ other.history → one.mirrors ≡ other.mirrors → one ≡ other
same-found one other history mirrors =
    ap₂ (λ (h : History) (m : List Mirror). record { history = h; mirrors = m }) history mirrors

-- what was read
abbrev batch-in : Result (List Edit × List Mirror) ProfileFault → List Edit
batch-in (Ok profile) = profile.0
batch-in (Err error) = []

abbrev mirrors-in : Result (List Edit × List Mirror) ProfileFault → List Mirror
mirrors-in (Ok profile) = profile.1
mirrors-in (Err error) = []

abbrev batch-of : Result (ℕ × List Edit) ProfileFault → List Edit
batch-of (Ok script) = script.1
batch-of (Err error) = []

begins-one : (k : Kind) (bytes : List ℕ) (one other : Found) → BeginsAs k bytes one → BeginsAs k bytes other → other ≡ one
begins-one kind.Profile bytes one other (first, read, made) (second, again, remade) =
    let batches : second ≡ first = ap batch-in (sym again ∙ read) in
    let mirrors : other.mirrors ≡ one.mirrors = ap mirrors-in (sym again ∙ read) in
    same-found other one (remade.2 ∙ ap (λ (b : List Edit). [] ++ b ∷ []) batches ∙ sym made.2) mirrors
begins-one kind.Script bytes one other never none = absurd never
begins-one kind.Raise bytes one other never none = absurd never

follows-one : (k : Kind) (bytes : List ℕ) (before one other : Found) → FollowsAs k bytes before one →
    FollowsAs k bytes before other → other ≡ one
follows-one kind.Profile bytes before one other never none = absurd never
follows-one kind.Script bytes before one other (base, batch, read, made, kept) (rebase, rebatch, again, remade, rekept) =
    let batches : rebatch ≡ batch = ap batch-of (sym again ∙ read) in
    same-found other one (remade.2 ∙ ap (λ (b : List Edit). before.history ++ b ∷ []) batches ∙ sym made.2) (rekept ∙ sym kept)
follows-one kind.Raise bytes before one other (asked, read, raised, kept) (reasked, again, reraised, rekept) =
    let (index, at, few, low, is) = raised in
    let (reindex, reat, refew, relow, reis) = reraised in
    let words : reasked ≡ asked = same_Some reasked asked (sym again ∙ read) in
    let places : Some reindex ≡ Some index =
    sym (subst (λ (w : List ℕ × List ℕ). index_of before.mirrors w.0 ≡ Some reindex) words reat) ∙ at in
    let place : reindex ≡ index = same_Some reindex index places in
    same-found other one (rekept ∙ sym kept)
    (reis ∙ ap₂ (λ (i : ℕ) (w : List ℕ × List ℕ). raise_at before.mirrors i (digits_value 10 w.1)) place words ∙ sym is)

all-one : (start : Found) (records : List Record) (one other : Found) → FollowAll start records one →
    FollowAll start records other → other ≡ one
all-one start [] one other same again = again ∙ sym same
all-one start (entry ∷ records) one other (between, follows, rest) (again, refollows, more) =
    let same = follows-one entry.kind entry.bytes start between again follows refollows in
    all-one between records one other rest (subst (λ (f : Found). FollowAll f records other) same more)

pub records_lead_to_one : RecordsLeadToOne
records_lead_to_one [] one other never none = absurd never
records_lead_to_one (first ∷ records) one other (start, begins, rest) (again, rebegins, more) =
    let same = begins-one first.kind first.bytes start again begins rebegins in
    all-one start records one other rest (subst (λ (f : Found). FollowAll f records other) same more)
