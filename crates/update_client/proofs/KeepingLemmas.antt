-- One more line, whole or not, and what a walk has printed at its end.
use Rattle.std.proofs.Common.{◌≡◌, ℕ, ◌+◌, List, [], ◌∷◌, ◌++◌, length, Option, Some, None, is_none, true, false, Result, Ok, Err, inl, inr, sym, subst, ap, ◌∙◌, arith, append_assoc, append-nil, length-append}
use Rattle.std.specs.Io.KnownBytes.{Appends}
use Rattle.std.proofs.KnownBytes.{Appends-nil, Appends-trans}
use Rattle.streams.specs.Streams.{Known}
use Rattle.values.specs.declared.read_error.ReadError.{ReadError}
use Rattle.values.specs.declared.read_error.ReadError.TheVariants as errors
use Rattle.update_client.specs.Installed.{Installed}
use Rattle.update_client.specs.Installing.{Rejects}
use Rattle.update_client.specs.Walks.{Post, Commit, IsLastOffer, Walks, failed_installers}
use Rattle.update_client.specs.declared.fault.Fault.{Fault}
use Rattle.update_client.specs.declared.fault.Fault.TheVariants as fault
use Rattle.update_client.specs.declared.installer.Step.{Step}
use Rattle.update_client.specs.declared.walking.Walk.{Walk}
use Rattle.update_client.specs.Keeping.{HasPrinted, PrintsNext}
use Rattle.update_client.specs.Lines.{lines_from, step_line}
use Rattle.update_client.specs.Walking.{AreCut, ArePrinted, IsCut, IsWalk, Prints}

-- the line of one more commit comes after the others
lines-more : (number : ℕ) (commits : List Commit) (commit : Commit) →
    lines_from number (commits ++ commit ∷ [])
    ≡ lines_from number commits ++ step_line (number + length commits) commit.0
lines-more number [] commit =
    let counted : number ≡ number + 0 = omega arith in
    append-nil (step_line number commit.0) ∙ ap (λ (n : ℕ). step_line n commit.0) counted
lines-more number (first ∷ commits) commit =
    let counted : (number + 1) + length commits ≡ number + length (first ∷ commits) = omega arith in
    ap (λ (lines : List ℕ). step_line number first.0 ++ lines)
    (lines-more (number + 1) commits commit
    ∙ ap (λ (n : ℕ). lines_from (number + 1) commits ++ step_line n commit.0) counted)
    ∙ sym (append_assoc (step_line number first.0) (lines_from (number + 1) commits)
    (step_line (number + length (first ∷ commits)) commit.0))

-- nothing is printed yet
pub HasPrinted-none : (printed : Option ℕ) (commits : List Commit) (rejected : List Step) (before : Known)
    → printed ≡ Some 0 → commits ≡ [] → rejected ≡ []
    → HasPrinted printed commits rejected before before
HasPrinted-none None commits rejected before begun empty none = absurd (cc begun)
HasPrinted-none (Some printed) commits rejected before begun empty none =
    let first : printed ≡ 0 = cc begun in
    let P : List Commit → Type 0 = λ made. ArePrinted made before before in
    (omega (arith, first, ap length empty), none, subst P (sym empty) (Appends-nil before.bytes))

-- the line of one more step is printed, and the step is committed
pub HasPrinted-more : (printed next : Option ℕ) (commits : List Commit) (commit : Commit)
    (rejected : List Step) (before between out : Known)
    → is_none next ≡ false
    → HasPrinted printed commits rejected before between
    → PrintsNext printed commit.0 between out next
    → HasPrinted next (commits ++ commit ∷ []) rejected before out
HasPrinted-more printed None commits commit rejected before between out whole has next = absurd (cc whole)
HasPrinted-more None (Some number) commits commit rejected before between out whole has next = absurd next
HasPrinted-more (Some printed) (Some number) commits commit rejected before between out whole (count, none, lines) (next, line) =
    let numbered : number ≡ 1 + length commits = omega (arith, next, count) in
    let all : lines_from 1 commits ++ step_line number commit.0 ≡ lines_from 1 (commits ++ commit ∷ []) =
    ap (λ (n : ℕ). lines_from 1 commits ++ step_line n commit.0) numbered ∙ sym (lines-more 1 commits commit) in (
      omega (arith, next, count, length-append commits (commit ∷ [])),
      none,
      subst (Appends before.bytes out.bytes) all
          (Appends-trans before.bytes between.bytes out.bytes (lines_from 1 commits) (step_line number commit.0) lines line),
    )

-- the line of one more step isn't printed whole, and the step is rejected
pub HasPrinted-cut : (printed next : Option ℕ) (step : Step) (commits : List Commit) (rejected : List Step)
    (before between out : Known)
    → is_none next ≡ true
    → HasPrinted printed commits rejected before between
    → PrintsNext printed step between out next
    → HasPrinted next commits (rejected ++ step ∷ []) before out
HasPrinted-cut printed (Some number) step commits rejected before between out cut has next = absurd (cc cut)
HasPrinted-cut (Some printed) None step commits rejected before between out cut (count, none, lines) part =
    let P : ℕ → Type 0 = λ n. IsCut (step_line (n + 1) step) between out in
    (step, [], ap (λ (steps : List Step). steps ++ step ∷ []) none, (between, lines, subst P count part))
HasPrinted-cut None None step commits rejected before between out cut (first, later, is, part) same =
    let P : Known → Type 0 = AreCut commits first before in
    (first, later ++ step ∷ [], ap (λ (steps : List Step). steps ++ step ∷ []) is, subst P (sym same) part)

-- no step was rejected, so the lines of all commits are printed
printed_whole : (client : Installed) (posts : List Post) (printed : Option ℕ) (commits : List Commit)
    (rejected : List Step) (before out : Known)
    → HasPrinted printed commits rejected before out
    → Rejects (IsLastOffer client posts) [] rejected 0
    → ArePrinted commits before out
printed_whole client posts (Some printed) commits rejected before out (count, none, lines) rejects = lines
printed_whole client posts None commits rejected before out (step, later, is, cut) (inl same) = absurd (cc (is, same))
printed_whole client posts None commits rejected before out has (inr (tried, few, last, more)) = absurd (omega arith)

-- a call failed: the commit of the step that was offered last, whose line isn't printed whole
printed_cut : (client : Installed) (posts : List Post) (printed : Option ℕ) (commits : List Commit)
    (rejected : List Step) (before out : Known)
    → HasPrinted printed commits rejected before out
    → length rejected ≡ 1
    → Rejects (IsLastOffer client posts) [] rejected 1
    → (step : Step) × IsLastOffer client posts step × AreCut commits step before out
printed_cut client posts (Some printed) commits rejected before out (count, none, lines) one rejects =
    absurd (omega (arith, one, ap length none))
printed_cut client posts None commits rejected before out (step, later, is, cut) one (inl same) = absurd (cc (is, same))
printed_cut client posts None commits rejected before out (step, later, is, cut) one (inr (tried, few, last, more)) =
    let same : tried ≡ step = cc (is, more) in
    (step, subst (IsLastOffer client posts) same last, cut)

-- what is printed at the end of a walk
walk_prints : (client : Installed) (posts : List Post) (printed : Option ℕ) (commits : List Commit)
    (rejected : List Step) (before out : Known) (walked : Result Walk (ReadError Fault))
    → HasPrinted printed commits rejected before out
    → length rejected ≡ failed_installers walked
    → Rejects (IsLastOffer client posts) [] rejected (failed_installers walked)
    → Prints client posts commits before out walked
walk_prints client posts printed commits rejected before out (Ok walk) has failed rejects =
    printed_whole client posts printed commits rejected before out has rejects
walk_prints client posts printed commits rejected before out (Err errors.Memory) has failed rejects =
    printed_whole client posts printed commits rejected before out has rejects
walk_prints client posts printed commits rejected before out (Err (errors.Fault fault.Link)) has failed rejects =
    printed_whole client posts printed commits rejected before out has rejects
walk_prints client posts printed commits rejected before out (Err (errors.Fault fault.Reply)) has failed rejects =
    printed_whole client posts printed commits rejected before out has rejects
walk_prints client posts printed commits rejected before out (Err (errors.Fault fault.BadLength)) has failed rejects =
    printed_whole client posts printed commits rejected before out has rejects
walk_prints client posts printed commits rejected before out (Err (errors.Fault fault.BadHash)) has failed rejects =
    printed_whole client posts printed commits rejected before out has rejects
walk_prints client posts printed commits rejected before out (Err (errors.Fault fault.Install)) has failed rejects =
    printed_cut client posts printed commits rejected before out has failed rejects
walk_prints client posts printed commits rejected before out (Err (errors.Fault fault.NoProgress)) has failed rejects =
    printed_whole client posts printed commits rejected before out has rejects
walk_prints client posts printed commits rejected before out (Err (errors.Fault fault.TooManySteps)) has failed rejects =
    printed_whole client posts printed commits rejected before out has rejects
walk_prints client posts printed commits rejected before out (Err (errors.Fault fault.Busy)) has failed rejects =
    printed_whole client posts printed commits rejected before out has rejects

-- a walk whose installer began with nothing
pub walk_is : (client after : Installed) (old new : List Post) (asked opened : List (List ℕ)) (received : List ℕ) (ended : Type 0)
    (none commits : List Commit) (printed : Option ℕ) (unrejected rejected : List Step) (before out : Known)
    (walked : Result Walk (ReadError Fault))
    → none ≡ [] → unrejected ≡ []
    → Walks client after old new asked opened none commits received ended walked
    → length rejected ≡ length unrejected + failed_installers walked
    → Rejects (IsLastOffer after new) unrejected rejected (failed_installers walked)
    → HasPrinted printed commits rejected before out
    → IsWalk client after old new asked opened received ended before out walked
walk_is client after old new asked opened received ended none commits printed unrejected rejected before out walked empty few walks failed rejects has =
    let P : List Commit → Type 0 = λ made. Walks client after old new asked opened made commits received ended walked in
    let Q : List Step → Type 0 = λ steps. Rejects (IsLastOffer after new) steps rejected (failed_installers walked) in
    let counted : length rejected ≡ failed_installers walked = omega (arith, failed, ap length few) in
    record {
      commits = commits;
      walks = subst P empty walks;
      printed = walk_prints after new printed commits rejected before out walked has counted (subst Q few rejects);
    }
