-- A service with a published history, the books of its mirrors, and workers.
use Rattle.std.specs.Prelude.{ℕ, zero, suc, ◌+◌, ◌==◌, ◌&&◌, Bool, if◌then◌else◌, List, [], ◌∷◌, ◌++◌, is_ok, length, max, nat_le, nat_lt, replicate, take, Some}
use Rattle.catalogue.specs.declared.edit.Edit.{Edit}
use Rattle.catalogue.specs.Histories.{History}
use Rattle.editions.specs.Editions.{content_of, max_batches, outcome_after}
use Rattle.mirror_ledger.specs.Asks.{booked}
use Rattle.mirror_books.specs.Budgets.{Account}
use Rattle.mirror_ledger.specs.Named.{budget_at}
use Rattle.catalogue.specs.declared.content.App.{App}
use Rattle.catalogue.specs.declared.mirror.Mirror.{Mirror}
use Rattle.theorems.specs.Jobs.{Worker, new_worker}

-- rule: Service
-- a service: the published batches, the book of each mirror by its index, and the workers
pub record Service : Type 0 where
  pub history : History
  pub books : ℕ → Account
  pub workers : List Worker

-- the book of a mirror of which nothing is granted yet
abbrev pub opened_book : List Mirror → ℕ → Account
opened_book mirrors mirror = record { budget = budget_at mirrors mirror; total = 0 }

-- a service that opens with a history: it is published, each worker has seen it, and none has done anything
abbrev pub opened : List Mirror → History → ℕ → Service
opened mirrors start workers = record {
  history = start;
  books = opened_book mirrors;
  workers = replicate workers (new_worker (length start));
}

-- the content that the first batches of a history lead to
abbrev pub content_at : History → ℕ → List App
content_at history number = content_of (take number history)

-- a batch is published: its publisher knew of all batches before it, there is room, and none of its edits is rejected
abbrev pub is_published : History → ℕ → List Edit → Bool
is_published history known batch =
    known == length history && (nat_lt (length history) max_batches && is_ok (outcome_after history batch))

-- rule: Published history
-- the history after somebody who knows of so many batches publishes another one
abbrev pub published : History → ℕ → List Edit → History
published history known batch = if is_published history known batch then history ++ batch ∷ [] else history

-- a book has room for bytes
abbrev pub has_room : Account → ℕ → Bool
has_room account bytes = nat_le (account.total + bytes) account.budget

-- the books after a mirror granted bytes
abbrev pub with_grant : (ℕ → Account) → ℕ → ℕ → ℕ → Account
with_grant books granting bytes mirror =
    record (books mirror) { total = (books mirror).total + booked mirror bytes (Some granting) }

-- the budget of a mirror once another one's or its own is raised to some bytes; a budget never falls
abbrev pub raised_budget : ℕ → ℕ → ℕ → ℕ → ℕ
raised_budget raised bytes mirror budget = if raised == mirror then max budget bytes else budget

-- the books after a mirror's budget was raised
abbrev pub with_budget : (ℕ → Account) → ℕ → ℕ → ℕ → Account
with_budget books raised bytes mirror =
    record (books mirror) { budget = raised_budget raised bytes mirror (books mirror).budget }

-- mirrors with the budgets of their books
abbrev pub with_budgets_of : (ℕ → Account) → List Mirror → List Mirror
with_budgets_of books [] = []
with_budgets_of books (mirror ∷ mirrors) =
    record { name = mirror.name; codebase = mirror.codebase; budget = (books 0).budget }
    ∷ with_budgets_of (λ index. books (suc index)) mirrors

-- the mirrors of a service with their present budgets
abbrev pub present : List Mirror → Service → List Mirror
present mirrors service = with_budgets_of service.books mirrors

-- a list whose item at an index is changed, if there is one
abbrev pub changed_at : {A : Type 0} → ℕ → (A → A) → List A → List A
changed_at index change [] = []
changed_at zero change (item ∷ items) = change item ∷ items
changed_at (suc index) change (item ∷ items) = item ∷ changed_at index change items
