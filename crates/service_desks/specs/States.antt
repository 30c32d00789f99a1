-- What the operator's desk changes: what is published, what is kept of it, and the mirrors' budgets; this project's profile.
use Rattle.std.specs.Prelude.{◌≡◌, ℕ, ◌-◌, Bool, false, List, [], ◌∷◌, ◌++◌, length, take, Option, None, Some, unwrap_or}
use Rattle.catalogue.specs.Histories.{History}
use Rattle.kept_records.specs.Keeping.{record_of}
use Rattle.kept_records.specs.declared.record.Kind.TheVariants as kind
use Rattle.kept_records.specs.declared.record.Record.{Record}
use Rattle.catalogue.specs.declared.mirror.Mirror.{Mirror}

-- what is kept: the number of the first record, which is that of its edition; the records that are known; and, if the last
-- one isn't published yet, as memory ran out, the history that is due
pub record Store : Type 0 where
  pub first : ℕ
  pub records : List Record
  pub due : Option History

-- what is published, and what is kept of it
pub record Publication : Type 0 where
  pub history : History
  pub store : Store

-- what an operator changes: the published history, the mirrors' budgets, and what is kept
pub record State : Type 0 where
  pub mirrors : List Mirror
  pub history : History
  pub store : Store

-- what is kept: records from a number on, and what is due
abbrev pub store : ℕ → List Record → Option History → Store
store first records due = record { first = first; records = records; due = due }

-- the publication of a history, with what is kept
abbrev pub publication : History → ℕ → List Record → Option History → Publication
publication history first records due = record { history = history; store = store first records due }

-- what is published, and what is kept of it, in a state
abbrev pub publication_of : State → Publication
publication_of state = record { history = state.history; store = state.store }

-- a history begins with all batches of an earlier one, said as an equality
abbrev pub GoesOn : History → History → Type 0
GoesOn later earlier = take (length earlier) later ≡ earlier

-- if no restart finds the records, nothing is due
abbrev pub IsOwed : Bool → Option History → Type 0
IsOwed lasts due = lasts ≡ false → due ≡ None

-- how many editions there were before that of the first record
abbrev pub earlier_in : Store → ℕ
earlier_in store = store.first - 1

-- the publication once what is due is shown
abbrev pub settled : Publication → Publication
settled before = record {
  history = unwrap_or before.store.due before.history;
  store = record { first = before.store.first; records = before.store.records; due = None };
}

-- what is kept with a script, of which nothing is due
abbrev pub with_script : Store → List ℕ → Store
with_script store script = record {
  first = store.first;
  records = store.records ++ record_of kind.Script script ∷ [];
  due = None;
}

-- what is kept with a script whose edition is due
abbrev pub with_due : Store → List ℕ → History → Store
with_due store script next = record {
  first = store.first;
  records = store.records ++ record_of kind.Script script ∷ [];
  due = Some next;
}

-- what is kept with a raise
abbrev pub with_raise : Store → List ℕ → Store
with_raise store raise = record {
  first = store.first;
  records = store.records ++ record_of kind.Raise raise ∷ [];
  due = store.due;
}
