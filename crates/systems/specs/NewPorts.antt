-- Ports as a system opens them; this project's profile.
use Rattle.std.specs.Prelude.{◌≡◌, ◌≤◌, ℕ}
use Rattle.http_ports.specs.Traffic.{Slot, unused}
use Rattle.http_ports.specs.declared.terms.Terms.{Terms}

-- nothing has passed at the port; and it accepts no more connections than its terms say
pub record IsNew {P : Type 0} (terms_of : P → Terms) (slots_of : P → ℕ → Slot) (accepted_of : P → ℕ) (IsOver : P → Type 0)
    (port : P) : Type 0 where
  pub free : (k : ℕ) → slots_of port k ≡ unused
  pub none : accepted_of port ≡ 0
  pub few : (later : P) → IsOver later → accepted_of later ≤ (terms_of later).limit
