-- Ports over sockets, as they are opened; this project's profile.
use Rattle.std.specs.Prelude.{◌≡◌, ◌⊎◌, ℕ, true, IfSome, List, Option}
use Rattle.http_desks.specs.Downloads.{Reads}
use Rattle.http_devices.specs.Names.{is_file_name}
use Rattle.systems.specs.declared.mio_ports.port.MioPort.{MioPort}
use Rattle.http_ports.specs.Books.{accepted_in, slots_after}
use Rattle.systems.specs.NewPorts.{IsNew}

-- a new port over sockets
abbrev pub IsNewSocketPort : {R : Type 0} → MioPort R → Type 0
IsNewSocketPort port =
    IsNew (λ p. p.terms) (λ p. slots_after p.book.moves) (λ p. accepted_in p.book.moves)
    (λ p. (accepted_in p.book.moves ≡ p.terms.limit) ⊎ (p.door.is_ending ≡ true)) port

-- a size, and bytes, are those of a file of the folder
abbrev pub has_size : List ℕ → Option ℕ → Type 0
has_size name size = IfSome size (λ _. is_file_name name ≡ true)

abbrev pub has_bytes : List ℕ → Reads
has_bytes name = λ _ _ bytes. IfSome bytes (λ _. is_file_name name ≡ true)
