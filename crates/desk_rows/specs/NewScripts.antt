-- New ports in memory, for tests.
use Rattle.std.specs.Prelude.{◌≡◌}
use Rattle.http_memory.specs.Seats.{AreDone, accepted_in, slots_of}
use Rattle.http_memory.specs.declared.scripts.script.Script.{Script}
use Rattle.systems.specs.NewPorts.{IsNew}

-- a new port in memory
abbrev pub IsNewScript : Script → Type 0
IsNewScript script =
    IsNew (λ p. p.terms) (λ p. slots_of p.seats.items) (λ p. accepted_in p.seats.items)
    (λ p. AreDone p.seats.items × (accepted_in p.seats.items ≡ p.terms.limit)) script
