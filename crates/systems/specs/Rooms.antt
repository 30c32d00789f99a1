-- Which connection of a port over sockets makes room for one more; this project's profile.
use Rattle.std.specs.Prelude.{◌≡◌, ◌≢◌, ◌⊎◌, ◌≤◌, ◌+◌, ℕ, HoldsAt, List}
use Rattle.systems.specs.declared.mio_ports.times.Awaited.TheVariants.{First, Next}
use Rattle.systems.specs.declared.mio_ports.times.Wait.{Wait}

-- the connection of a slot waits since this millisecond
abbrev pub WaitsSince : List Wait → ℕ → ℕ → Type 0
WaitsSince waits at since = HoldsAt (λ wait. wait.since ≡ since) waits at

-- it has waited for a second
abbrev pub HasWaited : List Wait → ℕ → ℕ → Type 0
HasWaited waits now at = HoldsAt (λ wait. wait.since + 1000 ≤ now) waits at

-- its last reply is sent, and no byte of another message has come; or no byte has come for a second
abbrev pub IsIdle : List Wait → ℕ → ℕ → Type 0
IsIdle waits now at =
    HoldsAt (λ wait. (wait.awaited ≡ Next) ⊎ ((wait.awaited ≡ First) × (wait.since + 1000 ≤ now))) waits at

-- the number of the clients' listener
abbrev pub clients : ℕ
clients = 0

-- rule: Room for one more
-- an idle connection makes room; at the operator's port also one that has waited for a second
abbrev pub MakesRoom : List Wait → ℕ → ℕ → ℕ → Type 0
MakesRoom waits now listener at = IsIdle waits now at ⊎ ((listener ≢ clients) × HasWaited waits now at)
