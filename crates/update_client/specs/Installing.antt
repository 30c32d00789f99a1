-- When a download is installed; this project's profile.
use Rattle.std.specs.Prelude.{◌≡◌, ◌<◌, ◌⊎◌, ℕ, List, [], ◌∷◌, ◌++◌, length, Result, Ok, Err, ⊤}
use Rattle.sha2.specs.Sha256.{sha256}
use Rattle.update_client.specs.declared.fault.Fault.{Fault}
use Rattle.update_client.specs.declared.fault.Fault.TheVariants as fault
use Rattle.update_client.specs.declared.installer.Step.{Step}

-- the step and its bytes, if it was committed
abbrev pub committed : {E : Type 0} → Result (Unit {0}) E → Step → List ℕ → List (Step × List ℕ)
committed (Ok done) step bytes = (step, bytes) ∷ []
committed (Err failed) step bytes = []

-- the step, if its commit failed
abbrev pub uncommitted : {E : Type 0} → Result (Unit {0}) E → Step → List Step
uncommitted (Ok done) step = []
uncommitted (Err failed) step = step ∷ []

-- a request and its reply, if there was one
abbrev pub posted : {E : Type 0} → Result (List ℕ) E → List ℕ → List (List ℕ × List ℕ)
posted (Ok reply) body = (body, reply) ∷ []
posted (Err failed) body = []

-- the bytes have this length and this SHA-256
abbrev pub IsFile : ℕ → List ℕ → List ℕ → Type 0
IsFile size hash bytes = (length bytes ≡ size) × (sha256 bytes ≡ hash)

-- why a download was not staged, by the bytes that were received of it and whether it had ended
abbrev pub FailsBy : ℕ → List ℕ → List ℕ → Type 0 → Fault → Type 0
FailsBy size hash received ended fault.Link = ⊤
FailsBy size hash received ended fault.BadLength =
    (size < length received) ⊎ ((length received < size) × ended)
FailsBy size hash received ended fault.BadHash =
    (length received ≡ size) × ended × ¬ (sha256 received ≡ hash)
FailsBy size hash received ended fault.Install = ⊤
FailsBy size hash received ended fault.Reply = ⊥
FailsBy size hash received ended fault.NoProgress = ⊥
FailsBy size hash received ended fault.TooManySteps = ⊥
FailsBy size hash received ended fault.Busy = ⊥

-- the whole download was staged and is what was offered, or was not for that reason
abbrev pub IsStaged :
    ℕ → List ℕ → List ℕ → Type 0 → List ℕ → Result (Unit {0}) Fault → Type 0
IsStaged size hash received ended staged (Ok done) =
    IsFile size hash received × ended × (staged ≡ received)
IsStaged size hash received ended staged (Err failed) = FailsBy size hash received ended failed

-- rule: Download that is installed
-- the whole download was committed as the step and is what was offered; or nothing was committed
abbrev pub Installs : Step → List ℕ → List ℕ → Type 0
    → List (Step × List ℕ) → List (Step × List ℕ) → Result (Unit {0}) Fault → Type 0
Installs step hash received ended old new (Ok done) =
    IsFile step.bytes hash received × ended × (new ≡ old ++ (step, received) ∷ [])
Installs step hash received ended old new (Err failed) =
    FailsBy step.bytes hash received ended failed × (new ≡ old)

-- how many calls of the link failed
abbrev pub link_count : Fault → ℕ
link_count fault.Link = 1
link_count fault.Reply = 0
link_count fault.BadLength = 0
link_count fault.BadHash = 0
link_count fault.Install = 0
link_count fault.NoProgress = 0
link_count fault.TooManySteps = 0
link_count fault.Busy = 0

-- how many calls of the installer failed
abbrev pub installer_count : Fault → ℕ
installer_count fault.Link = 0
installer_count fault.Reply = 0
installer_count fault.BadLength = 0
installer_count fault.BadHash = 0
installer_count fault.Install = 1
installer_count fault.NoProgress = 0
installer_count fault.TooManySteps = 0
installer_count fault.Busy = 0

-- the same of a result
abbrev pub link_failures : Result (Unit {0}) Fault → ℕ
link_failures (Ok done) = 0
link_failures (Err failed) = link_count failed

-- the same of a result
abbrev pub installer_failures : Result (Unit {0}) Fault → ℕ
installer_failures (Ok done) = 0
installer_failures (Err failed) = installer_count failed

-- no commit failed; or, of so many calls of an installer that did, one was the commit of such a step
abbrev pub Rejects : (Step → Type 0) → List Step → List Step → ℕ → Type 0
Rejects IsTried old new count =
    (new ≡ old) ⊎ ((step : Step) × (0 < count) × IsTried step × (new ≡ old ++ step ∷ []))
