-- Induction along the payloads of a graph: each leads nearer the target.
use Rattle.std.proofs.Common.{ℕ, zero, suc, ◌+◌, ◌-◌, ◌<◌, ◌≤◌, inl, inr, arith}
use Rattle.payload_graph.specs.Soundness.{LeadsNearer}

-- what holds of a release if it holds of all that are nearer the target holds of all
module _ (P : ℕ → Type 0) (target : ℕ) (step : (from : ℕ) → ((to : ℕ) → LeadsNearer target from to → P to) → P from) where
  up_to_target : (fuel from : ℕ) → from ≤ target → target - from < fuel → P from
  up_to_target zero from below enough = absurd (omega arith)
  up_to_target (suc fuel) from below enough =
      step from (λ to near. elim near [
        | inl up ↦ up_to_target fuel to up.1 (let higher = up.0 in let within = up.1 in omega arith)
        | inr down ↦ absurd (let above = down.0 in omega arith)
      ])

  above_target : (fuel from : ℕ) → from < fuel → P from
  above_target zero from enough = absurd (omega arith)
  above_target (suc fuel) from enough =
      step from (λ to near. elim near [
        | inl up ↦ up_to_target (target + 1) to up.1 (let within = up.1 in omega arith)
        | inr down ↦ above_target fuel to (let lower = down.1 in omega arith)
      ])

  pub by_nearness : (from : ℕ) → P from
  by_nearness from = above_target (from + 1) from (omega arith)
