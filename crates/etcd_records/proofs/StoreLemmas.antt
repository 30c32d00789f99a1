-- What is opened at a path of etcd.
use Rattle.std.proofs.Common.{◌≡◌, ◌∙◌, ℕ, List, [], None, inl, inr, refl, length, ap, subst}
use Rattle.etcd_records.specs.Paths.{Parts, addresses_in}
use Rattle.kept_records.specs.declared.fault.Cause.TheVariants.{Memory}
use Rattle.kept_records.specs.declared.fault.OpenFault.{OpenFault}
use Rattle.kept_records.specs.declared.fault.OpenFault.TheVariants.{Failed}
use Rattle.kept_records.specs.declared.fault.ReadFault.TheVariants as read
use Rattle.etcd_records.specs.Handles.{AreShown, Handle}
use Rattle.etcd_records.specs.Openings.{AreAll, OpenFails}
use Rattle.etcd_records.specs.Gateways.{Posts}
use Rattle.etcd_records.specs.Stores.{IsHandleOf, attempts_for}

-- a handle that was opened with the addresses and the prefix of a path
pub opened_by : (parts : Parts) (limit : ℕ) (handle : Handle Posts) (addresses : List (List ℕ)) (prefix : List ℕ) (attempts : ℕ)
    → addresses ≡ addresses_in parts.hosts → prefix ≡ parts.prefix → attempts ≡ attempts_for (length addresses)
    → handle.prefix ≡ prefix → handle.attempts ≡ attempts → handle.limit ≡ limit
    → AreShown handle.gateway.exchanges handle.prefix handle.kept → AreAll attempts handle.gateway.exchanges prefix handle.kept
    → IsHandleOf parts limit handle
opened_by parts limit handle addresses prefix attempts at below often has_prefix has_attempts has_limit shown all =
    let attempts_are : attempts ≡ attempts_for (length (addresses_in parts.hosts)) =
    often ∙ ap (λ (a : List (List ℕ)). attempts_for (length a)) at in
    record {
      prefix = has_prefix ∙ below;
      attempts = has_attempts ∙ attempts_are;
      limit_is = has_limit;
      shown = subst (λ (p : List ℕ). AreShown handle.gateway.exchanges p handle.kept) (has_prefix ∙ below) shown;
      all = subst (λ (n : ℕ). AreAll n handle.gateway.exchanges parts.prefix handle.kept) attempts_are
          (subst (λ (p : List ℕ). AreAll attempts handle.gateway.exchanges p handle.kept) below all);
    }

-- an open fails that runs out of memory before it asks
pub no_memory : (most : ℕ) (prefix : List ℕ) → OpenFails most prefix (Failed Memory)
no_memory most prefix = (read.Failed Memory, refl, None, None, [], [], inr (inl ((refl, refl), refl)))

-- an open of a path with these parts fails
pub failed_by : (parts : Parts) (addresses : List (List ℕ)) (prefix : List ℕ) (attempts : ℕ) (why : OpenFault)
    → addresses ≡ addresses_in parts.hosts → prefix ≡ parts.prefix → attempts ≡ attempts_for (length addresses)
    → OpenFails attempts prefix why → OpenFails (attempts_for (length (addresses_in parts.hosts))) parts.prefix why
failed_by parts addresses prefix attempts why at below often fails =
    subst (λ (n : ℕ). OpenFails n parts.prefix why) (often ∙ ap (λ (a : List (List ℕ)). attempts_for (length a)) at)
    (subst (λ (p : List ℕ). OpenFails attempts p why) below fails)
