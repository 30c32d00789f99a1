use Rattle.std.proofs.Common.{◌≡◌, ℕ, List, Ok, Result, sym, ap, ◌∙◌}
use Rattle.catalogue.specs.declared.edit.Edit.{Edit}
use Rattle.catalogue.specs.declared.fault.Refused.{Refused}
use Rattle.catalogue.specs.declared.content.App.{App}
use Rattle.catalogue.specs.declared.mirror.Mirror.{Mirror}
use Rattle.catalogue.specs.Contents.{edits_of_content}
use Rattle.profile_toml.proofs.OneTextLemmas.{IsDocumentText-once}
use Rattle.profile_toml.proofs.PlainLemmas.{profile_plain}
use Rattle.profile_toml.specs.WrittenFields.{profile_table}
use Rattle.profile_toml.specs.WrittenProfiles.{IsProfileFile}
use Rattle.profile_toml.proofs.writing.laws.writing.Goals as goal

once : (apps : List App) (mirrors : List Mirror) (first second : List ℕ)
    → IsProfileFile apps mirrors first → IsProfileFile apps mirrors second → first ≡ second
once apps mirrors first second a b =
    IsDocumentText-once (profile_table apps mirrors) (profile_plain apps mirrors) first second a b

pub returns-clause-once : goal.returns-clause-once
returns-clause-once c = once

pub returns-clause-again : goal.returns-clause-again
returns-clause-again c =
    λ apps mirrors text written is edits named made read accepted again rewritten.
    let pairs : ◌≡◌ {A = List Edit × List Mirror} (edits, named) (edits_of_content apps, mirrors) = cc (read, is.read) in
    let same_edits : edits ≡ edits_of_content apps = ap (λ (p : List Edit × List Mirror). p.0) pairs in
    let same_mirrors : named ≡ mirrors = ap (λ (p : List Edit × List Mirror). p.1) pairs in
    let accepted_too : ◌≡◌ {A = Result (List App) Refused} (Ok made) (Ok apps) = sym accepted ∙ rw same_edits is.made in
    let same : made ≡ apps = cc in
    let rewritten_too : IsProfileFile apps mirrors again = rw (same, same_mirrors) at rewritten in
    once apps mirrors again text rewritten_too written
