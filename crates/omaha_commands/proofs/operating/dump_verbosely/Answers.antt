use Rattle.std.proofs.Common.{◌≡◌, ◌⊎◌, ℕ, List, Result, Err, inl, inr, refl, string_bytes, subst}
use Rattle.streams.specs.Writing.{IsWritten}
use Rattle.omaha_commands.specs.Reviewing.{IsUnanswered}
use Rattle.failures.specs.declared.failure.Failure.{Failure}
use Rattle.failures.specs.declared.failure.Failure.TheVariants as failure
use Rattle.omaha_commands.proofs.operating.dump_verbosely.Goals as goal

-- the failure is one of a call
fails_call :
    (to : List ℕ) (refusal : Failure) (result : Result (Unit {0}) Failure) → result ≡ Err refusal → IsUnanswered to (Err refusal) →
    (result ≡ Err (failure.Net to)) ⊎ (result ≡ Err failure.Memory)
fails_call to refusal result is (inl net) = inl (cc (is, net))
fails_call to refusal result is (inr memory) = inr (cc (is, memory))

pub returns-in-Ok-dump-clause-noted : goal.returns-in-Ok-dump-clause-noted
returns-in-Ok-dump-clause-noted g c =
    let P : List ℕ → Type 0 = λ bytes. IsWritten (g.E.WriteWhole.output c.args.errors.now) (g.E.WriteWhole.output c.offer.new.writer) bytes in
    (string_bytes c.in-Ok.line, c.in-Ok.ensures.ok, subst P c.as_bytes.ensures.value c.offer.ensures)

pub returns-clause-dumps : goal.returns-clause-dumps
returns-clause-dumps g c =
    inr (fails_call c.args.asked.now.to c.in-Err.failure (Err c.in-Err.failure) refl c.in-Err.ensures.err, refl)
