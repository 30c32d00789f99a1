-- The parts of what a worker's job with its till came to.
use Rattle.std.specs.Prelude.{Result, Ok, Err}
use Rattle.mirror_ledger.specs.declared.job.WithTill.{WithTill}

-- the till
abbrev pub till_of : {J T E : Type 0} → Result (T × E) (WithTill J T) → T
till_of (Ok done) = done.0
till_of (Err back) = back.till

-- what the job came to, or the job
abbrev pub end_of : {J T E : Type 0} → Result (T × E) (WithTill J T) → Result E J
end_of (Ok done) = Ok done.1
end_of (Err back) = Err back.job
