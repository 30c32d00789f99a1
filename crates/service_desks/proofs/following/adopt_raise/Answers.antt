use Rattle.std.proofs.Common.{List, None, ap, refl}
use Rattle.kept_records.specs.Keeping.{record_of}
use Rattle.kept_records.specs.declared.record.Kind.TheVariants.{Raise}
use Rattle.kept_records.specs.declared.record.Record.{Record}
use Rattle.service_desks.specs.States.{store}
use Rattle.service_desks.proofs.following.adopt_raise.Goals as goal

pub returns-in-Ok-clause-adopts : goal.returns-in-Ok-clause-adopts
returns-in-Ok-clause-adopts g c = λ history known kept. record {
  entry = record_of Raise c.args.raise.now;
  adopts = (
    c.in-Ok.ensures.raised,
    refl,
    ap (λ (records : List Record). store (g.K.Records.first c.args.records.now) records None) kept,
  );
}
