use Rattle.streams.proofs.WritingLemmas.{IsWritten-tried}
use Rattle.streams.proofs.writing.offer.Goals as goal

pub returns : goal.returns
returns g c =
    IsWritten-tried (g.W.WriteWhole.output c.args.writer.now) (g.W.WriteWhole.output c.write_whole.new.self) c.args.bytes.now
    c.write_whole.result c.write_whole.ensures.ok c.write_whole.ensures.err
