use Rattle.update_client.proofs.FrontLemmas.{line_found, never_line}
use Rattle.update_client.proofs.chunked.piece.find_line.Goals as goal

pub returns-in-Ok-Complete : goal.returns-in-Ok-Complete
returns-in-Ok-Complete c =
    let (line, at) = rw c.in-Ok-Complete.field-0-is at c.in-Ok-Complete.ensures.complete in
    line_found c.min.result c.in-Ok-Complete.len c.in-Ok-Complete.size c.args.bytes.now line c.min.ensures at

pub returns-in-Err : goal.returns-in-Err
returns-in-Err c = (λ same. cc, never_line c.min.result c.args.bytes.now c.in-Err.ensures.invalid)
