use Rattle.reviews.proofs.pictures.svg.node_head.Goals as goal

pub returns : goal.returns
returns c =
    rw (c.word_if-stone.ensures, c.word_if-withdrawn.ensures, c.word_if-goal.ensures, c.word_if-stuck.ensures, c.row_of-row.ensures) at
    c.format.ensures.ok
