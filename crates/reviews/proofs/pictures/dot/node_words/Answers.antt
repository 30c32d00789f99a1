use Rattle.reviews.proofs.pictures.dot.node_words.Goals as goal

pub returns : goal.returns
returns c =
    rw (c.word_if-stone.ensures, c.word_if-goal.ensures, c.word_if-withdrawn.ensures, c.word_if-stuck.ensures) at
    c.format.ensures.ok
