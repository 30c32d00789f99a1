use Rattle.reviews.proofs.pictures.dot.arrow_words.Goals as goal

pub returns : goal.returns
returns c =
    rw (c.as_str-pen.ensures.value, c.in_ok-pen.ensures, c.bytes_of-bytes.ensures, c.arrow_color-color.ensures, c.word_if-dashed.ensures) at
    c.format.ensures.ok
