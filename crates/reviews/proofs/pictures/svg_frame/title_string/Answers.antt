use Rattle.reviews.proofs.pictures.svg_frame.title_string.Goals as goal

pub returns : goal.returns
returns c = rw (c.style-style.ensures, c.heads-heads.ensures, c.legend-legend.ensures) at c.format.ensures.ok
