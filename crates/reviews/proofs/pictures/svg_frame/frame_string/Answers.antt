use Rattle.reviews.specs.Svg.{frame_string}
use Rattle.reviews.proofs.pictures.svg_frame.frame_string.Goals as goal

pub returns : goal.returns
unfolding frame_string
returns c =
    rw (c.width_of-width.ensures, c.left_of-left.ensures, c.longest_jump.ensures, c.has_downgrade.ensures, c.height_of.ensures, c.as_slice-arrows.ensures, c.in_ok-longest.ensures, c.as_slice.ensures, c.as_slice-nodes.ensures, c.as_str-3.ensures.value, c.in_ok-name.ensures, c.as_str.ensures, c.as_str-2.ensures) at
    c.frame_of.ensures
