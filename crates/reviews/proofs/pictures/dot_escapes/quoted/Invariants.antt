use Rattle.std.proofs.Common.{◌≡◌, flat_map, string_bytes}
use Rattle.reviews.specs.Dot.{quoted_char}
use Rattle.reviews.proofs.pictures.dot_escapes.quoted.Given as goal

abbrev pub invariant-loop-c : goal.invariant-loop-c
invariant-loop-c l = string_bytes l.text ≡ flat_map quoted_char l.yielded
