-- The streams of a run; this project's profile.
use Rattle.streams.specs.Streams.{Known}

-- the standard input and the standard output
pub record Streams : Type 0 where
  pub input : Known
  pub output : Known
