use Rattle.std.proofs.Common.{refl}
use Rattle.std.specs.Fmt.{digits}
use Rattle.hex.proofs.OnLiterals.{hex_on_literals}
use Rattle.catalogue.specs.Versions.{printed}
use Rattle.catalogue.proofs.histories.small_content.Goals as goal

pub returns : goal.returns
unfolding hex_on_literals digits printed
returns c = refl
