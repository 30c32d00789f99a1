use Rattle.std.proofs.Common.{◌∙◌}
use Rattle.catalogue.specs.Versions.{version_of}
use Rattle.catalogue.proofs.version.Version.parse.Goals as goal

pub returns-in_err-components : goal.returns-in_err-components
unfolding version_of
returns-in_err-components c = c.from_residual.ensures ∙ c.in_err-components.ensures

pub returns : goal.returns
unfolding version_of
returns c = c.in_ok-components.ensures
