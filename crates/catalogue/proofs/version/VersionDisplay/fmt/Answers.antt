use Rattle.std.proofs.Common.{◌∙◌, ◌-◌, ap, max}
use Rattle.std.proofs.Output.{has_written_of_eq}
use Rattle.catalogue.specs.Versions.{printed}
use Rattle.catalogue.proofs.PrintingLemmas.{printed-from_dotted}
use Rattle.catalogue.proofs.version.VersionDisplay.fmt.Goals as goal

pub returns-clause-writes : goal.returns-clause-writes
returns-clause-writes g c = λ plain _.
    let count = c.max-shown.ensures ∙ ap (λ zeros. max (16 - zeros) 2) c.zero_count.ensures.zeros in
    let whole = printed-from_dotted c.self.inside.components c.max-shown.result c.loop-component.component-index c.self.told count c.loop-component-test.false in
    has_written_of_eq _ _ _ _ _ (whole ∙ ap printed c.self.view_is) (c.loop-component.invariant plain)
