-- The table of one track.
use Rattle.std.proofs.Common.{◌≡◌, List, Option, Some, Result, Ok, Err, sym, ap, ◌∙◌, subst}
use Rattle.std.specs.Result.{IfOk}
use Rattle.catalogue.specs.declared.content.App.{App}
use Rattle.payload_graph.specs.declared.payload.TrackKey.{TrackKey}
use Rattle.payload_graph.specs.Net.{Net, net_among}
use Rattle.price_cert.specs.Laws.{IsGraph}
use Rattle.price_cert.specs.Rules.{AreCertified}
use Rattle.price_cert.specs.Tables.{Certificate}
use Rattle.par_tables.specs.Marks.{IsTableOf}

-- what is solved of a track's graph is its table
pub IsTableOf-solved :
    {E : Type 0} (apps : List App) (key : TrackKey) (net : Net) (solved : Result Certificate E) →
    net_among apps key ≡ Some net → IsGraph net →
    IfOk solved (λ table. table.net ≡ net) → IfOk solved (λ table. AreCertified table.net table.rows) →
    IfOk solved (IsTableOf apps key)
IsTableOf-solved apps key net (Ok table) there graph same certified = record {
  own = there ∙ ap (λ (n : Net). Some n) (sym same);
  is = record { graph = subst IsGraph (sym same) graph; certified = certified };
}
IsTableOf-solved apps key net (Err error) there graph same certified = tt
