-- What holds of all graphs.
use Rattle.std.specs.Prelude.{List}
use Rattle.payload_graph.specs.Net.{Net}
use Rattle.price_cert.specs.Laws.{IsGraph}
use Rattle.price_cert.specs.Rules.{AreCertified}
use Rattle.price_cert.specs.declared.row.Row.{Row}

-- each graph has a certified table
abbrev pub GraphsHaveTables : Type 0
GraphsHaveTables = (net : Net) → IsGraph net → (rows : List Row) × AreCertified net rows
