-- Certified tables, as contracts see them.
use Rattle.std.specs.Prelude.{◌≡◌, List}
use Rattle.payload_graph.specs.declared.payload.TrackKey.{TrackKey}
use Rattle.payload_graph.specs.Net.{Net}
use Rattle.price_cert.specs.Laws.{IsGraph}
use Rattle.price_cert.specs.Rules.{AreCertified}
use Rattle.price_cert.specs.declared.row.Row.{Row}

-- a table, and the graph that it was checked against
pub record Certificate : Type 0 where
  pub net : Net
  pub rows : List Row

-- what holds of every one, and of the key that it is kept with
pub record IsCertificate (key : TrackKey) (certificate : Certificate) : Type 0 where
  pub own_key : key ≡ certificate.net.key
  pub graph : IsGraph certificate.net
  pub certified : AreCertified certificate.net certificate.rows
