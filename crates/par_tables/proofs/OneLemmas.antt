-- A content has one list of tables.
use Rattle.std.proofs.Common.{◌≡◌, List, [], ◌∷◌, map, refl, sym, ap, ◌∙◌, subst}
use Rattle.std.specs.List.{All}
use Rattle.std.proofs.lemmas.List.Elements.{All-head, All-tail}
use Rattle.payload_graph.specs.Net.{Net}
use Rattle.price_cert.specs.Laws.{CertifiedTablesAreOne}
use Rattle.price_cert.specs.Rules.{AreCertified}
use Rattle.price_cert.specs.Tables.{Certificate}
use Rattle.price_cert.specs.declared.row.Row.{Row}
use Rattle.par_tables.specs.Tables.{IsTable, TablesAreOne, net_of_table}

-- two certified tables of one graph are equal
same_table :
    CertifiedTablesAreOne → (table other : Certificate) →
    IsTable table → IsTable other → table.net ≡ other.net → table ≡ other
same_table unique table other is are same =
    ap (λ (net : Net). make net table.rows) same
    ∙ ap (λ (rows : List Row). make other.net rows)
    (unique other.net table.rows other.rows are.graph (subst (λ (net : Net). AreCertified net table.rows) same is.certified) are.certified)
  where
    make : Net → List Row → Certificate
    make net rows = record { net = net; rows = rows }

-- so are two lists of them
same_tables :
    CertifiedTablesAreOne → (tables others : List Certificate) →
    All IsTable tables → All IsTable others → map net_of_table tables ≡ map net_of_table others →
    tables ≡ others
same_tables unique [] [] all each same = refl
same_tables unique [] (other ∷ others) all each same = cc
same_tables unique (table ∷ tables) [] all each same = cc
same_tables unique (table ∷ tables) (other ∷ others) all each same =
    let first : table.net ≡ other.net = cc in
    let rest : map net_of_table tables ≡ map net_of_table others = cc in
    ap (λ (t : Certificate). t ∷ tables)
    (same_table unique table other (All-head IsTable table tables all) (All-head IsTable other others each) first)
    ∙ ap (λ (ts : List Certificate). other ∷ ts)
    (same_tables unique tables others (All-tail IsTable table tables all) (All-tail IsTable other others each) rest)

pub tables_are_one : CertifiedTablesAreOne → TablesAreOne
tables_are_one unique apps tables others are same =
    same_tables unique tables others are.certified same.certified (are.nets ∙ sym same.nets)
