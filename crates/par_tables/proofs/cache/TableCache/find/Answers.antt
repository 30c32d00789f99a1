use Rattle.std.proofs.Common.{◌≡◌, List, All, Contains, IfSome, sym, ap, ◌∙◌, subst}
use Rattle.price_cert.specs.Tables.{Certificate}
use Rattle.par_tables.specs.Caches.{Cached, tables_among, tables_in}
use Rattle.par_tables.proofs.cache.TableCache.find.Goals as goal

pub returns-clause-found : goal.returns-clause-found
returns-clause-found c =
    let shown : tables_among c.in_ok-entries.entries.entries ≡ c.args.self.now.tables =
    ap tables_in (sym c.in_ok-entries.was ∙ c.take.ensures.value) ∙ ap (λ (it : Cached). it.tables) c.self.view_is in
    subst (λ (tables : List Certificate). IfSome c.find_in-found.result (λ table. Contains tables table × (table.net.key ≡ c.args.key.now)))
    shown c.find_in-found.ensures.found

pub returns-clause-kept : goal.returns-clause-kept
returns-clause-kept c =
    let shown : tables_among c.in_ok-entries.entries.entries ≡ c.args.self.now.tables =
    ap tables_in (sym c.in_ok-entries.was ∙ c.take.ensures.value) ∙ ap (λ (it : Cached). it.tables) c.self.view_is in
    subst (λ (tables : List Certificate). All (Contains tables) (tables_among c.find_in-found.new.entries.entries))
    shown c.find_in-found.ensures.kept
