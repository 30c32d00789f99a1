use Rattle.std.proofs.Common.{◌≡◌, ◌⊎◌, List, All, Contains, ap, ◌∙◌, subst}
use Rattle.price_cert.specs.Tables.{Certificate}
use Rattle.par_tables.specs.Caches.{Cached, tables_among, tables_in}
use Rattle.par_tables.proofs.cache.TableCache.keep.Goals as goal

pub returns-clause-kept : goal.returns-clause-kept
returns-clause-kept c =
    let shown : tables_among c.in-Some.entries.entries ≡ c.args.self.now.tables =
    c.in-Some.ensures.tables ∙ ap tables_in c.take.ensures.value ∙ ap (λ (it : Cached). it.tables) c.self.view_is in
    subst (λ (tables : List Certificate). All (λ kept. Contains tables kept ⊎ (kept ≡ c.args.table)) (tables_among c.put_in.new.entries.entries))
    shown c.put_in.ensures.kept
