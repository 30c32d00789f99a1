use Rattle.par_tables.proofs.CacheLemmas.{AreOwnTables-fewer, AreOwnTables-with, IsTableOf-own}
use Rattle.par_tables.proofs.cache.TableCache.push_table.Goals as goal

pub returns-in-Some-clause-own : goal.returns-in-Some-clause-own
returns-in-Some-clause-own c =
    AreOwnTables-fewer c.args.catalogue.now c.args.self.now.tables c.find.new.self.tables c.find.ensures.kept c.requires.own

pub returns-in_err-table-clause-own : goal.returns-in_err-table-clause-own
returns-in_err-table-clause-own c =
    AreOwnTables-fewer c.args.catalogue.now c.args.self.now.tables c.find.new.self.tables c.find.ensures.kept c.requires.own

pub returns-in_err-push_copy-clause-own : goal.returns-in_err-push_copy-clause-own
returns-in_err-push_copy-clause-own c =
    AreOwnTables-fewer c.args.catalogue.now c.args.self.now.tables c.find.new.self.tables c.find.ensures.kept c.requires.own

pub returns-clause-own : goal.returns-clause-own
returns-clause-own c =
    let apps = c.args.catalogue.now in
    let table = c.in_ok-table.table in
    AreOwnTables-with apps c.find.new.self.tables c.keep.new.self.tables table c.keep.ensures.kept
    (AreOwnTables-fewer apps c.args.self.now.tables c.find.new.self.tables c.find.ensures.kept c.requires.own)
    (IsTableOf-own apps c.args.key.now table c.in_ok-table.ensures.table)
