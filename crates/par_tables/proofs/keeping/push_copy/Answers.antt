use Rattle.std.proofs.Common.{refl, sym, subst}
use Rattle.par_tables.proofs.ListingLemmas.{Adds-one}
use Rattle.par_tables.specs.Marks.{IsTableOf}
use Rattle.par_tables.proofs.keeping.push_copy.Goals as goal

pub returns : goal.returns
returns c =
    let apps = c.args.catalogue.now in
    let key = c.args.key.now in
    let table = c.in_ok-copied.copied in
    let is : IsTableOf apps key table = subst (IsTableOf apps key) (sym c.in_ok-copied.ensures) c.requires in
    Adds-one apps key table.net c.args.tables.now.items c.push.new.self.items table is.own refl is.is c.in_ok-push.ensures.items
