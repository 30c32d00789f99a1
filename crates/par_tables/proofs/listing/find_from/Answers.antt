use Rattle.std.proofs.Common.{◌≡◌, ℕ, ◌-◌, ◌<◌, List, Contains, MatchOption, drop, length, subst, arith}
use Rattle.std.proofs.lemmas.List.{length-drop, take_all}
use Rattle.price_cert.specs.Tables.{Certificate}
use Rattle.par_tables.proofs.FindLemmas.{MatchOption-drop}
use Rattle.par_tables.specs.Places.{HasOtherKeyAt}
use Rattle.par_tables.proofs.listing.find_from.Goals as goal

pub returns : goal.returns
returns c =
    let tables = c.args.tables.now in
    let start = c.args.start in
    let key = c.args.key.now in
    let sized = length-drop start tables in
    let whole = take_all (length tables - start) (drop start tables) (omega arith) in
    MatchOption-drop (λ found. found.now) tables key start c.find_near.result
    (subst (λ (those : List Certificate). MatchOption c.find_near.result ((place : ℕ) → place < 4 → HasOtherKeyAt key those place) (λ found. Contains those found.now × (found.now.net.key ≡ key))) whole c.find_near.ensures)
