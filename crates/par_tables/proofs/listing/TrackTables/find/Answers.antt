use Rattle.std.proofs.Common.{◌≡◌, ℕ, List, Some, None, All, Contains, MatchOption, map, sym, ap, ◌∙◌, subst}
use Rattle.price_cert.specs.Tables.{Certificate}
use Rattle.par_tables.proofs.FindLemmas.{All-nowhere, MatchOption-all}
use Rattle.par_tables.specs.Places.{ArePlaced, HasOtherKey, start_of}
use Rattle.par_tables.specs.Tables.{net_of_table}
use Rattle.par_tables.proofs.listing.TrackTables.find.Goals as goal

pub returns-in-Some : goal.returns-in-Some
returns-in-Some c =
    let own = c.self.inside in
    let key = c.args.key.now in
    let shown = c.as_slice-in-Some.ensures.value in
    let placed = subst (λ (tables : List Certificate). ArePlaced own.firsts.items own.starts.items (map net_of_table tables)) (sym shown) c.self.invariant in
    let begins : start_of own.firsts.items own.starts.items key ≡ Some c.in-Some.start =
    ap (λ (firsts : List ℕ). start_of firsts own.starts.items key) (sym c.as_slice.ensures.value)
    ∙ ap (λ (starts : List ℕ). start_of c.as_slice.result.now starts key) (sym c.as_slice-2.ensures.value)
    ∙ sym c.start_of.ensures
    ∙ c.in-Some.is in
    subst (λ (tables : List Certificate). MatchOption c.find_from.result (All (HasOtherKey key) tables) (λ found. Contains tables found.now × (found.now.net.key ≡ key))) (shown ∙ c.self.view_is)
    (MatchOption-all (λ found. found.now) own.firsts.items own.starts.items c.as_slice-in-Some.result.now key c.in-Some.start c.find_from.result placed begins c.find_from.ensures)

pub returns-in-None : goal.returns-in-None
returns-in-None c =
    let own = c.self.inside in
    let key = c.args.key.now in
    let nowhere : start_of own.firsts.items own.starts.items key ≡ None =
    ap (λ (firsts : List ℕ). start_of firsts own.starts.items key) (sym c.as_slice.ensures.value)
    ∙ ap (λ (starts : List ℕ). start_of c.as_slice.result.now starts key) (sym c.as_slice-2.ensures.value)
    ∙ sym c.start_of.ensures
    ∙ c.in-None.is in
    subst (All (HasOtherKey key)) c.self.view_is
    (All-nowhere own.firsts.items own.starts.items own.list.items key c.self.invariant nowhere)
