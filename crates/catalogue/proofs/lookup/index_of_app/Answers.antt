use Rattle.std.proofs.Common.{◌≡◌, ℕ, Option, Some, None, position, refl, sym, rules}
use Rattle.values.proofs.OnceLemmas.{position-nowhere, position-once}
use Rattle.catalogue.specs.Lookups.{is_app}
use Rattle.catalogue.proofs.lookup.index_of_app.Goals as goal

pub returns : goal.returns
returns c = cases c.rposition.result refl
  where
    cases : (o : Option ℕ) → c.rposition.result ≡ o → o ≡ position (is_app c.args.id.now) c.args.apps.now
    cases (Some i) is = sym (position-once (is_app c.args.id.now) c.args.apps.now i (c.requires.ids_once c.args.id.now) (search rules) (search rules))
    cases None is = sym (position-nowhere (is_app c.args.id.now) c.args.apps.now (search rules))
