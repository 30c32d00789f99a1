use Rattle.theorems.proofs.EventLawLemmas.{jobs_go_by_what_was_seen, replies_are_of_one_catalogue, seen_is_published, seen_never_falls, shares_are_of_jobs, totals_are_within_budgets}
use Rattle.theorems.proofs.PresentLemmas.{budgets_are_those_of_raises}
use Rattle.theorems.proofs.interleavings.laws.every_interleaving.Goals as goal

pub returns : goal.returns
returns c =
    let quotes = c.rows.ensures in
    let graphs = c.graphs.ensures in
    let growth = c.growth.ensures in
    let prefixes = c.prefixes.ensures in
    let valid = c.validity.ensures in
    record {
      replies = replies_are_of_one_catalogue quotes graphs growth prefixes valid;
      later = jobs_go_by_what_was_seen quotes graphs growth prefixes valid;
      seen = seen_never_falls quotes graphs growth prefixes valid;
      published = seen_is_published quotes graphs growth prefixes valid;
      budgets = totals_are_within_budgets quotes graphs growth prefixes valid;
      exact = budgets_are_those_of_raises;
      shares = shares_are_of_jobs quotes graphs growth prefixes valid;
    }
