-- The lines so far and those that are left are the whole; each record makes one edition at most.
use Rattle.std.proofs.Common.{◌≡◌, ◌+◌, ◌≤◌, ◌++◌, drop, string_bytes}
use Rattle.omaha_histories.specs.Listing.{listing, record_lines}
use Rattle.omaha_histories.proofs.restarts.listing.list.Given as goal

abbrev pub invariant-loop-index : goal.invariant-loop-index
invariant-loop-index l =
    (string_bytes l.text ++ record_lines (l.first + l.index) l.edition (drop l.index l.records) ≡ listing l.first l.records)
    × (l.edition ≤ l.first + l.index)
