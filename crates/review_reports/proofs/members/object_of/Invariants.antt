-- The members so far are those of the table that was gone over.
use Rattle.std.proofs.Common.{◌≡◌, take}
use Rattle.std.specs.List.{fold}
use Rattle.serde_json.specs.Data.{no_members}
use Rattle.serde_json.specs.View.{members_view}
use Rattle.review_reports.specs.Members.{with_one}
use Rattle.review_reports.proofs.members.object_of.Given as goal

abbrev pub invariant-loop-one : goal.invariant-loop-one
invariant-loop-one l = members_view l.members.entries ≡ fold with_one no_members (take l.one-index l.table)
