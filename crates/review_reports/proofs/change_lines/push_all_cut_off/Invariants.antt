use Rattle.std.proofs.Common.{◌≡◌, ◌++◌, take}
use Rattle.review_reports.specs.ChangeLines.{cut_off_lines}
use Rattle.review_reports.proofs.change_lines.push_all_cut_off.Given as goal

abbrev pub invariant-loop-clients : goal.invariant-loop-clients
invariant-loop-clients l = l.text.items ≡ l.initial.text.items ++ cut_off_lines l.catalogue (take l.clients-index l.cut_off)
