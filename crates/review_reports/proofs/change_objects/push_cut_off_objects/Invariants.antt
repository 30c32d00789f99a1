use Rattle.std.proofs.Common.{◌≡◌, ◌++◌, take}
use Rattle.review_reports.specs.ChangeObjects.{cut_off_objects}
use Rattle.review_reports.proofs.change_objects.push_cut_off_objects.Given as goal

abbrev pub invariant-loop-clients : goal.invariant-loop-clients
invariant-loop-clients l = l.text.items ≡ l.initial.text.items ++ cut_off_objects l.catalogue (take l.clients-index l.cut_off)
