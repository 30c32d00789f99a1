use Rattle.std.proofs.Common.{inl, inr, refl}
use Rattle.omaha_server.proofs.checking.answer_checked.Goals as goal

pub returns-in-Some-clause-called : goal.returns-in-Some-clause-called
returns-in-Some-clause-called g c =
    let looked = rw c.as_str.ensures at (rw c.new-folder.ensures.path at (rw c.new-folder.ensures.system at c.in-Some.ensures)) in
    inl (looked.0, looked.1, refl)

pub returns-in-None-clause-called : goal.returns-in-None-clause-called
returns-in-None-clause-called g c =
    let looked = rw c.as_str.ensures at (rw c.new-folder.ensures.path at (rw c.new-folder.ensures.system at c.in-None.ensures)) in
    inr (looked, c.ask_over-answered.ensures.called)
