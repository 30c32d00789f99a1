use Rattle.replies.proofs.PlanLemmas.{IsTrackChoice-among, IsTrackChoice-no_graph}
use Rattle.replies.proofs.planning.choose_for.Goals as goal

pub returns-in-None : goal.returns-in-None
returns-in-None c =
    let none = rw c.in-None.is at c.requires.table in
    IsTrackChoice-no_graph c.args.catalogue.now c.args.key.now c.args.ask.now none

pub returns-in-Some : goal.returns-in-Some
returns-in-Some c =
    let place = rw (c.as_str.ensures, c.as_str-2.ensures) at c.place_of-place.ensures.place in
    IsTrackChoice-among c.args.catalogue.now c.args.key.now c.args.ask.now c.place_of-place.result c.choose_by.result
    c.requires.app place c.choose_by.ensures
