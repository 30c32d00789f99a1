use Rattle.reviews.proofs.lifting.is_idle.Goals as goal

pub returns-in-Withdrawn : goal.returns-in-Withdrawn
returns-in-Withdrawn c = rw c.in-Withdrawn.is c.is_offered_if_target.ensures

pub returns-in-Audience : goal.returns-in-Audience
returns-in-Audience c = rw c.in-Audience.is c.is_open_if_target.ensures

pub returns-in-Stone : goal.returns-in-Stone
returns-in-Stone c = rw c.in-Stone.is c.has_no_stone.ensures

pub returns-in-Floor : goal.returns-in-Floor
returns-in-Floor c = rw c.in-Floor.is c.has_no_floor.ensures
