use Rattle.reviews.proofs.reasons.Subject.freed_without.Goals as goal

pub returns-in-Downgrade : goal.returns-in-Downgrade
returns-in-Downgrade c = rw c.in-Downgrade.is c.freed_by_downgrades.ensures
