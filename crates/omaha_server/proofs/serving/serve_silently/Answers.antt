use Rattle.omaha_server.proofs.serving.serve_silently.Goals as goal

pub returns-in_default-clause-serves : goal.returns-in_default-clause-serves
returns-in_default-clause-serves g c = c.serve_with.ensures.serves

pub returns-in_default-clause-replies : goal.returns-in_default-clause-replies
returns-in_default-clause-replies g c = c.serve_with.ensures.replies

pub returns-in_default-clause-stocked : goal.returns-in_default-clause-stocked
returns-in_default-clause-stocked g c = c.serve_with.ensures.stocked

pub returns-clause-serves : goal.returns-clause-serves
returns-clause-serves g c = c.serve_with-2.ensures.serves

pub returns-clause-replies : goal.returns-clause-replies
returns-clause-replies g c = c.serve_with-2.ensures.replies

pub returns-clause-stocked : goal.returns-clause-stocked
returns-clause-stocked g c = c.serve_with-2.ensures.stocked
