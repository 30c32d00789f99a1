use Rattle.omaha_server.proofs.serving.serve_here.Goals as goal

pub returns-in-Some-clause-serves : goal.returns-in-Some-clause-serves
returns-in-Some-clause-serves g c = c.serve_with-ended.ensures.serves

pub returns-in-Some-clause-unlogged : goal.returns-in-Some-clause-unlogged
returns-in-Some-clause-unlogged g c = c.serve_with-ended.ensures.unlogged

pub returns-in-Some-clause-replies : goal.returns-in-Some-clause-replies
returns-in-Some-clause-replies g c = c.serve_with-ended.ensures.replies

pub returns-in-Some-clause-stocked : goal.returns-in-Some-clause-stocked
returns-in-Some-clause-stocked g c = c.serve_with-ended.ensures.stocked
