use Rattle.omaha_server.proofs.serving.serve_beside.Goals as goal

pub returns-clause-serves : goal.returns-clause-serves
returns-clause-serves g c = c.serve_with-ended.ensures.serves

pub returns-clause-replies : goal.returns-clause-replies
returns-clause-replies g c = c.serve_with-ended.ensures.replies

pub returns-clause-stocked : goal.returns-clause-stocked
returns-clause-stocked g c = c.serve_with-ended.ensures.stocked
