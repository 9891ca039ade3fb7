use Rattle.run_gen.proofs.Joined.{same_answered}
use Rattle.run_gen.proofs.Outcomes.{upload_leaves}
use Rattle.run_gen.proofs.asking.put.Goals as goal

pub ask-answer-requires-clause-asks : goal.ask-answer-requires-clause-asks
ask-answer-requires-clause-asks g c = (c.requires.upload.0, c.requires.upload.1)

pub returns-clause-answered : goal.returns-clause-answered
returns-clause-answered g c = λ asked is.
    let upload = c.requires.upload in
    same_answered _ _ _ _ _ _ _ c.ask-answer.result c.whether.result c.whether.ensures (upload_leaves upload.0 c.ask-answer.result upload.2 (c.ask-answer.ensures.fits upload.0 upload.1)) (c.ask-answer.ensures.answered asked is)
