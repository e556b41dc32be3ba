use Rattle.pp_query.proofs.Questions.{can_ask}
use Rattle.pp_query.proofs.query.query_of.Goals as goal

pub reply_to-requires-clause-question : goal.reply_to-requires-clause-question
reply_to-requires-clause-question g c =
    can_ask g.D.Domain.sense _ _ _ _ _ g.met.D.Domain.lawful c.requires.size c.args.mode
    c.in_ok-question.ensures.question
