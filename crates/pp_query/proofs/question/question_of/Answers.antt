use Rattle.pp_query.proofs.question.question_of.Goals as goal

pub symbolic-requires-clause-fresh : goal.symbolic-requires-clause-fresh
symbolic-requires-clause-fresh g c = c.in_ok-domain.ensures.new c.args.program.now.types
