use Rattle.std.proofs.Common.{refl}
use Rattle.pp_program_cases.proofs.Frames.{frame_symbols}
use Rattle.pp_program_cases.proofs.rounds.question.round_question.Goals as goal

pub returns-2 : goal.returns-2
returns-2 c = record {
  fits = c.in_ok-question.ensures.question.fits;
  arguments = frame_symbols _ _ _ _ _ _ _ (c.in_ok-question.ensures.question.run refl) c.requires.check;
}
