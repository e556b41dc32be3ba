use Rattle.pp_bounded_samples.proofs.Symbols.{all_of_sort_later}
use Rattle.pp_program_cases.proofs.rounds.question.fails_at.Goals as goal

pub ask_all-requires-clause-symbols : goal.ask_all-requires-clause-symbols
ask_all-requires-clause-symbols c = rw c.as_slice.ensures c.requires.arguments

pub returns : goal.returns
returns c = record {
  fits = c.in_ok-ask_all.ensures.fits;
  arguments = all_of_sort_later _ _ _ _ _ c.in_ok-ask_all.ensures c.args.question.now.frame.arguments
      c.requires.arguments;
}
