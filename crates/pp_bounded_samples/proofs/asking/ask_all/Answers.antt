use Rattle.std.proofs.Common.{arith}
use Rattle.pp_bounded_samples.proofs.Going.{goes_more}
use Rattle.pp_bounded_samples.proofs.Symbols.{symbol_at}
use Rattle.pp_bounded_samples.proofs.asking.ask_all.Goals as goal

pub ask-requires-clause-symbol : goal.ask-requires-clause-symbol
ask-requires-clause-symbol c =
    symbol_at _ _ _ _ _ c.loop-place.invariant c.args.symbols.now c.loop-place.place c.index-symbols-place.result
    c.requires.symbols (omega arith) c.index-symbols-place.is

pub loop-place-preserved : goal.loop-place-preserved
loop-place-preserved c = goes_more _ _ _ _ _ _ _ c.loop-place.invariant c.in_ok-ask.ensures
