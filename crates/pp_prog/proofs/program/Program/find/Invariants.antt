use Rattle.pp_prog.proofs.Named.{NoneBelow}
use Rattle.pp_prog.proofs.program.Program.find.Given as goal

abbrev pub invariant-loop-i : goal.invariant-loop-i
invariant-loop-i l = NoneBelow l.functions l.name l.i
