-- What estimates of one program share. Source: own.
use Rattle.pp_prog.specs.declared.program.Program.{Program}
use Rattle.pp_estimate.specs.declared.estimating.Estimates.{Estimates}
use Rattle.pp_estimate.specs.Counted.{MemoOf}

-- what is known there is true of the program
pub record AreOf (p : Program) (estimates : Estimates) : Type 0 where
  pub memo : MemoOf p.types p.functions estimates.memo
