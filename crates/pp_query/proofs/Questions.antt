-- The question of a round can be asked: its literals are of its circuit, which is at most as large as the estimate.
use Rattle.std.proofs.Common.{◌≤◌, ℕ, refl, arith}
use Rattle.pp_prog.specs.declared.id.CheckId.{CheckId}
use Rattle.pp_prog.specs.declared.program.Program.{Program}
use Rattle.pp_gate.specs.Circuit.{IsOf}
use Rattle.pp_domain.specs.Laws.{Lawful}
use Rattle.pp_domain.specs.Sense.{Sense}
use Rattle.pp_estimate.specs.Estimates.{estimate}
use Rattle.pp_symbolic.specs.declared.frame.Mode.{Mode}
use Rattle.pp_symbolic.specs.declared.frame.Mode.TheVariants.{Guess, Real}
use Rattle.pp_query.specs.declared.question.Question.{Question}
use Rattle.pp_query.specs.Question.{CanAsk, IsQuestion}

module _ {D T : Type 0} (m : Sense D T) (p : Program) (c : CheckId) (round depth : ℕ) (q : Question D T) where
  fails_within : (mode : Mode) → IsQuestion m p c mode round depth q → IsOf q.circuit q.frame.fails
  fails_within Real is = (is.run refl).fails
  fails_within Guess is = (is.guess refl).fails

  ok_within : (mode : Mode) → IsQuestion m p c mode round depth q → IsOf q.circuit q.frame.circuit_ok
  ok_within Real is = (is.run refl).circuit_ok
  ok_within Guess is = (is.guess refl).circuit_ok

  pub can_ask : Lawful m → estimate p.types p.functions p.checks c.0 round depth ≤ 4000000 → (mode : Mode)
      → IsQuestion m p c mode round depth q → CanAsk q
  can_ask law size mode is = record {
    circuit = law.circuit p.types q.domain q.circuit is.fits;
    small = let small = is.small in omega arith;
    fails = fails_within mode is;
    circuit_ok = ok_within mode is;
  }
