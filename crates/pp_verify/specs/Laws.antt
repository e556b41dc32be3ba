-- Why a round may be passed over. Source: own.
use Rattle.std.specs.Prelude.{◌↔◌, ℕ, suc}
use Rattle.pp_prog.specs.declared.id.CheckId.{CheckId}
use Rattle.pp_prog.specs.declared.program.Program.{Program}
use Rattle.pp_prog.specs.Calls.{call_table}
use Rattle.pp_checks.specs.Closed.{Closed, Nests}
use Rattle.pp_induction.specs.Ends.{NoGuessFails, NoLowRunFails}

-- of check c of function number i, at a depth: the next round finds, settles and proves what this one does
pub record IsAlikeAfter (p : Program) (i : ℕ) (c : CheckId) (n d : ℕ) : Type 0 where
  pub runs : NoLowRunFails p i c n d ↔ NoLowRunFails p i c (suc n) d
  pub closed : Closed p.types p.functions i n d ↔ Closed p.types p.functions i (suc n) d
  pub guesses : NoGuessFails p i c n ↔ NoGuessFails p i c (suc n)

-- where no call of the function is left to unfold in a round, the next one is like it
abbrev pub RepeatedAreAlike : Type 0
RepeatedAreAlike =
    (p : Program) (i n : ℕ) → Nests (call_table p.functions) n i → (c : CheckId) (d : ℕ) → IsAlikeAfter p i c n d
