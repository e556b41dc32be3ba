use Rattle.pp_gate.specs.declared.gate.Gate.TheVariants.{And, Xor, Mux, Majority}
use Rattle.pp_gate.proofs.Clausal.{within_next, equation_within, all_of_one}
use Rattle.pp_gate.proofs.clauses.add_gate.Goals as goal

pub returns-in_ok-add-in-Truth-clause-within : goal.returns-in_ok-add-in-Truth-clause-within
returns-in_ok-add-in-Truth-clause-within c = λ n lt olds.
    c.in_ok-add-in-Truth.ensures.within n (all_of_one n _ (within_next n _ _ c.new-out.ensures.var lt)) olds

pub returns-in_ok-add_and-in-And-clause-within : goal.returns-in_ok-add_and-in-And-clause-within
returns-in_ok-add_and-in-And-clause-within c =
    equation_within _ (And _ _) _ _ _ _ (rw c.in-And.is at c.requires.fits) c.new-out.ensures.var
    c.in_ok-add_and-in-And.ensures

pub returns-in_ok-add_xor-in-Xor-clause-within : goal.returns-in_ok-add_xor-in-Xor-clause-within
returns-in_ok-add_xor-in-Xor-clause-within c =
    equation_within _ (Xor _ _) _ _ _ _ (rw c.in-Xor.is at c.requires.fits) c.new-out.ensures.var
    c.in_ok-add_xor-in-Xor.ensures

pub returns-in_ok-add_mux-in-Mux-clause-within : goal.returns-in_ok-add_mux-in-Mux-clause-within
returns-in_ok-add_mux-in-Mux-clause-within c =
    equation_within _ (Mux _ _ _) _ _ _ _ (rw c.in-Mux.is at c.requires.fits) c.new-out.ensures.var
    c.in_ok-add_mux-in-Mux.ensures

pub returns-in_ok-add_majority-in-Majority-clause-within : goal.returns-in_ok-add_majority-in-Majority-clause-within
returns-in_ok-add_majority-in-Majority-clause-within c =
    equation_within _ (Majority _ _ _) _ _ _ _ (rw c.in-Majority.is at c.requires.fits) c.new-out.ensures.var
    c.in_ok-add_majority-in-Majority.ensures
