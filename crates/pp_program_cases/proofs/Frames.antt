-- The symbols of a frame's arguments are of the domain.
use Rattle.std.proofs.Common.{◌<◌, ℕ, List, [], ◌∷◌, All, length, refl}
use Rattle.std.proofs.lemmas.List.Elements.{All-cons, All-nil}
use Rattle.pp_prog.specs.declared.id.CheckId.{CheckId}
use Rattle.pp_prog.specs.declared.program.Program.{Program}
use Rattle.pp_prog.specs.declared.sort.Sort.{Sort}
use Rattle.pp_prog.specs.Sorts.{param_sorts}
use Rattle.pp_gate.specs.declared.gate.Gate.{Gate}
use Rattle.pp_gate.proofs.Places.{at_some}
use Rattle.pp_sound.specs.Sound.{IsCheckOf}
use Rattle.pp_sound.proofs.Owners.{owner_within}
use Rattle.pp_domain.specs.Symbols.{AreSymbols}
use Rattle.pp_domain.specs.declared.symbol.Symbol.{Symbol}
use Rattle.pp_bounded_trees.specs.declared.arena.BoundedTree.{BoundedTree}
use Rattle.pp_bounded_trees.specs.declared.arena.Trees.{Trees}
use Rattle.pp_bounded_trees.specs.Meaning.{bounded_sense}
use Rattle.pp_bounded_samples.specs.Kept.{IsOfSort}
use Rattle.pp_symbolic.specs.declared.frame.Frame.{Frame}
use Rattle.pp_symbolic.specs.Frame.{IsFrame}

-- symbols of given sorts are each of some sort
are_of_sort : (d : Trees) (gs : List Gate) (ss : List Sort) (xs : List (Symbol BoundedTree))
    → AreSymbols bounded_sense d gs ss xs → All (IsOfSort d gs) xs
are_of_sort d gs [] [] are = All-nil (IsOfSort d gs)
are_of_sort d gs (s ∷ ss) (x ∷ xs) are =
    All-cons (IsOfSort d gs) x xs (record { sort = s; is = are.0 }) (are_of_sort d gs ss xs are.1)
are_of_sort d gs [] (x ∷ xs) are = absurd are
are_of_sort d gs (s ∷ ss) [] are = absurd are

module _ (p : Program) (c : CheckId) (round depth : ℕ) (d : Trees) (gs : List Gate) (frame : Frame BoundedTree)
    (is : IsFrame bounded_sense p c round depth d gs frame) (within : c.0 < length p.checks) where
  -- the symbols of a frame's arguments are of the domain
  pub frame_symbols : All (IsOfSort d gs) frame.arguments
  frame_symbols =
      let found = at_some p.checks c.0 within in
      let i = found.0.function.0 in
      let owned : IsCheckOf p i c.0 = record { check = found.0; listed = found.1; owner = refl } in
      let f = at_some p.functions i (owner_within p i c.0 owned) in
      are_of_sort d gs (param_sorts f.0.params) frame.arguments (is.of_function i f.0 owned f.1).symbols
