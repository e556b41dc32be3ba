-- Lists of symbols that stand for values in trees up to a height.
use Rattle.std.proofs.Common.{◌≡◌, ℕ, ◌+◌, List, [], ◌∷◌, ◌++◌, take, Bool, All, Some, slice_get, sym, ◌∙◌}
use Rattle.std.proofs.lemmas.List.Elements.{All-cons, All-nil}
use Rattle.std.proofs.lemmas.Option.{same_Some}
use Rattle.pp_prog.specs.declared.sort.Sort.{Sort}
use Rattle.pp_prog.specs.declared.types.TypeTable.{TypeTable}
use Rattle.pp_prog.specs.declared.value.Value.{Value}
use Rattle.pp_gate.specs.declared.gate.Gate.{Gate}
use Rattle.pp_gate.specs.Circuit.{Gives}
use Rattle.pp_domain.specs.declared.symbol.Symbol.{Symbol}
use Rattle.pp_domain.specs.Naming.{Naming}
use Rattle.pp_domain.specs.Symbols.{AreSymbols, SymbolStands, SymbolsStand}
use Rattle.pp_bounded_trees.specs.declared.arena.BoundedTree.{BoundedTree}
use Rattle.pp_bounded_trees.specs.declared.arena.Trees.{Trees}
use Rattle.pp_bounded_trees.specs.Meaning.{BoundedFits, bounded_sense}
use Rattle.pp_bounded_trees.specs.Readable.{IsReadable}
use Rattle.pp_bounded_trees.proofs.Candidates.{take_next}
use Rattle.pp_bounded_trees.proofs.Known.{fields_are, symbol_is}

-- symbols stand for one list of values at most
pub stand_single : (d : Trees) (n k : Naming) (a : ℕ → Bool) (xs : List (Symbol BoundedTree)) (vs ws : List Value)
    → SymbolsStand bounded_sense d a n xs vs → SymbolsStand bounded_sense d a k xs ws → vs ≡ ws
stand_single d n k a xs vs ws one other =
    same_Some vs ws (sym (fields_are d n a xs vs one) ∙ fields_are d k a xs ws other)

-- symbols of the circuit that stand for values can be read
pub stand_readable : (types : TypeTable) (d : Trees) (gs : List Gate) (n : Naming) (a : ℕ → Bool)
    → BoundedFits types d gs → Gives a gs → (ss : List Sort) (xs : List (Symbol BoundedTree)) (vs : List Value)
    → AreSymbols bounded_sense d gs ss xs → SymbolsStand bounded_sense d a n xs vs → All (IsReadable types d a) xs
stand_readable types d gs n a fits gives [] [] [] are stand = All-nil (IsReadable types d a)
stand_readable types d gs n a fits gives (s ∷ ss) (x ∷ xs) (v ∷ vs) are stand =
    All-cons (IsReadable types d a) x xs
    (record {
      gates = gs;
      fits = fits;
      gives = gives;
      sort = s;
      of = are.0;
      value = v;
      stands = symbol_is d n a x v stand.0;
    })
    (stand_readable types d gs n a fits gives ss xs vs are.1 stand.1)
stand_readable types d gs n a fits gives [] [] (v ∷ vs) are stand = absurd stand
stand_readable types d gs n a fits gives [] (x ∷ xs) vs are stand = absurd are
stand_readable types d gs n a fits gives (s ∷ ss) [] vs are stand = absurd are
stand_readable types d gs n a fits gives (s ∷ ss) (x ∷ xs) [] are stand = absurd stand

stand_push : (d : Trees) (n : Naming) (a : ℕ → Bool) (xs : List (Symbol BoundedTree)) (x : Symbol BoundedTree)
    (vs : List Value) (v : Value) → SymbolsStand bounded_sense d a n xs vs → SymbolStands bounded_sense d a n x v
    → SymbolsStand bounded_sense d a n (xs ++ x ∷ []) (vs ++ v ∷ [])
stand_push d n a [] x [] v stand is = (is, tt)
stand_push d n a (y ∷ xs) x (w ∷ vs) v stand is = (stand.0, stand_push d n a xs x vs v stand.1 is)
stand_push d n a [] x (w ∷ vs) v stand is = absurd stand
stand_push d n a (y ∷ xs) x [] v stand is = absurd stand

-- one more symbol
pub stand_next : (d : Trees) (n : Naming) (a : ℕ → Bool) (xs : List (Symbol BoundedTree)) (i : ℕ)
    (x : Symbol BoundedTree) (vs ws : List Value) (v : Value) → slice_get xs i ≡ Some x
    → SymbolsStand bounded_sense d a n (take i xs) vs → SymbolStands bounded_sense d a n x v → ws ≡ vs ++ v ∷ []
    → SymbolsStand bounded_sense d a n (take (i + 1) xs) ws
stand_next d n a xs i x vs ws v at stand is push =
    rw (take_next xs i x at, push) (stand_push d n a (take i xs) x vs v stand is)
