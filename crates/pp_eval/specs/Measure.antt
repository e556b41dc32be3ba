-- When the measure of a call is below that of its caller. Source: termination by measures as in System FR (Hamza,
-- Voirol, Kuncak, OOPSLA 2019); own: lists of components, and that a datatype goes down by proper subtrees.
use Rattle.std.specs.Prelude.{pos, int_le, int_lt, nat_eq, Bool, true, false, ◌&&◌, ◌||◌, List, [], ◌∷◌, Option, Some}
use Rattle.std.specs.Prelude.{None, slice_get}
use Rattle.pp_prog.specs.declared.types.Ctor.{Ctor}
use Rattle.pp_prog.specs.declared.value.Value.{Value}
use Rattle.pp_prog.specs.declared.value.Value.TheOpen as layer
use Rattle.pp_prog.specs.declared.value.Value.TheViews.{out-Value}
use Rattle.pp_eval.specs.Equality.{equal, below}

abbrev pub one_datatype : Option Ctor → Option Ctor → Bool
one_datatype None d = false
one_datatype (Some c) None = false
one_datatype (Some c) (Some d) = nat_eq c.of.0 d.of.0

-- a number goes down where it isn't negative and is less; a truth value never does; a tree goes down to its proper
-- subtrees
abbrev pub layer_down : (Value × Value) → layer.Value-F Value → layer.Value-F Value → Bool
layer_down vs (layer.Int a) (layer.Int b) = int_le (pos 0) a && int_lt a b
layer_down vs (layer.Int a) (layer.Bool b) = false
layer_down vs (layer.Int a) (layer.Tree d fields) = false
layer_down vs (layer.Bool a) y = false
layer_down vs (layer.Tree c fields) (layer.Int b) = false
layer_down vs (layer.Tree c fields) (layer.Bool b) = false
layer_down vs (layer.Tree c fields) (layer.Tree d others) = below vs.0 vs.1

-- the component goes down from the old value to the new one
abbrev pub goes_down : Value → Value → Bool
goes_down new old = layer_down (new, old) (out-Value new) (out-Value old)

-- some component goes down, and all before it are equal
abbrev pub falls : List Value → List Value → Bool
falls [] old = false
falls (x ∷ xs) [] = false
falls (x ∷ xs) (y ∷ ys) = goes_down x y || (equal x y && falls xs ys)

module _ (ctors : List Ctor) where
  -- both are numbers, both are truth values, or both are trees of one datatype
  abbrev pub one_sort : layer.Value-F Value → layer.Value-F Value → Bool
  one_sort (layer.Int a) (layer.Int b) = true
  one_sort (layer.Int a) (layer.Bool b) = false
  one_sort (layer.Int a) (layer.Tree d fields) = false
  one_sort (layer.Bool a) (layer.Int b) = false
  one_sort (layer.Bool a) (layer.Bool b) = true
  one_sort (layer.Bool a) (layer.Tree d fields) = false
  one_sort (layer.Tree c fields) (layer.Int b) = false
  one_sort (layer.Tree c fields) (layer.Bool b) = false
  one_sort (layer.Tree c fields) (layer.Tree d others) = one_datatype (slice_get ctors c.0) (slice_get ctors d.0)

  -- the lists are of one length, and the values at each place of one sort
  abbrev pub of_one_shape : List Value → List Value → Bool
  of_one_shape [] [] = true
  of_one_shape [] (y ∷ ys) = false
  of_one_shape (x ∷ xs) [] = false
  of_one_shape (x ∷ xs) (y ∷ ys) = one_sort (out-Value x) (out-Value y) && of_one_shape xs ys

  -- whether the new measure values are below the old ones: lists of different length or different sorts never are
  abbrev pub is_below : List Value → List Value → Bool
  is_below new old = of_one_shape new old && falls new old
