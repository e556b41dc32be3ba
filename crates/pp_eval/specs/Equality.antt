-- When two values are the same tree, and when one is a proper subtree of another, as tests that evaluation can use. The
-- law `compare_trees` ties them to equality and to `IsBelow`. Source: Scala Language Specification 5.3.2 for the
-- equality of case classes; subtrees are own.
use Rattle.std.specs.Prelude.{◌≡◌, ◌↔◌, nat_eq, Bool, true, false, ◌&&◌, ◌||◌, IsTrue, List, [], ◌∷◌}
use Rattle.std.specs.Ordering.{int_eq}
use Rattle.pp_prog.specs.declared.value.Value.{Value}
use Rattle.pp_prog.specs.declared.value.Value.TheOpen as layer
use Rattle.pp_prog.specs.declared.value.Value.TheFolds.{fold-Value, para-Value}
use Rattle.pp_prog.specs.declared.value.Value.TheViews.{out-Value}
use Rattle.pp_prog.specs.Fits.{same_truth}
use Rattle.pp_prog.specs.Values.{IsBelow}

-- each test passes the value at its place, and none is left over
abbrev pub pass_all : List (Value → Bool) → List Value → Bool
pass_all [] [] = true
pass_all [] (v ∷ vs) = false
pass_all (p ∷ ps) [] = false
pass_all (p ∷ ps) (v ∷ vs) = p v && pass_all ps vs

-- two layers, the fields of the first being tests: the same number, the same truth value, or the same constructor with
-- the same fields
abbrev pub equal_layer : layer.Value-F (Value → Bool) → layer.Value-F Value → Bool
equal_layer (layer.Int n) (layer.Int m) = int_eq n m
equal_layer (layer.Int n) (layer.Bool b) = false
equal_layer (layer.Int n) (layer.Tree d fields) = false
equal_layer (layer.Bool a) (layer.Int m) = false
equal_layer (layer.Bool a) (layer.Bool b) = same_truth a b
equal_layer (layer.Bool a) (layer.Tree d fields) = false
equal_layer (layer.Tree c tests) (layer.Int m) = false
equal_layer (layer.Tree c tests) (layer.Bool b) = false
equal_layer (layer.Tree c tests) (layer.Tree d fields) = nat_eq c.0 d.0 && pass_all tests fields

abbrev pub equal_step : layer.Value-F (Value → Bool) → Value → Bool
equal_step x v = equal_layer x (out-Value v)

-- whether two values are the same tree
abbrev pub equal : Value → Value → Bool
equal = fold-Value (Value → Bool) equal_step

-- one of the fields passes the test, or passes it below
abbrev pub at_or_under : (Value → Bool) → List (Value × Bool) → Bool
at_or_under is [] = false
at_or_under is (k ∷ ks) = is k.0 || (k.1 || at_or_under is ks)

abbrev pub below_step : (Value → Bool) → layer.Value-F (Value × Bool) → Bool
below_step is (layer.Int n) = false
below_step is (layer.Bool b) = false
below_step is (layer.Tree c fields) = at_or_under is fields

-- whether the first value is a proper subtree of the second
abbrev pub below : Value → Value → Bool
below t = para-Value Bool (below_step (equal t))

-- the tests are true exactly where the two are equal, and where the first is a proper subtree of the second
pub record CompareTrees : Type 0 where
  pub same : (u v : Value) → IsTrue (equal u v) ↔ (u ≡ v)
  pub subtree : (t u : Value) → IsTrue (below t u) ↔ IsBelow t u
