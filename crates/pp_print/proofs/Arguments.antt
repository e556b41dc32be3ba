-- Lists of arguments that have come to their end.
use Rattle.std.proofs.Common.{◌≡◌, ℕ, min, List, [], ◌∷◌, length, map, drop, refl, ap, arith, length-drop}
use Rattle.std.specs.List.{concat, zip}
use Rattle.pp_prog.specs.declared.expr.Param.{Param}
use Rattle.pp_prog.specs.declared.types.Ctor.{Ctor}
use Rattle.pp_prog.specs.declared.value.Value.{Value}
use Rattle.pp_print.specs.Values.{arguments_text, argument_text}

-- where a list is empty there are no pairs
no_pairs : {A B : Type 0} (xs : List A) (ys : List B) → min (length xs) (length ys) ≡ 0 → zip xs ys ≡ []
no_pairs [] ys e = refl
no_pairs (x ∷ xs) [] e = refl
no_pairs (x ∷ xs) (y ∷ ys) e = absurd (omega (arith, e))

-- after as many as the shorter list has nothing is left to print
pub no_more_arguments : (ctors : List Ctor) (params : List Param) (values : List Value) (n : ℕ)
    → n ≡ min (length params) (length values) → arguments_text ctors (drop n params) (drop n values) ≡ []
no_more_arguments ctors params values n e =
    let left : min (length (drop n params)) (length (drop n values)) ≡ 0 =
    omega (arith, e, length-drop n params, length-drop n values) in
    ap (λ ps. concat (map (argument_text ctors) ps)) (no_pairs (drop n params) (drop n values) left)
