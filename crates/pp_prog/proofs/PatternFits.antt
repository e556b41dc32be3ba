-- What a pattern that fits binds, by its form.
use Rattle.std.proofs.Common.{◌≡◌, Bool, true, false, List, [], ◌++◌, Option, Some, None, refl}
use Rattle.std.specs.Prelude.{ℤ, if◌then◌else◌}
use Rattle.pp_prog.specs.declared.value.Value.{Value}
use Rattle.pp_prog.specs.declared.value.Value.TheOpen as value
use Rattle.pp_prog.specs.Fits.{bound_before, bound_both, fit_bool, fit_int, fits_if, same_truth}

pub before_is : (here : List Value) (r : Option (List Value)) (vs : List Value) → bound_before here r ≡ Some vs
    → (more : List Value) × (r ≡ Some more) × (here ++ more ≡ vs)
before_is here None vs h = cc
before_is here (Some more) vs h = (more, refl, cc)

pub both_are : (a b : Option (List Value)) (vs : List Value) → bound_both a b ≡ Some vs → (here : List Value)
    × (more : List Value) × (a ≡ Some here) × (b ≡ Some more) × (here ++ more ≡ vs)
both_are None b vs h = cc
both_are (Some here) b vs h = let q = before_is here b vs h in (here, q.0, refl, q.1, q.2)

pub empty_if : (b : Bool) (vs : List Value) → fits_if b ≡ Some vs → [] ≡ vs
empty_if true vs h = cc
empty_if false vs h = cc

pub if_some : {A : Type 0} (b : Bool) (o : Option A) (x : A) → (if b then o else None) ≡ Some x
    → (b ≡ true) × (o ≡ Some x)
if_some true o x h = (refl, h)
if_some false o x h = cc

pub int_binds : (n : ℤ) (o : value.Value-F Value) (vs : List Value) → fit_int n o ≡ Some vs → [] ≡ vs
int_binds n (value.Int m) vs h = empty_if _ vs h
int_binds n (value.Bool b) vs h = cc
int_binds n (value.Tree c fs) vs h = cc

pub truth_binds : (a : Bool) (o : value.Value-F Value) (vs : List Value) → fit_bool a o ≡ Some vs → [] ≡ vs
truth_binds a (value.Int m) vs h = cc
truth_binds a (value.Bool b) vs h = empty_if (same_truth a b) vs h
truth_binds a (value.Tree c fs) vs h = cc
