-- What a pattern binds at a sort, form by form.
use Rattle.std.proofs.Common.{◌≡◌, Bool, true, false, List, [], Option, Some, None, refl}
use Rattle.std.specs.Prelude.{if◌then◌else◌}
use Rattle.pp_prog.specs.declared.sort.Sort.{Sort}
use Rattle.pp_prog.specs.declared.sort.Sort.TheVariants as sort
use Rattle.pp_prog.specs.declared.types.Ctor.{Ctor}
use Rattle.pp_prog.specs.PatternSorts.{Binding, bind_fields, bind_tree, binds_none, then_bind}
use Rattle.pp_prog.specs.Sorts.{same_sort}
use Rattle.pp_prog.proofs.ValueSorts.{one_sort}

pub bind_then : (r : Option (List Sort)) (go : List Sort → Option (List Sort)) (ss : List Sort)
    → then_bind r go ≡ Some ss
    → (here : List Sort) × (r ≡ Some here) × (go here ≡ Some ss)
bind_then None go ss h = cc
bind_then (Some here) go ss h = (here, refl, h)

pub none_binds : (b : Bool) (ss : List Sort) → binds_none b ≡ Some ss → (b ≡ true) × ([] ≡ ss)
none_binds true ss h = (refl, cc)
none_binds false ss h = cc

-- a constructor's pattern, at a tree of its datatype
pub tree_binds : (o : Option Ctor) (bs : List Binding) (s : Sort) (ss : List Sort) → bind_tree o bs s ≡ Some ss
    → (c : Ctor) × (o ≡ Some c) × (sort.Tree c.of ≡ s) × (bind_fields bs c.fields ≡ Some ss)
tree_binds None bs s ss h = cc
tree_binds (Some c) bs s ss h = by (same_sort (sort.Tree c.of) s) refl h
  where
    by : (b : Bool) → same_sort (sort.Tree c.of) s ≡ b → (if b then bind_fields bs c.fields else None) ≡ Some ss
        → (k : Ctor) × (Some c ≡ Some k) × (sort.Tree k.of ≡ s) × (bind_fields bs k.fields ≡ Some ss)
    by true e g = (c, refl, one_sort (sort.Tree c.of) s e, g)
    by false e g = cc
