-- The pattern of a constructor that is found, at type arguments that are known.
use Rattle.std.proofs.Common.{◌≡◌, ◌∙◌, ℕ, List, [], length, map, Ok, Err, Result, Option, Some}
use Rattle.std.proofs.Common.{sym, ap, subst, nat_eq, eq-eqb}
use Rattle.std.specs.Prelude.{slice_get}
use Rattle.pp_fault.specs.declared.Halt.{Halt}
use Rattle.pp_fault.specs.declared.Halt.TheVariants.{Memory, Broken}
use Rattle.pp_fault.specs.declared.Rule.{Rule}
use Rattle.pp_fault.specs.declared.Rule.TheVariants.{Arity}
use Rattle.pp_fault.specs.Part.{Part, Tells, and_then}
use Rattle.pp_fault.proofs.Parts.{goes, same_err}
use Rattle.pp_typed.specs.Put.{put}
use Rattle.pp_names.specs.Find.{find_ctor}
use Rattle.pp_names.specs.Places.{Word}
use Rattle.pp_rules.specs.Elab.{AllBound, Bound, arguments, bind, count_patterns, ctor_bound, ctor_found, elab_pattern}
use Rattle.pp_rules.specs.Elab.{elab_patterns, flaw, unless, with_ctor}
use Rattle.pp_rules.specs.Scope.{Env, Scope}
use Rattle.pp_tree.specs.declared.pattern.Pattern.{Pattern}
use Rattle.pp_tree.specs.Plain.{ctor_pattern}
use Rattle.pp_tree.specs.Shown.{pattern_of, pattern_trees}
use Rattle.pp_typed.specs.declared.sort.GenericSort.{GenericSort}
use Rattle.pp_typed.specs.declared.sort.GenericSort.TheViews.{out-GenericSort}
use Rattle.pp_typed.specs.declared.typed.TypedCtor.{TypedCtor}
use Rattle.pp_typing.proofs.Parts.{count_parts}
use Rattle.pp_typing.proofs.Told.{differ, unless_false, unless_true}
use Rattle.pp_typing.proofs.Turns.{stops_both}
use Rattle.pp_typing.specs.Views.{Leaves, TellsBoth}

pub flaw_both : {A S : Type 0} (env : Env) (r : Result A Halt) (s : S) (rule : Rule) (w : Word) (at : ℕ)
    (whole : Part (A × S))
    → whole ≡ flaw env rule w at → Tells r (flaw env rule w at) → TellsBoth r s whole
flaw_both env (Ok a) s rule w at whole e told = cc
flaw_both env (Err Memory) s rule w at whole e told = tt
flaw_both {A} env (Err (Broken f)) s rule w at whole e told = e ∙ ap Err (same_err {A = A} _ f told)

pub leaves_stop : {B S T : Type 0} (r : Result B Halt) (h : Halt) (s : S) (t : T) (part : Part S) (whole : Part
    (B × T)) (go : S → Part (B × T))
    → r ≡ Err h → whole ≡ and_then part go → Leaves (Err h) s part → TellsBoth r t whole
leaves_stop r Memory s t part whole go is e told = subst (λ q. TellsBoth q t whole) (sym is) tt
leaves_stop r (Broken f) s t part whole go is e told = subst (λ q. TellsBoth q t whole) (sym is) (e
    ∙ ap (λ p. and_then p go) told)

pub both_stop_as : {A B S T : Type 0} (r : Result B Halt) (h : Halt) (s : S) (t : T) (part : Part (A × S))
    (whole : Part (B × T)) (go : A × S → Part (B × T))
    → r ≡ Err h → whole ≡ and_then part go → TellsBoth {A = A} (Err h) s part → TellsBoth r t whole
both_stop_as r h s t part whole go is e told = subst (λ q. TellsBoth q t whole) (sym is)
    (stops_both h s t part whole go e told)

module _ (env : Env) (at : ℕ) (n : Option Word) (w : Word) (parts : List Pattern) (s : GenericSort) (k : ℕ) (sc : Scope)
    (i : ℕ) (ctor : TypedCtor) (args : List GenericSort) (f : find_ctor env.declared w ≡ Some i)
    (g : slice_get env.declared.ctors i ≡ Some ctor)
    (a : arguments env at w ctor.root (out-GenericSort s) ≡ Ok args) where
  abbrev whole : Part Bound
  whole = elab_pattern env (ctor_pattern at n w (pattern_trees (map pattern_of parts))) s k sc

  abbrev of_parts : List GenericSort → Scope → Part AllBound
  of_parts ss after = elab_patterns env [] (pattern_trees (map pattern_of parts)) ss k after

  abbrev bound : Part Bound
  bound = and_then (bind env at n s k sc) (λ after. and_then (of_parts (map (put args) ctor.fields) after)
      (ctor_bound env at n i))

  counted : whole ≡ unless env (nat_eq (length parts) (length ctor.fields)) Arity w at bound
  counted =
      ap (ctor_found env at n w (count_patterns (pattern_trees (map pattern_of parts))) of_parts s k sc) f
      ∙ ap (with_ctor env at n w (count_patterns (pattern_trees (map pattern_of parts))) of_parts s k sc i) g
      ∙ goes (arguments env at w ctor.root (out-GenericSort s)) _ args a
      ∙ ap (λ m. unless env (nat_eq m (length ctor.fields)) Arity w at bound) (count_parts parts)

  pub ctor_arity : (length parts ≡ length ctor.fields → ⊥) → whole ≡ flaw env Arity w at
  ctor_arity h = counted ∙ unless_false env (nat_eq (length parts) (length ctor.fields)) w at bound (differ env
      (length parts) (length ctor.fields) h)

  pub ctor_bind : length parts ≡ length ctor.fields → whole ≡ bound
  ctor_bind h = counted ∙ unless_true env (nat_eq (length parts) (length ctor.fields)) w at bound (eq-eqb
      (length parts) (length ctor.fields) h)

  pub ctor_rest : (after : Scope) (ss : List GenericSort) → length parts ≡ length ctor.fields
      → bind env at n s k sc ≡ Ok after
      → map (put args) ctor.fields ≡ ss → whole ≡ and_then (of_parts ss after) (ctor_bound env at n i)
  ctor_rest after ss h b e =
      ctor_bind h ∙ goes (bind env at n s k sc) _ after b
      ∙ ap (λ z. and_then (of_parts z after) (ctor_bound env at n i)) e
