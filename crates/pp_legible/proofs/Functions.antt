-- The functions of a program have the printed names of its instances, and the parameters of typed functions.
use Rattle.std.proofs.Common.{◌≡◌, ◌∙◌, ℕ, zero, suc, List, [], ◌∷◌, ◌++◌, Option, Some, None, map, option_map, refl}
use Rattle.std.proofs.Common.{sym, ap}
use Rattle.std.specs.Prelude.{slice_get}
use Rattle.std.proofs.lemmas.Option.{same_Some, slice_get-map}
use Rattle.pp_instances.specs.Laws.{HaveNames}
use Rattle.pp_instances.specs.declared.member.Instance.{Instance}
use Rattle.pp_instances.specs.declared.member.Member.{Member}
use Rattle.pp_prog.specs.declared.expr.Function.{Function}
use Rattle.pp_translation.specs.Bare.{bare_function}
use Rattle.pp_translation.specs.Functions.{function_if, function_of, functions_of, param_at}
use Rattle.pp_typed.specs.declared.typed.Typed.{Typed}
use Rattle.pp_typed.specs.declared.typed.TypedDef.{TypedDef}
use Rattle.pp_legible.proofs.Unlike.{Has, Unlike, has_more, places_unlike, unlike_places}

abbrev AreNamedAlike : Function → Function → Type 0
AreNamedAlike f g = f.name ≡ g.name

abbrev HaveOnePrinted : Instance → Instance → Type 0
HaveOnePrinted a b = a.name ≡ b.name

module _ (typed : Typed) (texts : List (List ℕ)) (roots functions : List Member) where
  -- the function is a typed one at the arguments of an instance, with the instance's name
  pub record IsNamedBy (is : List Instance) (f : Function) : Type 0 where
    pub from : Instance
    pub among : Has is from
    pub def : TypedDef
    pub defined : slice_get typed.defs from.number ≡ Some def
    pub name : f.name ≡ from.name
    pub params : f.params ≡ map (param_at roots from.args) def.params

  among_more : (i : Instance) (is : List Instance) (f : Function) → IsNamedBy is f → IsNamedBy (i ∷ is) f
  among_more i is f n = record {
    from = n.from;
    among = has_more i n.among;
    def = n.def;
    defined = n.defined;
    name = n.name;
    params = n.params;
  }

  if_named : (i : Instance) (is : List Instance) (o : Option TypedDef) (f : Function)
      → slice_get typed.defs i.number ≡ o
      → ((f : Function) → Has (functions_of typed texts roots functions is) f → IsNamedBy is f)
      → Has (function_if typed texts roots functions i o ++ functions_of typed texts roots functions is) f
      → IsNamedBy (i ∷ is) f
  if_named i is None f defined rest h = among_more i is f (rest f h)
  if_named i is (Some d) f defined rest h = by h.place h.here
    where
      by : (k : ℕ)
          → slice_get (function_of typed texts roots functions i d ∷ functions_of typed texts roots functions is) k
          ≡ Some f → IsNamedBy (i ∷ is) f
      by zero at = record {
        from = i;
        among = record { place = 0; here = refl };
        def = d;
        defined = defined;
        name = ap (λ (g : Function). g.name) (sym (same_Some _ _ at));
        params = ap (λ (g : Function). g.params) (sym (same_Some _ _ at));
      }
      by (suc k) at = among_more i is f (rest f (record { place = k; here = at }))

  named_by : (is : List Instance) (f : Function) → Has (functions_of typed texts roots functions is) f → IsNamedBy is f
  named_by [] f h = let at = h.here in cc
  named_by (i ∷ is) f h = if_named i is (slice_get typed.defs i.number) f refl (named_by is) h

  if_unlike : (i : Instance) (is : List Instance) (o : Option TypedDef)
      → ((a : Instance) → Has is a → i.name ≡ a.name → ⊥)
      → Unlike AreNamedAlike (functions_of typed texts roots functions is)
      → Unlike AreNamedAlike
      (function_if typed texts roots functions i o ++ functions_of typed texts roots functions is)
  if_unlike i is None apart rest = rest
  if_unlike i is (Some d) apart rest =
      ((λ f has same. let n = named_by is f has in apart n.from n.among (same ∙ n.name)), rest)

  functions_unlike : (is : List Instance) → Unlike HaveOnePrinted is
      → Unlike AreNamedAlike (functions_of typed texts roots functions is)
  functions_unlike [] h = tt
  functions_unlike (i ∷ is) h =
      if_unlike i is (slice_get typed.defs i.number) h.0 (functions_unlike is h.1)

  -- these are the forms of the functions
  abbrev AreForms : List Instance → List Function → Type 0
  AreForms is fs = map bare_function fs ≡ functions_of typed texts roots functions is

  form_at : (is : List Instance) (fs : List Function) → AreForms is fs → (k : ℕ) (f : Function)
      → slice_get fs k ≡ Some f → slice_get (functions_of typed texts roots functions is) k ≡ Some (bare_function f)
  form_at is fs forms k f at =
      ap (λ l. slice_get l k) (sym forms) ∙ slice_get-map bare_function fs k ∙ ap (option_map bare_function) at

  -- a function has the name of an instance
  pub has_name : (is : List Instance) (fs : List Function) → AreForms is fs → (k : ℕ) (f : Function)
      → slice_get fs k ≡ Some f → IsNamedBy is (bare_function f)
  has_name is fs forms k f at =
      named_by is (bare_function f) (record { place = k; here = form_at is fs forms k f at })

  -- where the names of instances tell them, those of functions do
  pub names_tell : (is : List Instance) (fs : List Function) → HaveNames is
      → AreForms is fs → (i j : ℕ) (f g : Function)
      → slice_get fs i ≡ Some f → slice_get fs j ≡ Some g → f.name ≡ g.name → i ≡ j
  names_tell is fs names forms i j f g there here same =
      unlike_places AreNamedAlike (λ a b s. sym s) (functions_of typed texts roots functions is)
      (functions_unlike is (places_unlike HaveOnePrinted is names)) i j (bare_function f) (bare_function g)
      (form_at is fs forms i f there) (form_at is fs forms j g here) same
