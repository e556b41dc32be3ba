-- The rules of measures: calls into a group, the shape of a measure, and the first function that breaks a rule.
use Rattle.std.proofs.Common.{◌≡◌, ◌↔◌, ◌<◌, ◌≤◌, ◌+◌, ℕ, true, false, List, [], ◌∷◌, map, take, length, get_or, Some}
use Rattle.std.proofs.Common.{slice_get, refl, sym, ap, ◌∙◌, subst, arith, inl, inr, ⊎_elim, Contains, IsTrue}
use Rattle.std.specs.List.{list_all}
use Rattle.std.proofs.lemmas.Bool.Decides.{eqb_tells}
use Rattle.std.proofs.lemmas.List.{length-map, take_all, take_more}
use Rattle.std.proofs.lemmas.List.Elements.{Contains-push_cases}
use Rattle.std.proofs.lemmas.Option.{slice_get-map}
use Rattle.std.specs.Option.{option_map}
use Rattle.pp_graph.specs.Reaches.{called_by, calls_of}
use Rattle.pp_prog.specs.declared.expr.Expr.{Expr}
use Rattle.pp_prog.specs.declared.expr.Function.{Function}
use Rattle.pp_prog.specs.declared.sort.Sort.{Sort}
use Rattle.pp_prog.specs.declared.types.TypeTable.{TypeTable}
use Rattle.pp_prog.specs.Calls.{OneGroup, call_table, function_calls}
use Rattle.pp_prog.specs.Results.{result_of}
use Rattle.pp_prog.specs.Sorts.{param_sorts}
use Rattle.pp_prog.specs.Valid.{has_measure, is_written}
use Rattle.pp_checks.specs.declared.fault.PlanFault.{PlanFault}
use Rattle.pp_checks.specs.declared.fault.PlanFault.TheVariants.{NoMeasure, MeasureShape, ContractCycle, Memory}
use Rattle.pp_checks.specs.Rules.{CallsInto, HasShape, IsFault, IsFaultAt, IsFirstMeasured, KeepRules, KeepsRules}
use Rattle.pp_checks.specs.Rules.{is_component, measure_sorts}

-- none of one more
pub none_more : (P : ℕ → Type 0) (xs : List ℕ) (i : ℕ) → i < length xs → (P (get_or xs i 0) → ⊥) → ((h : ℕ)
    → Contains (take i xs) h → P h → ⊥) → (h : ℕ) → Contains (take (i + 1) xs) h → P h → ⊥
none_more P xs i lt here before h has p =
    ⊎_elim (λ o. before h o p) (λ e. here (subst P (sym e) p)) (Contains-push_cases (take i xs) (get_or xs i 0) h
    (subst (λ l. Contains l h) (take_more xs i 0 lt) has))

-- none of all
pub none_of_all : (functions : List Function) (f i : ℕ) (called : List ℕ) → length called ≤ i → ((h : ℕ)
    → Contains (take i called) h → OneGroup functions f h → ⊥) → IsTrue false ↔ CallsInto functions f called
none_of_all functions f i called over none = (
  λ t. let no : false ≡ true = t in cc,
  λ c. absurd (none c.0 (subst (λ l. Contains l c.0) (sym (take_all i called over)) c.1) c.2),
)

-- what function number f calls
pub calls_at : (functions : List Function) (f : ℕ) (function : Function) → slice_get functions f ≡ Some function
    → calls_of (call_table functions) f ≡ function_calls function
calls_at functions f function is =
    ap called_by (slice_get-map function_calls functions f ∙ ap (option_map function_calls) is)

module _ (types : TypeTable) (functions : List Function) where
  empty_map : (es : List Expr) (g : Expr → Sort) → map g es ≡ [] → es ≡ []
  empty_map [] g e = refl
  empty_map (x ∷ es) g e = cc

  no_measure : (es : List Expr) → es ≡ [] → is_written es ≡ true → ⊥
  no_measure es e w = let no : false ≡ true = sym (ap is_written e) ∙ w in cc

  -- a function without a measure has the shape
  pub shape_of_none : (f : ℕ) (function : Function) (sorts : List Sort)
      → sorts ≡ measure_sorts types functions function → sorts ≡ [] → HasShape types functions f function
  shape_of_none f function sorts all none =
      let empty = empty_map function.measure (λ (e : Expr). result_of types functions e (param_sorts
      function.params)) (sym all ∙ none) in
      record {
        components = ap (list_all is_component) (sym all ∙ none);
        few = omega (arith, ap (length {A = Expr}) empty);
        alike = λ w. absurd (no_measure function.measure empty w);
      }

  written : (es : List Expr) (g : Expr → Sort) → (map g es ≡ [] → ⊥) → is_written es ≡ true
  written [] g ne = absurd (ne refl)
  written (e ∷ es) g ne = refl

  -- a function whose measure isn't empty has one
  pub measured_at : (f : ℕ) (function : Function) (sorts : List Sort) → slice_get functions f ≡ Some function
      → sorts ≡ measure_sorts types functions function → (sorts ≡ [] → ⊥)
      → IsTrue (has_measure (slice_get functions f))
  measured_at f function sorts here all ne =
      ap has_measure here ∙ written function.measure (λ (e : Expr). result_of types functions e (param_sorts
      function.params)) (λ e. ne (all ∙ e))

  one_first : (f g h : ℕ) → IsFirstMeasured functions f g → IsFirstMeasured functions f h → g ≡ h
  one_first f g h a b = elim (eqb_tells g h) [
    | inl e ↦ e.1
    | inr ne ↦ absurd (ne.1 (by (λ lt. a.first h lt b.alike
        b.measured) (λ lt. b.first g lt a.alike a.measured)))
  ]
    where
      by : (h < g → ⊥) → (g < h → ⊥) → g ≡ h
      by p q = omega (arith, p, q)

  -- the shape, where the first measure of the group is known
  pub shape_is : (f g : ℕ) (function first : Function) (sorts others : List Sort)
      → sorts ≡ measure_sorts types functions function → (sorts ≡ [] → ⊥)
      → others ≡ measure_sorts types functions first → IsFirstMeasured functions f g
      → slice_get functions g ≡ Some first → ((sorts ≡ others) × (length sorts ≤ 4) × IsTrue (list_all is_component
      sorts)) ↔ HasShape types functions f function
  shape_is f g function first sorts others all ne rest is there = (
    λ s. record {
      components = ap (list_all is_component) (sym all) ∙ s.2;
      few = omega (
        arith,
        s.1,
        ap (length {A = Sort}) all,
        length-map function.measure (λ (e : Expr). result_of
            types functions e (param_sorts function.params)),
      );
      alike = λ w h other is_h there_h. sym all ∙ s.0 ∙ rest ∙ ap (measure_sorts types functions) (same h other
          is_h there_h);
    },
    λ s. (
      all ∙ s.alike (written function.measure (λ (e : Expr). result_of types functions e (param_sorts
          function.params)) (λ e. ne (all ∙ e))) g first is there ∙ sym rest,
      omega (
        arith,
        s.few,
        ap (length {A = Sort}) all,
        length-map function.measure (λ (e : Expr). result_of types
            functions e (param_sorts function.params)),
      ),
      ap (list_all is_component) all ∙ s.components,
    ),
  )
    where
      same : (h : ℕ) (other : Function) → IsFirstMeasured functions f h → slice_get functions h ≡ Some other
          → first ≡ other
      same h other is_h there_h =
          let both : Some first ≡ Some other = sym there ∙ ap (slice_get functions) (one_first f g h is is_h)
          ∙ there_h in cc

  -- one function more keeps the rules
  pub keep_more : (n : ℕ) (function : Function) → slice_get functions n ≡ Some function
      → KeepRules types functions n → KeepsRules types functions n function → KeepRules types functions (n + 1)
  keep_more n function here before keeps f g lt is =
      elim (eqb_tells f n) [ inl e ↦ at e.1 | inr ne ↦ before f g (omega (arith, ne.1)) is ]
    where
      at : f ≡ n → KeepsRules types functions f g
      at e =
          let both : Some function ≡ Some g = sym here ∙ ap (slice_get functions) (sym e) ∙ is in
          let same : function ≡ g = (cc) in
          subst (λ k. KeepsRules types functions k g) (sym e) (subst (KeepsRules types functions n) same keeps)

  pub first_fault : (fault : PlanFault) (f : ℕ) (function : Function) → slice_get functions f ≡ Some function
      → KeepRules types functions f → IsFaultAt types functions fault f function → IsFault types functions fault
  first_fault Memory f function here before why = tt
  first_fault (NoMeasure g) f function here before why =
      record { place = f; function = function; here = here; before = before; breaks = why }
  first_fault (MeasureShape g) f function here before why =
      record { place = f; function = function; here = here; before = before; breaks = why }
  first_fault (ContractCycle g) f function here before why =
      record { place = f; function = function; here = here; before = before; breaks = why }
