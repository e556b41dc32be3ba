-- Steps with renamed operands do the same, where the operands have the same values, sorts and heights.
use Rattle.std.proofs.Common.{◌≡◌, ℕ, false, List, [], ◌∷◌, map, refl, sym, ap}
use Rattle.std.proofs.Common.{◌∙◌, Some}
use Rattle.std.specs.Prelude.{All, if◌then◌else◌, not, ◌&&◌}
use Rattle.std.proofs.lemmas.List.Elements.{All-cons, All-head, All-nil, All-tail}
use Rattle.pp_prog.specs.declared.sort.Sort.{Sort}
use Rattle.pp_prog.specs.declared.types.Ctor.{Ctor}
use Rattle.pp_prog.specs.declared.types.TypeTable.{TypeTable}
use Rattle.pp_prog.specs.declared.value.Value.{Value}
use Rattle.pp_prog.specs.declared.value.Value.TheVariants.{Bool as Truth, Tree}
use Rattle.pp_prog.specs.declared.value.Value.TheViews.{out-Value}
use Rattle.pp_prog.specs.ExprSorts.{unary_sort}
use Rattle.pp_eval.specs.Measure.{goes_down, one_sort}
use Rattle.pp_eval.specs.Meaning.{field}
use Rattle.pp_eval.specs.Operators.{unary}
use Rattle.pp_steps.specs.declared.step.OpenCall.{OpenCall}
use Rattle.pp_steps.specs.declared.step.Step.{Step}
use Rattle.pp_steps.specs.declared.step.Step.TheVariants as steps
use Rattle.pp_steps.specs.Known.{Tells}
use Rattle.pp_steps.specs.Meaning.{Does, Missing, Values, applied, bit, ctor_field, has_ctor, is_answered, value_or}
use Rattle.pp_steps.specs.Sorted.{Constructs, Distinguishes, IsSorted, Selects, SelectsOnly, Sorts, operated_sort}
use Rattle.pp_simplify.specs.Operands.{Each, call_renamed, operands, renamed}

-- the functions agree at the numbers, after these are renamed
abbrev pub Agree : {X : Type 0} → (ℕ → ℕ) → (ℕ → X) → (ℕ → X) → List ℕ → Type 0
Agree r f g = Each (λ a. g (r a) ≡ f a)

pub map_agree : {X : Type 0} (r : ℕ → ℕ) (f g : ℕ → X) (ns : List ℕ) → Agree r f g ns → map g (map r ns) ≡ map f ns
map_agree r f g [] h = refl
map_agree r f g (n ∷ ns) h = ap (λ x. x ∷ map g (map r ns)) h.0 ∙ ap (λ l. f n ∷ l) (map_agree r f g ns h.1)

pub map_same : (ns : List ℕ) → map (λ a. a) ns ≡ ns
map_same [] = refl
map_same (n ∷ ns) = ap (λ l. n ∷ l) (map_same ns)

-- an open call with its own numbers
abbrev with_args : OpenCall → List ℕ → OpenCall
with_args c ns = record {
  callee = c.callee;
  wait = c.wait;
  reach = c.reach;
  params = c.params;
  result = c.result;
  args = ns;
}

call_same : (c : OpenCall) → call_renamed (λ a. a) c ≡ c
call_same c = ap (with_args c) (map_same c.args)

-- a step with its own operands
pub renamed_same : (s : Step) → renamed (λ a. a) s ≡ s
renamed_same (steps.Open s) = refl
renamed_same (steps.Int n) = refl
renamed_same (steps.Bool b) = refl
renamed_same (steps.Not a) = refl
renamed_same (steps.Both a b) = refl
renamed_same (steps.Choose c a b) = refl
renamed_same (steps.Unary op a) = refl
renamed_same (steps.Binary op a b) = refl
renamed_same (steps.Construct c fields) = ap (λ l. steps.Construct c l) (map_same fields)
renamed_same (steps.IsCtor c n a) = refl
renamed_same (steps.CtorField c i a) = refl
renamed_same (steps.Field a i) = refl
renamed_same (steps.IsAlike a b) = refl
renamed_same (steps.GoesDown a b) = refl
renamed_same (steps.HasAnswer c) = ap steps.HasAnswer (call_same c)
renamed_same (steps.Answer c) = ap steps.Answer (call_same c)

module _ (r : ℕ → ℕ) where
  -- ---- values

  pub does_renamed : (ctors : List Ctor) (missing : Missing) (ρ τ : Values) (s : Step) (v : Value)
      → Agree r ρ τ (operands s) → Does ctors missing ρ s v → Does ctors missing τ (renamed r s) v
  does_renamed ctors missing ρ τ (steps.Open s) v e d = tt
  does_renamed ctors missing ρ τ (steps.Int n) v e d = d
  does_renamed ctors missing ρ τ (steps.Bool b) v e d = d
  does_renamed ctors missing ρ τ (steps.Not a) v e d = d ∙ ap (λ x. Truth (not (bit x))) (sym e.0)
  does_renamed ctors missing ρ τ (steps.Both a b) v e d =
      d ∙ ap (λ x. Truth (bit x && bit (ρ b))) (sym e.0) ∙ ap (λ x. Truth (bit (τ (r a)) && bit x)) (sym e.1.0)
  does_renamed ctors missing ρ τ (steps.Choose c a b) v e d =
      d ∙ ap (λ x. if bit x then ρ a else ρ b) (sym e.0)
      ∙ ap (λ x. if bit (τ (r c)) then x else ρ b) (sym e.1.0)
      ∙ ap (λ x. if bit (τ (r c)) then τ (r a) else x) (sym e.1.1.0)
  does_renamed ctors missing ρ τ (steps.Unary op a) v e d = d ∙ ap (λ x. value_or (Truth false) (unary op x)) (sym e.0)
  does_renamed ctors missing ρ τ (steps.Binary op a b) v e d =
      d ∙ ap (λ x. value_or (Truth false) (applied op x (ρ b))) (sym e.0)
      ∙ ap (λ x. value_or (Truth false) (applied op (τ (r a)) x)) (sym e.1.0)
  does_renamed ctors missing ρ τ (steps.Construct c fields) v e d = d
      ∙ ap (λ l. Tree c l) (sym (map_agree r ρ τ fields e))
  does_renamed ctors missing ρ τ (steps.IsCtor c n a) v e d = d ∙ ap (λ x. Truth (has_ctor c n x)) (sym e.0)
  does_renamed ctors missing ρ τ (steps.CtorField c i a) v e d = d ∙ ap (λ x. ctor_field missing c i x) (sym e.0)
  does_renamed ctors missing ρ τ (steps.Field a i) v e d =
      d ∙ ap (λ x. value_or (Truth false) (field x i)) (sym e.0)
  does_renamed ctors missing ρ τ (steps.IsAlike a b) v e d =
      d ∙ ap (λ x. Truth (one_sort ctors (out-Value x) (out-Value (ρ b)))) (sym e.0)
      ∙ ap (λ x. Truth (one_sort ctors (out-Value (τ (r a))) (out-Value x))) (sym e.1.0)
  does_renamed ctors missing ρ τ (steps.GoesDown a b) v e d =
      d ∙ ap (λ x. Truth (goes_down x (ρ b))) (sym e.0) ∙ ap (λ x. Truth (goes_down (τ (r a)) x)) (sym e.1.0)
  does_renamed ctors missing ρ τ (steps.HasAnswer c) v e d =
      λ on. d (sym (ap bit e.0) ∙ on)
      ∙ ap (λ vs. Truth (is_answered (missing.answer c.wait c.callee c.params c.result vs)))
      (sym (map_agree r ρ τ c.args e.1))
  does_renamed ctors missing ρ τ (steps.Answer c) v e d =
      λ on u is. d (sym (ap bit e.0) ∙ on) u
      (ap (missing.answer c.wait c.callee c.params c.result) (sym (map_agree r ρ τ c.args e.1)) ∙ is)

  -- ---- sorts

  pub sorted_renamed : (types : TypeTable) (σ τ : Sorts) (s : Step) (t : Sort) → Agree r σ τ (operands s)
      → IsSorted types σ s t → IsSorted types τ (renamed r s) t
  sorted_renamed types σ τ (steps.Open s) t e h = h
  sorted_renamed types σ τ (steps.Int n) t e h = h
  sorted_renamed types σ τ (steps.Bool b) t e h = h
  sorted_renamed types σ τ (steps.Not a) t e h = (e.0 ∙ h.0, h.1)
  sorted_renamed types σ τ (steps.Both a b) t e h = (e.0 ∙ h.0, e.1.0 ∙ h.1, h.2)
  sorted_renamed types σ τ (steps.Choose c a b) t e h = (e.0 ∙ h.0, e.1.0 ∙ h.1, e.1.1.0 ∙ h.2)
  sorted_renamed types σ τ (steps.Unary op a) t e h = ap (λ x. unary_sort op (Some x)) e.0 ∙ h
  sorted_renamed types σ τ (steps.Binary op a b) t e h =
      ap (λ x. operated_sort op (Some x) (Some (τ (r b)))) e.0
      ∙ ap (λ x. operated_sort op (Some (σ a)) (Some x)) e.1.0 ∙ h
  sorted_renamed types σ τ (steps.Construct c fields) t e h =
      let made : Constructs types σ c fields t = h in
      record {
        ctor = made.ctor;
        stands = made.stands;
        fields = map_agree r σ τ fields e ∙ made.fields;
        result =
            made.result;
      }
  sorted_renamed types σ τ (steps.IsCtor c n a) t e h =
      let made : Distinguishes types σ c n a = h.0 in (
        record { ctor = made.ctor; stands = made.stands; operand = e.0 ∙ made.operand; fields = made.fields },
        h.1,
      )
  sorted_renamed types σ τ (steps.CtorField c i a) t e h =
      let made : Selects types σ c i a t = h in
      record { ctor = made.ctor; stands = made.stands; operand = e.0 ∙ made.operand; field = made.field }
  sorted_renamed types σ τ (steps.Field a i) t e h =
      let made : SelectsOnly types σ a i t = h in
      record { datatype = made.datatype; operand = e.0 ∙ made.operand; field = made.field }
  sorted_renamed types σ τ (steps.IsAlike a b) t e h = (e.0 ∙ h.0 ∙ sym e.1.0, h.1)
  sorted_renamed types σ τ (steps.GoesDown a b) t e h = (e.0 ∙ h.0 ∙ sym e.1.0, h.1)
  sorted_renamed types σ τ (steps.HasAnswer c) t e h = (e.0 ∙ h.0, map_agree r σ τ c.args e.1 ∙ h.1, h.2)
  sorted_renamed types σ τ (steps.Answer c) t e h = (map_agree r σ τ c.args e.1 ∙ h.0, h.1, h.2)

  -- ---- what is known

  -- the operand has the same value, and where it is known so is the renamed one
  pub record IsGiven (ρ τ : Values) (K J : ℕ → Type 0) (a : ℕ) : Type 0 where
    pub value : τ (r a) ≡ ρ a
    pub known : K a → J (r a)

  given_all : (ρ τ : Values) (K J : ℕ → Type 0) (ns : List ℕ) → Each (IsGiven ρ τ K J) ns → All K ns → All J (map r ns)
  given_all ρ τ K J [] e all = All-nil J
  given_all ρ τ K J (n ∷ ns) e all =
      All-cons J (r n) (map r ns) (e.0.known (All-head K n ns all)) (given_all ρ τ K J ns e.1 (All-tail K n ns all))

  pub tells_renamed : (ρ τ : Values) (K J : ℕ → Type 0) (k : ℕ) (s : Step) → Each (IsGiven ρ τ K J) (operands s)
      → (J k → K k) → Tells τ J (renamed r s) k → Tells ρ K s k
  tells_renamed ρ τ K J k (steps.Open s) e on tells = tt
  tells_renamed ρ τ K J k (steps.Int n) e on tells = on tells
  tells_renamed ρ τ K J k (steps.Bool b) e on tells = on tells
  tells_renamed ρ τ K J k (steps.Not a) e on tells = λ x. on (tells (e.0.known x))
  tells_renamed ρ τ K J k (steps.Both a b) e on tells =
      λ x y. on (tells (e.0.known x) (λ t. e.1.0.known (y (sym (ap bit e.0.value) ∙ t))))
  tells_renamed ρ τ K J k (steps.Choose c a b) e on tells =
      λ x y z. on (tells (e.0.known x) (λ t. e.1.0.known (y (sym (ap bit e.0.value) ∙ t)))
      (λ t. e.1.1.0.known (z (sym (ap bit e.0.value) ∙ t))))
  tells_renamed ρ τ K J k (steps.Unary op a) e on tells = λ x. on (tells (e.0.known x))
  tells_renamed ρ τ K J k (steps.Binary op a b) e on tells =
      λ x y. on (tells (e.0.known x) (e.1.0.known y))
  tells_renamed ρ τ K J k (steps.Construct c fields) e on tells = λ all. on (tells (given_all ρ τ K J fields e all))
  tells_renamed ρ τ K J k (steps.IsCtor c n a) e on tells = λ x. on (tells (e.0.known x))
  tells_renamed ρ τ K J k (steps.CtorField c i a) e on tells =
      λ x fields is. on (tells (e.0.known x) fields (e.0.value ∙ is))
  tells_renamed ρ τ K J k (steps.Field a i) e on tells = λ x. on (tells (e.0.known x))
  tells_renamed ρ τ K J k (steps.IsAlike a b) e on tells = λ x y. on (tells (e.0.known x) (e.1.0.known y))
  tells_renamed ρ τ K J k (steps.GoesDown a b) e on tells = λ x y. on (tells (e.0.known x) (e.1.0.known y))
  tells_renamed ρ τ K J k (steps.HasAnswer c) e on tells = tt
  tells_renamed ρ τ K J k (steps.Answer c) e on tells = tt

-- a step tells of a number that is known anyway
pub tells_anyway : (ρ : Values) (K : ℕ → Type 0) (k : ℕ) (s : Step) → K k → Tells ρ K s k
tells_anyway ρ K k (steps.Open s) h = tt
tells_anyway ρ K k (steps.Int n) h = h
tells_anyway ρ K k (steps.Bool b) h = h
tells_anyway ρ K k (steps.Not a) h = λ x. h
tells_anyway ρ K k (steps.Both a b) h = λ x y. h
tells_anyway ρ K k (steps.Choose c a b) h = λ x y z. h
tells_anyway ρ K k (steps.Unary op a) h = λ x. h
tells_anyway ρ K k (steps.Binary op a b) h = λ x y. h
tells_anyway ρ K k (steps.Construct c fields) h = λ all. h
tells_anyway ρ K k (steps.IsCtor c n a) h = λ x. h
tells_anyway ρ K k (steps.CtorField c i a) h = λ x fields is. h
tells_anyway ρ K k (steps.Field a i) h = λ x. h
tells_anyway ρ K k (steps.IsAlike a b) h = λ x y. h
tells_anyway ρ K k (steps.GoesDown a b) h = λ x y. h
tells_anyway ρ K k (steps.HasAnswer c) h = tt
tells_anyway ρ K k (steps.Answer c) h = tt
