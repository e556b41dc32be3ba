-- Which calls are known: those of certain functions, on arguments of the parameters' sorts.
use Rattle.std.proofs.Common.{◌≡◌, ◌⊎◌, ℕ, Bool, true, false, List, Option, Some, None, Contains, slice_get, refl, sym}
use Rattle.std.proofs.Common.{ap, ◌∙◌, inl, inr}
use Rattle.pp_prog.specs.declared.expr.Function.{Function}
use Rattle.pp_prog.specs.declared.id.FunctionId.{FunctionId}
use Rattle.pp_prog.specs.declared.types.Ctor.{Ctor}
use Rattle.pp_prog.specs.declared.value.Value.{Value}
use Rattle.pp_prog.specs.Sorts.{have_sorts, param_sorts}
use Rattle.pp_prog.proofs.ValueSorts.{Have}
use Rattle.pp_run_laws.proofs.Known.{contains_or_not}

module _ (ctors : List Ctor) (fs : List Function) (gs : List ℕ) where
  -- g is one of these functions, and the arguments have the parameters' sorts
  pub record IsReady (g : FunctionId) (args : List Value) : Type 0 where
    pub near : Contains gs g.0
    pub callee : Function
    pub is : slice_get fs g.0 ≡ Some callee
    pub have : Have ctors (param_sorts callee.params) args

  module _ (g : FunctionId) (args : List Value) where
    abbrev by_sorts : Contains gs g.0 → (h : Function) → slice_get fs g.0 ≡ Some h → (t : Bool)
        → have_sorts ctors args (param_sorts h.params) ≡ t → Option (IsReady g args)
    by_sorts near h is true e = Some (record { near = near; callee = h; is = is; have = e })
    by_sorts near h is false e = None

    abbrev by_function : Contains gs g.0 ⊎ (Contains gs g.0 → ⊥) → (o : Option Function) → slice_get fs g.0 ≡ o
        → Option (IsReady g args)
    by_function (inr never) o is = None
    by_function (inl near) None is = None
    by_function (inl near) (Some h) is = by_sorts near h is (have_sorts ctors args (param_sorts h.params)) refl

    -- whether the call is known
    pub ready : Option (IsReady g args)
    ready = by_function (contains_or_not gs g.0) (slice_get fs g.0) refl

    -- there is an answer
    abbrev pub IsThere : Option (IsReady g args) → Type 0
    IsThere o = (q : IsReady g args) × (o ≡ Some q)

    sorts_there : (r : IsReady g args) (near : Contains gs g.0) (h : Function) (is : slice_get fs g.0 ≡ Some h)
        (t : Bool) (e : have_sorts ctors args (param_sorts h.params) ≡ t) → IsThere (by_sorts near h is t e)
    sorts_there r near h is true e = (record { near = near; callee = h; is = is; have = e }, refl)
    sorts_there r near h is false e =
        let same : r.callee ≡ h = (let both : Some r.callee ≡ Some h = sym r.is ∙ is in cc) in
        let no : true ≡ false = sym r.have ∙ ap (λ (f : Function). have_sorts ctors args (param_sorts f.params)) same
        ∙ e in cc

    function_there : (r : IsReady g args) (n : Contains gs g.0 ⊎ (Contains gs g.0
        → ⊥)) (o : Option Function) (is : slice_get fs g.0 ≡ o) → IsThere (by_function n o is)
    function_there r (inr never) o is = absurd (never r.near)
    function_there r (inl near) None is = let no : None ≡ Some r.callee = sym is ∙ r.is in cc
    function_there r (inl near) (Some h) is =
        sorts_there r near h is (have_sorts ctors args (param_sorts h.params)) refl

    pub ready_there : IsReady g args → IsThere ready
    unfolding ready
    ready_there r = function_there r (contains_or_not gs g.0) (slice_get fs g.0) refl
