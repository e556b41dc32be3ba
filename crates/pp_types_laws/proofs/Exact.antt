-- What has a typing where a sort is expected has that sort.
use Rattle.std.proofs.Common.{◌≡◌, ◌∙◌, ℕ, Bool, true, nat_eq, List, [], ◌∷◌, map, refl, sym, ap, subst}
use Rattle.std.proofs.lemmas.Bool.{and_parts, eqb-true}
use Rattle.pp_generic.specs.declared.expected.Expected.{Expected}
use Rattle.pp_generic.specs.declared.expected.Expected.TheFolds.{fold-roll-Expected}
use Rattle.pp_generic.specs.declared.expected.Expected.TheOpen as expected_layer
use Rattle.pp_generic.specs.declared.expected.Expected.TheVariants as expected
use Rattle.pp_typed.specs.Equal.{pass_all}
use Rattle.pp_generic.specs.Expected.{exact, fits, fits_layer, fits_root, fits_step}
use Rattle.pp_rules.specs.declared.callee.Callee.{Callee}
use Rattle.pp_rules.specs.Scope.{Env, Scope}
use Rattle.pp_rules.specs.Typing.{Suits, Types, an_int, a_bool, a_local, a_name, an_application, a_field, a_prefix}
use Rattle.pp_rules.specs.Typing.{an_operation, a_choice, a_match, a_val, an_assert, Applies, applies, TypesCases}
use Rattle.pp_rules.specs.Typing.{one_case, one_guarded}
use Rattle.pp_tree.specs.Plain.{Tree, Trees, TypeTrees, CaseTrees}
use Rattle.pp_typed.specs.InRange.{IsInRange, int_in_range, bool_in_range, param_in_range, root_in_range, AreInRange}
use Rattle.pp_typed.specs.InRange.{none_in_range, more_in_range}
use Rattle.pp_typed.specs.declared.expr.TypedCase.{TypedCase}
use Rattle.pp_typed.specs.declared.expr.TypedExpr.{TypedExpr}
use Rattle.pp_typed.specs.declared.sort.GenericSort.{GenericSort}
use Rattle.pp_typed.specs.declared.sort.GenericSort.TheOpen as layer
use Rattle.pp_typed.specs.declared.sort.GenericSort.TheVariants as sort
use Rattle.pp_typed.specs.declared.sort.GenericSort.TheViews.{out-GenericSort, roll-GenericSort, roll-out-GenericSort}
use Rattle.pp_typed.specs.declared.typed.TypedRoot.{TypedRoot}
use Rattle.pp_types_laws.proofs.Layers.{exact_int, exact_bool, exact_param, exact_root}

-- the tests of each form
fits_int : (v : GenericSort) → fits expected.Int v ≡ fits_layer expected_layer.Int (out-GenericSort v)
fits_int v = ap (λ x. fits x v) (sym expected.rolls-Int)
    ∙ ap (λ (l : GenericSort → Bool). l v) (fold-roll-Expected (GenericSort → Bool) fits_step expected_layer.Int)

fits_bool : (v : GenericSort) → fits expected.Bool v ≡ fits_layer expected_layer.Bool (out-GenericSort v)
fits_bool v = ap (λ x. fits x v) (sym expected.rolls-Bool)
    ∙ ap (λ (l : GenericSort → Bool). l v) (fold-roll-Expected (GenericSort → Bool) fits_step expected_layer.Bool)

fits_param : (i : ℕ) (v : GenericSort) → fits (expected.Param i) v ≡ fits_layer (expected_layer.Param i)
    (out-GenericSort v)
fits_param i v = ap (λ x. fits x v) (sym (expected.rolls-Param i))
    ∙ ap (λ (l : GenericSort → Bool). l v) (fold-roll-Expected (GenericSort → Bool) fits_step (expected_layer.Param i))

fits_of_root : (r : ℕ) (xs : List Expected) (v : GenericSort)
    → fits (expected.Root r xs) v ≡ fits_root r (map fits xs) (out-GenericSort v)
fits_of_root r xs v = ap (λ x. fits x v) (sym (expected.rolls-Root r xs))
    ∙ ap (λ (l : GenericSort → Bool). l v) (fold-roll-Expected (GenericSort
    → Bool) fits_step (expected_layer.Root r xs))

-- a sort is what it shows
shown_as : (v : GenericSort) (o : layer.GenericSort-F GenericSort) → out-GenericSort v ≡ o → v ≡ roll-GenericSort o
shown_as v o e = sym (roll-out-GenericSort v) ∙ ap roll-GenericSort e

int_shown : (o : layer.GenericSort-F GenericSort) → fits_layer expected_layer.Int o ≡ true → o ≡ layer.Int
int_shown layer.Int h = refl
int_shown layer.Bool h = cc
int_shown (layer.Param j) h = cc
int_shown (layer.Root q ys) h = cc

bool_shown : (o : layer.GenericSort-F GenericSort) → fits_layer expected_layer.Bool o ≡ true → o ≡ layer.Bool
bool_shown layer.Int h = cc
bool_shown layer.Bool h = refl
bool_shown (layer.Param j) h = cc
bool_shown (layer.Root q ys) h = cc

param_shown : (i : ℕ) (o : layer.GenericSort-F GenericSort) → fits_layer (expected_layer.Param i) o ≡ true
    → o ≡ layer.Param i
param_shown i layer.Int h = cc
param_shown i layer.Bool h = cc
param_shown i (layer.Param j) h = ap layer.Param (sym (eqb-true i j h))
param_shown i (layer.Root q ys) h = cc

root_shown : (r : ℕ) (tests : List (GenericSort → Bool)) (ss : List GenericSort) (o : layer.GenericSort-F GenericSort)
    → ((vs : List GenericSort) → pass_all tests vs ≡ true → vs ≡ ss) → fits_root r tests o ≡ true → o ≡ layer.Root r ss
root_shown r tests ss layer.Int go h = cc
root_shown r tests ss layer.Bool go h = cc
root_shown r tests ss (layer.Param j) go h = cc
root_shown r tests ss (layer.Root q vs) go h =
    let p = and_parts (nat_eq r q) (pass_all tests vs) h in
    ap (λ n. layer.Root n vs) (sym (eqb-true r q p.0)) ∙ ap (layer.Root r) (go vs p.1)

module _ (roots : List TypedRoot) (m : ℕ) where
  mutual
    -- what fits exactly a sort is that sort
    pub exact_is : {s : GenericSort} → IsInRange roots m s → (v : GenericSort) → fits (exact s) v ≡ true → v ≡ s
    exact_is (int_in_range e) v h =
        shown_as v layer.Int (int_shown (out-GenericSort v)
        (sym (ap (λ x. fits (exact x) v) e ∙ ap (λ x. fits x v) exact_int ∙ fits_int v) ∙ h)) ∙ sort.rolls-Int ∙ sym e
    exact_is (bool_in_range e) v h =
        shown_as v layer.Bool (bool_shown (out-GenericSort v)
        (sym (ap (λ x. fits (exact x) v) e ∙ ap (λ x. fits x v) exact_bool ∙ fits_bool v) ∙ h)) ∙ sort.rolls-Bool
        ∙ sym e
    exact_is (param_in_range i e lt) v h =
        shown_as v (layer.Param i) (param_shown i (out-GenericSort v)
        (sym (ap (λ x. fits (exact x) v) e ∙ ap (λ x. fits x v) (exact_param i) ∙ fits_param i v) ∙ h))
        ∙ sort.rolls-Param i ∙ sym e
    exact_is (root_in_range r root args e there count all) v h =
        shown_as v (layer.Root r args) (root_shown r (map fits (map exact args)) args (out-GenericSort v)
        (λ vs g. exacts_are all vs g)
        (sym (ap (λ x. fits (exact x) v) e ∙ ap (λ x. fits x v) (exact_root r args)
        ∙ fits_of_root r (map exact args) v) ∙ h))
        ∙ sort.rolls-Root r args ∙ sym e

    exacts_are : {ss : List GenericSort} → AreInRange roots m ss → (vs : List GenericSort)
        → pass_all (map fits (map exact ss)) vs ≡ true → vs ≡ ss
    exacts_are none_in_range [] h = refl
    exacts_are none_in_range (v ∷ vs) h = cc
    exacts_are (more_in_range s ss) [] h = cc
    exacts_are (more_in_range {s} {ss} k ks) (v ∷ vs) h =
        let p = and_parts (fits (exact s) v) (pass_all (map fits (map exact ss)) vs) h in
        let a = exact_is k v p.0 in let b = exacts_are ks vs p.1 in cc

module _ (env : Env) where
  suits_applied : {sc : Scope} {at : ℕ} {x : Expected} {ts : TypeTrees} {c : Callee} {es : Trees} {u : TypedExpr}
      → Applies env sc at x ts c es u → Suits x u.of
  suits_applied (applies at sorts starts args all suits) = suits

  mutual
    -- a typing has a sort that suits what is expected
    pub suited : {sc : Scope} {k : ℕ} {x : Expected} {e : Tree} {u : TypedExpr} → Types env sc k x e u → Suits x u.of
    suited (an_int at n suits) = suits
    suited (a_bool at b suits) = suits
    suited (a_local at w i l place there suits) = suits
    suited (a_name at w c none is applied) = suits_applied applied
    suited (an_application at w c is applied) = suits_applied applied
    suited (a_field at w r c j args s base is only place has suits) = suits
    suited (a_prefix at op operand is suits) = suits
    suited (an_operation at op a admitted b taken suits) = suits
    suited (a_choice at c is a b same) = suited a
    suited (a_match at s e cases) = suits_cases cases
    suited (a_val at w new wants a b) = suited b
    suited (an_assert at c is e) = suited e

    suits_cases : {sc : Scope} {x : Expected} {s of : GenericSort} {cs : CaseTrees} {a : TypedCase} {arms : List
        TypedCase}
        → TypesCases env sc x s of cs (a ∷ arms) → Suits x of
    suits_cases {x = x} (one_case p body is rest) = subst (Suits x) is (suited body)
    suits_cases {x = x} (one_guarded p guard test body is rest) = subst (Suits x) is (suited body)
