-- An expression that has a typing has the sort that it carries, which is in range.
use Rattle.std.proofs.Common.{◌≡◌, ◌∙◌, ℕ, zero, suc, Bool, true, false, List, [], ◌∷◌, ◌++◌, Option, Some, None}
use Rattle.std.proofs.Common.{length, map, slice_get, option_map, refl, sym, ap, subst}
use Rattle.std.proofs.lemmas.List.{length-map}
use Rattle.std.proofs.lemmas.Option.{same_Some, slice_get-map}
use Rattle.pp_generic.specs.declared.expected.Expected.{Expected}
use Rattle.pp_generic.specs.Expected.{Found, exact}
use Rattle.pp_generic.specs.Found.{learn, none_found}
use Rattle.pp_generic.proofs.Putting.{put_root}
use Rattle.pp_names.specs.Places.{Word}
use Rattle.pp_rules.specs.declared.callee.Callee.{Callee}
use Rattle.pp_rules.specs.Elab.{arm, typed}
use Rattle.pp_operators.specs.Classes.{is_equality}
use Rattle.pp_rules.specs.Operators.{right_expected}
use Rattle.pp_rules.specs.Scope.{Env, Scope}
use Rattle.pp_rules.specs.Shapes.{application, field_of, own_params}
use Rattle.pp_rules.specs.Typing.{Starts, starts_expected, starts_written, Wants, wants_nothing, wants_written, Types}
use Rattle.pp_rules.specs.Typing.{an_int, a_bool, a_local, a_name, an_application, a_field, a_prefix, an_operation}
use Rattle.pp_rules.specs.Typing.{a_choice, a_match, a_val, an_assert, Applies, applies, TypesArgs, no_arg, one_arg}
use Rattle.pp_rules.specs.Typing.{TypesCases, no_case, one_case, one_guarded}
use Rattle.pp_tree.specs.Plain.{Tree, Trees, TypeTree, TypeTrees, CaseTrees}
use Rattle.pp_typed.specs.InRange.{IsInRange, int_in_range, bool_in_range, AreInRange, none_in_range, more_in_range}
use Rattle.pp_typed.specs.Put.{put}
use Rattle.pp_typed.specs.Sorted.{IsSorted, sorted_int, sorted_bool, sorted_local, sorted_call, sorted_construct}
use Rattle.pp_typed.specs.Sorted.{sorted_field, sorted_unary, sorted_binary, sorted_if, sorted_match, sorted_val}
use Rattle.pp_typed.specs.Sorted.{sorted_assert, AreSorted, none_sorted, more_sorted, IsSortedGuard, no_guard}
use Rattle.pp_typed.specs.Sorted.{one_guard, AreSortedCases, no_cases, more_cases, ctors_of}
use Rattle.pp_typed.specs.Sorted as sorted
use Rattle.pp_typed.specs.declared.declared.Declared.{Declared}
use Rattle.pp_typed.specs.declared.declared.Signature.{Signature}
use Rattle.pp_typed.specs.declared.expr.TypedCase.{TypedCase}
use Rattle.pp_typed.specs.declared.expr.TypedExpr.{TypedExpr}
use Rattle.pp_typed.specs.declared.expr.TypedKind.TheOpen as layer
use Rattle.pp_typed.specs.declared.expr.TypedKind.TheViews.{out-roll-TypedCase}
use Rattle.pp_typed.specs.declared.pattern.TypedPattern.{TypedPattern}
use Rattle.pp_typed.specs.declared.sort.GenericSort.{GenericSort}
use Rattle.pp_typed.specs.declared.sort.GenericSort.TheVariants as sort
use Rattle.pp_typed.specs.declared.typed.Typed.{Typed}
use Rattle.pp_typed.specs.declared.typed.TypedCtor.{TypedCtor}
use Rattle.pp_typed.specs.declared.typed.TypedDef.{TypedDef}
use Rattle.pp_typed.specs.declared.typed.TypedRoot.{TypedRoot}
use Rattle.pp_typed_forms.proofs.Operators.{gives_in_range}
use Rattle.pp_types_laws.proofs.Callees.{IsFunctionAs, IsCallee, is_function, is_constructor, applied_is, callee_params}
use Rattle.pp_types_laws.proofs.Callees.{callee_result, named_is, only_of_root, put_own}
use Rattle.pp_types_laws.proofs.Patterns.{HasFields, pattern_bound, root_parts, sorts_append, sorts_in, typed_of}
use Rattle.pp_types_laws.proofs.Ranges.{Extends, IsLearnt, all_of_found, append_in_range, at_in_range, every_extends}
use Rattle.pp_types_laws.proofs.Ranges.{every_is, every_length, exact_in_range, expect_in_range, known_put}
use Rattle.pp_types_laws.proofs.Ranges.{learn_in_range, learnt_more, learnt_nothing, none_in_found, none_length}
use Rattle.pp_types_laws.proofs.Ranges.{put_in_range}
use Rattle.pp_types_laws.proofs.WrittenTypes.{all_written_count, all_written_in_range, written_in_range}
use Rattle.pp_types_laws.specs.Literals.{ExprInts, ExprsInts, CasesInts}
use Rattle.pp_types_laws.specs.Ranges.{IsExpectable, open_expectable, FoundInRange}

-- the declarations that functions and constructors of expressions are found among
module _ (declared : Declared) (defs : List TypedDef) (type_params : List Word) (function : Word) (source : ℕ)
    (functions : (i : ℕ) (s : Signature) → slice_get declared.functions i ≡ Some s → IsFunctionAs declared defs i s)
    (ctors : (i : ℕ) (c : TypedCtor) → slice_get declared.ctors i ≡ Some c → HasFields declared.roots c) where
  abbrev pub env : Env
  env = record { declared = declared; type_params = type_params; function = function; source = source }

  abbrev roots : List TypedRoot
  roots = declared.roots

  abbrev m : ℕ
  m = length type_params

  abbrev t : Typed
  t = typed_of declared defs

  abbrev pub Ranges : Scope → Type 0
  Ranges sc = AreInRange roots m (sorts_in sc)

  -- an expression has the sort that it carries, which is in range
  pub record IsWell (sc : Scope) (u : TypedExpr) : Type 0 where
    pub is_sorted : IsSorted t m (sorts_in sc) u
    pub in_range : IsInRange roots m u.of

  -- arguments for parameters of a declaration with n type parameters
  record AreWell (n : ℕ) (sc : Scope) (ps : List GenericSort) (us : List TypedExpr) (found after : Found) : Type 0 where
    learnt : IsLearnt roots n m found after
    are_sorted : (sorts : List GenericSort) → Extends after sorts → AreSorted t m (sorts_in sc) (map (put sorts) ps) us

  -- what is found before the arguments is in range, of as many as there are type parameters
  record IsStart (n : ℕ) (found : Found) : Type 0 where
    count : length found ≡ n
    ok : FoundInRange roots m found

  all_found : (sorts : List GenericSort) → AreInRange roots m sorts → FoundInRange roots m (map Some sorts)
  all_found [] none_in_range i s e = cc
  all_found (x ∷ xs) (more_in_range h hs) zero s e = subst (IsInRange roots m) (same_Some x s (same_Some (Some x)
      (Some s) e)) h
  all_found (x ∷ xs) (more_in_range h hs) (suc i) s e = all_found xs hs i s e

  started : {x : Expected} {ts : TypeTrees} {c : Callee} {found : Found} → Starts env x ts c found
      → IsInRange roots c.type_params c.result → IsExpectable roots m x → IsStart c.type_params found
  started {x} {ts} {c} starts_expected result h =
      let learnt = learn_in_range roots c.type_params m result h (none_found c.type_params) in
      record {
        count = learnt.count ∙ none_length c.type_params;
        ok = learnt.in_range (none_in_found roots m c.type_params);
      }
  started {x} {ts} {c} (starts_written y ys sorts count are) result h = record {
    count = length-map sorts Some ∙ all_written_count roots type_params are ∙ count;
    ok = all_found sorts (all_written_in_range roots type_params are);
  }

  wanted : {o : Option TypeTree} {y : Expected} → Wants env o y → IsExpectable roots m y
  wanted wants_nothing = open_expectable refl
  wanted (wants_written w s is) = exact_in_range roots m (written_in_range roots type_params is)

  right_in_range : (b : Bool) (s : GenericSort) → IsInRange roots m s → IsExpectable roots m (right_expected b s)
  right_in_range true s h = exact_in_range roots m h
  right_in_range false s h = open_expectable refl

  pub ranges_with : (sc : Scope) (w : Word) (s : GenericSort) → Ranges sc → IsInRange roots m s
      → Ranges (sc ++ (w, s) ∷ [])
  ranges_with sc w s ok h =
      subst (AreInRange roots m) (sym (sorts_append sc w s)) (append_in_range roots m ok
      (more_in_range h none_in_range))

  -- an application of a callee to sorted arguments
  called : {c : Callee} → IsCallee declared c → (sc : Scope) (at : ℕ) (sorts : List GenericSort) (us : List TypedExpr)
      → length sorts ≡ c.type_params → AreInRange roots m sorts
      → AreSorted t m (sorts_in sc) (map (put sorts) c.params) us
      → IsSorted t m (sorts_in sc) (typed env at (put sorts c.result) (application c.target sorts us))
  called (is_function i s there) sc at sorts us count range args =
      let f = functions i s there in
      sorted_call i f.def sorts us refl f.there (count ∙ sym f.type_params) range
      (subst (λ ps. AreSorted t m (sorts_in sc) (map (put sorts) ps) us) (sym f.params) args) (ap (put sorts)
      (sym f.result))
  called (is_constructor i c r there declares) sc at sorts us count range args =
      sorted_construct i c r sorts us refl there declares count range args
      (put_root sorts c.root (own_params r.type_params) ∙ ap (sort.Root c.root) (put_own sorts r.type_params count))

  -- a case of sorted parts
  a_case : (scope : List GenericSort) (s of : GenericSort) (p : TypedPattern) (g : Option TypedExpr) (u : TypedExpr)
      (bound : List GenericSort) (cases : List TypedCase)
      → sorted.Binds t s p bound → IsSortedGuard t m (scope ++ bound) g → IsSorted t m (scope ++ bound) u → u.of ≡ of
      → AreSortedCases t m scope s of cases → AreSortedCases t m scope s of (arm env p g u ∷ cases)
  a_case scope s of p g u bound cases binds guard body is rest =
      let parts : layer.TypedCase-F _ _ TypedExpr = record { pattern = p; guard = g; body = u } in
      let out = out-roll-TypedCase parts in
      more_cases (subst (λ z. sorted.Binds t s z.pattern bound) (sym out) binds)
      (subst (λ z. IsSortedGuard t m (scope ++ bound) z.guard) (sym out) guard)
      (subst (λ z. IsSorted t m (scope ++ bound) z.body) (sym out) body) (ap (λ z. z.body.of) out ∙ is) rest

  mutual
    pub well : {sc : Scope} {k : ℕ} {x : Expected} {e : Tree} {u : TypedExpr} → Types env sc k x e u → Ranges sc
        → IsExpectable roots m x → ExprInts e → IsWell sc u
    well (an_int at n suits) ok h ints = record {
      is_sorted = sorted_int n refl refl ints;
      in_range = int_in_range
          refl;
    }
    well (a_bool at b suits) ok h ints = record { is_sorted = sorted_bool b refl refl; in_range = bool_in_range refl }
    well {sc} (a_local at w i l place there suits) ok h ints =
        let here = slice_get-map (λ (v : Word × GenericSort). v.1) sc i
        ∙ ap (option_map (λ (v : Word × GenericSort). v.1)) there in
        record { is_sorted = sorted_local i refl here; in_range = at_in_range roots m ok i l.1 here }
    well (a_name at w c none is applied) ok h ints = well_applied applied (named_is declared w c is) ok h tt
    well (an_application at w c is applied) ok h ints = well_applied applied (applied_is declared w c is) ok h ints
    well {sc} (a_field {t = base} at w r c j args s typed_base is only place has suits) ok h ints =
        let b = well typed_base ok (open_expectable refl) ints in
        let one = only_of_root declared r c only in
        let own = ctors c one.ctor one.there in
        let parts = root_parts roots m r args b.in_range is in
        let owner = same_Some own.owner parts.root (sym own.there ∙ ap (slice_get roots) one.root ∙ parts.there) in
        let count = parts.count ∙ ap (λ (x : TypedRoot). x.type_params) (sym owner) in
        let field = sym (ap (field_of declared j) one.there) ∙ has in
        record {
          is_sorted = sorted_field j one.ctor args s refl b.is_sorted (is ∙ ap (λ q. sort.Root q args) (sym one.root))
              (ap (ctors_of declared.ctors) one.root ∙ one.only) field refl;
          in_range = put_in_range roots own.owner.type_params m args parts.all count
              (at_in_range roots own.owner.type_params own.fields j s field);
        }
    well (a_prefix at op operand is suits) ok h ints =
        let a = well operand ok (open_expectable refl) ints in
        record {
          is_sorted = sorted_unary op refl a.is_sorted is refl;
          in_range = subst (IsInRange roots m) is a.in_range;
        }
    well {sc} (an_operation {t = left} at op a admitted b taken suits) ok h ints =
        let l = well a ok (open_expectable refl) ints.0 in
        let r = well b ok (right_in_range (is_equality op) left.of l.in_range) ints.1 in
        record {
          is_sorted = sorted_binary op refl l.is_sorted r.is_sorted (taken, refl);
          in_range = gives_in_range roots m op left.of l.in_range;
        }
    well (a_choice at c is a b same) ok h ints =
        let test = well c ok (open_expectable refl) ints.0 in
        let first = well a ok h ints.1 in
        let second = well b ok h ints.2 in
        record {
          is_sorted = sorted_if refl test.is_sorted is first.is_sorted refl second.is_sorted (sym same);
          in_range = first.in_range;
        }
    well (a_match at s e cases) ok h ints =
        let value = well e ok (open_expectable refl) ints.0 in
        record {
          is_sorted = sorted_match refl value.is_sorted (well_cases cases value.in_range ok h ints.1);
          in_range = well_body cases value.in_range ok h ints.1;
        }
    well {sc} (a_val {u = value} {v = after} at w new wants a b) ok h ints =
        let v = well a ok (wanted wants) ints.0 in
        let rest = well b (ranges_with sc w value.of ok v.in_range) h ints.1 in
        record {
          is_sorted = sorted_val refl v.is_sorted
              (subst (λ l. IsSorted t m l after) (sorts_append sc w value.of) rest.is_sorted) refl;
          in_range = rest.in_range;
        }
    well (an_assert at c is e) ok h ints =
        let test = well c ok (open_expectable refl) ints.0 in
        let rest = well e ok h ints.1 in
        record { is_sorted = sorted_assert refl test.is_sorted is rest.is_sorted refl; in_range = rest.in_range }

    well_applied : {sc : Scope} {at : ℕ} {x : Expected} {ts : TypeTrees} {c : Callee} {es : Trees} {u : TypedExpr}
        → Applies env sc at x ts c es u → IsCallee declared c → Ranges sc → IsExpectable roots m x → ExprsInts es
        → IsWell sc u
    well_applied {sc} {c = c} (applies {found = found} {after = after} {us = us} at sorts starts args all suits)
        callee ok h ints =
        let params = callee_params declared defs functions ctors callee in
        let result = callee_result declared defs functions ctors callee in
        let start = started starts result h in
        let given = well_args args c.type_params params ok start.ok ints in
        let count = every_length after sorts all ∙ given.learnt.count ∙ start.count in
        let range = all_of_found roots m after sorts (given.learnt.in_range start.ok) (every_is after sorts all) in
        record {
          is_sorted = called callee sc at sorts us count range (given.are_sorted sorts (every_extends after sorts all));
          in_range = put_in_range roots c.type_params m sorts range count result;
        }

    well_args : {sc : Scope} {ps : List GenericSort} {found after : Found} {es : Trees} {us : List TypedExpr}
        → TypesArgs env sc ps found es us after → (n : ℕ) → AreInRange roots n ps → Ranges sc
        → FoundInRange roots m found
        → ExprsInts es → AreWell n sc ps us found after
    well_args no_arg n params ok known_ok ints =
        record { learnt = learnt_nothing roots n m _; are_sorted = λ sorts extends. none_sorted }
    well_args {sc} {ps} {found} (one_arg {t = u} p first known_is rest) n
        (more_in_range param params) ok known_ok ints =
        let a = well first ok (expect_in_range roots n m found known_ok param) ints.0 in
        let step = learn_in_range roots n m param (exact_in_range roots m a.in_range) found in
        let mid = learn p (exact u.of) found in
        let more = well_args rest n params ok (step.in_range known_ok) ints.1 in
        record {
          learnt = learnt_more roots n m step more.learnt;
          are_sorted = λ sorts extends. more_sorted a.is_sorted
              (sym (known_put roots n m mid sorts (step.in_range known_ok) (λ i s e. extends i s
              (more.learnt.keeps i s e)) param u.of known_is))
              (more.are_sorted sorts extends);
        }

    well_cases : {sc : Scope} {x : Expected} {s of : GenericSort} {cs : CaseTrees} {arms : List TypedCase}
        → TypesCases env sc x s of cs arms → IsInRange roots m s → Ranges sc → IsExpectable roots m x → CasesInts cs
        → AreSortedCases t m (sorts_in sc) s of arms
    well_cases no_case matched ok h ints = no_cases
    well_cases {sc} {x} {s} {of} (one_case {q = q} {t = u} {arms = arms} p body is rest) matched ok h ints =
        let bound = pattern_bound env defs m ctors p matched ok ints.0 in
        let b = well body bound.in_range h ints.1 in
        a_case (sorts_in sc) s of q None u bound.bound arms bound.binds no_guard
        (subst (λ l. IsSorted t m l u) bound.sorts b.is_sorted) is (well_cases rest matched ok h ints.2)
    well_cases {sc} {x} {s} {of} (one_guarded {q = q} {g = g} {t = u} {arms = arms} p guard test body is rest)
        matched ok h ints =
        let bound = pattern_bound env defs m ctors p matched ok ints.0 in
        let c = well guard bound.in_range (open_expectable refl) ints.1 in
        let b = well body bound.in_range h ints.2 in
        a_case (sorts_in sc) s of q (Some g) u bound.bound arms bound.binds
        (subst (λ l. IsSortedGuard t m l (Some g)) bound.sorts (one_guard c.is_sorted test))
        (subst (λ l. IsSorted t m l u) bound.sorts b.is_sorted) is (well_cases rest matched ok h ints.3)

    -- the sort of the bodies is in range
    well_body : {sc : Scope} {x : Expected} {s of : GenericSort} {cs : CaseTrees} {a : TypedCase} {arms : List
        TypedCase}
        → TypesCases env sc x s of cs (a ∷ arms) → IsInRange roots m s → Ranges sc → IsExpectable roots m x
        → CasesInts cs
        → IsInRange roots m of
    well_body (one_case p body is rest) matched ok h ints =
        let bound = pattern_bound env defs m ctors p matched ok ints.0 in
        subst (IsInRange roots m) is (well body bound.in_range h ints.1).in_range
    well_body (one_guarded p guard test body is rest) matched ok h ints =
        let bound = pattern_bound env defs m ctors p matched ok ints.0 in
        subst (IsInRange roots m) is (well body bound.in_range h ints.2).in_range
