-- What has a typing by the rules gets it.
use Rattle.std.proofs.Common.{◌≡◌, ◌∙◌, ℕ, suc, List, [], ◌∷◌, ◌++◌, Ok, Option, Some, None}
use Rattle.std.proofs.Common.{refl, sym, ap, nat_eq, length, eq-eqb, append_assoc}
use Rattle.std.proofs.lemmas.List.{append-nil}
use Rattle.pp_fault.specs.declared.Rule.TheVariants.{Mismatch, Arity}
use Rattle.pp_fault.specs.Part.{and_then}
use Rattle.pp_fault.proofs.Parts.{goes}
use Rattle.pp_generic.specs.declared.expected.Expected.{Expected}
use Rattle.pp_typed.specs.Equal.{equal}
use Rattle.pp_generic.specs.Expected.{Found, exact, known}
use Rattle.pp_generic.specs.Found.{learn}
use Rattle.pp_typed.specs.Operators.{takes, unary_sort}
use Rattle.pp_rules.specs.declared.callee.Callee.{Callee}
use Rattle.pp_rules.specs.Elab.{alike, applied, arm, asserted, body_sort, chosen, count, elab}
use Rattle.pp_rules.specs.Elab.{elab_args, elab_cases, field_of_ctor, field_placed, field_typed, finished}
use Rattle.pp_rules.specs.Elab.{inferred, is_sort, local_at, matched, name_at, named, negated, no_args}
use Rattle.pp_rules.specs.Elab.{selected, started, taken, typed, val_expected, valued}
use Rattle.pp_rules.specs.Operators.{admits}
use Rattle.pp_rules.specs.Scope.{Env, Scope, clashes}
use Rattle.pp_rules.specs.Typing.{Starts, starts_expected, starts_written, Wants, wants_nothing, wants_written}
use Rattle.pp_rules.specs.Typing.{Types, an_int, a_bool, a_local, a_name, an_application, a_field}
use Rattle.pp_rules.specs.Typing.{a_prefix, an_operation, a_choice, a_match, a_val, an_assert, Applies, applies}
use Rattle.pp_rules.specs.Typing.{TypesArgs, no_arg, one_arg, TypesCases, no_case, one_case, one_guarded}
use Rattle.pp_sorts.specs.IsSort.{count as count_types}
use Rattle.pp_tree.specs.Plain.{Word, TypeTree, TypeTrees, no_types, Tree}
use Rattle.pp_tree.specs.Plain.{Trees, no_trees}
use Rattle.pp_tree.specs.Plain.{CaseTrees}
use Rattle.pp_typed.specs.declared.expr.TypedCase.{TypedCase}
use Rattle.pp_typed.specs.declared.expr.TypedExpr.{TypedExpr}
use Rattle.pp_typed.specs.declared.expr.TypedKind.TheVariants as kind
use Rattle.pp_typed.specs.declared.sort.GenericSort.{GenericSort}
use Rattle.pp_typing_laws.proofs.Patterns.{shows_root, complete_pattern}
use Rattle.pp_typing_laws.proofs.Sound.{arm_sort}
use Rattle.pp_typing_laws.proofs.Steps.{unless_true, fresh_false, agreed_suits, of_sort_is, condition_is}
use Rattle.pp_typing_laws.proofs.Steps.{equal_of, is_sort_is}
use Rattle.pp_typing_laws.proofs.WrittenSorts.{complete_written, complete_all_written}

module _ (env : Env) where
  starts : {x : Expected} {ts : TypeTrees} {c : Callee} {found : Found} (at : ℕ) (w : Word)
      → Starts env x ts c found → started env at x w ts c ≡ Ok found
  starts at w starts_expected = refl
  starts at w (starts_written {c = c} t ts sorts n all) =
      unless_true env (nat_eq (suc (count_types ts)) c.type_params) Arity w at _ (eq-eqb _ _ n)
      ∙ goes _ _ _ (complete_all_written env all)

  wanted : {t : Option TypeTree} {y : Expected} → Wants env t y → val_expected env t ≡ Ok y
  wanted wants_nothing = refl
  wanted (wants_written t s h) = goes _ _ _ (complete_written env h)

  taken_is : (p : GenericSort) (w : Word) (found : Found) (t : TypedExpr)
      → known (learn p (exact t.of) found) p ≡ Some t.of → taken env p w found t ≡ Ok (t, learn p (exact t.of) found)
  taken_is p w found t h =
      unless_true env (is_sort env (known (learn p (exact t.of) found) p) t.of) Mismatch w t.at _
      (is_sort_is env _ t.of h)

  -- all these cases have a body of this sort
  abbrev Each : List TypedCase → GenericSort → Type 0
  Each [] of = Unit {0}
  Each (c ∷ cs) of = body_sort c ≡ of

  each_after : (done : List TypedCase) (c : TypedCase) (of : GenericSort) → Each done of → body_sort c ≡ of
      → Each (done ++ c ∷ []) of
  each_after [] c of all one = one
  each_after (d ∷ ds) c of all one = all

  alike_is : (done : List TypedCase) (w : Word) (t : TypedExpr) (of : GenericSort) → Each done of → t.of ≡ of
      → alike env done w t ≡ Ok t
  alike_is [] w t of all e = refl
  alike_is (c ∷ cs) w t of all e = of_sort_is env Mismatch (body_sort c) w t (e ∙ sym all)

  matched_is : (at : ℕ) (t : TypedExpr) (c : TypedCase) (arms : List TypedCase) (s : GenericSort) → body_sort c ≡ s
      → matched env at t (c ∷ arms) ≡ Ok (typed env at s (kind.Match t (c ∷ arms)))
  matched_is at t c arms s e = ap (λ z. Ok (typed env at z (kind.Match t (c ∷ arms)))) e

  first_sort : {sc : Scope} {x : Expected} {s of : GenericSort} {cs : CaseTrees} {c : TypedCase} {arms : List TypedCase}
      → TypesCases env sc x s of cs (c ∷ arms) → body_sort c ≡ of
  first_sort (one_case {q = q} {t = t} p b e rest) = arm_sort env q None t ∙ e
  first_sort (one_guarded {q = q} {g = g} {t = t} p gd is b e rest) = arm_sort env q (Some g) t ∙ e

  pub even_args : {sc : Scope} {ps : List GenericSort} {found after : Found} {es : Trees} {ts : List TypedExpr}
      → TypesArgs env sc ps found es ts after → count es ≡ length ps
  even_args no_arg = refl
  even_args (one_arg p t k rest) = ap suc (even_args rest)

  bare_args : {sc : Scope} {ps : List GenericSort} {found after : Found} {us : List TypedExpr}
      → TypesArgs env sc ps found no_trees us after → (ps ≡ []) × (us ≡ []) × (after ≡ found)
  bare_args no_arg = (refl, refl, refl)

  mutual
    pub complete : {sc : Scope} {k : ℕ} {x : Expected} {t : Tree} {e : TypedExpr} → Types env sc k x t e
        → elab env t sc k x ≡ Ok e
    complete (an_int at n h) = agreed_suits env _ env.function _ h
    complete (a_bool at b h) = agreed_suits env _ env.function _ h
    complete (a_local {sc = sc} {x = x} at w i l p g h) = ap (named env sc at x w) p ∙ ap (local_at env at x w i) g
        ∙ agreed_suits env x w _ h
    complete (a_name {sc = sc} {x = x} at w c p g a) = ap (named env sc at x w) p
        ∙ ap (applied env at x w no_types 0 (no_args env)) g ∙ complete_bare w a
    complete (an_application {sc = sc} {x = x} {ts = ts} {es = es} at w c g a) =
        ap (applied env at x w ts (count es) (λ ps found. elab_args env [] es sc ps found)) g ∙ complete_application w a
    complete (a_field {x = x} {t = t} at w r c j args s b is f g h suits) =
        goes _ _ _ (complete b) ∙ ap (selected env at x w t) (shows_root t.of r args is)
        ∙ ap (field_of_ctor env at x w args t) f
        ∙ ap (field_placed env at x w args t c) g ∙ ap (field_typed env at x w args t j) h
        ∙ agreed_suits env x w _ suits
    complete (a_prefix {x = x} {a = a} {t = t} at op b e h) =
        goes _ _ _ (complete b) ∙ goes _ (negated env at x op) _ (of_sort_is env Mismatch (unary_sort op)
        (name_at env a) t e)
        ∙ agreed_suits env x env.function _ h
    complete (an_operation {x = x} {a = a} {b = b} {t = t} {u = u} at op l m r e h) =
        goes _ _ _ (complete l) ∙ unless_true env (admits op t.of) Mismatch (name_at env a) t.at _ m
        ∙ goes _ _ _ (complete r)
        ∙ unless_true env (takes op t.of u.of) Mismatch (name_at env b) u.at _ e
        ∙ agreed_suits env x env.function _ h
    complete (a_choice {c = c} {b = b} {t = t} {u = u} {v = v} at test is first second e) =
        goes _ _ _ (condition_is env (name_at env c) _ t (complete test) is) ∙ goes _ _ _ (complete first)
        ∙ goes _ (chosen env at t u (name_at env b)) _ (complete second)
        ∙ unless_true env (equal u.of v.of) Mismatch (name_at env b) v.at _ (equal_of env u.of v.of e)
    complete (a_match {t = t} {c = c} {arms = arms} at s b all) =
        goes _ _ _ (complete b) ∙ goes _ (matched env at t) _ (complete_cases [] tt all)
        ∙ matched_is at t c arms s (first_sort all)
    complete (a_val {sc = sc} {k = k} {u = u} at w new wants value rest) =
        fresh_false env (clashes w k sc) _ _ new ∙ goes _ _ _ (wanted wants) ∙ goes _ _ _ (complete value)
        ∙ goes _ (valued env at u) _ (complete rest)
    complete (an_assert {c = c} {t = t} at test is rest) =
        goes _ _ _ (condition_is env (name_at env c) _ t (complete test) is)
        ∙ goes _ (asserted env at t) _ (complete rest)

    complete_bare : {sc : Scope} {at : ℕ} {x : Expected} {c : Callee} {e : TypedExpr} (w : Word)
        → Applies env sc at x no_types c no_trees e → applied env at x w no_types 0 (no_args env) (Some c) ≡ Ok e
    complete_bare w (applies {x = x} {c = c} {found = found} {after = after} {us = us} at sorts s all is suits) =
        let b = bare_args all in
        unless_true env (nat_eq 0 (length c.params)) Arity w at _ (ap (λ ps. nat_eq 0 (length ps)) b.0)
        ∙ goes _ (λ (f : Found). and_then (no_args env c.params f) (finished env at x w c)) found (starts at w s)
        ∙ goes (no_args env c.params found) (finished env at x w c) (us, after)
        (ap (λ u. Ok (u, found)) (sym b.1) ∙ ap (λ f. Ok (us, f)) (sym b.2))
        ∙ ap (inferred env at x w c us) is ∙ agreed_suits env x w _ suits

    complete_application : {sc : Scope} {at : ℕ} {x : Expected} {ts : TypeTrees} {c : Callee} {es : Trees}
        {e : TypedExpr} (w : Word)
        → Applies env sc at x ts c es e → applied env at x w ts (count es)
        (λ ps found. elab_args env [] es sc ps found) (Some c) ≡ Ok e
    complete_application w
        (applies {x = x} {c = c} {es = es} {found = found} {after = after} {us = us} at sorts s all is suits) =
        unless_true env (nat_eq (count es) (length c.params)) Arity w at _ (eq-eqb _ _ (even_args all))
        ∙ goes _ _ _ (starts at w s) ∙ goes _ (finished env at x w c) (us, after) (complete_args [] all)
        ∙ ap (inferred env at x w c us) is ∙ agreed_suits env x w _ suits

    complete_args : {sc : Scope} {ps : List GenericSort} {found after : Found} {es : Trees} {ts : List TypedExpr}
        (done : List TypedExpr)
        → TypesArgs env sc ps found es ts after → elab_args env done es sc ps found ≡ Ok (done ++ ts, after)
    complete_args {found = found} done no_arg = ap (λ l. Ok (l, found)) (sym (append-nil done))
    complete_args {found = found} {after = after} done (one_arg {e = e} {t = t} {ts = ts} p one is rest) =
        goes _ _ _ (complete one) ∙ goes _ _ _ (taken_is p (name_at env e) found t is)
        ∙ complete_args (done ++ t ∷ []) rest
        ∙ ap (λ l. Ok (l, after)) (append_assoc done (t ∷ []) ts)

    complete_cases : {sc : Scope} {x : Expected} {s of : GenericSort} {cs : CaseTrees} {arms : List TypedCase}
        (done : List TypedCase) → Each done of
        → TypesCases env sc x s of cs arms → elab_cases env done cs sc x s ≡ Ok (done ++ arms)
    complete_cases done each no_case = ap Ok (sym (append-nil done))
    complete_cases {of = of} done each (one_case {body = body} {q = q} {t = t} {arms = arms} p b e rest) =
        goes _ _ _ (goes _ _ _ (complete_pattern env p) ∙ goes _ _ _ (complete b)
        ∙ goes _ _ _ (alike_is done (name_at env body) t of each e))
        ∙ complete_cases (done ++ arm env q None t ∷ []) (each_after done _ of each (arm_sort env q None t ∙ e)) rest
        ∙ ap Ok (append_assoc done (arm env q None t ∷ []) arms)
    complete_cases {of = of} done each
        (one_guarded {guard = guard} {body = body} {q = q} {g = g} {t = t} {arms = arms} p gd is b e rest) =
        goes _ _ _ (goes _ _ _ (complete_pattern env p) ∙ goes _ _ _ (condition_is env (name_at env guard) _ g
        (complete gd) is)
        ∙ goes _ _ _ (complete b) ∙ goes _ _ _ (alike_is done (name_at env body) t of each e))
        ∙ complete_cases (done ++ arm env q (Some g) t ∷ []) (each_after done _ of each (arm_sort env q (Some g) t
        ∙ e)) rest
        ∙ ap Ok (append_assoc done (arm env q (Some g) t ∷ []) arms)
