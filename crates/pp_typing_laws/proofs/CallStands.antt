-- A fault of an application that is computed stands there.
use Rattle.std.proofs.Common.{◌≡◌, ℕ, suc, List, [], Ok, Err, Option, Some, None}
use Rattle.std.proofs.Common.{refl, sym, ap, subst, nat_eq, length}
use Rattle.std.proofs.lemmas.Bool.{eqb-true}
use Rattle.pp_fault.specs.declared.Fault.{Fault}
use Rattle.pp_fault.specs.declared.Rule.TheVariants.{Arity}
use Rattle.pp_fault.specs.Part.{Part}
use Rattle.pp_fault.proofs.Parts.{same_err, same_ok}
use Rattle.pp_generic.specs.declared.expected.Expected.{Expected}
use Rattle.pp_generic.specs.Expected.{Found, every}
use Rattle.pp_rules.specs.declared.callee.Callee.{Callee}
use Rattle.pp_rules.specs.Elab.{Taken, applied}
use Rattle.pp_rules.specs.Elab.{count}
use Rattle.pp_rules.specs.Elab.{finished, inferred}
use Rattle.pp_rules.specs.Elab.{no_args, started}
use Rattle.pp_rules.specs.Scope.{Env, Scope}
use Rattle.pp_rules.specs.Typing.{Starts}
use Rattle.pp_rules.specs.Typing.{TypesArgs, no_arg}
use Rattle.pp_rules.specs.Written.{written_from}
use Rattle.pp_sorts.proofs.Broken.{one_stands}
use Rattle.pp_sorts.specs.IsSort.{count as count_types}
use Rattle.pp_tree.specs.Plain.{Word, TypeTrees, no_types, more_types}
use Rattle.pp_tree.specs.Plain.{Trees, no_trees}
use Rattle.pp_typed.specs.declared.expr.TypedExpr.{TypedExpr}
use Rattle.pp_typed.specs.declared.sort.GenericSort.{GenericSort}
use Rattle.pp_typing_laws.proofs.Faulty.{then_err, uneven, unless_err, agreed_err}
use Rattle.pp_typing_laws.proofs.Sound.{started_ok}
use Rattle.pp_typing_laws.proofs.Steps.{nothing_left}
use Rattle.pp_typing_laws.specs.Faults.{BreaksApplied, args_arity, types_arity, in_types, in_args}
use Rattle.pp_typing_laws.specs.Faults.{open_param, unfit_result, BreaksArgs}

module _ (env : Env) where
  started_err : (sc : Scope) (at : ℕ) (x : Expected) (w : Word) (ts : TypeTrees) (c : Callee) (es : Trees) (f : Fault)
      → started env at x w ts c ≡ Err f → BreaksApplied env sc at w x ts c es f
  started_err sc at x w no_types c es f h = cc
  started_err sc at x w (more_types t ts) c es f h =
      unless_err env (nat_eq (suc (count_types ts)) c.type_params) Arity w at _ f h
      (λ b is. subst (BreaksApplied env sc at w x (more_types t ts) c es) is (types_arity at w t ts (uneven _ _ b)))
      (λ b rest. then_err (written_from env [] (more_types t ts)) _ f rest
      (λ e.
      let s = one_stands env.declared.roots env.type_params env.source (more_types t ts) f e in
      subst (BreaksApplied env sc at w x (more_types t ts) c es)
      (ap (λ z. record { rule = f.rule; name = f.name; source = z; at = f.at }) (sym s.in_source))
      (in_types at w f.rule f.name f.at s.broken))
      (λ sorts is more. cc))

  inferred_err : (sc : Scope) (at : ℕ) (x : Expected) (w : Word) (ts : TypeTrees) (c : Callee) (es : Trees)
      (found after : Found) (us : List TypedExpr) (o : Option (List GenericSort)) (f : Fault)
      → Starts env x ts c found → TypesArgs env sc c.params found es us after → every after ≡ o
      → inferred env at x w c us o ≡ Err f → BreaksApplied env sc at w x ts c es f
  inferred_err sc at x w ts c es found after us None f s all p h =
      subst (BreaksApplied env sc at w x ts c es) (same_err {A = TypedExpr} _ f h) (open_param at w s all p)
  inferred_err sc at x w ts c es found after us (Some sorts) f s all p h =
      let q = agreed_err env x w _ f h in
      subst (BreaksApplied env sc at w x ts c es) q.1 (unfit_result at w sorts s all p q.0)

  pub applied_err : (sc : Scope) (at : ℕ) (x : Expected) (w : Word) (ts : TypeTrees) (c : Callee) (es : Trees)
      (args : List GenericSort → Found → Part Taken) (f : Fault)
      → ((ps : List GenericSort) (found : Found) → args ps found ≡ Err f → BreaksArgs env sc ps found es f)
      → ((ps : List GenericSort) (found : Found) (r : Taken) → count es ≡ length ps → args ps found ≡ Ok r
      → TypesArgs env sc ps found es r.0 r.1)
      → applied env at x w ts (count es) args (Some c) ≡ Err f → BreaksApplied env sc at w x ts c es f
  applied_err sc at x w ts c es args f ih typed_args h =
      unless_err env (nat_eq (count es) (length c.params)) Arity w at _ f h
      (λ b is. subst (BreaksApplied env sc at w x ts c es) is (args_arity at w (uneven _ _ b)))
      (λ b rest. then_err (started env at x w ts c) _ f rest
      (λ e. started_err sc at x w ts c es f e)
      (λ found is rest2. then_err (args c.params found) (finished env at x w c) f rest2
      (λ e. in_args at w (started_ok env at x w ts c found is) (ih c.params found e))
      (λ r is2 rest3. inferred_err sc at x w ts c es found r.1 r.0 (every r.1) f
      (started_ok env at x w ts c found is)
      (typed_args c.params found r (eqb-true _ _ b) is2) refl rest3)))

  pub bare_args : (sc : Scope) (ps : List GenericSort) (found : Found) (r : Taken) → 0 ≡ length ps
      → no_args env ps found ≡ Ok r → TypesArgs env sc ps found no_trees r.0 r.1
  bare_args sc ps found r n h =
      let start : Taken = ([], found) in
      subst (λ z. TypesArgs env sc ps found no_trees z.0 z.1) (same_ok start r h)
      (subst (λ qs. TypesArgs env sc qs found no_trees [] found) (sym (nothing_left ps n)) no_arg)
