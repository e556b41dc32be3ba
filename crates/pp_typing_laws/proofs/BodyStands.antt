-- A fault that is computed of a function stands there.
use Rattle.std.proofs.Common.{◌≡◌, ℕ, List, [], ◌∷◌, ◌++◌, Ok, Err, Option, Some, None, refl}
use Rattle.std.proofs.Common.{sym, subst, length}
use Rattle.pp_fault.specs.declared.Fault.{Fault}
use Rattle.pp_fault.specs.declared.Rule.TheVariants.{Duplicate, Mismatch}
use Rattle.pp_generic.specs.declared.expected.Expected.TheVariants.{Open}
use Rattle.pp_typed.specs.Equal.{equal}
use Rattle.pp_generic.specs.Expected.{exact}
use Rattle.pp_names.specs.Reserved.{is_reserved}
use Rattle.pp_rules.specs.Bodies.{claimed, def_scope, elab_conditions, elab_def, elab_measure, elab_post, env_of_def}
use Rattle.pp_rules.specs.Bodies.{post_written, same_written}
use Rattle.pp_rules.specs.Elab.{condition, elab, name_at}
use Rattle.pp_rules.specs.Scope.{Env, Scope}
use Rattle.pp_rules.specs.Written.{written}
use Rattle.pp_tree.specs.Plain.{TypeTree, type_text, Tree, PostTree, DefTree}
use Rattle.pp_typed.specs.declared.declared.Declared.{Declared}
use Rattle.pp_typed.specs.declared.declared.Signature.{Signature}
use Rattle.pp_typed.specs.declared.expr.TypedExpr.{TypedExpr}
use Rattle.pp_typed.specs.declared.sort.GenericSort.{GenericSort}
use Rattle.pp_typing_laws.proofs.Faulty.{then_err, unless_err, fresh_err, differs}
use Rattle.pp_typing_laws.proofs.Stands.{stands_expr, condition_err, written_err}
use Rattle.pp_typing_laws.proofs.WrittenSorts.{sound_written}
use Rattle.pp_typing_laws.specs.BodyFaults.{BreaksConditions, this_condition, later_condition, BreaksMeasure}
use Rattle.pp_typing_laws.specs.BodyFaults.{this_component, later_component, BreaksPost, reserved_result}
use Rattle.pp_typing_laws.specs.BodyFaults.{in_result_type, other_result_type, in_claim, BreaksDef, in_pre, in_measure}
use Rattle.pp_typing_laws.specs.BodyFaults.{in_def_body, in_post}
use Rattle.pp_typing_laws.specs.Faults.{BreaksCondition}

module _ (env : Env) where
  condition_stands : (c : Tree) (sc : Scope) (f : Fault)
      → condition env (name_at env c) (elab env c sc (length sc) Open) ≡ Err f → BreaksCondition env sc c f
  condition_stands c sc f h = condition_err env c sc f (λ sc2 k2 x2 e2. stands_expr env c sc2 k2 x2 f e2) h

  conditions_stand : (cs : List Tree) (sc : Scope) (done : List TypedExpr) (f : Fault)
      → elab_conditions env done cs sc ≡ Err f → BreaksConditions env sc cs f
  conditions_stand [] sc done f h = cc
  conditions_stand (c ∷ cs) sc done f h =
      then_err (condition env (name_at env c) (elab env c sc (length sc) Open)) _ f h
      (λ e. this_condition (condition_stands c sc f e))
      (λ t is rest. later_condition (conditions_stand cs sc (done ++ t ∷ []) f rest))

  measure_stands : (es : List Tree) (sc : Scope) (done : List TypedExpr) (f : Fault)
      → elab_measure env done es sc ≡ Err f → BreaksMeasure env sc es f
  measure_stands [] sc done f h = cc
  measure_stands (c ∷ cs) sc done f h =
      then_err (elab env c sc (length sc) Open) _ f h
      (λ e. this_component (stands_expr env c sc (length sc) Open f e))
      (λ t is rest. later_component (measure_stands cs sc (done ++ t ∷ []) f rest))

  other_err : (sc : Scope) (p : PostTree) (t : TypeTree) (s other : GenericSort) (f : Fault) → p.of ≡ Some t
      → written env t ≡ Ok other
      → same_written env t other s ≡ Err f → BreaksPost env sc s p f
  other_err sc p (type_text at w ts) s other f is h e =
      unless_err env (equal other s) Mismatch w at (Ok tt) f e
      (λ b same. subst (BreaksPost env sc s p) same
      (other_result_type p at w ts other is (sound_written env (type_text at w ts) other h)
      (λ z. differs env other s b (sym z))))
      (λ b same. cc)

  post_type_err : (sc : Scope) (p : PostTree) (o : Option TypeTree) (s : GenericSort) (f : Fault) → p.of ≡ o
      → post_written env o s ≡ Err f → BreaksPost env sc s p f
  post_type_err sc p None s f is h = cc
  post_type_err sc p (Some t) s f is h =
      then_err (written env t) _ f h
      (λ e. in_result_type p t is (written_err env t f e))
      (λ other w rest. other_err sc p t s other f is w rest)

  post_stands : (p : PostTree) (sc : Scope) (s : GenericSort) (f : Fault) → elab_post env (Some p) sc s ≡ Err f
      → BreaksPost env sc s p f
  post_stands p sc s f h =
      let inner = sc ++ (p.name, s) ∷ [] in
      fresh_err env (is_reserved p.name) Duplicate p.name p.at _ f h
      (λ b e. subst (BreaksPost env sc s p) e (reserved_result p b))
      (λ b rest. then_err (post_written env p.of s) _ f rest
      (λ e. post_type_err sc p p.of s f refl e)
      (λ u is rest2. then_err (condition env (name_at env p.claim) (elab env p.claim inner (length inner) Open))
      (claimed env p.at) f rest2
      (λ e. in_claim p (condition_stands p.claim inner f e))
      (λ t is2 more. cc)))

module _ (declared : Declared) (source : ℕ) (d : DefTree) (s : Signature) where
  abbrev around : Env
  around = env_of_def declared source d

  in_the_post : (o : Option PostTree) (f : Fault) → d.post ≡ o
      → elab_post around o (def_scope d s) s.result ≡ Err f → BreaksDef declared source d s f
  in_the_post None f is h = cc
  in_the_post (Some p) f is h = in_post p is (post_stands around p (def_scope d s) s.result f h)

  pub def_stands : (f : Fault) → elab_def declared source d s ≡ Err f → BreaksDef declared source d s f
  def_stands f h =
      let sc = def_scope d s in
      then_err (elab_conditions around [] d.pre sc) _ f h
      (λ e. in_pre (conditions_stand around d.pre sc [] f e))
      (λ pre is rest. then_err (elab_measure around [] d.measure sc) _ f rest
      (λ e. in_measure (measure_stands around d.measure sc [] f e))
      (λ measure is2 rest2. then_err (elab around d.body sc (length sc) (exact s.result)) _ f rest2
      (λ e. in_def_body (stands_expr around d.body sc (length sc) (exact s.result) f e))
      (λ body is3 rest3. then_err (elab_post around d.post sc s.result) _ f rest3
      (λ e. in_the_post d.post f refl e)
      (λ post is4 more. cc))))
