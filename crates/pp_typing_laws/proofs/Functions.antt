-- A function is given a typing exactly where the rules give it that one.
use Rattle.std.proofs.Common.{◌≡◌, ◌∙◌, ℕ, List, [], ◌∷◌, ◌++◌, Ok, Option, Some, None, refl, sym}
use Rattle.std.proofs.Common.{ap, subst, length, append_assoc}
use Rattle.std.proofs.lemmas.List.{append-nil}
use Rattle.pp_fault.specs.declared.Rule.TheVariants.{Mismatch}
use Rattle.pp_fault.proofs.Parts.{goes, same_ok}
use Rattle.pp_generic.proofs.Equal.{equal_same}
use Rattle.pp_generic.specs.declared.expected.Expected.TheVariants.{Open}
use Rattle.pp_typed.specs.Equal.{equal}
use Rattle.pp_generic.specs.Expected.{exact}
use Rattle.pp_names.specs.Reserved.{is_reserved}
use Rattle.pp_rules.specs.Bodies.{TypesConditions, no_condition, one_condition, TypesDef, a_def, TypesMeasure}
use Rattle.pp_rules.specs.Bodies.{no_component, one_component, TypesPost, no_post, a_post, WritesResult, writes_nothing}
use Rattle.pp_rules.specs.Bodies.{writes_it, claimed, def_scope, elab_conditions, elab_def, elab_measure, elab_post}
use Rattle.pp_rules.specs.Bodies.{env_of_def, post_written, same_written}
use Rattle.pp_rules.specs.Elab.{condition, elab, name_at}
use Rattle.pp_rules.specs.Scope.{Env, Scope}
use Rattle.pp_rules.specs.Written.{written}
use Rattle.pp_tree.specs.Plain.{TypeTree, type_text, Tree, PostTree, DefTree}
use Rattle.pp_typed.specs.declared.declared.Declared.{Declared}
use Rattle.pp_typed.specs.declared.declared.Signature.{Signature}
use Rattle.pp_typed.specs.declared.expr.TypedExpr.{TypedExpr}
use Rattle.pp_typed.specs.declared.sort.GenericSort.{GenericSort}
use Rattle.pp_typed.specs.declared.typed.TypedDef.{TypedDef}
use Rattle.pp_typed.specs.declared.typed.TypedPost.{TypedPost}
use Rattle.pp_typing_laws.proofs.Complete.{complete}
use Rattle.pp_typing_laws.proofs.Sound.{sound}
use Rattle.pp_typing_laws.proofs.Steps.{then_ok, unless_ok, unless_true, fresh_ok, fresh_false}
use Rattle.pp_typing_laws.proofs.Steps.{condition_ok, condition_is, equal_of}
use Rattle.pp_typing_laws.proofs.WrittenSorts.{sound_written, complete_written}

module _ (env : Env) where
  conditions_ok : (cs : List Tree) (sc : Scope) (done r : List TypedExpr) → elab_conditions env done cs sc ≡ Ok r
      → (ts : List TypedExpr) × (done ++ ts ≡ r) × TypesConditions env sc cs ts
  conditions_ok [] sc done r h = ([], append-nil done ∙ same_ok done r h, no_condition)
  conditions_ok (c ∷ cs) sc done r h =
      let t = then_ok (condition env (name_at env c) (elab env c sc (length sc) Open)) _ r h in
      let q = condition_ok env (name_at env c) (elab env c sc (length sc) Open) t.0 t.1 in
      let rest = conditions_ok cs sc (done ++ t.0 ∷ []) r t.2 in (
        t.0 ∷ rest.0,
        sym (append_assoc done (t.0 ∷ []) rest.0)
            ∙ rest.1,
        one_condition (sound env c sc (length sc) Open t.0 q.0) q.1 rest.2,
      )

  measure_ok : (es : List Tree) (sc : Scope) (done r : List TypedExpr) → elab_measure env done es sc ≡ Ok r
      → (ts : List TypedExpr) × (done ++ ts ≡ r) × TypesMeasure env sc es ts
  measure_ok [] sc done r h = ([], append-nil done ∙ same_ok done r h, no_component)
  measure_ok (e ∷ es) sc done r h =
      let t = then_ok (elab env e sc (length sc) Open) _ r h in
      let rest = measure_ok es sc (done ++ t.0 ∷ []) r t.2 in (
        t.0 ∷ rest.0,
        sym (append_assoc done (t.0 ∷ []) rest.0)
            ∙ rest.1,
        one_component (sound env e sc (length sc) Open t.0 t.1) rest.2,
      )

  same_written_ok : (t : TypeTree) (s result : GenericSort) (u : Unit {0}) → same_written env t s result ≡ Ok u
      → s ≡ result
  same_written_ok (type_text at w ts) s result u h =
      equal_same s result (unless_ok env (equal s result) Mismatch w at _ u h).0

  same_written_is : (t : TypeTree) (s result : GenericSort) → s ≡ result → same_written env t s result ≡ Ok tt
  same_written_is (type_text at w ts) s result e = unless_true env (equal s result) Mismatch w at _
      (equal_of env s result e)

  post_written_ok : (t : Option TypeTree) (s : GenericSort) (u : Unit {0}) → post_written env t s ≡ Ok u
      → WritesResult env t s
  post_written_ok None s u h = writes_nothing
  post_written_ok (Some t) s u h =
      let w = then_ok (written env t) _ u h in
      subst (WritesResult env (Some t)) (same_written_ok t w.0 s u w.2) (writes_it t (sound_written env t w.0 w.1))

  post_written_is : {t : Option TypeTree} {s : GenericSort} → WritesResult env t s → post_written env t s ≡ Ok tt
  post_written_is writes_nothing = refl
  post_written_is (writes_it {s = s} t h) = goes _ _ _ (complete_written env h) ∙ same_written_is t s s refl

  post_ok : (p : Option PostTree) (sc : Scope) (s : GenericSort) (r : Option TypedPost)
      → elab_post env p sc s ≡ Ok r → TypesPost env sc s p r
  post_ok None sc s r h = subst (TypesPost env sc s None) (same_ok None r h) no_post
  post_ok (Some p) sc s r h =
      let inner = sc ++ (p.name, s) ∷ [] in
      let q = fresh_ok env (is_reserved p.name) _ p.name p.at _ r h in
      let w = then_ok (post_written env p.of s) _ r q.1 in
      let t = then_ok (condition env (name_at env p.claim) (elab env p.claim inner (length inner) Open))
      (claimed env p.at) r w.2 in
      let b = condition_ok env (name_at env p.claim) (elab env p.claim inner (length inner) Open) t.0 t.1 in
      subst (TypesPost env sc s (Some p)) (same_ok _ r t.2)
      (a_post p q.0 (post_written_ok p.of s w.0 w.1) (sound env p.claim inner (length inner) Open t.0 b.0) b.1)

  conditions_is : {sc : Scope} {cs : List Tree} {ts : List TypedExpr} (done : List TypedExpr)
      → TypesConditions env sc cs ts → elab_conditions env done cs sc ≡ Ok (done ++ ts)
  conditions_is done no_condition = ap Ok (sym (append-nil done))
  conditions_is done (one_condition {c = c} {t = t} {ts = ts} one is rest) =
      goes _ _ _ (condition_is env (name_at env c) _ t (complete env one) is) ∙ conditions_is (done ++ t ∷ []) rest
      ∙ ap Ok (append_assoc done (t ∷ []) ts)

  measure_is : {sc : Scope} {es : List Tree} {ts : List TypedExpr} (done : List TypedExpr)
      → TypesMeasure env sc es ts → elab_measure env done es sc ≡ Ok (done ++ ts)
  measure_is done no_component = ap Ok (sym (append-nil done))
  measure_is done (one_component {t = t} {ts = ts} one rest) =
      goes _ _ _ (complete env one) ∙ measure_is (done ++ t ∷ []) rest ∙ ap Ok (append_assoc done (t ∷ []) ts)

  post_is : {sc : Scope} {s : GenericSort} {p : Option PostTree} {r : Option TypedPost} → TypesPost env sc s p r
      → elab_post env p sc s ≡ Ok r
  post_is no_post = refl
  post_is (a_post {t = t} p new w one is) =
      fresh_false env (is_reserved p.name) _ _ new ∙ goes _ _ _ (post_written_is w)
      ∙ goes _ (claimed env p.at) _ (condition_is env (name_at env p.claim) _ t (complete env one) is)

module _ (declared : Declared) (source : ℕ) (d : DefTree) (s : Signature) where
  abbrev around : Env
  around = env_of_def declared source d

  pub def_ok : (f : TypedDef) → elab_def declared source d s ≡ Ok f → TypesDef declared source d s f
  def_ok f h =
      let sc = def_scope d s in
      let pre = then_ok (elab_conditions around [] d.pre sc) _ f h in
      let measure = then_ok (elab_measure around [] d.measure sc) _ f pre.2 in
      let body = then_ok (elab around d.body sc (length sc) (exact s.result)) _ f measure.2 in
      let post = then_ok (elab_post around d.post sc s.result) _ f body.2 in
      let p = conditions_ok around d.pre sc [] pre.0 pre.1 in
      let m = measure_ok around d.measure sc [] measure.0 measure.1 in
      subst (TypesDef declared source d s) (same_ok _ f post.2)
      (a_def (subst (TypesConditions around sc d.pre) p.1 p.2) (subst (TypesMeasure around sc d.measure) m.1 m.2)
      (sound around d.body sc (length sc) (exact s.result) body.0 body.1)
      (post_ok around d.post sc s.result post.0 post.1))

  pub def_is : {f : TypedDef} → TypesDef declared source d s f → elab_def declared source d s ≡ Ok f
  def_is (a_def pre measure body post) =
      goes _ _ _ (conditions_is around [] pre) ∙ goes _ _ _ (measure_is around [] measure)
      ∙ goes _ _ _ (complete around body)
      ∙ goes _ _ _ (post_is around post)

  pub def_alone : (f g : TypedDef) → TypesDef declared source d s f → TypesDef declared source d s g → f ≡ g
  def_alone f g a b = same_ok f g (sym (def_is a) ∙ def_is b)
