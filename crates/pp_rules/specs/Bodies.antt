-- The typing of a function: its contracts and its body. Source: Stainless documentation (`require`, `decreases`,
-- `ensuring`, `holds`) for what they are; the rest is own.
use Rattle.std.specs.Prelude.{◌≡◌, ℕ, Bool, false, if◌then◌else◌, List, [], ◌∷◌, ◌++◌, length, Option, Some, None}
use Rattle.std.specs.Prelude.{Ok}
use Rattle.pp_fault.specs.declared.Rule.TheVariants.{Duplicate, Mismatch}
use Rattle.pp_fault.specs.Part.{Part, and_then}
use Rattle.pp_generic.specs.declared.expected.Expected.TheVariants.{Open}
use Rattle.pp_typed.specs.Equal.{equal}
use Rattle.pp_generic.specs.Expected.{exact}
use Rattle.pp_names.specs.Reserved.{is_reserved}
use Rattle.pp_tree.specs.Plain.{TypeTree, type_text, Tree, ParamTree, PostTree, DefTree}
use Rattle.pp_typed.specs.declared.declared.Declared.{Declared}
use Rattle.pp_typed.specs.declared.declared.Signature.{Signature}
use Rattle.pp_typed.specs.declared.expr.TypedExpr.{TypedExpr}
use Rattle.pp_typed.specs.declared.sort.GenericSort.{GenericSort}
use Rattle.pp_typed.specs.declared.sort.GenericSort.TheVariants as sort
use Rattle.pp_typed.specs.declared.typed.TypedDef.{TypedDef}
use Rattle.pp_typed.specs.declared.typed.TypedParam.{TypedParam}
use Rattle.pp_typed.specs.declared.typed.TypedPost.{TypedPost}
use Rattle.pp_rules.specs.Elab.{condition, elab, flaw, name_at, unless}
use Rattle.pp_rules.specs.Scope.{Env, Scope}
use Rattle.pp_rules.specs.Typing.{Types}
use Rattle.pp_rules.specs.Written.{written, IsWritten}

-- what the contracts and the body of a function stand in
abbrev pub env_of_def : Declared → ℕ → DefTree → Env
env_of_def declared source d =
    record { declared = declared; type_params = d.type_params; function = d.name; source = source }

-- the parameters with their sorts
abbrev pub typed_params : List ParamTree → List GenericSort → List TypedParam
typed_params [] ss = []
typed_params (p ∷ ps) [] = []
typed_params (p ∷ ps) (s ∷ ss) = record { name = p.name; of = s } ∷ typed_params ps ss

-- the parameters as values in scope
abbrev pub param_scope : List TypedParam → Scope
param_scope [] = []
param_scope (p ∷ ps) = (p.name, p.of) ∷ param_scope ps

module _ (env : Env) where
  -- conditions, after these
  abbrev pub elab_conditions : List TypedExpr → List Tree → Scope → Part (List TypedExpr)
  elab_conditions done [] sc = Ok done
  elab_conditions done (c ∷ cs) sc =
      and_then (condition env (name_at env c) (elab env c sc (length sc) Open)) (λ t.
      elab_conditions (done ++ t ∷ []) cs sc)

  -- the components of a measure, after these
  abbrev pub elab_measure : List TypedExpr → List Tree → Scope → Part (List TypedExpr)
  elab_measure done [] sc = Ok done
  elab_measure done (e ∷ es) sc =
      and_then (elab env e sc (length sc) Open) (λ t. elab_measure (done ++ t ∷ []) es sc)

  -- a written type of the result's name is the result's sort
  abbrev pub same_written : TypeTree → GenericSort → GenericSort → Part (Unit {0})
  same_written (type_text at w ts) s t = unless env (equal s t) Mismatch w at (Ok tt)

  abbrev pub post_written : Option TypeTree → GenericSort → Part (Unit {0})
  post_written None result = Ok tt
  post_written (Some t) result = and_then (written env t) (λ s. same_written t s result)

  abbrev pub claimed : ℕ → TypedExpr → Part (Option TypedPost)
  claimed at t = Ok (Some (record { at = at; claim = t }))

  -- a postcondition, in which the result is in scope after the parameters
  abbrev pub elab_post : Option PostTree → Scope → GenericSort → Part (Option TypedPost)
  elab_post None sc result = Ok None
  elab_post (Some p) sc result =
      if is_reserved p.name then flaw env Duplicate p.name p.at else
      and_then (post_written p.of result) (λ _.
      let inner = sc ++ (p.name, result) ∷ [] in
      and_then (condition env (name_at env p.claim) (elab env p.claim inner (length inner) Open)) (claimed p.at))

-- the typed function
abbrev pub typed_def : ℕ → DefTree → Signature → List TypedExpr → List TypedExpr → TypedExpr → Option TypedPost
    → TypedDef
typed_def source d s pre measure body post = record {
  name = d.name;
  source = source;
  at = d.at;
  type_params = s.type_params;
  params = typed_params d.params s.params;
  result = s.result;
  pre = pre;
  measure = measure;
  body = body;
  post = post;
}

-- the values in scope in a function's body
abbrev pub def_scope : DefTree → Signature → Scope
def_scope d s = param_scope (typed_params d.params s.params)

-- a function whose signature is declared
abbrev pub elab_def : Declared → ℕ → DefTree → Signature → Part TypedDef
elab_def declared source d s =
    let env = env_of_def declared source d in
    let sc = def_scope d s in
    and_then (elab_conditions env [] d.pre sc) (λ pre.
    and_then (elab_measure env [] d.measure sc) (λ measure.
    and_then (elab env d.body sc (length sc) (exact s.result)) (λ body.
    and_then (elab_post env d.post sc s.result) (λ post. Ok (typed_def source d s pre measure body post)))))

module _ (env : Env) where
  -- which conditions have which typing
  pub data TypesConditions : Scope → List Tree → List TypedExpr → Type 0 where
    no_condition : {sc : Scope} → TypesConditions sc [] []
    one_condition : {sc : Scope} {c : Tree} {cs : List Tree} {t : TypedExpr} {ts : List TypedExpr}
        → Types env sc (length sc) Open c t → t.of ≡ sort.Bool → TypesConditions sc cs ts
        → TypesConditions sc (c ∷ cs) (t ∷ ts)

  -- which components of a measure have which typing
  pub data TypesMeasure : Scope → List Tree → List TypedExpr → Type 0 where
    no_component : {sc : Scope} → TypesMeasure sc [] []
    one_component : {sc : Scope} {e : Tree} {es : List Tree} {t : TypedExpr} {ts : List TypedExpr}
        → Types env sc (length sc) Open e t → TypesMeasure sc es ts → TypesMeasure sc (e ∷ es) (t ∷ ts)

  -- the written type of a postcondition's name is that of the result, where one is written
  pub data WritesResult : Option TypeTree → GenericSort → Type 0 where
    writes_nothing : {s : GenericSort} → WritesResult None s
    writes_it : {s : GenericSort} (t : TypeTree) → IsWritten env t s → WritesResult (Some t) s

  -- which postconditions have which typing, in a scope of parameters, for a result
  pub data TypesPost : Scope → GenericSort → Option PostTree → Option TypedPost → Type 0 where
    no_post : {sc : Scope} {s : GenericSort} → TypesPost sc s None None
    a_post : {sc : Scope} {s : GenericSort} {t : TypedExpr} (p : PostTree)
        → is_reserved p.name ≡ false → WritesResult p.of s
        → Types env (sc ++ (p.name, s) ∷ []) (length (sc ++ (p.name, s) ∷ [])) Open p.claim t → t.of ≡ sort.Bool
        → TypesPost sc s (Some p) (Some (record { at = p.at; claim = t }))

-- which functions have which typing, where their signature is declared
pub data TypesDef (declared : Declared) (source : ℕ) (d : DefTree) (s : Signature) : TypedDef → Type 0 where
  a_def : {pre measure : List TypedExpr} {body : TypedExpr} {post : Option TypedPost}
      → TypesConditions (env_of_def declared source d) (def_scope d s) d.pre pre
      → TypesMeasure (env_of_def declared source d) (def_scope d s) d.measure measure
      → Types (env_of_def declared source d) (def_scope d s) (length (def_scope d s)) (exact s.result) d.body body
      → TypesPost (env_of_def declared source d) (def_scope d s) s.result d.post post
      → TypesDef declared source d s (typed_def source d s pre measure body post)
