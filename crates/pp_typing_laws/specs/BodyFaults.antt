-- Which rules are broken where in a function's contracts and body. Source: own.
use Rattle.std.specs.Prelude.{◌≡◌, ◌≢◌, ℕ, true, List, [], ◌∷◌, ◌++◌, length, Some}
use Rattle.pp_fault.specs.declared.Fault.{Fault}
use Rattle.pp_fault.specs.declared.Rule.TheVariants.{Duplicate, Mismatch}
use Rattle.pp_generic.specs.declared.expected.Expected.TheVariants.{Open}
use Rattle.pp_generic.specs.Expected.{exact}
use Rattle.pp_names.specs.Reserved.{is_reserved}
use Rattle.pp_rules.specs.Bodies.{def_scope, env_of_def}
use Rattle.pp_rules.specs.Scope.{Env, Scope}
use Rattle.pp_rules.specs.Written.{IsWritten}
use Rattle.pp_tree.specs.Plain.{Word, TypeTree, TypeTrees, type_text, Tree, PostTree, DefTree}
use Rattle.pp_typed.specs.declared.declared.Declared.{Declared}
use Rattle.pp_typed.specs.declared.declared.Signature.{Signature}
use Rattle.pp_typed.specs.declared.sort.GenericSort.{GenericSort}
use Rattle.pp_typing_laws.specs.Faults.{Breaks, BreaksCondition, BreaksWritten, flawed}

module _ (env : Env) where
  -- a fault of one of several conditions
  pub data BreaksConditions : Scope → List Tree → Fault → Type 0 where
    this_condition : {sc : Scope} {c : Tree} {cs : List Tree} {f : Fault}
        → BreaksCondition env sc c f → BreaksConditions sc (c ∷ cs) f
    later_condition : {sc : Scope} {c : Tree} {cs : List Tree} {f : Fault}
        → BreaksConditions sc cs f → BreaksConditions sc (c ∷ cs) f

  -- a fault of one of the components of a measure
  pub data BreaksMeasure : Scope → List Tree → Fault → Type 0 where
    this_component : {sc : Scope} {e : Tree} {es : List Tree} {f : Fault}
        → Breaks env sc (length sc) Open e f → BreaksMeasure sc (e ∷ es) f
    later_component : {sc : Scope} {e : Tree} {es : List Tree} {f : Fault}
        → BreaksMeasure sc es f → BreaksMeasure sc (e ∷ es) f

  -- a fault of a postcondition, in a scope of parameters, for a result
  pub data BreaksPost : Scope → GenericSort → PostTree → Fault → Type 0 where
    reserved_result : {sc : Scope} {s : GenericSort} (p : PostTree)
        → is_reserved p.name ≡ true → BreaksPost sc s p (flawed env Duplicate p.name p.at)
    in_result_type : {sc : Scope} {s : GenericSort} {f : Fault} (p : PostTree) (t : TypeTree)
        → p.of ≡ Some t → BreaksWritten env t f → BreaksPost sc s p f
    other_result_type : {sc : Scope} {s : GenericSort} (p : PostTree) (at : ℕ) (w : Word) (ts : TypeTrees)
        (other : GenericSort) → p.of ≡ Some (type_text at w ts) → IsWritten env (type_text at w ts) other → other ≢ s
        → BreaksPost sc s p (flawed env Mismatch w at)
    in_claim : {sc : Scope} {s : GenericSort} {f : Fault} (p : PostTree)
        → BreaksCondition env (sc ++ (p.name, s) ∷ []) p.claim f → BreaksPost sc s p f

-- a fault of a function whose signature is declared
pub data BreaksDef (declared : Declared) (source : ℕ) (d : DefTree) (s : Signature) : Fault → Type 0 where
  in_pre : {f : Fault} → BreaksConditions (env_of_def declared source d) (def_scope d s) d.pre f
      → BreaksDef declared source d s f
  in_measure : {f : Fault} → BreaksMeasure (env_of_def declared source d) (def_scope d s) d.measure f
      → BreaksDef declared source d s f
  in_def_body : {f : Fault}
      → Breaks (env_of_def declared source d) (def_scope d s) (length (def_scope d s)) (exact s.result) d.body f
      → BreaksDef declared source d s f
  in_post : {f : Fault} (p : PostTree) → d.post ≡ Some p
      → BreaksPost (env_of_def declared source d) (def_scope d s) s.result p f → BreaksDef declared source d s f
