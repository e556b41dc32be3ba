-- A fault of an expression stands at one of its offsets.
use Rattle.std.proofs.Common.{◌≡◌, ℕ, List, Option, Some, subst}
use Rattle.pp_fault.specs.declared.Fault.{Fault}
use Rattle.pp_fault.specs.declared.Rule.{Rule}
use Rattle.pp_generic.specs.Expected.{Found}
use Rattle.pp_generic.specs.declared.expected.Expected.{Expected}
use Rattle.pp_names.specs.Places.{Word}
use Rattle.pp_rules.specs.declared.callee.Callee.{Callee}
use Rattle.pp_rules.specs.Bodies.{env_of_def}
use Rattle.pp_rules.specs.Scope.{Env, Scope}
use Rattle.pp_sorts.specs.IsSort.{OneBreaks, here, later, unknown, arguments, inside}
use Rattle.pp_sorts.specs.IsSort as written
use Rattle.pp_tree.specs.Offsets.{AllOffsets, CaseOffsets, DeclOffsets, ListOffsets, Offsets, PatternOffsets}
use Rattle.pp_tree.specs.Offsets.{PatternsOffsets, PostOffsets, TypeOffsets, TypesOffsets, WrittenOffsets}
use Rattle.pp_tree.specs.Plain.{TypeTree, TypeTrees, PatternTree, PatternTrees, Tree, int, bool, name, apply, field}
use Rattle.pp_tree.specs.Plain.{unary, binary, choice, matching, val_in, assert_in, Trees, CaseTrees, DefTree, PostTree}
use Rattle.pp_tree.specs.Plain.{def}
use Rattle.pp_typed.specs.Stand.{Offset}
use Rattle.pp_typed.specs.declared.declared.Declared.{Declared}
use Rattle.pp_typed.specs.declared.declared.Signature.{Signature}
use Rattle.pp_typed.specs.declared.sort.GenericSort.{GenericSort}
use Rattle.pp_typed.specs.declared.typed.TypedRoot.{TypedRoot}
use Rattle.pp_typing_laws.specs.BodyFaults.{BreaksConditions, this_condition, later_condition, BreaksMeasure}
use Rattle.pp_typing_laws.specs.BodyFaults.{this_component, later_component, BreaksPost, reserved_result}
use Rattle.pp_typing_laws.specs.BodyFaults.{in_result_type, other_result_type, in_claim, BreaksDef, in_pre, in_measure}
use Rattle.pp_typing_laws.specs.BodyFaults.{in_def_body, in_post}
use Rattle.pp_typing_laws.specs.Faults.{BreaksBinding, bound_again, BreaksPattern, any_bound, int_bound, int_unfit}
use Rattle.pp_typing_laws.specs.Faults.{bool_bound, bool_unfit, ctor_unknown, ctor_absent, ctor_of_other, ctor_arity}
use Rattle.pp_typing_laws.specs.Faults.{ctor_bound, ctor_parts, BreaksPatterns, this_pattern, later_pattern}
use Rattle.pp_typing_laws.specs.Faults.{BreaksWritten, in_type, Breaks, unfit_int, unfit_bool, absent_local}
use Rattle.pp_typing_laws.specs.Faults.{unfit_local, unknown_name, in_name, unknown_applied, in_application, in_base}
use Rattle.pp_typing_laws.specs.Faults.{no_one_ctor, unknown_field, unfit_field, in_operand, unfit_operand, unfit_unary}
use Rattle.pp_typing_laws.specs.Faults.{in_left, unfit_left, in_right, unfit_right, unfit_binary, in_test, in_first}
use Rattle.pp_typing_laws.specs.Faults.{in_second, unlike_second, in_matched, without_case, in_case, clashing_val}
use Rattle.pp_typing_laws.specs.Faults.{in_val_type, in_value, after_val, in_asserted, after_assert, BreaksCondition}
use Rattle.pp_typing_laws.specs.Faults.{in_condition, no_boolean, BreaksApplied, args_arity, types_arity, in_types}
use Rattle.pp_typing_laws.specs.Faults.{in_args, open_param, unfit_result, BreaksArgs, this_arg, unfit_arg, later_arg}
use Rattle.pp_typing_laws.specs.Faults.{BreaksCases, in_plain, in_guarded, in_guard, plain_body, guarded_body}
use Rattle.pp_typing_laws.specs.Faults.{after_plain, after_guarded, BreaksBody, in_body, unlike_body, at_of}

-- a fault of a written type
module _ (P : ℕ → Type 0) (roots : List TypedRoot) (params : List Word) where
  mutual
    pub type_fault_at : {t : TypeTree} {rule : Rule} {w : Word} {place : ℕ} → written.Breaks roots params t rule w place
        → TypeOffsets P t → P place
    type_fault_at (unknown at w ts none) o = o.0
    type_fault_at (arguments at w ts h is differ) o = o.0
    type_fault_at (inside at w ts rule v place one) o = types_fault_at one o.1

    pub types_fault_at : {ts : TypeTrees} {rule : Rule} {w : Word} {place : ℕ} → OneBreaks roots params ts rule w place
        → TypesOffsets P ts → P place
    types_fault_at (here t ts rule v place breaks) o = type_fault_at breaks o.0
    types_fault_at (later t ts rule v place breaks) o = types_fault_at breaks o.1

module _ (P : Offset → Type 0) (env : Env) where
  abbrev At : ℕ → Type 0
  At at = P (env.source, at)

  abbrev Is : Fault → Type 0
  Is f = P (f.source, f.at)

  first_at : (e : Tree) → Offsets At e → At (at_of e)
  first_at (int at n) o = o
  first_at (bool at b) o = o
  first_at (name at w) o = o
  first_at (apply at w ts es) o = o.0
  first_at (field at e w) o = o.0
  first_at (unary at op a) o = o.0
  first_at (binary at op a b) o = o.0
  first_at (choice at c a b) o = o.0
  first_at (matching at e cs) o = o.0
  first_at (val_in at w t a b) o = o.0
  first_at (assert_in at c e) o = o.0

  binding_at : {at k : ℕ} {sc : Scope} {n : Option Word} {f : Fault} → BreaksBinding env at k sc n f → At at → Is f
  binding_at (bound_again at w clashes) o = o

  written_at : {t : TypeTree} {f : Fault} → BreaksWritten env t f → TypeOffsets At t → Is f
  written_at (in_type rule w at breaks) o = type_fault_at At env.declared.roots env.type_params breaks o

  mutual
    pattern_at : {k : ℕ} {sc : Scope} {s : GenericSort} {p : PatternTree} {f : Fault} → BreaksPattern env k sc s p f
        → PatternOffsets At p → Is f
    pattern_at (any_bound at b) o = binding_at b o
    pattern_at (int_bound at v b) o = binding_at b o
    pattern_at (int_unfit at v differ) o = o
    pattern_at (bool_bound at v b) o = binding_at b o
    pattern_at (bool_unfit at v differ) o = o
    pattern_at (ctor_unknown at w none) o = o.0
    pattern_at (ctor_absent at w i is none) o = o.0
    pattern_at (ctor_of_other at w i c is there other) o = o.0
    pattern_at (ctor_arity at w i c is there differ) o = o.0
    pattern_at (ctor_bound at w b) o = binding_at b o.0
    pattern_at (ctor_parts at w i c args is there root b parts) o = patterns_at parts o.1

    patterns_at : {k : ℕ} {sc : Scope} {ss : List GenericSort} {ps : PatternTrees} {f : Fault}
        → BreaksPatterns env k sc ss ps f
        → PatternsOffsets At ps → Is f
    patterns_at (this_pattern b) o = pattern_at b o.0
    patterns_at (later_pattern typed b) o = patterns_at b o.1

  mutual
    fault_at : {sc : Scope} {k : ℕ} {x : Expected} {e : Tree} {f : Fault} → Breaks env sc k x e f → Offsets At e → Is f
    fault_at (unfit_int at n misfit) o = o
    fault_at (unfit_bool at b misfit) o = o
    fault_at (absent_local at w i is none) o = o
    fault_at (unfit_local at w i l is there misfit) o = o
    fault_at (unknown_name at w none absent) o = o
    fault_at (in_name at w c none is b) o = applied_at b o tt tt
    fault_at (unknown_applied at w none) o = o.0
    fault_at (in_application at w c is b) o = applied_at b o.0 o.1 o.2
    fault_at (in_base at w b) o = fault_at b o.1
    fault_at (no_one_ctor at w typed none) o = o.0
    fault_at (unknown_field at w r c args typed is only none) o = o.0
    fault_at (unfit_field at w r c j args s typed is only place has misfit) o = o.0
    fault_at (in_operand at op b) o = fault_at b o.1
    fault_at (unfit_operand {a = a} at op typed differ) o = first_at a o.1
    fault_at (unfit_unary at op misfit) o = o.0
    fault_at (in_left at op b) o = fault_at b o.1
    fault_at (unfit_left {a = a} at op typed refused) o = first_at a o.1
    fault_at (in_right at op typed b) o = fault_at b o.2
    fault_at (unfit_right {b = b} at op typed other differ) o = first_at b o.2
    fault_at (unfit_binary at op typed misfit) o = o.0
    fault_at (in_test at b) o = condition_at b o.1
    fault_at (in_first at b) o = fault_at b o.2
    fault_at (in_second at b) o = fault_at b o.3
    fault_at (unlike_second {b = b} at typed other differ) o = first_at b o.3
    fault_at (in_matched at b) o = fault_at b o.1
    fault_at (without_case at) o = o.0
    fault_at (in_case at typed b) o = cases_at b o.2
    fault_at (clashing_val at w clashes) o = o.0
    fault_at (in_val_type at w b) o = written_at b o.1
    fault_at (in_value at w wants b) o = fault_at b o.2
    fault_at (after_val at w wants typed b) o = fault_at b o.3
    fault_at (in_asserted at b) o = condition_at b o.1
    fault_at (after_assert at b) o = fault_at b o.2

    condition_at : {sc : Scope} {c : Tree} {f : Fault} → BreaksCondition env sc c f → Offsets At c → Is f
    condition_at (in_condition b) o = fault_at b o
    condition_at (no_boolean {c = c} typed differ) o = first_at c o

    applied_at : {sc : Scope} {at : ℕ} {w : Word} {x : Expected} {ts : TypeTrees} {c : Callee} {es : Trees} {f : Fault}
        → BreaksApplied env sc at w x ts c es f → At at → TypesOffsets At ts → AllOffsets At es → Is f
    applied_at (args_arity at w differ) o ts es = o
    applied_at (types_arity at w t rest differ) o ts es = o
    applied_at (in_types at w rule v place one) o ts es = types_fault_at At env.declared.roots env.type_params one ts
    applied_at (in_args at w starts b) o ts es = args_at b es
    applied_at (open_param at w starts args none) o ts es = o
    applied_at (unfit_result at w sorts starts args all misfit) o ts es = o

    args_at : {sc : Scope} {ps : List GenericSort} {found : Found} {es : Trees} {f : Fault}
        → BreaksArgs env sc ps found es f
        → AllOffsets At es → Is f
    args_at (this_arg b) o = fault_at b o.0
    args_at (unfit_arg {e = e} typed differ) o = first_at e o.0
    args_at (later_arg typed is b) o = args_at b o.1

    cases_at : {sc : Scope} {x : Expected} {s : GenericSort} {w : Option GenericSort} {cs : CaseTrees} {f : Fault}
        → BreaksCases env sc x s w cs f → CaseOffsets At cs → Is f
    cases_at (in_plain b) o = pattern_at b o.0
    cases_at (in_guarded b) o = pattern_at b o.0
    cases_at (in_guard typed b) o = condition_at b o.1
    cases_at (plain_body typed b) o = body_at b o.1
    cases_at (guarded_body typed b) o = body_at b o.2
    cases_at (after_plain typed body b) o = cases_at b o.2
    cases_at (after_guarded typed body b) o = cases_at b o.3

    body_at : {sc : Scope} {x : Expected} {s : Option GenericSort} {body : Tree} {f : Fault}
        → BreaksBody env sc x s body f
        → Offsets At body → Is f
    body_at (in_body b) o = fault_at b o
    body_at (unlike_body {body = body} typed differ) o = first_at body o

  conditions_at : {sc : Scope} {cs : List Tree} {f : Fault} → BreaksConditions env sc cs f → ListOffsets At cs → Is f
  conditions_at (this_condition b) o = condition_at b o.0
  conditions_at (later_condition b) o = conditions_at b o.1

  measure_at : {sc : Scope} {es : List Tree} {f : Fault} → BreaksMeasure env sc es f → ListOffsets At es → Is f
  measure_at (this_component b) o = fault_at b o.0
  measure_at (later_component b) o = measure_at b o.1

  type_at : (t : TypeTree) (o : Option TypeTree) → o ≡ Some t → WrittenOffsets At o → TypeOffsets At t
  type_at t o is h = subst (WrittenOffsets At) is h

  post_at : {sc : Scope} {s : GenericSort} {p : PostTree} {f : Fault} → BreaksPost env sc s p f
      → PostOffsets At (Some p) → Is f
  post_at (reserved_result p is) o = o.0
  post_at (in_result_type p t is b) o = written_at b (type_at t p.of is o.1)
  post_at (other_result_type p at w ts other is sort differ) o = (type_at _ p.of is o.1).0
  post_at (in_claim p b) o = condition_at b o.2

-- a fault of a function
pub def_fault_at : (P : Offset → Type 0) (declared : Declared) (source : ℕ) (d : DefTree) (s : Signature) {f : Fault}
    → BreaksDef declared source d s f → DeclOffsets (λ at. P (source, at)) (def d) → P (f.source, f.at)
def_fault_at P declared source d s (in_pre b) o = conditions_at P (env_of_def declared source d) b o.3
def_fault_at P declared source d s (in_measure b) o = measure_at P (env_of_def declared source d) b o.4
def_fault_at P declared source d s (in_def_body b) o = fault_at P (env_of_def declared source d) b o.5
def_fault_at P declared source d s (in_post p is b) o =
    post_at P (env_of_def declared source d) b (subst (PostOffsets (λ at. P (source, at))) is o.6)
