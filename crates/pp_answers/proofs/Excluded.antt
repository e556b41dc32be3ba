-- Refused sources have no accepted program.
use Rattle.std.proofs.Common.{◌≡◌, ◌+◌, ℕ, List, [], ◌∷◌, ◌++◌, length, subst, arith}
use Rattle.std.specs.Prelude.{Some, slice_get}
use Rattle.std.proofs.lemmas.Option.{slice_get_within}
use Rattle.pp_answers.proofs.Once.{one_program, one_typing, one_units}
use Rattle.pp_answers.specs.Answers.{IsAccepted}
use Rattle.pp_checks.specs.Rules.{IsFirstFault, KeepRules, KeepsRules}
use Rattle.pp_checks.specs.declared.fault.PlanFault.{PlanFault}
use Rattle.pp_front.specs.Programs.{SpellUnits, one_source}
use Rattle.pp_front.specs.Refuses.{BreaksRule, Refuses, breaks_rules, contract_cycle, measure_shape, no_measure}
use Rattle.pp_front.specs.Refuses.{spells_none, too_many, untyped}
use Rattle.pp_instances.specs.Closure.{FillsOver}
use Rattle.pp_mono_laws.proofs.Fills.{overfull_are_many}
use Rattle.pp_print.specs.declared.fault.NamedFault.{NamedFault}
use Rattle.pp_prog.specs.declared.expr.Function.{Function}
use Rattle.pp_prog.specs.declared.id.FunctionId.{FunctionId}
use Rattle.pp_prog.specs.declared.program.Program.{Program}
use Rattle.pp_prog.specs.declared.types.TypeTable.{TypeTable}
use Rattle.pp_source.proofs.Excluded.{refused_spell_none}
use Rattle.pp_source.specs.Units.{IsUnitOf}
use Rattle.pp_tree.specs.Plain.{UnitTree}
use Rattle.pp_types_laws.specs.Typing.{HasTyping}

-- the source at a place spells a unit
spelled_at : (before : List (List ℕ)) (bytes : List ℕ) (after : List (List ℕ)) {us : List UnitTree}
    → SpellUnits (before ++ bytes ∷ after) us → (u : UnitTree) × IsUnitOf bytes u
spelled_at [] bytes after (one_source {unit = u} one rest) = (u, one)
spelled_at (b ∷ before) bytes after (one_source one rest) = spelled_at before bytes after rest

module _ (types : TypeTable) (functions : List Function) where
  keeps : (f : ℕ) (function : Function) → KeepRules types functions (length functions)
      → slice_get functions f ≡ Some function → KeepsRules types functions f function
  keeps f function keep at = keep f function (slice_get_within functions f function at) at

  kept_or_broken : {g : FunctionId} {kind : NamedFault} {fault : PlanFault} → BreaksRule g kind fault
      → IsFirstFault types functions fault → KeepRules types functions (length functions) → ⊥
  kept_or_broken no_measure first keep = (keeps first.place first.function keep first.here).measured first.breaks.1
  kept_or_broken measure_shape first keep = first.breaks.2 (keeps first.place first.function keep first.here).shaped
  kept_or_broken contract_cycle first keep = (keeps first.place first.function keep first.here).layered first.breaks.3

pub excluded : (sources : List (List ℕ)) (line : List ℕ) (p : Program) → Refuses sources line → IsAccepted sources p → ⊥
excluded sources line p (spells_none none) is =
    let units = subst (λ l. SpellUnits l is.program.typing.units) none.split is.program.typing.spelled in
    let one = spelled_at none.before none.bytes none.after units in
    refused_spell_none (length none.before + 1) none.bytes line one.0 none.refused one.1
excluded sources line p (untyped units spelled bad) is =
    bad.refused.untyped is.program.typed
    (subst (λ l. HasTyping l is.program.typed) (one_units is.program.typing.spelled spelled) is.program.typing.typing)
excluded sources line p (too_many typed typing many) is =
    let same = one_typing sources typed is.program.typed typing is.program.typing in
    let concrete = is.program.concrete in
    let over_both = overfull_are_many is.program.typed concrete.members 512 concrete.instances
    in let over = over_both.0 (subst (λ t. FillsOver t 512) same many.many) in
    let few = concrete.few in absurd (omega (arith, over, few))
excluded sources line p (breaks_rules q of b) is =
    let alike = one_program sources q p of is.program in
    let first = subst (λ t. IsFirstFault t q.functions b.fault) alike.types b.first in
    kept_or_broken p.types p.functions b.breaks
    (subst (λ l. IsFirstFault p.types l b.fault) alike.functions first) is.rules
