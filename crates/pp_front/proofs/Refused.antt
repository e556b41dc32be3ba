-- The lines of refusals are those of their causes.
use Rattle.std.proofs.Common.{◌≡◌, ℕ, List, Result, Ok, Err, IfErr, ap, ◌∙◌}
use Rattle.std.specs.Prelude.{IfSome, IsSomeAnd, None, Option, Some, slice_get}
use Rattle.pp_checks.specs.Rules.{IsFirstFault}
use Rattle.pp_checks.specs.declared.fault.PlanFault.{PlanFault}
use Rattle.pp_fault.specs.declared.Fault.{Fault}
use Rattle.pp_front.specs.Refuses.{BreaksRule, BreaksRules, IsUntyped, typing_line}
use Rattle.pp_print.specs.Faults.{named_fault_text}
use Rattle.pp_print.specs.declared.fault.NamedFault.{NamedFault}
use Rattle.pp_prog.specs.declared.expr.Function.{Function}
use Rattle.pp_prog.specs.declared.id.FunctionId.{FunctionId}
use Rattle.pp_prog.specs.declared.program.Program.{Program}
use Rattle.pp_source.specs.Told.{OnLine}
use Rattle.pp_source.specs.declared.refusal.Refusal.{Refusal}
use Rattle.pp_source.specs.declared.refusal.Refusal.TheVariants as refusal
use Rattle.pp_tree.specs.Plain.{UnitTree}
use Rattle.pp_types_laws.specs.Fault.{Stands}
use Rattle.pp_types_laws.specs.Typing.{HasNoTyping}

-- what follows for a line
pub on_line : {P Q : List ℕ → Type 0} (r : Refusal) → OnLine r P → ((line : List ℕ) → P line → Q line) → OnLine r Q
on_line (refusal.Line line) h go = go _ h
on_line refusal.Memory h go = tt

-- what follows for the fault that a refusal tells
pub on_fault : {P Q : Fault → Type 0} (o : Option Fault) → IfSome o P → ((f : Fault) → P f → Q f) → IfSome o Q
on_fault None h go = tt
on_fault (Some f) h go = go f h

-- the refusal of units without a typing tells a fault that stands in them
pub untyped_line : (texts : List (List ℕ)) (units : List UnitTree) (r : Refusal) (o : Option Fault)
    → IfSome o (Stands units) → IfSome o (λ f. HasNoTyping units)
    → OnLine r (λ line. IsSomeAnd o (λ f. line ≡ typing_line texts f)) → OnLine r (IsUntyped texts units)
untyped_line texts units r None stands untyped says = on_line r says (λ line is. absurd is)
untyped_line texts units r (Some f) stands untyped says =
    on_line r says (λ line is. record {
      fault = f;
      refused = record { stands = stands; untyped = untyped };
      says = is;
    })

-- the refusal of a program whose functions break a rule tells the first
pub broken_line : (p : Program) (r : Refusal) (f : FunctionId) (kind : NamedFault) (fault : PlanFault)
    (first : IsFirstFault p.types p.functions fault) → BreaksRule f kind fault → f.0 ≡ first.place
    → ((g : Function) → slice_get p.functions f.0 ≡ Some g
    → OnLine r (λ line. line ≡ named_fault_text kind g.name g.place))
    → OnLine r (BreaksRules p)
broken_line p r f kind fault first breaks at says =
    let here = ap (slice_get p.functions) at ∙ first.here in
    on_line r (says first.function here) (λ line is. record {
      f = f;
      function = first.function;
      here = here;
      kind = kind;
      fault = fault;
      first = first;
      breaks = breaks;
      says = is;
    })

-- and for the line of an answer that is a refusal
pub if_refused : {A : Type 0} {P Q : List ℕ → Type 0} (r : Result A Refusal) → IfErr r (λ e. OnLine e P)
    → ((line : List ℕ) → P line → Q line) → IfErr r (λ e. OnLine e Q)
if_refused (Ok a) h go = tt
if_refused (Err e) h go = on_line e h go
