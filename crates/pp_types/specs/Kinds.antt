-- Which broken rule a refusal tells. Source: own.
use Rattle.std.specs.Prelude.{Option, Some, None, IfSome}
use Rattle.pp_fault.specs.declared.Fault.{Fault}
use Rattle.pp_fault.specs.declared.Rule.TheVariants as rule
use Rattle.pp_types.specs.declared.fault.TypeFault.{TypeFault}
use Rattle.pp_types.specs.declared.fault.TypeFault.TheVariants.{Unknown, Duplicate, Mismatch, Arity, CannotInfer}
use Rattle.pp_types.specs.declared.fault.TypeFault.TheVariants.{Uninhabited, NotABoolean, OverLimit, Memory}
use Rattle.pp_types_laws.specs.Fault.{fault_of}

-- the broken rule that a refusal tells, with its name and place; want of memory tells none
abbrev pub broken_rule : TypeFault → Option Fault
broken_rule (Unknown name source offset) = Some (fault_of rule.Unknown name source offset)
broken_rule (Duplicate name source offset) = Some (fault_of rule.Duplicate name source offset)
broken_rule (Mismatch name source offset) = Some (fault_of rule.Mismatch name source offset)
broken_rule (Arity name source offset) = Some (fault_of rule.Arity name source offset)
broken_rule (CannotInfer name source offset) = Some (fault_of rule.CannotInfer name source offset)
broken_rule (Uninhabited name source offset) = Some (fault_of rule.Uninhabited name source offset)
broken_rule (NotABoolean name source offset) = Some (fault_of rule.NotABoolean name source offset)
broken_rule (OverLimit name source offset) = Some (fault_of rule.OverLimit name source offset)
broken_rule Memory = None

-- what is said of the broken rule that a refusal tells
abbrev pub OnFault : TypeFault → (Fault → Type 0) → Type 0
OnFault e P = IfSome (broken_rule e) P
