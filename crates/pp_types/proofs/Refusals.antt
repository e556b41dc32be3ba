-- What a refusal tells of the fault that it stands for.
use Rattle.std.proofs.Common.{◌≡◌, Some, IfSome, sym, subst}
use Rattle.pp_fault.specs.declared.Fault.{Fault}
use Rattle.pp_types.specs.declared.fault.TypeFault.{TypeFault}
use Rattle.pp_types.specs.Kinds.{OnFault, broken_rule}

pub on_fault : (e : TypeFault) (f : Fault) (P : Fault → Type 0) → broken_rule e ≡ Some f → P f → OnFault e P
on_fault e f P k p = subst (λ told. IfSome told P) (sym k) p
