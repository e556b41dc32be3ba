-- Why a text was refused.
use Rattle.std.specs.Prelude.{List, ℕ, ⊤}
use Rattle.pp_refute.specs.LogText.{IsLogText, IsFirstWrongLine}
use Rattle.pp_refute.specs.declared.fault.LogFault.{LogFault}
use Rattle.pp_refute.specs.declared.fault.LogFault.TheVariants.{Syntax, Memory}

-- the cause of each refusal; want of memory has none
abbrev pub IsCause : List ℕ → LogFault → Type 0
IsCause bytes (Syntax n) = IsFirstWrongLine bytes n × ¬ IsLogText bytes
IsCause bytes Memory = ⊤
