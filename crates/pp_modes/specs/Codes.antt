-- The exit statuses. Source: own.
use Rattle.std.specs.Prelude.{ℕ}
use Rattle.pp_modes.specs.declared.status.Status.{Status}
use Rattle.pp_modes.specs.declared.status.Status.TheVariants as status

abbrev pub code_of : Status → ℕ
code_of status.AllValid = 0
code_of status.SomeInvalid = 1
code_of status.SomeOpen = 2
code_of status.Refused = 3
code_of status.Words = 4
code_of status.ReadFault = 5
code_of status.WriteFault = 6
code_of status.Memory = 7
