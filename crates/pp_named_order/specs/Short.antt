-- Namings by short numbers. (own)
use Rattle.std.specs.Prelude.{◌≡◌, ℕ, Some}
use Rattle.pp_prog.specs.declared.id.DataId.{DataId}
use Rattle.pp_prog.specs.declared.value.Value.{Value}
use Rattle.pp_domain.specs.Naming.{Naming}
use Rattle.pp_domain.specs.Short.{IsShort}

-- all digits of each number from the one at this place on are alike
abbrev pub AreShort : ℕ → Naming → Type 0
AreShort low n = (d : DataId) (k : ℕ) (v : Value) → n d k ≡ Some v → IsShort low k
