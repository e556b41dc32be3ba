-- What the answers of a search mean. Source: own.
use Rattle.std.specs.Prelude.{ℕ, List}
use Rattle.pp_prog.specs.declared.id.CheckId.{CheckId}
use Rattle.pp_prog.specs.declared.program.Program.{Program}
use Rattle.pp_prog.specs.declared.value.Value.{Value}
use Rattle.pp_evidence.specs.Evidence.{IsSearchEvidence}
use Rattle.pp_sound.specs.Counterexample.{IsCounterexample}
use Rattle.pp_sound.specs.Sound.{IsCheckOf}
use Rattle.pp_query.specs.declared.found.Found.{Found}
use Rattle.pp_query.specs.declared.found.Found.TheVariants.{Args, Nothing, Spent}

module _ (p : Program) (c : CheckId) (round depth lemmas : ℕ) where
  -- of the check of function number i: the arguments fail it; none do; or there is evidence that lemmas were spent
  abbrev pub IsFoundBy : ℕ → Found → Type 0
  IsFoundBy i (Args args) = IsCounterexample p i c round depth args
  IsFoundBy i Nothing = (args : List Value) → IsCounterexample p i c round depth args → ⊥
  IsFoundBy i (Spent s) = IsSearchEvidence p i c round depth lemmas s

  -- what is found holds of the function that the check belongs to
  abbrev pub IsFound : Found → Type 0
  IsFound found = (i : ℕ) → IsCheckOf p i c.0 → IsFoundBy i found
