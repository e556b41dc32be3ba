-- What the answers of a proof mean. Source: own.
use Rattle.std.specs.Prelude.{ℕ}
use Rattle.pp_prog.specs.declared.id.CheckId.{CheckId}
use Rattle.pp_prog.specs.declared.program.Program.{Program}
use Rattle.pp_prog.specs.Cone.{IsWordFunction}
use Rattle.pp_checks.specs.Plain.{IsPlain}
use Rattle.pp_evidence.specs.Evidence.{IsProofEvidence}
use Rattle.pp_induction.specs.Ends.{GuessFails, NoGuessFails}
use Rattle.pp_sound.specs.Sound.{IsCheckOf}
use Rattle.pp_query.specs.declared.proof.Proof.{Proof}
use Rattle.pp_query.specs.declared.proof.Proof.TheVariants.{Proved, NotProved, Spent}

module _ (p : Program) (c : CheckId) (round lemmas : ℕ) where
  -- of the check of function number i: no guess run of the round fails it; or it is no plain descent, and nothing is
  -- known, but that some guess run fails it where the function meets no datatype; or there is evidence that lemmas were
  -- spent
  abbrev pub IsProofBy : ℕ → Proof → Type 0
  IsProofBy i Proved = NoGuessFails p i c round
  IsProofBy i NotProved =
      (IsPlain p.functions c.0 → ⊥) × (IsWordFunction p.types p.functions i → GuessFails p i c round)
  IsProofBy i (Spent s) = (IsPlain p.functions c.0 → ⊥) × IsProofEvidence p i c round 1 lemmas s

  -- what is answered holds of the function that the check belongs to
  abbrev pub IsProof : Proof → Type 0
  IsProof proof = (i : ℕ) → IsCheckOf p i c.0 → IsProofBy i proof
