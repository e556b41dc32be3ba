-- What the answers of a proof rest on: no guess run fails a plain descent.
use Rattle.std.specs.Prelude.{ℕ}
use Rattle.pp_prog.specs.declared.id.CheckId.{CheckId}
use Rattle.pp_prog.specs.declared.program.Program.{Program}
use Rattle.pp_checks.specs.Plain.{IsPlain}
use Rattle.pp_checks.specs.Plan.{IsPlanOf, Plan}
use Rattle.pp_plain_laws.proofs.Law.{plain_never_fail}
use Rattle.pp_query.specs.declared.proof.Proof.TheVariants.{Proved}
use Rattle.pp_query.specs.Proofs.{IsProof}

pub plain_is_proved : (plan : Plan) (p : Program) → IsPlanOf plan p → (c : CheckId) (round lemmas : ℕ)
    → IsPlain p.functions c.0 → IsProof p c round lemmas Proved
plain_is_proved plan p is_plan c round lemmas plain i check =
    plain_never_fail.guesses plan p is_plan i c check plain round
