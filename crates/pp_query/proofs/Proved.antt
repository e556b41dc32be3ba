-- What the replies to the question of guess runs say: no guess run fails a check whose question has no model.
use Rattle.std.proofs.Common.{ℕ, Bool, refl}
use Rattle.std.proofs.Math.Logic.{∥∥₁_elim, ∥∥₁_map}
use Rattle.pp_prog.specs.declared.id.CheckId.{CheckId}
use Rattle.pp_prog.specs.declared.program.Program.{Program}
use Rattle.pp_prog.specs.Cone.{IsWordFunction}
use Rattle.pp_clause.specs.declared.spent.Spent.{Spent as SpentQuery}
use Rattle.pp_checks.specs.Plain.{IsPlain}
use Rattle.pp_induction.specs.Ends.{GuessFails, NoGuessFails}
use Rattle.pp_named_trees.specs.declared.arena.NamedTree.{NamedTree}
use Rattle.pp_named_trees.specs.declared.arena.NamedTrees.{NamedTrees}
use Rattle.pp_named_trees.specs.Meaning.{named_sense}
use Rattle.pp_sound.specs.Sound.{IsCheckOf}
use Rattle.pp_symbolic.specs.declared.frame.Mode.TheVariants.{Guess}
use Rattle.pp_query.specs.declared.proof.Proof.TheVariants.{NotProved, Proved, Spent}
use Rattle.pp_query.specs.declared.question.Question.{Question}
use Rattle.pp_query.specs.Proofs.{IsProof}
use Rattle.pp_query.specs.Question.{IsQuestion}
use Rattle.pp_query.specs.Reply.{IsFailing, IsSpentReply}
use Rattle.pp_query.proofs.Variables.{spent_within}

-- where no guess run is one that fails the check, none fails it
pub no_guess_fails : (p : Program) (i : ℕ) (c : CheckId) (round : ℕ) → (GuessFails p i c round → ⊥)
    → NoGuessFails p i c round
no_guess_fails p i c round never f args called answers answering failed = never (record {
  function = f;
  args = args;
  called = called;
  answers = answers;
  answering = answering;
  failed = failed;
})

module _ (p : Program) (c : CheckId) (round : ℕ) (q : Question NamedTrees NamedTree)
    (is : IsQuestion named_sense p c Guess round 1 q)
  where
    -- a guess run that fails the check has a model
    failing_has_model : (i : ℕ) → IsCheckOf p i c.0 → GuessFails p i c round
        → ∥ ((a : ℕ → Bool) × IsFailing q.circuit q.frame.fails q.frame.circuit_ok a) ∥₁
    failing_has_model i check failed =
        ∥∥₁_map ((is.guess refl).found i check failed)
        (λ found. (found.0, record { gives = found.1.gates; fails = found.1.fails; ok = found.1.ok }))

    -- and where the function meets no datatype a model is one of a guess run that fails the check
    model_is_failing : (i : ℕ) → IsCheckOf p i c.0 → IsWordFunction p.types p.functions i → (a : ℕ → Bool)
        → IsFailing q.circuit q.frame.fails q.frame.circuit_ok a → GuessFails p i c round
    model_is_failing i check word a model =
        (is.guess refl).words i check word a (record { gates = model.gives; ok = model.ok; fails = model.fails })

    pub model_leaves_unproved : (lemmas : ℕ) (a : ℕ → Bool)
        → IsFailing q.circuit q.frame.fails q.frame.circuit_ok a → (IsPlain p.functions c.0 → ⊥)
        → IsProof p c round lemmas NotProved
    model_leaves_unproved lemmas a model not_plain i check =
        (not_plain, λ word. model_is_failing i check word a model)

    pub no_model_proves : (lemmas : ℕ)
        → ((a : ℕ → Bool) → IsFailing q.circuit q.frame.fails q.frame.circuit_ok a → ⊥)
        → IsProof p c round lemmas Proved
    no_model_proves lemmas none i check =
        no_guess_fails p i c round (λ failed. ∥∥₁_elim (failing_has_model i check failed) ⊥_prop
        (λ found. none found.0 found.1))
      where
        ⊥_prop : IsProp ⊥
        ⊥_prop = hlevel

    pub spent_proves : (lemmas : ℕ) (s : SpentQuery)
        → IsSpentReply q.circuit q.frame.fails q.frame.circuit_ok lemmas s → (IsPlain p.functions c.0 → ⊥)
        → IsProof p c round lemmas (Spent s)
    spent_proves lemmas s reply not_plain i check = (
      not_plain,
      record {
        spent = spent_within _ _ lemmas s is.small reply.spent;
        found = λ failed. ∥∥₁_map (failing_has_model i check failed) reply.exact.1;
        words = λ word satisfied.
            let model = reply.exact.0 satisfied in model_is_failing i check word model.0 model.1;
      },
    )
