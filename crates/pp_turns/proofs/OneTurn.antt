-- What a turn makes of the named check, and that it touches no other.
use Rattle.std.proofs.Common.{◌≡◌, ◌∙◌, ℕ, suc, List, Option, Some, None, inl, inr, length, slice_get, refl, sym, ap}
use Rattle.std.proofs.Common.{subst, arith}
use Rattle.std.specs.Prelude.{option_map, slice_set}
use Rattle.std.proofs.lemmas.List.{length-set}
use Rattle.std.proofs.lemmas.Option.{same_Some}
use Rattle.pp_prog.specs.declared.id.CheckId.{CheckId}
use Rattle.pp_prog.specs.declared.program.Program.{Program}
use Rattle.pp_induct.specs.declared.ends.CheckEnd.{CheckEnd}
use Rattle.pp_induct.specs.declared.limits.Limits.{Limits}
use Rattle.pp_induct.specs.Reports.{AreLimits}
use Rattle.pp_verify.specs.declared.progress.Progress.{Progress}
use Rattle.pp_verify.specs.declared.progress.Step.{Step}
use Rattle.pp_verify.specs.declared.progress.Step.TheVariants as step
use Rattle.pp_verify.specs.declared.shared.Shared.{Shared}
use Rattle.pp_verify.specs.Rounds.{StepGives}
use Rattle.pp_verify.specs.Shared.{AreShared}
use Rattle.pp_turns.specs.declared.part.Turn.{Turn}
use Rattle.pp_turns.specs.declared.turns.Turns.{Turns}
use Rattle.pp_turns.specs.Parts.{open_turn, progress_of, progress_unless, turn_after}
use Rattle.pp_turns.specs.Turns.{AreAllShared, AreTurns, HasTurned, IsTurn, TouchesOnly}
use Rattle.pp_verify.proofs.Written.{at_other, at_written}

abbrev turn_of : Progress → Option CheckEnd → Turn
turn_of progress end = record { progress = progress; end = end }

-- a check that is open stands at its progress
open_is : (turn : Turn) (progress : Progress) → progress_of turn ≡ Some progress → turn ≡ open_turn progress
open_is turn progress is = by turn.end refl is
  where
    by : (end : Option CheckEnd) → turn.end ≡ end → progress_unless turn.progress end ≡ Some progress
        → turn ≡ open_turn progress
    by None e is =
        ap (λ (o : Option CheckEnd). turn_of turn.progress o) e
        ∙ ap (λ (q : Progress). turn_of q None) (same_Some turn.progress progress is)
    by (Some end) e is = cc

-- what is known of the check at a place by what was read of it
pub read_at : (turns : List Turn) (c : ℕ) (read : Option Progress)
    → option_map progress_of (slice_get turns c) ≡ Some read
    → (turn : Turn) × (slice_get turns c ≡ Some turn) × (progress_of turn ≡ read)
read_at turns c read is = by (slice_get turns c) refl is
  where
    by : (o : Option Turn) → slice_get turns c ≡ o → option_map progress_of o ≡ Some read
        → (turn : Turn) × (slice_get turns c ≡ Some turn) × (progress_of turn ≡ read)
    by None at is = cc
    by (Some turn) at is = (turn, at, same_Some (progress_of turn) read is)

pub open_at : (turns : List Turn) (c : ℕ) (progress : Progress)
    → option_map progress_of (slice_get turns c) ≡ Some (Some progress)
    → slice_get turns c ≡ Some (open_turn progress)
open_at turns c progress is =
    let read = read_at turns c (Some progress) is in
    read.1 ∙ ap (λ (t : Turn). Some t) (open_is read.0 progress read.2)

-- a round more of a check that hasn't ended
pub turned_once : (p : Program) (limits : Limits) (k : ℕ) (progress : Progress) (given : Step)
    → StepGives p limits progress given → HasTurned k (open_turn progress)
    → HasTurned (suc k) (turn_after progress given)
turned_once p limits k progress (step.Ended end) gives at = omega (arith, at)
turned_once p limits k progress (step.Next next) gives at = omega (arith, gives.round, at)

pub is_turn_after : (p : Program) (limits : Limits) (c : ℕ) (progress : Progress) (given : Step)
    → IsTurn p limits c (open_turn progress) → StepGives p limits progress given
    → IsTurn p limits c (turn_after progress given)
is_turn_after p limits c progress (step.Ended end) is gives = record {
  check = is.check;
  come = is.come;
  ended = gives;
}
is_turn_after p limits c progress (step.Next next) is gives = record {
  check = ap (λ (k : CheckId). k.0) gives.check ∙ is.check;
  come = gives.come;
  ended = tt;
}

-- what functions' checks share, with that of one function in the place of what it was
pub shared_after : (p : Program) (limits : Limits) (shared : List Shared) (i : ℕ) (s : Shared)
    → AreAllShared p limits shared → AreShared p limits i s → AreAllShared p limits (slice_set shared i s)
shared_after p limits shared i s are is k t at =
    elim (at_written shared i s k t at) [
      | inl here ↦
          subst (λ (n : ℕ). AreShared p limits n t) (sym here.0)
          (subst (λ (u : Shared). AreShared p limits i u) here.1 is)
      | inr there ↦ are k t there.1
    ]

-- the checks where one of them has come further, and what its function's checks share may be more
module _ (before after : Turns) (c : ℕ) (turn : Turn) (limits : after.limits ≡ before.limits)
    (checks : after.checks ≡ slice_set before.checks c turn) where
  size_kept : length after.checks ≡ length before.checks
  size_kept = ap (λ (l : List Turn). length l) checks ∙ length-set before.checks c turn

  pub touches_only : TouchesOnly c before after
  touches_only = record {
    limits = limits;
    size = size_kept;
    others = λ d differ.
        ap (λ (l : List Turn). slice_get l d) checks ∙ at_other before.checks c turn d differ;
  }

  pub are_turns : (p : Program) → AreTurns p before → IsTurn p before.limits c turn
      → length after.shared.items ≡ length before.shared.items → AreAllShared p before.limits after.shared.items
      → AreTurns p after
  are_turns p are is same shared = record {
    limits = subst (λ (l : Limits). AreLimits l) (sym limits) are.limits;
    size = size_kept ∙ are.size;
    each = λ d t at.
        subst (λ (l : Limits). IsTurn p l d t) (sym limits)
        (elim (at_written before.checks c turn d t (subst (λ (l : List Turn). slice_get l d ≡ Some t) checks at)) [
          | inl here ↦
              subst (λ (k : ℕ). IsTurn p before.limits k t) (sym here.0)
              (subst (λ (u : Turn). IsTurn p before.limits c u) here.1 is)
          | inr there ↦ are.each d t there.1
        ]);
    functions = same ∙ are.functions;
    shared = subst (λ (l : Limits). AreAllShared p l after.shared.items) (sym limits) shared;
  }

-- where nothing is done nothing is touched
pub untouched : (c : ℕ) (turns : Turns) → TouchesOnly c turns turns
untouched c turns = record { limits = refl; size = refl; others = λ d differ. refl }
