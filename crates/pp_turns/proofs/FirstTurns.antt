-- The checks of a program before the first turn.
use Rattle.std.proofs.Common.{◌≡◌, ◌∙◌, ℕ, ◌+◌, ◌<◌, List, [], ◌∷◌, ◌++◌, Option, Some, inl, inr, length}
use Rattle.std.proofs.Common.{slice_get, sym, ap, subst, arith}
use Rattle.std.specs.Prelude.{IfSome, MatchOption}
use Rattle.std.proofs.lemmas.List.{length-append}
use Rattle.pp_gate.proofs.Places.{at_push}
use Rattle.pp_list.proofs.Lists.{nothing}
use Rattle.pp_prog.specs.declared.program.Program.{Program}
use Rattle.pp_induct.specs.declared.ends.CheckEnd.{CheckEnd}
use Rattle.pp_induct.specs.declared.limits.Limits.{Limits}
use Rattle.pp_induct.specs.Reports.{IsEnd}
use Rattle.pp_sound.specs.Sound.{IsCheckOf}
use Rattle.pp_verify.specs.declared.shared.Shared.{Shared}
use Rattle.pp_verify.specs.Shared.{AreShared}
use Rattle.pp_turns.specs.declared.part.Turn.{Turn}
use Rattle.pp_turns.specs.Turns.{AreAllShared, AreFirst, AreTurned, IsFirst, IsTurn}

-- the first n checks, of which nothing was done yet
pub record AreFirstTo (p : Program) (n : ℕ) (turns : List Turn) : Type 0 where
  pub size : length turns ≡ n
  pub first : AreFirst p turns

pub none_first : (p : Program) (turns : List Turn) → turns ≡ [] → AreFirstTo p 0 turns
none_first p turns none = record {
  size = ap (λ (l : List Turn). length l) none;
  first = λ c turn at. nothing turns c turn none at;
}

pub one_more_first : (p : Program) (n : ℕ) (turns more : List Turn) (turn : Turn) → AreFirstTo p n turns
    → more ≡ turns ++ turn ∷ [] → IsFirst p n turn → AreFirstTo p (n + 1) more
one_more_first p n turns more turn known grown is = record {
  size = ap (λ (l : List Turn). length l) grown ∙ length-append turns (turn ∷ []) ∙ ap (λ (k : ℕ). k + 1) known.size;
  first = λ c t at.
      elim (at_push turns turn c t (subst (λ (l : List Turn). slice_get l c ≡ Some t) grown at)) [
        | inl old ↦ known.first c t old
        | inr new ↦
            subst (λ (k : ℕ). IsFirst p k t) (sym (new.0 ∙ known.size)) (subst (λ (u : Turn). IsFirst p n u) new.1 is)
      ];
}

-- the work on a check of which nothing was done yet has come to round 0
pub first_is_turn : (p : Program) (limits : Limits) (c : ℕ) (turn : Turn) → IsFirst p c turn → IsTurn p limits c turn
first_is_turn p limits c turn is = record {
  check = is.check;
  come = record {
    own = subst (IsCheckOf p turn.progress.function.0) (sym is.check) is.own;
    round = omega (arith, is.round);
    before = record {
      each = λ n lt. absurd (omega (arith, lt, is.round));
      not_plain = λ lt. absurd (omega (arith, lt, is.round));
      guessed = λ word n lt. absurd (omega (arith, lt, is.round));
    };
  };
  ended = subst (λ (o : Option CheckEnd). IfSome o (IsEnd p limits turn.progress.function.0 turn.progress.check))
      (sym is.unended) tt;
}

-- and no turn was made yet
pub first_turned : (p : Program) (turns : List Turn) → AreFirst p turns → AreTurned [] turns
first_turned p turns are c turn at =
    let is : IsFirst p c turn = are c turn at in
    subst (λ (o : Option CheckEnd). MatchOption o (turn.progress.round ≡ 0) (λ e. turn.progress.round < 0))
    (sym is.unended) is.round

-- the list of what functions' checks share, with that of one more function
pub one_more_shared : (p : Program) (limits : Limits) (shared more : List Shared) (s : Shared)
    → AreAllShared p limits shared → ((i : ℕ) → AreShared p limits i s) → more ≡ shared ++ s ∷ []
    → AreAllShared p limits more
one_more_shared p limits shared more s are is grown i t at =
    elim (at_push shared s i t (subst (λ (l : List Shared). slice_get l i ≡ Some t) grown at)) [
      | inl old ↦ are i t old
      | inr new ↦ subst (λ (u : Shared). AreShared p limits i u) new.1 (is i)
    ]
