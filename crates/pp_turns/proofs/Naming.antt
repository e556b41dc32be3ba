-- How often a list names a check, and how far the checks have come when one more is named.
use Rattle.std.proofs.Common.{◌≡◌, ◌∙◌, ℕ, suc, ◌<◌, ◌≤◌, Bool, true, false, List, ◌∷◌, Option, Some, None, inl, inr}
use Rattle.std.proofs.Common.{length, slice_get, refl, sym, ap, subst, arith}
use Rattle.std.specs.Prelude.{IsTrue, MatchOption, if◌then◌else◌, nat_eq, is_some, slice_set}
use Rattle.std.proofs.lemmas.Bool.{eq-eqb, eqb-true}
use Rattle.std.proofs.lemmas.Option.{same_Some, slice_get_within}
use Rattle.pp_prog.specs.declared.id.CheckId.{CheckId}
use Rattle.pp_prog.specs.declared.program.Program.{Program}
use Rattle.pp_induct.specs.declared.ends.CheckEnd.{CheckEnd}
use Rattle.pp_turns.specs.declared.part.Turn.{Turn}
use Rattle.pp_turns.specs.declared.turns.Turns.{Turns}
use Rattle.pp_turns.specs.Parts.{HaveEnded, has_ended, progress_of, progress_unless}
use Rattle.pp_turns.specs.Turns.{AreTurned, AreTurns, HasTurned, IsNamedEnough, IsTurn, times}
use Rattle.pp_verify.proofs.Written.{at_written}

pub times_here : (names : List CheckId) (name : CheckId) (c : ℕ) → name.0 ≡ c
    → times c (name ∷ names) ≡ suc (times c names)
times_here names name c same =
    ap (λ (b : Bool). if b then suc (times c names) else times c names) (eq-eqb name.0 c same)

times_there : (names : List CheckId) (name : CheckId) (c : ℕ) → (name.0 ≡ c → ⊥)
    → times c (name ∷ names) ≡ times c names
times_there names name c differ = by (nat_eq name.0 c) refl
  where
    by : (b : Bool) → nat_eq name.0 c ≡ b → (if b then suc (times c names) else times c names) ≡ times c names
    by true e = absurd (differ (eqb-true name.0 c e))
    by false e = refl

pub times_grow : (names : List CheckId) (name : CheckId) (c : ℕ) → times c names ≤ times c (name ∷ names)
times_grow names name c = by (nat_eq name.0 c)
  where
    by : (b : Bool) → times c names ≤ (if b then suc (times c names) else times c names)
    by true = omega arith
    by false = omega arith

-- a check that has ended has ended after a turn more
ended_more : (k : ℕ) (turn : Turn) → progress_of turn ≡ None → HasTurned k turn → HasTurned (suc k) turn
ended_more k turn none turned = by turn.end none turned
  where
    by : (end : Option CheckEnd) → progress_unless turn.progress end ≡ None
        → MatchOption end (turn.progress.round ≡ k) (λ e. turn.progress.round < k)
        → MatchOption end (turn.progress.round ≡ suc k) (λ e. turn.progress.round < suc k)
    by None none turned = let no : Some turn.progress ≡ None = none in cc
    by (Some e) none turned = omega (arith, turned)

-- so the checks stay as they are where one is named that has ended
pub named_ended : (names : List CheckId) (name : CheckId) (turns : List Turn) (turn : Turn)
    → slice_get turns name.0 ≡ Some turn → progress_of turn ≡ None → AreTurned names turns
    → AreTurned (name ∷ names) turns
named_ended names name turns turn at none are c t here = by (nat_eq name.0 c) refl
  where
    by : (b : Bool) → nat_eq name.0 c ≡ b → HasTurned (if b then suc (times c names) else times c names) t
    by true e =
        let same : name.0 ≡ c = eqb-true name.0 c e in
        let one : turn ≡ t = same_Some turn t (sym at ∙ ap (λ (k : ℕ). slice_get turns k) same ∙ here) in
        ended_more (times c names) t (subst (λ (u : Turn). progress_of u ≡ None) one none) (are c t here)
    by false e = are c t here

-- the checks where the named one, which hasn't ended, has come further
pub named_open : (names : List CheckId) (name : CheckId) (turns : List Turn) (turn : Turn)
    → HasTurned (suc (times name.0 names)) turn → AreTurned names turns
    → AreTurned (name ∷ names) (slice_set turns name.0 turn)
named_open names name turns turn turned are c t here =
    elim (at_written turns name.0 turn c t here) [
      | inl same ↦
          let count : suc (times name.0 names) ≡ times c (name ∷ names) =
          ap (λ (k : ℕ). suc (times k names)) (sym same.0) ∙ sym (times_here names name c (sym same.0)) in
          subst (λ (u : Turn). HasTurned (times c (name ∷ names)) u) same.1
          (subst (λ (k : ℕ). HasTurned k turn) count turned)
      | inr other ↦
          subst (λ (k : ℕ). HasTurned k t) (sym (times_there names name c (λ h. other.0 (sym h)))) (are c t other.1)
    ]

-- a check that was named more often than there are rounds has ended
named_enough : (p : Program) (turns : Turns) (c k : ℕ) (turn : Turn) → IsTurn p turns.limits c turn
    → turns.limits.rounds < k → HasTurned k turn → IsTrue (has_ended turn)
named_enough p turns c k turn is enough turned = by turn.end turned
  where
    by : (end : Option CheckEnd) → MatchOption end (turn.progress.round ≡ k) (λ e. turn.progress.round < k)
        → IsTrue (is_some end)
    by None turned = absurd (omega (arith, turned, enough, is.come.round))
    by (Some e) turned = refl

-- so a list that names each check once more than there are rounds ends all
pub all_ended : (p : Program) (names : List CheckId) (turns : Turns) → AreTurns p turns
    → AreTurned names turns.checks → IsNamedEnough p turns.limits names → HaveEnded turns.checks
all_ended p names turns are turned enough c turn at =
    let within : c < length p.checks =
    subst (λ (n : ℕ). c < n) are.size (slice_get_within turns.checks c turn at) in
    named_enough p turns c (times c names) turn (are.each c turn at) (enough c within) (turned c turn at)
