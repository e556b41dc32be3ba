-- Steps that are written one after another: a piece is what a part of a program leaves. Source: own.
use Rattle.std.specs.Prelude.{ℕ, suc, ◌+◌, nat_eq, Bool, true, false, List, [], ◌∷◌, ◌++◌, length, Option, Some, None}
use Rattle.pp_prog.specs.declared.id.CheckId.{CheckId}
use Rattle.pp_steps.specs.declared.step.Step.{Step}
use Rattle.pp_steps.specs.declared.step.Step.TheVariants as steps

-- the steps; the numbers in which the outcome stands; the number that tells whether the part was reached and has an
-- outcome; and the numbers that tell whether the asked check fails
pub record Piece (A : Type 0) : Type 0 where
  pub steps : List Step
  pub out : A
  pub alive : ℕ
  pub fails : List ℕ

-- steps that stop nothing
abbrev pub plain : {A : Type 0} → List Step → A → ℕ → Piece A
plain ss out alive = record { steps = ss; out = out; alive = alive; fails = [] }

-- the number after a piece that begins at number k
abbrev pub after : {A : Type 0} → ℕ → Piece A → ℕ
after k x = k + length x.steps

-- two pieces, one after another: the outcome is the second's
abbrev pub joined : {A B : Type 0} → Piece A → Piece B → Piece B
joined x y = record {
  steps = x.steps ++ y.steps;
  out = y.out;
  alive = y.alive;
  fails = x.fails ++ y.fails;
}

-- a piece that begins at number k, and what goes on from the next number, its outcome and its bit
abbrev pub bind : {A B : Type 0} → ℕ → Piece A → (ℕ → A → ℕ → Piece B) → Piece B
bind k x go = joined x (go (after k x) x.out x.alive)

-- the checks are the same
abbrev pub asks : Option CheckId → Option CheckId → Bool
asks None check = false
asks (Some c) None = false
asks (Some c) (Some d) = nat_eq c.0 d.0

-- What has to be true for a run to go on. Where this is the asked check, a false test fails it.
abbrev pub demand : Bool → ℕ → ℕ → ℕ → Piece ℕ
demand true k alive test = record {
  steps = steps.Both alive test ∷ steps.Not test ∷ steps.Both alive (suc k) ∷ [];
  out = test;
  alive = k;
  fails = suc (suc k) ∷ [];
}
demand false k alive test = plain (steps.Both alive test ∷ []) test k

-- where the run is reached, and the asked check fails
abbrev pub failing : Bool → ℕ → List ℕ
failing true reach = reach ∷ []
failing false reach = []

abbrev pub pick_step : ℕ → ℕ → Option ℕ → List Step
pick_step taken a None = []
pick_step taken a (Some b) = steps.Choose taken a b ∷ []

abbrev pub picked : ℕ → ℕ → Option ℕ → ℕ
picked k a None = a
picked k a (Some b) = k

-- Two branches: the first is the outcome where `taken` is true. A branch that never has an outcome leaves no number of
-- it. The steps after both begin at number k.
abbrev pub choice : ℕ → ℕ → Piece ℕ → Piece (Option ℕ) → Piece ℕ
choice k taken x y = record {
  steps = x.steps ++ (y.steps ++ steps.Choose taken x.alive y.alive ∷ pick_step taken x.out y.out);
  out = picked (suc k) x.out y.out;
  alive = k;
  fails = x.fails ++ y.fails;
}

-- a piece that may have an outcome
abbrev pub possible : Piece ℕ → Piece (Option ℕ)
possible x = record { steps = x.steps; out = Some x.out; alive = x.alive; fails = x.fails }
