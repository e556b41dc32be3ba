-- Pieces one after another, demands and choices.
use Rattle.std.proofs.Common.{◌≡◌, ℕ, ◌+◌, suc, List, [], ◌∷◌, ◌++◌, length, Bool, true, false, Option, Ok, Err, refl}
use Rattle.std.proofs.Common.{arith}
use Rattle.pp_prog.specs.declared.id.CheckId.{CheckId}
use Rattle.pp_prog.specs.declared.types.Ctor.{Ctor}
use Rattle.pp_eval.specs.declared.outcome.Stop.{Stop}
use Rattle.pp_eval.specs.Part.{Part, and_then}
use Rattle.pp_steps.proofs.Counting.{add_suc, plus_zero}
use Rattle.pp_steps.specs.declared.step.Step.{Step}
use Rattle.pp_steps.specs.Meaning.{Missing, Obeys, Values}
use Rattle.pp_steps.specs.Piece.{Piece, after, joined, plain}
pub use Rattle.pp_steps.proofs.Bits.{bit_truth}
use Rattle.pp_steps_run.specs.Told.{AllOf, Flags, IsMade, IsQuiet, IsTold, Off, On, SomeOf, here, looked, there}

module _ {A : Type 0} (p : A → Type 0) where
  pub all_join : (xs ys : List A) → AllOf p xs → AllOf p ys → AllOf p (xs ++ ys)
  all_join [] ys h g = g
  all_join (x ∷ xs) ys h g = (h.0, all_join xs ys h.1 g)

  pub all_left : (xs ys : List A) → AllOf p (xs ++ ys) → AllOf p xs
  all_left [] ys h = tt
  all_left (x ∷ xs) ys h = (h.0, all_left xs ys h.1)

  pub all_right : (xs ys : List A) → AllOf p (xs ++ ys) → AllOf p ys
  all_right [] ys h = h
  all_right (x ∷ xs) ys h = all_right xs ys h.1

  pub some_left : (xs ys : List A) → SomeOf p xs → SomeOf p (xs ++ ys)
  some_left [] ys h = elim h [ ]
  some_left (x ∷ xs) ys (here h) = here h
  some_left (x ∷ xs) ys (there h) = there (some_left xs ys h)

  pub some_right : (xs ys : List A) → SomeOf p ys → SomeOf p (xs ++ ys)
  some_right [] ys h = h
  some_right (x ∷ xs) ys h = there (some_right xs ys h)

module _ (ctors : List Ctor) (missing : Missing) (ρ : Values) where
  pub obeys_left : (k : ℕ) (xs ys : List Step) → Obeys ctors missing ρ k (xs ++ ys) → Obeys ctors missing ρ k xs
  obeys_left k [] ys h = tt
  obeys_left k (x ∷ xs) ys h = (h.0, obeys_left (suc k) xs ys h.1)

  pub obeys_right : (k : ℕ) (xs ys : List Step) → Obeys ctors missing ρ k (xs ++ ys)
      → Obeys ctors missing ρ (k + length xs) ys
  obeys_right k [] ys h = rw (plus_zero k) h
  obeys_right k (x ∷ xs) ys h = let r = obeys_right (suc k) xs ys h.1 in rw (add_suc k (length xs)) r

  pub made_left : {A B : Type 0} (k : ℕ) (x : Piece A) (y : Piece B) → IsMade ctors missing ρ k (joined x y)
      → IsMade ctors missing ρ k x
  made_left k x y h = record {
    steps = obeys_left k x.steps y.steps h.steps;
  }

  pub made_right : {A B : Type 0} (k : ℕ) (x : Piece A) (y : Piece B) → IsMade ctors missing ρ k (joined x y)
      → IsMade ctors missing ρ (after k x) y
  made_right k x y h = record {
    steps = obeys_right k x.steps y.steps h.steps;
  }

-- the truth value that a value is made of
module _ (ρ : Values) where
  pub flags_left : (b : Bool) (xs ys : List ℕ) → Flags ρ b xs → AllOf (Off ρ) ys → Flags ρ b (xs ++ ys)
  flags_left true xs ys h g = some_left (On ρ) xs ys h
  flags_left false xs ys h g = all_join (Off ρ) xs ys h g

  pub flags_right : (b : Bool) (xs ys : List ℕ) → AllOf (Off ρ) xs → Flags ρ b ys → Flags ρ b (xs ++ ys)
  flags_right true xs ys h g = some_right (On ρ) xs ys g
  flags_right false xs ys h g = all_join (Off ρ) xs ys h g

  module _ (asked : Option CheckId) where
    -- behind a piece that fails nothing
    pub told_after : {A B C : Type 0} {S : B → C → Type 0} (x : Piece A) (y : Piece B) (part : Part C)
        → AllOf (Off ρ) x.fails → IsTold ρ asked S y part → IsTold ρ asked S (joined x y) part
    told_after x y (Ok c) h g =
        record { told = (g.told.0, all_join (Off ρ) x.fails y.fails h g.told.1, g.told.2) }
    told_after x y (Err s) h g =
        record { told = (g.told.0, flags_right (looked asked s) x.fails y.fails h g.told.1) }

    -- what isn't reached behind a piece that stops
    pub told_stop : {A B C : Type 0} {S : B → C → Type 0} (x : Piece A) (y : Piece B) (s : Stop)
        → Flags ρ (looked asked s) x.fails → IsQuiet ρ y → IsTold ρ asked S (joined x y) (Err s)
    told_stop x y s h g =
        record { told = (g.alive, flags_left (looked asked s) x.fails y.fails h g.fails) }

    pub told_bind : {A B C D : Type 0} {R : A → C → Type 0} {S : B → D → Type 0} (x : Piece A) (y : Piece B)
        (part : Part C) (go : C → Part D) → IsTold ρ asked R x part → (Off ρ x.alive → IsQuiet ρ y)
        → ((c : C) → part ≡ Ok c → On ρ x.alive → R x.out c → IsTold ρ asked S y (go c))
        → IsTold ρ asked S (joined x y) (and_then part go)
    told_bind x y (Ok c) go h q k = told_after x y (go c) h.told.1 (k c refl h.told.0 h.told.2)
    told_bind x y (Err s) go h q k = told_stop x y s h.told.1 (q h.told.0)

  pub quiet_bind : {A B : Type 0} (x : Piece A) (y : Piece B) → IsQuiet ρ x → (Off ρ x.alive → IsQuiet ρ y)
      → IsQuiet ρ (joined x y)
  quiet_bind x y h q = let g =
      q h.alive in record { alive = g.alive; fails = all_join (Off ρ) x.fails y.fails h.fails g.fails }

  pub quiet_plain : {A : Type 0} (ss : List Step) (out : A) (alive : ℕ) → Off ρ alive → IsQuiet ρ (plain ss out alive)
  quiet_plain ss out alive h = record { alive = h; fails = tt }
