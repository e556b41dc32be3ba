-- What it means that a piece tells a part of a run. Source: own.
use Rattle.std.specs.Prelude.{◌≡◌, ℕ, Bool, true, false, List, [], ◌∷◌, Option, Some, None, Ok, Err}
use Rattle.pp_prog.specs.declared.id.CheckId.{CheckId}
use Rattle.pp_prog.specs.declared.types.Ctor.{Ctor}
use Rattle.pp_prog.specs.declared.value.Value.{Value}
use Rattle.pp_eval.specs.declared.outcome.Stop.{Stop}
use Rattle.pp_eval.specs.declared.outcome.Stop.TheVariants.{Fails, Inner, Deep, Stuck}
use Rattle.pp_eval.specs.Part.{Part}
use Rattle.pp_steps.specs.Meaning.{Missing, Obeys, Values, bit}
use Rattle.pp_steps.specs.Piece.{Piece, asks}

abbrev pub AllOf : {A : Type 0} → (A → Type 0) → List A → Type 0
AllOf p [] = Unit {0}
AllOf p (x ∷ xs) = p x × AllOf p xs

pub data SomeOf {A : Type 0} (p : A → Type 0) : List A → Type 0 where
  here : {x : A} {xs : List A} → p x → SomeOf p (x ∷ xs)
  there : {x : A} {xs : List A} → SomeOf p xs → SomeOf p (x ∷ xs)

-- how the run stops is a failure of the asked check, in the frame that is asked
abbrev pub looked : Option CheckId → Stop → Bool
looked asked (Fails c) = asks asked (Some c)
looked asked (Inner g c) = false
looked asked Deep = false
looked asked Stuck = false

module _ (ρ : Values) where
  -- the number's value is true, and isn't
  abbrev pub On : ℕ → Type 0
  On k = bit (ρ k) ≡ true

  abbrev pub Off : ℕ → Type 0
  Off k = bit (ρ k) ≡ false

  -- the value with the number
  abbrev pub IsValue : ℕ → Value → Type 0
  IsValue k v = ρ k ≡ v

  -- each value with the number at its place
  abbrev pub AreValues : List ℕ → List Value → Type 0
  AreValues [] [] = Unit {0}
  AreValues [] (v ∷ vs) = ⊥
  AreValues (k ∷ ks) [] = ⊥
  AreValues (k ∷ ks) (v ∷ vs) = (ρ k ≡ v) × AreValues ks vs

  -- the value with the number that there may be
  abbrev pub MayBe : Option ℕ → Value → Type 0
  MayBe None v = ⊥
  MayBe (Some k) v = ρ k ≡ v

  -- one of the numbers is true, or none
  abbrev pub Flags : Bool → List ℕ → Type 0
  Flags true ks = SomeOf On ks
  Flags false ks = AllOf Off ks

  -- neither alive nor failing
  pub record IsQuiet {A : Type 0} (x : Piece A) : Type 0 where
    pub alive : Off x.alive
    pub fails : AllOf Off x.fails

  -- A part with a value is alive, and its outcome is the value. A part that stops isn't, and fails exactly where it
  -- stops at the asked check.
  abbrev pub Tells : {A B : Type 0} → Option CheckId → (A → B → Type 0) → Piece A → Part B → Type 0
  Tells asked R x (Ok b) = On x.alive × AllOf Off x.fails × R x.out b
  Tells asked R x (Err s) = Off x.alive × Flags (looked asked s) x.fails

  pub record IsTold {A B : Type 0} (asked : Option CheckId) (R : A → B → Type 0) (x : Piece A) (part : Part B) : Type 0
    where
      pub told : Tells asked R x part

-- the values obey the piece, which begins at number k
pub record IsMade {A : Type 0} (ctors : List Ctor) (missing : Missing) (ρ : Values) (k : ℕ)
    (x : Piece A) : Type 0 where
  pub steps : Obeys ctors missing ρ k x.steps
