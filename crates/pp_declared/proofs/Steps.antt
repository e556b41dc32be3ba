-- What a part that has an answer says of its steps.
use Rattle.std.proofs.Common.{◌≡◌, ◌∙◌, ◌⊎◌, inl, inr, sym, ap, Contains, Bool, true, false, List, [], ◌∷◌, All, Ok}
use Rattle.std.proofs.Common.{Err, refl, arith, suc, if◌then◌else◌}
use Rattle.std.proofs.lemmas.List.Elements.{Contains-get_or, Contains-append_right}
use Rattle.pp_fault.specs.Part.{Part, and_then}
use Rattle.pp_fault.specs.declared.Fault.{Fault}

-- the first step has an answer, and the whole is the rest of it
pub record TwoSteps {A B : Type 0} (p : Part A) (go : A → Part B) (b : B) : Type 0 where
  pub first : A
  pub done : p ≡ Ok first
  pub rest : go first ≡ Ok b

pub two_steps : {A B : Type 0} (p : Part A) (go : A → Part B) (b : B) → and_then p go ≡ Ok b → TwoSteps p go b
two_steps (Ok a) go b e = record { first = a; done = refl; rest = e }
two_steps (Err f) go b e = cc

-- a test that must hold held
pub held : {A : Type 0} (t : Bool) (x : Part A) (f : Fault) (a : A) → (if t then x else Err f) ≡ Ok a
    → (t ≡ true) × (x ≡ Ok a)
held true x f a e = (refl, e)
held false x f a e = cc

-- a test that must not hold didn't
pub failed : {A : Type 0} (t : Bool) (x : Part A) (f : Fault) (a : A) → (if t then Err f else x) ≡ Ok a
    → (t ≡ false) × (x ≡ Ok a)
failed true x f a e = cc
failed false x f a e = (refl, e)

-- what holds of all of a list holds of its first and of the rest
pub all_first : {X : Type 0} (P : X → Type 0) (x : X) (xs : List X) → All P (x ∷ xs) → P x
all_first P x xs h = h 0 x (omega arith)

pub all_rest : {X : Type 0} (P : X → Type 0) (x : X) (xs : List X) → All P (x ∷ xs) → All P xs
all_rest P x xs h k d lt = h (suc k) d (omega arith)

-- a part that is an error is one error
pub fault_is : {A : Type 0} (p : Part A) (f g : Fault) → p ≡ Err f → p ≡ Err g → f ≡ g
fault_is p f g h i = let e : Err f ≡ Err g = sym h ∙ i in cc

-- the whole breaks a rule because the first step does, or because the rest does
pub step_breaks : {A B : Type 0} (p : Part A) (go : A → Part B) (f : Fault) → and_then p go ≡ Err f
    → (p ≡ Err f) ⊎ ((a : A) × (p ≡ Ok a) × (go a ≡ Err f))
step_breaks (Ok a) go f e = inr (a, refl, e)
step_breaks {A} {B} (Err g) go f e = inl (let is : g ≡ f = fault_is (and_then (Err g) go) g f refl e in ap Err is)

pub held_breaks : {A : Type 0} (t : Bool) (x : Part A) (g f : Fault) → (if t then x else Err g) ≡ Err f
    → ((t ≡ true) × (x ≡ Err f)) ⊎ ((t ≡ false) × (g ≡ f))
held_breaks true x g f e = inl (refl, e)
held_breaks {A} false x g f e = inr (refl, fault_is (if false then x else Err g) g f refl e)

pub failed_breaks : {A : Type 0} (t : Bool) (x : Part A) (g f : Fault) → (if t then Err g else x) ≡ Err f
    → ((t ≡ true) × (g ≡ f)) ⊎ ((t ≡ false) × (x ≡ Err f))
failed_breaks {A} true x g f e = inl (refl, fault_is (if true then Err g else x) g f refl e)
failed_breaks false x g f e = inr (refl, e)

-- a list has its first, and what the rest has
pub has_first : {X : Type 0} (x : X) (xs : List X) → Contains (x ∷ xs) x
has_first x xs = Contains-get_or (x ∷ xs) 0 x (omega arith)

pub has_later : {X : Type 0} (x : X) (xs : List X) (y : X) → Contains xs y → Contains (x ∷ xs) y
has_later x xs y h = Contains-append_right (x ∷ []) xs y h
