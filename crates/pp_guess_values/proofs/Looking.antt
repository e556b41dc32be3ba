-- In the steps of a guess run, who reads a field of a constructor asked before whether the tree has it.
use Rattle.std.proofs.Common.{◌≡◌, ℕ, zero, suc, ◌+◌, Bool, true, false, ◌||◌, nat_eq, List, [], ◌∷◌, ◌++◌, length}
use Rattle.std.proofs.Common.{Some, refl, sym, subst, ◌⊎◌, inl, inr}
use Rattle.std.specs.Prelude.{slice_get}
use Rattle.std.proofs.lemmas.Bool.{eq-eqb, eqb-true}
use Rattle.pp_list.proofs.With.{With}
use Rattle.pp_prog.proofs.Induction.{each_pattern, pattern_under}
use Rattle.pp_prog.specs.declared.expr.Function.{Function}
use Rattle.pp_prog.specs.declared.expr.Pattern.{Pattern}
use Rattle.pp_prog.specs.declared.expr.Pattern.TheFolds.{fold-roll-Pattern, map-Pattern}
use Rattle.pp_prog.specs.declared.expr.Pattern.TheOpen as pattern
use Rattle.pp_prog.specs.declared.expr.Pattern.TheViews.{roll-Pattern}
use Rattle.pp_prog.specs.declared.id.CheckId.{CheckId}
use Rattle.pp_prog.specs.declared.id.CtorId.{CtorId}
use Rattle.pp_prog.specs.declared.expr.Pattern.{Pattern}
use Rattle.pp_steps.specs.declared.step.Step.{Step}
use Rattle.pp_steps.specs.declared.step.Step.TheVariants as steps
use Rattle.pp_steps.specs.Guesses.{guess_steps}
use Rattle.pp_steps.specs.Patterns.{Matching, fit_fields, fitting, fitting_step}
use Rattle.pp_build.specs.StepGates.{is_seen}
use Rattle.pp_guess_steps.proofs.ClosedAlways.{IsSimple, guess_closed}
use Rattle.pp_guess_values.specs.LooksBefore.{LooksBefore}
use Rattle.pp_steps_exist.proofs.Matches.{inner_of}

-- ---- lists

-- the second list has all that the first has
abbrev HasAll : List ℕ → List ℕ → Type 0
HasAll asked more = (a : ℕ) → is_seen asked a ≡ true → is_seen more a ≡ true

more_seen : (x : ℕ) (asked : List ℕ) → HasAll asked (x ∷ asked)
more_seen x asked a found = by (nat_eq a x) found
  where
    by : (b : Bool) → is_seen asked a ≡ true → (b || is_seen asked a) ≡ true
    by true found = refl
    by false found = found

seen_first : (x : ℕ) (asked : List ℕ) → is_seen (x ∷ asked) x ≡ true
seen_first x asked = subst (λ (b : Bool). (b || is_seen asked x) ≡ true) (sym (eq-eqb x x refl)) refl

-- what holds behind all that was asked holds behind the steps that ask it
looks_joined : (asked : List ℕ) (xs ys : List Step) → LooksBefore asked xs
    → ((more : List ℕ) → HasAll asked more → LooksBefore more ys) → LooksBefore asked (xs ++ ys)
looks_joined asked [] ys looks rest = rest asked (λ a found. found)
looks_joined asked (steps.IsCtor c n a ∷ xs) ys looks rest =
    looks_joined (a ∷ asked) xs ys looks (λ more has. rest more (λ x found. has x (more_seen a asked x found)))
looks_joined asked (steps.CtorField c i a ∷ xs) ys looks rest = (looks.0, looks_joined asked xs ys looks.1 rest)
looks_joined asked (steps.Open s ∷ xs) ys looks rest =
    looks_joined asked xs ys looks rest
looks_joined asked (steps.Int n ∷ xs) ys looks rest =
    looks_joined asked xs ys looks rest
looks_joined asked (steps.Bool b ∷ xs) ys looks rest =
    looks_joined asked xs ys looks rest
looks_joined asked (steps.Not a ∷ xs) ys looks rest =
    looks_joined asked xs ys looks rest
looks_joined asked (steps.Both a b ∷ xs) ys looks rest =
    looks_joined asked xs ys looks rest
looks_joined asked (steps.Choose c a b ∷ xs) ys looks rest =
    looks_joined asked xs ys looks rest
looks_joined asked (steps.Unary op a ∷ xs) ys looks rest =
    looks_joined asked xs ys looks rest
looks_joined asked (steps.Binary op a b ∷ xs) ys looks rest =
    looks_joined asked xs ys looks rest
looks_joined asked (steps.Construct c fields ∷ xs) ys looks rest =
    looks_joined asked xs ys looks rest
looks_joined asked (steps.Field a i ∷ xs) ys looks rest =
    looks_joined asked xs ys looks rest
looks_joined asked (steps.IsAlike a b ∷ xs) ys looks rest =
    looks_joined asked xs ys looks rest
looks_joined asked (steps.GoesDown a b ∷ xs) ys looks rest =
    looks_joined asked xs ys looks rest
looks_joined asked (steps.HasAnswer c ∷ xs) ys looks rest =
    looks_joined asked xs ys looks rest
looks_joined asked (steps.Answer c ∷ xs) ys looks rest =
    looks_joined asked xs ys looks rest

-- whatever was asked before
abbrev Looks : List Step → Type 0
Looks ss = (asked : List ℕ) → LooksBefore asked ss

joined : (xs ys : List Step) → Looks xs → Looks ys → Looks (xs ++ ys)
joined xs ys first rest asked = looks_joined asked xs ys (first asked) (λ more has. rest more)

simple_looks : (s : Step) → IsSimple s → Looks (s ∷ [])
simple_looks (steps.Open s) h asked = tt
simple_looks (steps.Int n) h asked = tt
simple_looks (steps.Bool b) h asked = tt
simple_looks (steps.Not a) h asked = tt
simple_looks (steps.Both a b) h asked = tt
simple_looks (steps.Choose c a b) h asked = tt
simple_looks (steps.Unary op a) h asked = tt
simple_looks (steps.Binary op a b) h asked = tt
simple_looks (steps.Construct c fields) h asked = tt
simple_looks (steps.IsCtor c n a) h asked = tt
simple_looks (steps.CtorField c i a) h asked = absurd h
simple_looks (steps.Field a i) h asked = tt
simple_looks (steps.IsAlike a b) h asked = tt
simple_looks (steps.GoesDown a b) h asked = tt
simple_looks (steps.HasAnswer c) h asked = absurd h
simple_looks (steps.Answer c) h asked = absurd h

-- ---- patterns

abbrev Fits : Pattern → Type 0
Fits p = (k t : ℕ) → Looks (fitting p k t).steps

-- the fields of a constructor that was asked for
fields_look : (c : CtorId) (ps : List (With Fits)) (j k t : ℕ) (asked : List ℕ) → is_seen asked t ≡ true
    → LooksBefore asked (fit_fields c j (inner_of ps) k t).steps
fields_look c [] j k t asked found = tt
fields_look c (p ∷ ps) j k t asked found =
    let x = fitting p.0 (suc k) k in (
      found,
      looks_joined asked x.steps _ (p.1 (suc k) k asked)
          (λ more has. fields_look c ps (suc j) (suc k + length x.steps) t more (has t found)),
    )

level : (y : pattern.Pattern-F (With Fits)) (k t : ℕ)
    → Looks (fitting_step (map-Pattern Pattern Matching fitting (pattern_under y)) k t).steps
level pattern.Any k t asked = tt
level (pattern.Bind inner) k t asked = inner.1 k t asked
level (pattern.Int n) k t asked = tt
level (pattern.Bool b) k t asked = tt
level (pattern.Ctor c ps) k t asked = fields_look c ps 0 (suc k) t (t ∷ asked) (seen_first t asked)

at_level : (y : pattern.Pattern-F (With Fits)) → Fits (roll-Pattern (pattern_under y))
at_level y =
    subst (λ (f : Matching). (k t : ℕ) → Looks (f k t).steps)
    (sym (fold-roll-Pattern Matching fitting_step (pattern_under y)))
    (level y)

pattern_looks : (p : Pattern) → Fits p
pattern_looks = each_pattern Fits at_level

-- ---- a guess run

abbrev Any : ℕ → Type 0
Any wait = Unit {0}

-- the steps of each round
pub guess_looks_before : (functions : List Function) (f : Function) (check : CheckId) (n : ℕ)
    → LooksBefore [] (guess_steps functions f check n).steps
guess_looks_before functions f check n =
    guess_closed Looks joined (λ asked. tt) simple_looks pattern_looks functions Any
    (λ w fit k reach g pre down args asked. tt) tt tt (λ w. tt) f check n []

-- ---- the step that asked

-- some step asks for the constructor of this tree
pub record IsAskedIn (ss : List Step) (a : ℕ) : Type 0 where
  pub number : ℕ
  pub ctor : CtorId
  pub count : ℕ
  pub at : slice_get ss number ≡ Some (steps.IsCtor ctor count a)

later : (s : Step) (ss : List Step) (a : ℕ) {P : Type 0} → P ⊎ IsAskedIn ss a → P ⊎ IsAskedIn (s ∷ ss) a
later s ss a (inl found) = inl found
later s ss a (inr asks) =
    inr (record { number = suc asks.number; ctor = asks.ctor; count = asks.count; at = asks.at })

-- the tree of whom a field is read was asked for its constructor
asked_before : (asked : List ℕ) (ss : List Step) → LooksBefore asked ss → (k : ℕ) (c : CtorId) (i a : ℕ)
    → slice_get ss k ≡ Some (steps.CtorField c i a) → (is_seen asked a ≡ true) ⊎ IsAskedIn ss a
asked_before asked [] looks k c i a at = cc
asked_before asked (steps.CtorField z j x ∷ ss) looks zero c i a at =
    inl (subst (λ y. is_seen asked y ≡ true) (same_operand z c j i x a at) looks.0)
  where
    same_operand : (z c : CtorId) (j i x a : ℕ) → Some (steps.CtorField z j x) ≡ Some (steps.CtorField c i a) → x ≡ a
    same_operand z c j i x a e = cc
asked_before asked (steps.CtorField z j x ∷ ss) looks (suc k) c i a at =
    later (steps.CtorField z j x) ss a (asked_before asked ss looks.1 k c i a at)
asked_before asked (steps.IsCtor z n x ∷ ss) looks (suc k) c i a at =
    by (asked_before (x ∷ asked) ss looks k c i a at)
  where
    own : (b : Bool) → nat_eq a x ≡ b → (b || is_seen asked a) ≡ true
        → (is_seen asked a ≡ true) ⊎ IsAskedIn (steps.IsCtor z n x ∷ ss) a
    own true e found = inr (record {
      number = 0;
      ctor = z;
      count = n;
      at = subst (λ y. Some (steps.IsCtor z n x) ≡ Some (steps.IsCtor z n y)) (sym (eqb-true a x e)) refl;
    })
    own false e found = inl found

    by : (is_seen (x ∷ asked) a ≡ true) ⊎ IsAskedIn ss a
        → (is_seen asked a ≡ true) ⊎ IsAskedIn (steps.IsCtor z n x ∷ ss) a
    by (inl found) = own (nat_eq a x) refl found
    by (inr asks) = later (steps.IsCtor z n x) ss a (inr asks)
asked_before asked (steps.Open s ∷ ss) looks zero c i a at = cc
asked_before asked (steps.Int n ∷ ss) looks zero c i a at = cc
asked_before asked (steps.Bool b ∷ ss) looks zero c i a at = cc
asked_before asked (steps.Not x ∷ ss) looks zero c i a at = cc
asked_before asked (steps.Both x y ∷ ss) looks zero c i a at = cc
asked_before asked (steps.Choose z x y ∷ ss) looks zero c i a at = cc
asked_before asked (steps.Unary op x ∷ ss) looks zero c i a at = cc
asked_before asked (steps.Binary op x y ∷ ss) looks zero c i a at = cc
asked_before asked (steps.Construct z fields ∷ ss) looks zero c i a at = cc
asked_before asked (steps.IsCtor z n x ∷ ss) looks zero c i a at = cc
asked_before asked (steps.Field x j ∷ ss) looks zero c i a at = cc
asked_before asked (steps.IsAlike x y ∷ ss) looks zero c i a at = cc
asked_before asked (steps.GoesDown x y ∷ ss) looks zero c i a at = cc
asked_before asked (steps.HasAnswer z ∷ ss) looks zero c i a at = cc
asked_before asked (steps.Answer z ∷ ss) looks zero c i a at = cc
asked_before asked (steps.Open s ∷ ss) looks (suc k) c i a at =
    later (steps.Open s) ss a (asked_before asked ss looks k c i a at)
asked_before asked (steps.Int n ∷ ss) looks (suc k) c i a at =
    later (steps.Int n) ss a (asked_before asked ss looks k c i a at)
asked_before asked (steps.Bool b ∷ ss) looks (suc k) c i a at =
    later (steps.Bool b) ss a (asked_before asked ss looks k c i a at)
asked_before asked (steps.Not x ∷ ss) looks (suc k) c i a at =
    later (steps.Not x) ss a (asked_before asked ss looks k c i a at)
asked_before asked (steps.Both x y ∷ ss) looks (suc k) c i a at =
    later (steps.Both x y) ss a (asked_before asked ss looks k c i a at)
asked_before asked (steps.Choose z x y ∷ ss) looks (suc k) c i a at =
    later (steps.Choose z x y) ss a (asked_before asked ss looks k c i a at)
asked_before asked (steps.Unary op x ∷ ss) looks (suc k) c i a at =
    later (steps.Unary op x) ss a (asked_before asked ss looks k c i a at)
asked_before asked (steps.Binary op x y ∷ ss) looks (suc k) c i a at =
    later (steps.Binary op x y) ss a (asked_before asked ss looks k c i a at)
asked_before asked (steps.Construct z fields ∷ ss) looks (suc k) c i a at =
    later (steps.Construct z fields) ss a (asked_before asked ss looks k c i a at)
asked_before asked (steps.Field x j ∷ ss) looks (suc k) c i a at =
    later (steps.Field x j) ss a (asked_before asked ss looks k c i a at)
asked_before asked (steps.IsAlike x y ∷ ss) looks (suc k) c i a at =
    later (steps.IsAlike x y) ss a (asked_before asked ss looks k c i a at)
asked_before asked (steps.GoesDown x y ∷ ss) looks (suc k) c i a at =
    later (steps.GoesDown x y) ss a (asked_before asked ss looks k c i a at)
asked_before asked (steps.HasAnswer z ∷ ss) looks (suc k) c i a at =
    later (steps.HasAnswer z) ss a (asked_before asked ss looks k c i a at)
asked_before asked (steps.Answer z ∷ ss) looks (suc k) c i a at =
    later (steps.Answer z) ss a (asked_before asked ss looks k c i a at)

pub field_was_asked : (ss : List Step) → LooksBefore [] ss → (k : ℕ) (c : CtorId) (i a : ℕ)
    → slice_get ss k ≡ Some (steps.CtorField c i a) → IsAskedIn ss a
field_was_asked ss looks k c i a at = elim (asked_before [] ss looks k c i a at) [
  | inl found ↦ cc
  | inr asks ↦ asks
]
