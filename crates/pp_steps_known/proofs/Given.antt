-- Pieces of which what is reached is known: one after another, tests, demands and choices.
use Rattle.std.proofs.Common.{◌≡◌, ℕ, suc, ◌+◌, Bool, true, false, ◌⊎◌, inl, inr, List, [], ◌∷◌, ◌++◌, length, Option}
use Rattle.std.proofs.Common.{Some, None, sym, ap, ◌∙◌, subst, arith}
use Rattle.std.specs.Prelude.{All, ◌&&◌, if◌then◌else◌}
use Rattle.std.proofs.lemmas.Bool.{and_parts, both_ways, cases_Bool, cond-false, cond-true}
use Rattle.std.proofs.Math.Nat.{add-zero}
use Rattle.std.proofs.lemmas.List.Elements.{All-append, All-cons, All-nil}
use Rattle.pp_prog.specs.declared.types.Ctor.{Ctor}
use Rattle.pp_prog.specs.declared.value.Value.{Value}
use Rattle.pp_prog.specs.declared.value.Value.TheVariants.{Bool as Truth}
use Rattle.pp_steps.proofs.Counting.{add_suc}
use Rattle.pp_steps.specs.declared.step.Step.{Step}
use Rattle.pp_steps.specs.declared.step.Step.TheVariants as steps
use Rattle.pp_steps.specs.Compile.{unless, when}
use Rattle.pp_steps.specs.Known.{AllTell}
use Rattle.pp_steps.specs.Meaning.{Missing, Obeys, Values, bit}
use Rattle.pp_steps.specs.Piece.{Piece, after, choice, demand, joined, pick_step, picked, plain, possible}
use Rattle.pp_steps_run.specs.Told.{Off, On}
use Rattle.pp_steps_run.proofs.Pieces.{bit_truth, obeys_left, obeys_right}

module _ (ρ : Values) (K : ℕ → Type 0) where
  tells_left : (k : ℕ) (xs ys : List Step) → AllTell ρ K k (xs ++ ys) → AllTell ρ K k xs
  tells_left k [] ys h = tt
  tells_left k (x ∷ xs) ys h = (h.0, tells_left (suc k) xs ys h.1)

  tells_right : (k : ℕ) (xs ys : List Step) → AllTell ρ K k (xs ++ ys) → AllTell ρ K (k + length xs) ys
  tells_right k [] ys h = rw (add-zero k) h
  tells_right k (x ∷ xs) ys h = let r = tells_right (suc k) xs ys h.1 in rw (add_suc k (length xs)) r

  -- the values obey the steps from number k on, and each step is known where the operands are that it depends on
  pub record IsGiven (ctors : List Ctor) (missing : Missing) (k : ℕ) (ss : List Step) : Type 0 where
    pub obeys : Obeys ctors missing ρ k ss
    pub tells : AllTell ρ K k ss

  -- What is known of a piece that is reached where the number `reach` is true: whether it has an outcome, whether it
  -- fails, and the outcome where it has one.
  pub record IsKnown {A : Type 0} (R : A → Type 0) (reach : ℕ) (x : Piece A) : Type 0 where
    pub alive : K x.alive
    pub fails : All K x.fails
    pub reached : On ρ x.alive → On ρ reach
    pub out : On ρ x.alive → R x.out

  -- the same, whatever the outcome
  abbrev pub IsEndKnown : {A : Type 0} → ℕ → Piece A → Type 0
  IsEndKnown {A} reach x = IsKnown (λ (a : A). Unit {0}) reach x

  -- a number that is known, and true only where both others are
  pub record IsBoth (k a b : ℕ) : Type 0 where
    pub known : K k
    pub first : On ρ k → On ρ a
    pub second : On ρ k → On ρ b

-- the number there is, and is known
abbrev pub IsKnownSome : (ℕ → Type 0) → Option ℕ → Type 0
IsKnownSome K None = ⊥
IsKnownSome K (Some n) = K n

module _ {ctors : List Ctor} {missing : Missing} {ρ : Values} {K : ℕ → Type 0} where
  pub given_left : (k : ℕ) (xs ys : List Step) → IsGiven ρ K ctors missing k (xs ++ ys)
      → IsGiven ρ K ctors missing k xs
  given_left k xs ys h = record {
    obeys = obeys_left ctors missing ρ k xs ys h.obeys;
    tells = tells_left ρ K k xs ys h.tells;
  }

  pub given_right : (k : ℕ) (xs ys : List Step) → IsGiven ρ K ctors missing k (xs ++ ys)
      → IsGiven ρ K ctors missing (k + length xs) ys
  given_right k xs ys h = record {
    obeys = obeys_right ctors missing ρ k xs ys h.obeys;
    tells = tells_right ρ K k xs ys h.tells;
  }

-- ---- pieces, one after another

module _ {ρ : Values} {K : ℕ → Type 0} where
  pub known_plain : {A : Type 0} {R : A → Type 0} (ss : List Step) (out : A) (alive : ℕ) → K alive
      → (On ρ alive → R out) → IsKnown ρ K R alive (plain ss out alive)
  known_plain ss out alive h r = record { alive = h; fails = All-nil K; reached = λ on. on; out = r }

  pub known_joined : {A B : Type 0} {R : A → Type 0} {S : B → Type 0} {reach : ℕ} (x : Piece A) (y : Piece B)
      → IsKnown ρ K R reach x → IsKnown ρ K S x.alive y → IsKnown ρ K S reach (joined x y)
  known_joined x y h g = record {
    alive = g.alive;
    fails = All-append K x.fails y.fails h.fails g.fails;
    reached = λ on. h.reached (g.reached on);
    out = g.out;
  }

  -- behind a piece that hands on where the run is reached
  pub known_behind : {A B : Type 0} {S : B → Type 0} {reach : ℕ} (x : Piece A) (y : Piece B) → All K x.fails
      → IsKnown ρ K S reach y → IsKnown ρ K S reach (joined x y)
  known_behind x y h g = record {
    alive = g.alive;
    fails = All-append K x.fails y.fails h g.fails;
    reached = g.reached;
    out = g.out;
  }

  -- a piece that is reached only where an earlier number is true too
  pub known_within : {A : Type 0} {R : A → Type 0} {a b : ℕ} (x : Piece A) → (On ρ b → On ρ a) → IsKnown ρ K R b x
      → IsKnown ρ K R a x
  known_within x r h = record { alive = h.alive; fails = h.fails; reached = λ on. r (h.reached on); out = h.out }

  pub end_known : {A : Type 0} {R : A → Type 0} {reach : ℕ} (x : Piece A) → IsKnown ρ K R reach x
      → IsEndKnown ρ K reach x
  end_known x h = record { alive = h.alive; fails = h.fails; reached = h.reached; out = λ on. tt }

  pub possible_known : {reach : ℕ} (x : Piece ℕ) → IsKnown ρ K K reach x
      → IsKnown ρ K (IsKnownSome K) reach (possible x)
  possible_known x h = record { alive = h.alive; fails = h.fails; reached = h.reached; out = h.out }

-- ---- tests and demands

pub bit_is : (v : Value) (b : Bool) → v ≡ Truth b → bit v ≡ b
bit_is v b e = ap bit e ∙ bit_truth b

-- where a choice is true, so is the one that the test takes
chosen_sides : (ρ : Values) (c a b k : ℕ) → ρ k ≡ (if bit (ρ c) then ρ a else ρ b) → On ρ k
    → (On ρ c × On ρ a) ⊎ (Off ρ c × On ρ b)
chosen_sides ρ c a b k e on =
    let made = sym (ap bit e) ∙ on in
    elim (cases_Bool (bit (ρ c))) [
      | inl t ↦ inl (t, sym (ap bit (cond-true _ (ρ a) (ρ b) t)) ∙ made)
      | inr f ↦ inr (f, sym (ap bit (cond-false _ (ρ a) (ρ b) f)) ∙ made)
    ]

pub chosen_on : {P : Type 0} (ρ : Values) (c a b k : ℕ) → ρ k ≡ (if bit (ρ c) then ρ a else ρ b) → On ρ k
    → (On ρ a → P) → (On ρ b → P) → P
chosen_on ρ c a b k e on f g = elim (chosen_sides ρ c a b k e on) [ inl s ↦ f s.1 | inr s ↦ g s.1 ]

module _ (ρ : Values) (K : ℕ → Type 0) where
  both_known : (k a b : ℕ) → ρ k ≡ Truth (bit (ρ a) && bit (ρ b)) → (K a → (On ρ a → K b) → K k)
      → K a → (On ρ a → K b) → IsBoth ρ K k a b
  both_known k a b e tells h g =
      let parts = λ (on : On ρ k). and_parts (bit (ρ a)) (bit (ρ b)) (sym (bit_is _ _ e) ∙ on) in
      record { known = tells h g; first = λ on. (parts on).0; second = λ on. (parts on).1 }

  -- the outcome of two branches is known, where that of the taken one is
  picked_known : (k taken a : ℕ) (o : Option ℕ) → AllTell ρ K k (pick_step taken a o) → K taken
      → (On ρ taken × K a) ⊎ (Off ρ taken × IsKnownSome K o) → K (picked k a o)
  picked_known k taken a None h t (inl s) = s.1
  picked_known k taken a None h t (inr s) = absurd s.1
  picked_known k taken a (Some n) h t (inl s) = h.0 t (λ on. s.1) (λ off. absurd (both_ways _ off s.0))
  picked_known k taken a (Some n) h t (inr s) = h.0 t (λ on. absurd (both_ways _ s.0 on)) (λ off. s.1)

module _ {ctors : List Ctor} {missing : Missing} {ρ : Values} {K : ℕ → Type 0} where
  pub when_known : (k alive test : ℕ) → IsGiven ρ K ctors missing k (when k alive test).steps → K alive
      → (On ρ alive → K test) → IsBoth ρ K k alive test
  when_known k alive test h a t = both_known ρ K k alive test h.obeys.0 h.tells.0 a t

  pub unless_known : (k alive test : ℕ) → IsGiven ρ K ctors missing k (unless k alive test).steps → K alive
      → (On ρ alive → K test) → IsBoth ρ K (suc k) alive k
  unless_known k alive test h a t =
      both_known ρ K (suc k) alive k h.obeys.1.0 h.tells.1.0 a (λ on. h.tells.0 (t on))

  -- what is demanded is true where the run goes on
  pub demand_known : (b : Bool) (k alive test : ℕ) → IsGiven ρ K ctors missing k (demand b k alive test).steps
      → K alive → (On ρ alive → K test) → IsKnown ρ K (λ (n : ℕ). On ρ test) alive (demand b k alive test)
  demand_known true k alive test h a t =
      let both = both_known ρ K k alive test h.obeys.0 h.tells.0 a t in
      record {
        alive = both.known;
        fails = All-cons K (suc (suc k)) [] (h.tells.1.1.0 a (λ on. h.tells.1.0 (t on))) (All-nil K);
        reached = both.first;
        out = both.second;
      }
  demand_known false k alive test h a t =
      let both = both_known ρ K k alive test h.obeys.0 h.tells.0 a t in
      record { alive = both.known; fails = All-nil K; reached = both.first; out = both.second }

  -- ---- choices

  -- the steps after two branches begin at number `last`
  module _ (k taken last : ℕ) (x : Piece ℕ) (y : Piece (Option ℕ)) (ends : after (after k x) y ≡ last) where
    tail_given : IsGiven ρ K ctors missing k (choice last taken x y).steps
        → IsGiven ρ K ctors missing last (steps.Choose taken x.alive y.alive ∷ pick_step taken x.out y.out)
    tail_given h =
        let tail = steps.Choose taken x.alive y.alive ∷ pick_step taken x.out y.out in
        subst (λ n. IsGiven ρ K ctors missing n tail) ends
        (given_right (after k x) y.steps tail (given_right k x.steps (y.steps ++ tail) h))

    -- where the choice has an outcome, so has the branch that is taken
    sides : IsGiven ρ K ctors missing k (choice last taken x y).steps → On ρ last
        → (On ρ taken × On ρ x.alive) ⊎ (Off ρ taken × On ρ y.alive)
    sides h on = chosen_sides ρ taken x.alive y.alive last (tail_given h).obeys.0 on

    -- What either branch reaches is known, where only the taken one has an outcome. A branch that never has one leaves
    -- no number of it.
    pub choice_known : {reach : ℕ} → IsGiven ρ K ctors missing k (choice last taken x y).steps → K taken
        → IsKnown ρ K K reach x → IsKnown ρ K (IsKnownSome K) reach y
        → IsKnown ρ K K reach (choice last taken x y)
    choice_known h t hx hy = record {
      alive = (tail_given h).tells.0 t (λ on. hx.alive) (λ off. hy.alive);
      fails = All-append K x.fails y.fails hx.fails hy.fails;
      reached = λ on. elim (sides h on) [ inl a ↦ hx.reached a.1 | inr b ↦ hy.reached b.1 ];
      out = λ on. picked_known ρ K (suc last) taken x.out y.out (tail_given h).tells.1 t
          (elim (sides h on) [ inl a ↦ inl (a.0, hx.out a.1) | inr b ↦ inr (b.0, hy.out b.1) ]);
    }
