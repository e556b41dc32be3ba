-- Marks of functions that are given up, while more are.
use Rattle.std.proofs.Common.{◌≡◌, ◌∙◌, ◌⊎◌, ℕ, zero, suc, ◌+◌, ◌<◌, Bool, true, false, List, [], ◌∷◌, inl, inr, length}
use Rattle.std.proofs.Common.{replicate, slice_set, refl, sym, ap, subst, arith, below_more}
use Rattle.std.proofs.lemmas.List.{length-replicate, length-set}
use Rattle.pp_graph.proofs.Paths.{further}
use Rattle.pp_prog.specs.declared.expr.Function.{Function}
use Rattle.pp_prog.specs.declared.program.Program.{Program}
use Rattle.pp_prog.specs.Calls.{call_table}
use Rattle.pp_prog.specs.Cone.{InCone}
use Rattle.pp_verify.specs.GivenUp.{AreGivenUp, GivesUpTo, GivesUpUnless, IsGivenUp}

-- no function is given up where no mark is set
none_marked : (n f : ℕ) → IsGivenUp (replicate n false) f → ⊥
none_marked zero f h = cc
none_marked (suc n) zero h = cc
none_marked (suc n) (suc f) h = none_marked n f h

pub never_given_up : (n : ℕ) (marks : List Bool) → marks ≡ replicate n false → (f : ℕ) → IsGivenUp marks f → ⊥
never_given_up n marks is f h = none_marked n f (subst (λ (l : List Bool). IsGivenUp l f) is h)

pub none_are_given_up : (p : Program) (n : ℕ) (marks : List Bool) → n ≡ length p.functions → marks ≡ replicate n false
    → AreGivenUp p marks
none_are_given_up p n marks all is = record {
  size = ap (λ (l : List Bool). length l) is ∙ length-replicate n false ∙ all;
  callers = λ f g lt cone h. absurd (never_given_up n marks is g h);
}

-- a mark that is set
mark_kept : (marks : List Bool) (n f : ℕ) → IsGivenUp marks f → IsGivenUp (slice_set marks n true) f
mark_kept [] n f h = h
mark_kept (m ∷ ms) zero zero h = refl
mark_kept (m ∷ ms) zero (suc f) h = h
mark_kept (m ∷ ms) (suc n) zero h = h
mark_kept (m ∷ ms) (suc n) (suc f) h = mark_kept ms n f h

mark_set : (marks : List Bool) (n : ℕ) → n < length marks → IsGivenUp (slice_set marks n true) n
mark_set [] n lt = absurd (omega (arith, lt))
mark_set (m ∷ ms) zero lt = refl
mark_set (m ∷ ms) (suc n) lt = mark_set ms n (omega (arith, lt))

mark_only : (marks : List Bool) (n f : ℕ) → IsGivenUp (slice_set marks n true) f → IsGivenUp marks f ⊎ (f ≡ n)
mark_only [] n f h = inl h
mark_only (m ∷ ms) zero zero h = inr refl
mark_only (m ∷ ms) zero (suc f) h = inl h
mark_only (m ∷ ms) (suc n) zero h = inl h
mark_only (m ∷ ms) (suc n) (suc f) h = elim (mark_only ms n f h) [ inl old ↦ inl old | inr e ↦ inr (ap suc e) ]

cone_of_cone : (functions : List Function) (f g h : ℕ) → InCone functions f g → InCone functions g h
    → InCone functions f h
cone_of_cone functions f g h (inl e) second = subst (λ (k : ℕ). InCone functions k h) (sym e) second
cone_of_cone functions f g h (inr r) (inl e) = subst (λ (k : ℕ). InCone functions f k) e (inr r)
cone_of_cone functions f g h (inr r) (inr s) = inr (further (call_table functions) f g h r s)

module _ (p : Program) (f : ℕ) (before : List Bool) where
  pub gives_up_none : GivesUpTo p 0 f before before
  gives_up_none = record {
    size = refl;
    kept = λ g h. h;
    callers = λ g lt. absurd (omega (arith, lt));
    only = λ g h. inl h;
  }

  -- one more function, whose cone has f, or hasn't
  pub gives_up_next : (n : ℕ) (marks after : List Bool) → GivesUpTo p n f before marks → n < length marks
      → InCone p.functions n f → after ≡ slice_set marks n true → GivesUpTo p (n + 1) f before after
  gives_up_next n marks after so lt cone is =
      subst (λ (l : List Bool). GivesUpTo p (n + 1) f before l) (sym is)
      (record {
        size = length-set marks n true ∙ so.size;
        kept = λ g h. mark_kept marks n g (so.kept g h);
        callers = below_more (λ (g : ℕ). InCone p.functions g f → IsGivenUp (slice_set marks n true) g) n
            (λ g less has. mark_kept marks n g (so.callers g less has)) (λ has. mark_set marks n lt);
        only = λ g h. elim (mark_only marks n g h) [
          | inl old ↦ so.only g old
          | inr e ↦ inr (subst (λ (k : ℕ). InCone p.functions k f) (sym e) cone)
        ];
      })

  pub gives_up_same : (n : ℕ) (marks : List Bool) → GivesUpTo p n f before marks
      → (InCone p.functions n f → ⊥) → GivesUpTo p (n + 1) f before marks
  gives_up_same n marks so never = record {
    size = so.size;
    kept = so.kept;
    callers = below_more (λ (g : ℕ). InCone p.functions g f → IsGivenUp marks g) n so.callers
        (λ has. absurd (never has));
    only = so.only;
  }

  module _ (are : AreGivenUp p before) where
    -- f is given up, with the functions whose cone has it
    pub gives_up : (hope : Bool) (after : List Bool) → f < length p.functions
        → GivesUpTo p (length p.functions) f before after → GivesUpUnless p hope f before after
    gives_up hope after lt so = record {
      marks = record { size = so.size ∙ are.size; callers = callers };
      kept = so.kept;
      given_up = inr (so.callers f lt (inl refl));
    }
      where
        callers : (g h : ℕ) → g < length p.functions → InCone p.functions g h → IsGivenUp after h → IsGivenUp after g
        callers g h within cone has = elim (so.only h has) [
          | inl old ↦ so.kept g (are.callers g h within cone old)
          | inr there ↦ so.callers g within (cone_of_cone p.functions g h f cone there)
        ]

    pub gives_up_nothing : (hope : Bool) → hope ≡ true → GivesUpUnless p hope f before before
    gives_up_nothing hope is = record { marks = are; kept = λ g h. h; given_up = inl is }
