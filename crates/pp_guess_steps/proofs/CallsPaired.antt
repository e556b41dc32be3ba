-- Calls are paired in the steps of a guess run, so the first half of its laws holds without this hypothesis.
use Rattle.std.proofs.Common.{ℕ, List, [], ◌∷◌, ◌++◌, length}
use Rattle.std.proofs.Common.{Some, refl}
use Rattle.pp_prog.specs.declared.expr.Function.{Function}
use Rattle.pp_prog.specs.declared.expr.Pattern.{Pattern}
use Rattle.pp_prog.specs.declared.id.CheckId.{CheckId}
use Rattle.pp_steps.specs.declared.step.Step.{Step}
use Rattle.pp_steps.specs.declared.step.Step.TheVariants as steps
use Rattle.pp_steps.specs.Guesses.{all_unfolded, guess_steps, standing}
use Rattle.pp_steps.specs.Patterns.{fitting}
use Rattle.pp_steps.specs.Piece.{after}
use Rattle.pp_guess_steps.proofs.ClosedAlways.{IsSimple, base_closed, guess_closed, unfolding_closed}
use Rattle.pp_guess_steps.proofs.ClosedPatterns.{IsPatternStep, pattern_closed}
use Rattle.pp_prog.specs.Sorts.{param_sorts}
use Rattle.pp_steps.specs.Frames.{any_of, arguments, running}
use Rattle.pp_steps.specs.Guesses.{guessing}
use Rattle.pp_guess_steps.proofs.Rounds.{Paired}

-- no call
abbrev pub IsNoCall : Step → Type 0
IsNoCall (steps.HasAnswer c) = ⊥
IsNoCall (steps.Answer c) = ⊥
IsNoCall s = Unit {0}

module _ (P : List Step → Type 0) (join : (xs ys : List Step) → P xs → P ys → P (xs ++ ys)) (none : P [])
    (quiet : (s : Step) → IsNoCall s → P (s ∷ [])) where
  pattern_quiet : (s : Step) → IsPatternStep s → P (s ∷ [])
  pattern_quiet (steps.Int n) h = quiet (steps.Int n) tt
  pattern_quiet (steps.Bool b) h = quiet (steps.Bool b) tt
  pattern_quiet (steps.Binary op a b) h = quiet (steps.Binary op a b) tt
  pattern_quiet (steps.IsCtor c n a) h = quiet (steps.IsCtor c n a) tt
  pattern_quiet (steps.CtorField c i a) h = quiet (steps.CtorField c i a) tt
  pattern_quiet (steps.Open s) h = absurd h
  pattern_quiet (steps.Not a) h = absurd h
  pattern_quiet (steps.Both a b) h = absurd h
  pattern_quiet (steps.Choose c a b) h = absurd h
  pattern_quiet (steps.Unary op a) h = absurd h
  pattern_quiet (steps.Construct c fields) h = absurd h
  pattern_quiet (steps.Field a i) h = absurd h
  pattern_quiet (steps.IsAlike a b) h = absurd h
  pattern_quiet (steps.GoesDown a b) h = absurd h
  pattern_quiet (steps.HasAnswer c) h = absurd h
  pattern_quiet (steps.Answer c) h = absurd h

  pub pattern_fits : (p : Pattern) (k t : ℕ) → P (fitting p k t).steps
  pattern_fits = pattern_closed P join none pattern_quiet

pub paired_join : (xs ys : List Step) → Paired xs → Paired ys → Paired (xs ++ ys)
paired_join [] ys p q = q
paired_join (steps.HasAnswer c ∷ []) ys p q = absurd p
paired_join (steps.HasAnswer c ∷ steps.Answer d ∷ ss) ys p q = (p.0, paired_join ss ys p.1 q)
paired_join (steps.HasAnswer c ∷ steps.HasAnswer d ∷ ss) ys p q = absurd p
paired_join (steps.HasAnswer d ∷ steps.Open s ∷ ss) ys p q = absurd p
paired_join (steps.HasAnswer d ∷ steps.Int n ∷ ss) ys p q = absurd p
paired_join (steps.HasAnswer d ∷ steps.Bool b ∷ ss) ys p q = absurd p
paired_join (steps.HasAnswer d ∷ steps.Not a ∷ ss) ys p q = absurd p
paired_join (steps.HasAnswer d ∷ steps.Both a b ∷ ss) ys p q = absurd p
paired_join (steps.HasAnswer d ∷ steps.Choose c a b ∷ ss) ys p q = absurd p
paired_join (steps.HasAnswer d ∷ steps.Unary op a ∷ ss) ys p q = absurd p
paired_join (steps.HasAnswer d ∷ steps.Binary op a b ∷ ss) ys p q = absurd p
paired_join (steps.HasAnswer d ∷ steps.Construct c fields ∷ ss) ys p q = absurd p
paired_join (steps.HasAnswer d ∷ steps.IsCtor c n a ∷ ss) ys p q = absurd p
paired_join (steps.HasAnswer d ∷ steps.CtorField c i a ∷ ss) ys p q = absurd p
paired_join (steps.HasAnswer d ∷ steps.Field a i ∷ ss) ys p q = absurd p
paired_join (steps.HasAnswer d ∷ steps.IsAlike a b ∷ ss) ys p q = absurd p
paired_join (steps.HasAnswer d ∷ steps.GoesDown a b ∷ ss) ys p q = absurd p
paired_join (steps.Answer c ∷ ss) ys p q = absurd p
paired_join (steps.Open s ∷ ss) ys p q = paired_join ss ys p q
paired_join (steps.Int n ∷ ss) ys p q = paired_join ss ys p q
paired_join (steps.Bool b ∷ ss) ys p q = paired_join ss ys p q
paired_join (steps.Not a ∷ ss) ys p q = paired_join ss ys p q
paired_join (steps.Both a b ∷ ss) ys p q = paired_join ss ys p q
paired_join (steps.Choose c a b ∷ ss) ys p q = paired_join ss ys p q
paired_join (steps.Unary op a ∷ ss) ys p q = paired_join ss ys p q
paired_join (steps.Binary op a b ∷ ss) ys p q = paired_join ss ys p q
paired_join (steps.Construct c fields ∷ ss) ys p q = paired_join ss ys p q
paired_join (steps.IsCtor c n a ∷ ss) ys p q = paired_join ss ys p q
paired_join (steps.CtorField c i a ∷ ss) ys p q = paired_join ss ys p q
paired_join (steps.Field a i ∷ ss) ys p q = paired_join ss ys p q
paired_join (steps.IsAlike a b ∷ ss) ys p q = paired_join ss ys p q
paired_join (steps.GoesDown a b ∷ ss) ys p q = paired_join ss ys p q

pub paired_one : (s : Step) → IsNoCall s → Paired (s ∷ [])
paired_one (steps.HasAnswer c) h = absurd h
paired_one (steps.Answer c) h = absurd h
paired_one (steps.Open s) h = tt
paired_one (steps.Int n) h = tt
paired_one (steps.Bool b) h = tt
paired_one (steps.Not a) h = tt
paired_one (steps.Both a b) h = tt
paired_one (steps.Choose c a b) h = tt
paired_one (steps.Unary op a) h = tt
paired_one (steps.Binary op a b) h = tt
paired_one (steps.Construct c fields) h = tt
paired_one (steps.IsCtor c n a) h = tt
paired_one (steps.CtorField c i a) h = tt
paired_one (steps.Field a i) h = tt
paired_one (steps.IsAlike a b) h = tt
paired_one (steps.GoesDown a b) h = tt

pub simple_quiet : (s : Step) → IsSimple s → IsNoCall s
simple_quiet (steps.HasAnswer c) h = absurd h
simple_quiet (steps.Answer c) h = absurd h
simple_quiet (steps.CtorField c i a) h = absurd h
simple_quiet (steps.Open s) h = tt
simple_quiet (steps.Int n) h = tt
simple_quiet (steps.Bool b) h = tt
simple_quiet (steps.Not a) h = tt
simple_quiet (steps.Both a b) h = tt
simple_quiet (steps.Choose c a b) h = tt
simple_quiet (steps.Unary op a) h = tt
simple_quiet (steps.Binary op a b) h = tt
simple_quiet (steps.Construct c fields) h = tt
simple_quiet (steps.IsCtor c n a) h = tt
simple_quiet (steps.Field a i) h = tt
simple_quiet (steps.IsAlike a b) h = tt
simple_quiet (steps.GoesDown a b) h = tt

abbrev Any : ℕ → Type 0
Any w = Unit {0}

-- the steps of each round
pub guess_paired : (functions : List Function) (f : Function) (c : CheckId) (n : ℕ)
    → Paired (guess_steps functions f c n).steps
guess_paired functions f c n = guess_closed Paired paired_join tt (λ s h. paired_one s (simple_quiet s h))
    (pattern_fits Paired paired_join tt paired_one) functions Any (λ w fit k reach g pre down args. (refl, tt)) tt tt
    (λ w. tt) f c n

-- and with the calls that are unfolded behind them
pub unfolded_paired : (functions : List Function) (f : Function) (c : CheckId) (n : ℕ)
    → let g = guess_steps functions f c n in
    Paired (g.steps ++ (all_unfolded functions n (length g.steps) (standing 0 g.steps)).steps)
unfolded_paired functions f c n =
    let g = guess_steps functions f c n in
    paired_join g.steps _ (guess_paired functions f c n)
    (unfolding_closed Paired paired_join tt (λ s h. paired_one s (simple_quiet s h))
    (pattern_fits Paired paired_join tt paired_one) functions Any (λ w fit k reach g pre down args. (refl, tt)) n tt
    (length g.steps)
    (standing 0 g.steps))

-- the steps of the own frame
pub base_paired : (functions : List Function) (f : Function) (c : CheckId) → let a = arguments (param_sorts f.params) in
    let n = after 0 a in
    let r = running (guessing functions (Some c)) (Some c) f n a.out a.alive in
    Paired (a.steps ++ (r.steps ++ (any_of r.fails (after n r) a.alive).steps))
base_paired functions f c = base_closed Paired paired_join tt (λ s h. paired_one s (simple_quiet s h))
    (pattern_fits Paired paired_join tt paired_one) functions Any (λ w fit k reach g pre down args. (refl, tt)) tt tt f
    c
