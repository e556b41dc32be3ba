-- A guess run depends only on the answers to calls of functions on arguments of the parameters' sorts: in a program
-- whose functions are sorted no others are made.
use Rattle.std.proofs.Common.{◌≡◌, ℕ, zero, suc, Bool, true, false, List, [], ◌∷◌, ◌++◌, Option, Some, None, Ok, Err}
use Rattle.std.proofs.Common.{refl, sym, ap, ◌∙◌, subst, slice_get}
use Rattle.std.specs.Prelude.{if◌then◌else◌}
use Rattle.pp_prog.specs.declared.expr.Expr.{Expr}
use Rattle.pp_prog.specs.declared.expr.Function.{Function}
use Rattle.pp_prog.specs.declared.id.CheckId.{CheckId}
use Rattle.pp_prog.specs.declared.id.FunctionId.{FunctionId}
use Rattle.pp_prog.specs.declared.program.Program.{Program}
use Rattle.pp_prog.specs.declared.value.Value.{Value}
use Rattle.pp_prog.specs.declared.sort.Sort.TheVariants as sort
use Rattle.pp_prog.specs.ExprSorts.{is_sorted_post, sort_of}
use Rattle.pp_prog.specs.Listing.{post_sites}
use Rattle.pp_prog.specs.Sorts.{have_sorts, param_sorts}
use Rattle.pp_prog.proofs.ValueSorts.{Has, Have, have_more, have_one}
use Rattle.pp_eval.specs.declared.outcome.Stop.{Stop}
use Rattle.pp_eval.specs.declared.outcome.Stop.TheVariants as stop
use Rattle.pp_eval.specs.Meaning.{CallMeaning, Frame, meaning}
use Rattle.pp_eval.specs.Operators.{truth}
use Rattle.pp_eval.specs.Part.{Part, and_then, either, inside}
use Rattle.pp_eval.specs.Runs.{run_with}
use Rattle.pp_sound.specs.Sound.{IsCalled}
use Rattle.pp_sound.proofs.Calls.{whole}
use Rattle.pp_sound.proofs.Exprs.{AreGood, expr_sound}
use Rattle.pp_sound.proofs.Parts.{IsFine, IsSorted, MayStop}
use Rattle.pp_sound.proofs.Runs.{run_fine}
use Rattle.pp_sound.proofs.Sites.{AreMet, met_left}
use Rattle.pp_prog.proofs.PartSorts.{has_the_sort_is}
use Rattle.pp_run_laws.proofs.Follows.{Kept}
use Rattle.pp_guess_runs.specs.Answers.{Answering, Answers, IsAnswering, answers_of}
use Rattle.pp_guess_runs.specs.Guess.{agreed, called, held, one_less, or_deep, own, unfolded}
use Rattle.pp_guess_runs.proofs.OwnCalls.{own_calls_good}
use Rattle.pp_guess_runs.proofs.Sorted.{called_good}
use Rattle.pp_guess_steps.specs.OpenCalls.{own_calls}
use Rattle.pp_guess_steps.proofs.FuelsAgree.{AnyStop}
use Rattle.pp_guess_steps.proofs.RunsKeep.{CallsKeep, expr_keeps, own_keep, run_keeps}

-- each stop but a part that has no meaning
abbrev Meant : Stop → Type 0
Meant (stop.Fails c) = Unit {0}
Meant (stop.Inner g c) = Unit {0}
Meant stop.Deep = Unit {0}
Meant stop.Stuck = ⊥

meant_inner : (g : FunctionId) (c : CheckId) → Meant (stop.Inner g c) → Meant (stop.Fails c)
meant_inner g c h = tt

abbrev Same : {A : Type 0} → Part A → Part A → Type 0
Same p q = Kept AnyStop Meant p q

-- what a part keeps that is fine, it is
kept_same : (p : Program) (i : ℕ) {A : Type 0} {V : A → Type 0} (part other : Part A)
    → IsFine (MayStop p (Unit {0}) i) V part → Same part other → other ≡ part
kept_same p i (Ok a) other h k = k
kept_same p i (Err (stop.Fails c)) other h k = k.1 tt
kept_same p i (Err (stop.Inner g c)) other h k = k.1 tt
kept_same p i (Err stop.Deep) other h k = k.1 tt
kept_same p i (Err stop.Stuck) other h k = absurd h.told

same_if : {A : Type 0} (part other : Part A) → part ≡ other → Same part other
same_if (Ok a) other e = sym e
same_if (Err x) other e = (tt, λ s. sym e)

-- what goes on the same way from a value that it can have
then_same : {A B : Type 0} {S : Stop → Type 0} {V : A → Type 0} (part : Part A) (go on : A → Part B) → IsFine S V part
    → ((a : A) → V a → go a ≡ on a) → and_then part go ≡ and_then part on
then_same (Ok a) go on h k = k a h.told
then_same (Err x) go on h k = refl

module _ (p : Program) where
  abbrev U : Type 0
  U = Unit {0}

  -- the function is there, and the arguments have the parameters' sorts
  abbrev pub is_known : Option Function → List Value → Bool
  is_known None args = false
  is_known (Some f) args = have_sorts p.types.ctors args (param_sorts f.params)

  -- such calls do what they do, and no others have a meaning
  abbrev known : CallMeaning → CallMeaning
  known c frame g pre down args = if is_known (slice_get p.functions g.0) args then c frame g pre down args else
      Err stop.Stuck

  -- the two do the same at such calls
  abbrev SameKnown : CallMeaning → CallMeaning → Type 0
  SameKnown c d = (frame : Frame) (g : FunctionId) (pre down : Option CheckId) (args : List Value)
      → is_known (slice_get p.functions g.0) args ≡ true → c frame g pre down args ≡ d frame g pre down args

  known_good : (c : CallMeaning) (i : ℕ) → AreGood p U i c → AreGood p U i (known c)
  known_good c i good = record {
    part = λ frame g pre down args f is have met_pre met_down.
        let it : is_known (slice_get p.functions g.0) args ≡ true = subst (λ o. is_known o args ≡ true) (sym is) have in
        subst (λ (b : Bool). IsSorted p U i f.result (if b then c frame g pre down args else Err stop.Stuck)) (sym it)
        (good.part frame g pre down args f is have met_pre met_down);
  }

  known_keeps : (c d : CallMeaning) → SameKnown c d → CallsKeep Meant meant_inner (known c) d
  known_keeps c d same frame g pre down args =
      by (is_known (slice_get p.functions g.0) args) (same frame g pre down args)
    where
      by : (b : Bool) → (b ≡ true → c frame g pre down args ≡ d frame g pre down args)
          → Same (if b then c frame g pre down args else Err stop.Stuck) (d frame g pre down args)
      by true h = same_if _ _ (h refl)
      by false h = (tt, λ s. absurd s)

  itself : (c : CallMeaning) → SameKnown c c
  itself c frame g pre down args e = refl

  module _ (W : Answers) (T : Answering) (answering : IsAnswering p T)
      (same : (g : FunctionId) (args : List Value) → is_known (slice_get p.functions g.0) args ≡ true
      → W g args ≡ answers_of p.types.ctors p.functions T g args) where
    abbrev V : Answers
    V = answers_of p.types.ctors p.functions T

    abbrev First : ℕ → CallMeaning
    First n = called p.functions W n

    abbrev Second : ℕ → CallMeaning
    Second n = called p.functions V n

    -- an expression of a function over them
    expr_same : (n i : ℕ) → SameKnown (Second n) (First n) → (e : Expr) (args : List Value) {X : Value → Type 0}
        → IsFine (MayStop p U i) X (meaning (known (Second n)) e None args)
        → (meaning (First n) e None args ≡ meaning (known (Second n)) e None args) × (meaning (Second n) e None args
        ≡ meaning (known (Second n)) e None args)
    expr_same n i alike e args fine = (
      kept_same p i _ _ fine (expr_keeps Meant meant_inner (known (Second n)) (First n)
          (known_keeps (Second n) (First n) alike) e None args),
      kept_same p i _ _ fine (expr_keeps Meant meant_inner (known (Second n)) (Second n)
          (known_keeps (Second n) (Second n) (itself (Second n))) e None args),
    )

    good : (n i : ℕ) → AreGood p U i (known (Second n))
    good n i = known_good (Second n) i (called_good p T answering n i)

    module _ (n : ℕ) (alike : SameKnown (Second n) (First n)) (g : FunctionId) (f : Function)
        (is : slice_get p.functions g.0 ≡ Some f) (args : List Value)
        (have : Have p.types.ctors (param_sorts f.params) args) where
      held_same : (o : Option (CheckId × Expr))
          → is_sorted_post p.types p.functions o (param_sorts f.params ++ f.result ∷ []) ≡ true
          → AreMet p g.0 (post_sites p.types p.functions o f.result (param_sorts f.params))
          → (v : Value) → Has p.types.ctors f.result v → held (First n) o args v ≡ held (Second n) o args v
      held_same None sorts met v has = refl
      held_same (Some post) sorts met v has =
          let scope = param_sorts f.params ++ f.result ∷ [] in
          let fine = expr_sound p U g.0 (known (Second n)) (good n g.0) post.1 scope sort.Bool
          (has_the_sort_is p.types p.functions sort.Bool (sort_of p.types p.functions post.1 scope) sorts)
          (met_left _ _ met) None (args ++ v ∷ [])
          (have_more p.types.ctors (param_sorts f.params) (f.result ∷ []) args (v ∷ []) have
          (have_one p.types.ctors f.result v has)) in
          let both = expr_same n g.0 alike post.1 (args ++ v ∷ []) fine in
          ap (λ q. and_then q (λ x. and_then (truth x) (λ t. either t (Ok v) (Err stop.Deep)))) (both.0 ∙ sym both.1)

      unfolded_same : unfolded (First n) (W g args) (Some f) g args ≡ unfolded (Second n) (V g args) (Some f) g args
      unfolded_same =
          let w = whole p g.0 f is in
          let fine = expr_sound p U g.0 (known (Second n)) (good n g.0) f.body (param_sorts f.params) f.result
          w.body_sorted w.body_met None args have in
          let both = expr_same n g.0 alike f.body args fine in
          let body = meaning (known (Second n)) f.body None args in
          let first : Value → Part Value = λ v. and_then (held (First n) f.post args v) (agreed (W g args)) in
          let second : Value → Part Value = λ v. and_then (held (Second n) f.post args v) (agreed (V g args)) in
          let answers : W g args ≡ V g args = same g args
          (subst (λ o. is_known o args ≡ true) (sym is) have) in
          ap (inside g) (ap (λ q. and_then q first) both.0
          ∙ then_same body first second fine (λ v has.
          ap (λ q. and_then q (agreed (W g args))) (held_same f.post w.post_sorted w.post_met v has)
          ∙ ap (λ o. and_then (held (Second n) f.post args v) (agreed o)) answers)
          ∙ ap (λ q. and_then q second) (sym both.1))

    alike_at : (n : ℕ) → SameKnown (Second n) (First n)
    alike_at zero frame g pre down args e = ap or_deep (sym (same g args e))
    alike_at (suc n) frame g pre down args e = by (alike_at n) (slice_get p.functions g.0) refl e
      where
        by : SameKnown (Second n) (First n) → (o : Option Function) → slice_get p.functions g.0 ≡ o
            → is_known o args ≡ true → unfolded (Second n) (V g args) o g args ≡ unfolded (First n) (W g args) o g args
        by alike None is e = cc
        by alike (Some f) is e = sym (unfolded_same n alike g f is args e)

    -- the run of the own frame
    pub run_same : (i : ℕ) (f : Function) (args : List Value) → IsCalled p i f args → (check : CheckId) (n : ℕ)
        → run_with (own p.types.ctors p.functions W check n) f args
        ≡ run_with (own p.types.ctors p.functions V check n) f args
    run_same i f args called check n =
        let m = one_less n in
        let base = own_calls p.types.ctors p.functions check (known (Second m)) (known (Second n)) in
        let fine = run_fine p U i base (record {
          part = (own_calls_good p U (known (Second m)) (known (Second n)) (good m) (good n) check i).part;
        }) f called.function args called.arguments in
        let one = kept_same p i _ _ fine (run_keeps Meant meant_inner base
        (own p.types.ctors p.functions W check n)
        (own_keep Meant meant_inner p.types.ctors p.functions check (known (Second m)) (known (Second n)) (First m)
        (First n) (known_keeps (Second m) (First m) (alike_at m)) (known_keeps (Second n) (First n) (alike_at n)))
        f args) in
        let two = kept_same p i _ _ fine (run_keeps Meant meant_inner base
        (own p.types.ctors p.functions V check n)
        (own_keep Meant meant_inner p.types.ctors p.functions check (known (Second m)) (known (Second n)) (Second m)
        (Second n) (known_keeps (Second m) (Second m) (itself (Second m)))
        (known_keeps (Second n) (Second n) (itself (Second n)))) f args) in
        one ∙ sym two
