-- Calls of guess runs have values of their functions' result sorts, or stop.
use Rattle.std.proofs.Common.{◌≡◌, ℕ, zero, suc, true, List, [], ◌∷◌, ◌++◌, Option, Some, None}
use Rattle.std.proofs.Common.{slice_get, refl, sym, ap, ◌∙◌, subst}
use Rattle.std.specs.Prelude.{Bool, false, Err, Ok, if◌then◌else◌, nat_eq}
use Rattle.std.proofs.lemmas.Option.{slice_get_within}
use Rattle.pp_prog.specs.declared.expr.Expr.{Expr}
use Rattle.pp_prog.specs.declared.expr.Function.{Function}
use Rattle.pp_prog.specs.declared.id.CheckId.{CheckId}
use Rattle.pp_prog.specs.declared.id.FunctionId.{FunctionId}
use Rattle.pp_prog.specs.declared.program.Program.{Program}
use Rattle.pp_prog.specs.declared.sort.Sort.{Sort}
use Rattle.pp_prog.specs.declared.sort.Sort.TheVariants as sort
use Rattle.pp_prog.specs.declared.value.Value.{Value}
use Rattle.pp_prog.specs.ExprSorts.{is_sorted_post}
use Rattle.pp_prog.specs.Listing.{post_sites}
use Rattle.pp_prog.specs.Sorts.{param_sorts}
use Rattle.pp_eval.specs.declared.outcome.Outcome.{Outcome}
use Rattle.pp_eval.specs.declared.outcome.Outcome.TheVariants.{Done, Outside, Fails, Inner, Deep}
use Rattle.pp_eval.specs.declared.outcome.Stop.TheVariants as stop
use Rattle.pp_eval.specs.Equality.{equal}
use Rattle.pp_eval.specs.Meaning.{CallMeaning, Frame}
use Rattle.pp_eval.specs.Part.{Part}
use Rattle.pp_eval.specs.Runs.{run, run_at, run_with}
use Rattle.pp_sound.specs.Sound.{IsCalled}
use Rattle.pp_sound.proofs.Calls.{whole}
use Rattle.pp_prog.proofs.ValueSorts.{Has, Have, have_more, have_one}
use Rattle.pp_sound.proofs.Exprs.{AreGood, expr_sound}
use Rattle.pp_sound.proofs.Laws.{keep_sorts}
use Rattle.pp_sound.proofs.Operators.{judged}
use Rattle.pp_sound.proofs.Parts.{IsSorted, fine_either, fine_inside}
use Rattle.pp_sound.proofs.Parts.{fine_stop, fine_then, fine_value}
use Rattle.pp_sound.proofs.Runs.{run_fine}
use Rattle.pp_sound.proofs.Sites.{AreMet, met_left}
use Rattle.pp_prog.proofs.PartSorts.{has_the_sort_is}
use Rattle.pp_run_laws.proofs.MeasureSorts.{told_value}
use Rattle.pp_guess_runs.specs.Answers.{Answering, Answers, IsAnswering, answers_of, table, truth, value_done}
use Rattle.pp_guess_runs.specs.Guess.{agreed, called, done, fails, guess, guessed, held, skip}
use Rattle.pp_guess_runs.specs.Guess.{one_less, or_deep, own, unfolded}
use Rattle.pp_guess_runs.specs.Laws.{GuessesKeepSorts}
use Rattle.pp_guess_runs.proofs.OwnCalls.{own_calls_good}
use Rattle.pp_guess_runs.proofs.Tables.{tables_answer_once}

module _ (p : Program) (W : Answering) (answering : IsAnswering p W) where
  abbrev answer : Answers
  answer = answers_of p.types.ctors p.functions W

  abbrev U : Type 0
  U = Unit {0}

  abbrev calls_of : ℕ → CallMeaning
  calls_of n = called p.functions answer n

  -- an answer has the result's sort
  pub answer_sorted : (g : FunctionId) (f : Function) (args : List Value) → slice_get p.functions g.0 ≡ Some f
      → Have p.types.ctors (param_sorts f.params) args → (v : Value) → answer g args ≡ Some v
      → Has p.types.ctors f.result v
  answer_sorted g f args is have v e = by W answering e
    where
      is_done : (o : Outcome) → value_done o ≡ Some v → o ≡ Done v
      is_done (Done w) e = let same : w ≡ v = cc in ap Done same
      is_done Outside e = cc
      is_done (Fails c) e = cc
      is_done (Inner h c) e = cc
      is_done Deep e = cc

      by : (A : Answering) → IsAnswering p A → answers_of p.types.ctors p.functions A g args ≡ Some v
          → Has p.types.ctors f.result v
      by (table entries) is_table e =
          let k = tables_answer_once.only entries g args v e in
          let s = is_table.sorted k.0 k.1 in
          let same : s.0 ≡ f = (let both : Some s.0 ≡ Some f = sym s.1 ∙ ap
          (λ (h : FunctionId). slice_get p.functions h.0) k.2 ∙ is in cc) in
          subst (λ (h : Function). Has p.types.ctors h.result v) same (subst (Has p.types.ctors s.0.result) k.4 s.2)
      by (truth n) true_at e =
          let run_is : run p.types.ctors p.functions f args n ≡ Done v =
          is_done (run p.types.ctors p.functions f args n) (sym (ap (λ o. value_done
          (run_at p.types.ctors p.functions o args n)) is) ∙ e) in
          keep_sorts p g.0 f args (record { function = is; arguments = have }) n v run_is

  agreed_fine : (i : ℕ) (s : Sort) (o : Option Value) (v : Value) → Has p.types.ctors s v
      → IsSorted p U i s (agreed o v)
  agreed_fine i s None v has = fine_value has
  agreed_fine i s (Some w) v has = fine_either (equal w v) (fine_value has) (fine_stop tt)

  held_fine : (i : ℕ) (calls : CallMeaning) → AreGood p U i calls
      → (f : Function) (post : Option (CheckId × Expr)) (args : List Value)
      → is_sorted_post p.types p.functions post (param_sorts f.params ++ f.result ∷ []) ≡ true
      → AreMet p i (post_sites p.types p.functions post f.result (param_sorts f.params))
      → Have p.types.ctors (param_sorts f.params) args → (v : Value) → Has p.types.ctors f.result v
      → IsSorted p U i f.result (held calls post args v)
  held_fine i calls good f None args sorted met have v has = fine_value has
  held_fine i calls good f (Some post) args sorted met have v has =
      let scope = param_sorts f.params ++ f.result ∷ [] in
      judged p U i (expr_sound p U i calls good post.1 scope sort.Bool
      (has_the_sort_is p.types p.functions sort.Bool _ sorted)
      (met_left _ _ met) None (args ++ v ∷ []) (have_more p.types.ctors (param_sorts f.params) (f.result ∷ []) args
      (v ∷ []) have (have_one p.types.ctors f.result v has)))
      (λ t. fine_either t (fine_value has) (fine_stop tt))

  unfolded_fine : (i : ℕ) (calls : CallMeaning) (g : FunctionId) → AreGood p U g.0 calls → (f : Function)
      → slice_get p.functions g.0 ≡ Some f → (args : List Value) → Have p.types.ctors (param_sorts f.params) args
      → IsSorted p U i f.result (unfolded calls (answer g args) (Some f) g args)
  unfolded_fine i calls g good f is args have =
      let w = whole p g.0 f is in
      fine_inside p U i g (slice_get_within p.functions g.0 f is)
      (fine_then (expr_sound p U g.0 calls good f.body (param_sorts f.params) f.result w.body_sorted w.body_met None
      args have)
      (λ v has. fine_then (held_fine g.0 calls good f f.post args w.post_sorted w.post_met have v has)
      (λ u is_u. agreed_fine g.0 f.result (answer g args) u is_u)))

  -- calls from called frames, on arguments of the parameters' sorts
  pub called_fine : (n i : ℕ) (frame : Frame) (g : FunctionId) (pre down : Option CheckId) (args : List Value)
      (f : Function) → slice_get p.functions g.0 ≡ Some f → Have p.types.ctors (param_sorts f.params) args
      → IsSorted p U i f.result (calls_of n frame g pre down args)
  called_fine zero i frame g pre down args f is have = by (answer g args) refl
    where
      by : (o : Option Value) → answer g args ≡ o → IsSorted p U i f.result (or_deep o)
      by None e = fine_stop tt
      by (Some v) e = fine_value (answer_sorted g f args is have v e)
  called_fine (suc n) i frame g pre down args f is have =
      let good : AreGood p U g.0 (calls_of n) = record {
        part = λ frame h pre down args f is have met_pre met_down. called_fine n g.0 frame h pre down args f is have;
      } in
      subst (λ o. IsSorted p U i f.result (unfolded (calls_of n) (answer g args) o g args)) (sym is)
      (unfolded_fine i (calls_of n) g good f is args have)

  pub called_good : (n i : ℕ) → AreGood p U i (calls_of n)
  called_good n i = record {
    part = λ frame g pre down args f is have met_pre met_down. called_fine n i frame g pre down args f is have;
  }

  pub own_good : (c : CheckId) (n i : ℕ) → AreGood p U i (own p.types.ctors p.functions answer c n)
  own_good c n i = record {
    part = (own_calls_good p U (calls_of (one_less n)) (calls_of n) (called_good (one_less n)) (called_good n) c
        i).part;
  }

  -- ---- the value of a guess run

  done_value : (c : CheckId) (part : Part Outcome) (v : Value) → guessed c part ≡ done v → part ≡ Ok (Done v)
  done_value c (Ok (Done w)) v e = let same : w ≡ v = cc in ap (λ u. Ok (Done u)) same
  done_value c (Ok Outside) v e = cc
  done_value c (Ok (Fails d)) v e = cc
  done_value c (Ok (Inner g d)) v e = cc
  done_value c (Ok Deep) v e = cc
  done_value c (Err (stop.Fails d)) v e = absurd (by (nat_eq d.0 c.0) e)
    where
      by : (t : Bool) → (if t then fails else skip) ≡ done v → ⊥
      by true e = cc
      by false e = cc
  done_value c (Err (stop.Inner g d)) v e = cc
  done_value c (Err stop.Deep) v e = cc
  done_value c (Err stop.Stuck) v e = cc

  guess_sorted : (i : ℕ) (f : Function) (args : List Value) → IsCalled p i f args → (c : CheckId) (n : ℕ) (v : Value)
      → guess p.types.ctors p.functions f c args n W ≡ done v → Has p.types.ctors f.result v
  guess_sorted i f args is_called c n v e =
      let calls = own p.types.ctors p.functions answer c n in
      told_value (run_fine p U i calls (own_good c n i) f is_called.function args is_called.arguments) (Done v)
      (done_value c (run_with calls f args) v e)

  call_sorted : (n : ℕ) (frame : Frame) (g : FunctionId) (pre down : Option CheckId) (args : List Value) (f : Function)
      → slice_get p.functions g.0 ≡ Some f → Have p.types.ctors (param_sorts f.params) args → (v : Value)
      → calls_of n frame g pre down args ≡ Ok v → Has p.types.ctors f.result v
  call_sorted n frame g pre down args f is have v e = told_value (called_fine n 0 frame g pre down args f is have) v e

pub guesses_keep_sorts : GuessesKeepSorts
guesses_keep_sorts = record {
  runs = λ p i f args is_called c n W answering v e. guess_sorted p W answering i f args is_called c n v e;
  calls = λ p W answering n frame g pre down args f is have v e.
      call_sorted p W answering n frame g pre down args f is have v e;
}
