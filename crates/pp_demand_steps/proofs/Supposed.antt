-- What is supposed of moves holds in values that obey the steps in the world of a guess run that fails the check.
use Rattle.std.proofs.Common.{◌≡◌, ◌<◌, ◌-◌, ℕ, suc, false, List, [], ◌∷◌, ◌++◌, map, Option, Some, None, Ok}
use Rattle.std.proofs.Common.{refl, sym, ap, ◌∙◌, subst, slice_get}
use Rattle.std.proofs.lemmas.Bool.{and_parts}
use Rattle.pp_tree.specs.declared.operator.BinaryOp.TheVariants.{Equal}
use Rattle.pp_prog.specs.declared.expr.Function.{Function}
use Rattle.pp_prog.specs.declared.id.CtorId.{CtorId}
use Rattle.pp_prog.specs.declared.types.Ctor.{Ctor}
use Rattle.pp_prog.specs.declared.value.Value.{Value}
use Rattle.pp_eval.specs.Equality.{equal}
use Rattle.pp_eval.proofs.Trees.{equal_self}
use Rattle.pp_guess_runs.specs.Answers.{Answers}
use Rattle.pp_guess_runs.specs.Guess.{called, unfolded}
use Rattle.pp_steps.specs.declared.step.Step.TheVariants as steps
use Rattle.pp_steps.specs.Compile.{compile}
use Rattle.pp_steps.specs.Guesses.{Standing, asking, holding, implying}
use Rattle.pp_steps.specs.Meaning.{Missing, Values, bit}
use Rattle.pp_steps.specs.Piece.{Piece, after, demand, joined, plain}
use Rattle.pp_steps_run.specs.Told.{IsMade, On}
use Rattle.pp_steps_run.proofs.Calls.{values_at}
use Rattle.pp_steps_run.proofs.Choices.{demand_on}
use Rattle.pp_steps_run.proofs.Patterns.{are_more}
use Rattle.pp_steps_run.proofs.Pieces.{bit_truth, made_left, made_right}
use Rattle.pp_guess_steps.specs.OpenCalls.{answered}
use Rattle.pp_guess_steps.specs.OpenCalls as specs
use Rattle.pp_guess_steps.proofs.ByValues.{OwnStop, own_inner}
use Rattle.pp_guess_steps.proofs.RunsKeep.{expr_keeps}
use Rattle.pp_guess_steps.proofs.Ties.{HasParts, IsHonest, ans_keeps, answer_there, holding_on, implying_on, kept_ok}
use Rattle.pp_guess_steps.proofs.Ties.{less_one, parts_of, positive, some_value, told_value, unfolded_on}
use Rattle.pp_demand_steps.specs.Moves.{Body, Move, Post, bodied_of, call_of, move_steps, posted_of}

module _ (ctors : List Ctor) (functions : List Function) (W : Answers) (field : CtorId → ℕ → Value) (N : ℕ)
    (ρ : Values) where
  abbrev world : Missing
  world = specs.world functions W field N

  abbrev Made : {A : Type 0} → ℕ → Piece A → Type 0
  Made k x = IsMade ctors world ρ k x

  abbrev Honest : Standing → Type 0
  Honest = IsHonest ctors functions W field N ρ

  -- ---- a call that is reached, has an answer and is unfolded

  module _ (c : Standing) (honest : Honest c) (early : c.call.wait < N) where
    abbrev args : List Value
    args = map ρ c.call.args

    -- its answer, and what its body and its postcondition come to, with less fuel
    record IsUnfolded (f : Function) : Type 0 where
      fuel : ℕ
      answer : Value
      result : ρ c.result ≡ answer
      left : N - suc c.call.wait ≡ fuel
      parts : HasParts ctors functions W field N ρ (called functions W fuel) f args answer

    unfolds : (f : Function) → slice_get functions c.call.callee.0 ≡ Some f → On ρ c.call.reach → On ρ c.has
        → IsUnfolded f
    unfolds f here reached has =
        let u = answer_there ctors functions W field N ρ c honest reached has in
        let p = positive N c.call.wait early in
        let is = some_value _ u.0 u.1 in
        let q : called functions W (suc p.0) None c.call.callee None None args ≡ Ok u.0 =
        subst (λ n. called functions W n None c.call.callee None None args ≡ Ok u.0) p.1 is in
        let z : unfolded (called functions W p.0) (W c.call.callee args) (Some f) c.call.callee args ≡ Ok u.0 =
        subst (λ (o : Option Function).
        unfolded (called functions W p.0) (W c.call.callee args) o c.call.callee args ≡ Ok u.0) here q in
        record {
          fuel = p.0;
          answer = u.0;
          result = u.2;
          left = less_one N c.call.wait p.0 p.1;
          parts = parts_of ctors functions W field N ρ (called functions W p.0) (W c.call.callee args) f c.call.callee
              args u.0 z;
        }

    -- a call without a function has no answer
    nowhere_on : (k : ℕ) → slice_get functions c.call.callee.0 ≡ None
        → Made k (plain (steps.Both c.call.reach c.has ∷ steps.Not k ∷ []) (suc k) k) → On ρ (suc k)
    nowhere_on k here h = unfolded_on ctors functions W field N ρ c honest early k None here h

    module _ (f : Function) (here : slice_get functions c.call.callee.0 ≡ Some f) (k : ℕ) where
      abbrev P : Piece ℕ
      P = plain (steps.Both c.call.reach c.has ∷ []) k k

      unfolds_done : Made k P → On ρ k → IsUnfolded f
      unfolds_done h on =
          let d = and_parts (bit (ρ c.call.reach)) (bit (ρ c.has)) (sym (ap bit h.steps.0 ∙ bit_truth _) ∙ on) in
          unfolds f here d.0 d.1

      -- ---- its body

      abbrev X : Piece ℕ
      X = compile None (asking functions (suc c.call.wait)) f.body (after k P) c.call.args k

      abbrev m : ℕ
      m = after (after k P) X

      abbrev E : Piece ℕ
      E = plain (steps.Binary Equal X.out c.result ∷ []) m X.alive

      abbrev D : Piece ℕ
      D = demand false (after m E) X.alive m

      abbrev I : Piece ℕ
      I = implying (after (after m E) D) k D.alive

      bodied_on : Made k (bodied_of functions (Some f) k c) → On ρ I.out
      bodied_on h =
          let h1 = made_right ctors world ρ k P (joined X (joined E (joined D I))) h in
          let h2 = made_right ctors world ρ (after k P) X (joined E (joined D I)) h1 in
          let h3 = made_right ctors world ρ m E (joined D I) h2 in
          implying_on ctors functions W field N ρ (after (after m E) D) k D.alive
          (made_right ctors world ρ (after m E) D I h3)
          (λ on. agreed (made_left ctors world ρ (after k P) X (joined E (joined D I)) h1)
          (made_left ctors world ρ m E (joined D I) h2) (made_left ctors world ρ (after m E) D I h3) on
          (unfolds_done (made_left ctors world ρ k P (joined X (joined E (joined D I))) h) on))
        where
          agreed : Made (after k P) X → Made m E → Made (after m E) D → On ρ k → IsUnfolded f → On ρ D.alive
          agreed hx he hd on u =
              let w = suc c.call.wait in
              let calls = called functions W u.fuel in
              let keep = ans_keeps ctors functions W field N ρ w u.fuel u.left in
              let body = kept_ok _ _ u.answer
              (expr_keeps OwnStop own_inner calls (answered functions world w) keep f.body None args) u.parts.body in
              let told = told_value ctors functions W field N ρ w f.body (after k P) c.call.args k hx args on
              (values_at ρ c.call.args) u.answer body in
              let same : On ρ m =
              ap bit he.steps.0 ∙ bit_truth _ ∙ ap (λ x. equal x (ρ c.result)) told.told.2
              ∙ ap (equal u.answer) u.result ∙ equal_self u.answer in
              (demand_on ctors world ρ false (after m E) X.alive m hd told.told.0 same).0

      -- ---- its postcondition

      abbrev Z : Piece ℕ
      Z = holding (asking functions (suc c.call.wait)) f.post (after k P) (c.call.args ++ c.result ∷ []) k

      abbrev J : Piece ℕ
      J = implying (after (after k P) Z) k Z.alive

      posted_on : Made k (posted_of functions (Some f) k c) → On ρ J.out
      posted_on h =
          let h1 = made_right ctors world ρ k P (joined Z J) h in
          implying_on ctors functions W field N ρ (after (after k P) Z) k Z.alive
          (made_right ctors world ρ (after k P) Z J h1)
          (λ on. ends (made_left ctors world ρ (after k P) Z J h1) on
          (unfolds_done (made_left ctors world ρ k P (joined Z J) h) on))
        where
          ends : Made (after k P) Z → On ρ k → IsUnfolded f → On ρ Z.alive
          ends hz on u =
              let w = suc c.call.wait in
              holding_on ctors functions W field N ρ w (called functions W u.fuel)
              (ans_keeps ctors functions W field N ρ w u.fuel u.left) f.post (after k P)
              (c.call.args ++ c.result ∷ []) k hz on args u.answer
              (are_more ρ c.call.args (c.result ∷ []) args (u.answer ∷ []) (values_at ρ c.call.args) (u.result, tt))
              u.parts.post

    body_on : (o : Option Function) → slice_get functions c.call.callee.0 ≡ o → (k : ℕ)
        → Made k (bodied_of functions o k c) → On ρ (bodied_of functions o k c).out
    body_on None here k h = nowhere_on k here h
    body_on (Some f) here k h = bodied_on f here k h

    post_on : (o : Option Function) → slice_get functions c.call.callee.0 ≡ o → (k : ℕ)
        → Made k (posted_of functions o k c) → On ρ (posted_of functions o k c).out
    post_on None here k h = nowhere_on k here h
    post_on (Some f) here k h = posted_on f here k h

  -- what a move supposes is true
  pub move_on : (m : Move) → Honest (call_of m) → (call_of m).call.wait < N → (k : ℕ)
      → Made k (move_steps functions k m) → On ρ (move_steps functions k m).out
  move_on (Body c) honest early k h = body_on c honest early (slice_get functions c.call.callee.0) refl k h
  move_on (Post c) honest early k h = post_on c honest early (slice_get functions c.call.callee.0) refl k h
