-- What is supposed of two calls of one function holds in values that obey the steps in the world of the answers.
use Rattle.std.proofs.Common.{◌≡◌, ℕ, suc, ◌-◌, Bool, true, false, List, [], ◌∷◌, ◌++◌, map, None, Ok, refl, sym, ap}
use Rattle.std.proofs.Common.{◌∙◌, subst}
use Rattle.std.specs.Prelude.{nat_eq}
use Rattle.std.proofs.lemmas.Bool.{and_parts, eqb-true}
use Rattle.pp_tree.specs.declared.operator.BinaryOp.TheVariants.{Equal}
use Rattle.pp_prog.specs.declared.expr.Function.{Function}
use Rattle.pp_prog.specs.declared.id.CtorId.{CtorId}
use Rattle.pp_prog.specs.declared.id.FunctionId.{FunctionId}
use Rattle.pp_prog.specs.declared.types.Ctor.{Ctor}
use Rattle.pp_prog.specs.declared.value.Value.{Value}
use Rattle.pp_prog.specs.declared.value.Value.TheVariants.{Bool as Truth}
use Rattle.pp_eval.specs.Equality.{equal}
use Rattle.pp_eval.proofs.Trees.{equal_same, equal_self}
use Rattle.pp_guess_runs.specs.Answers.{Answers}
use Rattle.pp_guess_runs.specs.Guess.{called}
use Rattle.pp_steps.specs.declared.step.Step.TheVariants as steps
use Rattle.pp_steps.specs.Guesses.{Standing, agreeing, answering_alike, equal_all, equal_answers, implying}
use Rattle.pp_steps.specs.Meaning.{Values, answer_of, bit, is_answered}
use Rattle.pp_steps.specs.Piece.{Piece, after, joined, plain}
use Rattle.pp_steps_run.specs.Told.{AllOf, IsMade, On}
use Rattle.pp_steps_run.proofs.Pieces.{all_join, bit_truth, made_left, made_right}
use Rattle.pp_guess_steps.proofs.FuelsAgree.{calls_agree}
use Rattle.pp_guess_steps.proofs.Ties.{IsHonest, answer_there, implying_on, some_value}
use Rattle.pp_guess_steps.specs.OpenCalls.{world}

same_id : (c d : FunctionId) → nat_eq c.0 d.0 ≡ true → c ≡ d
same_id c d h = let mk : ℕ → FunctionId = λ n. record { 0 = n } in ap mk (eqb-true c.0 d.0 h)

module _ (ctors : List Ctor) (functions : List Function) (W : Answers) (field : CtorId → ℕ → Value) (N : ℕ)
    (ρ : Values) where
  abbrev Made : {A : Type 0} → ℕ → Piece A → Type 0
  Made k x = IsMade ctors (world functions W field N) ρ k x

  abbrev Honest : Standing → Type 0
  Honest = IsHonest ctors functions W field N ρ

  equal_are : (k : ℕ) (xs ys : List ℕ) (test : ℕ) → Made k (equal_all k xs ys test) → On ρ (equal_all k xs ys test).out
      → (map ρ xs ≡ map ρ ys) × On ρ test
  equal_are k [] [] test h on = (refl, on)
  equal_are k [] (y ∷ ys) test h on =
      let off : bit (ρ k) ≡ false = ap bit h.steps.0 ∙ bit_truth false in
      let no : false ≡ true = sym off ∙ on in cc
  equal_are k (x ∷ xs) [] test h on =
      let off : bit (ρ k) ≡ false = ap bit h.steps.0 ∙ bit_truth false in
      let no : false ≡ true = sym off ∙ on in cc
  equal_are k (x ∷ xs) (y ∷ ys) test h on =
      let p : Piece ℕ = plain (steps.Binary Equal x y ∷ steps.Both test k ∷ []) (suc k) test in
      let q = equal_all (after k p) xs ys (suc k) in
      let rest = equal_are (after k p) xs ys (suc k) (made_right ctors (world functions W field N) ρ k p
      q h) on in
      let both = and_parts (bit (ρ test)) (bit (ρ k)) (sym (ap bit h.steps.1.0 ∙ bit_truth _) ∙ rest.1) in
      let same : equal (ρ x) (ρ y) ≡ true = sym (ap bit h.steps.0 ∙ bit_truth _) ∙ both.1 in
      (ap (λ v. v ∷ map ρ xs) (equal_same (ρ x) (ρ y) same) ∙ ap (λ vs. ρ y ∷ vs) rest.0, both.0)

  module _ (c d : Standing) (hc : Honest c) (hd : Honest d) (one : nat_eq c.call.callee.0 d.call.callee.0 ≡ true) where
    -- both are reached, with equal arguments
    record AreNear : Type 0 where
      first : On ρ c.call.reach
      second : On ρ d.call.reach
      args : map ρ c.call.args ≡ map ρ d.call.args

    same_call : AreNear → c.call.wait ≡ d.call.wait
        → answer_of (world functions W field N) ρ c.call
        ≡ answer_of (world functions W field N) ρ d.call
    same_call near wait =
        let id = same_id c.call.callee d.call.callee one in
        ap (λ w. (world functions W field N).answer w c.call.callee c.call.params c.call.result
        (map ρ c.call.args)) wait
        ∙ ap (λ g. (world functions W field N).answer d.call.wait g c.call.params c.call.result
        (map ρ c.call.args)) id
        ∙ ap (λ vs. (world functions W field N).answer d.call.wait d.call.callee c.call.params c.call.result vs)
        near.args

    alike_on : (b : Bool) → nat_eq c.call.wait d.call.wait ≡ b → (k near : ℕ) → Made k (answering_alike b k c d near)
        → (On ρ near → AreNear) → AllOf (On ρ) (answering_alike b k c d near).out
    alike_on false e k near h is = tt
    alike_on true e k near h is =
        let p : Piece ℕ = plain (steps.Binary Equal c.has d.has ∷ []) k near in
        let q = implying (after k p) near k in
        let r : Piece (List ℕ) = plain [] (q.out ∷ []) near in
        let hq = made_right ctors (world functions W field N) ρ k p (joined q r) h in (
          implying_on ctors functions W field N ρ (after k p) near k
              (made_left ctors (world functions W field N) ρ (after k p) q r hq)
              (λ on. let n = is on in
              let same : ρ c.has ≡ ρ d.has = hc.has n.first ∙ ap (λ o. Truth
              (is_answered o)) (same_call n (eqb-true c.call.wait d.call.wait e)) ∙ sym (hd.has n.second) in
              ap bit h.steps.0 ∙ bit_truth _ ∙ ap (λ v. equal v (ρ d.has)) same ∙ equal_self (ρ d.has)),
          tt,
        )

    equal_on : (k near : ℕ) → Made k (equal_answers k c d near) → (On ρ near → AreNear)
        → AllOf (On ρ) (equal_answers k c d near).out
    equal_on k near h is =
        let p : Piece ℕ = plain (steps.Both near c.has ∷ steps.Both k d.has ∷ steps.Binary Equal c.result d.result ∷ [])
        (suc k) near in
        let q = implying (after k p) (suc k) (suc (suc k)) in
        let r : Piece (List ℕ) = plain [] (q.out ∷ []) near in
        let hq = made_right ctors (world functions W field N) ρ k p (joined q r) h in (
          implying_on ctors functions W field N ρ (after k p) (suc k) (suc (suc k))
              (made_left ctors (world functions W field N) ρ (after k p) q r hq)
              (λ on.
              let b = and_parts (bit (ρ k)) (bit (ρ d.has)) (sym (ap bit h.steps.1.0 ∙ bit_truth _) ∙ on) in
              let a = and_parts (bit (ρ near)) (bit (ρ c.has)) (sym (ap bit h.steps.0 ∙ bit_truth _) ∙ b.0) in
              let n = is a.0 in
              let u = answer_there ctors functions W field N ρ c hc n.first a.1 in
              let v = answer_there ctors functions W field N ρ d hd n.second b.1 in
              let id = same_id c.call.callee d.call.callee one in
              let pu = some_value _ u.0 u.1 in
              let pv = some_value _ v.0 v.1 in
              let pv2 : called functions W (N - d.call.wait) None c.call.callee None None (map ρ c.call.args) ≡ Ok v.0 =
              subst (λ g. called functions W (N - d.call.wait) None g None None (map ρ c.call.args) ≡ Ok v.0) (sym id)
              (subst (λ vs. called functions W (N - d.call.wait) None d.call.callee None None vs ≡ Ok v.0) (sym n.args)
              pv) in
              let same = calls_agree functions W (N - c.call.wait) (N - d.call.wait) None c.call.callee None None
              (map ρ c.call.args) u.0 v.0 pu pv2 in
              ap bit h.steps.1.1.0 ∙ bit_truth _ ∙ ap (λ x. equal x (ρ d.result)) (u.2 ∙ same ∙ sym v.2) ∙ equal_self
              (ρ d.result)),
          tt,
        )

    pub agreeing_on : (k true_one : ℕ) → Made k (agreeing k c d true_one) → AllOf (On ρ) (agreeing k c d true_one).out
    agreeing_on k true_one h =
        let w = world functions W field N in
        let s = equal_all k c.call.args d.call.args true_one in
        let n = after k s in
        let p : Piece ℕ = plain (steps.Both s.out c.call.reach ∷ steps.Both n d.call.reach ∷ []) (suc n) s.out in
        let m = after n p in
        let a = answering_alike (nat_eq c.call.wait d.call.wait) m c d (suc n) in
        let i = after m a in
        let e = equal_answers i c d (suc n) in
        let z : Piece (List ℕ) = plain [] (a.out ++ e.out) s.out in
        let h1 = made_right ctors w ρ k s (joined p (joined a (joined e z))) h in
        let h2 = made_right ctors w ρ n p (joined a (joined e z)) h1 in
        let h3 = made_right ctors w ρ m a (joined e z) h2 in
        let near = λ (on : On ρ (suc n)).
        (let b = and_parts (bit (ρ n)) (bit (ρ d.call.reach)) (sym (ap bit h1.steps.1.0 ∙ bit_truth _) ∙ on) in
        let f = and_parts (bit (ρ s.out)) (bit (ρ c.call.reach)) (sym (ap bit h1.steps.0 ∙ bit_truth _) ∙ b.0) in
        let args = equal_are k c.call.args d.call.args true_one
        (made_left ctors w ρ k s (joined p (joined a (joined e z))) h) f.0 in
        let r : AreNear = record { first = f.1; second = b.1; args = args.0 } in r) in
        all_join (On ρ) a.out e.out
        (alike_on (nat_eq c.call.wait d.call.wait) refl m (suc n) (made_left ctors w ρ m a (joined e z) h2) near)
        (equal_on i (suc n) (made_left ctors w ρ i e z h3) near)
