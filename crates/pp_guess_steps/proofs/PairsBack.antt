-- What is supposed of two calls of one function, read backwards.
use Rattle.std.proofs.Common.{◌≡◌, ℕ, suc, Bool, true, false, List, [], ◌∷◌, ◌++◌, map, refl, sym, ap, ◌∙◌}
use Rattle.std.specs.Prelude.{nat_eq, ◌&&◌, not, if◌then◌else◌}
use Rattle.pp_tree.specs.declared.operator.BinaryOp.TheVariants.{Equal}
use Rattle.pp_prog.specs.declared.types.Ctor.{Ctor}
use Rattle.pp_prog.specs.declared.value.Value.TheVariants.{Bool as Truth}
use Rattle.pp_eval.specs.Equality.{equal}
use Rattle.pp_eval.proofs.Trees.{equal_same, equal_self}
use Rattle.pp_steps.specs.declared.step.Step.TheVariants as steps
use Rattle.pp_steps.specs.Guesses.{Standing, agreeing, agreeing_with, all_agreeing, answering_alike, equal_all}
use Rattle.pp_steps.specs.Guesses.{equal_answers, implying}
use Rattle.pp_steps.specs.Meaning.{Missing, Values, bit}
use Rattle.pp_steps.specs.Piece.{Piece, after, joined, plain}
use Rattle.pp_guess_steps.specs.Laws.{Agreed, AreNear}
use Rattle.std.proofs.lemmas.Bool.{eq-eqb}
use Rattle.pp_steps_run.specs.Told.{AllOf, IsMade, On}
use Rattle.pp_steps_run.proofs.Pieces.{all_left, all_right, bit_truth, made_left, made_right}

-- what an implication and its premise give
pub holds_then : (a b : Bool) → not (a && not b) ≡ true → a ≡ true → b ≡ true
holds_then true true h e = refl
holds_then true false h e = cc
holds_then false b h e = cc

module _ (ctors : List Ctor) (missing : Missing) (ρ : Values) where
  abbrev Made : {A : Type 0} → ℕ → Piece A → Type 0
  Made k x = IsMade ctors missing ρ k x

  both_are : (k a b : ℕ) → ρ k ≡ Truth (bit (ρ a) && bit (ρ b))
      → On ρ a → On ρ b → On ρ k
  both_are k a b e x y = ap bit e ∙ bit_truth _ ∙ ap (λ z. z && bit (ρ b)) x ∙ y

  implied : (k a b : ℕ) → Made k (implying k a b) → On ρ (implying k a b).out → On ρ a → On ρ b
  implied k a b h on =
      let n : bit (ρ k) ≡ not (bit (ρ b)) = ap bit h.steps.0 ∙ bit_truth _ in
      let m : bit (ρ (suc k)) ≡ (bit (ρ a) && bit (ρ k)) = ap bit h.steps.1.0 ∙ bit_truth _ in
      holds_then (bit (ρ a)) (bit (ρ b))
      (sym (ap bit h.steps.1.1.0 ∙ bit_truth _ ∙ ap not (m ∙ ap (λ z. bit (ρ a) && z) n)) ∙ on)

  equals_back : (k : ℕ) (xs ys : List ℕ) (test : ℕ) → Made k (equal_all k xs ys test) → map ρ xs ≡ map ρ ys → On ρ test
      → On ρ (equal_all k xs ys test).out
  equals_back k [] [] test h e on = on
  equals_back k [] (y ∷ ys) test h e on = cc
  equals_back k (x ∷ xs) [] test h e on = cc
  equals_back k (x ∷ xs) (y ∷ ys) test h e on =
      let p : Piece ℕ = plain (steps.Binary Equal x y ∷ steps.Both test k ∷ []) (suc k) test in
      let first : ρ x ≡ ρ y = cc in
      let rest : map ρ xs ≡ map ρ ys = cc in
      let same : On ρ k = ap bit h.steps.0 ∙ bit_truth _ ∙ ap (λ v. equal v (ρ y)) first ∙ equal_self (ρ y) in
      equals_back (after k p) xs ys (suc k) (made_right ctors missing ρ k p (equal_all (after k p) xs ys (suc k)) h)
      rest
      (both_are (suc k) test k h.steps.1.0 on same)

  alike_back : (c d : Standing) (b : Bool) (k near : ℕ) → Made k (answering_alike b k c d near)
      → AllOf (On ρ) (answering_alike b k c d near).out → On ρ near → b ≡ true → ρ c.has ≡ ρ d.has
  alike_back c d false k near h on is e = cc
  alike_back c d true k near h on is e =
      let p : Piece ℕ = plain (steps.Binary Equal c.has d.has ∷ []) k near in
      let q = implying (after k p) near k in
      let r : Piece (List ℕ) = plain [] (q.out ∷ []) near in
      let hq = made_left ctors missing ρ (after k p) q r (made_right ctors missing ρ k p (joined q r) h) in
      equal_same (ρ c.has) (ρ d.has)
      (sym (ap bit h.steps.0 ∙ bit_truth _) ∙ implied (after k p) near k hq on.0 is)

  answers_back : (c d : Standing) (k near : ℕ) → Made k (equal_answers k c d near)
      → AllOf (On ρ) (equal_answers k c d near).out → On ρ near → On ρ c.has → On ρ d.has → ρ c.result ≡ ρ d.result
  answers_back c d k near h on is hc hd =
      let p : Piece ℕ = plain (steps.Both near c.has ∷ steps.Both k d.has ∷ steps.Binary Equal c.result d.result ∷ [])
      (suc k) near in
      let q = implying (after k p) (suc k) (suc (suc k)) in
      let r : Piece (List ℕ) = plain [] (q.out ∷ []) near in
      let hq = made_left ctors missing ρ (after k p) q r (made_right ctors missing ρ k p (joined q r) h) in
      let both = both_are (suc k) k d.has h.steps.1.0 (both_are k near c.has h.steps.0 is hc) hd in
      equal_same (ρ c.result) (ρ d.result)
      (sym (ap bit h.steps.1.1.0 ∙ bit_truth _) ∙ implied (after k p) (suc k) (suc (suc k)) hq on.0 both)

  pub agreeing_back : (c d : Standing) (k true_one : ℕ) → Made k (agreeing k c d true_one) → On ρ true_one
      → AllOf (On ρ) (agreeing k c d true_one).out → Agreed ρ c d
  agreeing_back c d k true_one h one on =
      let s = equal_all k c.call.args d.call.args true_one in
      let n = after k s in
      let p : Piece ℕ = plain (steps.Both s.out c.call.reach ∷ steps.Both n d.call.reach ∷ []) (suc n) s.out in
      let m = after n p in
      let a = answering_alike (nat_eq c.call.wait d.call.wait) m c d (suc n) in
      let i = after m a in
      let e = equal_answers i c d (suc n) in
      let z : Piece (List ℕ) = plain [] (a.out ++ e.out) s.out in
      let h0 = made_left ctors missing ρ k s (joined p (joined a (joined e z))) h in
      let h1 = made_right ctors missing ρ k s (joined p (joined a (joined e z))) h in
      let h2 = made_right ctors missing ρ n p (joined a (joined e z)) h1 in
      let h3 = made_right ctors missing ρ m a (joined e z) h2 in
      let near : AreNear ρ c d → On ρ (suc n) = λ is. both_are (suc n) n d.call.reach h1.steps.1.0
      (both_are n s.out c.call.reach h1.steps.0 (equals_back k c.call.args d.call.args true_one h0 is.args one)
      is.first)
      is.second in
      record {
        has = λ is same. alike_back c d (nat_eq c.call.wait d.call.wait) m (suc n)
            (made_left ctors missing ρ m a (joined e z) h2) (all_left (On ρ) a.out e.out on) (near is)
            (eq-eqb c.call.wait d.call.wait same);
        result = λ is hc hd. answers_back c d i (suc n) (made_left ctors missing ρ i e z h3)
            (all_right (On ρ) a.out e.out on) (near is) hc hd;
      }

  abbrev pub AgreedWith : Standing → List Standing → Type 0
  AgreedWith c ds = AllOf (λ d. nat_eq c.call.callee.0 d.call.callee.0 ≡ true → Agreed ρ c d) ds

  -- each of the second list agrees with the first one, and with those before it
  abbrev pub AllAgreed : List Standing → List Standing → Type 0
  AllAgreed olds [] = Unit {0}
  AllAgreed olds (c ∷ cs) = AgreedWith c olds × AllAgreed (olds ++ c ∷ []) cs

  if_back : (c d : Standing) (b : Bool) (k t : ℕ) → Made k (if b then agreeing k c d t else plain [] [] t) → On ρ t
      → AllOf (On ρ) (if b then agreeing k c d t else plain [] [] t).out → b ≡ true → Agreed ρ c d
  if_back c d true k t h one on e = agreeing_back c d k t h one on
  if_back c d false k t h one on e = cc

  with_back : (c : Standing) (ds : List Standing) (k t : ℕ) → Made k (agreeing_with k c ds t) → On ρ t
      → AllOf (On ρ) (agreeing_with k c ds t).out → AgreedWith c ds
  with_back c [] k t h one on = tt
  with_back c (d ∷ ds) k t h one on =
      let b = nat_eq c.call.callee.0 d.call.callee.0 in
      let x : Piece (List ℕ) = if b then agreeing k c d t else plain [] [] t in
      let n = after k x in
      let y = agreeing_with n c ds t in
      let z : Piece (List ℕ) = plain [] (x.out ++ y.out) t in
      let hy = made_left ctors missing ρ n y z (made_right ctors missing ρ k x (joined y z) h) in (
        λ e. if_back c d b k t (made_left ctors missing ρ k x (joined y z) h) one (all_left (On ρ) x.out y.out on) e,
        with_back c ds n t hy one (all_right (On ρ) x.out y.out on),
      )

  pub pairs_back : (cs olds : List Standing) (k t : ℕ) → Made k (all_agreeing k olds cs t) → On ρ t
      → AllOf (On ρ) (all_agreeing k olds cs t).out → AllAgreed olds cs
  pairs_back [] olds k t h one on = tt
  pairs_back (c ∷ cs) olds k t h one on =
      let x = agreeing_with k c olds t in
      let n = after k x in
      let y = all_agreeing n (olds ++ c ∷ []) cs t in
      let z : Piece (List ℕ) = plain [] (x.out ++ y.out) t in
      let hy = made_left ctors missing ρ n y z (made_right ctors missing ρ k x (joined y z) h) in (
        with_back c olds k t (made_left ctors missing ρ k x (joined y z) h) one (all_left (On ρ) x.out y.out on),
        pairs_back cs (olds ++ c ∷ []) n t hy one (all_right (On ρ) x.out y.out on),
      )
