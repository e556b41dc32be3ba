-- What is supposed of calls that are unfolded holds in values that obey the steps in the world of the answers.
use Rattle.std.proofs.Common.{◌≡◌, ◌<◌, ◌-◌, ℕ, zero, suc, Bool, true, false, List, [], ◌∷◌, ◌++◌, map, Option, Some}
use Rattle.std.proofs.Common.{None, Ok, Err, refl, sym, ap, ◌∙◌, subst, arith}
use Rattle.std.proofs.lemmas.Bool.{and_parts}
use Rattle.std.specs.Prelude.{slice_get, ◌&&◌, not}
use Rattle.pp_tree.specs.declared.operator.BinaryOp.TheVariants.{Equal}
use Rattle.pp_prog.specs.declared.expr.Expr.{Expr}
use Rattle.pp_prog.specs.declared.expr.Function.{Function}
use Rattle.pp_prog.specs.declared.id.CheckId.{CheckId}
use Rattle.pp_prog.specs.declared.id.CtorId.{CtorId}
use Rattle.pp_prog.specs.declared.id.FunctionId.{FunctionId}
use Rattle.pp_prog.specs.declared.types.Ctor.{Ctor}
use Rattle.pp_prog.specs.declared.value.Value.{Value}
use Rattle.pp_prog.specs.declared.value.Value.TheVariants.{Bool as Truth}
use Rattle.pp_eval.specs.declared.outcome.Stop.TheVariants as stop
use Rattle.pp_eval.specs.Equality.{equal}
use Rattle.pp_eval.specs.Meaning.{CallMeaning, Frame, meaning}
use Rattle.pp_eval.specs.Operators.{truth}
use Rattle.pp_eval.specs.Part.{Part, and_then, either}
use Rattle.pp_eval.proofs.Trees.{equal_self}
use Rattle.pp_eval.proofs.Extends.{same_extends}
use Rattle.pp_guess_runs.specs.Answers.{Answers}
use Rattle.pp_guess_runs.specs.Guess.{agreed, called, held, or_deep, unfolded}
use Rattle.pp_guess_runs.proofs.Truth.{inside_value, then_value}
use Rattle.pp_steps.specs.declared.step.Step.TheVariants as steps
use Rattle.pp_steps.specs.Compile.{Site, compile}
use Rattle.pp_steps.specs.Guesses.{Standing, asking, holding, implying, unfolded_of}
use Rattle.pp_steps.specs.Meaning.{Missing, Values, answer_of, bit, is_answered}
use Rattle.pp_steps.specs.Piece.{Piece, after, demand, joined, plain}
use Rattle.pp_steps_run.specs.Told.{AreValues, IsMade, IsTold, IsValue, On}
use Rattle.pp_steps_run.proofs.Calls.{AreSites, right_in, values_at}
use Rattle.pp_steps_run.proofs.Choices.{demand_on}
use Rattle.pp_steps_run.proofs.Lasting.{Lasts, truth_is}
use Rattle.pp_steps_run.proofs.Pieces.{bit_truth, made_left, made_right}
use Rattle.pp_steps_run.proofs.Patterns.{are_more}
use Rattle.pp_guess_steps.proofs.FuelsAgree.{unfolded_body}
use Rattle.pp_guess_steps.proofs.ByValues.{OwnStop, own_inner, called_never}
use Rattle.pp_guess_steps.proofs.RunsKeep.{CallsKeep, Keeps, expr_keeps}
use Rattle.pp_guess_steps.specs.OpenCalls.{answered, value_of}
use Rattle.pp_guess_steps.specs.OpenCalls as specs
use Rattle.pp_guess_steps.proofs.OpenCalls.{asking_site}

pub some_value : (p : Part Value) (v : Value) → value_of p ≡ Some v → p ≡ Ok v
some_value (Ok u) v e = let same : u ≡ v = cc in ap Ok same
some_value (Err s) v e = cc

keep_some : (p : Part Value) → ((c : CheckId) → p ≡ Err (stop.Fails c) → ⊥)
    → Keeps OwnStop own_inner p (or_deep (value_of p))
keep_some (Ok v) h = refl
keep_some (Err (stop.Fails c)) h = absurd (h c refl)
keep_some (Err (stop.Inner g c)) h = (tt, λ n. absurd n)
keep_some (Err stop.Deep) h = (tt, λ n. absurd n)
keep_some (Err stop.Stuck) h = (tt, λ n. absurd n)

pub kept_ok : {A : Type 0} (p q : Part A) (a : A) → Keeps OwnStop own_inner p q → p ≡ Ok a → q ≡ Ok a
kept_ok (Ok b) q a h e = h ∙ e
kept_ok (Err s) q a h e = cc

ok_lasts : {A : Type 0} (part : Part A) (a : A) → part ≡ Ok a → Lasts part
ok_lasts (Ok b) a e = record { lasts = λ d. absurd (cc); meant = λ d. absurd (cc) }
ok_lasts (Err s) a e = cc

not_both : (a b : Bool) → ((a ≡ true) → b ≡ true) → not (a && not b) ≡ true
not_both true true h = refl
not_both true false h = let e = h refl in cc
not_both false b h = refl

abbrev the_ok : Value → Part Value
the_ok v = Ok v

abbrev ok_bool : Bool → Part Bool
ok_bool b = Ok b

pub less_one : (n w m : ℕ) → n - w ≡ suc m → n - suc w ≡ m
less_one n w m e = omega (arith, e)

pub positive : (n w : ℕ) → w < n → (m : ℕ) × (n - w ≡ suc m)
positive n w h = (n - suc w, omega (arith, h))

module _ (ctors : List Ctor) (functions : List Function) (W : Answers) (field : CtorId → ℕ → Value) (N : ℕ)
    (ρ : Values) where
  abbrev world : Missing
  world = specs.world functions W field N

  abbrev Made : {A : Type 0} → ℕ → Piece A → Type 0
  Made k x = IsMade ctors world ρ k x

  abbrev Ans : ℕ → CallMeaning
  Ans w = answered functions world w

  -- from which frame a call comes doesn't count
  any_frame : (n : ℕ) (frame : Frame) (g : FunctionId) (pre down : Option CheckId) (args : List Value)
      → called functions W n frame g pre down args ≡ called functions W n None g None None args
  any_frame zero frame g pre down args = refl
  any_frame (suc n) frame g pre down args = refl

  pub ans_keeps : (w m : ℕ) → N - w ≡ m → CallsKeep OwnStop own_inner (called functions W m) (Ans w)
  ans_keeps w m e frame g pre down args =
      subst (λ p. Keeps OwnStop own_inner p (or_deep (value_of (called functions W (N - w) None g None None args))))
      (sym (any_frame m frame g pre down args ∙ ap (λ n. called functions W n None g None None args) (sym e)))
      (keep_some (called functions W (N - w) None g None None args)
      (λ c. called_never functions W (N - w) None g None None args c))

  are_asking : (w : ℕ) → AreSites ctors world ρ None (λ ks. asking functions w) (Ans w) (Ans w)
  are_asking w = record {
    cover = λ frame g pre down args. same_extends _;
    site = λ ks frame is. asking_site ctors world ρ functions w None frame _;
  }

  -- an expression of a called frame that has a value
  pub told_value : (w : ℕ) (e : Expr) (k : ℕ) (env : List ℕ) (reach : ℕ) → Made k
      (compile None (asking functions w) e k env reach)
      → (vs : List Value) → On ρ reach → AreValues ρ env vs → (v : Value) → meaning (Ans w) e None vs ≡ Ok v
      → IsTold ρ None (IsValue ρ) (compile None (asking functions w) e k env reach) (Ok v)
  told_value w e k env reach h vs on are v is =
      subst (λ p. IsTold ρ None (IsValue ρ) (compile None (asking functions w) e k env reach) p) is
      ((right_in ctors world ρ None (λ ks. asking functions w) (Ans w) (Ans w) (are_asking w) None None tt e).told
      k env reach h vs on are (ok_lasts (meaning (Ans w) e None vs) v is))

  -- what is known of a call that stands in the steps
  pub record IsHonest (c : Standing) : Type 0 where
    pub has : On ρ c.call.reach → ρ c.has ≡ Truth (is_answered (answer_of world ρ c.call))
    pub result : On ρ c.call.reach → (u : Value) → answer_of world ρ c.call ≡ Some u → ρ c.result ≡ u

  -- the answer of a call that is reached and has one
  pub answer_there : (c : Standing) → IsHonest c → On ρ c.call.reach → On ρ c.has
      → (u : Value) × (answer_of world ρ c.call ≡ Some u) × (ρ c.result ≡ u)
  answer_there c honest on has = by (answer_of world ρ c.call) refl
    where
      by : (o : Option Value) → answer_of world ρ c.call ≡ o → (u : Value) × (answer_of world ρ c.call ≡ Some u) ×
          (ρ c.result ≡ u)
      by None e =
          let off : bit (ρ c.has) ≡ false = ap bit (honest.has on) ∙ bit_truth _ ∙ ap is_answered e in
          let no : false ≡ true = sym off ∙ has in cc
      by (Some u) e = (u, e, honest.result on u e)

  held_true : (calls : CallMeaning) (post : CheckId × Expr) (args : List Value) (v u : Value)
      → held calls (Some post) args v ≡ Ok u → (t : Value) × (meaning calls post.1 None (args ++ v ∷ []) ≡ Ok t) ×
      (truth t ≡ Ok true)
  held_true calls post args v u e =
      let p = then_value (meaning calls post.1 None (args ++ v ∷ [])) _ u e in
      let t = then_value (truth p.0) (λ t. either t (Ok v) (Err stop.Deep)) u p.2 in
      (p.0, p.1, t.1 ∙ ap Ok (by t.0 t.2))
    where
      by : (t : Bool) → either t (Ok v) (Err stop.Deep) ≡ Ok u → t ≡ true
      by true e = refl
      by false e = cc

  -- the body and the postcondition of a call that was unfolded and has a value
  pub record HasParts (calls : CallMeaning) (f : Function) (args : List Value) (v : Value) : Type 0 where
    pub body : meaning calls f.body None args ≡ Ok v
    pub post : (u : Value) × (held calls f.post args v ≡ Ok u)

  pub parts_of : (calls : CallMeaning) (o : Option Value) (f : Function) (g : FunctionId) (args : List Value)
      (v : Value) → unfolded calls o (Some f) g args ≡ Ok v → HasParts calls f args v
  parts_of calls o f g args v e =
      let b = then_value (meaning calls f.body None args) (λ u. and_then (held calls f.post args u) (agreed o)) v
      (inside_value g _ v e) in
      let is = unfolded_body calls o f g args v e in
      let same : b.0 ≡ v = by b.0 v (sym b.1 ∙ is) in
      let h = then_value (held calls f.post args b.0) (agreed o) v b.2 in
      record { body = is; post = (h.0, subst (λ u. held calls f.post args u ≡ Ok h.0) same h.1) }
    where
      by : (x y : Value) → the_ok x ≡ the_ok y → x ≡ y
      by x y e = cc

  pub implying_on : (k a b : ℕ) → Made k (implying k a b) → (On ρ a → On ρ b) → On ρ (implying k a b).out
  implying_on k a b h imp =
      let n : bit (ρ k) ≡ not (bit (ρ b)) = ap bit h.steps.0 ∙ bit_truth _ in
      let m : bit (ρ (suc k)) ≡ (bit (ρ a) && bit (ρ k)) = ap bit h.steps.1.0 ∙ bit_truth _ in
      ap bit h.steps.1.1.0 ∙ bit_truth _ ∙ ap not (m ∙ ap (λ z. bit (ρ a) && z) n) ∙ not_both (bit (ρ a)) (bit (ρ b))
      imp

  truth_bit : (t : Value) → truth t ≡ Ok true → bit t ≡ true
  truth_bit t e =
      let is = truth_is t (ok_lasts (truth t) true e) in by (bit t) (sym is ∙ e)
    where
      by : (b : Bool) → ok_bool b ≡ ok_bool true → b ≡ true
      by true e = refl
      by false e = cc

  pub holding_on : (w : ℕ) (calls : CallMeaning) → CallsKeep OwnStop own_inner calls (Ans w)
      → (o : Option (CheckId × Expr)) (k : ℕ)
      (values : List ℕ) (reach : ℕ) → Made k (holding (asking functions w) o k values reach) → On ρ reach
      → (args : List Value) (v : Value) → AreValues ρ values (args ++ v ∷ []) → (u : Value) ×
      (held calls o args v ≡ Ok u)
      → On ρ (holding (asking functions w) o k values reach).alive
  holding_on w calls keep None k values reach h on args v are p = on
  holding_on w calls keep (Some post) k values reach h on args v are p =
      let t = held_true calls post args v p.0 p.1 in
      let x = compile None (asking functions w) post.1 k values reach in
      let y = demand false (after k x) x.alive x.out in
      let is = kept_ok _ _ t.0 (expr_keeps OwnStop own_inner calls (Ans w) keep post.1 None (args ++ v ∷ [])) t.1 in
      let told = told_value w post.1 k values reach (made_left ctors world ρ k x y h) (args ++ v ∷ []) on are t.0 is in
      (demand_on ctors world ρ false (after k x) x.alive x.out (made_right ctors world ρ k x y h) told.told.0
      (ap bit told.told.2 ∙ truth_bit t.0 t.2)).0

  -- ---- a call that is unfolded

  module _ (c : Standing) (honest : IsHonest c) (early : c.call.wait < N) (k : ℕ) where
    abbrev site : Site
    site = asking functions (suc c.call.wait)

    module _ (f : Function) where
      abbrev P : Piece ℕ
      P = plain (steps.Both c.call.reach c.has ∷ []) k k

      abbrev X : Piece ℕ
      X = compile None site f.body (after k P) c.call.args k

      abbrev E : Piece ℕ
      E = plain (steps.Binary Equal X.out c.result ∷ []) (after (after k P) X) X.alive

      abbrev D : Piece ℕ
      D = demand false (after (after (after k P) X) E) X.alive (after (after k P) X)

      abbrev Z : Piece ℕ
      Z = holding site f.post (after (after (after (after k P) X) E) D) (c.call.args ++ c.result ∷ []) D.alive

      abbrev j : ℕ
      j = after (after (after (after (after k P) X) E) D) Z

      abbrev I : Piece ℕ
      I = implying j k Z.alive

      abbrev Whole : Piece ℕ
      Whole = unfolded_of functions (Some f) k c

      module _ (here : slice_get functions c.call.callee.0 ≡ Some f) (h : Made k Whole) where
        h1 : Made (after k P) (joined X (joined E (joined D (joined Z I))))
        h1 = made_right ctors world ρ k P (joined X (joined E (joined D (joined Z I)))) h

        h2 : Made (after (after k P) X) (joined E (joined D (joined Z I)))
        h2 = made_right ctors world ρ (after k P) X (joined E (joined D (joined Z I))) h1

        h3 : Made (after (after (after k P) X) E) (joined D (joined Z I))
        h3 = made_right ctors world ρ (after (after k P) X) E (joined D (joined Z I)) h2

        h4 : Made (after (after (after (after k P) X) E) D) (joined Z I)
        h4 = made_right ctors world ρ (after (after (after k P) X) E) D (joined Z I) h3

        hi : Made j I
        hi = made_right ctors world ρ (after (after (after (after k P) X) E) D) Z I h4

        ends_on : On ρ k → On ρ Z.alive
        ends_on on =
            let d = and_parts (bit (ρ c.call.reach)) (bit (ρ c.has)) (sym (ap bit h.steps.0 ∙ bit_truth _) ∙ on) in
            let u = answer_there c honest d.0 d.1 in
            let p = positive N c.call.wait early in
            let vs = map ρ c.call.args in
            let calls = called functions W p.0 in
            let is = some_value _ u.0 u.1 in
            let q : called functions W (suc p.0) None c.call.callee None None vs ≡ Ok u.0 =
            subst (λ n. called functions W n None c.call.callee None None vs ≡ Ok u.0) p.1 is in
            let z : unfolded calls (W c.call.callee vs) (Some f) c.call.callee vs ≡ Ok u.0 =
            subst (λ (o : Option Function). unfolded calls (W c.call.callee vs) o c.call.callee vs ≡ Ok u.0) here q in
            let parts = parts_of calls (W c.call.callee vs) f c.call.callee vs u.0 z in
            let keep = ans_keeps (suc c.call.wait) p.0 (less_one N c.call.wait p.0 p.1) in
            let body = kept_ok _ _ u.0 (expr_keeps OwnStop own_inner calls (Ans (suc c.call.wait)) keep f.body None vs)
            parts.body in
            let told = told_value (suc c.call.wait) f.body (after k P) c.call.args k
            (made_left ctors world ρ (after k P) X (joined E (joined D (joined Z I))) h1) vs on
            (values_at ρ c.call.args)
            u.0 body in
            let same : On ρ (after (after k P) X) =
            ap bit h2.steps.0 ∙ bit_truth _ ∙ ap (λ x. equal x (ρ c.result)) told.told.2 ∙ ap (equal u.0) u.2
            ∙ equal_self u.0 in
            let go = demand_on ctors world ρ false (after (after (after k P) X) E) X.alive (after (after k P) X)
            (made_left ctors world ρ (after (after (after k P) X) E) D (joined Z I) h3) told.told.0 same in
            holding_on (suc c.call.wait) calls keep f.post (after (after (after (after k P) X) E) D)
            (c.call.args ++ c.result ∷ []) D.alive
            (made_left ctors world ρ (after (after (after (after k P) X) E) D) Z I h4) go.0 vs u.0
            (are_more ρ c.call.args (c.result ∷ []) vs (u.0 ∷ []) (values_at ρ c.call.args) (u.2, tt)) parts.post

    pub unfolded_on : (o : Option Function) → slice_get functions c.call.callee.0 ≡ o → Made k
        (unfolded_of functions o k c)
        → On ρ (unfolded_of functions o k c).out
    unfolded_on None here h =
        let d : bit (ρ k) ≡ (bit (ρ c.call.reach) && bit (ρ c.has)) = ap bit h.steps.0 ∙ bit_truth _ in
        ap bit h.steps.1.0 ∙ bit_truth _ ∙ ap not d ∙ by (bit (ρ c.call.reach)) (bit (ρ c.has)) refl refl
      where
        by : (a b : Bool) → bit (ρ c.call.reach) ≡ a → bit (ρ c.has) ≡ b → not (a && b) ≡ true
        by true true r e =
            let u = answer_there c honest r e in
            let p = positive N c.call.wait early in
            let is = some_value _ u.0 u.1 in
            let q : called functions W (suc p.0) None c.call.callee None None (map ρ c.call.args) ≡ Ok u.0 =
            subst (λ n. called functions W n None c.call.callee None None (map ρ c.call.args) ≡ Ok u.0) p.1 is in
            let z : unfolded (called functions W p.0) (W c.call.callee (map ρ c.call.args)) None c.call.callee
            (map ρ c.call.args) ≡ Ok u.0 =
            subst (λ (o : Option Function). unfolded (called functions W p.0) (W c.call.callee (map ρ c.call.args)) o
            c.call.callee (map ρ c.call.args) ≡ Ok u.0) here q in
            cc
        by true false r e = refl
        by false b r e = refl
    unfolded_on (Some f) here h = implying_on (j f) k (Z f).alive (hi f here h) (λ on. ends_on f here h on)
