-- The second half: calls that are reached and have answers are those of the guess run whose table they are.
use Rattle.std.proofs.Common.{◌≡◌, ◌≤◌, ◌<◌, ◌-◌, ℕ, zero, suc, Bool, true, false, List, [], ◌∷◌, ◌++◌, map, Option}
use Rattle.std.proofs.Common.{Some, None, Ok, Err, refl, sym, ap, ◌∙◌, subst, arith, Contains}
use Rattle.std.proofs.lemmas.Bool.{and_parts}
use Rattle.std.specs.Prelude.{slice_get, ◌&&◌, not}
use Rattle.pp_tree.specs.declared.operator.BinaryOp.TheVariants.{Equal}
use Rattle.pp_prog.specs.declared.expr.Expr.{Expr}
use Rattle.pp_prog.specs.declared.expr.Function.{Function}
use Rattle.pp_prog.specs.declared.id.CheckId.{CheckId}
use Rattle.pp_prog.specs.declared.id.FunctionId.{FunctionId}
use Rattle.pp_prog.specs.declared.types.Ctor.{Ctor}
use Rattle.pp_prog.specs.declared.value.Value.{Value}
use Rattle.pp_eval.specs.declared.outcome.Stop.{Stop}
use Rattle.pp_eval.specs.declared.outcome.Stop.TheVariants as stop
use Rattle.pp_eval.specs.Equality.{equal}
use Rattle.pp_eval.specs.Meaning.{CallMeaning, Frame, meaning}
use Rattle.pp_eval.specs.Operators.{truth}
use Rattle.pp_eval.specs.Part.{Part, and_then, either, inside}
use Rattle.pp_eval.proofs.Extends.{CallsCover, Extends, expr_covers}
use Rattle.pp_eval.proofs.Trees.{equal_same, equal_self}
use Rattle.pp_guess_runs.specs.Answers.{Answers}
use Rattle.pp_guess_runs.specs.Guess.{agreed, called, held, or_deep, unfolded}
use Rattle.pp_steps.specs.declared.step.Step.TheVariants as steps
use Rattle.pp_steps.specs.Compile.{compile}
use Rattle.pp_steps.specs.Frames.{result_of}
use Rattle.pp_steps.specs.Guesses.{Standing, asking, holding, implying, params_of, unfolded_call, unfolded_of}
use Rattle.pp_steps.specs.Meaning.{Missing, Values, bit}
use Rattle.pp_steps.specs.Piece.{Piece, after, demand, joined, plain}
use Rattle.pp_steps_run.specs.Told.{AreValues, IsMade, IsTold, IsValue, Off, On}
use Rattle.pp_steps_run.proofs.Calls.{AreSites, right_in, values_at}
use Rattle.pp_steps_run.proofs.Lasting.{Lasts, lasts_first, truth_is}
use Rattle.pp_steps_run.proofs.Patterns.{are_more}
use Rattle.pp_steps_run.proofs.Pieces.{bit_truth, made_left, made_right}
use Rattle.pp_guess_steps.specs.OpenCalls.{answered}
use Rattle.pp_guess_steps.proofs.OpenCalls.{asking_site}
use Rattle.pp_guess_steps.proofs.PairsBack.{holds_then}

no_bit : {A : Type 0} (b : Bool) → b ≡ true → b ≡ false → A
no_bit b e f = let no : true ≡ false = sym e ∙ f in absurd (cc)

extends_ok : (p q : Part Value) (v : Value) → Extends p q → p ≡ Ok v → q ≡ Ok v
extends_ok (Ok u) q v h e = h ∙ e
extends_ok (Err s) q v h e = cc

module _ (ctors : List Ctor) (functions : List Function) (N : ℕ) (ρ : Values)
    (missing : Missing) (W : Answers) (calls : List Standing) where
  abbrev Made : {A : Type 0} → ℕ → Piece A → Type 0
  Made k x = IsMade ctors missing ρ k x

  abbrev Ans : ℕ → CallMeaning
  Ans w = answered functions missing w

  abbrev args_of : Standing → List Value
  args_of c = map ρ c.call.args

  -- the call is reached, and has an answer
  pub record IsDone (c : Standing) : Type 0 where
    pub reach : On ρ c.call.reach
    pub has : On ρ c.has

  -- a call of the function with these arguments stands in the steps, is done, and has this answer
  pub record IsHit (g : FunctionId) (vs : List Value) (u : Value) (c : Standing) : Type 0 where
    pub there : Contains calls c
    pub callee : c.call.callee ≡ g
    pub args : args_of c ≡ vs
    pub done : IsDone c
    pub value : ρ c.result ≡ u

  -- what is known of the values, of their own world and of the table
  pub record IsSettled (Full : ℕ → CallMeaning) : Type 0 where
    pub own : (w : ℕ) (g : FunctionId) (vs : List Value) (u : Value) (frame : Frame) (pre down : Option CheckId)
        → Ans w frame g pre down vs ≡ Ok u → (d : Standing) × IsHit g vs u d × (d.call.wait ≡ w)
    pub entry : (g : FunctionId) (vs : List Value) (u : Value) → W g vs ≡ Some u → (d : Standing) × IsHit g vs u d
    pub listed : (c : Standing) → Contains calls c → IsDone c → N ≤ c.call.wait
        → (u : Value) × (W c.call.callee (args_of c) ≡ Some u)
    pub agree : (c d : Standing) → Contains calls c → Contains calls d → IsDone c → IsDone d → c.call.callee
        ≡ d.call.callee
        → args_of c ≡ args_of d → ρ c.result ≡ ρ d.result
    pub tied : (c : Standing) → Contains calls c → c.call.wait < N
        → (k : ℕ) × Made k (unfolded_call functions k c) × On ρ (unfolded_call functions k c).out
    pub cover : (w : ℕ) → CallsCover (Ans w) (Full w)
    pub body_lasts : (c : Standing) (f : Function) → Contains calls c → slice_get functions c.call.callee.0 ≡ Some f
        → Lasts (meaning (Full (suc c.call.wait)) f.body None (args_of c))
    pub post_lasts : (c : Standing) (f : Function) (post : CheckId × Expr) → Contains calls c
        → slice_get functions c.call.callee.0 ≡ Some f → f.post ≡ Some post
        → Lasts (and_then (meaning (Full (suc c.call.wait)) post.1 None (args_of c ++ ρ c.result ∷ [])) truth)

  module _ (Full : ℕ → CallMeaning) (known : IsSettled Full) where
    are_asking : (w : ℕ) → AreSites ctors missing ρ None (λ ks. asking functions w) (Ans w) (Full w)
    are_asking w = record {
      cover = known.cover w;
      site = λ ks frame is. asking_site ctors missing ρ functions w None frame (Full w);
    }

    -- an expression that has a value where the steps say so
    ok_where_alive : (w : ℕ) (e : Expr) (k : ℕ) (env : List ℕ) (reach : ℕ)
        → Made k (compile None (asking functions w) e k env reach) → (vs : List Value) → On ρ reach → AreValues ρ env vs
        → Lasts (meaning (Full w) e None vs) → On ρ (compile None (asking functions w) e k env reach).alive
        → meaning (Ans w) e None vs ≡ Ok (ρ (compile None (asking functions w) e k env reach).out)
    ok_where_alive w e k env reach h vs on are lasts alive = by (meaning (Ans w) e None vs)
        ((right_in ctors missing ρ None (λ ks. asking functions w) (Ans w) (Full w) (are_asking w) None None tt e).told
        k env reach h vs on are lasts)
      where
        by : (p : Part Value) → IsTold ρ None (IsValue ρ) (compile None (asking functions w) e k env reach) p
            → p ≡ Ok (ρ (compile None (asking functions w) e k env reach).out)
        by (Ok v) t = ap Ok (sym t.told.2)
        by (Err s) t = no_bit (bit (ρ (compile None (asking functions w) e k env reach).alive)) alive t.told.0

    quiet_where_dead : (w : ℕ) (e : Expr) (k : ℕ) (env : List ℕ) (reach : ℕ)
        → Made k (compile None (asking functions w) e k env reach) → Off ρ reach
        → Off ρ (compile None (asking functions w) e k env reach).alive
    quiet_where_dead w e k env reach h off =
        ((right_in ctors missing ρ None (λ ks. asking functions w) (Ans w) (Full w) (are_asking w) None None tt e).quiet
        k env reach h off).alive

    -- ---- the tie of a call

    demanded : (k alive test : ℕ) → Made k (demand false k alive test) → On ρ (demand false k alive test).alive
        → On ρ alive × On ρ test
    demanded k alive test h on = and_parts (bit (ρ alive)) (bit (ρ test)) (sym (ap bit h.steps.0 ∙ bit_truth _) ∙ on)

    implied : (k a b : ℕ) → Made k (implying k a b) → On ρ (implying k a b).out → On ρ a → On ρ b
    implied k a b h on =
        let n : bit (ρ k) ≡ not (bit (ρ b)) = ap bit h.steps.0 ∙ bit_truth _ in
        let m : bit (ρ (suc k)) ≡ (bit (ρ a) && bit (ρ k)) = ap bit h.steps.1.0 ∙ bit_truth _ in
        holds_then (bit (ρ a)) (bit (ρ b))
        (sym (ap bit h.steps.1.1.0 ∙ bit_truth _ ∙ ap not (m ∙ ap (λ z. bit (ρ a) && z) n)) ∙ on)

    module _ (c : Standing) (there : Contains calls c) (done : IsDone c) (f : Function)
        (here : slice_get functions c.call.callee.0 ≡ Some f) (k : ℕ)
        (h : Made k (unfolded_of functions (Some f) k c)) (on : On ρ (unfolded_of functions (Some f) k c).out) where
      abbrev w : ℕ
      w = suc c.call.wait

      abbrev P : Piece ℕ
      P = plain (steps.Both c.call.reach c.has ∷ []) k k

      abbrev X : Piece ℕ
      X = compile None (asking functions w) f.body (after k P) c.call.args k

      abbrev E : Piece ℕ
      E = plain (steps.Binary Equal X.out c.result ∷ []) (after (after k P) X) X.alive

      abbrev D : Piece ℕ
      D = demand false (after (after (after k P) X) E) X.alive (after (after k P) X)

      abbrev Z : Piece ℕ
      Z = holding (asking functions w) f.post (after (after (after (after k P) X) E) D) (c.call.args ++ c.result ∷ [])
          D.alive

      abbrev j : ℕ
      j = after (after (after (after (after k P) X) E) D) Z

      abbrev I : Piece ℕ
      I = implying j k Z.alive

      h1 : Made (after k P) (joined X (joined E (joined D (joined Z I))))
      h1 = made_right ctors missing ρ k P (joined X (joined E (joined D (joined Z I)))) h

      h2 : Made (after (after k P) X) (joined E (joined D (joined Z I)))
      h2 = made_right ctors missing ρ (after k P) X (joined E (joined D (joined Z I))) h1

      h3 : Made (after (after (after k P) X) E) (joined D (joined Z I))
      h3 = made_right ctors missing ρ (after (after k P) X) E (joined D (joined Z I)) h2

      h4 : Made (after (after (after (after k P) X) E) D) (joined Z I)
      h4 = made_right ctors missing ρ (after (after (after k P) X) E) D (joined Z I) h3

      hx : Made (after k P) X
      hx = made_left ctors missing ρ (after k P) X (joined E (joined D (joined Z I))) h1

      hd : Made (after (after (after k P) X) E) D
      hd = made_left ctors missing ρ (after (after (after k P) X) E) D (joined Z I) h3

      hz : Made (after (after (after (after k P) X) E) D) Z
      hz = made_left ctors missing ρ (after (after (after (after k P) X) E) D) Z I h4

      reached : On ρ k
      reached = ap bit h.steps.0 ∙ bit_truth _ ∙ ap (λ b. b && bit (ρ c.has)) done.reach ∙ done.has

      ends : On ρ Z.alive
      ends = implied j k Z.alive (made_right ctors missing ρ (after (after (after (after k P) X) E) D) Z I h4) on
          reached

      -- what the postcondition says, where it is reached
      holds : (o : Option (CheckId × Expr)) → f.post ≡ o → (i : ℕ) (reach : ℕ)
          → Made i (holding (asking functions w) o i (c.call.args ++ c.result ∷ []) reach)
          → On ρ (holding (asking functions w) o i (c.call.args ++ c.result ∷ []) reach).alive
          → On ρ reach × ((calls : CallMeaning) → CallsCover (Ans w) calls
          → held calls o (args_of c) (ρ c.result) ≡ Ok (ρ c.result))
      holds None e i reach g alive = (alive, λ calls covers. refl)
      holds (Some post) e i reach g alive =
          let x = compile None (asking functions w) post.1 i (c.call.args ++ c.result ∷ []) reach in
          let y = demand false (after i x) x.alive x.out in
          let gx = made_left ctors missing ρ i x y g in
          let both = demanded (after i x) x.alive x.out (made_right ctors missing ρ i x y g) alive in
          let r : On ρ reach = by x (bit (ρ reach)) refl both.0 (λ off. quiet_where_dead w post.1 i
          (c.call.args ++ c.result ∷ []) reach gx off) in
          let lasts = known.post_lasts c f post there here e in
          let first = lasts_first
          (meaning (Full w) post.1 None (args_of c ++ ρ c.result ∷ [])) truth lasts in
          let is = ok_where_alive w post.1 i (c.call.args ++ c.result ∷ []) reach gx (args_of c ++ ρ c.result ∷ []) r
          (are_more ρ c.call.args (c.result ∷ []) (args_of c) (ρ c.result ∷ []) (values_at ρ c.call.args) (refl, tt))
          first
          both.0 in
          let whole = extends_ok _ _ _ (expr_covers (Ans w) (Full w) (known.cover w) post.1 None
          (args_of c ++ ρ c.result ∷ [])) is in
          let t = truth_is (ρ x.out) (subst (λ p. Lasts (and_then p truth)) whole lasts) ∙ ap Ok both.1 in (
            r,
            λ calls covers.
                let its = extends_ok _ _ _ (expr_covers (Ans w) calls covers post.1 None (args_of c ++ ρ c.result ∷ []))
                is in
                ap (λ p. and_then p (λ x. and_then (truth x) (λ t. either t (Ok (ρ c.result)) (Err stop.Deep)))) its
                ∙ ap (λ p. and_then p (λ t. either t (Ok (ρ c.result)) (Err stop.Deep))) t,
          )
        where
          by : (x : Piece ℕ) (b : Bool) → bit (ρ reach) ≡ b → On ρ x.alive → (Off ρ reach → Off ρ x.alive) → On ρ reach
          by x true e on dead = e
          by x false e on dead = no_bit (bit (ρ x.alive)) on (dead e)

      -- the call, over calls that do at least what the steps' own world says
      pub call_is : (calls : CallMeaning) → CallsCover (Ans w) calls
          → ((x : Value) → W c.call.callee (args_of c) ≡ Some x → x ≡ ρ c.result)
          → unfolded calls (W c.call.callee (args_of c)) (Some f) c.call.callee (args_of c) ≡ Ok (ρ c.result)
      call_is calls covers only =
          let post = holds f.post refl (after (after (after (after k P) X) E) D) D.alive hz ends in
          let both = demanded (after (after (after k P) X) E) X.alive (after (after k P) X) hd post.0 in
          let is = ok_where_alive w f.body (after k P) c.call.args k hx (args_of c) reached (values_at ρ c.call.args)
          (known.body_lasts c f there here) both.0 in
          let same : equal (ρ X.out) (ρ c.result) ≡ true = sym (ap bit h2.steps.0 ∙ bit_truth _) ∙ both.1 in
          let body = extends_ok _ _ _ (expr_covers (Ans w) calls covers f.body None (args_of c)) is
          ∙ ap Ok (equal_same (ρ X.out) (ρ c.result) same) in
          ap (λ p. inside c.call.callee (and_then p (λ v. and_then (held calls f.post (args_of c) v)
          (agreed (W c.call.callee (args_of c)))))) body
          ∙ ap (λ p. inside c.call.callee (and_then p (agreed (W c.call.callee (args_of c))))) (post.1 calls covers)
          ∙ by (W c.call.callee (args_of c)) only
        where
          by : (o : Option Value) → ((x : Value) → o ≡ Some x → x ≡ ρ c.result)
              → inside c.call.callee (agreed o (ρ c.result)) ≡ Ok (ρ c.result)
          by None only = refl
          by (Some x) only =
              ap (λ b. inside c.call.callee (either b (Ok (ρ c.result)) (Err stop.Deep)))
              (ap (λ y. equal y (ρ c.result)) (only x refl) ∙ equal_self (ρ c.result))

    -- ---- all calls

    only_answer : (c : Standing) → Contains calls c → IsDone c → (x : Value) → W c.call.callee (args_of c) ≡ Some x
        → x ≡ ρ c.result
    only_answer c there done x e =
        let d = known.entry c.call.callee (args_of c) x e in
        sym (d.1).value ∙ sym (known.agree c d.0 there (d.1).there done (d.1).done (sym (d.1).callee) (sym (d.1).args))

    none_called : (m : ℕ) (c : Standing) → Contains calls c → IsDone c → c.call.wait < N
        → slice_get functions c.call.callee.0 ≡ None → ⊥
    none_called m c there done early here =
        let t = known.tied c there early in
        let h = subst (λ (o : Option Function). Made t.0 (unfolded_of functions o t.0 c)) here t.1 in
        let on = subst (λ (o : Option Function). On ρ (unfolded_of functions o t.0 c).out) here t.2 in
        let both : bit (ρ t.0) ≡ true =
        ap bit h.steps.0 ∙ bit_truth _ ∙ ap (λ b. b && bit (ρ c.has)) done.reach ∙ done.has in
        no_bit (bit (ρ (suc t.0))) on (ap bit h.steps.1.0 ∙ bit_truth _ ∙ ap not both)

    -- each call that is reached and has an answer is the guess run's
    pub standing_true : (m : ℕ) (c : Standing) → Contains calls c → IsDone c → N - c.call.wait ≡ m
        → called functions W m None c.call.callee None None (args_of c) ≡ Ok (ρ c.result)
    standing_true zero c there done e =
        let u = known.listed c there done (omega (arith, e)) in
        ap or_deep (u.1 ∙ ap Some (only_answer c there done u.0 u.1))
    standing_true (suc m) c there done e =
        by (slice_get functions c.call.callee.0) refl
        (λ frame g pre down args. covers m (omega (arith, e)) (standing_true m) frame g pre down args)
      where
        covers : (m : ℕ) → N - suc c.call.wait ≡ m
            → ((d : Standing) → Contains calls d → IsDone d → N - d.call.wait ≡ m
            → called functions W m None d.call.callee None None (args_of d) ≡ Ok (ρ d.result))
            → CallsCover (Ans (suc c.call.wait)) (called functions W m)
        covers m e less frame g pre down args = by (Ans (suc c.call.wait) frame g pre down args) refl
          where
            by : (p : Part Value) → Ans (suc c.call.wait) frame g pre down args ≡ p
                → Extends p (called functions W m frame g pre down args)
            by (Ok u) is =
                let d = known.own (suc c.call.wait) g args u frame pre down is in
                let r = less d.0 (d.1).there (d.1).done (ap (λ i. N - i) d.2 ∙ e) in
                any m frame g pre down args
                ∙ ap (λ i. called functions W m None i None None args) (sym (d.1).callee)
                ∙ ap (λ vs. called functions W m None d.0.call.callee None None vs) (sym (d.1).args) ∙ r ∙ ap Ok
                (d.1).value
              where
                any : (n : ℕ) (frame : Frame) (g : FunctionId) (pre down : Option CheckId) (args : List Value)
                    → called functions W n frame g pre down args ≡ called functions W n None g None None args
                any zero frame g pre down args = refl
                any (suc n) frame g pre down args = refl
            by (Err s) is = deep (missing.answer (suc c.call.wait) g (params_of (slice_get functions g.0))
                (result_of (slice_get functions g.0)) args) s is
              where
                deep : (o : Option Value) (s : Stop) → or_deep o ≡ Err s
                    → Extends (Err s) (called functions W m frame g pre down args)
                deep None s e = let same : stop.Deep ≡ s = cc in subst (λ z. Extends (Err z)
                    (called functions W m frame g pre down args)) same tt
                deep (Some v) s e = cc

        by : (o : Option Function) → slice_get functions c.call.callee.0 ≡ o
            → CallsCover (Ans (suc c.call.wait)) (called functions W m)
            → unfolded (called functions W m) (W c.call.callee (args_of c)) o c.call.callee (args_of c) ≡ Ok
            (ρ c.result)
        by None here covers = absurd (none_called m c there done (omega (arith, e)) here)
        by (Some f) here covers =
            let t = known.tied c there (omega (arith, e)) in
            call_is c there done f here t.0
            (subst (λ (o : Option Function). Made t.0 (unfolded_of functions o t.0 c)) here t.1)
            (subst (λ (o : Option Function). On ρ (unfolded_of functions o t.0 c).out) here t.2)
            (called functions W m) covers (only_answer c there done)
