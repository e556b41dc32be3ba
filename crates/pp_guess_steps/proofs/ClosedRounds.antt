-- The steps of a guess run satisfy a closed predicate that is true of an open call's steps, where the expressions of
-- its functions satisfy the condition.
use Rattle.std.proofs.Common.{◌≡◌, ℕ, zero, suc, ◌+◌, Bool, true, false, List, [], ◌∷◌, ◌++◌, length, map, Option, Some}
use Rattle.std.proofs.Common.{None, refl, sym, subst}
use Rattle.std.specs.Prelude.{nat_eq, slice_get, if◌then◌else◌}
use Rattle.std.proofs.lemmas.Bool.{eqb-true}
use Rattle.pp_tree.specs.declared.operator.BinaryOp.TheVariants.{Equal}
use Rattle.pp_prog.specs.declared.expr.Expr.{Expr}
use Rattle.pp_prog.specs.declared.expr.Function.{Function}
use Rattle.pp_prog.specs.declared.expr.Pattern.{Pattern}
use Rattle.pp_prog.specs.declared.id.CheckId.{CheckId}
use Rattle.pp_prog.specs.declared.id.FunctionId.{FunctionId}
use Rattle.pp_prog.specs.declared.sort.Sort.{Sort}
use Rattle.pp_prog.specs.declared.sort.Sort.TheVariants as sort
use Rattle.pp_prog.specs.Sorts.{param_sorts}
use Rattle.pp_steps.specs.declared.step.Step.{Step}
use Rattle.pp_steps.specs.declared.step.Step.TheVariants as steps
use Rattle.pp_steps.specs.Compile.{Site, all, compile}
use Rattle.pp_steps.specs.Frames.{Frame, admitting, allowing, any_of, arguments, descending, falling, finishing, lower}
use Rattle.pp_steps.specs.Frames.{measuring, open_step, running, shaped, stopped}
use Rattle.pp_steps.specs.Guesses.{GuessSteps, Standing, agreeing, agreeing_with, all_agreeing, all_unfolded}
use Rattle.pp_steps.specs.Guesses.{answering_alike, asking, calls_before, calls_from, comparing_if, equal_all}
use Rattle.pp_steps.specs.Guesses.{equal_answers, guess_steps, guessing, holding, implying, one_unfolded, own_call}
use Rattle.pp_steps.specs.Guesses.{standing, unfolded_call, unfolded_of, with_agreement}
use Rattle.pp_steps.specs.Patterns.{fitting}
use Rattle.pp_steps.specs.Piece.{after, asks, demand, plain}
use Rattle.pp_steps_run.specs.Told.{AllOf}
use Rattle.pp_guess_steps.proofs.Conditions.{CalledHold, Conditions, FunctionHolds, MaybeOf, PostHolds}
use Rattle.pp_guess_steps.proofs.ClosedExprs.{AllClosed, IsSimpleOf, all_closed, demand_closed, expr_closed, more}

module _ (q : Conditions) (P : List Step → Type 0) (join : (xs ys : List Step) → P xs → P ys → P (xs ++ ys))
    (none : P []) (simple : (s : Step) → IsSimpleOf q s → P (s ∷ [])) where
  pub implying_closed : (k a b : ℕ) → P (implying k a b).steps
  implying_closed k a b =
      more q P join none simple (steps.Not b) _ tt (more q P join none simple (steps.Both a k) _ tt
      (simple (steps.Not (suc k)) tt))

  equal_closed : (k : ℕ) (xs ys : List ℕ) (test : ℕ) → P (equal_all k xs ys test).steps
  equal_closed k [] [] test = none
  equal_closed k [] (y ∷ ys) test = simple (steps.Bool false) tt
  equal_closed k (x ∷ xs) [] test = simple (steps.Bool false) tt
  equal_closed k (x ∷ xs) (y ∷ ys) test =
      join (steps.Binary Equal x y ∷ steps.Both test k ∷ []) _
      (more q P join none simple (steps.Binary Equal x y) _ tt (simple (steps.Both test k) tt))
      (equal_closed (k + 2) xs ys (suc k))

  alike_closed : (b : Bool) (k : ℕ) (c d : Standing) (near : ℕ) → P (answering_alike b k c d near).steps
  alike_closed false k c d near = none
  alike_closed true k c d near =
      join (steps.Binary Equal c.has d.has ∷ []) _ (simple (steps.Binary Equal c.has d.has) tt)
      (join (implying (k + 1) near k).steps _ (implying_closed (k + 1) near k) none)

  answers_closed : (k : ℕ) (c d : Standing) (near : ℕ) → P (equal_answers k c d near).steps
  answers_closed k c d near =
      join (steps.Both near c.has ∷ steps.Both k d.has ∷ steps.Binary Equal c.result d.result ∷ []) _
      (more q P join none simple (steps.Both near c.has) _ tt (more q P join none simple (steps.Both k d.has) _ tt
      (simple (steps.Binary Equal c.result d.result) tt)))
      (join (implying (k + 3) (suc k) (suc (suc k))).steps _ (implying_closed (k + 3) (suc k) (suc (suc k))) none)

  agreeing_closed : (k : ℕ) (c d : Standing) (true_one : ℕ) → P (agreeing k c d true_one).steps
  agreeing_closed k c d true_one =
      let x = equal_all k c.call.args d.call.args true_one in
      let n = after k x in
      let m = n + 2 in
      let y = answering_alike (nat_eq c.call.wait d.call.wait) m c d (suc n) in
      join x.steps _ (equal_closed k c.call.args d.call.args true_one)
      (join (steps.Both x.out c.call.reach ∷ steps.Both n d.call.reach ∷ []) _
      (more q P join none simple (steps.Both x.out c.call.reach) _ tt (simple (steps.Both n d.call.reach) tt))
      (join y.steps _ (alike_closed (nat_eq c.call.wait d.call.wait) m c d (suc n))
      (join (equal_answers (after m y) c d (suc n)).steps _ (answers_closed (after m y) c d (suc n)) none)))

  with_closed : (k : ℕ) (c : Standing) (ds : List Standing) (true_one : ℕ) → P (agreeing_with k c ds true_one).steps
  with_closed k c [] true_one = none
  with_closed k c (d ∷ ds) true_one =
      let x = if nat_eq c.call.callee.0 d.call.callee.0 then agreeing k c d true_one else plain [] [] true_one in
      join x.steps _ (by (nat_eq c.call.callee.0 d.call.callee.0))
      (join (agreeing_with (after k x) c ds true_one).steps _ (with_closed (after k x) c ds true_one) none)
    where
      by : (b : Bool) → P (if b then agreeing k c d true_one else plain [] [] true_one).steps
      by true = agreeing_closed k c d true_one
      by false = none

  pub pairs_closed : (cs : List Standing) (k : ℕ) (olds : List Standing) (true_one : ℕ)
      → P (all_agreeing k olds cs true_one).steps
  pairs_closed [] k olds true_one = none
  pairs_closed (c ∷ cs) k olds true_one =
      let x = agreeing_with k c olds true_one in
      let y = all_agreeing (after k x) (olds ++ c ∷ []) cs true_one in
      join x.steps _ (with_closed k c olds true_one)
      (join y.steps _ (pairs_closed cs (after k x) (olds ++ c ∷ []) true_one) none)

module _ (q : Conditions) (P : List Step → Type 0) (join : (xs ys : List Step) → P xs → P ys → P (xs ++ ys))
    (none : P []) (simple : (s : Step) → IsSimpleOf q s → P (s ∷ []))
    (pats : (p : Pattern) (k t : ℕ) → P (fitting p k t).steps) (functions : List Function)
    (within : CalledHold q functions) (Fit : ℕ → Type 0)
    (left_open : (w : ℕ) → Fit w → (k reach : ℕ) (g : FunctionId) (pre down : Option CheckId) (args : List ℕ)
    → q.Meets g → P (asking functions w k reach g pre down args).steps) where
  -- the calls that stand are of functions that satisfy the condition
  abbrev pub CallsMeet : List Standing → Type 0
  CallsMeet = AllOf (λ c. q.Meets c.call.callee)

  abbrev Closing : Site → Type 0
  Closing site = (k reach : ℕ) (g : FunctionId) (pre down : Option CheckId) (args : List ℕ) → q.Meets g
      → P (site k reach g pre down args).steps

  ends : (b : Bool) (k alive test : ℕ) → P (demand b k alive test).steps
  ends = demand_closed q P join none simple pats

  whole : (asked : Option CheckId) (site : Site) → Closing site → (e : Expr) → q.Holds e
      → (k : ℕ) (env : List ℕ) (reach : ℕ) → P (compile asked site e k env reach).steps
  whole asked site its e holds = expr_closed q P join none simple pats asked site its e holds

  pub holding_closed : (w : ℕ) → Fit w → (o : Option (CheckId × Expr)) → PostHolds q o
      → (k : ℕ) (values : List ℕ) (reach : ℕ) → P (holding (asking functions w) o k values reach).steps
  holding_closed w fit None holds k values reach = none
  holding_closed w fit (Some post) holds k values reach =
      let x = compile None (asking functions w) post.1 k values reach in
      join x.steps _ (whole None (asking functions w) (left_open w fit) post.1 holds k values reach)
      (ends false (after k x) x.alive x.out)

  unfolded_closed : (o : Option Function) → MaybeOf (FunctionHolds q) o → (k : ℕ) (c : Standing)
      → Fit (suc c.call.wait) → P (unfolded_of functions o k c).steps
  unfolded_closed None holds k c fit =
      more q P join none simple (steps.Both c.call.reach c.has) _ tt (simple (steps.Not k) tt)
  unfolded_closed (Some f) holds k c fit =
      let w = suc c.call.wait in
      let x = compile None (asking functions w) f.body (k + 1) c.call.args k in
      let m = after (k + 1) x in
      let d = demand false (m + 1) x.alive m in
      let i = after (m + 1) d in
      let z = holding (asking functions w) f.post i (c.call.args ++ c.result ∷ []) d.alive in
      join (steps.Both c.call.reach c.has ∷ []) _ (simple (steps.Both c.call.reach c.has) tt)
      (join x.steps _ (whole None (asking functions w) (left_open w fit) f.body holds.body (k + 1) c.call.args k)
      (join (steps.Binary Equal x.out c.result ∷ []) _ (simple (steps.Binary Equal x.out c.result) tt)
      (join d.steps _ (ends false (m + 1) x.alive m)
      (join z.steps _ (holding_closed w fit f.post holds.post i (c.call.args ++ c.result ∷ []) d.alive)
      (implying_closed q P join none simple (after i z) k z.alive)))))

  called_hold : (g : FunctionId) → q.Meets g → (o : Option Function) → slice_get functions g.0 ≡ o
      → MaybeOf (FunctionHolds q) o
  called_hold g met None is = tt
  called_hold g met (Some f) is = within g f met is

  one_closed : (b : Bool) (k : ℕ) (c : Standing) → q.Meets c.call.callee → (b ≡ true → Fit (suc c.call.wait)) → P
      (one_unfolded functions b k c).steps
  one_closed false k c met fit = none
  one_closed true k c met fit =
      let o = slice_get functions c.call.callee.0 in
      join (unfolded_call functions k c).steps _
      (unfolded_closed o (called_hold c.call.callee met o refl) k c (fit refl)) none

  pub unfolding_closed : (wait : ℕ) → Fit (suc wait) → (k : ℕ) (cs : List Standing) → CallsMeet cs → P
      (all_unfolded functions wait k cs).steps
  unfolding_closed wait fit k [] met = none
  unfolding_closed wait fit k (c ∷ cs) met =
      let x = one_unfolded functions (nat_eq c.call.wait wait) k c in
      let y = all_unfolded functions wait (after k x) cs in
      join x.steps _ (one_closed (nat_eq c.call.wait wait) k c met.0
      (λ e. subst (λ w. Fit (suc w)) (sym (eqb-true c.call.wait wait e)) fit))
      (join y.steps _ (unfolding_closed wait fit (after k x) cs met.1) none)

  module _ (at_zero : Fit 0) (at_one : Fit 1) (bools : q.Opens sort.Bool) where
    measure_closed : (asked : Option CheckId) (site : Site) → Closing site → (es : List Expr) → AllOf q.Holds es
        → (k : ℕ) (args : List ℕ) (reach : ℕ) → P (measuring asked site es k args reach).steps
    measure_closed asked site its [] holds k args reach = none
    measure_closed asked site its (e ∷ es) holds k args reach =
        join (all (map (compile asked site) (e ∷ es)) k args reach).steps []
        (all_closed q P join none simple pats (map (compile asked site) (e ∷ es)) (each (e ∷ es) holds) [] k args reach)
        none
      where
        each : (es : List Expr) → AllOf q.Holds es → AllClosed q P join none simple pats (map (compile asked site) es)
        each [] h = tt
        each (e ∷ es) h = (whole asked site its e h.0, each es h.1)

    falling_closed : (new old : List ℕ) (k alive : ℕ) → P (falling new old k alive).steps
    falling_closed [] old k alive = simple (steps.Bool false) tt
    falling_closed (x ∷ xs) [] k alive = simple (steps.Bool false) tt
    falling_closed (x ∷ []) (y ∷ ys) k alive = simple (steps.GoesDown x y) tt
    falling_closed (x ∷ z ∷ xs) (y ∷ ys) k alive =
        let rest = falling (z ∷ xs) ys (k + 2) alive in
        let m = (k + 2) + length rest.steps in
        join (steps.GoesDown x y ∷ steps.Binary Equal x y ∷ []) _
        (more q P join none simple (steps.GoesDown x y) _ tt (simple (steps.Binary Equal x y) tt))
        (join rest.steps _ (falling_closed (z ∷ xs) ys (k + 2) alive)
        (more q P join none simple (steps.Both (suc k) rest.out) _ tt (simple (steps.Choose k k m) tt)))

    shaped_closed : (new old : List ℕ) (k test alive : ℕ) → P (shaped new old k test alive).steps
    shaped_closed [] [] k test alive = none
    shaped_closed [] (y ∷ ys) k test alive = simple (steps.Bool false) tt
    shaped_closed (x ∷ xs) [] k test alive = simple (steps.Bool false) tt
    shaped_closed (x ∷ xs) (y ∷ ys) k test alive =
        join (steps.IsAlike x y ∷ steps.Both test k ∷ []) _
        (more q P join none simple (steps.IsAlike x y) _ tt (simple (steps.Both test k) tt))
        (shaped_closed xs ys (k + 2) (suc k) alive)

    descending_closed : (asked check : Option CheckId) (old new : Frame) (k alive : ℕ)
        → P (descending asked check old new k alive).steps
    descending_closed asked None old new k alive = none
    descending_closed asked (Some c) None new k alive = none
    descending_closed asked (Some c) (Some old) None k alive = none
    descending_closed asked (Some c) (Some old) (Some new) k alive =
        let x = falling new old k alive in
        let p = lower new old k alive in
        join p.steps _ (join x.steps _ (falling_closed new old k alive) (shaped_closed new old (after k x) x.out alive))
        (ends (asks asked (Some c)) (after k p) p.alive p.out)

    stopped_closed : (k : ℕ) → P (stopped None k).steps
    stopped_closed k = more q P join none simple (steps.Open sort.Bool) _ bools (simple (steps.Bool false) tt)

    admitting_closed : (asked : Option CheckId) (site : Site) → Closing site → (o : Option Expr) → MaybeOf q.Holds o
        → (check : Option CheckId) (k : ℕ) (args : List ℕ) (reach : ℕ)
        → P (admitting asked site o check k args reach).steps
    admitting_closed asked site its None holds check k args reach = none
    admitting_closed asked site its (Some pre) holds check k args reach =
        let x = compile None site pre k args reach in
        join x.steps _ (whole None site its pre holds k args reach) (ends (asks asked check) (after k x) x.alive x.out)

    comparing_closed : (b : Bool) (asked : Option CheckId) (site : Site) → Closing site → (frame : Frame)
        (es : List Expr) → AllOf q.Holds es → (check : Option CheckId) (k : ℕ) (args : List ℕ) (reach : ℕ)
        → P (comparing_if b asked site frame es check k args reach).steps
    comparing_closed false asked site its frame es holds check k args reach = none
    comparing_closed true asked site its frame es holds check k args reach =
        let x = measuring None site es k args reach in
        join x.steps _ (measure_closed None site its es holds k args reach)
        (descending_closed asked check frame x.out (after k x) x.alive)

    own_closed : (asked : Option CheckId) (frame : Frame) (o : Option Function) → MaybeOf (FunctionHolds q) o
        → Closing (own_call functions asked frame o)
    own_closed asked frame None holds k reach g pre down args met = stopped_closed k
    own_closed asked frame (Some f) holds k reach g pre down args met =
        let site = asking functions 1 in
        let x = admitting asked site f.pre pre k args reach in
        let n = after k x in
        let y = comparing_if (asks asked down) asked site frame f.measure down n args x.alive in
        join x.steps _ (admitting_closed asked site (left_open 1 at_one) f.pre holds.pre pre k args reach)
        (join y.steps _ (comparing_closed (asks asked down) asked site (left_open 1 at_one) frame f.measure
        holds.measure down n args x.alive) (left_open 0 at_zero (after n y) y.alive g pre down args met))

    frame_closed : (asked : Option CheckId) (frame : Frame) → Closing (guessing functions asked frame)
    frame_closed asked frame k reach g pre down args met =
        let o = slice_get functions g.0 in
        own_closed asked frame o (called_hold g met o refl) k reach g pre down args met

    -- ---- the run

    module _ (asked : Option CheckId) where
      abbrev Own : Frame → Site
      Own = guessing functions asked

      finishing_closed : (frame : Frame) (o : Option (CheckId × Expr)) → PostHolds q o
          → (k : ℕ) (values : List ℕ) (reach : ℕ) → P (finishing asked (Own frame) o k values reach).steps
      finishing_closed frame None holds k values reach = none
      finishing_closed frame (Some post) holds k values reach =
          let x = compile asked (Own frame) post.1 k values reach in
          join x.steps _ (whole asked (Own frame) (frame_closed asked frame) post.1 holds k values reach)
          (ends (asks asked (Some post.0)) (after k x) x.alive x.out)

      allowing_closed : (o : Option Expr) → MaybeOf q.Holds o → (k : ℕ) (args : List ℕ) (reach : ℕ)
          → P (allowing asked (Own None) o k args reach).steps
      allowing_closed None holds k args reach = none
      allowing_closed (Some pre) holds k args reach =
          let x = compile asked (Own None) pre k args reach in
          join x.steps _ (whole asked (Own None) (frame_closed asked None) pre holds k args reach)
          (ends false (after k x) x.alive x.out)

      pub running_closed : (f : Function) → FunctionHolds q f → (k : ℕ) (args : List ℕ) (reach : ℕ)
          → P (running Own asked f k args reach).steps
      running_closed f holds k args reach =
          let p = allowing asked (Own None) f.pre k args reach in
          let i = after k p in
          let x = measuring asked (Own None) f.measure i args p.alive in
          let n = after i x in
          let y = compile asked (Own x.out) f.body n args x.alive in
          join p.steps _ (allowing_closed f.pre holds.pre k args reach)
          (join x.steps _ (measure_closed asked (Own None) (frame_closed asked None) f.measure holds.measure i args
          p.alive)
          (join y.steps _ (whole asked (Own x.out) (frame_closed asked x.out) f.body holds.body n args x.alive)
          (finishing_closed x.out f.post holds.post (after n y) (args ++ y.out ∷ []) y.alive)))

    any_closed : (ks : List ℕ) (k alive : ℕ) → P (any_of ks k alive).steps
    any_closed [] k alive = simple (steps.Bool false) tt
    any_closed (x ∷ []) k alive = none
    any_closed (x ∷ y ∷ ks) k alive =
        let z = any_of (y ∷ ks) k alive in
        join z.steps _ (any_closed (y ∷ ks) k alive) (simple (steps.Choose x x z.out) tt)

    opens_closed : (ss : List Sort) → AllOf q.Opens ss → P (map open_step ss)
    opens_closed [] h = none
    opens_closed (s ∷ ss) h = more q P join none simple (steps.Open s) _ h.0 (opens_closed ss h.1)

    -- ---- rounds

    agreement_closed : (n : ℕ) (g : GuessSteps) → P g.steps → P (with_agreement n g).steps
    agreement_closed n g h =
        join g.steps _ h (pairs_closed q P join none simple (calls_from n (standing 0 g.steps)) (length g.steps)
        (calls_before n (standing 0 g.steps)) g.true_one)

    module _ (f : Function) (holds : FunctionHolds q f) (params : AllOf q.Opens (param_sorts f.params)) where
      pub base_closed : (c : CheckId) → let a = arguments (param_sorts f.params) in
          let n = after 0 a in
          let r = running (guessing functions (Some c)) (Some c) f n a.out a.alive in
          P (a.steps ++ (r.steps ++ (any_of r.fails (after n r) a.alive).steps))
      base_closed c =
          let a = arguments (param_sorts f.params) in
          let n = after 0 a in
          let r = running (guessing functions (Some c)) (Some c) f n a.out a.alive in
          join a.steps _ (join (map open_step (param_sorts f.params)) _ (opens_closed (param_sorts f.params) params)
          (simple (steps.Bool true) tt))
          (join r.steps _ (running_closed (Some c) f holds n a.out a.alive) (any_closed r.fails (after n r) a.alive))

      -- the steps of each round
      pub guess_closed : ((w : ℕ) → Fit w) → ((k : ℕ) (ss : List Step) → P ss → CallsMeet (standing k ss))
          → (c : CheckId) (n : ℕ) → P (guess_steps functions f c n).steps
      guess_closed all stands c zero =
          let a = arguments (param_sorts f.params) in
          let n = after 0 a in
          let r = running (guessing functions (Some c)) (Some c) f n a.out a.alive in
          agreement_closed 0 (record {
            steps = a.steps ++ (r.steps ++ (any_of r.fails (after n r) a.alive).steps);
            arguments = a.out;
            fails = (any_of r.fails (after n r) a.alive).out;
            true_one = a.alive;
            supposed = [];
          }) (base_closed c)
      guess_closed all stands c (suc n) =
          let g = guess_steps functions f c n in
          let x = all_unfolded functions n (length g.steps) (standing 0 g.steps) in
          let before = guess_closed all stands c n in
          agreement_closed (length g.steps) (record {
            steps = g.steps ++ x.steps;
            arguments = g.arguments;
            fails = g.fails;
            true_one = g.true_one;
            supposed = g.supposed ++ x.out;
          }) (join g.steps _ before
          (unfolding_closed n (all (suc n)) (length g.steps) (standing 0 g.steps) (stands 0 g.steps before)))
