-- What a call and a run reach is known.
use Rattle.std.proofs.Common.{ℕ, zero, suc, Bool, false, List, [], ◌∷◌, ◌++◌, map, Option, Some, None, sym, ◌∙◌}
use Rattle.std.specs.Prelude.{All, slice_get}
use Rattle.std.proofs.lemmas.Bool.{false≢true}
use Rattle.std.proofs.lemmas.List.Elements.{All-head, All-nil, All-tail}
use Rattle.pp_prog.specs.declared.expr.Expr.{Expr}
use Rattle.pp_prog.specs.declared.expr.Function.{Function}
use Rattle.pp_prog.specs.declared.id.CheckId.{CheckId}
use Rattle.pp_prog.specs.declared.types.Ctor.{Ctor}
use Rattle.pp_steps.specs.declared.step.Step.TheVariants as steps
use Rattle.pp_steps.specs.Compile.{Site, all, compile}
use Rattle.pp_steps.specs.Frames.{Frame, admitting, allowing, any_of, descending, entering, finishing, inlined}
use Rattle.pp_steps.specs.Frames.{measuring, running, starting, stopped}
use Rattle.pp_steps.specs.Meaning.{Missing, Values}
use Rattle.pp_steps.specs.Piece.{Piece, after, asks, demand, joined, plain}
use Rattle.pp_steps_run.specs.Told.{On}
use Rattle.pp_steps_known.proofs.Given.{IsEndKnown, IsGiven, IsKnown, bit_is, demand_known, end_known, given_left}
use Rattle.pp_steps_known.proofs.Given.{given_right, known_joined, known_plain}
use Rattle.pp_steps_known.proofs.Forms.{IsScope, SiteKnows, all_known, scope_on, scope_push}
use Rattle.pp_steps_known.proofs.Exprs.{expr_knows, exprs_know}
use Rattle.pp_steps_known.proofs.Measures.{IsFrameKnown, descending_known}

module _ (ctors : List Ctor) (missing : Missing) (ρ : Values) (K : ℕ → Type 0) (first : K 0) where
  abbrev Given : {A : Type 0} → ℕ → Piece A → Type 0
  Given k x = IsGiven ρ K ctors missing k x.steps

  -- an expression, and then a demand of its outcome
  module _ {C : Type 0} (asked : Option CheckId) (site : Site) (its : SiteKnows ctors missing ρ K C site) (e : Expr)
      (k : ℕ) (env : List ℕ) (reach : ℕ) where
    abbrev X : Piece ℕ
    X = compile asked site e k env reach

    demanded : (b : Bool) → let d = demand b (after k X) X.alive X.out in Given k (joined X d)
        → IsScope ρ K C env reach → IsEndKnown ρ K reach (joined X d)
    demanded b h scope =
        let d = demand b (after k X) X.alive X.out in
        let hx = expr_knows ctors missing ρ K first C asked site its e k env reach
        (given_left k X.steps d.steps h) scope in
        let hd = demand_known b (after k X) X.alive X.out (given_right k X.steps d.steps h) hx.alive hx.out in
        end_known (joined X d) (known_joined X d hx hd)

  nothing_known : (reach : ℕ) → K reach → IsEndKnown ρ K reach (plain [] reach reach)
  nothing_known reach h = known_plain [] reach reach h (λ on. tt)

  measuring_known : {C : Type 0} (asked : Option CheckId) (site : Site) → SiteKnows ctors missing ρ K C site
      → (es : List Expr) (k : ℕ) (args : List ℕ) (reach : ℕ)
      → Given k (measuring asked site es k args reach) → IsScope ρ K C args reach
      → IsKnown ρ K (IsFrameKnown K) reach (measuring asked site es k args reach)
  measuring_known asked site its [] k args reach h scope = known_plain [] None reach scope.known (λ on. tt)
  measuring_known {C = C} asked site its (e ∷ es) k args reach h scope =
      let ms = map (compile asked site) (e ∷ es) in
      let x = all ms k args reach in
      let hx = all_known ctors missing ρ K C ms (exprs_know ctors missing ρ K first C asked site its (e ∷ es)) k args
      reach (given_left k x.steps [] h) scope in
      known_joined x (plain [] (Some x.out) x.alive) hx (known_plain [] (Some x.out) x.alive hx.alive hx.out)

  -- ---- calls

  stopped_known : (o : Option Function) (k reach : ℕ) → Given k (stopped o k) → IsKnown ρ K K reach (stopped o k)
  stopped_known o k reach h = record {
    alive = h.tells.1.0;
    fails = All-nil K;
    reached = λ on. absurd (never on);
    out = λ on. absurd (never on);
  }
    where
      never : On ρ (suc k) → ⊥
      never on = false≢true (sym (bit_is _ false h.obeys.1.0) ∙ on)

  admitting_known : (asked : Option CheckId) (site : Site) → SiteKnows ctors missing ρ K (Unit {0}) site
      → (o : Option Expr) (check : Option CheckId) (k : ℕ) (args : List ℕ) (reach : ℕ)
      → Given k (admitting asked site o check k args reach) → IsScope ρ K (Unit {0}) args reach
      → IsEndKnown ρ K reach (admitting asked site o check k args reach)
  admitting_known asked site its None check k args reach h scope = nothing_known reach scope.known
  admitting_known asked site its (Some pre) check k args reach h scope =
      demanded None site its pre k args reach (asks asked check) h scope

  -- what calls reach is known, whatever is asked, in each frame whose measure values are known
  abbrev pub AllSitesKnow : (Option CheckId → Frame → Site) → Type 0
  AllSitesKnow sites = (asked : Option CheckId) (frame : Frame)
      → SiteKnows ctors missing ρ K (IsFrameKnown K frame) (sites asked frame)

  entering_known : (sites : Option CheckId → Frame → Site) → AllSitesKnow sites
      → (asked : Option CheckId) (frame : Frame) (o : Option Function) (k reach : ℕ) (pre down : Option CheckId)
      (args : List ℕ) → Given k (entering (sites None) asked frame o k reach pre down args)
      → IsScope ρ K (IsFrameKnown K frame) args reach
      → IsKnown ρ K K reach (entering (sites None) asked frame o k reach pre down args)
  entering_known sites its asked frame None k reach pre down args h scope = stopped_known None k reach h
  entering_known sites its asked frame (Some f) k reach pre down args h scope =
      let x = admitting asked (sites None None) f.pre pre k args reach in
      let n = after k x in
      let y = measuring None (sites None None) f.measure n args x.alive in
      let m = after n y in
      let z = descending asked down frame y.out m y.alive in
      let l = after m z in
      let w = compile None (sites None y.out) f.body l args z.alive in
      let hyzw = given_right k x.steps (y.steps ++ (z.steps ++ w.steps)) h in
      let hzw = given_right n y.steps (z.steps ++ w.steps) hyzw in
      let bare : IsScope ρ K (Unit {0}) args reach =
      record { known = scope.known; variables = scope.variables; frame = λ on. tt } in
      let hx = admitting_known asked (sites None None) (its None None) f.pre pre k args reach
      (given_left k x.steps (y.steps ++ (z.steps ++ w.steps)) h) bare in
      let hy = measuring_known None (sites None None) (its None None) f.measure n args x.alive
      (given_left n y.steps (z.steps ++ w.steps) hyzw) (scope_on x.alive hx.alive hx.reached bare) in
      let back = λ (on : On ρ y.alive). hx.reached (hy.reached on) in
      let hz = descending_known ctors missing ρ K asked down frame y.out m y.alive (given_left m z.steps w.steps hzw)
      hy.alive (λ on. scope.frame (back on)) hy.out in
      let hw = expr_knows ctors missing ρ K first (IsFrameKnown K y.out) None (sites None y.out) (its None y.out)
      f.body l args z.alive (given_right m z.steps w.steps hzw)
      (record {
        known = hz.alive;
        variables = λ on. scope.variables (back (hz.reached on));
        frame = λ on. hy.out (hz.reached on);
      }) in
      known_joined x (joined y (joined z w)) hx (known_joined y (joined z w) hy (known_joined z w hz hw))

  pub inlined_know : (functions : List Function) (n : ℕ) → AllSitesKnow (inlined functions n)
  inlined_know functions zero asked frame k reach g pre down args h scope =
      stopped_known (slice_get functions g.0) k reach h
  inlined_know functions (suc n) asked frame k reach g pre down args h scope =
      entering_known (inlined functions n) (inlined_know functions n) asked frame (slice_get functions g.0) k reach pre
      down args h scope

  -- ---- the run

  module _ (sites : Option CheckId → Frame → Site) (its : AllSitesKnow sites) (asked : Option CheckId) where
    finishing_known : (frame : Frame) (o : Option (CheckId × Expr)) (k : ℕ) (values : List ℕ) (reach : ℕ)
        → Given k (finishing asked (sites asked frame) o k values reach)
        → IsScope ρ K (IsFrameKnown K frame) values reach
        → IsEndKnown ρ K reach (finishing asked (sites asked frame) o k values reach)
    finishing_known frame None k values reach h scope = nothing_known reach scope.known
    finishing_known frame (Some post) k values reach h scope =
        demanded asked (sites asked frame) (its asked frame) post.1 k values reach (asks asked (Some post.0)) h scope

    allowing_known : (o : Option Expr) (k : ℕ) (args : List ℕ) (reach : ℕ)
        → Given k (allowing asked (sites asked None) o k args reach) → IsScope ρ K (Unit {0}) args reach
        → IsEndKnown ρ K reach (allowing asked (sites asked None) o k args reach)
    allowing_known None k args reach h scope = nothing_known reach scope.known
    allowing_known (Some pre) k args reach h scope =
        demanded asked (sites asked None) (its asked None) pre k args reach false h scope

    starting_known : (f : Function) (k : ℕ) (args : List ℕ) (reach : ℕ)
        → Given k (starting (sites asked) asked f k args reach) → IsScope ρ K (Unit {0}) args reach
        → IsEndKnown ρ K reach (starting (sites asked) asked f k args reach)
    starting_known f k args reach h scope =
        let x = measuring asked (sites asked None) f.measure k args reach in
        let n = after k x in
        let y = compile asked (sites asked x.out) f.body n args x.alive in
        let m = after n y in
        let z = finishing asked (sites asked x.out) f.post m (args ++ y.out ∷ []) y.alive in
        let hyz = given_right k x.steps (y.steps ++ z.steps) h in
        let hx = measuring_known asked (sites asked None) (its asked None) f.measure k args reach
        (given_left k x.steps (y.steps ++ z.steps) h) scope in
        let inside : IsScope ρ K (IsFrameKnown K x.out) args x.alive =
        record { known = hx.alive; variables = λ on. scope.variables (hx.reached on); frame = hx.out } in
        let hy = expr_knows ctors missing ρ K first (IsFrameKnown K x.out) asked (sites asked x.out)
        (its asked x.out) f.body n args x.alive (given_left n y.steps z.steps hyz) inside in
        let hz = finishing_known x.out f.post m (args ++ y.out ∷ []) y.alive (given_right n y.steps z.steps hyz)
        (scope_push y.out hy.out (scope_on y.alive hy.alive hy.reached inside)) in
        known_joined x (joined y z) hx (known_joined y z hy hz)

    pub running_known : (f : Function) (k : ℕ) (args : List ℕ) (reach : ℕ)
        → Given k (running (sites asked) asked f k args reach) → IsScope ρ K (Unit {0}) args reach
        → IsEndKnown ρ K reach (running (sites asked) asked f k args reach)
    running_known f k args reach h scope =
        let x = allowing asked (sites asked None) f.pre k args reach in
        let y = starting (sites asked) asked f (after k x) args x.alive in
        let hx = allowing_known f.pre k args reach (given_left k x.steps y.steps h) scope in
        known_joined x y hx (starting_known f (after k x) args x.alive (given_right k x.steps y.steps h)
        (scope_on x.alive hx.alive hx.reached scope))

  -- whether one of the numbers is true is known, where they are
  pub any_known : (ks : List ℕ) (k alive : ℕ) → Given k (any_of ks k alive) → All K ks → K (any_of ks k alive).out
  any_known [] k alive h all = h.tells.0
  any_known (x ∷ []) k alive h all = All-head K x [] all
  any_known (x ∷ y ∷ ks) k alive h all =
      let z = any_of (y ∷ ks) k alive in
      let s = steps.Choose x x z.out ∷ [] in
      let hx = All-head K x (y ∷ ks) all in
      (given_right k z.steps s h).tells.0 hx (λ on. hx)
      (λ off. any_known (y ∷ ks) k alive (given_left k z.steps s h) (All-tail K x (y ∷ ks) all))
