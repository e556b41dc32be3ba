-- The steps of expressions, of calls and of a run look at earlier ones alone.
use Rattle.std.proofs.Common.{ℕ, zero, suc, ◌+◌, ◌<◌, ◌≤◌, false, List, [], ◌∷◌, ◌++◌, length, map, Option, Some, None}
use Rattle.std.proofs.Common.{sym, subst, arith}
use Rattle.std.specs.Prelude.{slice_get}
use Rattle.pp_list.proofs.With.{With, elements}
use Rattle.pp_prog.proofs.Induction.{case_under, each_expr, under}
use Rattle.pp_tree.specs.declared.operator.BinaryOp.TheVariants.{Equal}
use Rattle.pp_prog.specs.declared.expr.Case.{Case}
use Rattle.pp_prog.specs.declared.expr.Expr.{Expr}
use Rattle.pp_prog.specs.declared.expr.Expr.TheFolds.{fold-roll-Case, fold-roll-Expr, map-Case, map-Expr}
use Rattle.pp_prog.specs.declared.expr.Expr.TheOpen as layer
use Rattle.pp_prog.specs.declared.expr.Expr.TheViews.{roll-Case, roll-Expr}
use Rattle.pp_prog.specs.declared.expr.Function.{Function}
use Rattle.pp_prog.specs.declared.expr.Pattern.{Pattern}
use Rattle.pp_prog.specs.declared.id.CheckId.{CheckId}
use Rattle.pp_steps.proofs.Counting.{first_two, less_suc, plus_zero, self_less}
use Rattle.pp_steps.specs.declared.step.Step.TheVariants as steps
use Rattle.pp_steps.specs.Compile.{Arm, Compiling, Site, all, arm, arm_step, compile, compile_step, one}
use Rattle.pp_steps.specs.Frames.{Frame, admitting, allowing, any_of, descending, entering, falling, finishing}
use Rattle.pp_steps.specs.Frames.{inlined, lower, measuring, running, shaped, starting, stopped}
use Rattle.pp_steps.specs.Piece.{Piece, after, asks, demand, joined, plain}
use Rattle.pp_steps.specs.Reads.{Below}
use Rattle.pp_steps_exist.proofs.Forms.{Scope, AllStay, SiteStays, Stays, all_within, assert_stays, below_end}
use Rattle.pp_steps_exist.proofs.Forms.{below_more, binary_stays, call_stays, construct_stays, if_stays, map_stays}
use Rattle.pp_steps_exist.proofs.Forms.{val_stays, variable_below}
use Rattle.pp_steps_exist.proofs.Matches.{AllArms, ArmStays, match_stays}
use Rattle.pp_steps_exist.proofs.Within.{IsWithin, LessOne, at_most, below_later, demand_within, joined_within}
use Rattle.pp_steps_exist.proofs.Within.{one_within, plain_within, up}

end_one : (k : ℕ) → k < k + 1
end_one k = omega arith

-- ---- expressions

module _ (base : ℕ) (asked : Option CheckId) (site : Site) (its : SiteStays base site) where
  abbrev P : Expr → Type 0
  P e = Stays base (compile asked site e)

  abbrev Q : Case → Type 0
  Q k = ArmStays base (arm asked site k)

  all_stay : (ys : List (With P)) → AllStay base (map (compile asked site) (elements ys))
  all_stay [] = tt
  all_stay (y ∷ ys) = (y.1, all_stay ys)

  arms_stay : (ys : List (With Q)) → AllArms base (map (arm asked site) (elements ys))
  arms_stay [] = tt
  arms_stay (y ∷ ys) = (y.1, arms_stay ys)

  level : (y : layer.Expr-F (With P) (With Q))
      → Stays base (compile_step asked site
      (map-Expr Expr Case Compiling Arm (compile asked site) (arm asked site) (under y)))
  level (layer.Int n) k env reach e r = one_within (steps.Int n) k reach tt r
  level (layer.Bool b) k env reach e r = one_within (steps.Bool b) k reach tt r
  level (layer.Var i) k env reach e r =
      plain_within {R = LessOne} k [] _ reach tt (up _ k 0 (variable_below k env i reach e.1 r)) r
  level (layer.Unary op a) k env reach e r =
      map_stays base (compile asked site a.0) (λ x. steps.Unary op x) a.1 (λ n x h. h) k env reach e r
  level (layer.Binary op a b check) k env reach e r =
      binary_stays base asked op check (compile asked site a.0) (compile asked site b.0) a.1 b.1 k env reach e r
  level (layer.Construct c args) k env reach e r =
      construct_stays base (map (compile asked site) (elements args)) (all_stay args) c k env reach e r
  level (layer.Field x i) k env reach e r =
      map_stays base (compile asked site x.0) (λ a. steps.Field a i) x.1 (λ n a h. h) k env reach e r
  level (layer.If t a b) k env reach e r = if_stays base (compile asked site t.0) (compile asked site a.0)
      (compile asked site b.0) t.1 a.1 b.1 k env reach e r
  level (layer.Match x ys check) k env reach e r = match_stays base asked (compile asked site x.0) x.1
      (map (arm asked site) (elements ys)) (arms_stay ys) check k env reach e r
  level (layer.Val a b) k env reach e r =
      val_stays base (compile asked site a.0) (compile asked site b.0) a.1 b.1 k env reach e r
  level (layer.Assert check t rest) k env reach e r = assert_stays base asked (Some check) (compile asked site t.0)
      (compile asked site rest.0) t.1 rest.1 k env reach e r
  level (layer.Call g args pre down) k env reach e r = call_stays base
      (map (compile asked site) (elements args)) (all_stay args) site its g pre down k env reach e r

  at_level : (y : layer.Expr-F (With P) (With Q)) → P (roll-Expr (under y))
  at_level y = subst (λ (m : Compiling). Stays base m)
      (sym (fold-roll-Expr Compiling Arm (compile_step asked site) arm_step (under y))) (level y)

  at_parts : (p : Pattern) (o : Option (With P)) (b : With P) → let y : layer.Case-F (With P) (With Q) =
      record { pattern = p; guard = o; body = b } in
      let z = case_under Q y in
      ArmStays base (arm_step (map-Case Expr Case Compiling Arm (compile asked site) (arm asked site) z))
  at_parts p None b = record { guard = tt; body = b.1 }
  at_parts p (Some e) b = record { guard = e.1; body = b.1 }

  at_case : (y : layer.Case-F (With P) (With Q)) → Q (roll-Case (case_under Q y))
  at_case y =
      let z = case_under Q y in
      subst (λ (k : Arm). ArmStays base k) (sym (fold-roll-Case Compiling Arm (compile_step asked site) arm_step z))
      (at_parts y.pattern y.guard y.body)

  pub expr_stays : (e : Expr) → Stays base (compile asked site e)
  expr_stays = each_expr P Q at_level at_case

  list_stays : (es : List Expr) → AllStay base (map (compile asked site) es)
  list_stays [] = tt
  list_stays (e ∷ es) = (expr_stays e, list_stays es)

  abbrev pub LessFrame : ℕ → Frame → Type 0
  LessFrame k None = Unit {0}
  LessFrame k (Some ns) = Below k ns

  pub measuring_within : (es : List Expr) (k : ℕ) (args : List ℕ) (reach : ℕ) → Scope base k args → reach < k
      → IsWithin LessFrame k (measuring asked site es k args reach)
  measuring_within [] k args reach e r = plain_within {R = LessFrame} k [] None reach tt tt r
  measuring_within (x ∷ xs) k args reach e r =
      let y = all (map (compile asked site) (x ∷ xs)) k args reach in
      let w = all_within base (map (compile asked site) (x ∷ xs)) (list_stays (x ∷ xs)) [] k args reach tt e r in
      joined_within k y (plain [] (Some y.out) y.alive) w
      (plain_within {R = LessFrame} (after k y) [] (Some y.out) y.alive tt
      (subst (λ n. Below n y.out) (sym (plus_zero (after k y))) w.out) w.alive)

-- ---- measures

abbrev pub Frames : ℕ → Frame → Type 0
Frames k None = Unit {0}
Frames k (Some ns) = Below k ns

end_two : (k : ℕ) → suc k < k + 2
end_two k = omega arith

falling_within : (new old : List ℕ) (k alive : ℕ) → Below k new → Below k old → alive < k
    → IsWithin LessOne k (falling new old k alive)
falling_within [] old k alive n o a = one_within (steps.Bool false) k alive tt a
falling_within (x ∷ xs) [] k alive n o a = one_within (steps.Bool false) k alive tt a
falling_within (x ∷ []) (y ∷ ys) k alive n o a = one_within (steps.GoesDown x y) k alive (n.0, o.0) a
falling_within (x ∷ z ∷ xs) (y ∷ ys) k alive n o a =
    let p : Piece ℕ = plain (steps.GoesDown x y ∷ steps.Binary Equal x y ∷ []) k alive in
    let i = after k p in
    let q = falling (z ∷ xs) ys i alive in
    let j = after i q in
    let l : Piece ℕ = plain (steps.Both (suc k) q.out ∷ steps.Choose k k j ∷ []) (suc j) alive in
    let hp = plain_within {R = LessOne} k p.steps k alive ((n.0, o.0), ((less_suc x k n.0, less_suc y k o.0), tt))
    (first_two k) a in
    let hq = falling_within (z ∷ xs) ys i alive (below_end k 2 (z ∷ xs) n.1) (below_end k 2 ys o.1) (up alive k 2 a) in
    let kj = up k i (length q.steps) (first_two k) in
    joined_within k p (joined q l) hp (joined_within i q l hq
    (plain_within {R = LessOne} j l.steps (suc j) alive
    ((up (suc k) i (length q.steps) (end_two k), hq.out), ((less_suc k j kj, less_suc k j kj, self_less j), tt))
    (end_two j) (up alive i (length q.steps) (up alive k 2 a))))

shaped_within : (new old : List ℕ) (k test alive : ℕ) → Below k new → Below k old → test < k → alive < k
    → IsWithin LessOne k (shaped new old k test alive)
shaped_within [] [] k test alive n o t a = plain_within {R = LessOne} k [] test alive tt (up test k 0 t) a
shaped_within [] (y ∷ ys) k test alive n o t a = one_within (steps.Bool false) k alive tt a
shaped_within (x ∷ xs) [] k test alive n o t a = one_within (steps.Bool false) k alive tt a
shaped_within (x ∷ xs) (y ∷ ys) k test alive n o t a =
    let p : Piece ℕ = plain (steps.IsAlike x y ∷ steps.Both test k ∷ []) (suc k) alive in
    let hp = plain_within {R = LessOne} k p.steps (suc k) alive ((n.0, o.0), ((less_suc test k t, self_less k), tt))
    (end_two k) a in
    joined_within k p (shaped xs ys (after k p) (suc k) alive) hp
    (shaped_within xs ys (after k p) (suc k) alive (below_end k 2 xs n.1) (below_end k 2 ys o.1) hp.out
    (up alive k 2 a))

lower_within : (new old : List ℕ) (k alive : ℕ) → Below k new → Below k old → alive < k
    → IsWithin LessOne k (lower new old k alive)
lower_within new old k alive n o a =
    let p = falling new old k alive in
    let hp = falling_within new old k alive n o a in
    joined_within k p (shaped new old (after k p) p.out alive) hp
    (shaped_within new old (after k p) p.out alive (below_end k (length p.steps) new n)
    (below_end k (length p.steps) old o) hp.out (up alive k (length p.steps) a))

pub descending_within : (asked check : Option CheckId) (old new : Frame) (k alive : ℕ) → Frames k old → Frames k new
    → alive < k → IsWithin LessOne k (descending asked check old new k alive)
descending_within asked None old new k alive o n a = plain_within {R = LessOne} k [] alive alive tt (up alive k 0 a) a
descending_within asked (Some c) None new k alive o n a =
    plain_within {R = LessOne} k [] alive alive tt (up alive k 0 a) a
descending_within asked (Some c) (Some old) None k alive o n a =
    plain_within {R = LessOne} k [] alive alive tt (up alive k 0 a) a
descending_within asked (Some c) (Some old) (Some new) k alive o n a =
    let p = lower new old k alive in
    let hp = lower_within new old k alive n o a in
    joined_within k p (demand (asks asked (Some c)) (after k p) p.alive p.out) hp
    (demand_within (asks asked (Some c)) (after k p) p.alive p.out hp.alive hp.out)

-- ---- calls

pub frame_later : (a b : ℕ) (frame : Frame) → a ≤ b → Frames a frame → Frames b frame
frame_later a b None le h = tt
frame_later a b (Some ns) le h = below_later a b ns le h

pub stopped_within : (o : Option Function) (k : ℕ) → IsWithin LessOne k (stopped o k)
stopped_within o k = record { reads = (tt, (tt, tt)); out = first_two k; alive = end_two k; fails = tt }

pub le_self : (k : ℕ) → k ≤ k
le_self k = omega arith

pub le_up : (a b n : ℕ) → a ≤ b → a ≤ b + n
le_up a b n h = omega arith

pub admitting_within : (asked : Option CheckId) (site : Site) → ((base : ℕ) → SiteStays base site)
    → (o : Option Expr) (check : Option CheckId) (k : ℕ) (args : List ℕ) (reach : ℕ) → Below k args → reach < k
    → IsWithin LessOne k (admitting asked site o check k args reach)
admitting_within asked site its None check k args reach a r =
    plain_within {R = LessOne} k [] reach reach tt (up reach k 0 r) r
admitting_within asked site its (Some pre) check k args reach a r =
    let x = compile None site pre k args reach in
    let hx = expr_stays k None site (its k) pre k args reach (le_self k, a) r in
    joined_within k x (demand (asks asked check) (after k x) x.alive x.out) hx
    (demand_within (asks asked check) (after k x) x.alive x.out hx.alive hx.out)

-- the steps of calls look at earlier ones, whatever is asked, in each frame of earlier numbers
abbrev pub AllStays : (Option CheckId → Frame → Site) → Type 0
AllStays sites = (asked : Option CheckId) (frame : Frame) (base : ℕ) → Frames base frame → SiteStays base
    (sites asked frame)

entering_within : (sites : Option CheckId → Frame → Site) → AllStays sites
    → (asked : Option CheckId) (frame : Frame) (o : Option Function) (k reach : ℕ) (pre down : Option CheckId)
    (args : List ℕ)
    → Frames k frame → reach < k → Below k args → IsWithin LessOne k
    (entering (sites None) asked frame o k reach pre down args)
entering_within sites its asked frame None k reach pre down args fr r a = stopped_within None k
entering_within sites its asked frame (Some f) k reach pre down args fr r a =
    let x = admitting asked (sites None None) f.pre pre k args reach in
    let n = after k x in
    let y = measuring None (sites None None) f.measure n args x.alive in
    let m = after n y in
    let z = descending asked down frame y.out m y.alive in
    let l = after m z in
    let w = compile None (sites None y.out) f.body l args z.alive in
    let an = below_end k (length x.steps) args a in
    let am = below_end n (length y.steps) args an in
    let al = below_end m (length z.steps) args am in
    let hx = admitting_within asked (sites None None) (λ base. its None None base tt) f.pre pre k args reach a r in
    let hy = measuring_within n None (sites None None) (its None None n tt) f.measure n args x.alive
    (le_self n, an) hx.alive in
    let hz = descending_within asked down frame y.out m y.alive
    (frame_later k m frame (le_up k n (length y.steps) (at_most k (length x.steps))) fr)
    (frames_are m y.out hy.out) hy.alive in
    let fl = frame_later m l y.out (at_most m (length z.steps)) (frames_are m y.out hy.out) in
    joined_within k x (joined y (joined z w)) hx
    (joined_within n y (joined z w) hy
    (joined_within m z w hz
    (expr_stays l None (sites None y.out) (its None y.out l fl) f.body l args z.alive (le_self l, al) hz.alive)))
  where
    frames_are : (k : ℕ) (fr : Frame) → LessFrame k None (sites None None) (its None None k tt) k fr → Frames k fr
    frames_are k None h = tt
    frames_are k (Some ns) h = h

module _ (functions : List Function) where
  pub inlined_stays : (n : ℕ) → AllStays (inlined functions n)
  inlined_stays zero asked frame base fr k reach g pre down args le r a = stopped_within (slice_get functions g.0) k
  inlined_stays (suc n) asked frame base fr k reach g pre down args le r a =
      entering_within (inlined functions n) (inlined_stays n) asked frame
      (slice_get functions g.0) k reach pre down args (frame_later base k frame le fr) r a

-- ---- the run

module _ (sites : Option CheckId → Frame → Site) (its : AllStays sites) (asked : Option CheckId) where
  finishing_within : (frame : Frame) (o : Option (CheckId × Expr)) (k : ℕ) (values : List ℕ) (reach : ℕ)
      → Frames k frame → Below k values → reach < k
      → IsWithin LessOne k (finishing asked (sites asked frame) o k values reach)
  finishing_within frame None k values reach fr a r = plain_within {R = LessOne} k [] reach reach tt (up reach k 0 r) r
  finishing_within frame (Some post) k values reach fr a r =
      let x = compile asked (sites asked frame) post.1 k values reach in
      let hx = expr_stays k asked (sites asked frame) (its asked frame k fr) post.1 k values reach (le_self k, a) r in
      joined_within k x (demand (asks asked (Some post.0)) (after k x) x.alive x.out) hx
      (demand_within (asks asked (Some post.0)) (after k x) x.alive x.out hx.alive hx.out)

  allowing_within : (o : Option Expr) (k : ℕ) (args : List ℕ) (reach : ℕ) → Below k args → reach < k
      → IsWithin LessOne k (allowing asked (sites asked None) o k args reach)
  allowing_within None k args reach a r = plain_within {R = LessOne} k [] reach reach tt (up reach k 0 r) r
  allowing_within (Some pre) k args reach a r =
      let x = compile asked (sites asked None) pre k args reach in
      let hx = expr_stays k asked (sites asked None) (its asked None k tt) pre k args reach (le_self k, a) r in
      joined_within k x (demand false (after k x) x.alive x.out) hx
      (demand_within false (after k x) x.alive x.out hx.alive hx.out)

  starting_within : (f : Function) (k : ℕ) (args : List ℕ) (reach : ℕ) → Below k args → reach < k
      → IsWithin LessOne k (starting (sites asked) asked f k args reach)
  starting_within f k args reach a r =
      let x = measuring asked (sites asked None) f.measure k args reach in
      let n = after k x in
      let y = compile asked (sites asked x.out) f.body n args x.alive in
      let m = after n y in
      let an = below_end k (length x.steps) args a in
      let hx = measuring_within k asked (sites asked None) (its asked None k tt) f.measure k args reach
      (le_self k, a) r in
      let fn = frames_are n x.out hx.out in
      let hy = expr_stays n asked (sites asked x.out) (its asked x.out n fn) f.body n args x.alive
      (le_self n, an) hx.alive in
      joined_within k x (joined y (finishing asked (sites asked x.out) f.post m (args ++ y.out ∷ []) y.alive)) hx
      (joined_within n y (finishing asked (sites asked x.out) f.post m (args ++ y.out ∷ []) y.alive) hy
      (finishing_within x.out f.post m (args ++ y.out ∷ []) y.alive
      (frame_later n m x.out (at_most n (length y.steps)) fn)
      (below_more m args y.out (below_end n (length y.steps) args an) hy.out) hy.alive))
    where
      frames_are : (k : ℕ) (fr : Frame) → LessFrame k asked (sites asked None) (its asked None k tt) k fr → Frames k fr
      frames_are k None h = tt
      frames_are k (Some ns) h = h

  pub running_within : (f : Function) (k : ℕ) (args : List ℕ) (reach : ℕ) → Below k args → reach < k
      → IsWithin LessOne k (running (sites asked) asked f k args reach)
  running_within f k args reach a r =
      let x = allowing asked (sites asked None) f.pre k args reach in
      let hx = allowing_within f.pre k args reach a r in
      joined_within k x (starting (sites asked) asked f (after k x) args x.alive) hx
      (starting_within f (after k x) args x.alive (below_end k (length x.steps) args a) hx.alive)

pub any_within : (ks : List ℕ) (k alive : ℕ) → Below k ks → alive < k → IsWithin LessOne k (any_of ks k alive)
any_within [] k alive h a = one_within (steps.Bool false) k alive tt a
any_within (x ∷ []) k alive h a = plain_within {R = LessOne} k [] x alive tt (up x k 0 h.0) a
any_within (x ∷ y ∷ ks) k alive h a =
    let z = any_of (y ∷ ks) k alive in
    let hz = any_within (y ∷ ks) k alive h.1 a in
    let xz = up x k (length z.steps) h.0 in
    joined_within k z (one (steps.Choose x x z.out) (after k z) alive) hz
    (one_within (steps.Choose x x z.out) (after k z) alive (xz, xz, hz.out) (up alive k (length z.steps) a))
