-- Matches: their steps take at most twice what their visits cost.
use Rattle.std.proofs.Common.{◌≡◌, ℕ, suc, ◌+◌, ◌*◌, ◌≤◌, max, Bool, true, false, List, [], ◌∷◌, ◌++◌, map, length}
use Rattle.std.proofs.Common.{Option, Some, None, refl, sym, ap, ◌∙◌, subst, arith}
use Rattle.std.proofs.Math.Nat.{le-max_left, le-max_right, suc-mul}
use Rattle.pp_prog.specs.declared.id.CheckId.{CheckId}
use Rattle.pp_prog.specs.declared.program.Program.{Program}
use Rattle.pp_prog.specs.declared.sort.Sort.{Sort}
use Rattle.pp_prog.specs.declared.sort.Sort.TheVariants as sort
use Rattle.pp_prog.specs.ExprSorts as sorts
use Rattle.pp_prog.specs.ExprSorts.{Sorting, arm_with, arms_sort, guarded_sort, then_sort}
use Rattle.pp_prog.specs.PatternSorts.{bound_sorts}
use Rattle.pp_prog.specs.Sizes.{bits}
use Rattle.pp_estimate.specs.declared.shape.Shape.{Shape}
use Rattle.pp_estimate.specs.Events.{cost}
use Rattle.pp_estimate.specs.Visits as visits
use Rattle.pp_estimate.specs.Visits.{Visit, Visiting, all_events, arms, bound, choice_extra, first_sort, guard_events}
use Rattle.pp_estimate.specs.Visits.{node, pattern_events, shape_of, tallest, visit}
use Rattle.pp_estimate_laws.proofs.Growth.{cost_of_both}
use Rattle.pp_estimate_laws.proofs.Numbers.{le_same, le_then}
use Rattle.pp_sound.proofs.Cases.{EachArm, each_arm}
use Rattle.pp_prog.proofs.PartSorts.{bool_then, sort_then}
use Rattle.pp_steps.specs.declared.step.Step.TheVariants as steps
use Rattle.pp_steps.specs.Compile.{Arm, Compiling, all_of, cases, deciding, matched, unless, when}
use Rattle.pp_steps.specs.Gates.{Heights}
use Rattle.pp_steps.specs.Patterns.{fitting}
use Rattle.pp_steps.specs.Piece.{Piece, after, asks, bind, choice, failing, joined, plain}
use Rattle.pp_steps.specs.Sorted.{Sorts}
use Rattle.pp_steps_gates.proofs.Patterns.{pattern_matches}
use Rattle.pp_steps_gates.proofs.Pieces.{Has, IsBit, IsFew, IsMade, MayHave, bit_choice, choice_few, fewer, joined_few}
use Rattle.pp_steps_gates.proofs.Pieces.{load, load_of_both, made_left, made_one, made_other, made_right, plain_few}
use Rattle.pp_steps_gates.proofs.Pieces.{unless_few, when_few}
use Rattle.pp_steps_gates.proofs.Scopes.{Are, Covers, IsOf, cost_of_node, covered, covered_of, has_more}
use Rattle.pp_steps_gates.proofs.ExprLevels.{ArmCovers, GuardCovers}
use Rattle.pp_steps_gates.proofs.Aligned.{Aligned, aligned_join}

-- the sorts that a case's pattern binds, with the sort of its guard and its body
pub bound_then : (a : sorts.Arm) (scope : List Sort) (o : Option (List Sort)) (u : Sort) → arm_with a scope o ≡ Some u
    → (l : List Sort) × (o ≡ Some l) × (guarded_sort a.guard (scope ++ l) (a.body (scope ++ l)) ≡ Some u)
bound_then a scope None u h = let no : None ≡ Some u = h in cc
bound_then a scope (Some l) u h = (l, refl, h)

abbrev pub AreBits : Sorts → ℕ × ℕ → Type 0
AreBits σ n = IsBit σ n.0 × IsBit σ n.1

-- the first shape, if there is one, has the sort
abbrev pub FirstIs : Sort → List Shape → Type 0
FirstIs u [] = Unit {0}
FirstIs u (h ∷ hs) = h.sort ≡ u

pub fails_few : (b : Bool) (reach : ℕ) → length (failing b reach) ≤ 1
fails_few true reach = le_same 1
fails_few false reach = omega arith

module _ (p : Program) (σ : Sorts) (η : Heights) (old : List Shape) where
  abbrev C : Compiling → Visiting → Sorting → Type 0
  C = Covers p.types σ η old

  abbrev L : {A : Type 0} → ℕ → Piece A → ℕ
  L = load p.types σ η

  abbrev H : Sort → ℕ → ℕ → Type 0
  H = Has p.types σ η

  -- ---- what decides a case

  all_of_few : (ts : List ℕ) (k alive : ℕ) → IsBit σ alive → IsMade p.types σ η k (all_of k ts alive).steps
      → IsFew p.types σ η (IsBit σ) k (all_of k ts alive) (length ts)
  all_of_few [] k alive a m = plain_few p.types σ η (IsBit σ) k alive alive a a
  all_of_few (t ∷ ts) k alive a m =
      let w = when k alive t in
      let y = all_of (after k w) ts k in
      let hw = when_few p.types σ η k alive t (made_left p.types σ η k w y m) in
      let hy = all_of_few ts (after k w) k hw.out (made_right p.types σ η k w y m) in
      fewer p.types σ η (IsBit σ) k (joined w y) (1 + length ts) (suc (length ts))
      (joined_few p.types σ η (IsBit σ) k w y 1 (length ts) hw.few hy) (one_more (length ts))
    where
      one_more : (n : ℕ) → 1 + n ≤ suc n
      one_more n = omega arith

  deciding_few : (o : Option Compiling) (v : Option Visiting) (t : Option Sorting) → GuardCovers C o v t
      → (k : ℕ) (env : List ℕ) (reach fits : ℕ) (shapes : List Shape) (scope : List Sort) (s : Option Sort) (u : Sort)
      → Are p.types σ η env shapes scope → IsBit σ reach → IsBit σ fits → guarded_sort t scope s ≡ Some u
      → IsMade p.types σ η k (deciding o k env reach fits).steps
      → IsFew p.types σ η (AreBits σ) k (deciding o k env reach fits) (2 * cost (guard_events v old shapes) + 3)
  deciding_few None None None h k env reach fits shapes scope s u are r f e m =
      let x = unless k reach fits in
      let y : Piece (ℕ × ℕ) = plain [] (fits, suc k) reach in
      let hx = unless_few p.types σ η k reach fits (made_left p.types σ η k x y m) in
      fewer p.types σ η (AreBits σ) k (joined x y) (1 + 0) 3 (joined_few p.types σ η (AreBits σ) k x y 1 0 hx.few
      (plain_few p.types σ η (AreBits σ) (after k x) (fits, suc k) reach (f, hx.out) r)) (omega arith)
  deciding_few (Some a) (Some v) (Some t) h k env reach fits shapes scope s u are r f e m =
      let x = a k env fits in
      let n = after k x in
      let w = when n x.alive x.out in
      let i = after n w in
      let z = unless i x.alive x.out in
      let l = after i z in
      let y : Piece (ℕ × ℕ) = plain (steps.Choose fits (suc i) reach ∷ []) (n, l) reach in
      let mw = made_right p.types σ η k x (joined w (joined z y)) m in
      let mz = made_right p.types σ η n w (joined z y) mw in
      let my = made_right p.types σ η i z y mz in
      let hx = h k env fits shapes scope sort.Bool are f (bool_then (t scope) s u e).0
      (made_left p.types σ η k x (joined w (joined z y)) m) in
      let hw = when_few p.types σ η n x.alive x.out (made_left p.types σ η n w (joined z y) mw) in
      let hz = unless_few p.types σ η i x.alive x.out (made_left p.types σ η i z y mz) in
      let bit : IsBit σ l = sym my.0.0.1 ∙ hz.out in
      let one = bit_choice p.types σ η (σ l) (max (η (suc i)) (η reach)) bit in
      let few = hx.few in
      fewer p.types σ η (AreBits σ) k (joined x (joined w (joined z y))) (L k x + (1 + (1 + 1)))
      (2 * cost (v old shapes).events + 3)
      (joined_few p.types σ η (AreBits σ) k x (joined w (joined z y)) (L k x) _ (le_same (L k x))
      (joined_few p.types σ η (AreBits σ) n w (joined z y) 1 _ hw.few
      (joined_few p.types σ η (AreBits σ) i z y 1 1 hz.few
      (record { out = (hw.out, bit); alive = r; few = omega arith })))) (omega arith)
  deciding_few o v t h k env reach fits shapes scope s u are r f e m = absurd h

  -- ---- cases

  -- The piece of cases begins at number k: its outcome has the sort u and at most the height `most`, and it takes at
  -- most twice what the visits cost, and a choice for each case.
  record AreTaken (k : ℕ) (x : Piece (Option ℕ)) (u : Sort) (most : ℕ) (vs : List Visit) : Type 0 where
    first : FirstIs u (map shape_of vs)
    out : MayHave p.types σ η u most x.out
    alive : IsBit σ x.alive
    few : L k x ≤ 1 + (2 * cost (all_events vs) + length vs * (32 + bits p.types most u))

  module _ (asked : Option CheckId) where
    one_product : (b : ℕ) → 0 ≤ 0 * b
    one_product b = omega arith

    cases_taken : (xs : List Arm) (ws : List visits.Arm) (ts : List sorts.Arm) → Aligned (ArmCovers p.types C) xs ws ts
        → (check : Option CheckId) (t k : ℕ) (env : List ℕ) (reach : ℕ) (h : Shape) (s u : Sort) (shapes : List Shape)
        (scope : List Sort) (most : ℕ) → Are p.types σ η env shapes scope → IsOf p.types σ η t h s
        → EachArm p s u scope ts → tallest (map shape_of (arms ws h old shapes)) ≤ most → IsBit σ reach
        → IsMade p.types σ η k (cases asked xs check t k env reach).steps
        → AreTaken k (cases asked xs check t k env reach) u most (arms ws h old shapes)
    cases_taken [] [] [] all check t k env reach h s u shapes scope most are of each le r m =
        let fails = fails_few (asks asked check) reach in
        let none = one_product (32 + bits p.types most u) in
        record { first = tt; out = tt; alive = m.0.0; few = omega arith }
    cases_taken (a ∷ xs) (w ∷ ws) (c ∷ cs) all check t k env reach h s u shapes scope most are of each le r m =
        let arm = all.0 in
        let q = bound_then c scope (bound_sorts p.types.ctors c.pattern s) u each.0 in
        let bound_is : bound_sorts p.types.ctors a.pattern s ≡ Some q.0 =
        ap (λ z. bound_sorts p.types.ctors z s) (sym arm.pattern_is) ∙ q.1 in
        let f = fitting a.pattern k t in
        let inner = env ++ f.bound in
        let deeper = shapes ++ bound p.types.ctors a.pattern h in
        let one : Piece ℕ = plain f.steps t reach in
        let kt = after k one in
        let two = all_of kt f.tests reach in
        let kg = after kt two in
        let three = deciding a.guard kg inner reach two.out in
        let l = after kg three in
        let x = a.body l inner three.out.0 in
        let i = after l x in
        let y = cases asked xs check t i env three.out.1 in
        let z = choice (after i y) three.out.0 x y in
        let m2 = made_right p.types σ η k one (joined two (joined three z)) m in
        let m3 = made_right p.types σ η kt two (joined three z) m2 in
        let mz = made_right p.types σ η kg three z m3 in
        let hf = pattern_matches p.types σ η a.pattern k t h s q.0 of bound_is
        (made_left p.types σ η k one (joined two (joined three z)) m) in
        let h2 = all_of_few f.tests kt reach r (made_left p.types σ η kt two (joined three z) m2) in
        let scoped = aligned_join (IsOf p.types σ η) env shapes scope f.bound (bound p.types.ctors a.pattern h) q.0
        are hf.bound in
        let h3 = deciding_few a.guard arm.guard c.guard arm.guard_covers kg inner reach two.out deeper (scope ++ q.0)
        (c.body (scope ++ q.0)) u scoped r h2.out q.2 (made_left p.types σ η kg three z m3) in
        let hx = arm.body_covers l inner three.out.0 deeper (scope ++ q.0) u scoped h3.out.0
        (guarded_body c.guard (scope ++ q.0) (c.body (scope ++ q.0)) u q.2)
        (made_one p.types σ η l (after i y) three.out.0 x y mz) in
        let v = arm.body old deeper in
        let rest = arms ws h old shapes in
        let es = pattern_events p.types.ctors a.pattern in
        let gs = guard_events arm.guard old deeper in
        let whole = visit v.shape (es ++ gs ++ v.events) in
        let visit_is : w h old shapes ≡ whole = ap (λ (g : visits.Arm). g h old shapes) arm.visit_is in
        let low : max v.shape.height (tallest (map shape_of rest)) ≤ most =
        subst (λ (n : Visit). tallest (map shape_of (n ∷ rest)) ≤ most) visit_is le in
        let hy = cases_taken xs ws cs all.1 check t i env three.out.1 h s u shapes scope most are of each.1
        (le_then _ _ most (le-max_right v.shape.height (tallest (map shape_of rest))) low) h3.out.1
        (made_other p.types σ η l (after i y) three.out.0 x y mz) in
        let hz = choice_few p.types σ η u most l three.out.0 x y (after i y) refl
        (has_more p.types σ η u v.shape.height most x.out hx.out
        (le_then _ _ most (le-max_left v.shape.height (tallest (map shape_of rest))) low)) hx.alive hy.out mz in
        let few_f = hf.few in
        let few_2 = h2.few in
        let few_3 = h3.few in
        let few_x = hx.few in
        let few_y = hy.few in
        let few_z = hz.few in
        let sum_1 = load_of_both p.types σ η k one (joined two (joined three z)) in
        let sum_2 = load_of_both p.types σ η kt two (joined three z) in
        let sum_3 = load_of_both p.types σ η kg three z in
        let cost_1 = cost_of_both (es ++ gs ++ v.events) (all_events rest) in
        let cost_2 = cost_of_both (es ++ gs) v.events in
        let cost_3 = cost_of_both es gs in
        let extra = 32 + bits p.types most u in
        let more = suc-mul (length rest) extra in
        subst (λ (n : Visit). AreTaken k (cases asked (a ∷ xs) check t k env reach) u most (n ∷ rest)) (sym visit_is)
        (record { first = hx.shape; out = hz.out; alive = hz.alive; few = omega arith })
      where
        guarded_body : (g : Option Sorting) (scope : List Sort) (o : Option Sort) (u : Sort)
            → guarded_sort g scope o ≡ Some u → o ≡ Some u
        guarded_body None scope o u h = h
        guarded_body (Some g) scope o u h = (bool_then (g scope) o u h).1
    cases_taken xs ws cs all check t k env reach h s u shapes scope most are of each le r m = absurd all

    -- the visit of a match
    abbrev match_visit : Visiting → List visits.Arm → Visiting
    match_visit v ws o env =
        let e = v o env in
        let g = visits.matched p.types (arms ws e.shape o env) in visit g.shape (e.events ++ g.events)

    match_sum : (lx ly cx cy choices : ℕ) → lx + 64 ≤ 2 * cx → ly ≤ 1 + (2 * cy + choices)
        → (lx + ly) + 64 ≤ 2 * (cx + (cy + (64 + choices)))
    match_sum lx ly cx cy choices h g = omega arith

    pub match_covers : (a : Compiling) (v : Visiting) (t : Sorting) → C a v t → (xs : List Arm) (ws : List visits.Arm)
        (ts : List sorts.Arm) → Aligned (ArmCovers p.types C) xs ws ts → (check : Option CheckId)
        → C (λ k env reach. bind k (a k env reach) (λ n x alive. matched x (cases asked xs check x n env alive)))
        (match_visit v ws) (λ scope. then_sort (t scope) (λ s. arms_sort p.types p.functions ts s scope))
    match_covers a v t ha [] [] [] all check k env reach shapes scope u are r h m =
        let q = sort_then (t scope) (λ s. arms_sort p.types p.functions [] s scope) u h in
        let no : None ≡ Some u = q.2 in cc
    match_covers a v t ha (b ∷ xs) (w ∷ ws) (c ∷ cs) all check k env reach shapes scope u are r h m =
        let q = sort_then (t scope) (λ s. arms_sort p.types p.functions (c ∷ cs) s scope) u h in
        let x = a k env reach in
        let n = after k x in
        let y = cases asked (b ∷ xs) check x.out n env x.alive in
        let z = matched x.out y in
        let e = v old shapes in
        let vs = arms (w ∷ ws) e.shape old shapes in
        let hs = map shape_of vs in
        let hx = ha k env reach shapes scope q.0 are r q.1 (made_left p.types σ η k x z m) in
        let hy = cases_taken (b ∷ xs) (w ∷ ws) (c ∷ cs) all check x.out n env x.alive e.shape q.0 u shapes scope
        (tallest hs) are (covered_of p.types σ η k x q.0 e hx) (each_arm p q.0 u scope (c ∷ cs) q.2)
        (le_same (tallest hs)) hx.alive (made_right p.types σ η k x z m) in
        let extra = length vs * choice_extra p.types (first_sort hs) (tallest hs) in
        let first : first_sort hs ≡ u = hy.first in
        let few_y : L n y ≤ 1 + (2 * cost (all_events vs) + extra) =
        subst (λ d. L n y ≤ 1 + (2 * cost (all_events vs) + length vs * (32 + bits p.types (tallest hs) d)))
        (sym first) hy.few in
        let sum_is = match_sum (L k x) (L n y) (cost e.events) (cost (all_events vs)) extra hx.few few_y in
        let one = cost_of_both e.events (all_events vs ++ node extra) in
        let two = cost_of_both (all_events vs) (node extra) in
        let three = cost_of_node extra in
        covered p.types σ η k (joined x z) u (match_visit v (w ∷ ws) old shapes) (L k x + L n y) first
        (joined_few p.types σ η (H u (tallest hs)) k x z (L k x) (L n y) (le_same (L k x))
        (record { out = hy.out; alive = hy.alive; few = le_same (L n y) })) (omega arith)
    match_covers a v t ha xs ws ts all check k env reach shapes scope u are r h m = absurd all
