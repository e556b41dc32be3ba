-- Matches: their steps weigh at most what their visits are worth.
use Rattle.std.proofs.Common.{◌≡◌, ℕ, zero, suc, ◌+◌, ◌*◌, ◌≤◌, Bool, List, [], ◌∷◌, ◌++◌, map, length, Option, Some}
use Rattle.std.proofs.Common.{None, refl, sym, ap, ◌∙◌, subst, arith}
use Rattle.std.proofs.Math.Nat.{suc-mul}
use Rattle.pp_prog.specs.declared.id.CheckId.{CheckId}
use Rattle.pp_prog.specs.declared.program.Program.{Program}
use Rattle.pp_prog.specs.declared.sort.Sort.{Sort}
use Rattle.pp_prog.specs.declared.sort.Sort.TheVariants as sort
use Rattle.pp_prog.specs.ExprSorts as sorts
use Rattle.pp_prog.specs.ExprSorts.{Sorting, arms_sort, guarded_sort, then_sort}
use Rattle.pp_prog.specs.PatternSorts.{bound_sorts}
use Rattle.pp_prog.specs.Sizes.{bits}
use Rattle.pp_prog.proofs.PartSorts.{bool_then, sort_then}
use Rattle.pp_estimate.specs.declared.shape.Shape.{Shape}
use Rattle.pp_estimate.specs.Visits as visits
use Rattle.pp_estimate.specs.Visits.{Visit, Visiting, all_events, arms, bound, choice_extra, first_sort, guard_events}
use Rattle.pp_estimate.specs.Visits.{node, pattern_events, shape_of, tallest, visit}
use Rattle.pp_estimate_laws.proofs.Numbers.{le_same}
use Rattle.pp_sound.proofs.Cases.{EachArm, each_arm}
use Rattle.pp_steps.specs.declared.step.OpenCall.{OpenCall}
use Rattle.pp_steps.specs.declared.step.Step.TheVariants as steps
use Rattle.pp_steps.specs.Compile.{Arm, Compiling, all_of, cases, deciding, matched, unless, when}
use Rattle.pp_steps.specs.Patterns.{fitting}
use Rattle.pp_steps.specs.Piece.{Piece, after, asks, bind, choice, joined, plain}
use Rattle.pp_steps.specs.Sorted.{AllSorted, Sorts}
use Rattle.pp_steps_gates.proofs.ExprLevels.{ArmCovers, GuardCovers}
use Rattle.pp_steps_gates.proofs.Aligned.{Aligned, aligned_join}
use Rattle.pp_steps_gates.proofs.Cases.{AreBits, FirstIs, bound_then, fails_few}
use Rattle.pp_steps_gates.proofs.Pieces.{IsBit}
use Rattle.pp_guess_gates.proofs.Patterns.{pattern_matches}
use Rattle.pp_guess_gates.proofs.Pieces.{Is, IsLight, MayBe, bit_choice, choice_light, joined_light, lighter, load}
use Rattle.pp_guess_gates.proofs.Pieces.{load_of_both, plain_light, sorted_left, sorted_one, sorted_other}
use Rattle.pp_guess_gates.proofs.Pieces.{sorted_right, unless_light, when_light}
use Rattle.pp_guess_gates.proofs.Prices.{Prices, worth, worth_of_both, worth_of_node}
use Rattle.pp_guess_gates.proofs.Scopes.{Are, Covers, IsOf, covered, covered_of}

module _ (p : Program) (σ : Sorts) (ψ : Prices) (left : OpenCall → ℕ) (old : List Shape) where
  abbrev C : Compiling → Visiting → Sorting → Type 0
  C = Covers p.types σ ψ left old

  abbrev L : {A : Type 0} → ℕ → Piece A → ℕ
  L = load p.types σ ψ left

  -- ---- what decides a case

  all_of_light : (ts : List ℕ) (k alive : ℕ) → IsBit σ alive → AllSorted p.types σ k (all_of k ts alive).steps
      → IsLight p.types σ ψ left (IsBit σ) k (all_of k ts alive) (2 * length ts)
  all_of_light [] k alive a m = plain_light p.types σ ψ left (IsBit σ) k alive alive a a
  all_of_light (t ∷ ts) k alive a m =
      let w = when k alive t in
      let y = all_of (after k w) ts k in
      let hw = when_light p.types σ ψ left k alive t (sorted_left p.types σ k w y m) in
      let hy = all_of_light ts (after k w) k hw.out (sorted_right p.types σ k w y m) in
      lighter p.types σ ψ left (IsBit σ) k (joined w y) (2 + 2 * length ts) (2 * suc (length ts))
      (joined_light p.types σ ψ left (IsBit σ) k w y 2 (2 * length ts) hw.few hy) (one_more (length ts))
    where
      one_more : (n : ℕ) → 2 + 2 * n ≤ 2 * suc n
      one_more n = omega arith

  deciding_light : (o : Option Compiling) (v : Option Visiting) (t : Option Sorting) → GuardCovers C o v t
      → (k : ℕ) (env : List ℕ) (reach fits : ℕ) (shapes : List Shape) (scope : List Sort) (s : Option Sort) (u : Sort)
      → Are σ env shapes scope → IsBit σ reach → IsBit σ fits → guarded_sort t scope s ≡ Some u
      → AllSorted p.types σ k (deciding o k env reach fits).steps
      → IsLight p.types σ ψ left (AreBits σ) k (deciding o k env reach fits) (worth ψ (guard_events v old shapes) + 7)
  deciding_light None None None h k env reach fits shapes scope s u are r f e m =
      let x = unless k reach fits in
      let y : Piece (ℕ × ℕ) = plain [] (fits, suc k) reach in
      let hx = unless_light p.types σ ψ left k reach fits (sorted_left p.types σ k x y m) in
      lighter p.types σ ψ left (AreBits σ) k (joined x y) (3 + 0) 7
      (joined_light p.types σ ψ left (AreBits σ) k x y 3 0 hx.few
      (plain_light p.types σ ψ left (AreBits σ) (after k x) (fits, suc k) reach (f, hx.out) r)) (omega arith)
  deciding_light (Some a) (Some v) (Some t) h k env reach fits shapes scope s u are r f e m =
      let x = a k env fits in
      let n = after k x in
      let w = when n x.alive x.out in
      let i = after n w in
      let z = unless i x.alive x.out in
      let l = after i z in
      let y : Piece (ℕ × ℕ) = plain (steps.Choose fits (suc i) reach ∷ []) (n, l) reach in
      let mw = sorted_right p.types σ k x (joined w (joined z y)) m in
      let mz = sorted_right p.types σ n w (joined z y) mw in
      let my = sorted_right p.types σ i z y mz in
      let hx = h k env fits shapes scope sort.Bool are f (bool_then (t scope) s u e).0
      (sorted_left p.types σ k x (joined w (joined z y)) m) in
      let hw = when_light p.types σ ψ left n x.alive x.out (sorted_left p.types σ n w (joined z y) mw) in
      let hz = unless_light p.types σ ψ left i x.alive x.out (sorted_left p.types σ i z y mz) in
      let bit : IsBit σ l = sym my.0.1 ∙ hz.out in
      let one = bit_choice p.types σ ψ left l fits (suc i) reach bit in
      let few = hx.few in
      lighter p.types σ ψ left (AreBits σ) k (joined x (joined w (joined z y))) (L k x + (2 + (3 + 2)))
      (worth ψ (v old shapes).events + 7)
      (joined_light p.types σ ψ left (AreBits σ) k x (joined w (joined z y)) (L k x) _ (le_same (L k x))
      (joined_light p.types σ ψ left (AreBits σ) n w (joined z y) 2 _ hw.few
      (joined_light p.types σ ψ left (AreBits σ) i z y 3 2 hz.few
      (record { out = (hw.out, bit); alive = r; few = omega arith })))) (omega arith)
  deciding_light o v t h k env reach fits shapes scope s u are r f e m = absurd h

  -- ---- cases

  -- The piece of cases begins at number k: its outcome has the sort u, and it weighs at most what the visits are worth,
  -- and a choice for each case.
  record AreTaken (k : ℕ) (x : Piece (Option ℕ)) (u : Sort) (vs : List Visit) : Type 0 where
    first : FirstIs u (map shape_of vs)
    out : MayBe σ u x.out
    alive : IsBit σ x.alive
    few : L k x ≤ 3 + (worth ψ (all_events vs) + 32 * length vs)

  module _ (asked : Option CheckId) where
    cases_taken : (xs : List Arm) (ws : List visits.Arm) (ts : List sorts.Arm) → Aligned (ArmCovers p.types C) xs ws ts
        → (check : Option CheckId) (t k : ℕ) (env : List ℕ) (reach : ℕ) (h : Shape) (s u : Sort) (shapes : List Shape)
        (scope : List Sort) → Are σ env shapes scope → IsOf σ t h s → EachArm p s u scope ts → IsBit σ reach
        → AllSorted p.types σ k (cases asked xs check t k env reach).steps
        → AreTaken k (cases asked xs check t k env reach) u (arms ws h old shapes)
    cases_taken [] [] [] all check t k env reach h s u shapes scope are of each r m =
        let fails = fails_few (asks asked check) reach in
        record { first = tt; out = tt; alive = m.0; few = omega arith }
    cases_taken (a ∷ xs) (w ∷ ws) (c ∷ cs) all check t k env reach h s u shapes scope are of each r m =
        let arm = all.0 in
        let q = bound_then c scope (bound_sorts p.types.ctors c.pattern s) u each.0 in
        let bound_is : bound_sorts p.types.ctors a.pattern s ≡ Some q.0 =
        ap (λ z. bound_sorts p.types.ctors z s) (sym arm.pattern_is) ∙ q.1 in
        let f = fitting a.pattern k t in
        let inner = env ++ f.bound in
        let deeper = shapes ++ bound p.types.ctors a.pattern h in
        let one : Piece ℕ = plain f.steps t reach in
        let kt = after k one in
        let two = all_of kt f.tests reach in
        let kg = after kt two in
        let three = deciding a.guard kg inner reach two.out in
        let l = after kg three in
        let x = a.body l inner three.out.0 in
        let i = after l x in
        let y = cases asked xs check t i env three.out.1 in
        let z = choice (after i y) three.out.0 x y in
        let m2 = sorted_right p.types σ k one (joined two (joined three z)) m in
        let m3 = sorted_right p.types σ kt two (joined three z) m2 in
        let mz = sorted_right p.types σ kg three z m3 in
        let hf = pattern_matches p.types σ ψ left a.pattern k t h s q.0 of bound_is
        (sorted_left p.types σ k one (joined two (joined three z)) m) in
        let h2 = all_of_light f.tests kt reach r (sorted_left p.types σ kt two (joined three z) m2) in
        let scoped = aligned_join (IsOf σ) env shapes scope f.bound (bound p.types.ctors a.pattern h) q.0 are
        hf.bound in
        let h3 = deciding_light a.guard arm.guard c.guard arm.guard_covers kg inner reach two.out deeper (scope ++ q.0)
        (c.body (scope ++ q.0)) u scoped r h2.out q.2 (sorted_left p.types σ kg three z m3) in
        let hx = arm.body_covers l inner three.out.0 deeper (scope ++ q.0) u scoped h3.out.0
        (guarded_body c.guard (scope ++ q.0) (c.body (scope ++ q.0)) u q.2)
        (sorted_one p.types σ l (after i y) three.out.0 x y mz) in
        let v = arm.body old deeper in
        let rest = arms ws h old shapes in
        let es = pattern_events p.types.ctors a.pattern in
        let gs = guard_events arm.guard old deeper in
        let whole = visit v.shape (es ++ gs ++ v.events) in
        let visit_is : w h old shapes ≡ whole = ap (λ (g : visits.Arm). g h old shapes) arm.visit_is in
        let hy = cases_taken xs ws cs all.1 check t i env three.out.1 h s u shapes scope are of each.1 h3.out.1
        (sorted_other p.types σ l (after i y) three.out.0 x y mz) in
        let hz = choice_light p.types σ ψ left u l three.out.0 x y (after i y) refl hx.out hx.alive hy.out mz in
        let few_f = hf.few in
        let few_2 = h2.few in
        let few_3 = h3.few in
        let few_x = hx.few in
        let few_y = hy.few in
        let few_z = hz.few in
        let sum_1 = load_of_both p.types σ ψ left k one (joined two (joined three z)) in
        let sum_2 = load_of_both p.types σ ψ left kt two (joined three z) in
        let sum_3 = load_of_both p.types σ ψ left kg three z in
        let worth_1 = worth_of_both ψ (es ++ gs ++ v.events) (all_events rest) in
        let worth_2 = worth_of_both ψ (es ++ gs) v.events in
        let worth_3 = worth_of_both ψ es gs in
        subst (λ (n : Visit). AreTaken k (cases asked (a ∷ xs) check t k env reach) u (n ∷ rest)) (sym visit_is)
        (record { first = hx.shape; out = hz.out; alive = hz.alive; few = omega arith })
      where
        guarded_body : (g : Option Sorting) (scope : List Sort) (o : Option Sort) (u : Sort)
            → guarded_sort g scope o ≡ Some u → o ≡ Some u
        guarded_body None scope o u h = h
        guarded_body (Some g) scope o u h = (bool_then (g scope) o u h).1
    cases_taken xs ws cs all check t k env reach h s u shapes scope are of each r m = absurd all

    -- the visit of a match
    abbrev match_visit : Visiting → List visits.Arm → Visiting
    match_visit v ws o env =
        let e = v o env in
        let g = visits.matched p.types (arms ws e.shape o env) in visit g.shape (e.events ++ g.events)

    -- a choice for each case weighs at most its share of the match's node
    choices_few : (n b : ℕ) → 32 * n ≤ n * (32 + b)
    choices_few zero b = omega arith
    choices_few (suc n) b = let rest = choices_few n b in let more = suc-mul n (32 + b) in omega arith

    match_sum : (lx ly cx cy n choices : ℕ) → lx + 64 ≤ cx → ly ≤ 3 + (cy + 32 * n) → 32 * n ≤ choices
        → (lx + ly) + 64 ≤ cx + (cy + (128 + 2 * choices))
    match_sum lx ly cx cy n choices h g le = omega arith

    pub match_covers : (a : Compiling) (v : Visiting) (t : Sorting) → C a v t → (xs : List Arm) (ws : List visits.Arm)
        (ts : List sorts.Arm) → Aligned (ArmCovers p.types C) xs ws ts → (check : Option CheckId)
        → C (λ k env reach. bind k (a k env reach) (λ n x alive. matched x (cases asked xs check x n env alive)))
        (match_visit v ws) (λ scope. then_sort (t scope) (λ s. arms_sort p.types p.functions ts s scope))
    match_covers a v t ha [] [] [] all check k env reach shapes scope u are r h m =
        let q = sort_then (t scope) (λ s. arms_sort p.types p.functions [] s scope) u h in
        let no : None ≡ Some u = q.2 in cc
    match_covers a v t ha (b ∷ xs) (w ∷ ws) (c ∷ cs) all check k env reach shapes scope u are r h m =
        let q = sort_then (t scope) (λ s. arms_sort p.types p.functions (c ∷ cs) s scope) u h in
        let x = a k env reach in
        let n = after k x in
        let y = cases asked (b ∷ xs) check x.out n env x.alive in
        let z = matched x.out y in
        let e = v old shapes in
        let vs = arms (w ∷ ws) e.shape old shapes in
        let hs = map shape_of vs in
        let hx = ha k env reach shapes scope q.0 are r q.1 (sorted_left p.types σ k x z m) in
        let hy = cases_taken (b ∷ xs) (w ∷ ws) (c ∷ cs) all check x.out n env x.alive e.shape q.0 u shapes scope are
        (covered_of p.types σ ψ left k x q.0 e hx) (each_arm p q.0 u scope (c ∷ cs) q.2) hx.alive
        (sorted_right p.types σ k x z m) in
        let extra = length vs * choice_extra p.types (first_sort hs) (tallest hs) in
        let sum_is = match_sum (L k x) (L n y) (worth ψ e.events) (worth ψ (all_events vs)) (length vs) extra hx.few
        hy.few (choices_few (length vs) (bits p.types (tallest hs) (first_sort hs))) in
        let one = worth_of_both ψ e.events (all_events vs ++ node extra) in
        let two = worth_of_both ψ (all_events vs) (node extra) in
        let three = worth_of_node ψ extra in
        covered p.types σ ψ left k (joined x z) u (match_visit v (w ∷ ws) old shapes) (L k x + L n y) hy.first
        (joined_light p.types σ ψ left (Is σ u) k x z (L k x) (L n y) (le_same (L k x))
        (record { out = hy.out; alive = hy.alive; few = le_same (L n y) })) (omega arith)
    match_covers a v t ha xs ws ts all check k env reach shapes scope u are r h m = absurd all
