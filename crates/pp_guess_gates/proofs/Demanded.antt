-- Conditions and measure lists: their steps weigh at most what their visits are worth.
use Rattle.std.proofs.Common.{◌≡◌, ℕ, ◌+◌, ◌*◌, ◌≤◌, true, Bool, List, [], ◌∷◌, map, length, Option}
use Rattle.std.proofs.Common.{Some, None, arith}
use Rattle.std.proofs.lemmas.List.{length-map}
use Rattle.pp_prog.specs.declared.expr.Expr.{Expr}
use Rattle.pp_prog.specs.declared.id.CheckId.{CheckId}
use Rattle.pp_prog.specs.declared.program.Program.{Program}
use Rattle.pp_prog.specs.declared.sort.Sort.{Sort}
use Rattle.pp_prog.specs.declared.sort.Sort.TheVariants as sort
use Rattle.pp_prog.specs.ExprSorts.{is_sorted_measure, is_sorted_pre, sort_of}
use Rattle.pp_prog.proofs.PartSorts.{has_the_sort_is}
use Rattle.pp_estimate.specs.declared.shape.Shape.{Shape}
use Rattle.pp_estimate.specs.Frames.{components, pre_events}
use Rattle.pp_estimate.specs.Visits.{Calls, Visit, all_events, in_env, shape_of, visit_of}
use Rattle.pp_estimate_laws.proofs.Numbers.{le_same}
use Rattle.pp_steps.specs.declared.step.OpenCall.{OpenCall}
use Rattle.pp_steps.specs.Compile.{Site, all, compile}
use Rattle.pp_steps.specs.Frames.{Frame, admitting, measuring}
use Rattle.pp_steps.specs.Piece.{Piece, after, asks, bind, demand, joined, plain}
use Rattle.pp_steps.specs.Sorted.{AllSorted, Sorts}
use Rattle.pp_steps_gates.proofs.Calls.{sorts_of_measure}
use Rattle.pp_steps_gates.proofs.Pieces.{Any, IsBit}
use Rattle.pp_steps_gates.proofs.Tables.{FrameCovers, table_of}
use Rattle.pp_guess_gates.proofs.Exprs.{expr_covers, list_covers}
use Rattle.pp_guess_gates.proofs.Lists.{Answers, all_covered}
use Rattle.pp_guess_gates.proofs.Pieces.{IsLight, demand_light, joined_light, lighter, load, load_of_both}
use Rattle.pp_guess_gates.proofs.Pieces.{plain_light, sorted_left, sorted_right}
use Rattle.pp_guess_gates.proofs.Prices.{Prices, worth}
use Rattle.pp_guess_gates.proofs.Scopes.{Are, IsOf}
use Rattle.pp_guess_gates.proofs.Measures.{Fits, shape_fits}

module _ (p : Program) (σ : Sorts) (ψ : Prices) (left : OpenCall → ℕ) where
  abbrev L : {A : Type 0} → ℕ → Piece A → ℕ
  L = load p.types σ ψ left

  abbrev A : List Shape → Site → Calls → Type 0
  A old site calls = Answers p.types σ ψ left old p.functions site calls

  -- an expression that is demanded weighs at most what its visit is worth
  pub demand_covered : (asked : Option CheckId) (site : Site) (calls : Calls) (old : List Shape) → A old site calls
      → (b : Bool) (e : Expr) (k : ℕ) (env : List ℕ) (reach : ℕ) (hs : List Shape) (scope : List Sort)
      → Are σ env hs scope → IsBit σ reach → sort_of p.types p.functions e scope ≡ Some sort.Bool
      → AllSorted p.types σ k
      (bind k (compile asked site e k env reach) (λ n x alive. demand b n alive x)).steps
      → IsLight p.types σ ψ left (IsBit σ) k (bind k (compile asked site e k env reach)
      (λ n x alive. demand b n alive x))
      (worth ψ (visit_of p.types calls e old hs).events)
  demand_covered asked site calls old its b e k env reach hs scope are r is m =
      let x = compile asked site e k env reach in
      let y = demand b (after k x) x.alive x.out in
      let v = visit_of p.types calls e old hs in
      let hx = expr_covers p σ ψ left old asked site calls its e k env reach hs scope sort.Bool are r is
      (sorted_left p.types σ k x y m) in
      let hy = demand_light p.types σ ψ left b (after k x) x.alive x.out (sorted_right p.types σ k x y m) in
      let few = hx.few in
      lighter p.types σ ψ left (IsBit σ) k (joined x y) (L k x + 7) (worth ψ v.events)
      (joined_light p.types σ ψ left (IsBit σ) k x y (L k x) 7 (le_same (L k x)) hy) (omega arith)

  pub admitting_light : (asked : Option CheckId) (site : Site) (calls : Calls) → A [] site calls → (o : Option Expr)
      (check : Option CheckId) (k : ℕ) (args : List ℕ) (reach : ℕ) (hs : List Shape) (scope : List Sort)
      → Are σ args hs scope → IsBit σ reach → is_sorted_pre p.types p.functions o scope ≡ true
      → AllSorted p.types σ k (admitting asked site o check k args reach).steps
      → IsLight p.types σ ψ left Any k (admitting asked site o check k args reach)
      (worth ψ (pre_events p.types calls o hs))
  admitting_light asked site calls its None check k args reach hs scope are r is m =
      plain_light p.types σ ψ left Any k reach reach tt r
  admitting_light asked site calls its (Some pre) check k args reach hs scope are r is m =
      let h = demand_covered None site calls [] its (asks asked check) pre k args reach hs scope are r
      (has_the_sort_is p.types p.functions sort.Bool (sort_of p.types p.functions pre scope) is) m in
      record { out = tt; alive = h.alive; few = h.few }

  -- The piece of a measure list begins at number k: its numbers are those of the components' shapes, and it weighs at
  -- most what the components are worth, less half a node for each.
  pub record IsMeasured (k : ℕ) (x : Piece Frame) (vs : List Visit) : Type 0 where
    pub out : FrameCovers (Fits σ) x.out (map shape_of vs)
    pub alive : IsBit σ x.alive
    pub few : L k x + 64 * length (map shape_of vs) ≤ worth ψ (all_events vs)

  pub measuring_light : (asked : Option CheckId) (site : Site) (calls : Calls) → A [] site calls → (es : List Expr)
      (k : ℕ) (args : List ℕ) (reach : ℕ) (hs : List Shape) (scope : List Sort) → Are σ args hs scope
      → IsBit σ reach → is_sorted_measure p.types p.functions es scope ≡ true
      → AllSorted p.types σ k (measuring asked site es k args reach).steps
      → IsMeasured k (measuring asked site es k args reach) (components p.types calls es hs)
  measuring_light asked site calls its [] k args reach hs scope are r is m =
      record { out = tt; alive = r; few = omega arith }
  measuring_light asked site calls its (e ∷ es) k args reach hs scope are r is m =
      let q = sorts_of_measure p (e ∷ es) scope is in
      let ms = map (compile asked site) (e ∷ es) in
      let ws = map (visit_of p.types calls) (e ∷ es) in
      let x = all ms k args reach in
      let y : Piece Frame = plain [] (Some x.out) x.alive in
      let hx = all_covered p.types σ ψ left [] ms ws (map (sort_of p.types p.functions) (e ∷ es))
      (list_covers p σ ψ left [] asked site calls its (e ∷ es)) [] [] [] tt k args reach hs scope q.0 are r q.1
      (sorted_left p.types σ k x y m) in
      let vs = components p.types calls (e ∷ es) hs in
      let few = hx.few in
      let sum_is = load_of_both p.types σ ψ left k x y in
      let one = length-map vs shape_of in
      let two = length-map ws (in_env [] hs) in
      let three = length-map (e ∷ es) (visit_of p.types calls) in
      let four = length-map (e ∷ es) (compile asked site) in
      record {
        out = table_of (Fits σ) (IsOf σ) (shape_fits σ) x.out (map shape_of vs) q.0 hx.out;
        alive = hx.alive;
        few = omega arith;
      }
