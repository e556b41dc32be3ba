-- Calls: the steps of a call take at most twice what its visit costs.
use Rattle.std.proofs.Common.{◌≡◌, ℕ, zero, suc, ◌+◌, ◌*◌, ◌≤◌, true, List, [], ◌∷◌, ◌++◌, map, length, Option}
use Rattle.std.proofs.Common.{Some, None, is_some, refl, sym, ap, ◌∙◌, subst, arith}
use Rattle.std.proofs.lemmas.Bool.{and_parts}
use Rattle.std.proofs.lemmas.List.{length-map}
use Rattle.std.specs.Prelude.{Bool, slice_get}
use Rattle.pp_prog.specs.declared.expr.Expr.{Expr}
use Rattle.pp_prog.specs.declared.expr.Function.{Function}
use Rattle.pp_prog.specs.declared.id.CheckId.{CheckId}
use Rattle.pp_prog.specs.declared.program.Program.{Program}
use Rattle.pp_prog.specs.declared.sort.Sort.{Sort}
use Rattle.pp_prog.specs.declared.sort.Sort.TheVariants as sort
use Rattle.pp_prog.specs.declared.types.TypeTable.{TypeTable}
use Rattle.pp_prog.specs.ExprSorts.{is_sorted_measure, is_sorted_pre, sort_of, sorts_in}
use Rattle.pp_prog.specs.Sizes.{height_at}
use Rattle.pp_prog.specs.Sorts.{param_sorts}
use Rattle.pp_estimate.specs.declared.shape.Shape.{Shape}
use Rattle.pp_estimate.specs.Cut.{top}
use Rattle.pp_estimate.specs.Events.{Event, cost, work}
use Rattle.pp_estimate.specs.Frames.{components, contract_at, frame, frame_at, inner_calls, measure_at, own_calls}
use Rattle.pp_estimate.specs.Frames.{post_events, pre_events, unfinished}
use Rattle.pp_estimate.specs.Visits.{Calls, Visit, all_events, compared, in_env, shape_of, visit, visit_of}
use Rattle.pp_estimate_laws.proofs.Growth.{cost_of_both}
use Rattle.pp_estimate_laws.proofs.Numbers.{le_same}
use Rattle.pp_sound.proofs.Calls.{IsWhole, whole}
use Rattle.pp_prog.proofs.PartSorts.{has_the_sort_is, some_sort}
use Rattle.pp_steps.specs.Compile.{Site, all, compile}
use Rattle.pp_steps.specs.Frames.{Frame, admitting, descending, entering, inlined, measuring, stopped}
use Rattle.pp_steps.specs.Gates.{Heights, open_gates}
use Rattle.pp_steps.specs.Piece.{Piece, after, asks, bind, demand, joined, plain}
use Rattle.pp_steps.specs.Sorted.{Sorts}
use Rattle.pp_steps_gates.proofs.Exprs.{expr_covers, list_covers}
use Rattle.pp_steps_gates.proofs.Lists.{Answers, IsAnswered, all_covered}
use Rattle.pp_steps_gates.proofs.Measures.{Fits, descending_few, shape_fits}
use Rattle.pp_steps_gates.proofs.Pieces.{Any, IsBit, IsFew, IsMade, demand_few, fewer, joined_few, load, load_of_both}
use Rattle.pp_steps_gates.proofs.Pieces.{made_left, made_right, plain_few}
use Rattle.pp_steps_gates.proofs.Scopes.{Are, IsOf}
use Rattle.pp_steps_gates.proofs.Tables.{FrameCovers, table_of}

-- an unknown value without a height
open_small : (types : TypeTable) (s : Sort) → open_gates types 0 s ≤ 32
open_small types sort.Int = le_same 32
open_small types sort.Bool = omega arith
open_small types (sort.Tree d) = omega arith

-- the sorts of a measure list
pub sorts_of_measure : (p : Program) (es : List Expr) (scope : List Sort)
    → is_sorted_measure p.types p.functions es scope ≡ true
    → (ss : List Sort) × (sorts_in scope (map (sort_of p.types p.functions) es) ≡ map Some ss)
sorts_of_measure p [] scope h = ([], refl)
sorts_of_measure p (e ∷ es) scope h =
    let q = and_parts (is_some (sort_of p.types p.functions e scope)) _ h in
    let s = some_sort (sort_of p.types p.functions e scope) q.0 in
    let rest = sorts_of_measure p es scope q.1 in (
      s.0 ∷ rest.0,
      ap (λ o. o ∷ sorts_in scope (map (sort_of p.types p.functions) es)) s.1 ∙ ap (λ os. Some s.0 ∷ os)
          rest.1,
    )

module _ (p : Program) (σ : Sorts) (η : Heights) (low : (i : ℕ) → η i ≤ top)
    (flat : (i : ℕ) → σ i ≡ sort.Bool → η i ≡ 0) where
  abbrev L : {A : Type 0} → ℕ → Piece A → ℕ
  L = load p.types σ η

  abbrev A : List Shape → Site → Calls → Type 0
  A old site calls = Answers p.types σ η old p.functions site calls

  abbrev Frames : Frame → List Shape → Type 0
  Frames = FrameCovers (Fits p.types σ η)

  -- ---- conditions and measure lists

  -- an expression that is demanded takes at most twice what its visit costs
  pub demand_covered : (asked : Option CheckId) (site : Site) (calls : Calls) (old : List Shape) → A old site calls
      → (b : Bool) (e : Expr) (k : ℕ) (env : List ℕ) (reach : ℕ) (hs : List Shape) (scope : List Sort)
      → Are p.types σ η env hs scope → IsBit σ reach → sort_of p.types p.functions e scope ≡ Some sort.Bool
      → IsMade p.types σ η k (bind k (compile asked site e k env reach) (λ n x alive. demand b n alive x)).steps
      → IsFew p.types σ η (IsBit σ) k (bind k (compile asked site e k env reach) (λ n x alive. demand b n alive x))
      (2 * cost (visit_of p.types calls e old hs).events)
  demand_covered asked site calls old its b e k env reach hs scope are r is m =
      let x = compile asked site e k env reach in
      let y = demand b (after k x) x.alive x.out in
      let v = visit_of p.types calls e old hs in
      let hx = expr_covers p σ η low flat old asked site calls its e k env reach hs scope sort.Bool are r is
      (made_left p.types σ η k x y m) in
      let hy = demand_few p.types σ η b (after k x) x.alive x.out (made_right p.types σ η k x y m) in
      let few = hx.few in
      fewer p.types σ η (IsBit σ) k (joined x y) (L k x + 3) (2 * cost v.events)
      (joined_few p.types σ η (IsBit σ) k x y (L k x) 3 (le_same (L k x)) hy) (omega arith)

  admitting_few : (asked : Option CheckId) (site : Site) (calls : Calls) → A [] site calls → (o : Option Expr)
      (check : Option CheckId) (k : ℕ) (args : List ℕ) (reach : ℕ) (hs : List Shape) (scope : List Sort)
      → Are p.types σ η args hs scope → IsBit σ reach → is_sorted_pre p.types p.functions o scope ≡ true
      → IsMade p.types σ η k (admitting asked site o check k args reach).steps
      → IsFew p.types σ η Any k (admitting asked site o check k args reach)
      (2 * cost (pre_events p.types calls o hs))
  admitting_few asked site calls its None check k args reach hs scope are r is m =
      plain_few p.types σ η Any k reach reach tt r
  admitting_few asked site calls its (Some pre) check k args reach hs scope are r is m =
      let h = demand_covered None site calls [] its (asks asked check) pre k args reach hs scope are r
      (has_the_sort_is p.types p.functions sort.Bool (sort_of p.types p.functions pre scope) is) m in
      record { out = tt; alive = h.alive; few = h.few }

  -- The piece of a measure list begins at number k: its numbers are those of the components' shapes, and it takes at
  -- most twice what the components cost, less a node's weight for each.
  pub record IsMeasured (k : ℕ) (x : Piece Frame) (vs : List Visit) : Type 0 where
    pub out : Frames x.out (map shape_of vs)
    pub alive : IsBit σ x.alive
    pub few : L k x + 64 * length (map shape_of vs) ≤ 2 * cost (all_events vs)

  pub measuring_few : (asked : Option CheckId) (site : Site) (calls : Calls) → A [] site calls → (es : List Expr)
      (k : ℕ) (args : List ℕ) (reach : ℕ) (hs : List Shape) (scope : List Sort) → Are p.types σ η args hs scope
      → IsBit σ reach → is_sorted_measure p.types p.functions es scope ≡ true
      → IsMade p.types σ η k (measuring asked site es k args reach).steps
      → IsMeasured k (measuring asked site es k args reach) (components p.types calls es hs)
  measuring_few asked site calls its [] k args reach hs scope are r is m =
      record { out = tt; alive = r; few = omega arith }
  measuring_few asked site calls its (e ∷ es) k args reach hs scope are r is m =
      let q = sorts_of_measure p (e ∷ es) scope is in
      let ms = map (compile asked site) (e ∷ es) in
      let ws = map (visit_of p.types calls) (e ∷ es) in
      let x = all ms k args reach in
      let y : Piece Frame = plain [] (Some x.out) x.alive in
      let hx = all_covered p.types σ η [] ms ws (map (sort_of p.types p.functions) (e ∷ es))
      (list_covers p σ η low flat [] asked site calls its (e ∷ es)) [] [] [] tt k args reach hs scope q.0 are r q.1
      (made_left p.types σ η k x y m) in
      let vs = components p.types calls (e ∷ es) hs in
      let few = hx.few in
      let sum_is = load_of_both p.types σ η k x y in
      let one = length-map vs shape_of in
      let two = length-map ws (in_env [] hs) in
      let three = length-map (e ∷ es) (visit_of p.types calls) in
      let four = length-map (e ∷ es) (compile asked site) in
      record {
        out = table_of (Fits p.types σ η) (IsOf p.types σ η) (shape_fits p.types σ η) x.out (map shape_of vs) q.0
            hx.out;
        alive = hx.alive;
        few = omega arith;
      }

  -- ---- calls without fuel

  open_answered : (old : List Shape) (f : Function) (k : ℕ) → IsMade p.types σ η k (stopped (Some f) k).steps
      → (es : List Event) → 32 ≤ cost es
      → IsAnswered p.types σ η old k (stopped (Some f) k) f.result (visit (unfinished (Some f)) es)
  open_answered old f k m es le =
      let small = open_small p.types f.result in
      record {
        shape = refl;
        out = record {
          sort = m.0.0.0;
          height = subst (λ n. n ≤ height_at 1 f.result) (sym m.0.1) (none_below (height_at 1 f.result));
        };
        alive = m.1.0.0;
        few = omega arith;
      }
    where
      none_below : (n : ℕ) → 0 ≤ n
      none_below n = omega arith

  stopped_answered : (old : List Shape) (o : Option Function) (f : Function) → o ≡ Some f → (k : ℕ)
      → IsMade p.types σ η k (stopped o k).steps → (es : List Event) → 32 ≤ cost es
      → IsAnswered p.types σ η old k (stopped o k) f.result (visit (unfinished o) es)
  stopped_answered old o f is k m es le =
      subst (λ (q : Option Function). IsAnswered p.types σ η old k (stopped q k) f.result (visit (unfinished q) es))
      (sym is)
      (open_answered old f k (subst (λ (q : Option Function). IsMade p.types σ η k (stopped q k).steps) is m) es le)

  -- ---- calls that are followed

  module _ (inner : Frame → Site) (calls : Calls)
      (its : (fr : Frame) (hs : List Shape) → Frames fr hs → A hs (inner fr) calls) (asked : Option CheckId)
      (fr : Frame) (old : List Shape) (frames : Frames fr old) (f : Function) (i : ℕ)
      (w : IsWhole p i f) (k reach : ℕ) (pre down : Option CheckId) (args : List ℕ) (hs : List Shape)
      (are : Are p.types σ η args hs (param_sorts f.params)) (r : IsBit σ reach) where
    abbrev entered_visit : Visit
    entered_visit =
        let g = frame p.types calls f hs in visit g.shape (g.events ++ compared p.types down g.measure old)

    entering_answered : IsMade p.types σ η k (entering inner asked fr (Some f) k reach pre down args).steps
        → IsAnswered p.types σ η old k (entering inner asked fr (Some f) k reach pre down args) f.result entered_visit
    entering_answered m =
        let x = admitting asked (inner None) f.pre pre k args reach in
        let n = after k x in
        let y = measuring None (inner None) f.measure n args x.alive in
        let j = after n y in
        let z = descending asked down fr y.out j y.alive in
        let l = after j z in
        let b = compile None (inner y.out) f.body l args z.alive in
        let my = made_right p.types σ η k x (joined y (joined z b)) m in
        let mz = made_right p.types σ η n y (joined z b) my in
        let vs = components p.types calls f.measure hs in
        let ns = map shape_of vs in
        let v = visit_of p.types calls f.body ns hs in
        let hx = admitting_few asked (inner None) calls (its None [] tt) f.pre pre k args reach hs
        (param_sorts f.params) are r w.pre_sorted (made_left p.types σ η k x (joined y (joined z b)) m) in
        let hy = measuring_few None (inner None) calls (its None [] tt) f.measure n args x.alive hs
        (param_sorts f.params) are hx.alive w.measure_sorted (made_left p.types σ η n y (joined z b) my) in
        let hz = descending_few p.types σ η asked down fr y.out old ns frames hy.out j y.alive hy.alive
        (made_left p.types σ η j z b mz) in
        let hb = expr_covers p σ η low flat ns None (inner y.out) calls (its y.out ns hy.out) f.body l args z.alive hs
        (param_sorts f.params) f.result are hz.alive w.body_sorted (made_right p.types σ η j z b mz) in
        let few_x = hx.few in
        let few_y = hy.few in
        let few_z = hz.few in
        let few_b = hb.few in
        let sum_1 = load_of_both p.types σ η k x (joined y (joined z b)) in
        let sum_2 = load_of_both p.types σ η n y (joined z b) in
        let sum_3 = load_of_both p.types σ η j z b in
        let pres = pre_events p.types calls f.pre hs in
        let posts = post_events p.types calls f.post ns hs v.shape in
        let cost_1 = cost_of_both (pres ++ all_events vs ++ v.events ++ posts) (compared p.types down ns old) in
        let cost_2 = cost_of_both (pres ++ all_events vs ++ v.events) posts in
        let cost_3 = cost_of_both (pres ++ all_events vs) v.events in
        let cost_4 = cost_of_both pres (all_events vs) in
        record { shape = refl; out = hb.out; alive = hb.alive; few = omega arith }

  -- the steps of calls from a called frame
  pub inner_answers : (n : ℕ) (asked : Option CheckId) (fr : Frame) (old : List Shape) → Frames fr old
      → A old (inlined p.functions n asked fr) (inner_calls p.types p.functions n)
  inner_answers zero asked fr old frames k reach g pre down args hs f is are r m =
      stopped_answered old (slice_get p.functions g.0) f is k m (work 32 ∷ []) (omega arith)
  inner_answers (suc n) asked fr old frames k reach g pre down args hs f is are r m =
      let inner = inlined p.functions n None in
      let calls = inner_calls p.types p.functions n in
      let made = subst (λ (o : Option Function).
      IsMade p.types σ η k (entering inner asked fr o k reach pre down args).steps) is m in
      let h = entering_answered inner calls (inner_answers n None) asked fr old frames f g.0 (whole p g.0 f is)
      k reach pre down args hs are r made in
      subst (λ (o : Option Function).
      IsAnswered p.types σ η old k (entering inner asked fr o k reach pre down args) f.result
      (let v = frame_at p.types calls o hs in visit v.shape (v.events ++ compared p.types down v.measure old)))
      (sym is) h

  -- and from the run's own frame
  pub own_answers : (n : ℕ) (asked : Option CheckId) (fr : Frame) (old : List Shape) → Frames fr old
      → A old (inlined p.functions n asked fr) (own_calls p.types p.functions n)
  own_answers zero asked fr old frames k reach g pre down args hs f is are r m =
      let o = slice_get p.functions g.0 in
      stopped_answered old o f is k m
      (work 32 ∷ contract_at p.types p.functions o hs ++
      compared p.types down (measure_at p.types p.functions o hs) old)
      (omega arith)
  own_answers (suc n) asked fr old frames k reach g pre down args hs f is are r m =
      inner_answers (suc n) asked fr old frames k reach g pre down args hs f is are r m
