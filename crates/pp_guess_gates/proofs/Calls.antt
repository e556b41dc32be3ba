-- Calls that are left open: their steps, and what is left for them, weigh at most what the visits of the calls are
-- worth.
use Rattle.std.proofs.Common.{◌≡◌, ℕ, zero, suc, ◌+◌, ◌-◌, ◌≤◌, Bool, true, false, List, [], ◌∷◌, ◌++◌}
use Rattle.std.proofs.Common.{Option, Some, None, refl, sym, ap, ◌∙◌, subst, arith}
use Rattle.std.specs.Prelude.{slice_get}
use Rattle.pp_prog.specs.declared.expr.Function.{Function}
use Rattle.pp_prog.specs.declared.id.CheckId.{CheckId}
use Rattle.pp_prog.specs.declared.id.FunctionId.{FunctionId}
use Rattle.pp_prog.specs.declared.program.Program.{Program}
use Rattle.pp_prog.specs.Results.{call_result}
use Rattle.pp_prog.specs.Sorts.{param_sorts}
use Rattle.pp_estimate.specs.declared.shape.Shape.{Shape}
use Rattle.pp_estimate.specs.Events.{work}
use Rattle.pp_estimate.specs.Frames.{components, contract_at, frame_at, inner_calls, measure_at}
use Rattle.pp_estimate.specs.Frames.{own_calls, post_events, pre_events, unfinished}
use Rattle.pp_estimate.specs.Visits.{Calls, all_events, compared, visit}
use Rattle.pp_sound.proofs.Calls.{whole}
use Rattle.pp_steps.specs.declared.step.OpenCall.{OpenCall}
use Rattle.pp_steps.specs.Compile.{Site}
use Rattle.pp_steps.specs.Frames.{Frame, admitting, descending, measuring, result_of}
use Rattle.pp_steps.specs.Guesses.{asking, comparing, comparing_if, guessing, open_call, own_call}
use Rattle.pp_steps.specs.Piece.{Piece, after, asks, joined, plain}
use Rattle.pp_steps.specs.Sorted.{AllSorted, Sorts}
use Rattle.pp_steps_gates.proofs.Pieces.{IsBit}
use Rattle.pp_steps_gates.proofs.Tables.{FrameCovers}
use Rattle.pp_guess_gates.proofs.Demanded.{admitting_light, measuring_light}
use Rattle.pp_guess_gates.proofs.Lists.{Answers, IsAnswered}
use Rattle.pp_guess_gates.proofs.Measures.{Fits, descending_light}
use Rattle.pp_guess_gates.proofs.Pieces.{IsLight, lighter, load, load_of_both, plain_light, sorted_left}
use Rattle.pp_guess_gates.proofs.Pieces.{sorted_right, width_low}
use Rattle.pp_guess_gates.proofs.Prices.{Prices, call_price, worth, worth_of_both}
use Rattle.pp_guess_gates.proofs.Reserves.{body_visit, body_worth, left_in, left_low, measure_shapes, reserve}
use Rattle.pp_guess_gates.proofs.Reserves.{reserve_low}
use Rattle.pp_guess_gates.proofs.Scopes.{Are}

module _ (p : Program) (σ : Sorts) (ψ : Prices) (n r : ℕ) where
  abbrev left : OpenCall → ℕ
  left = left_in p ψ n r

  abbrev L : {A : Type 0} → ℕ → Piece A → ℕ
  L = load p.types σ ψ left

  abbrev pub A : List Shape → Site → Calls → Type 0
  A old site calls = Answers p.types σ ψ left old p.functions site calls

  -- the visit of a call of f, when its measure isn't compared
  abbrev contract_worth : Calls → Function → List Shape → ℕ
  contract_worth calls f hs =
      worth ψ (pre_events p.types calls f.pre hs) + worth ψ (all_events (components p.types calls f.measure hs))

  -- a frame is worth its contract, its body and its postcondition
  frame_worth : (calls : Calls) (f : Function) (hs : List Shape)
      → worth ψ (frame_at p.types calls (Some f) hs).events ≡ contract_worth calls f hs + body_worth p ψ calls f hs
  frame_worth calls f hs =
      let pres = pre_events p.types calls f.pre hs in
      let vs = all_events (components p.types calls f.measure hs) in
      let v = body_visit p ψ calls f hs in
      let posts = post_events p.types calls f.post (measure_shapes p ψ calls f hs) hs v.shape in
      let one = worth_of_both ψ (pres ++ vs ++ v.events) posts in
      let two = worth_of_both ψ (pres ++ vs) v.events in
      let three = worth_of_both ψ pres vs in
      omega arith

  -- ---- the steps of an open call

  -- The site of an open call: its outcome has the function's result sort, and it weighs its own three steps and what
  -- the call leaves.
  record IsLeft (wait : ℕ) (g : FunctionId) (f : Function) (k : ℕ) (x : Piece ℕ) : Type 0 where
    out : σ x.out ≡ f.result
    alive : IsBit σ x.alive
    few : L k x ≤ 37 + (call_price ψ g + reserve p ψ (n - wait) g)

  asking_left : (wait : ℕ) (g : FunctionId) (f : Function) → slice_get p.functions g.0 ≡ Some f → (k reach : ℕ)
      (pre down : Option CheckId) (args : List ℕ)
      → AllSorted p.types σ k (asking p.functions wait k reach g pre down args).steps
      → IsLeft wait g f k (asking p.functions wait k reach g pre down args)
  asking_left wait g f is k reach pre down args m =
      let c = open_call p.functions wait reach g args in
      let low = left_low p ψ n r c f is in
      let narrow = width_low c.result in
      record { out = m.1.0.1 ∙ ap result_of is; alive = m.1.1.0.2; few = omega arith }

  -- ---- calls that later rounds unfold

  inner_shape : (m : ℕ) (g : FunctionId) (f : Function) → slice_get p.functions g.0 ≡ Some f
      → (down : Option CheckId) (old hs : List Shape)
      → (inner_calls p.types p.functions m g down old hs).shape.sort ≡ f.result
  inner_shape zero g f is down old hs = ap call_result is
  inner_shape (suc m) g f is down old hs =
      ap (λ (o : Option Function). (frame_at p.types (inner_calls p.types p.functions m) o hs).shape.sort) is

  -- what is left for a call is at most ten more than what its visit is worth
  inner_low : (m : ℕ) (g : FunctionId) (f : Function) → slice_get p.functions g.0 ≡ Some f
      → (down : Option CheckId) (old : List Shape) (ns : List ℕ) (hs : List Shape) → Are σ ns hs (param_sorts f.params)
      → reserve p ψ m g ≤ 10 + worth ψ (inner_calls p.types p.functions m g down old hs).events
  inner_low zero g f is down old ns hs are = omega arith
  inner_low (suc m) g f is down old ns hs are =
      let calls = inner_calls p.types p.functions m in
      let low = reserve_low p ψ σ m g f is ns hs are in
      let v = frame_at p.types calls (slice_get p.functions g.0) hs in
      let at = ap (λ (o : Option Function). worth ψ (frame_at p.types calls o hs).events) is in
      let whole_is = frame_worth calls f hs in
      let both = worth_of_both ψ v.events (compared p.types down v.measure old) in
      omega arith

  pub asking_answers : (old : List Shape) (wait : ℕ)
      → A old (asking p.functions wait) (inner_calls p.types p.functions (n - wait))
  asking_answers old wait k reach g pre down args hs f is are bit m =
      let h = asking_left wait g f is k reach pre down args m in
      let low = inner_low (n - wait) g f is down old args hs are in
      let few = h.few in
      record {
        shape = inner_shape (n - wait) g f is down old hs;
        out = h.out;
        alive = h.alive;
        few = omega arith;
      }

  -- ---- calls from the own frame

  abbrev Any : ℕ → Type 0
  Any i = Unit {0}

  module _ (calls : Calls) (its : A [] (asking p.functions 1) calls) (asked : Option CheckId) (fr : Frame)
      (old : List Shape) (frames : FrameCovers (Fits σ) fr old) (g : FunctionId) (f : Function)
      (is : slice_get p.functions g.0 ≡ Some f) (pre down : Option CheckId) (args : List ℕ) (hs : List Shape)
      (are : Are σ args hs (param_sorts f.params)) where
    abbrev site : Site
    site = asking p.functions 1

    comparing_light : (b : Bool) (k reach : ℕ) → IsBit σ reach
        → AllSorted p.types σ k (comparing_if b asked site fr f.measure down k args reach).steps
        → IsLight p.types σ ψ left Any k (comparing_if b asked site fr f.measure down k args reach)
        (worth ψ (all_events (components p.types calls f.measure hs))
        + worth ψ (compared p.types down (measure_shapes p ψ calls f hs) old) + 9)
    comparing_light false k reach bit m =
        lighter p.types σ ψ left Any k (plain [] reach reach) 0 _
        (plain_light p.types σ ψ left Any k reach reach tt bit) (omega arith)
    comparing_light true k reach bit m =
        let x = measuring None site f.measure k args reach in
        let y = descending asked down fr x.out (after k x) x.alive in
        let vs = components p.types calls f.measure hs in
        let ns = measure_shapes p ψ calls f hs in
        let w = whole p g.0 f is in
        let hx = measuring_light p σ ψ left None site calls its f.measure k args reach hs (param_sorts f.params) are bit
        w.measure_sorted (sorted_left p.types σ k x y m) in
        let hy = descending_light p.types σ ψ left asked down fr x.out old ns frames hx.out (after k x) x.alive hx.alive
        (sorted_right p.types σ k x y m) in
        let few_x = hx.few in
        let few_y = hy.few in
        let sum_is = load_of_both p.types σ ψ left k x y in
        record { out = tt; alive = hy.alive; few = omega arith }

    -- the site of a call from the own frame
    record IsOwn (k : ℕ) (x : Piece ℕ) : Type 0 where
      out : σ x.out ≡ f.result
      alive : IsBit σ x.alive
      few : L k x
          ≤ 46 + (call_price ψ g + reserve p ψ (n - 0) g)
          + (contract_worth calls f hs + worth ψ (compared p.types down (measure_shapes p ψ calls f hs) old))

    own_left : (k reach : ℕ) → IsBit σ reach
        → AllSorted p.types σ k (own_call p.functions asked fr (Some f) k reach g pre down args).steps
        → IsOwn k (own_call p.functions asked fr (Some f) k reach g pre down args)
    own_left k reach bit m =
        let x = admitting asked site f.pre pre k args reach in
        let i = after k x in
        let y = comparing asked site fr f.measure down i args x.alive in
        let j = after i y in
        let z = asking p.functions 0 j y.alive g pre down args in
        let w = whole p g.0 f is in
        let my = sorted_right p.types σ k x (joined y z) m in
        let hx = admitting_light p σ ψ left asked site calls its f.pre pre k args reach hs (param_sorts f.params) are
        bit w.pre_sorted (sorted_left p.types σ k x (joined y z) m) in
        let hy = comparing_light (asks asked down) i x.alive hx.alive (sorted_left p.types σ i y z my) in
        let hz = asking_left 0 g f is j y.alive pre down args (sorted_right p.types σ i y z my) in
        let few_x = hx.few in
        let few_y = hy.few in
        let few_z = hz.few in
        let sum_1 = load_of_both p.types σ ψ left k x (joined y z) in
        let sum_2 = load_of_both p.types σ ψ left i y z in
        record { out = hz.out; alive = hz.alive; few = omega arith }

-- the sites of the own frame
module _ (p : Program) (σ : Sorts) (ψ : Prices) (r : ℕ) (asked : Option CheckId) (fr : Frame) (old : List Shape) where
  own_zero : FrameCovers (Fits σ) fr old
      → A p σ ψ 0 r old (guessing p.functions asked fr) (own_calls p.types p.functions 0)
  own_zero frames k reach g pre down args hs f is are bit m =
      let calls = inner_calls p.types p.functions 0 in
      let its = asking_answers p σ ψ 0 r [] 1 in
      let made = subst (λ (o : Option Function).
      AllSorted p.types σ k (own_call p.functions asked fr o k reach g pre down args).steps) is m in
      let h = own_left p σ ψ 0 r calls its asked fr old frames g f is pre down args hs are k reach bit made in
      let few = h.few in
      let pres = pre_events p.types calls f.pre hs in
      let vs = all_events (components p.types calls f.measure hs) in
      let goes = compared p.types down (measure_shapes p ψ calls f hs) old in
      let one = worth_of_both ψ (pres ++ vs) goes in
      let two = worth_of_both ψ pres vs in
      subst (λ (o : Option Function).
      IsAnswered p.types σ ψ (left_in p ψ 0 r) old g k (own_call p.functions asked fr o k reach g pre down args)
      f.result (visit (unfinished o) (work 32 ∷ (contract_at p.types p.functions o hs
      ++ compared p.types down (measure_at p.types p.functions o hs) old)))) (sym is)
      (record { shape = refl; out = h.out; alive = h.alive; few = omega arith })

  own_later : (m : ℕ) → FrameCovers (Fits σ) fr old
      → A p σ ψ (suc m) r old (guessing p.functions asked fr) (own_calls p.types p.functions (suc m))
  own_later n frames k reach g pre down args hs f is are bit m =
      let calls = inner_calls p.types p.functions n in
      let e : suc n - 1 ≡ n = omega arith in
      let its = subst (λ i. A p σ ψ (suc n) r [] (asking p.functions 1) (inner_calls p.types p.functions i)) e
      (asking_answers p σ ψ (suc n) r [] 1) in
      let made = subst (λ (o : Option Function).
      AllSorted p.types σ k (own_call p.functions asked fr o k reach g pre down args).steps) is m in
      let h = own_left p σ ψ (suc n) r calls its asked fr old frames g f is pre down args hs are k reach bit made in
      let few = h.few in
      let whole : suc n - 0 ≡ suc n = omega arith in
      let at = ap (λ i. reserve p ψ i g) whole in
      let low = reserve_low p ψ σ n g f is args hs are in
      let goes = compared p.types down (measure_shapes p ψ calls f hs) old in
      let v = frame_at p.types calls (Some f) hs in
      let one = worth_of_both ψ v.events goes in
      let two = frame_worth p σ ψ (suc n) r calls f hs in
      subst (λ (o : Option Function).
      IsAnswered p.types σ ψ (left_in p ψ (suc n) r) old g k (own_call p.functions asked fr o k reach g pre down args)
      f.result (let u = frame_at p.types calls o hs in
      visit u.shape (u.events ++ compared p.types down u.measure old))) (sym is)
      (record { shape = refl; out = h.out; alive = h.alive; few = omega arith })

  pub own_answers : (n : ℕ) → FrameCovers (Fits σ) fr old
      → A p σ ψ n r old (guessing p.functions asked fr) (own_calls p.types p.functions n)
  own_answers zero frames = own_zero frames
  own_answers (suc m) frames = own_later m frames
