-- A call comes to what its precondition, its measure list and its body come to, one after another.
use Rattle.std.proofs.Common.{◌≡◌, ◌∙◌, ℕ, suc, ◌-◌, Bool, true, false, List, [], ◌∷◌, ◌++◌, Option, Some, None, Ok}
use Rattle.std.proofs.Common.{Err, refl, sym, ap, arith, length, drop, map}
use Rattle.std.specs.Prelude.{◌==◌, slice_get, ⊤}
use Rattle.pp_prog.specs.declared.expr.Expr.{Expr}
use Rattle.pp_prog.specs.declared.expr.Function.{Function}
use Rattle.pp_prog.specs.declared.id.CheckId.{CheckId}
use Rattle.pp_prog.specs.declared.id.FunctionId.{FunctionId}
use Rattle.pp_prog.specs.declared.value.Value.{Value}
use Rattle.pp_eval.specs.Invocation.{admits, descends, enters, frame_of, framed}
use Rattle.pp_eval.specs.Meaning.{Frame, all, meaning}
use Rattle.pp_eval.specs.Operators.{truth}
use Rattle.pp_eval.specs.Part.{Part, and_then, either, failed, inside}
use Rattle.pp_stack.specs.declared.todo.Code.{Code}
use Rattle.pp_stack.specs.declared.todo.Here.{Here}
use Rattle.pp_stack.specs.declared.todo.Site.{Site}
use Rattle.pp_stack.specs.Left.{Rest, admit, back, begin, call, calls, descend, enter, evaluate, evaluate_all, go_on}
use Rattle.pp_stack.specs.Left.{in_body}
use Rattle.pp_stack.specs.State.{State, at_frame, cut_at, frame_in, inner, last, passed, pushed, without}
use Rattle.pp_stack.proofs.Bindings.{last_all, without_append}
use Rattle.pp_stack.proofs.Frames.{go_on_inside, truth_inside}
use Rattle.pp_stack.proofs.Going.{go_on_along, go_on_then, results_behind, tested_pushed}

go_on_inside_then : {A B : Type 0} (here : Here) (g : FunctionId) (part : Part A) (f : A → Part B) (go : B → Part State)
    → go_on here (inside g (and_then part f)) go ≡ go_on here (inside g part) (λ a. go_on here (inside g (f a)) go)
go_on_inside_then here g (Ok a) f go = refl
go_on_inside_then here g (Err stop) f go = refl

go_on_failed : {A B : Type 0} (here : Here) (check : Option CheckId) (f : A → Part State) (g : B → Part State)
    → go_on here (failed check) f ≡ go_on here (failed check) g
go_on_failed here None f g = refl
go_on_failed here (Some c) f g = refl

admitted : (here : Here) (check : Option CheckId) (t : Bool) (go : Part State) (k : Rest)
    → go_on here (let p : Part ⊤ = either t (Ok tt) (failed check) in p) (λ _. go)
    ≡ either t go (go_on here (failed check) k)
admitted here check true go k = refl
admitted here check false go k = go_on_failed here check _ k

module _ (code : Code) (k : Rest) (s : State) (site : Site) where
  abbrev deeper : Expr → Frame → List Value → Part Value
  deeper = meaning (calls code (s.here.fuel - 1))

  abbrev args : List Value
  args = last site.count s.env

  abbrev result : Value → Part State
  result v = k (pushed (record s { env = without site.count s.env }) v)

  abbrev ends : Frame → List Value → Part Value
  ends new vs = inside site.callee (deeper site.function.now.body new vs)

  abbrev asked : Frame → Part Value
  asked new = and_then (descends code.ctors.now site.measure (frame_in s) new) (λ _. ends new args)

  -- the arguments are passed
  pub call_enters : (first n : ℕ) → s.here.fuel ≡ suc n
      → slice_get code.functions.now site.callee.0 ≡ Some site.function.now → site.count ≡ length (drop first s.temps)
      → call code site.callee site.pre site.measure first k s ≡ enter code site k (passed first s)
  call_enters first n some found count =
      let given = drop first s.temps in
      let entered : Option Function → ℕ → List Value → Part Value = λ f fuel vs. enters (calls code fuel)
      code.ctors.now f (frame_in s) site.callee site.pre site.measure vs in
      let on : List Value → Value → Part State = λ env v. k (pushed (record (cut_at first s) { env = env }) v) in
      let less : n ≡ s.here.fuel - 1 = omega (arith, some) in
      ap (λ (fuel : ℕ). go_on s.here (calls code fuel (frame_in s) site.callee site.pre site.measure given)
      (on s.env)) some
      ∙ ap (λ (f : Option Function). go_on s.here (entered f n given) (on s.env)) found
      ∙ ap (λ (fuel : ℕ). go_on s.here (entered (Some site.function.now) fuel given) (on s.env)) less
      ∙ ap (λ (vs : List Value). go_on s.here (entered (Some site.function.now) (s.here.fuel - 1) vs) (on s.env))
      (sym (ap (λ (c : ℕ). last c (s.env ++ given)) count ∙ last_all s.env given))
      ∙ ap (λ (env : List Value). go_on s.here (entered (Some site.function.now) (s.here.fuel - 1)
      (last site.count (s.env ++ given))) (on env))
      (sym (ap (λ (c : ℕ). without c (s.env ++ given)) count ∙ without_append s.env given))

  -- the precondition, and back in the caller's frame what it decides
  pub enter_admits : (e : Expr) → site.function.now.pre ≡ Some e
      → enter code site k s
      ≡ evaluate code e (back s.here (admit code site k)) (at_frame (inner s.here site None) s)
  enter_admits e some =
      let rest : Part Value = framed (calls code (s.here.fuel - 1)) (inside site.callee)
      (descends code.ctors.now site.measure (frame_in s)) (λ new part. inside site.callee part) site.function.now
      args in
      let test : Bool → Part ⊤ = λ t. either t (Ok tt) (failed site.pre) in
      let go : Bool → Part State = λ t. go_on s.here (test t) (λ _. go_on s.here rest result) in
      ap (λ (p : Option Expr). go_on s.here
      (and_then (admits (calls code (s.here.fuel - 1)) site.callee p site.pre args)
      (λ _. rest)) result) some
      ∙ go_on_then s.here (and_then (inside site.callee (and_then (deeper e None args) truth)) test) (λ _. rest)
      result
      ∙ go_on_then s.here (inside site.callee (and_then (deeper e None args) truth)) test
      (λ _. go_on s.here rest result)
      ∙ go_on_inside_then s.here site.callee (deeper e None args) truth go
      ∙ go_on_along s.here (inside site.callee (deeper e None args)) _ _ (λ v.
      ap (λ (p : Part Bool). go_on s.here p go) (truth_inside site.callee v)
      ∙ go_on_along s.here (truth v) _ _ (λ t. admitted s.here site.pre t (begin code site k s) k)
      ∙ sym (tested_pushed s v (λ p. either p.0 (begin code site k p.1) (go_on s.here (failed site.pre) k))))
      ∙ sym (go_on_inside s.here (inner s.here site None) site.callee (deeper e None args)
      (λ v. admit code site k (pushed s v)) refl)

  -- the body, in a frame with these measure values
  body_measured : (vs : List Value) → go_on s.here (ends (Some vs) args) result
      ≡ in_body code site (Some (length vs)) k (record s { measures = s.measures ++ vs })
  body_measured vs =
      sym (go_on_inside s.here (inner s.here site (Some (length vs))) site.callee
      (deeper site.function.now.body (Some vs) args) result refl)
      ∙ ap (λ (new : List Value). go_on (inner s.here site (Some (length vs)))
      (deeper site.function.now.body (Some new) args) result) (sym (last_all s.measures vs))
      ∙ ap (λ (old : List Value). go_on (inner s.here site (Some (length vs)))
      (deeper site.function.now.body (Some (last (length vs) (s.measures ++ vs))) args)
      (λ v. k (record s { temps = s.temps ++ v ∷ []; env = without site.count s.env; measures = old })))
      (sym (without_append s.measures vs))

  -- the measure list, and back in the caller's frame the comparison
  pub begin_descends : (e : Expr) (es : List Expr) → site.function.now.measure ≡ e ∷ es
      → begin code site k s
      ≡ evaluate_all code (e ∷ es) (back s.here (descend code site (length s.temps) k))
      (at_frame (inner s.here site None) s)
  begin_descends e es some =
      let values : Part (List Value) = all (map (meaning (calls code (s.here.fuel - 1))) (e ∷ es)) None args in
      let body : List Value → List Value → Part State = λ ts vs. go_on s.here (descends code.ctors.now site.measure
      (frame_in s) (Some vs)) (λ _. in_body code site (Some (length vs)) k
      (record s { temps = ts; measures = s.measures ++ vs })) in
      ap (λ (es : List Expr). go_on s.here (and_then (inside site.callee (frame_of (calls code (s.here.fuel - 1)) es
      args)) asked) result) some
      ∙ go_on_then s.here (inside site.callee (frame_of (calls code (s.here.fuel - 1)) (e ∷ es) args)) asked result
      ∙ go_on_inside_then s.here site.callee values (λ vs. let r : Part Frame = Ok (Some vs) in r)
      (λ new. go_on s.here (asked new) result)
      ∙ go_on_along s.here (inside site.callee values) _ _ (λ vs.
      go_on_then s.here (descends code.ctors.now site.measure (frame_in s) (Some vs)) (λ _. ends (Some vs) args)
      result
      ∙ go_on_along s.here (descends code.ctors.now site.measure (frame_in s) (Some vs)) _ _ (λ _. body_measured vs)
      ∙ sym (results_behind body s.temps vs))
      ∙ sym (go_on_inside s.here (inner s.here site None) site.callee values
      (λ vs. descend code site (length s.temps) k (record s { temps = s.temps ++ vs })) refl)

  -- the same of the measure list, the place and the frame that a machine has
  pub begin_measured : (es : List Expr) (first : ℕ) (frame : Here) → es ≡ site.function.now.measure
      → false ≡ (length es == 0)
      → first ≡ length s.temps → frame ≡ inner s.here site None
      → evaluate_all code es (back s.here (descend code site first k)) (at_frame frame s) ≡ begin code site k s
  begin_measured [] first frame same some place is = cc
  begin_measured (e ∷ es) first frame same some place is =
      ap (λ (n : ℕ). evaluate_all code (e ∷ es) (back s.here (descend code site n k)) (at_frame frame s)) place
      ∙ ap (λ (h : Here). evaluate_all code (e ∷ es) (back s.here (descend code site (length s.temps) k))
      (at_frame h s)) is
      ∙ sym (begin_descends e es (sym same))
