-- Evaluation depends only on the functions that are called.
use Rattle.std.proofs.Common.{◌≡◌, ℕ, List, [], ◌∷◌, ◌++◌, map, Option, Some, None, Ok, Err, refl, sym, ap, ◌∙◌, arith}
use Rattle.std.proofs.Common.{Contains}
use Rattle.std.proofs.lemmas.List.Elements.{Contains-append_left, Contains-append_right}
use Rattle.pp_list.specs.Joined.{joined}
use Rattle.pp_prog.specs.declared.expr.Expr.{Expr}
use Rattle.pp_prog.specs.declared.expr.Function.{Function}
use Rattle.pp_prog.specs.declared.id.CheckId.{CheckId}
use Rattle.pp_prog.specs.declared.id.FunctionId.{FunctionId}
use Rattle.pp_prog.specs.declared.types.Ctor.{Ctor}
use Rattle.pp_prog.specs.declared.value.Value.{Value}
use Rattle.pp_prog.specs.Calls.{calls, function_calls, post_calls, pre_calls}
use Rattle.pp_eval.specs.declared.outcome.Outcome.TheVariants.{Outside}
use Rattle.pp_eval.specs.declared.outcome.Stop.{Stop}
use Rattle.pp_eval.specs.Invocation.{admits, allowed, enters, frame_of}
use Rattle.pp_eval.specs.Meaning.{CallMeaning, Frame, all_from, meaning}
use Rattle.pp_eval.specs.Operators.{truth}
use Rattle.pp_eval.specs.Part.{Part, and_then, either, failed, inside}
use Rattle.pp_eval.specs.Runs.{finished, run_with}
use Rattle.pp_run_laws.specs.Laws.{DependOnCallees, SameAt}
use Rattle.pp_run_laws.proofs.ExprFollows.{expr_follows}
use Rattle.pp_run_laws.proofs.Follows.{Follows, Kept}
use Rattle.pp_run_laws.proofs.Stops.{IsClosed}

abbrev Every : Stop → Type 0
Every x = Unit {0}

all_closed : IsClosed Every
all_closed = record { fails = λ c. tt; stuck = tt }

kept_same : {A : Type 0} (part other : Part A) → Kept Every Every part other → part ≡ other
kept_same (Ok a) other h = sym h
kept_same (Err x) other h = sym (h.1 tt)

same_kept : {A : Type 0} (part other : Part A) → part ≡ other → Kept Every Every part other
same_kept (Ok a) other e = sym e
same_kept (Err x) other e = (tt, λ s. sym e)

pub then_same : {A B : Type 0} {part other : Part A} (go on : A → Part B) → part ≡ other → ((a : A) → go a ≡ on a)
    → and_then part go ≡ and_then other on
then_same {part = part} go on e h = by part h ∙ ap (λ q. and_then q on) e
  where
    by : (q : Part _) → ((a : _) → go a ≡ on a) → and_then q go ≡ and_then q on
    by (Ok a) h = h a
    by (Err x) h = refl

-- an expression depends only on the functions that it calls
pub expr_same : (c d : CallMeaning) (e : Expr) → SameAt (calls e) c d → (frame : Frame) (env : List Value)
    → meaning c e frame env ≡ meaning d e frame env
expr_same c d e same frame env =
    let follows : (g : FunctionId) → Contains (calls e) g.0 → (pre down : Option CheckId) (args : List Value)
    → Follows Every Every (c frame g pre down args) (λ m. d frame g pre down args) =
    λ g has pre down args. record { from = 0; kept = λ m le. same_kept _ _ (same frame g has pre down args) } in
    let h = expr_follows Every Every all_closed c (λ m. d) frame frame e follows env in
    kept_same _ _ (h.kept h.from (omega arith))

pub same_left : (xs ys : List ℕ) (c d : CallMeaning) → SameAt (xs ++ ys) c d → SameAt xs c d
same_left xs ys c d same = λ frame g has. same frame g (Contains-append_left xs ys g.0 has)

pub same_right : (xs ys : List ℕ) (c d : CallMeaning) → SameAt (xs ++ ys) c d → SameAt ys c d
same_right xs ys c d same = λ frame g has. same frame g (Contains-append_right xs ys g.0 has)

module _ (c d : CallMeaning) where
  pub list_same : (es : List Expr) → SameAt (joined (map calls es)) c d → (done : List Value) (frame : Frame)
      (env : List Value) → all_from done (map (meaning c) es) frame env ≡ all_from done (map (meaning d) es) frame env
  list_same [] same done frame env = refl
  list_same (e ∷ es) same done frame env =
      then_same _ _ (expr_same c d e (same_left (calls e) _ c d same) frame env)
      (λ v. list_same es (same_right (calls e) _ c d same) (done ++ v ∷ []) frame env)

  pub allowed_same : (pre : Option Expr) → SameAt (pre_calls pre) c d → (args : List Value)
      → allowed c pre args ≡ allowed d pre args
  allowed_same None same args = refl
  allowed_same (Some pre) same args = ap (λ q. and_then q truth) (expr_same c d pre same None args)

  admits_same : (g : FunctionId) (pre : Option Expr) (check : Option CheckId) → SameAt (pre_calls pre) c d
      → (args : List Value) → admits c g pre check args ≡ admits d g pre check args
  admits_same g None check same args = refl
  admits_same g (Some pre) check same args =
      ap (λ q. and_then (inside g (and_then q truth)) (λ t. either t (Ok tt) (failed check)))
      (expr_same c d pre same None args)

  pub frame_same : (es : List Expr) → SameAt (joined (map calls es)) c d → (args : List Value)
      → frame_of c es args ≡ frame_of d es args
  frame_same [] same args = refl
  frame_same (e ∷ es) same args = ap (λ q. and_then q (λ vs. Ok (Some vs))) (list_same (e ∷ es) same [] None args)

  finished_same : (post : Option (CheckId × Expr)) → SameAt (post_calls post) c d → (frame : Frame) (args : List Value)
      (v : Value) → finished c post frame args v ≡ finished d post frame args v
  finished_same None same frame args v = refl
  finished_same (Some post) same frame args v =
      then_same _ _ (expr_same c d post.1 same frame (args ++ v ∷ [])) (λ p. refl)

  -- the calls of the parts of a function
  pre_same : (f : Function) → SameAt (function_calls f) c d → SameAt (pre_calls f.pre) c d
  pre_same f same =
      same_left (pre_calls f.pre) (joined (map calls f.measure)) c d
      (same_left (pre_calls f.pre ++ joined (map calls f.measure)) (calls f.body) c d
      (same_left (pre_calls f.pre ++ joined (map calls f.measure) ++ calls f.body) (post_calls f.post) c d same))

  measure_same : (f : Function) → SameAt (function_calls f) c d → SameAt (joined (map calls f.measure)) c d
  measure_same f same =
      same_right (pre_calls f.pre) (joined (map calls f.measure)) c d
      (same_left (pre_calls f.pre ++ joined (map calls f.measure)) (calls f.body) c d
      (same_left (pre_calls f.pre ++ joined (map calls f.measure) ++ calls f.body) (post_calls f.post) c d same))

  body_same : (f : Function) → SameAt (function_calls f) c d → SameAt (calls f.body) c d
  body_same f same =
      same_right (pre_calls f.pre ++ joined (map calls f.measure)) (calls f.body) c d
      (same_left (pre_calls f.pre ++ joined (map calls f.measure) ++ calls f.body) (post_calls f.post) c d same)

  post_same : (f : Function) → SameAt (function_calls f) c d → SameAt (post_calls f.post) c d
  post_same f same =
      same_right (pre_calls f.pre ++ joined (map calls f.measure) ++ calls f.body) (post_calls f.post) c d same

  -- a run depends only on the functions that its function calls
  pub run_same : (f : Function) → SameAt (function_calls f) c d → (args : List Value)
      → run_with c f args ≡ run_with d f args
  run_same f same args =
      then_same _ _ (allowed_same f.pre (pre_same f same) args)
      (λ allows. ap (λ q. either allows q (Ok Outside))
      (then_same _ _ (frame_same f.measure (measure_same f same) args)
      (λ frame. then_same _ _ (expr_same c d f.body (body_same f same) frame args)
      (λ v. finished_same f.post (post_same f same) frame args v))))

  -- and so does a call
  pub enters_same : (ctors : List Ctor) (f : Function) → SameAt (function_calls f) c d
      → (frame : Frame) (g : FunctionId)
      (pre down : Option CheckId) (args : List Value)
      → enters c ctors (Some f) frame g pre down args ≡ enters d ctors (Some f) frame g pre down args
  enters_same ctors f same frame g pre down args =
      then_same _ _ (admits_same g f.pre pre (pre_same f same) args)
      (λ _. then_same _ _ (ap (inside g) (frame_same f.measure (measure_same f same) args))
      (λ new. then_same _ _ refl (λ _. ap (inside g) (expr_same c d f.body (body_same f same) new args))))

pub depend_on_callees : DependOnCallees
depend_on_callees = record {
  expressions = λ c d e same frame env. expr_same c d e same frame env;
  runs = λ c d f same args. run_same c d f same args;
}
