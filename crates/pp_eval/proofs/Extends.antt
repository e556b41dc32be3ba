-- More fuel changes no outcome of an expression but Deep.
use Rattle.std.proofs.Common.{◌≡◌, ℕ, zero, suc, ◌≤◌, Bool, true, false, List, [], ◌∷◌, ◌++◌, map, Option, Some, None}
use Rattle.std.proofs.Common.{Ok, Err, refl, ap, sym, subst, arith}
use Rattle.std.specs.Prelude.{◌≢◌, slice_get}
use Rattle.pp_list.proofs.With.{With, elements}
use Rattle.pp_prog.proofs.Induction.{case_under, each_expr, under}
use Rattle.pp_tree.specs.declared.operator.BinaryOp.{BinaryOp}
use Rattle.pp_tree.specs.declared.operator.BinaryOp.TheVariants.{AndAlso, OrElse}
use Rattle.pp_prog.specs.declared.expr.Case.{Case}
use Rattle.pp_prog.specs.declared.expr.Expr.{Expr}
use Rattle.pp_prog.specs.declared.expr.Expr.TheFolds.{fold-roll-Expr, fold-roll-Case, map-Expr, map-Case}
use Rattle.pp_prog.specs.declared.expr.Expr.TheOpen as layer
use Rattle.pp_prog.specs.declared.expr.Expr.TheViews.{roll-Expr, roll-Case}
use Rattle.pp_prog.specs.declared.expr.Function.{Function}
use Rattle.pp_prog.specs.declared.expr.Pattern.{Pattern}
use Rattle.pp_prog.specs.declared.id.CheckId.{CheckId}
use Rattle.pp_prog.specs.declared.id.FunctionId.{FunctionId}
use Rattle.pp_prog.specs.declared.types.Ctor.{Ctor}
use Rattle.pp_prog.specs.declared.value.Value.{Value}
use Rattle.pp_prog.specs.Fits.{fit}
use Rattle.pp_eval.specs.declared.outcome.Stop.TheVariants.{Fails, Inner, Deep, Stuck}
use Rattle.pp_eval.specs.Invocation.{admits, allowed, calls_to, descends, enters, eval, frame_of}
use Rattle.pp_eval.specs.Meaning.{Arm, CallMeaning, Frame, Meaning, all_from, arm, arm_step, attempt, attempt_with}
use Rattle.pp_eval.specs.Meaning.{binary, field, first_case, guarded, meaning, meaning_step, or_next, taken}
use Rattle.pp_eval.specs.Operators.{operated, truth, unary}
use Rattle.pp_eval.specs.Part.{Part, and_then, either, failed, found, inside}

-- the second is the first, unless the first is Deep
abbrev pub Extends : {A : Type 0} → Part A → Part A → Type 0
Extends (Ok a) s = s ≡ Ok a
Extends (Err (Fails c)) s = s ≡ Err (Fails c)
Extends (Err (Inner g c)) s = s ≡ Err (Inner g c)
Extends (Err Deep) s = Unit {0}
Extends (Err Stuck) s = s ≡ Err Stuck

pub same_extends : {A : Type 0} (r : Part A) → Extends r r
same_extends (Ok a) = refl
same_extends (Err (Fails c)) = refl
same_extends (Err (Inner g c)) = refl
same_extends (Err Deep) = tt
same_extends (Err Stuck) = refl

pub then_extends : {A B : Type 0} (r s : Part A) (go on : A → Part B) → Extends r s → ((a : A) → Extends (go a) (on a))
    → Extends (and_then r go) (and_then s on)
then_extends (Ok a) s go on e h = subst (λ q. Extends (go a) (and_then q on)) (sym e) (h a)
then_extends (Err (Fails c)) s go on e h = ap (λ q. and_then q on) e
then_extends (Err (Inner g c)) s go on e h = ap (λ q. and_then q on) e
then_extends (Err Deep) s go on e h = tt
then_extends (Err Stuck) s go on e h = ap (λ q. and_then q on) e

pub inside_extends : {A : Type 0} (g : FunctionId) (r s : Part A) → Extends r s → Extends (inside g r) (inside g s)
inside_extends g (Ok a) s e = ap (inside g) e
inside_extends g (Err (Fails c)) s e = ap (inside g) e
inside_extends g (Err (Inner h c)) s e = ap (inside g) e
inside_extends g (Err Deep) s e = tt
inside_extends g (Err Stuck) s e = ap (inside g) e

pub either_extends : {A : Type 0} (t : Bool) (a b c d : Part A) → Extends a b → Extends c d
    → Extends (either t a c) (either t b d)
either_extends true a b c d e f = e
either_extends false a b c d e f = f

pub taken_extends : (t : Bool) (r s : Part Value) → Extends r s → Extends (taken t r) (taken t s)
taken_extends true r s e = then_extends r s _ _ e (λ v. refl)
taken_extends false r s e = refl

pub next_extends : (o : Option Value) (r s : Part Value) → Extends r s → Extends (or_next o r) (or_next o s)
next_extends None r s e = e
next_extends (Some v) r s e = refl

-- one meaning extends the other, in each frame
abbrev pub Covers : Meaning → Meaning → Type 0
Covers m n = (frame : Frame) (env : List Value) → Extends (m frame env) (n frame env)

abbrev CoversArm : Arm → Arm → Type 0
CoversArm a b =
    (a.pattern ≡ b.pattern) × ((frame : Frame) (env : List Value)
    → Extends (guarded a.guard frame env) (guarded b.guard frame env)) × Covers a.body b.body

-- what calls do extends what others do
abbrev pub CallsCover : CallMeaning → CallMeaning → Type 0
CallsCover c d =
    (frame : Frame) (g : FunctionId) (pre measure : Option CheckId) (args : List Value)
    → Extends (c frame g pre measure args) (d frame g pre measure args)

module _ (c d : CallMeaning) (more : CallsCover c d) where
  abbrev P : Expr → Type 0
  P e = Covers (meaning c e) (meaning d e)

  abbrev Q : Case → Type 0
  Q k = CoversArm (arm c k) (arm d k)

  all_extends : (ys : List (With P)) (done : List Value) (frame : Frame) (env : List Value)
      → Extends (all_from done (map (meaning c) (elements ys)) frame env)
      (all_from done (map (meaning d) (elements ys)) frame env)
  all_extends [] done frame env = refl
  all_extends (y ∷ ys) done frame env = then_extends _ _ _ _ (y.1 frame env)
      (λ v. all_extends ys (done ++ v ∷ []) frame env)

  attempt_extends : (o : Option (List Value)) (a b : Arm) (frame : Frame) (env : List Value) → CoversArm a b
      → Extends (attempt_with o a frame env) (attempt_with o b frame env)
  attempt_extends None a b frame env h = refl
  attempt_extends (Some bound) a b frame env h =
      then_extends _ _ _ _ (h.1 frame (env ++ bound)) (λ t. taken_extends t _ _ (h.2 frame (env ++ bound)))

  cases_extend : (ys : List (With Q)) (check : Option CheckId) (v : Value) (frame : Frame) (env : List Value)
      → Extends (first_case (map (arm c) (elements ys)) check v frame env)
      (first_case (map (arm d) (elements ys)) check v frame env)
  cases_extend [] check v frame env = same_extends (failed check)
  cases_extend (y ∷ ys) check v frame env =
      then_extends _ _ _ _
      (subst (λ p. Extends (attempt (arm c y.0) v frame env) (attempt_with (fit p v) (arm d y.0) frame env)) y.1.0
      (attempt_extends (fit (arm c y.0).pattern v) (arm c y.0) (arm d y.0) frame env y.1))
      (λ o. next_extends o _ _ (cases_extend ys check v frame env))

  binary_extends : (op : BinaryOp) (a a' b b' : Meaning) (check : Option CheckId) → Covers a a' → Covers b b'
      → Covers (binary op a b check) (binary op a' b' check)
  binary_extends AndAlso a a' b b' check e f frame env =
      then_extends _ _ _ _ (e frame env) (λ x. then_extends _ _ _ _ (same_extends (truth x))
      (λ t. either_extends t _ _ _ _ (f frame env) refl))
  binary_extends OrElse a a' b b' check e f frame env =
      then_extends _ _ _ _ (e frame env) (λ x. then_extends _ _ _ _ (same_extends (truth x))
      (λ t. either_extends t _ _ _ _ refl (f frame env)))
  binary_extends op a a' b b' check e f frame env =
      then_extends _ _ _ _ (e frame env) (λ x. then_extends _ _ _ _ (f frame env)
      (λ y. same_extends (operated op check x y)))

  level : (y : layer.Expr-F (With P) (With Q)) (frame : Frame) (env : List Value)
      → Extends (meaning_step c (map-Expr Expr Case Meaning Arm (meaning c) (arm c)
      (under y)) frame env)
      (meaning_step d (map-Expr Expr Case Meaning Arm (meaning d) (arm d)
      (under y)) frame env)
  level (layer.Int n) frame env = refl
  level (layer.Bool b) frame env = refl
  level (layer.Var i) frame env = same_extends (found (slice_get env i))
  level (layer.Unary op a) frame env = then_extends _ _ _ _ (a.1 frame env) (λ v. same_extends (unary op v))
  level (layer.Binary op a b check) frame env = binary_extends op _ _ _ _ check a.1 b.1 frame env
  level (layer.Construct k args) frame env = then_extends _ _ _ _ (all_extends args [] frame env) (λ vs. refl)
  level (layer.Field e k) frame env = then_extends _ _ _ _ (e.1 frame env) (λ v. same_extends (field v k))
  level (layer.If t a b) frame env =
      then_extends _ _ _ _ (t.1 frame env) (λ v. then_extends _ _ _ _ (same_extends (truth v))
      (λ q. either_extends q _ _ _ _ (a.1 frame env) (b.1 frame env)))
  level (layer.Match s cases check) frame env = then_extends _ _ _ _ (s.1 frame env)
      (λ v. cases_extend cases check v frame env)
  level (layer.Val a b) frame env = then_extends _ _ _ _ (a.1 frame env) (λ v. b.1 frame (env ++ v ∷ []))
  level (layer.Assert check t rest) frame env =
      then_extends _ _ _ _ (t.1 frame env) (λ v. then_extends _ _ _ _ (same_extends (truth v))
      (λ q. either_extends q _ _ _ _ (rest.1 frame env) refl))
  level (layer.Call g args pre measure) frame env =
      then_extends _ _ _ _ (all_extends args [] frame env) (λ vs. more frame g pre measure vs)

  at_level : (y : layer.Expr-F (With P) (With Q)) → P (roll-Expr (under y))
  at_level y frame env =
      let z = under y in
      let one = fold-roll-Expr Meaning Arm (meaning_step c) arm_step z in
      let two = fold-roll-Expr Meaning Arm (meaning_step d) arm_step z in
      subst (λ (m : Meaning). Extends (m frame env) (meaning d (roll-Expr z) frame env)) (sym one)
      (subst (λ (m : Meaning). Extends (meaning_step c (map-Expr Expr Case Meaning Arm (meaning c) (arm c) z) frame env)
      (m frame env)) (sym two) (level y frame env))

  at_parts : (p : Pattern) (o : Option (With P)) (b : With P) → let y : layer.Case-F (With P) (With Q) =
      record { pattern = p; guard = o; body = b } in
      let z = case_under Q y in
      CoversArm (arm_step (map-Case Expr Case Meaning Arm (meaning c) (arm c) z))
      (arm_step (map-Case Expr Case Meaning Arm (meaning d) (arm d) z))
  at_parts p None b = (refl, λ frame env. refl, b.1)
  at_parts p (Some e) b = (refl, λ frame env. then_extends _ _ _ _ (e.1 frame env) (λ v. same_extends (truth v)), b.1)

  at_case : (y : layer.Case-F (With P) (With Q)) → Q (roll-Case (case_under Q y))
  at_case y =
      let z = case_under Q y in
      let one = fold-roll-Case Meaning Arm (meaning_step c) arm_step z in
      let two = fold-roll-Case Meaning Arm (meaning_step d) arm_step z in
      subst (λ a. CoversArm a (arm d (roll-Case z))) (sym one)
      (subst (λ a. CoversArm (arm_step (map-Case Expr Case Meaning Arm (meaning c) (arm c) z)) a) (sym two)
      (at_parts y.pattern y.guard y.body))

  pub expr_covers : (e : Expr) → Covers (meaning c e) (meaning d e)
  expr_covers = each_expr P Q at_level at_case

  list_covers : (es : List Expr) (done : List Value) (frame : Frame) (env : List Value)
      → Extends (all_from done (map (meaning c) es) frame env) (all_from done (map (meaning d) es) frame env)
  list_covers [] done frame env = refl
  list_covers (e ∷ es) done frame env = then_extends _ _ _ _ (expr_covers e frame env)
      (λ v. list_covers es (done ++ v ∷ []) frame env)

  pub allowed_extends : (pre : Option Expr) (args : List Value) → Extends (allowed c pre args) (allowed d pre args)
  allowed_extends None args = refl
  allowed_extends (Some pre) args = then_extends _ _ _ _ (expr_covers pre None args) (λ v. same_extends (truth v))

  pub admits_extends : (g : FunctionId) (pre : Option Expr) (check : Option CheckId) (args : List Value)
      → Extends (admits c g pre check args) (admits d g pre check args)
  admits_extends g pre check args =
      then_extends _ _ _ _ (inside_extends g _ _ (allowed_extends pre args))
      (λ t. same_extends (either t (Ok tt) (failed check)))

  pub frame_extends : (es : List Expr) (args : List Value) → Extends (frame_of c es args) (frame_of d es args)
  frame_extends [] args = refl
  frame_extends (e ∷ es) args = then_extends _ _ _ _ (list_covers (e ∷ es) [] None args) (λ vs. refl)

  pub enters_cover : (ctors : List Ctor) (o : Option Function) → CallsCover (enters c ctors o) (enters d ctors o)
  enters_cover ctors None frame g pre measure args = refl
  enters_cover ctors (Some f) frame g pre measure args =
      then_extends _ _ _ _ (admits_extends g f.pre pre args) (λ _.
      then_extends _ _ _ _ (inside_extends g _ _ (frame_extends f.measure args)) (λ new.
      then_extends _ _ _ _ (same_extends (descends ctors measure frame new)) (λ _.
      inside_extends g _ _ (expr_covers f.body new args))))

pub calls_cover : (ctors : List Ctor) (fs : List Function) (n m : ℕ) → n ≤ m
    → CallsCover (calls_to ctors fs n) (calls_to ctors fs m)
calls_cover ctors fs zero m le frame g pre measure args = tt
calls_cover ctors fs (suc n) zero le frame g pre measure args = absurd (omega arith)
calls_cover ctors fs (suc n) (suc m) le frame g pre measure args =
    enters_cover (calls_to ctors fs n) (calls_to ctors fs m) (calls_cover ctors fs n m (omega arith)) ctors
    (slice_get fs g.0) frame g pre measure args

-- an outcome of an expression other than Deep stays the same with more fuel
pub eval_extends : (ctors : List Ctor) (fs : List Function) (n m : ℕ) (frame : Frame) (env : List Value) (e : Expr)
    → n ≤ m → Extends (eval ctors fs n frame env e) (eval ctors fs m frame env e)
eval_extends ctors fs n m frame env e le =
    expr_covers (calls_to ctors fs n) (calls_to ctors fs m) (calls_cover ctors fs n m le) e frame env

-- a part that isn't Deep is what it is with more fuel
pub part_lasts : {A : Type 0} (part other : Part A) → Extends part other → part ≢ Err Deep → other ≡ part
part_lasts (Ok a) other h never = h
part_lasts (Err (Fails c)) other h never = h
part_lasts (Err (Inner g c)) other h never = h
part_lasts (Err Deep) other h never = absurd (never refl)
part_lasts (Err Stuck) other h never = h
