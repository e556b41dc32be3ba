-- An expression follows another's calls where each call of a function that it names does.
use Rattle.std.proofs.Common.{◌≡◌, ℕ, List, [], ◌∷◌, ◌++◌, map, Bool, true, false, Option, Some, None, Err, refl, sym}
use Rattle.std.proofs.Common.{ap, ◌∙◌, subst, Contains}
use Rattle.std.specs.Prelude.{slice_get}
use Rattle.std.proofs.lemmas.List.Elements.{Contains-append_left, Contains-append_right, Contains-push}
use Rattle.pp_list.proofs.With.{With, elements}
use Rattle.pp_prog.proofs.Induction.{case_under, each_expr, under}
use Rattle.pp_prog.specs.Parts.{case_parts}
use Rattle.pp_list.specs.Joined.{joined}
use Rattle.pp_tree.specs.declared.operator.BinaryOp.{BinaryOp}
use Rattle.pp_tree.specs.declared.operator.BinaryOp.TheVariants.{AndAlso, OrElse}
use Rattle.pp_prog.specs.declared.expr.Case.{Case}
use Rattle.pp_prog.specs.declared.expr.Expr.{Expr}
use Rattle.pp_prog.specs.declared.expr.Expr.TheFolds.{fold-roll-Expr, fold-roll-Case, map-Expr, map-Case}
use Rattle.pp_prog.specs.declared.expr.Expr.TheOpen as layer
use Rattle.pp_prog.specs.declared.expr.Expr.TheViews.{roll-Expr, roll-Case}
use Rattle.pp_prog.specs.declared.expr.Pattern.{Pattern}
use Rattle.pp_prog.specs.declared.id.CheckId.{CheckId}
use Rattle.pp_prog.specs.declared.id.FunctionId.{FunctionId}
use Rattle.pp_prog.specs.declared.value.Value.{Value}
use Rattle.pp_prog.specs.Calls.{calls, calls_in_case, calls_step}
use Rattle.pp_prog.specs.Fits.{fit}
use Rattle.pp_eval.specs.declared.outcome.Stop.{Stop}
use Rattle.pp_eval.specs.declared.outcome.Stop.TheVariants.{Fails}
use Rattle.pp_eval.specs.Meaning.{Arm, CallMeaning, Frame, Meaning, all_from, arm, arm_step, attempt_with, binary}
use Rattle.pp_eval.specs.Meaning.{field, first_case, guarded, meaning, meaning_step, or_next, taken}
use Rattle.pp_eval.specs.Operators.{operated, truth, unary}
use Rattle.pp_eval.specs.Part.{Part, failed, found}
use Rattle.pp_run_laws.proofs.Follows.{Follows, follows_along, follows_either, follows_same, follows_then}
use Rattle.pp_run_laws.proofs.Follows.{follows_value}
use Rattle.pp_run_laws.proofs.Stops.{IsClosed, field_stops, found_stops, failed_stops, may_divide, operated_stops}
use Rattle.pp_run_laws.proofs.Stops.{truth_stops, unary_stops}

-- T says how calls may stop, S which of these stops are kept. The calls of the first are made from the frame `old`,
-- those of the others from `frame`.
module _ (T S : Stop → Type 0) (closed : IsClosed T) (c : CallMeaning) (d : ℕ → CallMeaning) (old frame : Frame) where
  -- each call of g is followed
  abbrev pub CallFollows : FunctionId → Type 0
  CallFollows g =
      (pre down : Option CheckId) (args : List Value) → Follows T S (c old g pre down args)
      (λ m. d m frame g pre down args)

  -- each call of these functions is followed
  abbrev pub CallsFollow : List ℕ → Type 0
  CallsFollow gs = (g : FunctionId) → Contains gs g.0 → CallFollows g

  left : (xs ys : List ℕ) → CallsFollow (xs ++ ys) → CallsFollow xs
  left xs ys h = λ g has. h g (Contains-append_left xs ys g.0 has)

  right : (xs ys : List ℕ) → CallsFollow (xs ++ ys) → CallsFollow ys
  right xs ys h = λ g has. h g (Contains-append_right xs ys g.0 has)

  -- one meaning follows another, whatever is in scope
  abbrev MeaningFollows : Meaning → (ℕ → Meaning) → Type 0
  MeaningFollows a b = (env : List Value) → Follows T S (a old env) (λ m. b m frame env)

  abbrev GuardFollows : Option Meaning → (ℕ → Option Meaning) → Type 0
  GuardFollows a b = (env : List Value) → Follows T S (guarded a old env) (λ m. guarded (b m) frame env)

  record ArmFollows (a : Arm) (b : ℕ → Arm) : Type 0 where
    patterns : (m : ℕ) → (b m).pattern ≡ a.pattern
    guards : GuardFollows a.guard (λ m. (b m).guard)
    bodies : MeaningFollows a.body (λ m. (b m).body)

  arms_along : (a : Arm) (b b' : ℕ → Arm) → ((m : ℕ) → b' m ≡ b m) → ArmFollows a b → ArmFollows a b'
  arms_along a b b' e h = record {
    patterns = λ m. ap (λ (k : Arm). k.pattern) (e m) ∙ h.patterns m;
    guards = λ env. follows_along (λ m. ap (λ (k : Arm). guarded k.guard frame env) (e m)) (h.guards env);
    bodies = λ env. follows_along (λ m. ap (λ (k : Arm). k.body frame env) (e m)) (h.bodies env);
  }

  abbrev P : Expr → Type 0
  P e = CallsFollow (calls e) → MeaningFollows (meaning c e) (λ m. meaning (d m) e)

  abbrev Q : Case → Type 0
  Q k = CallsFollow (calls_in_case k) → ArmFollows (arm c k) (λ m. arm (d m) k)

  all_follow : (ys : List (With P)) (done : List Value) (env : List Value)
      → CallsFollow (joined (map calls (elements ys)))
      → Follows T S (all_from done (map (meaning c) (elements ys)) old env)
      (λ m. all_from done (map (meaning (d m)) (elements ys)) frame env)
  all_follow [] done env ask = follows_value
  all_follow (y ∷ ys) done env ask =
      follows_then (y.1 (left (calls y.0) _ ask) env) (λ v. all_follow ys (done ++ v ∷ []) env
      (right (calls y.0) _ ask))

  taken_follows : (t : Bool) {part : Part Value} {parts : ℕ → Part Value} → Follows T S part parts
      → Follows T S (taken t part) (λ m. taken t (parts m))
  taken_follows true h = follows_then h (λ v. follows_value)
  taken_follows false h = follows_value

  attempt_follows : (o : Option (List Value)) (a : Arm) (b : ℕ → Arm) (env : List Value) → ArmFollows a b
      → Follows T S (attempt_with o a old env) (λ m. attempt_with o (b m) frame env)
  attempt_follows None a b env h = follows_value
  attempt_follows (Some bound) a b env h =
      follows_then (h.guards (env ++ bound)) (λ t. taken_follows t (h.bodies (env ++ bound)))

  next_follows : (o : Option Value) {part : Part Value} {parts : ℕ → Part Value} → Follows T S part parts
      → Follows T S (or_next o part) (λ m. or_next o (parts m))
  next_follows None h = h
  next_follows (Some v) h = follows_value

  cases_follow : (ys : List (With Q)) (check : Option CheckId) (v : Value) (env : List Value)
      → CallsFollow (joined (map calls_in_case (elements ys)))
      → Follows T S (first_case (map (arm c) (elements ys)) check v old env)
      (λ m. first_case (map (arm (d m)) (elements ys)) check v frame env)
  cases_follow [] check v env ask =
      follows_same (failed check) (failed_stops T closed.stuck Value check (λ c _. closed.fails c))
  cases_follow (y ∷ ys) check v env ask =
      let h = y.1 (left (calls_in_case y.0) _ ask) in
      follows_then
      (follows_along (λ m. ap (λ p. attempt_with (fit p v) (arm (d m) y.0) frame env) (h.patterns m))
      (attempt_follows (fit (arm c y.0).pattern v) (arm c y.0) (λ m. arm (d m) y.0) env h))
      (λ o. next_follows o (cases_follow ys check v env (right (calls_in_case y.0) _ ask)))

  binary_follows : (op : BinaryOp) (a b : Meaning) (a' b' : ℕ → Meaning) (check : Option CheckId)
      → MeaningFollows a a' → MeaningFollows b b'
      → MeaningFollows (binary op a b check) (λ m. binary op (a' m) (b' m) check)
  binary_follows AndAlso a b a' b' check e f env =
      follows_then (e env) (λ x. follows_then (follows_same (truth x) (truth_stops T closed.stuck x))
      (λ t. follows_either t (f env) follows_value))
  binary_follows OrElse a b a' b' check e f env =
      follows_then (e env) (λ x. follows_then (follows_same (truth x) (truth_stops T closed.stuck x))
      (λ t. follows_either t follows_value (f env)))
  binary_follows op a b a' b' check e f env =
      follows_then (e env) (λ x. follows_then (f env) (λ y. follows_same (operated op check x y)
      (operated_stops T closed.stuck op check (may_divide T closed.stuck op check (λ c _. closed.fails c)) x y)))

  level : (y : layer.Expr-F (With P) (With Q))
      → CallsFollow (calls_step (map-Expr Expr Case (List ℕ) (List ℕ) calls calls_in_case
      (under y)))
      → MeaningFollows (meaning_step c (map-Expr Expr Case Meaning Arm (meaning c) (arm c) (under y)))
      (λ m. meaning_step (d m) (map-Expr Expr Case Meaning Arm (meaning (d m)) (arm (d m)) (under y)))
  level (layer.Int n) ask env = follows_value
  level (layer.Bool b) ask env = follows_value
  level (layer.Var i) ask env = follows_same (found (slice_get env i)) (found_stops T closed.stuck (slice_get env i))
  level (layer.Unary op a) ask env =
      follows_then (a.1 ask env) (λ v. follows_same (unary op v) (unary_stops T closed.stuck op v))
  level (layer.Binary op a b check) ask env =
      binary_follows op _ _ _ _ check (a.1 (left (calls a.0) _ ask)) (b.1 (right (calls a.0) _ ask)) env
  level (layer.Construct k args) ask env = follows_then (all_follow args [] env ask) (λ vs. follows_value)
  level (layer.Field e k) ask env =
      follows_then (e.1 ask env) (λ v. follows_same (field v k) (field_stops T closed.stuck v k))
  level (layer.If t a b) ask env =
      let first = left (calls t.0 ++ calls a.0) (calls b.0) ask in
      follows_then (t.1 (left (calls t.0) _ first) env) (λ v. follows_then
      (follows_same (truth v) (truth_stops T closed.stuck v))
      (λ q. follows_either q (a.1 (right (calls t.0) _ first) env) (b.1 (right (calls t.0 ++ calls a.0) _ ask) env)))
  level (layer.Match s ys check) ask env =
      follows_then (s.1 (left (calls s.0) _ ask) env) (λ v. cases_follow ys check v env (right (calls s.0) _ ask))
  level (layer.Val a b) ask env =
      follows_then (a.1 (left (calls a.0) _ ask) env) (λ v. b.1 (right (calls a.0) _ ask) (env ++ v ∷ []))
  level (layer.Assert check t rest) ask env =
      follows_then (t.1 (left (calls t.0) _ ask) env) (λ v. follows_then
      (follows_same (truth v) (truth_stops T closed.stuck v))
      (λ q. follows_either q (rest.1 (right (calls t.0) _ ask) env) (follows_same (Err (Fails check))
      (closed.fails check))))
  level (layer.Call g args pre down) ask env =
      let gs = joined (map calls (elements args)) in
      follows_then (all_follow args [] env (left gs (g.0 ∷ []) ask))
      (λ vs. right gs (g.0 ∷ []) ask g (Contains-push [] g.0) pre down vs)

  at_level : (y : layer.Expr-F (With P) (With Q)) → P (roll-Expr (under y))
  at_level y ask env =
      let z = under y in
      let called = fold-roll-Expr (List ℕ) (List ℕ) calls_step case_parts z in
      let one = fold-roll-Expr Meaning Arm (meaning_step c) arm_step z in
      follows_along (λ m. ap (λ (a : Meaning). a frame env) (fold-roll-Expr Meaning Arm (meaning_step (d m)) arm_step
      z))
      (subst (λ (a : Meaning). Follows T S (a old env) (λ m. meaning_step (d m)
      (map-Expr Expr Case Meaning Arm (meaning (d m)) (arm (d m)) z) frame env)) (sym one)
      (level y (subst CallsFollow called ask) env))

  at_parts : (p : Pattern) (o : Option (With P)) (b : With P)
      → let z = case_under Q (record { pattern = p; guard = o; body = b }) in
      CallsFollow (case_parts (map-Case Expr Case (List ℕ) (List ℕ) calls calls_in_case z))
      → ArmFollows (arm_step (map-Case Expr Case Meaning Arm (meaning c) (arm c) z))
      (λ m. arm_step (map-Case Expr Case Meaning Arm (meaning (d m)) (arm (d m)) z))
  at_parts p None b ask =
      record { patterns = λ m. refl; guards = λ env. follows_value; bodies = b.1 (right [] (calls b.0) ask) }
  at_parts p (Some e) b ask = record {
    patterns = λ m. refl;
    guards =
        λ env. follows_then (e.1 (left (calls e.0) (calls b.0) ask) env)
        (λ v. follows_same (truth v) (truth_stops T closed.stuck v));
    bodies = b.1 (right (calls e.0) (calls b.0) ask);
  }

  at_case : (y : layer.Case-F (With P) (With Q)) → Q (roll-Case (case_under Q y))
  at_case y ask =
      let z = case_under Q y in
      let called = fold-roll-Case (List ℕ) (List ℕ) calls_step case_parts z in
      let one = fold-roll-Case Meaning Arm (meaning_step c) arm_step z in
      let h = at_parts y.pattern y.guard y.body (subst CallsFollow called ask) in
      let all : (m : ℕ) → arm (d m) (roll-Case z) ≡ arm_step (map-Case Expr Case Meaning Arm (meaning (d m))
      (arm (d m)) z) =
      λ m. fold-roll-Case Meaning Arm (meaning_step (d m)) arm_step z in
      subst (λ (a : Arm). ArmFollows a (λ m. arm (d m) (roll-Case z))) (sym one) (arms_along _ _ _ all h)

  -- an expression follows where each call of a function that it names is followed
  pub expr_follows : (e : Expr) → P e
  expr_follows =
      each_expr P Q at_level at_case
