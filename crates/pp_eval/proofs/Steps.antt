-- Steps of the evaluator's loops and calls.
use Rattle.std.proofs.Common.{◌≡◌, ℕ, zero, suc, ◌+◌, ◌-◌, ◌<◌, List, [], ◌∷◌, ◌++◌, length, get_or, drop, map, Option}
use Rattle.std.proofs.Common.{Some, None, Ok, Err, Result, ap, sym, ◌∙◌, subst, arith, drop-cons}
use Rattle.std.specs.Prelude.{slice_get}
use Rattle.pp_tree.specs.declared.operator.BinaryOp.{BinaryOp}
use Rattle.pp_prog.specs.declared.expr.Case.{Case}
use Rattle.pp_prog.specs.declared.expr.Expr.{Expr}
use Rattle.pp_prog.specs.declared.expr.Expr.TheFolds.{fold-roll-Expr}
use Rattle.pp_prog.specs.declared.expr.Expr.TheOpen as layer
use Rattle.pp_prog.specs.declared.expr.Expr.TheVariants.{Binary, rolls-Binary}
use Rattle.pp_prog.specs.declared.expr.Function.{Function}
use Rattle.pp_prog.specs.declared.id.CheckId.{CheckId}
use Rattle.pp_prog.specs.declared.id.FunctionId.{FunctionId}
use Rattle.pp_prog.specs.declared.types.Ctor.{Ctor}
use Rattle.pp_prog.specs.declared.value.Value.{Value}
use Rattle.pp_eval.specs.declared.outcome.Halt.{Halt}
use Rattle.pp_eval.specs.declared.outcome.Halt.TheVariants.{Memory, Stopped}
use Rattle.pp_eval.specs.Invocation.{calls_to, enters}
use Rattle.pp_eval.specs.Meaning.{Arm, CallMeaning, Frame, Meaning, all_from, arm_step, attempt, binary, first_case}
use Rattle.pp_eval.specs.Meaning.{meaning, meaning_step, or_next}
use Rattle.pp_eval.specs.Part.{Part, Tells, and_then}

-- the rest begins with the item
rest_at : {X Y : Type 0} (f : X → Y) (xs : List X) (i : ℕ) (x : X) → i < length xs → x ≡ get_or xs i x
    → map f (drop i xs) ≡ f x ∷ map f (drop (i + 1) xs)
rest_at f xs i x lt is =
    let e : drop i xs ≡ get_or xs i x ∷ drop (suc i) xs = drop-cons xs i x lt in
    let n : suc i ≡ i + 1 = omega arith in
    ap (map f) e ∙ ap (λ y. f y ∷ map f (drop (suc i) xs)) (sym is) ∙ ap (λ k. f x ∷ map f (drop k xs)) n

-- a part that stops stops the whole
pub stops : {A B : Type 0} (r : Result B Halt) (h : Halt) (part : Part A) (whole : Part B) (go : A → Part B) → r ≡ Err h
    → whole ≡ and_then part go → Tells (Err h) part → Tells r whole
stops r h part whole go is e told = subst (λ q. Tells q whole) (sym is) (by h told)
  where
    by : (k : Halt) → Tells (Err k) part → Tells (Err k) whole
    by Memory told = tt
    by (Stopped s) told = e ∙ ap (λ q. and_then q go) told

-- a turn at an expression x, place i of a list, after the values done: what is left comes to the whole
module _ (m : Expr → Meaning) (xs : List Expr) (i : ℕ) (x : Expr) (done : List Value) (frame : Frame)
    (env here : List Value) (whole : Part (List Value)) where
  values_step : i < length xs → x ≡ get_or xs i x → whole ≡ all_from done (map m (drop i xs)) frame env → here ≡ env
      → whole ≡ and_then (m x frame here) (λ v. all_from (done ++ v ∷ []) (map m (drop (i + 1) xs)) frame env)
  values_step lt is left same =
      left ∙ ap (λ ms. all_from done ms frame env) (rest_at m xs i x lt is)
      ∙ ap (λ e. and_then (m x frame e) (λ v. all_from (done ++ v ∷ []) (map m (drop (i + 1) xs)) frame env)) (sym same)

  pub values_turn : (v : Value) (more : List Value) → i < length xs → x ≡ get_or xs i x
      → whole ≡ all_from done (map m (drop i xs)) frame env → here ≡ env
      → m x frame here ≡ Ok v → more ≡ done ++ v ∷ [] → whole ≡ all_from more (map m (drop (i + 1) xs)) frame env
  values_turn v more lt is left same told pushed =
      values_step lt is left same
      ∙ ap (λ r. and_then r (λ w. all_from (done ++ w ∷ []) (map m (drop (i + 1) xs)) frame env)) told
      ∙ ap (λ vs. all_from vs (map m (drop (i + 1) xs)) frame env) (sym pushed)

  pub values_stop : (r : Result (List Value) Halt) (h : Halt) → i < length xs → x ≡ get_or xs i x
      → whole ≡ all_from done (map m (drop i xs)) frame env → here ≡ env
      → r ≡ Err h → Tells (Err h) (m x frame here) → Tells r whole
  values_stop r h lt is left same stopped told = stops r h _ whole _ stopped (values_step lt is left same) told

-- a turn at a case c, place i of a list: what is left comes to the whole
module _ (a : Case → Arm) (cs : List Case) (i : ℕ) (c : Case) (check : Option CheckId) (v : Value) (frame : Frame)
    (env here : List Value) (whole : Part Value) where
  case_step : i < length cs → c ≡ get_or cs i c → whole ≡ first_case (map a (drop i cs)) check v frame env → here ≡ env
      → whole ≡ and_then (attempt (a c) v frame here) (λ o. or_next o
      (first_case (map a (drop (i + 1) cs)) check v frame env))
  case_step lt is left same =
      left ∙ ap (λ arms. first_case arms check v frame env) (rest_at a cs i c lt is)
      ∙ ap (λ e. and_then (attempt (a c) v frame e) (λ o. or_next o
      (first_case (map a (drop (i + 1) cs)) check v frame env))) (sym same)

  pub case_passed : (o : Option Value) → i < length cs → c ≡ get_or cs i c
      → whole ≡ first_case (map a (drop i cs)) check v frame env → here ≡ env
      → attempt (a c) v frame here ≡ Ok o → o ≡ None → whole ≡ first_case (map a (drop (i + 1) cs)) check v frame env
  case_passed o lt is left same told none =
      case_step lt is left same ∙ ap (λ r. and_then r (λ q. or_next q
      (first_case (map a (drop (i + 1) cs)) check v frame env))) (told ∙ ap Ok none)

  pub case_taken : (o : Option Value) (w : Value) → i < length cs → c ≡ get_or cs i c
      → whole ≡ first_case (map a (drop i cs)) check v frame env → here ≡ env
      → attempt (a c) v frame here ≡ Ok o → o ≡ Some w → whole ≡ Ok w
  case_taken o w lt is left same told some =
      case_step lt is left same ∙ ap (λ r. and_then r (λ q. or_next q
      (first_case (map a (drop (i + 1) cs)) check v frame env))) (told ∙ ap Ok some)

  pub case_stop : (r : Result Value Halt) (h : Halt) → i < length cs → c ≡ get_or cs i c
      → whole ≡ first_case (map a (drop i cs)) check v frame env → here ≡ env
      → r ≡ Err h → Tells (Err h) (attempt (a c) v frame here) → Tells r whole
  case_stop r h lt is left same stopped told = stops r h _ whole _ stopped (case_step lt is left same) told

pub tells_along : {A : Type 0} (r : Result A Halt) (p q : Part A) → q ≡ p → Tells r p → Tells r q
tells_along (Ok a) p q e told = e ∙ told
tells_along (Err Memory) p q e told = tt
tells_along (Err (Stopped s)) p q e told = e ∙ told

-- an operator with two operands, by what they mean
pub binary_at : (calls : CallMeaning) (frame : Frame) (env : List Value) {e a b c d : Expr} {op : BinaryOp}
    {check : Option CheckId} → e ≡ Binary op a b check → c ≡ a → d ≡ b
    → meaning calls e frame env ≡ binary op (meaning calls c) (meaning calls d) check frame env
binary_at calls frame env {e = e} {a = a} {b = b} {c = c} {d = d} {op = op} {check = check} is f g =
    ap (λ (x : Expr). meaning calls x frame env) (is ∙ sym (rolls-Binary op a b check))
    ∙ ap (λ (m : Meaning). m frame env)
    (fold-roll-Expr Meaning Arm (meaning_step calls) arm_step (layer.Binary op a b check))
    ∙ ap (λ (x : Expr). binary op (meaning calls x) (meaning calls b) check frame env) (sym f)
    ∙ ap (λ (x : Expr). binary op (meaning calls c) (meaning calls x) check frame env) (sym g)

pub call_at : (ctors : List Ctor) (fs : List Function) (n : ℕ) (frame : Frame) (g : FunctionId)
    (pre measure : Option CheckId) (args : List Value) (f : Function) → 0 < n → slice_get fs g.0 ≡ Some f
    → calls_to ctors fs n frame g pre measure args ≡ enters (calls_to ctors fs (n - 1)) ctors (Some f) frame g pre
    measure args
call_at ctors fs zero frame g pre measure args f lt is = absurd (omega arith)
call_at ctors fs (suc n) frame g pre measure args f lt is =
    let e : n ≡ suc n - 1 = omega arith in
    ap (λ o. enters (calls_to ctors fs n) ctors o frame g pre measure args) is
    ∙ ap (λ k. enters (calls_to ctors fs k) ctors (Some f) frame g pre measure args) e
