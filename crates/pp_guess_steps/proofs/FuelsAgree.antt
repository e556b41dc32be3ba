-- Two calls of one function with equal arguments have one value, whatever their fuels.
use Rattle.std.proofs.Common.{◌≡◌, ◌≤◌, ℕ, zero, suc, Bool, true, false, List, [], ◌∷◌, ◌++◌, Option, Some, None, Ok}
use Rattle.std.proofs.Common.{Err, refl}
use Rattle.std.proofs.Common.{sym, ap, ◌∙◌, subst, arith}
use Rattle.std.specs.Prelude.{slice_get}
use Rattle.pp_prog.specs.declared.expr.Expr.{Expr}
use Rattle.pp_prog.specs.declared.expr.Function.{Function}
use Rattle.pp_prog.specs.declared.id.CheckId.{CheckId}
use Rattle.pp_prog.specs.declared.id.FunctionId.{FunctionId}
use Rattle.pp_prog.specs.declared.value.Value.{Value}
use Rattle.pp_eval.specs.declared.outcome.Stop.{Stop}
use Rattle.pp_eval.specs.declared.outcome.Stop.TheVariants as stop
use Rattle.pp_eval.specs.Equality.{equal}
use Rattle.pp_eval.specs.Meaning.{CallMeaning, Frame, meaning}
use Rattle.pp_eval.specs.Operators.{truth}
use Rattle.pp_eval.specs.Part.{Part, and_then, either}
use Rattle.pp_eval.proofs.Trees.{equal_same}
use Rattle.pp_run_laws.proofs.ExprFollows.{expr_follows}
use Rattle.pp_run_laws.proofs.Follows.{Follows, Kept}
use Rattle.pp_run_laws.proofs.Stops.{IsClosed}
use Rattle.pp_guess_runs.specs.Answers.{Answers}
use Rattle.pp_guess_runs.specs.Guess.{agreed, called, held, or_deep, unfolded}
use Rattle.pp_guess_runs.proofs.Truth.{inside_value, then_value}

-- ---- one part or the other

abbrev pub AnyStop : Stop → Type 0
AnyStop s = Unit {0}

abbrev pub NoStop : Stop → Type 0
NoStop s = ⊥

-- any stop is one that may be
pub any_closed : IsClosed AnyStop
any_closed = record { fails = λ c. tt; stuck = tt }

abbrev pub or_part : Part Value → Part Value → Part Value
or_part (Ok v) q = Ok v
or_part (Err s) q = q

-- calls that do what the first ones do where these have a value, and else what the others do
abbrev pub or_calls : CallMeaning → CallMeaning → CallMeaning
or_calls c d frame g pre down args = or_part (c frame g pre down args) (d frame g pre down args)

-- where both have a value it is the same
abbrev pub BothAgree : CallMeaning → CallMeaning → Type 0
BothAgree c d = (frame : Frame) (g : FunctionId) (pre down : Option CheckId) (args : List Value) (v w : Value)
    → c frame g pre down args ≡ Ok v → d frame g pre down args ≡ Ok w → v ≡ w

or_first : (p q : Part Value) → Kept AnyStop NoStop p (or_part p q)
or_first (Ok v) q = refl
or_first (Err s) q = (tt, λ n. absurd n)

or_second : (p q : Part Value) → ((v w : Value) → p ≡ Ok v → q ≡ Ok w → v ≡ w) → Kept AnyStop NoStop q (or_part p q)
or_second (Ok v) (Ok w) h = ap Ok (h v w refl refl)
or_second (Err s) (Ok w) h = refl
or_second p (Err s) h = (tt, λ n. absurd n)

always : {p q : Part Value} → Kept AnyStop NoStop p q → Follows AnyStop NoStop p (λ m. q)
always h = record { from = 0; kept = λ m le. h }

zero_least : 0 ≤ 0
zero_least = omega arith

abbrev the_ok : Value → Part Value
the_ok v = Ok v

kept_value : (p q : Part Value) (v : Value) → Kept AnyStop NoStop p q → p ≡ Ok v → q ≡ Ok v
kept_value (Ok u) q v h e = h ∙ e
kept_value (Err s) q v h e = cc

same_ok : (v w : Value) → the_ok v ≡ the_ok w → v ≡ w
same_ok v w e = cc

at_from : {p q : Part Value} → Follows AnyStop NoStop p (λ m. q) → Kept AnyStop NoStop p q
at_from h = h.kept h.from (self h.from)
  where
    self : (n : ℕ) → n ≤ n
    self n = omega arith

module _ (c d : CallMeaning) (both : BothAgree c d) (e : Expr) (frame : Frame) (env : List Value) where
  first_kept : Kept AnyStop NoStop (meaning c e frame env) (meaning (or_calls c d) e frame env)
  first_kept = at_from (expr_follows AnyStop NoStop any_closed c (λ m. or_calls c d) frame frame e
      (λ g has pre down args. always (or_first (c frame g pre down args) (d frame g pre down args))) env)

  second_kept : Kept AnyStop NoStop (meaning d e frame env) (meaning (or_calls c d) e frame env)
  second_kept = at_from (expr_follows AnyStop NoStop any_closed d (λ m. or_calls c d) frame frame e
      (λ g has pre down args. always (or_second (c frame g pre down args) (d frame g pre down args)
      (λ v w. both frame g pre down args v w))) env)

  pub expr_agrees : (v w : Value) → meaning c e frame env ≡ Ok v → meaning d e frame env ≡ Ok w → v ≡ w
  expr_agrees v w p q = same_ok v w (sym (kept_value _ _ v first_kept p) ∙ kept_value _ _ w second_kept q)

-- ---- the body of a call

agreed_value : (o : Option Value) (v u : Value) → agreed o v ≡ Ok u → u ≡ v
agreed_value None v u e = cc
agreed_value (Some w) v u e = by (equal w v) e
  where
    by : (t : Bool) → either t (Ok v) (Err stop.Deep) ≡ Ok u → u ≡ v
    by true e = cc
    by false e = cc

either_value : (t : Bool) (v u : Value) → either t (Ok v) (Err stop.Deep) ≡ Ok u → u ≡ v
either_value true v u e = cc
either_value false v u e = cc

pub held_value : (calls : CallMeaning) (post : Option (CheckId × Expr)) (args : List Value) (v u : Value)
    → held calls post args v ≡ Ok u → u ≡ v
held_value calls None args v u e = cc
held_value calls (Some post) args v u e =
    let p = then_value (meaning calls post.1 None (args ++ v ∷ [])) _ u e in
    let t = then_value (truth p.0) (λ t. either t (Ok v) (Err stop.Deep)) u p.2 in
    either_value t.0 v u t.2

-- a call that was unfolded and has a value has that of its body
pub unfolded_body : (calls : CallMeaning) (o : Option Value) (f : Function) (g : FunctionId) (args : List Value)
    (v : Value) → unfolded calls o (Some f) g args ≡ Ok v → meaning calls f.body None args ≡ Ok v
unfolded_body calls o f g args v e =
    let b = then_value (meaning calls f.body None args) (λ u. and_then (held calls f.post args u) (agreed o)) v
    (inside_value g _ v e) in
    let h = then_value (held calls f.post args b.0) (agreed o) v b.2 in
    b.1 ∙ ap Ok (sym (agreed_value o h.0 v h.2 ∙ held_value calls f.post args b.0 h.0 h.1))

module _ (fs : List Function) (W : Answers) where
  answer_of_unfolded : (calls : CallMeaning) (w : Value) (o : Option Function) (g : FunctionId) (args : List Value)
      (v : Value) → unfolded calls (Some w) o g args ≡ Ok v → v ≡ w
  answer_of_unfolded calls w None g args v e = cc
  answer_of_unfolded calls w (Some f) g args v e =
      let b = then_value (meaning calls f.body None args) (λ u. and_then (held calls f.post args u) (agreed (Some w))) v
      (inside_value g _ v e) in
      let h = then_value (held calls f.post args b.0) (agreed (Some w)) v b.2 in
      by h.0 (equal w h.0) refl h.2
    where
      by : (x : Value) (t : Bool) → equal w x ≡ t → either t (Ok x) (Err stop.Deep) ≡ Ok v → v ≡ w
      by x true is e = let same : x ≡ v = cc in sym same ∙ sym (equal_same w x is)
      by x false is e = cc

  answered : (o : Option Value) (v : Value) → or_deep o ≡ Ok v → o ≡ Some v
  answered None v e = cc
  answered (Some w) v e = let same : w ≡ v = cc in ap Some same

  -- calls with any two fuels agree
  pub calls_agree : (n m : ℕ) → BothAgree (called fs W n) (called fs W m)
  calls_agree zero zero frame g pre down args v w p q = same_ok v w (sym p ∙ q)
  calls_agree zero (suc m) frame g pre down args v w p q =
      let is = answered (W g args) v p in
      sym (answer_of_unfolded (called fs W m) v (slice_get fs g.0) g args w
      (subst (λ (o : Option Value). unfolded (called fs W m) o (slice_get fs g.0) g args ≡ Ok w) is q))
  calls_agree (suc n) zero frame g pre down args v w p q =
      let is = answered (W g args) w q in
      answer_of_unfolded (called fs W n) w (slice_get fs g.0) g args v
      (subst (λ (o : Option Value). unfolded (called fs W n) o (slice_get fs g.0) g args ≡ Ok v) is p)
  calls_agree (suc n) (suc m) frame g pre down args v w p q = by (calls_agree n m) (slice_get fs g.0) p q
    where
      by : BothAgree (called fs W n) (called fs W m) → (o : Option Function) → unfolded (called fs W n) (W g args) o g
          args ≡ Ok v
          → unfolded (called fs W m) (W g args) o g args ≡ Ok w → v ≡ w
      by less None p q = cc
      by less (Some f) p q = expr_agrees (called fs W n) (called fs W m) less f.body None args v w
          (unfolded_body (called fs W n) (W g args) f g args v p)
          (unfolded_body (called fs W m) (W g args) f g args w q)
