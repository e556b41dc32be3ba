-- Operators that evaluate both operands.
use Rattle.std.proofs.Common.{◌≡◌, ℕ, suc, Bool, true, false, List, [], ◌∷◌, Option, None, Ok, Err, refl, sym, ap, ◌∙◌}
use Rattle.std.proofs.Common.{subst}
use Rattle.std.specs.Prelude.{pos, not}
use Rattle.std.specs.Ordering.{int_eq}
use Rattle.pp_tree.specs.declared.operator.BinaryOp.{BinaryOp}
use Rattle.pp_tree.specs.declared.operator.BinaryOp.TheVariants.{Div, Rem, Equal}
use Rattle.pp_prog.specs.declared.id.CheckId.{CheckId}
use Rattle.pp_prog.specs.declared.types.Ctor.{Ctor}
use Rattle.pp_prog.specs.declared.value.Value.{Value}
use Rattle.pp_prog.specs.declared.value.Value.TheVariants.{Bool as Truth}
use Rattle.pp_eval.specs.declared.outcome.Stop.TheVariants.{Fails}
use Rattle.pp_eval.specs.Equality.{equal}
use Rattle.pp_eval.specs.Meaning.{Frame, Meaning}
use Rattle.pp_eval.specs.Operators.{operated}
use Rattle.pp_eval.specs.Part.{and_then, either, failed}
use Rattle.pp_eval.proofs.Extends.{same_extends, then_extends}
use Rattle.pp_steps.specs.declared.step.Step.TheVariants as steps
use Rattle.pp_steps.specs.Meaning.{Missing, Values, applied, bit, value_or}
use Rattle.pp_steps.specs.Compile.{Compiling, one, operating, quotient}
use Rattle.pp_steps.specs.Piece.{Piece, after, asks, bind, demand, joined, plain}
use Rattle.pp_steps_run.specs.Told.{AreValues, IsMade, IsQuiet, IsTold, IsValue, Off, On}
use Rattle.pp_steps_run.proofs.Choices.{demand_off, demand_on, demand_quiet}
use Rattle.pp_steps_run.proofs.Lasting.{Lasts, failed_is, told_then}
use Rattle.pp_steps_run.proofs.Operators.{Divided, div_is, operated_ends, rem_is, zero_is}
use Rattle.pp_steps_run.proofs.Pieces.{bit_truth, made_left, made_right, quiet_bind, quiet_plain, told_after, told_stop}
use Rattle.pp_steps_run.proofs.Rights.{IsRight, ends_alike, step_told}

module _ (ctors : List Ctor) (missing : Missing) (ρ : Values) (asked : Option CheckId) where
  -- what an operator leaves on two operands with the values u and v
  module _ (op : BinaryOp) (check : Option CheckId) (k alive x y : ℕ) where
    abbrev Zero : Piece ℕ
    Zero = plain (steps.Int (pos 0) ∷ steps.Binary Equal y k ∷ steps.Not (suc k) ∷ []) (suc (suc k)) alive

    abbrev Demand : Piece ℕ
    Demand = demand (asks asked check) (after k Zero) alive (suc (suc k))

    abbrev Quotient : Piece ℕ
    Quotient = one (steps.Binary op x y) (after (after k Zero) Demand) Demand.alive

    quotient_quiet : IsMade ctors missing ρ k (quotient asked op check k alive x y) → Off ρ alive
        → IsQuiet ρ (quotient asked op check k alive x y)
    quotient_quiet h dead =
        let m = made_right ctors missing ρ k Zero (joined Demand Quotient) h in
        quiet_bind ρ Zero (joined Demand Quotient) (quiet_plain ρ _ (suc (suc k)) alive dead)
        (λ d. quiet_bind ρ Demand Quotient
        (demand_quiet ctors missing ρ (asks asked check) (after k Zero) alive (suc (suc k))
        (made_left ctors missing ρ (after k Zero) Demand Quotient m) d)
        (λ e. quiet_plain ρ _ (after (after k Zero) Demand) Demand.alive e))

    module _ (u v : Value) (is_u : ρ x ≡ u) (is_v : ρ y ≡ v) where
      quotient_by : (value : Value) (t : Bool) → applied op u v ≡ Ok value
          → IsMade ctors missing ρ k (quotient asked op check k alive x y) → On ρ alive
          → bit (ρ (suc (suc k))) ≡ not t → Lasts (either t (failed check) (Ok value))
          → IsTold ρ asked (IsValue ρ) (quotient asked op check k alive x y) (either t (failed check) (Ok value))
      quotient_by value false e h on is lasts =
          let m = made_right ctors missing ρ k Zero (joined Demand Quotient) h in
          let md = made_left ctors missing ρ (after k Zero) Demand Quotient m in
          let mq = made_right ctors missing ρ (after k Zero) Demand Quotient m in
          let d = demand_on ctors missing ρ (asks asked check) (after k Zero) alive (suc (suc k)) md on is in
          told_after ρ asked Zero (joined Demand Quotient) (Ok value) tt
          (told_after ρ asked Demand Quotient (Ok value) d.1
          (step_told ctors missing ρ asked None (steps.Binary op x y)
          (after (after k Zero) Demand) Demand.alive value d.0
          (mq.steps.0 ∙ ap (λ w. value_or (Truth false) (applied op w (ρ y))) is_u ∙ ap
          (λ w. value_or (Truth false) (applied op u w)) is_v ∙ ap (value_or (Truth false)) e)))
      quotient_by value true e h on is lasts =
          let c = failed_is check lasts in
          let m = made_right ctors missing ρ k Zero (joined Demand Quotient) h in
          let md = made_left ctors missing ρ (after k Zero) Demand Quotient m in
          let d = demand_off ctors missing ρ (asks asked check) (after k Zero) alive (suc (suc k)) md on is in
          subst (λ q. IsTold ρ asked (IsValue ρ) (quotient asked op check k alive x y) q) (sym (ap failed c.1))
          (told_after ρ asked Zero (joined Demand Quotient) (Err (Fails c.0)) tt
          (told_stop ρ asked Demand Quotient (Fails c.0)
          (subst (λ (o : Option CheckId). Rattle.pp_steps_run.specs.Told.Flags ρ (asks asked o) Demand.fails) c.1 d.1)
          (quiet_plain ρ _ (after (after k Zero) Demand) Demand.alive d.0)))

      quotient_told : Divided op check u v → IsMade ctors missing ρ k (quotient asked op check k alive x y)
          → On ρ alive
          → Lasts (operated op check u v)
          → IsTold ρ asked (IsValue ρ) (quotient asked op check k alive x y) (operated op check u v)
      quotient_told d h on lasts =
          let zero = ap (λ w. equal w (ρ k)) is_v ∙ ap (equal v) h.steps.0 ∙ zero_is v d.divisor d.is_divisor in
          subst (λ q. IsTold ρ asked (IsValue ρ) (quotient asked op check k alive x y) q) (sym d.is)
          (quotient_by d.value (int_eq d.divisor (pos 0)) d.applied_is h on
          (ap bit h.steps.1.1.0 ∙ bit_truth _ ∙ ap not (ap bit h.steps.1.0 ∙ bit_truth _ ∙ zero))
          (subst Lasts d.is lasts))

  pub operating_quiet : (op : BinaryOp) (check : Option CheckId) (k alive x y : ℕ)
      → IsMade ctors missing ρ k (operating asked op check k alive x y) → Off ρ alive → IsQuiet ρ
      (operating asked op check k alive x y)
  operating_quiet Div check k alive x y h dead = quotient_quiet Div check k alive x y h dead
  operating_quiet Rem check k alive x y h dead = quotient_quiet Rem check k alive x y h dead
  operating_quiet op check k alive x y h dead = quiet_plain ρ _ k alive dead

  pub operating_told : (op : BinaryOp) (check : Option CheckId) (k alive x y : ℕ) (u v : Value) → ρ x ≡ u → ρ y ≡ v
      → IsMade ctors missing ρ k (operating asked op check k alive x y) → On ρ alive → Lasts
      (operated op check u v)
      → IsTold ρ asked (IsValue ρ) (operating asked op check k alive x y) (operated op check u v)
  operating_told Div check k alive x y u v e f h on lasts =
      quotient_told Div check k alive x y u v e f (div_is check u v lasts) h on lasts
  operating_told Rem check k alive x y u v e f h on lasts =
      quotient_told Rem check k alive x y u v e f (rem_is check u v lasts) h on lasts
  operating_told op check k alive x y u v e f h on lasts =
      ends_alike ctors missing ρ asked None (steps.Binary op x y) k alive (operated op check u v)
      (applied op u v) (operated_ends op refl check u v lasts) on
      (h.steps.0 ∙ ap (λ w. value_or (Truth false) (applied op w (ρ y))) e ∙ ap
      (λ w. value_or (Truth false) (applied op u w)) f)

  module _ (frame : Frame) where
    abbrev Right : Compiling → Meaning → Meaning → Type 0
    Right = IsRight ctors missing ρ asked frame

    pub strict_right : (op : BinaryOp) (check : Option CheckId) (a : Compiling) (pa fa : Meaning) → Right a pa fa
        → (b : Compiling) (pb fb : Meaning) → Right b pb fb
        → Right (λ k env reach. bind k (a k env reach)
        (λ n x alive. bind n (b n env alive) (λ m y going. operating asked op check m going x y)))
        (λ f vs. and_then (pa f vs) (λ x. and_then (pb f vs) (λ y. operated op check x y)))
        (λ f vs. and_then (fa f vs) (λ x. and_then (fb f vs) (λ y. operated op check x y)))
    strict_right op check a pa fa ra b pb fb rb = record {
      extends = λ f vs. then_extends _ _ _ _ (ra.extends f vs)
          (λ x. then_extends _ _ _ _ (rb.extends f vs) (λ y. same_extends (operated op check x y)));
      quiet = λ k env reach h off.
          let x = a k env reach in
          let n = after k x in
          let y = b n env x.alive in
          let z = operating asked op check (after n y) y.alive x.out y.out in
          let m = made_right ctors missing ρ k x (joined y z) h in
          quiet_bind ρ x (joined y z) (ra.quiet k env reach (made_left ctors missing ρ k x (joined y z) h) off)
          (λ d. quiet_bind ρ y z (rb.quiet n env x.alive (made_left ctors missing ρ n y z m) d)
          (λ e. operating_quiet op check (after n y) y.alive x.out y.out
          (made_right ctors missing ρ n y z m) e));
      told = λ k env reach h vs on are lasts.
          let x = a k env reach in
          let n = after k x in
          let y = b n env x.alive in
          let z = operating asked op check (after n y) y.alive x.out y.out in
          let m = made_right ctors missing ρ k x (joined y z) h in
          let my = made_left ctors missing ρ n y z m in
          let mz = made_right ctors missing ρ n y z m in
          told_then ρ asked x (joined y z) (pa frame vs) (fa frame vs) _ _ (ra.extends frame vs) lasts
          (λ l. ra.told k env reach (made_left ctors missing ρ k x (joined y z) h) vs on are l)
          (λ d. quiet_bind ρ y z (rb.quiet n env x.alive my d)
          (λ e. operating_quiet op check (after n y) y.alive x.out y.out mz e))
          (λ u alive is_u l. told_then ρ asked y z (pb frame vs) (fb frame vs) _ _ (rb.extends frame vs) l
          (λ l2. rb.told n env x.alive my vs alive are l2)
          (λ e. operating_quiet op check (after n y) y.alive x.out y.out mz e)
          (λ v going is_v l3. operating_told op check (after n y) y.alive x.out y.out u v is_u is_v mz going l3));
    }
