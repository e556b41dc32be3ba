-- Expressions of which a part is evaluated where a truth value says so: `if`, `&&`, `||` and assertions.
use Rattle.std.proofs.Common.{◌≡◌, ℕ, ◌+◌, suc, Bool, true, false, List, Option, Ok, Err, sym, ap, ◌∙◌, arith}
use Rattle.pp_prog.specs.declared.id.CheckId.{CheckId}
use Rattle.pp_prog.specs.declared.types.Ctor.{Ctor}
use Rattle.pp_prog.specs.declared.value.Value.{Value}
use Rattle.pp_prog.specs.declared.value.Value.TheOpen as layer
use Rattle.pp_prog.specs.declared.value.Value.TheVariants.{Bool as Truth, rolls-Bool}
use Rattle.pp_prog.specs.declared.value.Value.TheViews.{out-Value, roll-Value, roll-out-Value}
use Rattle.pp_eval.specs.Meaning.{Frame, Meaning}
use Rattle.pp_eval.specs.Operators.{truth, truth_in}
use Rattle.pp_eval.specs.Part.{Part, and_then, either}
use Rattle.pp_eval.proofs.Extends.{Extends, either_extends, same_extends, then_extends}
use Rattle.pp_steps.specs.Meaning.{Missing, Values, bit}
use Rattle.pp_steps.specs.Compile.{Compiling, branches, unless, when}
use Rattle.pp_steps.specs.Piece.{Piece, after, bind, joined, possible}
use Rattle.pp_steps_run.specs.Told.{AreValues, IsMade, IsQuiet, IsTold, IsValue, MayBe, Off, On}
use Rattle.pp_steps_run.proofs.Choices.{Chosen, choice_first, choice_left, choice_quiet, choice_right, choice_second}
use Rattle.pp_steps_run.proofs.Choices.{unless_dead, unless_off, unless_on, when_dead, when_off, when_on}
use Rattle.pp_steps_run.proofs.Lasting.{Lasts, lasts_first, told_either, told_then, truth_is}
use Rattle.pp_steps_run.proofs.Pieces.{made_left, made_right, quiet_bind, quiet_plain, told_after}
use Rattle.pp_steps_run.proofs.Rights.{IsRight}

-- a value with this truth value is it
truth_made : (o : layer.Value-F Value) (b : Bool) → truth_in o ≡ Ok b → o ≡ layer.Bool b
truth_made (layer.Int n) b h = absurd (cc)
truth_made (layer.Bool c) b h = let same : c ≡ b = cc in ap (λ (d : Bool). layer.Bool d) same
truth_made (layer.Tree c fields) b h = absurd (cc)

pub value_truth : (v : Value) (b : Bool) → truth v ≡ Ok b → v ≡ Truth b
value_truth v b h = sym (roll-out-Value v) ∙ ap roll-Value (truth_made (out-Value v) b h) ∙ rolls-Bool b

pub quiet_possible : (ρ : Values) (x : Piece ℕ) → IsQuiet ρ x → IsQuiet ρ (possible x)
quiet_possible ρ x h = record { alive = h.alive; fails = h.fails }

pub told_possible : (ρ : Values) (asked : Option CheckId) (x : Piece ℕ) (part : Part Value)
    → IsTold ρ asked (IsValue ρ) x part → IsTold ρ asked (MayBe ρ) (possible x) part
told_possible ρ asked x (Ok v) h = record { told = h.told }
told_possible ρ asked x (Err s) h = record { told = h.told }

module _ (ctors : List Ctor) (missing : Missing) (ρ : Values) (asked : Option CheckId)
    (frame : Frame) where
  abbrev Right : Compiling → Meaning → Meaning → Type 0
  Right = IsRight ctors missing ρ asked frame

  abbrev Made : {A : Type 0} → ℕ → Piece A → Type 0
  Made k x = IsMade ctors missing ρ k x

  -- ---- a condition, and what goes on

  -- how the steps go on from a condition with this truth value
  pub record GoesOn (next : ℕ → List ℕ → ℕ → ℕ → Piece ℕ) (go full : Bool → Meaning) : Type 0 where
    pub extends : (b : Bool) (f : Frame) (vs : List Value) → Extends (go b f vs) (full b f vs)
    pub quiet : (k : ℕ) (env : List ℕ) (x alive : ℕ) → IsMade ctors missing ρ k (next k env x alive)
        → Off ρ alive → IsQuiet ρ (next k env x alive)
    pub told : (k : ℕ) (env : List ℕ) (x alive : ℕ) → IsMade ctors missing ρ k (next k env x alive)
        → (vs : List Value) → On ρ alive → AreValues ρ env vs
        → (b : Bool) → ρ x ≡ Truth b → bit (ρ x) ≡ b → Lasts (full b frame vs) → IsTold ρ asked (IsValue ρ)
        (next k env x alive) (go b frame vs)

  pub judged_right : (m : Compiling) (part all : Meaning) → Right m part all
      → (next : ℕ → List ℕ → ℕ → ℕ → Piece ℕ) (go full : Bool → Meaning) → GoesOn next go full
      → Right (λ k env reach. bind k (m k env reach) (λ n x alive. next n env x alive))
      (λ f vs. and_then (part f vs) (λ v. and_then (truth v) (λ b. go b f vs)))
      (λ f vs. and_then (all f vs) (λ v. and_then (truth v) (λ b. full b f vs)))
  judged_right m part all r next go full g = record {
    extends = λ f vs. then_extends _ _ _ _ (r.extends f vs)
        (λ v. then_extends _ _ _ _ (same_extends (truth v)) (λ b. g.extends b f vs));
    quiet = λ k env reach h off.
        let x = m k env reach in
        let y = next (after k x) env x.out x.alive in
        quiet_bind ρ x y (r.quiet k env reach (made_left ctors missing ρ k x y h) off)
        (λ d. g.quiet (after k x) env x.out x.alive (made_right ctors missing ρ k x y h) d);
    told = λ k env reach h vs on are lasts.
        let x = m k env reach in
        let y = next (after k x) env x.out x.alive in
        let my = made_right ctors missing ρ k x y h in
        told_then ρ asked x y (part frame vs) (all frame vs) _ _ (r.extends frame vs) lasts
        (λ l. r.told k env reach (made_left ctors missing ρ k x y h) vs on are l)
        (λ d. g.quiet (after k x) env x.out x.alive my d)
        (λ v alive is l. let e = truth_is v (lasts_first (truth v) _ l) in
        told_either ρ asked y v (λ b. go b frame vs) (λ b. full b frame vs) l
        (λ b is_b l2. g.told (after k x) env x.out x.alive my vs alive are b (is ∙ value_truth v b (e ∙ ap Ok is_b))
        (ap bit is ∙ is_b) l2));
  }

  -- ---- if

  abbrev forked : Compiling → Compiling → ℕ → List ℕ → ℕ → ℕ → Piece ℕ
  forked a b n env x alive = bind n (when n alive x)
      (λ m taken _. bind m (unless m alive x) (λ l missed _. branches a b l env taken missed))

  module _ (a : Compiling) (pa fa : Meaning) (ra : Right a pa fa) (b : Compiling) (pb fb : Meaning)
      (rb : Right b pb fb) where
    module _ (n : ℕ) (env : List ℕ) (x alive : ℕ) where
      abbrev W : Piece ℕ
      W = when n alive x

      abbrev U : Piece ℕ
      U = unless (after n W) alive x

      abbrev l : ℕ
      l = after (after n W) U

      abbrev A : Piece ℕ
      A = a l env n

      abbrev B : Piece ℕ
      B = b (after l A) env (suc (after n W))

      abbrev C : Piece ℕ
      C = Chosen ctors missing ρ l n A (possible B)

      abbrev Whole : Piece ℕ
      Whole = joined W (joined U C)

      fork_quiet : Made n Whole → Off ρ alive → IsQuiet ρ Whole
      fork_quiet h dead =
          let mw = made_left ctors missing ρ n W (joined U C) h in
          let mr = made_right ctors missing ρ n W (joined U C) h in
          let mu = made_left ctors missing ρ (after n W) U C mr in
          let mc = made_right ctors missing ρ (after n W) U C mr in
          let taken = when_dead ctors missing ρ n alive x mw dead in
          let missed = unless_dead ctors missing ρ (after n W) alive x mu dead in
          quiet_bind ρ W (joined U C) (quiet_plain ρ _ n alive dead)
          (λ d. quiet_bind ρ U C (quiet_plain ρ _ (suc (after n W)) alive d)
          (λ e. choice_quiet ctors missing ρ l n A (possible B) mc taken
          (ra.quiet l env n (choice_first ctors missing ρ l n A (possible B) mc) taken)
          (quiet_possible ρ B (rb.quiet (after l A) env (suc (after n W))
          (record {
            steps = (choice_second ctors missing ρ l n A (possible B) mc).steps;
          }) missed))))

      fork_told : Made n Whole → (vs : List Value) → On ρ alive → AreValues ρ env vs → (t : Bool) → bit (ρ x) ≡ t
          → Lasts (either t (fa frame vs) (fb frame vs)) → IsTold ρ asked (IsValue ρ) Whole
          (either t (pa frame vs) (pb frame vs))
      fork_told h vs on are true is lasts =
          let mw = made_left ctors missing ρ n W (joined U C) h in
          let mr = made_right ctors missing ρ n W (joined U C) h in
          let mu = made_left ctors missing ρ (after n W) U C mr in
          let mc = made_right ctors missing ρ (after n W) U C mr in
          let taken = when_on ctors missing ρ n alive x mw on is in
          let missed = unless_off ctors missing ρ (after n W) alive x mu is in
          let mb = choice_second ctors missing ρ l n A (possible B) mc in
          told_after ρ asked W (joined U C) (pa frame vs) tt (told_after ρ asked U C (pa frame vs) tt
          (choice_left ctors missing ρ l n A (possible B) asked (pa frame vs) mc taken
          (ra.told l env n (choice_first ctors missing ρ l n A (possible B) mc) vs taken are lasts)
          (rb.quiet (after l A) env (suc (after n W)) (record { steps = mb.steps }) missed).fails))
      fork_told h vs on are false is lasts =
          let mw = made_left ctors missing ρ n W (joined U C) h in
          let mr = made_right ctors missing ρ n W (joined U C) h in
          let mu = made_left ctors missing ρ (after n W) U C mr in
          let mc = made_right ctors missing ρ (after n W) U C mr in
          let taken = when_off ctors missing ρ n alive x mw is in
          let missed = unless_on ctors missing ρ (after n W) alive x mu on is in
          let mb = choice_second ctors missing ρ l n A (possible B) mc in
          told_after ρ asked W (joined U C) (pb frame vs) tt (told_after ρ asked U C (pb frame vs) tt
          (choice_right ctors missing ρ l n A (possible B) asked (pb frame vs) mc taken
          (ra.quiet l env n (choice_first ctors missing ρ l n A (possible B) mc) taken).fails
          (told_possible ρ asked B (pb frame vs)
          (rb.told (after l A) env (suc (after n W))
          (record { steps = mb.steps }) vs missed are lasts))))

    pub fork_goes : GoesOn (forked a b) (λ t f vs. either t (pa f vs) (pb f vs))
        (λ t f vs. either t (fa f vs) (fb f vs))
    fork_goes = record {
      extends = λ t f vs. either_extends t _ _ _ _ (ra.extends f vs) (rb.extends f vs);
      quiet = λ k env x alive h dead. fork_quiet k env x alive h dead;
      told = λ k env x alive h vs on are t is is_t lasts. fork_told k env x alive h vs on are t is_t lasts;
    }
