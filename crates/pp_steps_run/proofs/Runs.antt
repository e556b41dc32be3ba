-- The steps of a run tell whether it fails the asked check.
use Rattle.std.proofs.Common.{◌≡◌, ℕ, Bool, true, false, List, [], ◌∷◌, ◌++◌, Option, Some, None, Ok, Err, refl, sym}
use Rattle.std.proofs.Common.{ap, ◌∙◌, subst}
use Rattle.std.specs.Prelude.{◌||◌}
use Rattle.pp_prog.specs.declared.expr.Expr.{Expr}
use Rattle.pp_prog.specs.declared.expr.Function.{Function}
use Rattle.pp_prog.specs.declared.id.CheckId.{CheckId}
use Rattle.pp_prog.specs.declared.types.Ctor.{Ctor}
use Rattle.pp_prog.specs.declared.value.Value.{Value}
use Rattle.pp_eval.specs.declared.outcome.Outcome.{Outcome}
use Rattle.pp_eval.specs.declared.outcome.Outcome.TheVariants.{Done, Outside}
use Rattle.pp_eval.specs.declared.outcome.Stop.TheVariants.{Fails}
use Rattle.pp_eval.specs.Invocation.{allowed, frame_of}
use Rattle.pp_eval.specs.Meaning.{CallMeaning, Frame, meaning}
use Rattle.pp_eval.specs.Operators.{truth}
use Rattle.pp_eval.specs.Part.{Part, and_then, either}
use Rattle.pp_eval.specs.Runs.{finished, run_with, started}
use Rattle.pp_eval.proofs.Extends.{Extends, expr_covers, frame_extends}
use Rattle.pp_steps.specs.declared.step.Step.TheVariants as steps
use Rattle.pp_steps.specs.Compile.{Site, compile}
use Rattle.pp_steps.specs.Frames as code
use Rattle.pp_steps.specs.Frames.{allowing, any_of, finishing, measuring, running, starting}
use Rattle.pp_steps.specs.Meaning.{Missing, Values, bit}
use Rattle.pp_steps.specs.Piece.{Piece, after, asks, demand, joined, plain}
use Rattle.pp_steps_run.specs.Told.{AllOf, AreValues, Flags, IsMade, IsQuiet, IsTold, IsValue, Off, On, SomeOf, here}
use Rattle.pp_steps_run.specs.Told.{looked, there}
use Rattle.pp_steps_run.proofs.Calls.{AreSites, measuring_quiet, measuring_told, right_in, some_frame}
use Rattle.pp_steps_run.proofs.Choices.{demand_off, demand_on, demand_quiet}
use Rattle.pp_steps_run.proofs.Lasting.{Lasts, lasts_first, told_either, told_then, truth_is}
use Rattle.pp_steps_run.proofs.Measures.{IsFrame, bit_if, or_if}
use Rattle.pp_steps_run.proofs.Patterns.{are_more}
use Rattle.pp_steps_run.proofs.Pieces.{bit_truth, flags_left, made_left, made_right, quiet_bind, quiet_plain}
use Rattle.pp_steps_run.proofs.Pieces.{told_after}

abbrev pub AnyEnd : ℕ → Outcome → Type 0
AnyEnd n o = Unit {0}

-- the part fails the asked check
abbrev pub fails_in : Option CheckId → Part Outcome → Bool
fails_in asked (Ok o) = false
fails_in asked (Err s) = looked asked s

told_fails : (ρ : Values) (asked : Option CheckId) (x : Piece ℕ) (part : Part Outcome)
    → IsTold ρ asked AnyEnd x part → Flags ρ (fails_in asked part) x.fails
told_fails ρ asked x (Ok o) h = h.told.1
told_fails ρ asked x (Err s) h = h.told.1

module _ (ctors : List Ctor) (missing : Missing) (ρ : Values)
    (asked : Option CheckId) (sites : code.Frame → Site) (c d : CallMeaning)
    (are : AreSites ctors missing ρ asked sites c d) where
  abbrev Made : {A : Type 0} → ℕ → Piece A → Type 0
  Made k x = IsMade ctors missing ρ k x

  -- ---- the postcondition

  module _ (ks : code.Frame) (frame : Frame) (its : IsFrame ctors missing ρ ks frame) where
    module _ (post : CheckId × Expr) (k : ℕ) (values : List ℕ) (reach : ℕ) where
      abbrev X : Piece ℕ
      X = compile asked (sites ks) post.1 k values reach

      abbrev D : Piece ℕ
      D = demand (asks asked (Some post.0)) (after k X) X.alive X.out

      post_quiet : Made k (joined X D) → Off ρ reach → IsQuiet ρ (joined X D)
      post_quiet h off =
          quiet_bind ρ X D ((right_in ctors missing ρ asked sites c d are ks frame its post.1).quiet k values
          reach (made_left ctors missing ρ k X D h) off)
          (λ dead. demand_quiet ctors missing ρ (asks asked (Some post.0)) (after k X) X.alive X.out
          (made_right ctors missing ρ k X D h) dead)

      post_by : Made k (joined X D) → On ρ X.alive → (o : Outcome) (t : Bool) → bit (ρ X.out) ≡ t
          → IsTold ρ asked AnyEnd D (either t (Ok o) (Err (Fails post.0)))
      post_by h on o true is =
          let q = demand_on ctors missing ρ (asks asked (Some post.0)) (after k X) X.alive X.out
          (made_right ctors missing ρ k X D h) on is in
          record { told = (q.0, q.1, tt) }
      post_by h on o false is =
          let q = demand_off ctors missing ρ (asks asked (Some post.0)) (after k X) X.alive X.out
          (made_right ctors missing ρ k X D h) on is in
          record { told = q }

    finishing_quiet : (post : Option (CheckId × Expr)) (k : ℕ) (values : List ℕ) (reach : ℕ)
        → Made k (finishing asked (sites ks) post k values reach) → Off ρ reach
        → IsQuiet ρ (finishing asked (sites ks) post k values reach)
    finishing_quiet None k values reach h off = quiet_plain ρ [] reach reach off
    finishing_quiet (Some post) k values reach h off = post_quiet post k values reach h off

    finishing_told : (post : Option (CheckId × Expr)) (k : ℕ) (values : List ℕ) (reach : ℕ)
        → Made k (finishing asked (sites ks) post k values reach) → On ρ reach
        → (args : List Value) (v : Value) → AreValues ρ values (args ++ v ∷ []) → Lasts (finished d post frame args v)
        → IsTold ρ asked AnyEnd (finishing asked (sites ks) post k values reach) (finished c post frame args v)
    finishing_told None k values reach h on args v vs lasts = record { told = (on, tt, tt) }
    finishing_told (Some post) k values reach h on args v vs lasts =
        let x = X post k values reach in
        let y = D post k values reach in
        told_then ρ asked x y (meaning c post.1 frame (args ++ v ∷ []))
        (meaning d post.1 frame (args ++ v ∷ [])) _ _
        (expr_covers c d are.cover post.1 frame (args ++ v ∷ [])) lasts
        (λ l. (right_in ctors missing ρ asked sites c d are ks frame its post.1).told k values reach
        (made_left ctors missing ρ k x y h) (args ++ v ∷ []) on vs l)
        (λ dead. demand_quiet ctors missing ρ (asks asked (Some post.0)) (after k x) x.alive x.out
        (made_right ctors missing ρ k x y h) dead)
        (λ p alive is l. told_either ρ asked y p (λ t. either t (Ok (Done v)) (Err (Fails post.0)))
        (λ t. either t (Ok (Done v)) (Err (Fails post.0))) l
        (λ t is_t l2. post_by post k values reach h alive (Done v) t (ap bit is ∙ is_t)))

  -- ---- the measure list, the body and the postcondition

  module _ (f : Function) (k : ℕ) (args : List ℕ) (reach : ℕ) where
    abbrev M : Piece code.Frame
    M = measuring asked (sites None) f.measure k args reach

    abbrev B : Piece ℕ
    B = compile asked (sites M.out) f.body (after k M) args M.alive

    abbrev F : Piece ℕ
    F = finishing asked (sites M.out) f.post (after (after k M) B) (args ++ B.out ∷ []) B.alive

    quiet_f : Made k (joined M (joined B F)) → Off ρ B.alive → IsQuiet ρ F
    quiet_f h dead =
        let any = some_frame ctors missing ρ M.out in
        finishing_quiet M.out any.0 any.1 f.post (after (after k M) B) (args ++ B.out ∷ []) B.alive
        (made_right ctors missing ρ (after k M) B F (made_right ctors missing ρ k M (joined B F) h)) dead

    quiet_bf : Made k (joined M (joined B F)) → Off ρ M.alive → IsQuiet ρ (joined B F)
    quiet_bf h dead =
        let any = some_frame ctors missing ρ M.out in
        quiet_bind ρ B F ((right_in ctors missing ρ asked sites c d are M.out any.0 any.1 f.body).quiet
        (after k M) args M.alive
        (made_left ctors missing ρ (after k M) B F
        (made_right ctors missing ρ k M (joined B F) h)) dead) (quiet_f h)

    starting_quiet : Made k (starting sites asked f k args reach) → Off ρ reach
        → IsQuiet ρ (starting sites asked f k args reach)
    starting_quiet h off =
        quiet_bind ρ M (joined B F)
        (measuring_quiet ctors missing ρ asked sites c d are f.measure k args reach
        (made_left ctors missing ρ k M (joined B F) h) off) (quiet_bf h)

    starting_told : Made k (starting sites asked f k args reach) → On ρ reach → (vs : List Value)
        → AreValues ρ args vs → Lasts (started d f vs)
        → IsTold ρ asked AnyEnd (starting sites asked f k args reach) (started c f vs)
    starting_told h on vs values lasts =
        let hbf = made_right ctors missing ρ k M (joined B F) h in
        told_then ρ asked M (joined B F) (frame_of c f.measure vs) (frame_of d f.measure vs) _ _
        (frame_extends c d are.cover f.measure vs) lasts
        (λ l. measuring_told ctors missing ρ asked sites c d are f.measure k args reach
        (made_left ctors missing ρ k M (joined B F) h) on vs values l)
        (quiet_bf h)
        (λ frame on1 its l1. told_then ρ asked B F (meaning c f.body frame vs) (meaning d f.body frame vs) _ _
        (expr_covers c d are.cover f.body frame vs) l1
        (λ l. (right_in ctors missing ρ asked sites c d are M.out frame its f.body).told
        (after k M) args M.alive (made_left ctors missing ρ (after k M) B F hbf) vs on1 values l)
        (quiet_f h)
        (λ v on2 is l2. finishing_told M.out frame its f.post (after (after k M) B) (args ++ B.out ∷ []) B.alive
        (made_right ctors missing ρ (after k M) B F hbf) on2 vs v
        (are_more ρ args (B.out ∷ []) vs (v ∷ []) values (is, tt)) l2))

  -- ---- the precondition

  module _ (f : Function) (pre : Expr) (k : ℕ) (args : List ℕ) (reach : ℕ) where
    abbrev Pre : Piece ℕ
    Pre = compile asked (sites None) pre k args reach

    abbrev Goes : Piece ℕ
    Goes = demand false (after k Pre) Pre.alive Pre.out

    abbrev Allowing : Piece ℕ
    Allowing = joined Pre Goes

    abbrev Start : Piece ℕ
    Start = starting sites asked f (after k Allowing) args Goes.alive

    run_by : Made k (joined Allowing Start) → (vs : List Value) → AreValues ρ args vs → (part full : Part Value)
        → Extends part full → IsTold ρ asked (IsValue ρ) Pre part
        → Lasts (and_then (and_then full truth) (λ allows. either allows (started d f vs) (Ok Outside)))
        → Flags ρ (fails_in asked
        (and_then (and_then part truth) (λ allows. either allows (started c f vs) (Ok Outside))))
        (joined Allowing Start).fails
    run_by h vs values (Err s) full e told lasts =
        let ha = made_left ctors missing ρ k Allowing Start h in
        let goes = demand_quiet ctors missing ρ false (after k Pre) Pre.alive Pre.out
        (made_right ctors missing ρ k Pre Goes ha) told.told.0 in
        let start = starting_quiet f (after k Allowing) args Goes.alive
        (made_right ctors missing ρ k Allowing Start h) goes.alive in
        flags_left ρ (looked asked s) Allowing.fails Start.fails
        (flags_left ρ (looked asked s) Pre.fails Goes.fails told.told.1 goes.fails) start.fails
    run_by h vs values (Ok v) full e told lasts =
        let l0 : Lasts (and_then (truth v) (λ allows. either allows (started d f vs) (Ok Outside))) =
        subst (λ z. Lasts (and_then (and_then z truth)
        (λ allows. either allows (started d f vs) (Ok Outside)))) e lasts in
        let t = truth_is v (lasts_first (truth v) (λ allows. either allows (started d f vs) (Ok Outside)) l0) in
        subst (λ z. Flags ρ (fails_in asked (and_then z (λ allows. either allows (started c f vs) (Ok Outside))))
        (joined Allowing Start).fails) (sym t)
        (by (bit v) (ap bit told.told.2)
        (subst (λ z. Lasts (and_then z (λ allows. either allows (started d f vs) (Ok Outside)))) t l0))
      where
        by : (b : Bool) → bit (ρ Pre.out) ≡ b → Lasts (either b (started d f vs) (Ok Outside))
            → Flags ρ (fails_in asked (either b (started c f vs) (Ok Outside))) (joined Allowing Start).fails
        by true is l =
            let ha = made_left ctors missing ρ k Allowing Start h in
            let goes = demand_on ctors missing ρ false (after k Pre) Pre.alive Pre.out
            (made_right ctors missing ρ k Pre Goes ha) told.told.0 is in
            let start = starting_told f (after k Allowing) args Goes.alive
            (made_right ctors missing ρ k Allowing Start h) goes.0 vs values l in
            told_fails ρ asked (joined Allowing Start) (started c f vs)
            (told_after ρ asked Allowing Start (started c f vs)
            (flags_left ρ false Pre.fails Goes.fails told.told.1 goes.1) start)
        by false is l =
            let ha = made_left ctors missing ρ k Allowing Start h in
            let goes = demand_off ctors missing ρ false (after k Pre) Pre.alive Pre.out
            (made_right ctors missing ρ k Pre Goes ha) told.told.0 is in
            let start = starting_quiet f (after k Allowing) args Goes.alive
            (made_right ctors missing ρ k Allowing Start h) goes.0 in
            flags_left ρ false Allowing.fails Start.fails
            (flags_left ρ false Pre.fails Goes.fails told.told.1 goes.1) start.fails

  -- ---- the run

  running_by : (f : Function) (o : Option Expr) (k : ℕ) (args : List ℕ) (reach : ℕ)
      → (let x = allowing asked (sites None) o k args reach in
      Made k (joined x (starting sites asked f (after k x) args x.alive)) → On ρ reach → (vs : List Value)
      → AreValues ρ args vs
      → Lasts (and_then (allowed d o vs) (λ allows. either allows (started d f vs) (Ok Outside)))
      → Flags ρ (fails_in asked (and_then (allowed c o vs) (λ allows. either allows (started c f vs) (Ok Outside))))
      (joined x (starting sites asked f (after k x) args x.alive)).fails)
  running_by f None k args reach h on vs values lasts =
      let x : Piece ℕ = plain [] reach reach in
      let y = starting sites asked f (after k x) args reach in
      told_fails ρ asked y (started c f vs)
      (starting_told f (after k x) args reach (made_right ctors missing ρ k x y h) on vs values lasts)
  running_by f (Some pre) k args reach h on vs values lasts =
      let x = Pre f pre k args reach in
      let full = meaning d pre None vs in
      let ha = made_left ctors missing ρ k (Allowing f pre k args reach) (Start f pre k args reach) h in
      run_by f pre k args reach h vs values (meaning c pre None vs) full (expr_covers c d are.cover pre None vs)
      ((right_in ctors missing ρ asked sites c d are None None tt pre).told k args reach
      (made_left ctors missing ρ k x (Goes f pre k args reach) ha) vs on values
      (lasts_first full truth
      (lasts_first (and_then full truth) (λ allows. either allows (started d f vs) (Ok Outside)) lasts)))
      lasts

  -- the numbers of the failures tell whether the run fails the asked check
  pub running_fails : (f : Function) (k : ℕ) (args : List ℕ) (reach : ℕ)
      → Made k (running sites asked f k args reach) → On ρ reach → (vs : List Value) → AreValues ρ args vs
      → Lasts (run_with d f vs) → Flags ρ (fails_in asked (run_with c f vs))
      (running sites asked f k args reach).fails
  running_fails f k args reach h on vs values lasts = running_by f f.pre k args reach h on vs values lasts

-- ---- one of several numbers

or_right : (a : Bool) → (a || true) ≡ true
or_right true = refl
or_right false = refl

module _ (ctors : List Ctor) (missing : Missing) (ρ : Values) where
  module _ (x y : ℕ) (ks : List ℕ) (k alive : ℕ) where
    abbrev Rest : Piece ℕ
    Rest = any_of (y ∷ ks) k alive

    abbrev Last : Piece ℕ
    Last = plain (steps.Choose x x Rest.out ∷ []) (after k Rest) alive

    any_step : IsMade ctors missing ρ k (any_of (x ∷ y ∷ ks) k alive)
        → bit (ρ (any_of (x ∷ y ∷ ks) k alive).out) ≡ (bit (ρ x) || bit (ρ Rest.out))
    any_step h = ap bit (made_right ctors missing ρ k Rest Last h).steps.0 ∙ bit_if ρ x Rest.out (bit (ρ x))
        ∙ or_if (bit (ρ x)) (bit (ρ Rest.out))

    any_rest : IsMade ctors missing ρ k (any_of (x ∷ y ∷ ks) k alive) → IsMade ctors missing ρ k Rest
    any_rest h = made_left ctors missing ρ k Rest Last h

  any_true : (ks : List ℕ) (k alive : ℕ) → IsMade ctors missing ρ k (any_of ks k alive) → SomeOf (On ρ) ks
      → On ρ (any_of ks k alive).out
  any_true [] k alive h some = elim some [ ]
  any_true (x ∷ []) k alive h (here on) = on
  any_true (x ∷ []) k alive h (there some) = elim some [ ]
  any_true (x ∷ y ∷ ks) k alive h (here on) =
      any_step x y ks k alive h ∙ ap (λ b. b || bit (ρ (Rest x y ks k alive).out)) on
  any_true (x ∷ y ∷ ks) k alive h (there some) =
      any_step x y ks k alive h ∙ ap (λ b. bit (ρ x) || b)
      (any_true (y ∷ ks) k alive (any_rest x y ks k alive h) some) ∙ or_right (bit (ρ x))

  any_false : (ks : List ℕ) (k alive : ℕ) → IsMade ctors missing ρ k (any_of ks k alive) → AllOf (Off ρ) ks
      → Off ρ (any_of ks k alive).out
  any_false [] k alive h all = ap bit h.steps.0 ∙ bit_truth false
  any_false (x ∷ []) k alive h all = all.0
  any_false (x ∷ y ∷ ks) k alive h all =
      any_step x y ks k alive h ∙ ap (λ b. b || bit (ρ (Rest x y ks k alive).out)) all.0 ∙ any_false
      (y ∷ ks) k alive (any_rest x y ks k alive h) all.1

  pub any_is : (ks : List ℕ) (k alive : ℕ) → IsMade ctors missing ρ k (any_of ks k alive) → (b : Bool)
      → Flags ρ b ks → bit (ρ (any_of ks k alive).out) ≡ b
  any_is ks k alive h true some = any_true ks k alive h some
  any_is ks k alive h false all = any_false ks k alive h all
