-- A call from the own frame of a guess run: its steps tell what it comes to, where more calls have values in the whole.
use Rattle.std.proofs.Common.{◌≡◌, ℕ, Bool, true, false, List, [], Option, Some, None, Ok, refl, sym}
use Rattle.std.proofs.Common.{subst, arith}
use Rattle.std.specs.Prelude.{nat_eq, ⊤}
use Rattle.pp_prog.specs.declared.expr.Expr.{Expr}
use Rattle.pp_prog.specs.declared.expr.Function.{Function}
use Rattle.pp_prog.specs.declared.id.CheckId.{CheckId}
use Rattle.pp_prog.specs.declared.id.FunctionId.{FunctionId}
use Rattle.pp_prog.specs.declared.types.Ctor.{Ctor}
use Rattle.pp_prog.specs.declared.value.Value.{Value}
use Rattle.pp_eval.specs.Invocation.{admits, descends, frame_of}
use Rattle.pp_eval.specs.Meaning.{CallMeaning, Frame}
use Rattle.pp_eval.specs.Part.{Part, and_then, either, inside}
use Rattle.pp_eval.proofs.Extends.{CallsCover, Extends, admits_extends, either_extends, frame_extends, inside_extends}
use Rattle.pp_eval.proofs.Extends.{same_extends, then_extends}
use Rattle.pp_guess_runs.specs.Guess.{compared, is_check}
use Rattle.pp_guess_runs.specs.Guess as run
use Rattle.pp_steps.specs.Frames as code
use Rattle.pp_steps.specs.Frames.{admitting, descending, measuring}
use Rattle.pp_steps.specs.Guesses.{asking, comparing, comparing_if}
use Rattle.pp_steps.specs.Meaning.{Missing, Values}
use Rattle.pp_steps.specs.Piece.{Piece, after, asks, joined}
use Rattle.pp_steps_run.specs.Told.{AreValues, IsMade, IsQuiet, IsTold, IsValue, Off, On}
use Rattle.pp_steps_run.proofs.Calls.{AreSites, IsAny, admitting_quiet, admitting_told, inside_lasts, inside_told}
use Rattle.pp_steps_run.proofs.Calls.{measuring_quiet, measuring_told}
use Rattle.pp_steps_run.proofs.Lasting.{Lasts, told_then}
use Rattle.pp_steps_run.proofs.Measures.{IsFrame, descending_quiet, descending_told}
use Rattle.pp_steps_run.proofs.Pieces.{made_left, made_right, quiet_bind, quiet_plain}
use Rattle.pp_guess_steps.specs.OpenCalls.{answered}
use Rattle.pp_guess_steps.proofs.OpenCalls.{asking_site}

eq_sym : (a b : ℕ) → nat_eq a b ≡ nat_eq b a
eq_sym a b = grind arith

same_test : (c : CheckId) (down : Option CheckId) → asks (Some c) down ≡ is_check c down
same_test c None = refl
same_test c (Some d) = eq_sym c.0 d.0

module _ (ctors : List Ctor) (missing : Missing) (ρ : Values) (functions : List Function)
    (c : CheckId) (DCon DOut : CallMeaning)
    (con_cover : CallsCover (answered functions missing 1) DCon)
    (out_cover : CallsCover (answered functions missing 0) DOut) where
  abbrev Made : {A : Type 0} → ℕ → Piece A → Type 0
  Made k x = IsMade ctors missing ρ k x

  abbrev Con : CallMeaning
  Con = answered functions missing 1

  abbrev Out : CallMeaning
  Out = answered functions missing 0

  are_con : AreSites ctors missing ρ None (λ ks. asking functions 1) Con DCon
  are_con = record {
    cover = con_cover;
    site = λ ks frame is. asking_site ctors missing ρ functions 1 None frame _;
  }

  -- ---- the comparison

  module _ (ks : code.Frame) (frame : Frame) (its : IsFrame ctors missing ρ ks frame) (g : FunctionId)
      (down : Option CheckId) (es : List Expr) where
    abbrev C : Bool → ℕ → List ℕ → ℕ → Piece ℕ
    C b k args reach = comparing_if b (Some c) (asking functions 1) ks es down k args reach

    abbrev P : Bool → List Value → Part ⊤
    P b vs = either b (and_then (inside g (frame_of Con es vs)) (λ new. descends ctors down frame new)) (Ok tt)

    abbrev PD : Bool → List Value → Part ⊤
    PD b vs = either b (and_then (inside g (frame_of DCon es vs)) (λ new. descends ctors down frame new)) (Ok tt)

    comparing_quiet : (b : Bool) (k : ℕ) (args : List ℕ) (reach : ℕ) → Made k (C b k args reach) → Off ρ reach
        → IsQuiet ρ (C b k args reach)
    comparing_quiet false k args reach h off = quiet_plain ρ [] reach reach off
    comparing_quiet true k args reach h off =
        let x = measuring None (asking functions 1) es k args reach in
        let y = descending (Some c) down ks x.out (after k x) x.alive in
        quiet_bind ρ x y
        (measuring_quiet ctors missing ρ None (λ ks. asking functions 1) Con DCon are_con es k args reach
        (made_left ctors missing ρ k x y h) off)
        (λ dead. descending_quiet ctors missing ρ (Some c) down ks x.out (after k x) x.alive
        (made_right ctors missing ρ k x y h) dead)

    comparing_told : (b : Bool) (k : ℕ) (args : List ℕ) (reach : ℕ) → Made k (C b k args reach) → On ρ reach
        → (vs : List Value) → AreValues ρ args vs → Lasts (PD b vs)
        → IsTold ρ (Some c) IsAny (C b k args reach) (P b vs)
    comparing_told false k args reach h on vs are lasts = record { told = (on, tt, tt) }
    comparing_told true k args reach h on vs are lasts =
        let x = measuring None (asking functions 1) es k args reach in
        let y = descending (Some c) down ks x.out (after k x) x.alive in
        told_then ρ (Some c) x y (inside g (frame_of Con es vs)) (inside g (frame_of DCon es vs)) _ _
        (inside_extends g _ _ (frame_extends Con DCon con_cover es vs)) lasts
        (λ l. inside_told ρ (Some c) g x (frame_of Con es vs)
        (measuring_told ctors missing ρ None (λ ks. asking functions 1) Con DCon are_con es k args reach
        (made_left ctors missing ρ k x y h) on vs are (inside_lasts g (frame_of DCon es vs) l)))
        (λ dead. descending_quiet ctors missing ρ (Some c) down ks x.out (after k x) x.alive
        (made_right ctors missing ρ k x y h) dead)
        (λ new on2 is_new l. descending_told ctors missing ρ (Some c) down ks x.out frame new its is_new (after k x)
        x.alive (made_right ctors missing ρ k x y h) on2)

  -- ---- the call

  module _ (ks : code.Frame) (frame : Frame) (its : IsFrame ctors missing ρ ks frame) (g : FunctionId)
      (pre down : Option CheckId) (f : Function) (k reach : ℕ) (args : List ℕ) where
    abbrev A : Piece ℕ
    A = admitting (Some c) (asking functions 1) f.pre pre k args reach

    abbrev N : Piece ℕ
    N = comparing (Some c) (asking functions 1) ks f.measure down (after k A) args A.alive

    abbrev Q : Piece ℕ
    Q = asking functions 0 (after (after k A) N) N.alive g pre down args

    abbrev Whole : Piece ℕ
    Whole = joined A (joined N Q)

    abbrev part : List Value → Part Value
    part vs = run.own_call ctors c Con Out (Some f) frame g pre down vs

    abbrev full : List Value → Part Value
    full vs = run.own_call ctors c DCon DOut (Some f) frame g pre down vs

    compared_extends : (vs : List Value) → Extends (compared ctors c Con f.measure g down frame vs)
        (compared ctors c DCon f.measure g down frame vs)
    compared_extends vs = either_extends (is_check c down) _ _ _ _
        (then_extends _ _ _ _ (inside_extends g _ _ (frame_extends Con DCon con_cover f.measure vs))
        (λ new. same_extends (descends ctors down frame new))) refl

    pub own_extends : (vs : List Value) → Extends (part vs) (full vs)
    own_extends vs = then_extends _ _ _ _ (admits_extends Con DCon con_cover g f.pre pre vs)
        (λ u. then_extends _ _ _ _ (compared_extends vs) (λ u2. out_cover frame g pre down vs))

    quiet_nq : Made k Whole → Off ρ A.alive → IsQuiet ρ (joined N Q)
    quiet_nq h dead =
        let hnq = made_right ctors missing ρ k A (joined N Q) h in
        quiet_bind ρ N Q (comparing_quiet ks frame its g down f.measure (asks (Some c) down) (after k A) args A.alive
        (made_left ctors missing ρ (after k A) N Q hnq) dead)
        (λ d. (asking_site ctors missing ρ functions 0 (Some c) frame DOut).quiet (after (after k A) N) N.alive g pre
        down args (made_right ctors missing ρ (after k A) N Q hnq) d)

    pub own_quiet : Made k Whole → Off ρ reach → IsQuiet ρ Whole
    own_quiet h off = quiet_bind ρ A (joined N Q)
        (admitting_quiet ctors missing ρ (λ ks. asking functions 1) Con DCon are_con (Some c) f.pre pre k
        args reach (made_left ctors missing ρ k A (joined N Q) h) off) (quiet_nq h)

    pub own_told : Made k Whole → On ρ reach → (vs : List Value) → AreValues ρ args vs → Lasts (full vs)
        → IsTold ρ (Some c) (IsValue ρ) Whole (part vs)
    own_told h on vs are lasts =
        let hnq = made_right ctors missing ρ k A (joined N Q) h in
        let hq = made_right ctors missing ρ (after k A) N Q hnq in
        told_then ρ (Some c) A (joined N Q) (admits Con g f.pre pre vs) (admits DCon g f.pre pre vs) _ _
        (admits_extends Con DCon con_cover g f.pre pre vs) lasts
        (λ l. admitting_told ctors missing ρ (λ ks. asking functions 1) Con DCon are_con (Some c) g f.pre
        pre k args reach (made_left ctors missing ρ k A (joined N Q) h) on vs are l)
        (quiet_nq h)
        (λ u on1 any l1. told_then ρ (Some c) N Q (compared ctors c Con f.measure g down frame vs)
        (compared ctors c DCon f.measure g down frame vs) _ _ (compared_extends vs) l1
        (λ l. subst (λ b. IsTold ρ (Some c) IsAny N (P ks frame its g down f.measure b vs)) (same_test c down)
        (comparing_told ks frame its g down f.measure (asks (Some c) down) (after k A) args A.alive
        (made_left ctors missing ρ (after k A) N Q hnq) on1 vs are
        (subst (λ b. Lasts (PD ks frame its g down f.measure b vs)) (sym (same_test c down)) l)))
        (λ d. (asking_site ctors missing ρ functions 0 (Some c) frame DOut).quiet (after (after k A) N) N.alive g pre
        down args hq d)
        (λ u2 on2 any2 l2. (asking_site ctors missing ρ functions 0 (Some c) frame DOut).told (after (after k A) N)
        N.alive g pre down args hq on2 vs are l2))
