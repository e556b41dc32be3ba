-- Calls that are followed tell what calls do.
use Rattle.std.proofs.Common.{◌≡◌, ℕ, zero, suc, Bool, true, false, List, [], ◌∷◌, map, Option, Some, None, Ok, Err}
use Rattle.std.proofs.Common.{refl, sym, ap, ◌∙◌, subst}
use Rattle.std.specs.Prelude.{slice_get, ⊤}
use Rattle.pp_prog.specs.declared.expr.Expr.{Expr}
use Rattle.pp_prog.specs.declared.expr.Function.{Function}
use Rattle.pp_prog.specs.declared.id.CheckId.{CheckId}
use Rattle.pp_prog.specs.declared.id.FunctionId.{FunctionId}
use Rattle.pp_prog.specs.declared.types.Ctor.{Ctor}
use Rattle.pp_prog.specs.declared.value.Value.{Value}
use Rattle.pp_eval.specs.declared.outcome.Stop.{Stop}
use Rattle.pp_eval.specs.declared.outcome.Stop.TheVariants.{Fails, Inner, Deep, Stuck}
use Rattle.pp_eval.specs.Invocation.{admits, calls_over, calls_to, descends, enters, frame_of}
use Rattle.pp_eval.specs.Meaning.{CallMeaning, Frame, Meaning, meaning}
use Rattle.pp_eval.specs.Meaning as run
use Rattle.pp_eval.specs.Operators.{truth}
use Rattle.pp_eval.specs.Part.{Part, and_then, either, failed, inside, raised}
use Rattle.pp_eval.proofs.Extends.{CallsCover, admits_extends, enters_cover, expr_covers, frame_extends}
use Rattle.pp_eval.proofs.Extends.{inside_extends, same_extends, then_extends}
use Rattle.pp_steps.specs.Compile.{Site, all, compile}
use Rattle.pp_steps.specs.Frames as code
use Rattle.pp_steps.specs.Frames.{admitting, descending, entering, inlined, measuring, stopped}
use Rattle.pp_steps.specs.Meaning.{Missing, Values, bit}
use Rattle.pp_steps.specs.Piece.{Piece, after, asks, demand, joined, plain}
use Rattle.pp_steps_run.specs.Told.{AllOf, AreValues, Flags, IsMade, IsQuiet, IsTold, IsValue, Off, On, looked}
use Rattle.pp_steps_run.proofs.Choices.{demand_off, demand_on, demand_quiet}
use Rattle.pp_steps_run.proofs.Exprs.{expr_right}
use Rattle.pp_steps_run.proofs.Lasting.{Lasts, failed_is, lasts_first, lasts_next, told_then, truth_is}
use Rattle.pp_steps_run.proofs.Lists.{AllRight, IsSite, all_extends, all_quiet, all_told}
use Rattle.pp_steps_run.proofs.Measures.{IsFrame, descending_quiet, descending_told}
use Rattle.pp_steps_run.proofs.Pieces.{bit_truth, made_left, made_right, quiet_bind, quiet_plain, told_after, told_stop}
use Rattle.pp_steps_run.proofs.Rights.{IsRight}

-- ---- parts inside a frame

pub inside_lasts : {A : Type 0} (g : FunctionId) (part : Part A) → Lasts (inside g part) → Lasts part
inside_lasts g (Ok a) h = record { lasts = λ e. absurd (cc); meant = λ e. absurd (cc) }
inside_lasts g (Err (Fails c)) h = record { lasts = λ e. absurd (cc); meant = λ e. absurd (cc) }
inside_lasts g (Err (Inner f c)) h = record { lasts = λ e. absurd (cc); meant = λ e. absurd (cc) }
inside_lasts g (Err Deep) h = absurd (h.lasts refl)
inside_lasts g (Err Stuck) h = absurd (h.meant refl)

-- where nothing is asked, and no check of a frame inside is
inner_looked : (asked : Option CheckId) (g : FunctionId) (s : Stop) → looked asked (raised g s) ≡ looked None s
inner_looked asked g (Fails c) = refl
inner_looked asked g (Inner f c) = refl
inner_looked asked g Deep = refl
inner_looked asked g Stuck = refl

pub inside_told : {A B : Type 0} {R : A → B
    → Type 0} (ρ : Values) (asked : Option CheckId) (g : FunctionId) (x : Piece A) (part : Part B)
    → IsTold ρ None R x part → IsTold ρ asked R x (inside g part)
inside_told ρ asked g x (Ok b) h = record { told = h.told }
inside_told ρ asked g x (Err s) h =
    record { told = (h.told.0, subst (λ b. Flags ρ b x.fails) (sym (inner_looked asked g s)) h.told.1) }

-- numbers stand for the values that are assigned to them
pub values_at : (ρ : Values) (ks : List ℕ) → AreValues ρ ks (map ρ ks)
values_at ρ [] = tt
values_at ρ (k ∷ ks) = (refl, values_at ρ ks)

abbrev pub IsAny : ℕ → ⊤ → Type 0
IsAny n u = Unit {0}

module _ (ctors : List Ctor) (missing : Missing) (ρ : Values) where
  abbrev Made : {A : Type 0} → ℕ → Piece A → Type 0
  Made k x = IsMade ctors missing ρ k x

  -- the numbers stand for some frame
  pub some_frame : (ks : code.Frame) → (frame : Frame) × IsFrame ctors missing ρ ks frame
  some_frame None = (None, tt)
  some_frame (Some ks) = (Some (map ρ ks), values_at ρ ks)

  -- the steps of calls are right in each frame where this check is asked
  pub record AreSites (asked : Option CheckId) (sites : code.Frame → Site) (c d : CallMeaning) : Type 0 where
    pub cover : CallsCover c d
    pub site : (ks : code.Frame) (frame : Frame) → IsFrame ctors missing ρ ks frame
        → IsSite ctors missing ρ asked frame (sites ks) c d

  module _ (asked : Option CheckId) (sites : code.Frame → Site) (c d : CallMeaning) (are : AreSites asked sites c d)
    where
      -- an expression in a frame
      pub right_in : (ks : code.Frame) (frame : Frame)
          → IsFrame ctors missing ρ ks frame → (e : Expr)
          → IsRight ctors missing ρ asked frame (compile asked (sites ks) e) (meaning c e) (meaning d e)
      right_in ks frame is e =
          expr_right ctors missing ρ asked frame (sites ks) c d are.cover (are.site ks frame is) e

      list_right : (ks : code.Frame) (frame : Frame) → IsFrame ctors missing ρ ks frame
          → (es : List Expr)
          → AllRight ctors missing ρ asked frame (map (compile asked (sites ks)) es) (map (meaning c) es)
          (map (meaning d) es)
      list_right ks frame is [] = tt
      list_right ks frame is (e ∷ es) = (right_in ks frame is e, list_right ks frame is es)

      -- ---- the measure values of a frame

      pub measuring_quiet : (es : List Expr) (k : ℕ) (args : List ℕ) (reach : ℕ)
          → Made k (measuring asked (sites None) es k args reach) → Off ρ reach
          → IsQuiet ρ (measuring asked (sites None) es k args reach)
      measuring_quiet [] k args reach h off = quiet_plain ρ {A = code.Frame} [] None reach off
      measuring_quiet (e ∷ es) k args reach h off =
          let ms = map (compile asked (sites None)) (e ∷ es) in
          let x = all ms k args reach in
          let y : Piece code.Frame = plain [] (Some x.out) x.alive in
          quiet_bind ρ x y
          (all_quiet ctors missing ρ asked None ms (map (meaning c) (e ∷ es)) (map (meaning d) (e ∷ es))
          (list_right None None tt (e ∷ es)) [] k args reach (made_left ctors missing ρ k x y h) off)
          (λ dead. quiet_plain ρ [] (Some x.out) x.alive dead)

      pub measuring_told : (es : List Expr) (k : ℕ) (args : List ℕ) (reach : ℕ)
          → Made k (measuring asked (sites None) es k args reach) → On ρ reach
          → (vs : List Value) → AreValues ρ args vs → Lasts (frame_of d es vs)
          → IsTold ρ asked (IsFrame ctors missing ρ) (measuring asked (sites None) es k args reach)
          (frame_of c es vs)
      measuring_told [] k args reach h on vs values lasts = record { told = (on, tt, tt) }
      measuring_told (e ∷ es) k args reach h on vs values lasts =
          let ms = map (compile asked (sites None)) (e ∷ es) in
          let x = all ms k args reach in
          let y : Piece code.Frame = plain [] (Some x.out) x.alive in
          let r = list_right None None tt (e ∷ es) in
          told_then ρ asked x y (run.all (map (meaning c) (e ∷ es)) None vs)
          (run.all (map (meaning d) (e ∷ es)) None vs) _ _
          (all_extends ctors missing ρ asked None ms (map (meaning c) (e ∷ es))
          (map (meaning d) (e ∷ es)) r [] None vs) lasts
          (λ l. all_told ctors missing ρ asked None ms (map (meaning c) (e ∷ es))
          (map (meaning d) (e ∷ es)) r [] [] tt k args reach (made_left ctors missing ρ k x y h) vs on values l)
          (λ dead. quiet_plain ρ [] (Some x.out) x.alive dead)
          (λ us alive are_us l. record { told = (alive, tt, are_us) })

  -- ---- the precondition of a called function, in whose frame nothing is asked

  module _ (sites : code.Frame → Site) (c d : CallMeaning) (are : AreSites None sites c d) where
    module _ (asked : Option CheckId) (g : FunctionId) (pre : Expr) (check : Option CheckId) (k : ℕ) (args : List ℕ)
        (reach : ℕ) where
      abbrev X : Piece ℕ
      X = compile None (sites None) pre k args reach

      abbrev D : Piece ℕ
      D = demand (asks asked check) (after k X) X.alive X.out

      admit_quiet : Made k (joined X D) → Off ρ reach → IsQuiet ρ (joined X D)
      admit_quiet h off =
          quiet_bind ρ X D ((right_in None sites c d are None None tt pre).quiet k args reach
          (made_left ctors missing ρ k X D h) off)
          (λ dead. demand_quiet ctors missing ρ (asks asked check) (after k X) X.alive X.out
          (made_right ctors missing ρ k X D h) dead)

      admit_by : Made k (joined X D) → On ρ X.alive → AllOf (Off ρ) X.fails → (t : Bool) → bit (ρ X.out) ≡ t
          → Lasts {A = ⊤} (either t (Ok tt) (failed check))
          → IsTold ρ asked IsAny (joined X D) (either t (Ok tt) (failed check))
      admit_by h on fails true is lasts =
          let q = demand_on ctors missing ρ (asks asked check) (after k X) X.alive X.out
          (made_right ctors missing ρ k X D h) on is in
          told_after ρ asked X D (Ok tt) fails (record { told = (q.0, q.1, tt) })
      admit_by h on fails false is lasts =
          let f = failed_is check lasts in
          let q = demand_off ctors missing ρ (asks asked check) (after k X) X.alive X.out
          (made_right ctors missing ρ k X D h) on is in
          subst (λ z. IsTold ρ asked IsAny (joined X D) z) (sym (ap failed f.1))
          (told_after ρ asked X D (Err (Fails f.0)) fails
          (record { told = (q.0, subst (λ (o : Option CheckId). Flags ρ (asks asked o) D.fails) f.1 q.1) }))

      -- by the precondition's value
      admit_part : Made k (joined X D) → (part : Part Value) → IsTold ρ None (IsValue ρ) X part
          → ((v : Value) → part ≡ Ok v → Lasts (truth v))
          → ((t : Bool) → and_then part truth ≡ Ok t → Lasts {A = ⊤} (either t (Ok tt) (failed check)))
          → IsTold ρ asked IsAny (joined X D)
          (and_then (inside g (and_then part truth)) (λ t. either t (Ok tt) (failed check)))
      admit_part h (Err s) told truths lasts =
          told_stop ρ asked X D (raised g s)
          (subst (λ b. Flags ρ b X.fails) (sym (inner_looked asked g s)) told.told.1)
          (demand_quiet ctors missing ρ (asks asked check) (after k X) X.alive X.out
          (made_right ctors missing ρ k X D h) told.told.0)
      admit_part h (Ok v) told truths lasts =
          let e = truth_is v (truths v refl) in
          subst (λ z. IsTold ρ asked IsAny (joined X D)
          (and_then (inside g z) (λ t. either t (Ok tt) (failed check)))) (sym e)
          (admit_by h told.told.0 told.told.1 (bit v) (ap bit told.told.2) (lasts (bit v) e))

    pub admitting_quiet : (asked : Option CheckId) (pre : Option Expr) (check : Option CheckId) (k : ℕ)
        (args : List ℕ) (reach : ℕ)
        → Made k (admitting asked (sites None) pre check k args reach) → Off ρ reach → IsQuiet ρ
        (admitting asked (sites None) pre check k args reach)
    admitting_quiet asked None check k args reach h off = quiet_plain ρ [] reach reach off
    admitting_quiet asked (Some pre) check k args reach h off =
        admit_quiet asked (record { 0 = 0 }) pre check k args reach h off

    pub admitting_told : (asked : Option CheckId) (g : FunctionId) (pre : Option Expr) (check : Option CheckId)
        (k : ℕ) (args : List ℕ) (reach : ℕ)
        → Made k (admitting asked (sites None) pre check k args reach) → On ρ reach → (vs : List Value)
        → AreValues ρ args vs → Lasts (admits d g pre check vs)
        → IsTold ρ asked IsAny (admitting asked (sites None) pre check k args reach) (admits c g pre check vs)
    admitting_told asked g None check k args reach h on vs values lasts = record { told = (on, tt, tt) }
    admitting_told asked g (Some pre) check k args reach h on vs values lasts =
        let x = X asked g pre check k args reach in
        let q = D asked g pre check k args reach in
        let part = meaning c pre None vs in
        let full = meaning d pre None vs in
        let e = expr_covers c d are.cover pre None vs in
        let l1 = lasts_first (inside g (and_then full truth)) (λ t. either t (Ok tt) (failed check)) lasts in
        let l2 = inside_lasts g (and_then full truth) l1 in
        let both = then_extends part full truth truth e (λ v. same_extends (truth v)) in
        admit_part asked g pre check k args reach h part
        ((right_in None sites c d are None None tt pre).told k args reach (made_left ctors missing ρ k x q h) vs on
        values
        (lasts_first full truth l2))
        (λ v is. lasts_next part full truth e v is l2)
        (λ t is. let inner_is : inside g (and_then part truth) ≡ Ok t = ap (inside g) is in
        lasts_next (inside g (and_then part truth)) (inside g (and_then full truth))
        (λ z. either z (Ok tt) (failed check)) (inside_extends g _ _ both) t inner_is lasts)

    -- ---- a call

    module _ (asked : Option CheckId) (ks : code.Frame) (frame : Frame)
        (its : IsFrame ctors missing ρ ks frame) (g : FunctionId) (pre down : Option CheckId) where
      module _ (f : Function) (k reach : ℕ) (args : List ℕ) where
        abbrev A : Piece ℕ
        A = admitting asked (sites None) f.pre pre k args reach

        abbrev M : Piece code.Frame
        M = measuring None (sites None) f.measure (after k A) args A.alive

        abbrev N : Piece ℕ
        N = descending asked down ks M.out (after (after k A) M) M.alive

        abbrev B : Piece ℕ
        B = compile None (sites M.out) f.body (after (after (after k A) M) N) args N.alive

        abbrev Entered : Piece ℕ
        Entered = joined A (joined M (joined N B))

        made_a : Made k Entered → Made k A
        made_a h = made_left ctors missing ρ k A (joined M (joined N B)) h

        made_mnb : Made k Entered → Made (after k A) (joined M (joined N B))
        made_mnb h = made_right ctors missing ρ k A (joined M (joined N B)) h

        made_m : Made k Entered → Made (after k A) M
        made_m h = made_left ctors missing ρ (after k A) M (joined N B) (made_mnb h)

        made_nb : Made k Entered → Made (after (after k A) M) (joined N B)
        made_nb h = made_right ctors missing ρ (after k A) M (joined N B) (made_mnb h)

        made_n : Made k Entered → Made (after (after k A) M) N
        made_n h = made_left ctors missing ρ (after (after k A) M) N B (made_nb h)

        made_b : Made k Entered → Made (after (after (after k A) M) N) B
        made_b h = made_right ctors missing ρ (after (after k A) M) N B (made_nb h)

        -- the body of a frame that isn't reached: what its measure values are doesn't count
        quiet_body : Made k Entered → Off ρ N.alive → IsQuiet ρ B
        quiet_body h dead =
            let any = some_frame M.out in
            (right_in None sites c d are M.out any.0 any.1 f.body).quiet (after (after (after k A) M) N) args N.alive
            (made_b h) dead

        quiet_nb : Made k Entered → Off ρ M.alive → IsQuiet ρ (joined N B)
        quiet_nb h dead = quiet_bind ρ N B
            (descending_quiet ctors missing ρ asked down ks M.out (after (after k A) M) M.alive
            (made_n h) dead) (quiet_body h)

        quiet_mnb : Made k Entered → Off ρ A.alive → IsQuiet ρ (joined M (joined N B))
        quiet_mnb h dead = quiet_bind ρ M (joined N B)
            (measuring_quiet None sites c d are f.measure (after k A) args A.alive (made_m h) dead) (quiet_nb h)

        entered_quiet : Made k Entered → Off ρ reach → IsQuiet ρ Entered
        entered_quiet h off = quiet_bind ρ A (joined M (joined N B))
            (admitting_quiet asked f.pre pre k args reach (made_a h) off) (quiet_mnb h)

        entered_told : Made k Entered → On ρ reach → (vs : List Value) → AreValues ρ args vs
            → Lasts (enters d ctors (Some f) frame g pre down vs)
            → IsTold ρ asked (IsValue ρ) Entered (enters c ctors (Some f) frame g pre down vs)
        entered_told h on vs values lasts =
            told_then ρ asked A (joined M (joined N B)) (admits c g f.pre pre vs) (admits d g f.pre pre vs) _ _
            (admits_extends c d are.cover g f.pre pre vs) lasts
            (λ l. admitting_told asked g f.pre pre k args reach (made_a h) on vs values l)
            (quiet_mnb h)
            (λ u on1 any l1. told_then ρ asked M (joined N B) (inside g (frame_of c f.measure vs))
            (inside g (frame_of d f.measure vs)) _ _
            (inside_extends g _ _ (frame_extends c d are.cover f.measure vs)) l1
            (λ l. inside_told ρ asked g M (frame_of c f.measure vs)
            (measuring_told None sites c d are f.measure (after k A) args A.alive (made_m h) on1 vs values
            (inside_lasts g (frame_of d f.measure vs) l)))
            (quiet_nb h)
            (λ new on2 is_new l2. told_then ρ asked N B (descends ctors down frame new)
            (descends ctors down frame new) _ _ (same_extends (descends ctors down frame new)) l2
            (λ l. descending_told ctors missing ρ asked down ks M.out frame new its is_new
            (after (after k A) M) M.alive (made_n h) on2)
            (quiet_body h)
            (λ u2 on3 any2 l3. inside_told ρ asked g B (meaning c f.body new vs)
            ((right_in None sites c d are M.out new is_new f.body).told (after (after (after k A) M) N) args N.alive
            (made_b h) vs on3 values (inside_lasts g (meaning d f.body new vs) l3)))))

-- ---- calls that are followed

module _ (ctors : List Ctor) (functions : List Function) (deeper : CallMeaning) (missing : Missing) (ρ : Values) where
  abbrev Fueled : ℕ → CallMeaning
  Fueled n = calls_to ctors functions n

  abbrev Full : ℕ → CallMeaning
  Full n = calls_over deeper ctors functions n

  pub full_covers : (n : ℕ) → CallsCover (Fueled n) (Full n)
  full_covers zero frame g pre measure args = tt
  full_covers (suc n) frame g pre measure args =
      enters_cover (Fueled n) (Full n) (full_covers n) ctors (slice_get functions g.0) frame g pre measure args

  stopped_quiet : (o : Option Function) (k : ℕ) → IsMade ctors missing ρ k (stopped o k)
      → IsQuiet ρ (stopped o k)
  stopped_quiet o k h = record { alive = ap bit h.steps.1.0 ∙ bit_truth false; fails = tt }

  stopped_told : (asked : Option CheckId) (o : Option Function) (k : ℕ)
      → IsMade ctors missing ρ k (stopped o k) → IsTold ρ asked (IsValue ρ) (stopped o k) (Err Deep)
  stopped_told asked o k h = record { told = (ap bit h.steps.1.0 ∙ bit_truth false, tt) }

  module _ (n : ℕ) (are : AreSites ctors missing ρ None (inlined functions n None) (Fueled n) (Full n))
      (asked : Option CheckId) (ks : code.Frame) (frame : Frame)
      (its : IsFrame ctors missing ρ ks frame) (g : FunctionId) (pre down : Option CheckId) where
    entering_quiet : (o : Option Function) (k reach : ℕ) (args : List ℕ)
        → IsMade ctors missing ρ k (entering (inlined functions n None) asked ks o k reach pre down args)
        → Off ρ reach
        → IsQuiet ρ (entering (inlined functions n None) asked ks o k reach pre down args)
    entering_quiet None k reach args h off = stopped_quiet None k h
    entering_quiet (Some f) k reach args h off = entered_quiet ctors missing ρ (inlined functions n None)
        (Fueled n) (Full n) are asked ks frame its g pre down f k reach args h off

    entering_told : (o : Option Function) (k reach : ℕ) (args : List ℕ)
        → IsMade ctors missing ρ k (entering (inlined functions n None) asked ks o k reach pre down args)
        → On ρ reach
        → (vs : List Value) → AreValues ρ args vs → Lasts (enters (Full n) ctors o frame g pre down vs)
        → IsTold ρ asked (IsValue ρ) (entering (inlined functions n None) asked ks o k reach pre down args)
        (enters (Fueled n) ctors o frame g pre down vs)
    entering_told None k reach args h on vs values lasts = absurd (lasts.meant refl)
    entering_told (Some f) k reach args h on vs values lasts = entered_told ctors missing ρ
        (inlined functions n None) (Fueled n) (Full n) are asked ks frame its g pre down f k reach args h on vs values
        lasts

  -- calls with this fuel
  pub inlined_right : (n : ℕ) (asked : Option CheckId)
      → AreSites ctors missing ρ asked (inlined functions n asked) (Fueled n) (Full n)
  inlined_right zero asked = record {
    cover = full_covers zero;
    site = λ ks frame its. record {
      quiet = λ k reach g pre down args h off. stopped_quiet (slice_get functions g.0) k h;
      told = λ k reach g pre down args h on vs values lasts. stopped_told asked (slice_get functions g.0) k h;
    };
  }
  inlined_right (suc n) asked = record {
    cover = full_covers (suc n);
    site = λ ks frame its. record {
      quiet = λ k reach g pre down args h off. entering_quiet n (inlined_right n None) asked ks frame its g pre down
          (slice_get functions g.0) k reach args h off;
      told = λ k reach g pre down args h on vs values lasts. entering_told n
          (inlined_right n None) asked ks frame its g pre down (slice_get functions g.0) k reach args h on vs values
          lasts;
    };
  }
