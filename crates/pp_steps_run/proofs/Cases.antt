-- The cases of a match.
use Rattle.std.proofs.Common.{◌≡◌, ℕ, Bool, true, false, List, [], ◌∷◌, ◌++◌, Option, Some, None, Ok, Err, refl, sym}
use Rattle.std.proofs.Common.{ap, ◌∙◌, subst}
use Rattle.pp_prog.specs.declared.expr.Pattern.{Pattern}
use Rattle.pp_prog.specs.declared.id.CheckId.{CheckId}
use Rattle.pp_prog.specs.declared.types.Ctor.{Ctor}
use Rattle.pp_prog.specs.declared.value.Value.{Value}
use Rattle.pp_prog.specs.Fits.{fit}
use Rattle.pp_eval.specs.Meaning.{Frame, Meaning, attempt, attempt_with, first_case, guarded, or_next, taken}
use Rattle.pp_eval.specs.Meaning as run
use Rattle.pp_eval.specs.Part.{Part, and_then, failed}
use Rattle.pp_eval.proofs.Extends.{Extends, next_extends, same_extends, taken_extends, then_extends}
use Rattle.pp_steps.specs.Meaning.{Missing, Values, bit}
use Rattle.pp_steps.specs.Compile as steps
use Rattle.pp_steps.specs.Compile.{Compiling, all_of, cases, deciding, matched, number_or}
use Rattle.pp_steps.specs.Patterns.{Fitting, fitting}
use Rattle.pp_steps.specs.Piece.{Piece, after, asks, bind, failing, joined, plain}
use Rattle.pp_steps_run.specs.Told.{AllOf, AreValues, Flags, IsMade, IsQuiet, IsTold, IsValue, MayBe, Off, On, here}
use Rattle.pp_steps_run.proofs.Branches.{quiet_possible, told_possible}
use Rattle.pp_steps_run.proofs.Choices.{Chosen, choice_first, choice_left, choice_quiet, choice_right, choice_second}
use Rattle.pp_steps_run.proofs.Deciding.{IsDecided, RightGuard, all_of_dead, all_of_fails, all_of_off, all_of_on}
use Rattle.pp_steps_run.proofs.Deciding.{decided_fits, decided_idle, decided_misses, guard_extends}
use Rattle.pp_steps_run.proofs.Lasting.{Lasts, failed_is, lasts_first, lasts_next, told_then}
use Rattle.pp_steps_run.proofs.Patterns.{IsFitting, are_more, pattern_tested}
use Rattle.pp_steps_run.proofs.Pieces.{all_join, bit_truth, made_left, made_right, quiet_bind, told_after, told_stop}
use Rattle.pp_steps_run.proofs.Rights.{IsRight}

-- the body's value, where the case is taken
taken_body : (r next : Part Value) → and_then (taken true r) (λ o. or_next o next) ≡ r
taken_body (Ok v) next = refl
taken_body (Err s) next = refl

pub quiet_after : {A B : Type 0} (ρ : Values) (x : Piece A) (y : Piece B) → AllOf (Off ρ) x.fails → IsQuiet ρ y
    → IsQuiet ρ (joined x y)
quiet_after ρ x y h g = record { alive = g.alive; fails = all_join (Off ρ) x.fails y.fails h g.fails }

module _ (ctors : List Ctor) (missing : Missing) (ρ : Values) (asked : Option CheckId)
    (frame : Frame) where
  abbrev Right : Compiling → Meaning → Meaning → Type 0
  Right = IsRight ctors missing ρ asked frame

  abbrev Made : {A : Type 0} → ℕ → Piece A → Type 0
  Made k x = IsMade ctors missing ρ k x

  -- the case is right
  pub record RightArm (x : steps.Arm) (a b : run.Arm) : Type 0 where
    pub pattern : a.pattern ≡ x.pattern
    pub full_pattern : b.pattern ≡ x.pattern
    pub guard : RightGuard ctors missing ρ asked frame x.guard a.guard b.guard
    pub body : IsRight ctors missing ρ asked frame x.body a.body b.body

  abbrev pub RightArms : List steps.Arm → List run.Arm → List run.Arm → Type 0
  RightArms [] [] [] = Unit {0}
  RightArms (x ∷ xs) (a ∷ as') (b ∷ bs) = RightArm x a b × RightArms xs as' bs
  RightArms _ _ _ = ⊥

  -- ---- what the second calls do

  with_extends : (x : steps.Arm) (a b : run.Arm) → RightArm x a b
      → (o : Option (List Value)) (f : Frame) (vs : List Value)
      → Extends (attempt_with o a f vs) (attempt_with o b f vs)
  with_extends x a b r None f vs = refl
  with_extends x a b r (Some bound) f vs =
      then_extends _ _ _ _ (guard_extends ctors missing ρ asked frame x.guard a.guard b.guard r.guard f
      (vs ++ bound)) (λ t. taken_extends t _ _ (r.body.extends f (vs ++ bound)))

  arm_extends : (x : steps.Arm) (a b : run.Arm) → RightArm x a b → (v : Value) (f : Frame) (vs : List Value)
      → Extends (attempt a v f vs) (attempt b v f vs)
  arm_extends x a b r v f vs =
      subst (λ (p : Pattern). Extends (attempt a v f vs) (attempt_with (fit p v) b f vs))
      (r.pattern ∙ sym r.full_pattern) (with_extends x a b r (fit a.pattern v) f vs)

  pub arms_extend : (xs : List steps.Arm) (as' bs : List run.Arm) → RightArms xs as' bs
      → (check : Option CheckId) (v : Value) (f : Frame) (vs : List Value)
      → Extends (first_case as' check v f vs) (first_case bs check v f vs)
  arms_extend [] [] [] r check v f vs = same_extends (failed check)
  arms_extend (x ∷ xs) (a ∷ as') (b ∷ bs) r check v f vs =
      then_extends _ _ _ _ (arm_extends x a b r.0 v f vs)
      (λ o. next_extends o _ _ (arms_extend xs as' bs r.1 check v f vs))
  arms_extend [] (a ∷ as') bs r check v f vs = absurd r
  arms_extend [] [] (b ∷ bs) r check v f vs = absurd r
  arms_extend (x ∷ xs) [] bs r check v f vs = absurd r
  arms_extend (x ∷ xs) (a ∷ as') [] r check v f vs = absurd r

  -- ---- one case, before the next ones

  module _ (x : steps.Arm) (a b : run.Arm) (r : RightArm x a b) (rest : ℕ → ℕ → Piece (Option ℕ)) (k t : ℕ)
      (env : List ℕ) (reach : ℕ) where
    abbrev F : Fitting
    F = fitting x.pattern k t

    abbrev inner : List ℕ
    inner = env ++ F.bound

    abbrev P : Piece ℕ
    P = plain F.steps t reach

    abbrev kt : ℕ
    kt = after k P

    abbrev T : Piece ℕ
    T = all_of kt F.tests reach

    abbrev kg : ℕ
    kg = after kt T

    abbrev G : Piece (ℕ × ℕ)
    G = deciding x.guard kg inner reach T.out

    abbrev l : ℕ
    l = after kg G

    abbrev X : Piece ℕ
    X = x.body l inner G.out.0

    abbrev Y : Piece (Option ℕ)
    Y = rest (after l X) G.out.1

    abbrev C : Piece ℕ
    C = Chosen ctors missing ρ l G.out.0 X Y

    abbrev Whole : Piece ℕ
    Whole = joined P (joined T (joined G C))

    made_p : Made k Whole → Made k P
    made_p h = made_left ctors missing ρ k P (joined T (joined G C)) h

    made_t : Made k Whole → Made kt T
    made_t h = made_left ctors missing ρ kt T (joined G C)
        (made_right ctors missing ρ k P (joined T (joined G C)) h)

    made_gc : Made k Whole → Made kg (joined G C)
    made_gc h = made_right ctors missing ρ kt T (joined G C)
        (made_right ctors missing ρ k P (joined T (joined G C)) h)

    made_g : Made k Whole → Made kg G
    made_g h = made_left ctors missing ρ kg G C (made_gc h)

    made_c : Made k Whole → Made l C
    made_c h = made_right ctors missing ρ kg G C (made_gc h)

    made_x : Made k Whole → Made l X
    made_x h = choice_first ctors missing ρ l G.out.0 X Y (made_c h)

    pub made_y : Made k Whole → Made (after l X) Y
    made_y h = choice_second ctors missing ρ l G.out.0 X Y (made_c h)

    abbrev QuietRest : Type 0
    QuietRest = Made (after l X) Y → Off ρ G.out.1 → IsQuiet ρ Y

    t_fails : AllOf (Off ρ) T.fails
    t_fails = all_of_fails ctors missing ρ kt F.tests reach

    pub arm_quiet : Made k Whole → Off ρ reach → QuietRest → IsQuiet ρ Whole
    arm_quiet h off q =
        let fits = all_of_dead ctors missing ρ kt F.tests reach (made_t h) off in
        let d = decided_idle ctors missing ρ asked frame x.guard a.guard b.guard r.guard kg inner reach T.out
        (made_g h) off fits in
        quiet_after ρ P (joined T (joined G C)) tt
        (quiet_after ρ T (joined G C) t_fails
        (quiet_after ρ G C d.fails
        (choice_quiet ctors missing ρ l G.out.0 X Y (made_c h) d.taken
        (r.body.quiet l inner G.out.0 (made_x h) d.taken) (q (made_y h) d.next))))

    -- behind the pattern and the guard
    front : (part : Part Value) → AllOf (Off ρ) G.fails → IsTold ρ asked (IsValue ρ) C part
        → IsTold ρ asked (IsValue ρ) Whole part
    front part fails told =
        told_after ρ asked P (joined T (joined G C)) part tt
        (told_after ρ asked T (joined G C) part t_fails
        (told_after ρ asked G C part fails told))

    -- the next case is tried
    passed : Made k Whole → IsDecided ctors missing ρ asked frame G (Ok false) → (next : Part Value)
        → (On ρ G.out.1 → IsTold ρ asked (MayBe ρ) Y next)
        → IsTold ρ asked (IsValue ρ) Whole next
    passed h d next told =
        front next d.decides.2
        (choice_right ctors missing ρ l G.out.0 X Y asked next (made_c h) d.decides.0
        (r.body.quiet l inner G.out.0 (made_x h) d.decides.0).fails (told d.decides.1))

    -- by what the guard comes to, where the pattern fits
    decided : Made k Whole → (bound : List Value) (vs : List Value) → AreValues ρ inner (vs ++ bound)
        → (next full : Part Value)
        → (part : Part Bool) → IsDecided ctors missing ρ asked frame G part
        → (part ≡ Ok true → Lasts (b.body frame (vs ++ bound)))
        → (part ≡ Ok false → On ρ G.out.1 → IsTold ρ asked (MayBe ρ) Y next) → QuietRest
        → IsTold ρ asked (IsValue ρ) Whole
        (and_then (and_then part (λ z. taken z (a.body frame (vs ++ bound)))) (λ o. or_next o next))
    decided h bound vs are next full (Ok true) d body told q =
        subst (λ z. IsTold ρ asked (IsValue ρ) Whole z) (sym (taken_body (a.body frame (vs ++ bound)) next))
        (front (a.body frame (vs ++ bound)) d.decides.2
        (choice_left ctors missing ρ l G.out.0 X Y asked (a.body frame (vs ++ bound)) (made_c h) d.decides.0
        (r.body.told l inner G.out.0 (made_x h) (vs ++ bound) d.decides.0 are (body refl))
        (q (made_y h) d.decides.1).fails))
    decided h bound vs are next full (Ok false) d body told q = passed h d next (told refl)
    decided h bound vs are next full (Err s) d body told q =
        told_after ρ asked P (joined T (joined G C)) (Err s) tt
        (told_after ρ asked T (joined G C) (Err s) t_fails
        (told_stop ρ asked G C s d.decides.2
        (choice_quiet ctors missing ρ l G.out.0 X Y (made_c h) d.decides.0
        (r.body.quiet l inner G.out.0 (made_x h) d.decides.0) (q (made_y h) d.decides.1))))

    by_fit : Made k Whole → On ρ reach → (vs : List Value) → AreValues ρ env vs → (next full : Part Value)
        → Extends next full
        → (o : Option (List Value)) → IsFitting ρ F o → Lasts
        (and_then (attempt_with o b frame vs) (λ u. or_next u full))
        → (Lasts full → On ρ G.out.1 → IsTold ρ asked (MayBe ρ) Y next) → QuietRest
        → IsTold ρ asked (IsValue ρ) Whole (and_then (attempt_with o a frame vs) (λ u. or_next u next))
    by_fit h on vs are next full e None fits lasts told q =
        let off = all_of_off ctors missing ρ kt F.tests reach (made_t h) fits.told in
        passed h (decided_misses ctors missing ρ asked frame x.guard a.guard b.guard r.guard kg inner reach
        T.out (made_g h) on off) next (told lasts)
    by_fit h on vs are next full e (Some bound) fits lasts told q =
        let fit_on = all_of_on ctors missing ρ kt F.tests reach (made_t h) on fits.told.0 in
        let known = are_more ρ env F.bound vs bound are fits.told.1 in
        let l1 = lasts_first (attempt_with (Some bound) b frame vs) (λ u. or_next u full) lasts in
        let l2 = lasts_first (guarded b.guard frame (vs ++ bound)) (λ z. taken z (b.body frame (vs ++ bound))) l1 in
        let ge = guard_extends ctors missing ρ asked frame x.guard a.guard b.guard r.guard frame (vs ++ bound) in
        decided h bound vs known next full (guarded a.guard frame (vs ++ bound))
        (decided_fits ctors missing ρ asked frame x.guard a.guard b.guard r.guard kg inner reach T.out
        (made_g h) on fit_on (vs ++ bound) known l2)
        (λ is. lasts_first (b.body frame (vs ++ bound)) (λ w. Ok (Some w))
        (lasts_next (guarded a.guard frame (vs ++ bound)) (guarded b.guard frame (vs ++ bound))
        (λ z. taken z (b.body frame (vs ++ bound))) ge true is l1))
        (λ is. told (rest_lasts is ge))
        q
      where
        rest_lasts : guarded a.guard frame (vs ++ bound) ≡ Ok false
            → Extends (guarded a.guard frame (vs ++ bound)) (guarded b.guard frame (vs ++ bound)) → Lasts full
        rest_lasts is ge =
            let g_is : guarded b.guard frame (vs ++ bound) ≡ Ok false = subst
            (λ z. Extends z (guarded b.guard frame (vs ++ bound))) is ge in
            subst (λ z. Lasts (and_then (and_then z (λ z2. taken z2 (b.body frame (vs ++ bound))))
            (λ u. or_next u full))) g_is lasts

    pub arm_told : Made k Whole → On ρ reach → (v : Value) → ρ t ≡ v → (vs : List Value) → AreValues ρ env vs
        → (next full : Part Value) → Extends next full
        → Lasts (and_then (attempt b v frame vs) (λ u. or_next u full)) →
        (Lasts full → On ρ G.out.1 → IsTold ρ asked (MayBe ρ) Y next) → QuietRest
        → IsTold ρ asked (IsValue ρ) Whole (and_then (attempt a v frame vs) (λ u. or_next u next))
    arm_told h on v is vs are next full e lasts told q =
        let f = pattern_tested ctors missing ρ x.pattern k t v is (made_p h).steps in
        subst (λ (p : Pattern). IsTold ρ asked (IsValue ρ) Whole
        (and_then (attempt_with (fit p v) a frame vs) (λ u. or_next u next))) (sym r.pattern)
        (by_fit h on vs are next full e (fit x.pattern v) f
        (subst (λ (p : Pattern). Lasts
        (and_then (attempt_with (fit p v) b frame vs) (λ u. or_next u full))) r.full_pattern lasts) told q)

  -- ---- all cases

  pub cases_quiet : (xs : List steps.Arm) (as' bs : List run.Arm) → RightArms xs as' bs
      → (check : Option CheckId) (t k : ℕ) (env : List ℕ) (reach : ℕ)
      → Made k (cases asked xs check t k env reach) → Off ρ reach → IsQuiet ρ (cases asked xs check t k env reach)
  cases_quiet [] [] [] r check t k env reach h off =
      record { alive = ap bit h.steps.0 ∙ bit_truth false; fails = failing_off (asks asked check) }
    where
      failing_off : (z : Bool) → AllOf (Off ρ) (failing z reach)
      failing_off true = (off, tt)
      failing_off false = tt
  cases_quiet (x ∷ xs) (a ∷ as') (b ∷ bs) r check t k env reach h off =
      let rest = λ (n m : ℕ). cases asked xs check t n env m in
      quiet_possible ρ (Whole x a b r.0 rest k t env reach)
      (arm_quiet x a b r.0 rest k t env reach (record { steps = h.steps }) off
      (λ m d. cases_quiet xs as' bs r.1 check t _ env _ m d))
  cases_quiet [] (a ∷ as') bs r check t k env reach h off = absurd r
  cases_quiet [] [] (b ∷ bs) r check t k env reach h off = absurd r
  cases_quiet (x ∷ xs) [] bs r check t k env reach h off = absurd r
  cases_quiet (x ∷ xs) (a ∷ as') [] r check t k env reach h off = absurd r

  pub cases_told : (xs : List steps.Arm) (as' bs : List run.Arm) → RightArms xs as' bs
      → (check : Option CheckId) (t k : ℕ) (env : List ℕ) (reach : ℕ)
      → Made k (cases asked xs check t k env reach) → On ρ reach → (v : Value) → ρ t ≡ v → (vs : List Value)
      → AreValues ρ env vs
      → Lasts (first_case bs check v frame vs)
      → IsTold ρ asked (MayBe ρ) (cases asked xs check t k env reach) (first_case as' check v frame vs)
  cases_told [] [] [] r check t k env reach h on v is vs are lasts =
      let c = failed_is check lasts in
      subst (λ (o : Option CheckId). IsTold ρ asked (MayBe ρ) (cases asked [] o t k env reach) (failed o)) (sym c.1)
      (record { told = (ap bit h.steps.0 ∙ bit_truth false, flags (asks asked (Some c.0))) })
    where
      flags : (z : Bool) → Flags ρ z (failing z reach)
      flags true = here on
      flags false = tt
  cases_told (x ∷ xs) (a ∷ as') (b ∷ bs) r check t k env reach h on v is vs are lasts =
      let rest = λ (n m : ℕ). cases asked xs check t n env m in
      let whole : Made k (Whole x a b r.0 rest k t env reach) = record { steps = h.steps } in
      told_possible ρ asked (Whole x a b r.0 rest k t env reach) (first_case (a ∷ as') check v frame vs)
      (arm_told x a b r.0 rest k t env reach whole on v is vs are
      (first_case as' check v frame vs) (first_case bs check v frame vs)
      (arms_extend xs as' bs r.1 check v frame vs) lasts
      (λ l goes. cases_told xs as' bs r.1 check t _ env _
      (made_y x a b r.0 rest k t env reach whole) goes v is vs are l)
      (λ m d. cases_quiet xs as' bs r.1 check t _ env _ m d))
  cases_told [] (a ∷ as') bs r check t k env reach h on v is vs are lasts = absurd r
  cases_told [] [] (b ∷ bs) r check t k env reach h on v is vs are lasts = absurd r
  cases_told (x ∷ xs) [] bs r check t k env reach h on v is vs are lasts = absurd r
  cases_told (x ∷ xs) (a ∷ as') [] r check t k env reach h on v is vs are lasts = absurd r

  -- ---- the match

  number_is : (t : ℕ) (o : Option ℕ) (w : Value) → MayBe ρ o w → ρ (number_or t o) ≡ w
  number_is t None w h = absurd h
  number_is t (Some n) w h = h

  matched_told : (t : ℕ) (x : Piece (Option ℕ)) (part : Part Value) → IsTold ρ asked (MayBe ρ) x part
      → IsTold ρ asked (IsValue ρ) (matched t x) part
  matched_told t x (Ok w) h = record { told = (h.told.0, h.told.1, number_is t x.out w h.told.2) }
  matched_told t x (Err s) h = record { told = h.told }

  pub match_right : (m : Compiling) (pm fm : Meaning) → Right m pm fm
      → (xs : List steps.Arm) (as' bs : List run.Arm) → RightArms xs as' bs → (check : Option CheckId)
      → Right (λ k env reach. bind k (m k env reach) (λ n t alive. matched t (cases asked xs check t n env alive)))
      (λ f vs. and_then (pm f vs) (λ v. first_case as' check v f vs))
      (λ f vs. and_then (fm f vs) (λ v. first_case bs check v f vs))
  match_right m pm fm rm xs as' bs r check = record {
    extends = λ f vs. then_extends _ _ _ _ (rm.extends f vs) (λ v. arms_extend xs as' bs r check v f vs);
    quiet = λ k env reach h off.
        let x = m k env reach in
        let z = cases asked xs check x.out (after k x) env x.alive in
        let y = matched x.out z in
        let mz : Made (after k x) z = record {
          steps = (made_right ctors missing ρ k x y h).steps;
        } in
        quiet_bind ρ x y (rm.quiet k env reach (made_left ctors missing ρ k x y h) off)
        (λ d. let q = cases_quiet xs as' bs r check x.out
        (after k x) env x.alive mz d in record { alive = q.alive; fails = q.fails });
    told = λ k env reach h vs on are lasts.
        let x = m k env reach in
        let z = cases asked xs check x.out (after k x) env x.alive in
        let y = matched x.out z in
        let mz : Made (after k x) z = record {
          steps = (made_right ctors missing ρ k x y h).steps;
        } in
        told_then ρ asked x y (pm frame vs) (fm frame vs) _ _ (rm.extends frame vs) lasts
        (λ l. rm.told k env reach (made_left ctors missing ρ k x y h) vs on are l)
        (λ d. let q = cases_quiet xs as' bs r check x.out
        (after k x) env x.alive mz d in record { alive = q.alive; fails = q.fails })
        (λ v alive is l. matched_told x.out z (first_case as' check v frame vs)
        (cases_told xs as' bs r check x.out (after k x) env x.alive mz alive v is vs are l));
  }
