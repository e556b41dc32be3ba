-- Several expressions, constructors and calls.
use Rattle.std.proofs.Common.{◌≡◌, ℕ, List, [], ◌∷◌, ◌++◌, map, Option, Ok, refl, ap, ◌∙◌}
use Rattle.pp_prog.specs.declared.id.CheckId.{CheckId}
use Rattle.pp_prog.specs.declared.id.CtorId.{CtorId}
use Rattle.pp_prog.specs.declared.id.FunctionId.{FunctionId}
use Rattle.pp_prog.specs.declared.types.Ctor.{Ctor}
use Rattle.pp_prog.specs.declared.value.Value.{Value}
use Rattle.pp_prog.specs.declared.value.Value.TheVariants.{Tree}
use Rattle.pp_eval.specs.Meaning.{CallMeaning, Frame, Meaning}
use Rattle.pp_eval.specs.Meaning as run
use Rattle.pp_eval.specs.Part.{and_then}
use Rattle.pp_eval.proofs.Extends.{CallsCover, Extends, then_extends}
use Rattle.pp_steps.specs.declared.step.Step.TheVariants as steps
use Rattle.pp_steps.specs.Meaning.{Missing, Values}
use Rattle.pp_steps.specs.Compile.{Compiling, Site, all, all_from, one}
use Rattle.pp_steps.specs.Piece.{Piece, after, bind}
use Rattle.pp_steps_run.specs.Told.{AreValues, IsMade, IsQuiet, IsTold, IsValue, Off, On}
use Rattle.pp_steps_run.proofs.Lasting.{Lasts, told_then}
use Rattle.pp_steps_run.proofs.Patterns.{are_more}
use Rattle.pp_steps_run.proofs.Pieces.{made_left, made_right, quiet_bind, quiet_plain}
use Rattle.pp_steps_run.proofs.Rights.{IsRight, step_told}

-- values with their numbers are those of the numbers
pub values_are : (ρ : Values) (ks : List ℕ) (vs : List Value) → AreValues ρ ks vs → map ρ ks ≡ vs
values_are ρ [] [] h = refl
values_are ρ [] (v ∷ vs) h = absurd h
values_are ρ (k ∷ ks) [] h = absurd h
values_are ρ (k ∷ ks) (v ∷ vs) h = ap (λ u. u ∷ map ρ ks) h.0 ∙ ap (λ us. v ∷ us) (values_are ρ ks vs h.1)

module _ (ctors : List Ctor) (missing : Missing) (ρ : Values) (asked : Option CheckId)
    (frame : Frame) where
  abbrev Right : Compiling → Meaning → Meaning → Type 0
  Right = IsRight ctors missing ρ asked frame

  abbrev Made : {A : Type 0} → ℕ → Piece A → Type 0
  Made k x = IsMade ctors missing ρ k x

  -- each is right
  abbrev pub AllRight : List Compiling → List Meaning → List Meaning → Type 0
  AllRight [] [] [] = Unit {0}
  AllRight (m ∷ ms) (p ∷ ps) (f ∷ fs) = Right m p f × AllRight ms ps fs
  AllRight _ _ _ = ⊥

  pub all_extends : (ms : List Compiling) (ps fs : List Meaning) → AllRight ms ps fs
      → (done : List Value) (f : Frame) (vs : List Value)
      → Extends (run.all_from done ps f vs) (run.all_from done fs f vs)
  all_extends [] [] [] r done f vs = refl
  all_extends (m ∷ ms) (p ∷ ps) (q ∷ qs) r done f vs =
      then_extends _ _ _ _ (r.0.extends f vs) (λ v. all_extends ms ps qs r.1 (done ++ v ∷ []) f vs)
  all_extends [] (p ∷ ps) qs r done f vs = absurd r
  all_extends [] [] (q ∷ qs) r done f vs = absurd r
  all_extends (m ∷ ms) [] qs r done f vs = absurd r
  all_extends (m ∷ ms) (p ∷ ps) [] r done f vs = absurd r

  pub all_quiet : (ms : List Compiling) (ps fs : List Meaning) → AllRight ms ps fs
      → (done : List ℕ) (k : ℕ) (env : List ℕ) (reach : ℕ)
      → Made k (all_from done ms k env reach) → Off ρ reach → IsQuiet ρ (all_from done ms k env reach)
  all_quiet [] ps fs r done k env reach h off = quiet_plain ρ [] done reach off
  all_quiet (m ∷ ms) (p ∷ ps) (q ∷ qs) r done k env reach h off =
      let x = m k env reach in
      let y = all_from (done ++ x.out ∷ []) ms (after k x) env x.alive in
      quiet_bind ρ x y (r.0.quiet k env reach (made_left ctors missing ρ k x y h) off)
      (λ d. all_quiet ms ps qs r.1 (done ++ x.out ∷ []) (after k x) env x.alive
      (made_right ctors missing ρ k x y h) d)
  all_quiet (m ∷ ms) [] qs r done k env reach h off = absurd r
  all_quiet (m ∷ ms) (p ∷ ps) [] r done k env reach h off = absurd r

  pub all_told : (ms : List Compiling) (ps fs : List Meaning) → AllRight ms ps fs
      → (done : List ℕ) (known : List Value) → AreValues ρ done known → (k : ℕ) (env : List ℕ) (reach : ℕ)
      → Made k (all_from done ms k env reach) → (vs : List Value) → On ρ reach → AreValues ρ env vs → Lasts
      (run.all_from known fs frame vs)
      → IsTold ρ asked (AreValues ρ) (all_from done ms k env reach) (run.all_from known ps frame vs)
  all_told [] [] [] r done known are_done k env reach h vs on are lasts = record { told = (on, tt, are_done) }
  all_told (m ∷ ms) (p ∷ ps) (q ∷ qs) r done known are_done k env reach h vs on are lasts =
      let x = m k env reach in
      let y = all_from (done ++ x.out ∷ []) ms (after k x) env x.alive in
      let my = made_right ctors missing ρ k x y h in
      told_then ρ asked x y (p frame vs) (q frame vs) _ _ (r.0.extends frame vs) lasts
      (λ l. r.0.told k env reach (made_left ctors missing ρ k x y h) vs on are l)
      (λ d. all_quiet ms ps qs r.1 (done ++ x.out ∷ []) (after k x) env x.alive my d)
      (λ v alive is l. all_told ms ps qs r.1 (done ++ x.out ∷ []) (known ++ v ∷ [])
      (are_more ρ done (x.out ∷ []) known (v ∷ []) are_done (is, tt)) (after k x) env x.alive my vs alive are l)
  all_told [] (p ∷ ps) qs r done known are_done k env reach h vs on are lasts = absurd r
  all_told [] [] (q ∷ qs) r done known are_done k env reach h vs on are lasts = absurd r
  all_told (m ∷ ms) [] qs r done known are_done k env reach h vs on are lasts = absurd r
  all_told (m ∷ ms) (p ∷ ps) [] r done known are_done k env reach h vs on are lasts = absurd r

  -- what the steps of a call tell of it, and of one that isn't reached
  pub record IsSite (site : Site) (calls full : CallMeaning) : Type 0 where
    pub quiet : (k reach : ℕ) (g : FunctionId) (pre down : Option CheckId) (args : List ℕ)
        → IsMade ctors missing ρ k (site k reach g pre down args) → Off ρ reach
        → IsQuiet ρ (site k reach g pre down args)
    pub told : (k reach : ℕ) (g : FunctionId) (pre down : Option CheckId) (args : List ℕ)
        → IsMade ctors missing ρ k (site k reach g pre down args) → On ρ reach
        → (vs : List Value) → AreValues ρ args vs → Lasts (full frame g pre down vs)
        → IsTold ρ asked (IsValue ρ) (site k reach g pre down args) (calls frame g pre down vs)

  module _ (ms : List Compiling) (ps fs : List Meaning) (r : AllRight ms ps fs) where
    pub construct_right : (c : CtorId)
        → Right (λ k env reach. bind k (all ms k env reach) (λ n xs alive. one (steps.Construct c xs) n alive))
        (λ f vs. and_then (run.all ps f vs) (λ fields. Ok (Tree c fields)))
        (λ f vs. and_then (run.all fs f vs) (λ fields. Ok (Tree c fields)))
    construct_right c = record {
      extends = λ f vs. then_extends _ _ _ _ (all_extends ms ps fs r [] f vs) (λ us. refl);
      quiet = λ k env reach h off.
          let x = all ms k env reach in
          let y = one (steps.Construct c x.out) (after k x) x.alive in
          quiet_bind ρ x y (all_quiet ms ps fs r [] k env reach (made_left ctors missing ρ k x y h) off)
          (λ d. quiet_plain ρ _ (after k x) x.alive d);
      told = λ k env reach h vs on are lasts.
          let x = all ms k env reach in
          let y = one (steps.Construct c x.out) (after k x) x.alive in
          told_then ρ asked x y (run.all ps frame vs) (run.all fs frame vs) _ _
          (all_extends ms ps fs r [] frame vs) lasts
          (λ l. all_told ms ps fs r [] [] tt k env reach (made_left ctors missing ρ k x y h) vs on are l)
          (λ d. quiet_plain ρ _ (after k x) x.alive d)
          (λ us alive values l. step_told ctors missing ρ asked frame (steps.Construct c x.out)
          (after k x) x.alive (Tree c us) alive
          ((made_right ctors missing ρ k x y h).steps.0 ∙ ap (Tree c) (values_are ρ x.out us values)));
    }

    pub call_right : (site : Site) (calls full : CallMeaning) → CallsCover calls full → IsSite site calls full
        → (g : FunctionId) (pre down : Option CheckId)
        → Right (λ k env reach. bind k (all ms k env reach) (λ n xs alive. site n alive g pre down xs))
        (λ f vs. and_then (run.all ps f vs) (λ values. calls f g pre down values))
        (λ f vs. and_then (run.all fs f vs) (λ values. full f g pre down values))
    call_right site calls full more its g pre down = record {
      extends = λ f vs. then_extends _ _ _ _ (all_extends ms ps fs r [] f vs) (λ us. more f g pre down us);
      quiet = λ k env reach h off.
          let x = all ms k env reach in
          let y = site (after k x) x.alive g pre down x.out in
          quiet_bind ρ x y (all_quiet ms ps fs r [] k env reach (made_left ctors missing ρ k x y h) off)
          (λ d. its.quiet (after k x) x.alive g pre down x.out (made_right ctors missing ρ k x y h) d);
      told = λ k env reach h vs on are lasts.
          let x = all ms k env reach in
          let y = site (after k x) x.alive g pre down x.out in
          let my = made_right ctors missing ρ k x y h in
          told_then ρ asked x y (run.all ps frame vs) (run.all fs frame vs) _ _
          (all_extends ms ps fs r [] frame vs) lasts
          (λ l. all_told ms ps fs r [] [] tt k env reach (made_left ctors missing ρ k x y h) vs on are l)
          (λ d. its.quiet (after k x) x.alive g pre down x.out my d)
          (λ us alive values l. its.told (after k x) x.alive g pre down x.out my alive us values l);
    }
