-- `&&`, `||` and assertions: one part is evaluated where a truth value says so.
use Rattle.std.proofs.Common.{◌≡◌, ℕ, ◌+◌, suc, Bool, true, false, List, [], Option, Some, Ok, Err, refl, sym, ap}
use Rattle.std.proofs.Common.{subst, arith}
use Rattle.pp_prog.specs.declared.id.CheckId.{CheckId}
use Rattle.pp_prog.specs.declared.types.Ctor.{Ctor}
use Rattle.pp_prog.specs.declared.value.Value.{Value}
use Rattle.pp_prog.specs.declared.value.Value.TheVariants.{Bool as Truth}
use Rattle.pp_eval.specs.declared.outcome.Stop.TheVariants.{Fails}
use Rattle.pp_eval.specs.Meaning.{Frame, Meaning}
use Rattle.pp_eval.specs.Part.{Part, either}
use Rattle.pp_eval.proofs.Extends.{either_extends}
use Rattle.pp_steps.proofs.Counting.{plus_zero}
use Rattle.pp_steps.specs.Meaning.{Missing, Values, bit}
use Rattle.pp_steps.specs.Compile.{Compiling, skipping, unless, when}
use Rattle.pp_steps.specs.Piece.{Piece, after, asks, bind, choice, demand, joined, plain}
use Rattle.pp_steps_run.specs.Told.{AreValues, IsMade, IsQuiet, IsTold, IsValue, Off, On}
use Rattle.pp_steps_run.proofs.Branches.{GoesOn}
use Rattle.pp_steps_run.proofs.Choices.{Chosen, choice_first, choice_left, choice_quiet, choice_right, demand_off}
use Rattle.pp_steps_run.proofs.Choices.{demand_on, demand_quiet, unless_dead, unless_off, unless_on, when_dead}
use Rattle.pp_steps_run.proofs.Choices.{when_off, when_on}
use Rattle.pp_steps_run.proofs.Lasting.{Lasts}
use Rattle.pp_steps_run.proofs.Pieces.{made_left, made_right, quiet_bind, quiet_plain, told_after, told_stop}
use Rattle.pp_steps_run.proofs.Rights.{IsRight}

module _ (ctors : List Ctor) (missing : Missing) (ρ : Values) (asked : Option CheckId)
    (frame : Frame) where
  abbrev Right : Compiling → Meaning → Meaning → Type 0
  Right = IsRight ctors missing ρ asked frame

  abbrev Goes : (ℕ → List ℕ → ℕ → ℕ → Piece ℕ) → (Bool → Meaning) → (Bool → Meaning) → Type 0
  Goes = GoesOn ctors missing ρ asked frame

  abbrev Made : {A : Type 0} → ℕ → Piece A → Type 0
  Made k x = IsMade ctors missing ρ k x

  module _ (b : Compiling) (pb fb : Meaning) (rb : Right b pb fb) where
    module _ (k : ℕ) (env : List ℕ) (taken x alive : ℕ) where
      abbrev Branch : Piece ℕ
      Branch = b k env taken

      abbrev Stands : Piece (Option ℕ)
      Stands = plain [] (Some x) alive

      abbrev Skip : Piece ℕ
      Skip = skipping b k env taken x alive

      skip_is : Skip ≡ Chosen ctors missing ρ k taken Branch Stands
      skip_is = ap (λ n. choice n taken Branch Stands) (sym (plus_zero (after k Branch)))

      chosen : Made k Skip → Made k (Chosen ctors missing ρ k taken Branch Stands)
      chosen h = subst (λ (z : Piece ℕ). Made k z) skip_is h

      skip_left : (part : Part Value) → Made k Skip → On ρ taken
          → (Made k Branch → IsTold ρ asked (IsValue ρ) Branch part) → IsTold ρ asked (IsValue ρ) Skip part
      skip_left part h on g =
          let c = chosen h in
          subst (λ (z : Piece ℕ). IsTold ρ asked (IsValue ρ) z part) (sym skip_is)
          (choice_left ctors missing ρ k taken Branch Stands asked part c on
          (g (choice_first ctors missing ρ k taken Branch Stands c)) tt)

      skip_right : (v : Value) → Made k Skip → Off ρ taken → On ρ alive → ρ x ≡ v
          → IsTold ρ asked (IsValue ρ) Skip (Ok v)
      skip_right v h off on is =
          let c = chosen h in
          subst (λ (z : Piece ℕ). IsTold ρ asked (IsValue ρ) z (Ok v)) (sym skip_is)
          (choice_right ctors missing ρ k taken Branch Stands asked (Ok v) c off
          (rb.quiet k env taken (choice_first ctors missing ρ k taken Branch Stands c) off).fails
          (record { told = (on, tt, is) }))

      skip_quiet : Made k Skip → Off ρ taken → Off ρ alive → IsQuiet ρ Skip
      skip_quiet h off dead =
          let c = chosen h in
          subst (λ (z : Piece ℕ). IsQuiet ρ z) (sym skip_is)
          (choice_quiet ctors missing ρ k taken Branch Stands c off
          (rb.quiet k env taken (choice_first ctors missing ρ k taken Branch Stands c) off)
          (record { alive = dead; fails = tt }))

    -- ---- && and ||

    module _ (n : ℕ) (env : List ℕ) (x alive : ℕ) where
      abbrev W : Piece ℕ
      W = when n alive x

      abbrev U : Piece ℕ
      U = unless n alive x

      abbrev both : Piece ℕ
      both = joined W (skipping b (after n W) env n x alive)

      abbrev one_of : Piece ℕ
      one_of = joined U (skipping b (after n U) env (suc n) x alive)

      and_told : Made n both → (vs : List Value) → On ρ alive → AreValues ρ env vs → (t : Bool) → ρ x ≡ Truth t
          → bit (ρ x) ≡ t
          → Lasts (either t (fb frame vs) (Ok (Truth false))) → IsTold ρ asked (IsValue ρ) both
          (either t (pb frame vs) (Ok (Truth false)))
      and_told h vs on are true is is_t lasts =
          let s = skipping b (after n W) env n x alive in
          let taken = when_on ctors missing ρ n alive x (made_left ctors missing ρ n W s h) on is_t in
          told_after ρ asked W s (pb frame vs) tt
          (skip_left (after n W) env n x alive (pb frame vs) (made_right ctors missing ρ n W s h) taken
          (λ m. rb.told (after n W) env n m vs taken are lasts))
      and_told h vs on are false is is_t lasts =
          let s = skipping b (after n W) env n x alive in
          let taken = when_off ctors missing ρ n alive x (made_left ctors missing ρ n W s h) is_t in
          told_after ρ asked W s (Ok (Truth false)) tt
          (skip_right (after n W) env n x alive (Truth false) (made_right ctors missing ρ n W s h) taken on is)

      or_told : Made n one_of → (vs : List Value) → On ρ alive → AreValues ρ env vs → (t : Bool) → ρ x ≡ Truth t
          → bit (ρ x) ≡ t
          → Lasts (either t (Ok (Truth true)) (fb frame vs)) → IsTold ρ asked (IsValue ρ) one_of
          (either t (Ok (Truth true)) (pb frame vs))
      or_told h vs on are false is is_t lasts =
          let s = skipping b (after n U) env (suc n) x alive in
          let taken = unless_on ctors missing ρ n alive x (made_left ctors missing ρ n U s h) on is_t in
          told_after ρ asked U s (pb frame vs) tt
          (skip_left (after n U) env (suc n) x alive (pb frame vs) (made_right ctors missing ρ n U s h) taken
          (λ m. rb.told (after n U) env (suc n) m vs taken are lasts))
      or_told h vs on are true is is_t lasts =
          let s = skipping b (after n U) env (suc n) x alive in
          let taken = unless_off ctors missing ρ n alive x (made_left ctors missing ρ n U s h) is_t in
          told_after ρ asked U s (Ok (Truth true)) tt
          (skip_right (after n U) env (suc n) x alive (Truth true)
          (made_right ctors missing ρ n U s h) taken on is)

      and_quiet : Made n both → Off ρ alive → IsQuiet ρ both
      and_quiet h dead =
          let s = skipping b (after n W) env n x alive in
          let taken = when_dead ctors missing ρ n alive x (made_left ctors missing ρ n W s h) dead in
          quiet_bind ρ W s (quiet_plain ρ _ n alive dead)
          (λ d. skip_quiet (after n W) env n x alive (made_right ctors missing ρ n W s h) taken dead)

      or_quiet : Made n one_of → Off ρ alive → IsQuiet ρ one_of
      or_quiet h dead =
          let s = skipping b (after n U) env (suc n) x alive in
          let taken = unless_dead ctors missing ρ n alive x (made_left ctors missing ρ n U s h) dead in
          quiet_bind ρ U s (quiet_plain ρ _ (suc n) alive dead)
          (λ d. skip_quiet (after n U) env (suc n) x alive (made_right ctors missing ρ n U s h) taken dead)

    pub and_goes : Goes (λ n env x alive. bind n (when n alive x) (λ m taken _. skipping b m env taken x alive))
        (λ t f vs. either t (pb f vs) (Ok (Truth false))) (λ t f vs. either t (fb f vs) (Ok (Truth false)))
    and_goes = record {
      extends = λ t f vs. either_extends t _ _ _ _ (rb.extends f vs) refl;
      quiet = λ k env x alive h dead. and_quiet k env x alive h dead;
      told = λ k env x alive h vs on are t is is_t lasts. and_told k env x alive h vs on are t is is_t lasts;
    }

    pub or_goes : Goes (λ n env x alive. bind n (unless n alive x) (λ m taken _. skipping b m env taken x alive))
        (λ t f vs. either t (Ok (Truth true)) (pb f vs)) (λ t f vs. either t (Ok (Truth true)) (fb f vs))
    or_goes = record {
      extends = λ t f vs. either_extends t _ _ _ _ refl (rb.extends f vs);
      quiet = λ k env x alive h dead. or_quiet k env x alive h dead;
      told = λ k env x alive h vs on are t is is_t lasts. or_told k env x alive h vs on are t is is_t lasts;
    }

    -- ---- assertions

    module _ (check : CheckId) (n : ℕ) (env : List ℕ) (x alive : ℕ) where
      abbrev D : Piece ℕ
      D = demand (asks asked (Some check)) n alive x

      abbrev Rest : Piece ℕ
      Rest = b (after n D) env D.alive

      assert_quiet : Made n (joined D Rest) → Off ρ alive → IsQuiet ρ (joined D Rest)
      assert_quiet h dead =
          quiet_bind ρ D Rest (demand_quiet ctors missing ρ (asks asked (Some check)) n alive x
          (made_left ctors missing ρ n D Rest h) dead)
          (λ d. rb.quiet (after n D) env D.alive (made_right ctors missing ρ n D Rest h) d)

      assert_told : Made n (joined D Rest) → (vs : List Value) → On ρ alive → AreValues ρ env vs → (t : Bool)
          → bit (ρ x) ≡ t
          → Lasts (either t (fb frame vs) (Err (Fails check))) → IsTold ρ asked (IsValue ρ) (joined D Rest)
          (either t (pb frame vs) (Err (Fails check)))
      assert_told h vs on are true is lasts =
          let d = demand_on ctors missing ρ (asks asked (Some check)) n alive x
          (made_left ctors missing ρ n D Rest h) on is in
          told_after ρ asked D Rest (pb frame vs) d.1
          (rb.told (after n D) env D.alive (made_right ctors missing ρ n D Rest h) vs d.0 are lasts)
      assert_told h vs on are false is lasts =
          let d = demand_off ctors missing ρ (asks asked (Some check)) n alive x
          (made_left ctors missing ρ n D Rest h) on is in
          told_stop ρ asked D Rest (Fails check) d.1
          (rb.quiet (after n D) env D.alive (made_right ctors missing ρ n D Rest h) d.0)

    pub assert_goes : (check : CheckId)
        → Goes (λ n env x alive. bind n (demand (asks asked (Some check)) n alive x) (λ m _ going. b m env going))
        (λ t f vs. either t (pb f vs) (Err (Fails check))) (λ t f vs. either t (fb f vs) (Err (Fails check)))
    assert_goes check = record {
      extends = λ t f vs. either_extends t _ _ _ _ (rb.extends f vs) refl;
      quiet = λ k env x alive h dead. assert_quiet check k env x alive h dead;
      told = λ k env x alive h vs on are t is is_t lasts. assert_told check k env x alive h vs on are t is_t lasts;
    }
