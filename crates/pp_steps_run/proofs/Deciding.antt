-- Where a case of a match is taken, and where the next one is tried.
use Rattle.std.proofs.Common.{◌≡◌, ℕ, suc, Bool, true, false, List, [], ◌∷◌, Option, Some, None, Ok, Err, refl, sym, ap}
use Rattle.std.proofs.Common.{◌∙◌, subst}
use Rattle.pp_prog.specs.declared.id.CheckId.{CheckId}
use Rattle.pp_prog.specs.declared.types.Ctor.{Ctor}
use Rattle.pp_prog.specs.declared.value.Value.{Value}
use Rattle.pp_eval.specs.Meaning.{Frame, Meaning, guarded}
use Rattle.pp_eval.specs.Operators.{truth}
use Rattle.pp_eval.specs.Part.{Part, and_then}
use Rattle.pp_eval.proofs.Extends.{Extends, same_extends, then_extends}
use Rattle.pp_steps.specs.declared.step.Step.TheVariants as steps
use Rattle.pp_steps.specs.Meaning.{Missing, Values, bit}
use Rattle.pp_steps.specs.Compile.{Compiling, all_of, deciding, unless, when}
use Rattle.pp_steps.specs.Piece.{Piece, after, joined, plain}
use Rattle.pp_steps_run.specs.Told.{AllOf, AreValues, Flags, IsMade, IsQuiet, IsTold, IsValue, Off, On, SomeOf, here}
use Rattle.pp_steps_run.specs.Told.{looked, there}
use Rattle.pp_steps_run.proofs.Choices.{if_false, if_true, unless_dead, unless_off, unless_on, when_dead, when_off}
use Rattle.pp_steps_run.proofs.Choices.{when_on}
use Rattle.pp_steps_run.proofs.Lasting.{Lasts, lasts_first, lasts_next, truth_is}
use Rattle.pp_steps_run.proofs.Pieces.{all_join, flags_left, made_left, made_right}
use Rattle.pp_steps_run.proofs.Rights.{IsRight}

module _ (ctors : List Ctor) (missing : Missing) (ρ : Values) where
  abbrev Made : {A : Type 0} → ℕ → Piece A → Type 0
  Made k x = IsMade ctors missing ρ k x

  -- ---- all of some numbers

  pub all_of_on : (k : ℕ) (ts : List ℕ) (alive : ℕ) → Made k (all_of k ts alive) → On ρ alive → AllOf (On ρ) ts
      → On ρ (all_of k ts alive).out
  all_of_on k [] alive h on all = on
  all_of_on k (t ∷ ts) alive h on all =
      let w = when k alive t in
      let y = all_of (after k w) ts k in
      all_of_on (after k w) ts k (made_right ctors missing ρ k w y h)
      (when_on ctors missing ρ k alive t (made_left ctors missing ρ k w y h) on all.0) all.1

  pub all_of_dead : (k : ℕ) (ts : List ℕ) (alive : ℕ) → Made k (all_of k ts alive) → Off ρ alive
      → Off ρ (all_of k ts alive).out
  all_of_dead k [] alive h off = off
  all_of_dead k (t ∷ ts) alive h off =
      let w = when k alive t in
      let y = all_of (after k w) ts k in
      all_of_dead (after k w) ts k (made_right ctors missing ρ k w y h)
      (when_dead ctors missing ρ k alive t (made_left ctors missing ρ k w y h) off)

  pub all_of_off : (k : ℕ) (ts : List ℕ) (alive : ℕ) → Made k (all_of k ts alive) → SomeOf (Off ρ) ts
      → Off ρ (all_of k ts alive).out
  all_of_off k [] alive h some = elim some [ ]
  all_of_off k (t ∷ ts) alive h (here off) =
      let w = when k alive t in
      let y = all_of (after k w) ts k in
      all_of_dead (after k w) ts k (made_right ctors missing ρ k w y h)
      (when_off ctors missing ρ k alive t (made_left ctors missing ρ k w y h) off)
  all_of_off k (t ∷ ts) alive h (there some) =
      let w = when k alive t in
      let y = all_of (after k w) ts k in
      all_of_off (after k w) ts k (made_right ctors missing ρ k w y h) some

  pub all_of_fails : (k : ℕ) (ts : List ℕ) (alive : ℕ) → AllOf (Off ρ) (all_of k ts alive).fails
  all_of_fails k [] alive = tt
  all_of_fails k (t ∷ ts) alive = all_of_fails (after k (when k alive t)) ts k

  module _ (asked : Option CheckId) (frame : Frame) where
    abbrev Right : Compiling → Meaning → Meaning → Type 0
    Right = IsRight ctors missing ρ asked frame

    -- the guard is right, or there is none
    abbrev pub RightGuard : Option Compiling → Option Meaning → Option Meaning → Type 0
    RightGuard None None None = Unit {0}
    RightGuard (Some m) (Some p) (Some f) = Right m p f
    RightGuard _ _ _ = ⊥

    -- where the case is taken and the next is tried, by what the guard comes to
    abbrev Decides : Piece (ℕ × ℕ) → Part Bool → Type 0
    Decides x (Ok true) = On ρ x.out.0 × Off ρ x.out.1 × AllOf (Off ρ) x.fails
    Decides x (Ok false) = Off ρ x.out.0 × On ρ x.out.1 × AllOf (Off ρ) x.fails
    Decides x (Err s) = Off ρ x.out.0 × Off ρ x.out.1 × Flags ρ (looked asked s) x.fails

    pub record IsDecided (x : Piece (ℕ × ℕ)) (part : Part Bool) : Type 0 where
      pub decides : Decides x part

    -- neither here nor there
    pub record IsIdle (x : Piece (ℕ × ℕ)) : Type 0 where
      pub taken : Off ρ x.out.0
      pub next : Off ρ x.out.1
      pub fails : AllOf (Off ρ) x.fails

    -- ---- without a guard

    module _ (k : ℕ) (env : List ℕ) (reach fits : ℕ) where
      abbrev Plain : Piece (ℕ × ℕ)
      Plain = deciding None k env reach fits

      plain_unless : Made k Plain → Made k (unless k reach fits)
      plain_unless h = made_left ctors missing ρ k (unless k reach fits) (plain [] (fits, suc k) reach) h

      plain_fits : Made k Plain → On ρ reach → On ρ fits → IsDecided Plain (Ok true)
      plain_fits h on fit =
          record { decides = (fit, unless_off ctors missing ρ k reach fits (plain_unless h) fit, tt) }

      plain_misses : Made k Plain → On ρ reach → Off ρ fits → IsDecided Plain (Ok false)
      plain_misses h on fit =
          record { decides = (fit, unless_on ctors missing ρ k reach fits (plain_unless h) on fit, tt) }

      plain_idle : Made k Plain → Off ρ reach → Off ρ fits → IsIdle Plain
      plain_idle h off fit = record {
        taken = fit;
        next = unless_dead ctors missing ρ k reach fits
            (plain_unless h) off;
        fails = tt;
      }

    -- ---- with a guard

    module _ (g : Compiling) (pg fg : Meaning) (rg : Right g pg fg) (k : ℕ) (env : List ℕ) (reach fits : ℕ) where
      abbrev X : Piece ℕ
      X = g k env fits

      abbrev n : ℕ
      n = after k X

      abbrev W : Piece ℕ
      W = when n X.alive X.out

      abbrev U : Piece ℕ
      U = unless (after n W) X.alive X.out

      abbrev l : ℕ
      l = after (after n W) U

      abbrev Last : Piece (ℕ × ℕ)
      Last = plain (steps.Choose fits (suc (after n W)) reach ∷ []) (n, l) reach

      abbrev Guarded : Piece (ℕ × ℕ)
      Guarded = deciding (Some g) k env reach fits

      made_x : Made k Guarded → Made k X
      made_x h = made_left ctors missing ρ k X (joined W (joined U Last)) h

      made_w : Made k Guarded → Made n W
      made_w h = made_left ctors missing ρ n W (joined U Last)
          (made_right ctors missing ρ k X (joined W (joined U Last)) h)

      made_u : Made k Guarded → Made (after n W) U
      made_u h = made_left ctors missing ρ (after n W) U Last
          (made_right ctors missing ρ n W (joined U Last)
          (made_right ctors missing ρ k X (joined W (joined U Last)) h))

      made_last : Made k Guarded → Made l Last
      made_last h = made_right ctors missing ρ (after n W) U Last
          (made_right ctors missing ρ n W (joined U Last)
          (made_right ctors missing ρ k X (joined W (joined U Last)) h))

      -- the number that follows is the missed one where the pattern fits, and the first where it doesn't
      next_fits : Made k Guarded → On ρ fits → bit (ρ l) ≡ bit (ρ (suc (after n W)))
      next_fits h fit = ap bit (if_true _ _ _ _ (made_last h).steps.0 fit)

      next_misses : Made k Guarded → Off ρ fits → bit (ρ l) ≡ bit (ρ reach)
      next_misses h fit = ap bit (if_false _ _ _ _ (made_last h).steps.0 fit)

      quiet_x : Made k Guarded → Off ρ fits → IsQuiet ρ X
      quiet_x h fit = rg.quiet k env fits (made_x h) fit

      no_more : AllOf (Off ρ) X.fails → AllOf (Off ρ) Guarded.fails
      no_more h = all_join (Off ρ) X.fails [] h tt

      guard_misses : Made k Guarded → On ρ reach → Off ρ fits → IsDecided Guarded (Ok false)
      guard_misses h on fit = record {
        decides = (
          when_dead ctors missing ρ n X.alive X.out (made_w h)
              (quiet_x h fit).alive,
          next_misses h fit ∙ on,
          no_more (quiet_x h fit).fails,
        );
      }

      guard_idle : Made k Guarded → Off ρ reach → Off ρ fits → IsIdle Guarded
      guard_idle h off fit = record {
        taken = when_dead ctors missing ρ n X.alive X.out (made_w h) (quiet_x h fit).alive;
        next = next_misses h fit ∙ off;
        fails = no_more (quiet_x h fit).fails;
      }

      guard_by : Made k Guarded → On ρ fits → (part : Part Value) → IsTold ρ asked (IsValue ρ) X part
          → ((v : Value) → part ≡ Ok v → Lasts (truth v)) → IsDecided Guarded (and_then part truth)
      guard_by h fit (Err s) told lasts = record {
        decides = (
          when_dead ctors missing ρ n X.alive X.out (made_w h) told.told.0,
          next_fits h fit ∙ unless_dead ctors missing ρ (after n W) X.alive X.out (made_u h) told.told.0,
          flags_left ρ (looked asked s) X.fails [] told.told.1 tt,
        );
      }
      guard_by h fit (Ok v) told lasts =
          subst (IsDecided Guarded) (sym (truth_is v (lasts v refl)))
          (by (bit v) (ap bit told.told.2))
        where
          by : (b : Bool) → bit (ρ X.out) ≡ b → IsDecided Guarded (Ok b)
          by true is = record {
            decides = (
              when_on ctors missing ρ n X.alive X.out (made_w h) told.told.0 is,
              next_fits h fit ∙ unless_off ctors missing ρ (after n W) X.alive X.out (made_u h) is,
              no_more told.told.1,
            );
          }
          by false is = record {
            decides = (
              when_off ctors missing ρ n X.alive X.out (made_w h) is,
              next_fits h fit ∙ unless_on ctors missing ρ (after n W) X.alive X.out (made_u h) told.told.0 is,
              no_more told.told.1,
            );
          }

      guard_fits : Made k Guarded → On ρ fits → (vs : List Value) → AreValues ρ env vs
          → Lasts (and_then (fg frame vs) truth) → IsDecided Guarded (and_then (pg frame vs) truth)
      guard_fits h fit vs are lasts =
          guard_by h fit (pg frame vs)
          (rg.told k env fits (made_x h) vs fit are (lasts_first (fg frame vs) truth lasts))
          (λ v is. lasts_next (pg frame vs) (fg frame vs) truth (rg.extends frame vs) v is lasts)

    -- ---- both

    pub decided_misses : (c : Option Compiling) (p f : Option Meaning) → RightGuard c p f
        → (k : ℕ) (env : List ℕ) (reach fits : ℕ)
        → Made k (deciding c k env reach fits) → On ρ reach → Off ρ fits → IsDecided (deciding c k env reach fits)
        (Ok false)
    decided_misses None p f r k env reach fits h on fit = plain_misses k env reach fits h on fit
    decided_misses (Some g) (Some pg) (Some fg) r k env reach fits h on fit =
        guard_misses g pg fg r k env reach fits h on fit
    decided_misses (Some g) None f r k env reach fits h on fit = absurd r
    decided_misses (Some g) (Some pg) None r k env reach fits h on fit = absurd r

    pub decided_idle : (c : Option Compiling) (p f : Option Meaning) → RightGuard c p f
        → (k : ℕ) (env : List ℕ) (reach fits : ℕ)
        → Made k (deciding c k env reach fits) → Off ρ reach → Off ρ fits → IsIdle (deciding c k env reach fits)
    decided_idle None p f r k env reach fits h on fit = plain_idle k env reach fits h on fit
    decided_idle (Some g) (Some pg) (Some fg) r k env reach fits h on fit =
        guard_idle g pg fg r k env reach fits h on fit
    decided_idle (Some g) None f r k env reach fits h on fit = absurd r
    decided_idle (Some g) (Some pg) None r k env reach fits h on fit = absurd r

    pub decided_fits : (c : Option Compiling) (p f : Option Meaning) → RightGuard c p f
        → (k : ℕ) (env : List ℕ) (reach fits : ℕ)
        → Made k (deciding c k env reach fits) → On ρ reach → On ρ fits → (vs : List Value) → AreValues ρ env vs
        → Lasts (guarded f frame vs)
        → IsDecided (deciding c k env reach fits) (guarded p frame vs)
    decided_fits None None None r k env reach fits h on fit vs are lasts = plain_fits k env reach fits h on fit
    decided_fits None None (Some fg) r k env reach fits h on fit vs are lasts = absurd r
    decided_fits None (Some pg) f r k env reach fits h on fit vs are lasts = absurd r
    decided_fits (Some g) (Some pg) (Some fg) r k env reach fits h on fit vs are lasts =
        guard_fits g pg fg r k env reach fits h fit vs are lasts
    decided_fits (Some g) None f r k env reach fits h on fit vs are lasts = absurd r
    decided_fits (Some g) (Some pg) None r k env reach fits h on fit vs are lasts = absurd r

    pub guard_extends : (c : Option Compiling) (p f : Option Meaning) → RightGuard c p f
        → (fr : Frame) (vs : List Value) → Extends (guarded p fr vs) (guarded f fr vs)
    guard_extends None None None r fr vs = refl
    guard_extends None None (Some fg) r fr vs = absurd r
    guard_extends None (Some pg) f r fr vs = absurd r
    guard_extends (Some g) (Some pg) (Some fg) r fr vs =
        then_extends _ _ _ _ (r.extends fr vs) (λ v. same_extends (truth v))
    guard_extends (Some g) None f r fr vs = absurd r
    guard_extends (Some g) (Some pg) None r fr vs = absurd r
