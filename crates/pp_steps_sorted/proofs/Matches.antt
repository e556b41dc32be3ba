-- The steps of a match are well sorted where those of its cases are.
use Rattle.std.proofs.Common.{◌≡◌, ℕ, Bool, true, false, List, [], ◌∷◌, ◌++◌, Option, Some, None, refl, sym, ap, ◌∙◌}
use Rattle.std.proofs.Common.{subst}
use Rattle.pp_prog.specs.declared.id.CheckId.{CheckId}
use Rattle.pp_prog.specs.declared.sort.Sort.{Sort}
use Rattle.pp_prog.specs.declared.sort.Sort.TheVariants as sort
use Rattle.pp_prog.specs.declared.types.TypeTable.{TypeTable}
use Rattle.pp_prog.specs.PatternSorts.{bound_sorts}
use Rattle.pp_steps.specs.declared.step.Step.TheVariants as steps
use Rattle.pp_steps.specs.Compile.{Arm, Compiling, all_of, cases, deciding, matched, number_or, unless, when}
use Rattle.pp_steps.specs.Patterns.{fitting}
use Rattle.pp_steps.specs.Piece.{Piece, after, asks, bind, choice, failing, joined, plain}
use Rattle.pp_steps.specs.Sorted.{Sorts}
use Rattle.pp_steps_sorted.proofs.Forms.{Compiles}
use Rattle.pp_steps_sorted.proofs.Patterns.{IsFitSorted, pattern_fits}
use Rattle.pp_steps_sorted.proofs.Pieces.{AreBool, AreOf, IsOf, MaybeOf, WellSorted, choice_sorted, joined_sorted}
use Rattle.pp_steps_sorted.proofs.Pieces.{none_sorted, of_join, plain_sorted, possible_sorted, unless_sorted}
use Rattle.pp_steps_sorted.proofs.Pieces.{when_sorted}

module _ (types : TypeTable) (σ : Sorts) where
  all_of_sorted : (ts : List ℕ) (k alive : ℕ) → AreBool types σ ts → σ alive ≡ sort.Bool
      → WellSorted types σ (IsOf types σ sort.Bool) k (all_of k ts alive)
  all_of_sorted [] k alive h a = none_sorted types σ {R = IsOf types σ sort.Bool} k alive alive a a
  all_of_sorted (t ∷ ts) k alive h a =
      joined_sorted types σ k (when k alive t) _ (when_sorted types σ k alive t a h.0)
      (λ w. all_of_sorted ts _ k h.1 w.out)

  abbrev BothBool : ℕ × ℕ → Type 0
  BothBool p = (σ p.0 ≡ sort.Bool) × (σ p.1 ≡ sort.Bool)

  -- a guard that is written is a truth value
  abbrev pub GuardCompiles : List Sort → Option Compiling → Type 0
  GuardCompiles scope None = Unit {0}
  GuardCompiles scope (Some guard) = Compiles types σ scope sort.Bool guard

  deciding_sorted : (o : Option Compiling) (scope : List Sort) → GuardCompiles scope o
      → (k : ℕ) (env : List ℕ) (reach fits : ℕ) → AreOf types σ scope env → σ reach ≡ sort.Bool → σ fits ≡ sort.Bool
      → WellSorted types σ BothBool k (deciding o k env reach fits)
  deciding_sorted None scope h k env reach fits e r f =
      joined_sorted types σ k (unless k reach fits) _ (unless_sorted types σ k reach fits r f)
      (λ u. none_sorted types σ {R = BothBool} _ (fits, _) reach (f, u.out) r)
  deciding_sorted (Some guard) scope h k env reach fits e r f =
      joined_sorted types σ k (guard k env fits) _ (h k env fits e f)
      (λ x. joined_sorted types σ _ (when _ _ _) _ (when_sorted types σ _ _ _ x.alive x.out)
      (λ w. joined_sorted types σ _ (unless _ _ _) _ (unless_sorted types σ _ _ _ x.alive x.out)
      (λ u. plain_sorted types σ {R = BothBool} _ (steps.Choose fits _ reach ∷ []) (_, _) reach
      (λ all. (((f, sym all.0, r ∙ sym u.out ∙ sym all.0), tt), (w.out, all.0 ∙ u.out), r)))))

  -- at a matched value of sort s, in a scope of these sorts, the case has an outcome of sort u
  pub record ArmCompiles (scope : List Sort) (s u : Sort) (arm : Arm) : Type 0 where
    pub bound : List Sort
    pub binds : bound_sorts types.ctors arm.pattern s ≡ Some bound
    pub guard : GuardCompiles (scope ++ bound) arm.guard
    pub body : Compiles types σ (scope ++ bound) u arm.body

  abbrev pub AllArms : List Sort → Sort → Sort → List Arm → Type 0
  AllArms scope s u [] = Unit {0}
  AllArms scope s u (arm ∷ arms) = ArmCompiles scope s u arm × AllArms scope s u arms

  failing_bool : (b : Bool) (reach : ℕ) → σ reach ≡ sort.Bool → AreBool types σ (failing b reach)
  failing_bool true reach r = (r, tt)
  failing_bool false reach r = tt

  module _ (asked check : Option CheckId) (scope : List Sort) (s u : Sort) where
    -- what is left where a value fits no case
    missing_sorted : (t k : ℕ) (env : List ℕ) (reach : ℕ) → σ reach ≡ sort.Bool
        → WellSorted types σ (MaybeOf types σ u) k (cases asked [] check t k env reach)
    missing_sorted t k env reach r = record {
      given = λ all. record {
        sorted = (all.0, tt);
        fails = failing_bool (asks asked check) reach r;
        leaves = record { out = tt; alive = all.0 };
      };
    }

    -- a case, and those after it
    arm_sorted : (arm : Arm) (arms : List Arm) → ArmCompiles scope s u arm
        → (t : ℕ) (env : List ℕ) → σ t ≡ s → AreOf types σ scope env
        → ((k reach : ℕ) → σ reach ≡ sort.Bool
        → WellSorted types σ (MaybeOf types σ u) k (cases asked arms check t k env reach))
        → (k reach : ℕ) → σ reach ≡ sort.Bool
        → WellSorted types σ (MaybeOf types σ u) k (cases asked (arm ∷ arms) check t k env reach)
    arm_sorted arm arms h t env ht e next k reach r =
        let p = fitting arm.pattern k t in
        let here : Piece ℕ = plain p.steps t reach in
        let n = after k here in
        let fits = all_of n p.tests reach in
        let m = after n fits in
        let inner = env ++ p.bound in
        let goes = deciding arm.guard m inner reach fits.out in
        let l = after m goes in
        let body = arm.body l inner goes.out.0 in
        let rest = cases asked arms check t (after l body) env goes.out.1 in
        let chosen = choice (after (after l body) rest) goes.out.0 body rest in
        possible_sorted types σ u k (joined here (joined fits (joined goes chosen)))
        (joined_sorted types σ k here (joined fits (joined goes chosen))
        (plain_sorted types σ {R = λ _. IsFitSorted types σ k p h.bound} k p.steps t reach
        (λ all. let f = pattern_fits types σ arm.pattern k t s h.bound ht h.binds all in (f.sorted, f, r)))
        (λ f.
        let env_of = of_join types σ scope h.bound env p.bound e f.out.bound in
        joined_sorted types σ n fits (joined goes chosen) (all_of_sorted p.tests n reach f.out.tests r)
        (λ w. joined_sorted types σ m goes chosen
        (deciding_sorted arm.guard (scope ++ h.bound) h.guard m inner reach fits.out env_of r w.out)
        (λ g. choice_sorted types σ u l goes.out.0 body rest g.out.0 (h.body l inner goes.out.0 env_of g.out.0)
        (next (after l body) goes.out.1 g.out.1)))))

    cases_sorted : (arms : List Arm) → AllArms scope s u arms → (t k : ℕ) (env : List ℕ) (reach : ℕ) → σ t ≡ s
        → AreOf types σ scope env → σ reach ≡ sort.Bool
        → WellSorted types σ (MaybeOf types σ u) k (cases asked arms check t k env reach)
    cases_sorted [] h t k env reach ht e r = missing_sorted t k env reach r
    cases_sorted (arm ∷ arms) h t k env reach ht e r =
        arm_sorted arm arms h.0 t env ht e (λ n next q. cases_sorted arms h.1 t n env next ht e q) k reach r

    matched_sorted : (t k : ℕ) (x : Piece (Option ℕ)) (n : ℕ) → x.out ≡ Some n
        → WellSorted types σ (MaybeOf types σ u) k x → WellSorted types σ (IsOf types σ u) k (matched t x)
    matched_sorted t k x n is h = record {
      given = λ all.
          let it = h.given all in
          let here : σ n ≡ u = subst (MaybeOf types σ u) is it.leaves.out in
          record {
            sorted = it.sorted;
            fails = it.fails;
            leaves = record { out = ap (λ o. σ (number_or t o)) is ∙ here; alive = it.leaves.alive };
          };
    }

    -- a match with at least one case
    pub match_compiles : (m : Compiling) (arm : Arm) (arms : List Arm) → Compiles types σ scope s m
        → AllArms scope s u (arm ∷ arms)
        → Compiles types σ scope u
        (λ k env reach. bind k (m k env reach) (λ n t alive. matched t (cases asked (arm ∷ arms) check t n env alive)))
    match_compiles m arm arms hm h k env reach e r =
        let x = m k env reach in
        let y = cases asked (arm ∷ arms) check x.out (after k x) env x.alive in
        joined_sorted types σ k x (matched x.out y) (hm k env reach e r)
        (λ w. matched_sorted x.out (after k x) y _ refl
        (cases_sorted (arm ∷ arms) h x.out (after k x) env x.alive w.out e w.alive))
