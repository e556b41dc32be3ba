-- Lists of steps of a guess run whose calls are unfolded on demand: how they grow, and that no guess run fails a check
-- where no values of such a list say so.
use Rattle.std.proofs.Common.{◌≡◌, ◌<◌, ◌++◌, ℕ, zero, suc, Contains, List, [], ◌∷◌, Some, ap, arith, map, refl, sym}
use Rattle.std.proofs.Common.{subst}
use Rattle.std.specs.Prelude.{slice_get}
use Rattle.std.proofs.Math.Logic.{∥∥₁_elim}
use Rattle.std.proofs.lemmas.List.Elements.{Contains-append_left, Contains-append_right}
use Rattle.std.proofs.lemmas.Option.{same_Some}
use Rattle.pp_prog.specs.declared.expr.Function.{Function}
use Rattle.pp_prog.specs.declared.id.CheckId.{CheckId}
use Rattle.pp_prog.specs.declared.program.Program.{Program}
use Rattle.pp_prog.specs.Sorts.{param_sorts}
use Rattle.pp_checks.specs.Plan.{IsPlanOf, Plan}
use Rattle.pp_induction.specs.Ends.{GuessFails, NoGuessFails}
use Rattle.pp_sound.specs.Sound.{IsCheckOf}
use Rattle.pp_steps.specs.Guesses.{GuessSteps, Standing, standing}
use Rattle.pp_build.proofs.StepLists.{reads_at, sorted_at}
use Rattle.pp_closure.specs.Valuation.{IsTrueIn, Valuation}
use Rattle.pp_compile.specs.Guessed.{move_of, stands}
use Rattle.pp_compile.specs.declared.moves.Unfolding.{Unfolding}
use Rattle.pp_compile.specs.declared.moves.Unfolding.TheVariants as part
use Rattle.pp_compile.specs.declared.standing.StandingCall.{StandingCall}
use Rattle.pp_demand_steps.specs.Laws.{IsDemandedGuess}
use Rattle.pp_demand_steps.specs.Moves.{AreAllowed, AreMoves, IsAllowed, Move, all_moved, demanded, moved}
use Rattle.pp_demand_steps.specs.Moves.{started_alone}
use Rattle.pp_demand_steps.proofs.Reading.{moves_read}
use Rattle.pp_demand_steps.proofs.Sorting.{moves_are_sorted}
use Rattle.pp_demand_values.proofs.Failing.{demanded_guess_has_values}
use Rattle.pp_guess_steps.specs.Laws.{HaveGuessSorts}
use Rattle.pp_guess_steps.proofs.StandingAgree.{standing_at}
use Rattle.pp_guess_values.proofs.Failing.{does_at}
use Rattle.pp_symbolic.specs.Frame.{IsOwner}
use Rattle.pp_symbolic.proofs.GuessFrame.{same_owner}
use Rattle.pp_query.specs.Demanded.{AllStand, IsDemanded, StillStands}
use Rattle.pp_query.proofs.Proved.{no_guess_fails}
use Rattle.pp_query.proofs.Refuted.{Never, all_of}

module _ (functions : List Function) where
  moved_last : (g : GuessSteps) (ms : List Move) (m : Move)
      → all_moved functions g (ms ++ m ∷ []) ≡ moved functions (all_moved functions g ms) m
  moved_last g [] m = refl
  moved_last g (x ∷ ms) m = moved_last (moved functions g x) ms m

  allowed_last : (n : ℕ) (g : GuessSteps) (ms : List Move) (m : Move) → AreAllowed functions n g ms
      → IsAllowed n (all_moved functions g ms) m → AreAllowed functions n g (ms ++ m ∷ [])
  allowed_last n g [] m all is = (is, tt)
  allowed_last n g (x ∷ ms) m all is = (all.0, allowed_last n (moved functions g x) ms m all.1 is)

  module _ (f : Function) (check : CheckId) (n : ℕ) where
    pub demanded_alone : (g : GuessSteps) → g ≡ started_alone functions f check → IsDemanded functions f check n g
    demanded_alone g e = record { moves = []; are = record { allowed = tt }; made = e }

    pub one_more : (g h : GuessSteps) (m : Move) → IsAllowed n g m → h ≡ moved functions g m
        → IsDemanded functions f check n g → IsDemanded functions f check n h
    one_more g h m allowed e is =
        let start = started_alone functions f check in
        let here : h ≡ moved functions (all_moved functions start is.moves) m =
        subst (λ x. h ≡ moved functions x m) is.made e in
        record {
          moves = is.moves ++ m ∷ [];
          are = record {
            allowed = allowed_last n start is.moves m is.are.allowed (subst (λ x. IsAllowed n x m) is.made allowed);
          };
          made = subst (λ x. h ≡ x) (sym (moved_last start is.moves m)) here;
        }

  pub still_stands : (g h : GuessSteps) (m : Move) → h ≡ moved functions g m → StillStands g h
  still_stands g h m e = subst (StillStands g) (sym e) (λ call there.
      subst (λ cs. Contains cs call) (sym (standing_at g.steps _)) (Contains-append_left (standing 0 g.steps) _ call there))

-- a part of a call that stands and waits less than n may be unfolded
pub allowed_move : (n : ℕ) (g : GuessSteps) (p : Unfolding) (c : Standing) → Contains (standing 0 g.steps) c
    → c.call.wait < n → IsAllowed n g (move_of p c)
allowed_move n g part.Body c there early = record { stands = there; early = early }
allowed_move n g part.Post c there early = record { stands = there; early = early }

pub all_stand : (calls : List StandingCall) (g : GuessSteps) → map stands calls ≡ standing 0 g.steps → AllStand calls g
all_stand calls g e k call at = subst (λ cs. Contains cs (stands call)) e (one_stands calls k at)
  where
    one_stands : (cs : List StandingCall) (k : ℕ) → slice_get cs k ≡ Some call → Contains (map stands cs) (stands call)
    one_stands [] k at = absurd (cc)
    one_stands (c ∷ cs) zero at = (0, omega arith, ap stands (same_Some c call at))
    one_stands (c ∷ cs) (suc k) at = Contains-append_right (stands c ∷ []) (map stands cs) (stands call) (one_stands cs k at)

module _ (p : Program) (plan : Plan) (is_plan : IsPlanOf plan p) (c : CheckId) (round : ℕ) (f : Function)
    (own : IsOwner p c f)
  where
    module _ (ms : List Move) (are : AreMoves p.functions f c round ms) where
      abbrev G : GuessSteps
      G = demanded p.functions f c ms

      have : HaveGuessSorts p.types G (param_sorts f.params)
      have = moves_are_sorted plan p is_plan own.number f own.here c round ms are

      -- the values of a guess run that fails
      values_of : IsDemandedGuess p f c ms have.sorts → Valuation G.steps
      values_of x = record {
        types = p.types;
        sorts = have.sorts;
        missing = x.missing;
        alike = x.alike;
        values = x.has_values.values;
        does = λ k s at.
            does_at p.types.ctors x.missing x.has_values.values 0 G.steps k k s x.has_values.obeyed.steps at (omega arith);
        reads = λ k s at. reads_at 0 G.steps k k s (moves_read p.functions f c round ms are).reads at (omega arith);
        typed = λ k s at. sorted_at p.types have.sorts 0 G.steps k k s have.sorted at (omega arith);
        sorted = x.has_values.sorted;
      }

      never_demanded : Never G → (i : ℕ) → IsCheckOf p i c.0 → NoGuessFails p i c round
      unfolding values_of have
      never_demanded never i check = no_guess_fails p i c round (λ failed. ∥∥₁_elim
          (demanded_guess_has_values p own.number f own.here c round (at_owner failed) ms are have) ⊥_prop one)
        where
          at_owner : GuessFails p i c round → GuessFails p own.number c round
          at_owner failed = subst (λ j. GuessFails p j c round) (same_owner p i own.number c.0 check own.owner) failed

          one : IsDemandedGuess p f c ms have.sorts → ⊥
          one x = never (values_of x) x.supposed.fails
              (all_of (IsTrueIn (values_of x)) G.supposed x.supposed.supposed)

          ⊥_prop : IsProp ⊥
          ⊥_prop = hlevel

    pub no_demanded_fails : (g : GuessSteps) → IsDemanded p.functions f c round g → Never g → (i : ℕ)
        → IsCheckOf p i c.0 → NoGuessFails p i c round
    no_demanded_fails g is never = never_demanded is.moves is.are (subst Never is.made never)
