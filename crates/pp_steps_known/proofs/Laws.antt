-- What a run reaches is known, even where the dead parts of its steps stand for nothing.
use Rattle.std.proofs.Common.{ℕ, true, List, [], ◌∷◌, ◌++◌, map, Some}
use Rattle.std.specs.Prelude.{All}
use Rattle.std.proofs.lemmas.List.Elements.{All-head}
use Rattle.pp_prog.specs.declared.expr.Function.{Function}
use Rattle.pp_prog.specs.declared.id.CheckId.{CheckId}
use Rattle.pp_prog.specs.declared.sort.Sort.{Sort}
use Rattle.pp_prog.specs.declared.types.Ctor.{Ctor}
use Rattle.pp_prog.specs.Sorts.{param_sorts}
use Rattle.pp_steps.specs.declared.step.Step.TheVariants as steps
use Rattle.pp_steps.specs.Frames.{any_of, arguments, inlined, numbers, open_step, run_steps, running}
use Rattle.pp_steps.specs.Meaning.{Missing, Values}
use Rattle.pp_steps.specs.Piece.{Piece, after, plain}
use Rattle.pp_steps_run.specs.Told.{On}
use Rattle.pp_steps_known.specs.Laws.{RunsAreKnown}
use Rattle.pp_steps_known.proofs.Given.{IsGiven, bit_is, given_left, given_right}
use Rattle.pp_steps_known.proofs.Calls.{any_known, inlined_know, running_known}

module _ (ctors : List Ctor) (missing : Missing) (ρ : Values) (K : ℕ → Type 0) where
  abbrev Given : {A : Type 0} → ℕ → Piece A → Type 0
  Given k x = IsGiven ρ K ctors missing k x.steps

  -- ---- the arguments

  -- the number that tells that the run is reached is known, and true
  reached : (ss : List Sort) → Given 0 (arguments ss) → K (arguments ss).alive × On ρ (arguments ss).alive
  reached ss h =
      let o : Piece (List ℕ) = plain (map open_step ss) (numbers 0 ss) 0 in
      let last = given_right 0 o.steps (steps.Bool true ∷ []) h in
      (last.tells.0, bit_is _ true last.obeys.0)

  -- the first number is that of an argument, or else tells that the run is reached
  first_known : (ss : List Sort) → Given 0 (arguments ss) → All K (arguments ss).out → K 0
  first_known [] h all = h.tells.0
  first_known (s ∷ ss) h all = All-head K 0 (numbers 1 ss) all

  -- ---- the run

  module _ (functions : List Function) (f : Function) (check : CheckId) (fuel : ℕ) where
    abbrev A : Piece (List ℕ)
    A = arguments (param_sorts f.params)

    abbrev n : ℕ
    n = after 0 A

    abbrev R : Piece ℕ
    R = running (inlined functions fuel (Some check)) (Some check) f n A.out A.alive

    abbrev F : Piece ℕ
    F = any_of R.fails (after n R) A.alive

    run_known : IsGiven ρ K ctors missing 0 (run_steps functions f check fuel).steps
        → All K (run_steps functions f check fuel).arguments → K (run_steps functions f check fuel).fails
    run_known h args =
        let ha = given_left 0 A.steps (R.steps ++ F.steps) h in
        let hrf = given_right 0 A.steps (R.steps ++ F.steps) h in
        let on = reached (param_sorts f.params) ha in
        let first = first_known (param_sorts f.params) ha args in
        let hr = running_known ctors missing ρ K first (inlined functions fuel)
        (inlined_know ctors missing ρ K first functions fuel) (Some check) f n A.out A.alive
        (given_left n R.steps F.steps hrf)
        (record { known = on.0; variables = λ o. args; frame = λ o. tt }) in
        any_known ctors missing ρ K first R.fails (after n R) A.alive (given_right n R.steps F.steps hrf) hr.fails

pub runs_are_known : (K : ℕ → Type 0) → RunsAreKnown K
runs_are_known K functions f check fuel ctors missing ρ obeys tells args =
    run_known ctors missing ρ K functions f check fuel (record { obeys = obeys; tells = tells }) args
