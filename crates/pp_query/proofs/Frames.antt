-- What a search's frame tells: under an assignment that makes the asked literals true the symbols stand for arguments
-- that fail the check, and all such arguments have one.
use Rattle.std.proofs.Common.{◌≡◌, ℕ, Bool, List, [], All, Some, slice_get, refl, subst, arith}
use Rattle.pp_prog.specs.declared.expr.Function.{Function}
use Rattle.pp_prog.specs.declared.id.CheckId.{CheckId}
use Rattle.pp_prog.specs.declared.program.Program.{Program}
use Rattle.pp_prog.specs.declared.value.Value.{Value}
use Rattle.pp_prog.specs.Sorts.{param_sorts}
use Rattle.pp_gate.proofs.Places.{at_some}
use Rattle.pp_domain.specs.Laws.{AdmittedFor}
use Rattle.pp_domain.specs.Naming.{Naming, IsNaming}
use Rattle.pp_domain.specs.Symbols.{SymbolsStand}
use Rattle.pp_bounded_trees.specs.declared.arena.BoundedTree.{BoundedTree}
use Rattle.pp_bounded_trees.specs.declared.arena.Trees.{Trees}
use Rattle.pp_bounded_trees.specs.Laws.{bounded_laws}
use Rattle.pp_bounded_trees.specs.Meaning.{bounded_sense}
use Rattle.pp_bounded_trees.specs.Readable.{IsReadable}
use Rattle.pp_eval.specs.declared.outcome.Outcome.TheVariants.{Fails}
use Rattle.pp_eval.specs.Runs.{run}
use Rattle.pp_sound.specs.Counterexample.{IsCounterexample}
use Rattle.pp_sound.specs.Sound.{IsCheckOf}
use Rattle.pp_sound.proofs.Owners.{owner_within}
use Rattle.pp_symbolic.specs.declared.frame.Mode.TheVariants.{Real}
use Rattle.pp_symbolic.specs.Frame.{IsFrame, IsFrameOf, IsSupposed, TellsRun}
use Rattle.pp_query.specs.declared.question.Question.{Question}
use Rattle.pp_query.specs.Question.{IsQuestion}
use Rattle.pp_query.specs.Reply.{IsFailing}
use Rattle.pp_query.proofs.Stands.{stand_readable, stand_single}

module _ (p : Program) (c : CheckId) (round depth : ℕ) (q : Question Trees BoundedTree)
    (is : IsQuestion bounded_sense p c Real round depth q)
  where
    -- the assignment is a model of the question
    abbrev pub IsModelOf : (ℕ → Bool) → Type 0
    IsModelOf a = IsFailing q.circuit q.frame.fails q.frame.circuit_ok a

    some_naming : AdmittedFor bounded_sense p.types q.domain []
    some_naming = bounded_laws.names p.types q.domain q.circuit is.fits [] (omega arith)

    run_frame : IsFrame bounded_sense p c round depth q.domain q.circuit q.frame
    run_frame = is.run refl

    supposed : (n : Naming) → IsNaming p.types n → (a : ℕ → Bool) → IsModelOf a
        → IsSupposed bounded_sense p c round depth q.domain q.circuit q.frame n a
    supposed n admitted a f = record {
      good = record { gates = f.gives; ok = run_frame.ok a f.ok; matches = tt; admitted = admitted };
      ok = f.ok;
    }

    module _ (i : ℕ) (check : IsCheckOf p i c.0) where
      frame_at : (f : Function) → slice_get p.functions i ≡ Some f
          → IsFrameOf bounded_sense p c round depth q.domain q.circuit q.frame i f
      frame_at f at = run_frame.of_function i f check at

      -- what the frame tells under such an assignment
      record Told (a : ℕ → Bool) : Type 0 where
        pub function : Function
        pub at : slice_get p.functions i ≡ Some function
        pub naming : Naming
        pub tells : TellsRun bounded_sense p c round depth q.domain q.circuit q.frame i function naming a

      told : (a : ℕ → Bool) → IsModelOf a → Told a
      told a failing =
          let found = at_some p.functions i (owner_within p i c.0 check) in record {
            function = found.0;
            at = found.1;
            naming = some_naming.naming;
            tells = (frame_at found.0 found.1).tells some_naming.naming a
                (supposed some_naming.naming some_naming.admitted a failing);
          }

      -- the symbols can be read
      pub failing_readable : (a : ℕ → Bool) → IsModelOf a → All (IsReadable p.types q.domain a) q.frame.arguments
      failing_readable a failing =
          let t = told a failing in
          stand_readable p.types q.domain q.circuit t.naming a is.fits failing.gives (param_sorts t.function.params)
          q.frame.arguments t.tells.args (frame_at t.function t.at).symbols t.tells.arguments.stand

      told_counterexample : (a : ℕ → Bool) → IsModelOf a → (t : Told a)
          → IsCounterexample p i c round depth t.tells.args
      told_counterexample a failing t = record {
        function = t.function;
        called = t.tells.arguments.called;
        low = t.tells.arguments.low;
        fails = t.tells.tells.0 failing.fails;
      }

      -- they stand for arguments that fail the check
      pub some_counterexample : (a : ℕ → Bool) → IsModelOf a
          → (args : List Value) × IsCounterexample p i c round depth args
      some_counterexample a failing =
          let t = told a failing in (t.tells.args, told_counterexample a failing t)

      -- which are those that are read
      pub read_counterexample : (a : ℕ → Bool) → IsModelOf a → (args : List Value)
          → ((n : Naming) → SymbolsStand bounded_sense q.domain a n q.frame.arguments args)
          → IsCounterexample p i c round depth args
      read_counterexample a failing args stand =
          let t = told a failing in
          subst (IsCounterexample p i c round depth)
          (stand_single q.domain t.naming t.naming a q.frame.arguments t.tells.args args t.tells.arguments.stand
          (stand t.naming))
          (told_counterexample a failing t)

      -- each list of arguments that fail the check has such an assignment
      pub failing_of : (args : List Value) → IsCounterexample p i c round depth args → (a : ℕ → Bool) × IsModelOf a
      failing_of args ce =
          let frame = frame_at ce.function ce.called.function in
          let stood = frame.stood_for some_naming.naming some_naming.admitted args ce.called ce.low in
          let t = frame.tells some_naming.naming stood.assignment stood.supposed in
          let same = stand_single q.domain some_naming.naming some_naming.naming stood.assignment q.frame.arguments args
          t.args stood.arguments.stand t.arguments.stand in (
            stood.assignment,
            record {
              gives = stood.supposed.good.gates;
              fails = t.tells.1 (subst
                  (λ vs. run p.types.ctors p.functions ce.function vs round ≡ Fails c) same ce.fails);
              ok = stood.supposed.ok;
            },
          )
