-- The three ways in which calls are made that a proof compares: those of real runs, those of a guess run's own frame,
-- and those of its called frames. Where calls aren't unfolded, they are answered by what is true with fuel m, and m
-- grows.
use Rattle.std.proofs.Common.{◌≡◌, ℕ, None, List, refl}
use Rattle.pp_prog.specs.declared.expr.Function.{Function}
use Rattle.pp_prog.specs.declared.id.CheckId.{CheckId}
use Rattle.pp_prog.specs.declared.types.Ctor.{Ctor}
use Rattle.pp_eval.specs.declared.outcome.Stop.{Stop}
use Rattle.pp_eval.specs.declared.outcome.Stop.TheVariants.{Deep, Fails, Inner, Stuck}
use Rattle.pp_eval.specs.Invocation.{calls_to}
use Rattle.pp_eval.specs.Meaning.{CallMeaning, Frame}
use Rattle.pp_run_laws.proofs.Stops.{IsClosed}
use Rattle.pp_guess_runs.specs.Answers.{answers_of, truth}
use Rattle.pp_guess_runs.specs.Guess.{called, own}

pub data View : Type 0 where
  in_run : View
  in_own : CheckId → ℕ → View
  in_called : ℕ → View

-- the frame that calls come from: called frames have no measure values
abbrev pub frame_in : View → Frame → Frame
frame_in in_run frame = frame
frame_in (in_own c n) frame = frame
frame_in (in_called n) frame = None

-- how calls that are made up may stop: not inside other frames
abbrev pub NotInner : Stop → Type 0
NotInner (Fails c) = Unit {0}
NotInner (Inner g c) = ⊥
NotInner Deep = Unit {0}
NotInner Stuck = Unit {0}

pub not_inner_closed : IsClosed NotInner
not_inner_closed = record { fails = λ c. tt; stuck = tt }

-- which of these stops are kept: in real runs each failing check, in a guess run's own frame the check that is looked
-- at, and in called frames none
abbrev pub IsKept : View → Stop → Type 0
IsKept in_run (Fails c) = Unit {0}
IsKept in_run (Inner g c) = ⊥
IsKept in_run Deep = ⊥
IsKept in_run Stuck = ⊥
IsKept (in_own c n) (Fails d) = d.0 ≡ c.0
IsKept (in_own c n) (Inner g d) = ⊥
IsKept (in_own c n) Deep = ⊥
IsKept (in_own c n) Stuck = ⊥
IsKept (in_called n) x = ⊥

-- where a failing check is kept, calls come from the frame itself
pub frame_kept : (v : View) (c : CheckId) (frame : Frame) → IsKept v (Fails c) → frame_in v frame ≡ frame
frame_kept in_run c frame h = refl
frame_kept (in_own d n) c frame h = refl
frame_kept (in_called n) c frame h = absurd h

pub frame_none : (v : View) → frame_in v None ≡ None
frame_none in_run = refl
frame_none (in_own d n) = refl
frame_none (in_called n) = refl

pub deep_lost : (v : View) → IsKept v Deep → ⊥
deep_lost in_run h = h
deep_lost (in_own c n) h = h
deep_lost (in_called n) h = h

module _ (ctors : List Ctor) (fs : List Function) where
  -- calls of called frames with fuel n, over what is true with m
  abbrev pub called_over : ℕ → ℕ → CallMeaning
  called_over n m = called fs (answers_of ctors fs (truth m)) n

  abbrev pub calls_in : View → ℕ → CallMeaning
  calls_in in_run m = calls_to ctors fs m
  calls_in (in_own c n) m = own ctors fs (answers_of ctors fs (truth m)) c n
  calls_in (in_called n) m = called_over n m
