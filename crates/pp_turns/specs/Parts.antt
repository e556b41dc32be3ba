-- Where a check stands between its turns. Source: own.
use Rattle.std.specs.Prelude.{◌≡◌, ℕ, Bool, IsTrue, List, Option, Some, None, is_some, slice_get}
use Rattle.std.specs.Prelude.{option_and_then, option_to_list}
use Rattle.pp_induct.specs.declared.ends.CheckEnd.{CheckEnd}
use Rattle.pp_verify.specs.declared.progress.Progress.{Progress}
use Rattle.pp_verify.specs.declared.progress.Step.{Step}
use Rattle.pp_verify.specs.declared.progress.Step.TheVariants as step
use Rattle.pp_turns.specs.declared.part.Part.{Part}
use Rattle.pp_turns.specs.declared.part.Part.TheVariants.{At, Ended}
use Rattle.pp_turns.specs.declared.part.Turn.{Turn}

-- where a check stands whose work has come to this round
abbrev pub part_at : ℕ → Option CheckEnd → Part
part_at round None = At round
part_at round (Some end) = Ended

-- where the check stands
abbrev pub part_of : Turn → Part
part_of turn = part_at turn.progress.round turn.end

-- how far the work has come of a check, unless it has ended
abbrev pub progress_unless : Progress → Option CheckEnd → Option Progress
progress_unless progress None = Some progress
progress_unless progress (Some end) = None

abbrev pub progress_of : Turn → Option Progress
progress_of turn = progress_unless turn.progress turn.end

-- a check that hasn't ended, whose work has come so far
abbrev pub open_turn : Progress → Turn
open_turn progress = record { progress = progress; end = None }

-- a check that ended in the round to which its work had come
abbrev pub ended_turn : Progress → CheckEnd → Turn
ended_turn progress end = record { progress = progress; end = Some end }

-- what is kept of a check behind a round to which its work had come
abbrev pub turn_after : Progress → Step → Turn
turn_after progress (step.Ended end) = ended_turn progress end
turn_after progress (step.Next next) = open_turn next

abbrev pub has_ended : Turn → Bool
has_ended turn = is_some turn.end

-- each check has ended
abbrev pub HaveEnded : List Turn → Type 0
HaveEnded turns = (c : ℕ) (turn : Turn) → slice_get turns c ≡ Some turn → IsTrue (has_ended turn)

-- the end of the check as a list, which is empty where it hasn't ended
abbrev pub ends_in : Turn → List CheckEnd
ends_in turn = option_to_list turn.end

-- the end of check number c, if there is one
abbrev pub end_of : List Turn → ℕ → Option CheckEnd
end_of turns c = option_and_then (λ (turn : Turn). turn.end) (slice_get turns c)
