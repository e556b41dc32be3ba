-- The numbers that words ask for are in their ranges.
use Rattle.std.proofs.Common.{◌≡◌, ℕ, List}
use Rattle.std.specs.Prelude.{Some}
use Rattle.pp_modes.proofs.Ranges.{line_fits}
use Rattle.pp_modes.specs.Answers.{IsInRange}
use Rattle.pp_words.specs.Line.{Line, line_of}

-- the task of a line of words has its numbers in their ranges
pub line_in_range : (words : List (List ℕ)) (line : Line) → line_of words ≡ Some line → IsInRange line.task
line_in_range words line is = (line_fits words line is).range
