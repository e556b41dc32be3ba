-- What is due, and why. Source: own.
use Rattle.std.specs.Prelude.{◌≡◌, ◌+◌, List, None, Some, length}
use Rattle.pp_answers.specs.Answers.{Answers}
use Rattle.pp_modes.specs.Responses.{Response, refusal}
use Rattle.pp_modes.specs.declared.status.Status.TheVariants as status
use Rattle.pp_print.specs.Refusals.{memory_text, read_fault_text, too_long_text, words_text}
use Rattle.pp_words.specs.Line.{Line, line_of}
use Rattle.pureproof.specs.Fetched.{AreHeld, AreShort, Asks, FailsAt, FetchesNothing, IsTooLongAt, Shelf, Text}

-- all files of the line are fetched, each once and in order, and these are their bytes
pub record AreFetched (shelf : Shelf) (line : Line) (sources : List Text) : Type 0 where
  pub held : AreHeld shelf.held line.files sources
  pub short : AreShort sources
  pub asks : Asks shelf line.files
  pub calm : shelf.failed_after ≡ shelf.failed

-- why it is due: the words are no line; the fetch of a file failed; a file is too long; the sources say so; there was
-- no memory
pub data IsDue (words : List Text) (shelf : Shelf) : Response → Type 0 where
  no_line : line_of words ≡ None → FetchesNothing shelf
      → IsDue words shelf (refusal status.Words words_text)
  unread : (line : Line) (sources : List Text) → line_of words ≡ Some line
      → (fails : FailsAt shelf line.files sources)
      → IsDue words shelf (refusal status.ReadFault (read_fault_text fails.path))
  too_long : (line : Line) (sources : List Text) → line_of words ≡ Some line → IsTooLongAt shelf line.files sources
      → IsDue words shelf (refusal status.Refused (too_long_text (length sources + 1)))
  answered : {r : Response} (line : Line) (sources : List Text) → line_of words ≡ Some line
      → AreFetched shelf line sources → Answers line.task sources r → IsDue words shelf r
  no_memory : IsDue words shelf (refusal status.Memory memory_text)
