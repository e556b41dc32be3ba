-- What is put, and how the program then ends. Source: own.
use Rattle.std.specs.Prelude.{ℕ, List, [], map, string_bytes}
use Rattle.pp_modes.specs.declared.response.Response as code
use Rattle.pp_modes.specs.declared.response.Response.TheVariants.{Refusal, Report}
use Rattle.pp_modes.specs.declared.status.Status.{Status}

-- the lines of a report for `out`, or one line for `err`, with the status
pub data Response : Type 0 where
  report : Status → List (List ℕ) → Response
  refusal : Status → List ℕ → Response

-- what a response of the code puts
abbrev pub response_of : code.Response → Response
response_of (Report s lines) = report s (map string_bytes lines.items)
response_of (Refusal s line) = refusal s (string_bytes line)

-- with which status the program ends, where nothing gives out
abbrev pub status_in : Response → Status
status_in (report s lines) = s
status_in (refusal s line) = s

-- the lines for `out`
abbrev pub lines_in : Response → List (List ℕ)
lines_in (report s lines) = lines
lines_in (refusal s line) = []
