-- What is shown of what is due. Source: own.
use Rattle.std.specs.Prelude.{◌≡◌, ℕ, List, Option}
use Rattle.std.specs.Io.KnownBytes.{Appends}
use Rattle.std.specs.List.{concat}
use Rattle.pp_seam.specs.Faults.{Rose}
use Rattle.pp_seam.specs.Pieces.{AppendsFront}
use Rattle.pp_print.specs.Puts.{IsCut}
use Rattle.pp_print.specs.Refusals.{write_fault_text}
use Rattle.pp_modes.specs.Responses.{Response, refusal, report}
use Rattle.pureproof.specs.Fetched.{Text}
use Rattle.pp_modes.specs.declared.status.Status.{Status}
use Rattle.pp_modes.specs.declared.status.Status.TheVariants as status

-- a sink before and after: the bytes that it took, where they are told, and how often it failed
pub record Took : Type 0 where
  pub before : Option Text
  pub after : Option Text
  pub faults : ℕ
  pub faults_after : ℕ

-- what a sink tells, before and after
abbrev pub took : {K : Type 0} → (K → Option Text) → (K → ℕ) → K → K → Took
took taken faults old new = record {
  before = taken old;
  after = taken new;
  faults = faults old;
  faults_after = faults new;
}

-- nothing was put
pub record IsStill (took : Took) : Type 0 where
  pub same : took.after ≡ took.before
  pub calm : took.faults_after ≡ took.faults

-- the text was put whole
pub record TookAll (took : Took) (text : Text) : Type 0 where
  pub all : Appends took.before took.after text
  pub calm : took.faults_after ≡ took.faults

-- a front of the text was put, up to a fault
pub record TookFront (took : Took) (text : Text) : Type 0 where
  pub front : AppendsFront took.before took.after text
  pub rose : Rose took.faults took.faults_after

-- some first lines were put whole, then a front of the next, up to a fault, and nothing more
pub record TookLines (took : Took) (lines : List Text) : Type 0 where
  pub cut : IsCut lines took.before took.after
  pub rose : Rose took.faults took.faults_after

-- the lines of a report are put on `out`, and the line of a refusal on `err`; after a fault on `out` nothing more is
-- put there, and `err` gets the line of that fault
pub data Shows (out err : Took) : Response → Status → Type 0 where
  printed : (s : Status) (lines : List Text) → TookAll out (concat lines) → IsStill err
      → Shows out err (report s lines) s
  cut : (s : Status) (lines : List Text) → TookLines out lines → TookAll err write_fault_text
      → Shows out err (report s lines) status.WriteFault
  both_cut : (s : Status) (lines : List Text) → TookLines out lines → TookFront err write_fault_text
      → Shows out err (report s lines) status.WriteFault
  refused : (s : Status) (line : Text) → IsStill out → TookAll err line → Shows out err (refusal s line) s
  refusal_cut : (s : Status) (line : Text) → IsStill out → TookFront err line
      → Shows out err (refusal s line) status.WriteFault
