-- A line tells its content, and the text of a report tells its lines. Source: own.
use Rattle.std.specs.Prelude.{◌≡◌, ◌≢◌, ℕ, true, List, [], ◌∷◌, Some, All, Contains, slice_get}
use Rattle.std.specs.List.{concat}
use Rattle.pp_line_contents.specs.Contents.{Content, IsSmall, Prints}
use Rattle.pp_line_contents.specs.Lines.{HasNoNewline, IsOneLine}
use Rattle.pp_line_contents.specs.Reports.{Counts, MadeContent, PrintsMade, PrintsReport, ReportContent, counts_text}
use Rattle.pp_print.specs.Heads.{IsHead}
use Rattle.pp_print.specs.Values.{Text}
use Rattle.pp_prog.specs.declared.check.Check.{Check}
use Rattle.pp_prog.specs.declared.expr.Function.{Function}
use Rattle.pp_prog.specs.declared.expr.Param.{Param}
use Rattle.pp_prog.specs.declared.place.Place.{Place}
use Rattle.pp_prog.specs.declared.program.Program.{Program}
use Rattle.pp_prog.specs.declared.types.Ctor.{Ctor}

-- a name that ends in a printed value where a mark follows: it has none of the newline, `(`, `)` and `,`
abbrev pub HasNoMark : Text → Type 0
HasNoMark name = (b : ℕ) → Contains name b → (b ≢ 10) × (b ≢ 40) × (b ≢ 41) × (b ≢ 44)

-- a name that ends in a line where a colon follows: it has none of the newline and `:`
abbrev pub HasNoColon : Text → Type 0
HasNoColon name = (b : ℕ) → Contains name b → (b ≢ 10) × (b ≢ 58)

-- a name at the head of a line: it begins with no blank
abbrev pub BeginsPlainly : Text → Type 0
BeginsPlainly [] = Unit {0}
BeginsPlainly (b ∷ bs) = b ≢ 32

pub record IsSmallPlace (z : Place) : Type 0 where
  pub source : IsSmall z.source
  pub line : IsSmall z.line
  pub column : IsSmall z.column

-- What makes the lines of a program legible: names of constructors have no marks and tell the constructors of a
-- datatype apart, case objects have no fields, names of functions have no colon, begin with no blank and tell functions
-- apart, names of parameters have no newline, and kind and place tell apart the checks of a function.
pub record IsLegible (p : Program) : Type 0 where
  pub unmarked : (c : ℕ) (a : Ctor) → slice_get p.types.ctors c ≡ Some a → HasNoMark a.name
  pub ctors : (c d : ℕ) (a b : Ctor) → slice_get p.types.ctors c ≡ Some a → slice_get p.types.ctors d ≡ Some b
      → a.of ≡ b.of → a.name ≡ b.name → c ≡ d
  pub objects : (c : ℕ) (a : Ctor) → slice_get p.types.ctors c ≡ Some a → a.object ≡ true → a.fields ≡ []
  pub named : (i : ℕ) (f : Function) → slice_get p.functions i ≡ Some f → HasNoColon f.name
  pub begins : (i : ℕ) (f : Function) → slice_get p.functions i ≡ Some f → BeginsPlainly f.name
  pub functions : (i j : ℕ) (f g : Function) → slice_get p.functions i ≡ Some f → slice_get p.functions j ≡ Some g
      → f.name ≡ g.name → i ≡ j
  pub params : (i : ℕ) (f : Function) (q : Param) → slice_get p.functions i ≡ Some f → Contains f.params q
      → HasNoNewline q.name
  pub checks : (c d : ℕ) (a b : Check) → slice_get p.checks c ≡ Some a → slice_get p.checks d ≡ Some b
      → a.function ≡ b.function → a.kind ≡ b.kind → a.place ≡ b.place → c ≡ d
  pub places : (c : ℕ) (a : Check) → slice_get p.checks c ≡ Some a → IsSmallPlace a.place

-- Two contents of one line are the same: of the same function the same verdict, on the same function if another is
-- named, on the same check, with the same arguments, the same round and the same reason. So names and values that are
-- read back from a line are those that were printed.
abbrev pub LinesTellContents : Type 0
LinesTellContents = (p : Program) → IsLegible p → (i j : ℕ) (f g : Function) → slice_get p.functions i ≡ Some f
    → slice_get p.functions j ≡ Some g → (line : Text) (a b : Content) → Prints p i f line a → Prints p j g line b
    → (i ≡ j) × (a ≡ b)

-- ---- whole texts

-- a line that prints a content of a function ends in its only newline
abbrev pub LinesEndOnce : Type 0
LinesEndOnce = (p : Program) → IsLegible p → (i : ℕ) (f : Function) → slice_get p.functions i ≡ Some f → (line : Text)
    (a : Content) → Prints p i f line a → IsOneLine line

-- and so does the line of the counts
abbrev pub CountsEndOnce : Type 0
CountsEndOnce = (n : Counts) → IsOneLine (counts_text n)

-- the line of a function whose name begins with no blank stands under no other
abbrev pub LinesAreHeads : Type 0
LinesAreHeads = (p : Program) (i : ℕ) (f : Function) → BeginsPlainly f.name → (line : Text) (a : Content)
    → Prints p i f line a → IsHead line

-- and so it is with the line of the counts, which begins with a digit
abbrev pub CountsAreHeads : Type 0
CountsAreHeads = (n : Counts) → IsHead (counts_text n)

-- lists of texts that each end in their only newline, and make one text, are one list
abbrev pub TextsTellLines : Type 0
TextsTellLines = (xs ys : List Text) → All IsOneLine xs → All IsOneLine ys → concat xs ≡ concat ys → xs ≡ ys

-- Two contents of one text are the same, whatever stands under the lines of functions: so a text that is printed tells
-- of each function, in order, the verdict, the function, check, arguments, round and reason that are named, and how
-- many functions have each verdict.
abbrev pub TextsTellContents : Type 0
TextsTellContents = (p : Program) → IsLegible p → (text : Text) (a b : ReportContent) → PrintsReport p text a
    → PrintsReport p text b → a ≡ b

-- so it is with the text on functions that were made
abbrev pub MadeTextsTellContents : Type 0
MadeTextsTellContents = (text : Text) (a b : MadeContent) → PrintsMade text a → PrintsMade text b → a ≡ b
