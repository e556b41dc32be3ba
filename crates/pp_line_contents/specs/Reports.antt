-- What the whole text of a report says: the line of each function, whatever stands under it, and how many have each
-- verdict; or how many functions were made, and how many have each verdict. Source: own.
use Rattle.std.specs.Prelude.{◌≡◌, ℕ, suc, List, [], ◌∷◌, ◌++◌, All}
use Rattle.std.specs.List.{concat}
use Rattle.pp_line_contents.specs.Contents.{Content, IsSmall, Prints}
use Rattle.pp_line_contents.specs.Lines.{StandsUnder}
use Rattle.pp_print.specs.Lines.{summary_text}
use Rattle.pp_print.specs.Made.{made_text}
use Rattle.pp_print.specs.Values.{Text}
use Rattle.pp_prog.specs.declared.expr.Function.{Function}
use Rattle.pp_prog.specs.declared.program.Program.{Program}

-- how many functions have each verdict
pub record Counts : Type 0 where
  pub valid : ℕ
  pub invalid : ℕ
  pub undecided : ℕ
  pub depending : ℕ

-- their line
abbrev pub counts_text : Counts → Text
counts_text n = summary_text n.valid n.invalid n.undecided n.depending

pub record AreSmall (n : Counts) : Type 0 where
  pub valid : IsSmall n.valid
  pub invalid : IsSmall n.invalid
  pub undecided : IsSmall n.undecided
  pub depending : IsSmall n.depending

-- the content of the line of each function, in order, and the counts behind them
pub record ReportContent : Type 0 where
  pub functions : List Content
  pub counts : Counts

module _ (p : Program) where
  -- the lines print these contents of the functions, the first of which has this number; others stand under them
  pub data PrintEach : ℕ → List Function → List Text → List Content → Type 0 where
    no_lines : {i : ℕ} → PrintEach i [] [] []
    more_lines : {i : ℕ} {f : Function} {fs : List Function} {line : Text} {lines : List Text} {c : Content}
        {cs : List Content} → Prints p i f line c → (under : List Text) → All StandsUnder under
        → PrintEach (suc i) fs lines cs → PrintEach i (f ∷ fs) (line ∷ under ++ lines) (c ∷ cs)

  -- the text is a line for each function of the program, in order, with what stands under it, and the line of the
  -- counts behind them
  pub record PrintsReport (text : Text) (r : ReportContent) : Type 0 where
    pub lines : List Text
    pub each : PrintEach 0 p.functions lines r.functions
    pub small : AreSmall r.counts
    pub whole : text ≡ concat (lines ++ counts_text r.counts ∷ [])

-- ---- functions that were made

-- how many there are, and how many of them have each verdict
pub record MadeContent : Type 0 where
  pub functions : ℕ
  pub counts : Counts

-- the text is the line on how many there are, and the line of the counts behind it
pub record PrintsMade (text : Text) (m : MadeContent) : Type 0 where
  pub few : IsSmall m.functions
  pub small : AreSmall m.counts
  pub whole : text ≡ concat (made_text m.functions ∷ counts_text m.counts ∷ [])
