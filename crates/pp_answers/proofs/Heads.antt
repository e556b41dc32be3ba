-- The heads of an answer are the line of each function and the summary.
use Rattle.std.proofs.Common.{◌≡◌, ◌∙◌, ℕ, suc, List, [], ◌∷◌, All, count_by, sym, ap, subst}
use Rattle.std.specs.Prelude.{Some, slice_get}
use Rattle.std.proofs.lemmas.List.Elements.{All-append, All-cons, All-nil}
use Rattle.pp_answers.proofs.Lines.{own_lines, told_by}
use Rattle.pp_answers.proofs.Meaning.{has_name}
use Rattle.pp_answers.specs.Answers.{IsAccepted}
use Rattle.pp_front.proofs.Spelled.{each_spells}
use Rattle.pp_induct.specs.declared.ends.CheckEnd.{CheckEnd}
use Rattle.pp_induct.specs.declared.limits.Limits.{Limits}
use Rattle.pp_induct.specs.declared.verdict.Verdict.{Verdict}
use Rattle.pp_legible.proofs.Law.{names_begin_plainly}
use Rattle.pp_line_contents.proofs.Heads.{all_heads, counts_are_heads, name_leads}
use Rattle.pp_line_contents.proofs.Tails.{AreFrom, from_first, from_rest, from_start}
use Rattle.pp_line_contents.specs.Laws.{BeginsPlainly}
use Rattle.pp_line_contents.specs.Reports.{Counts}
use Rattle.pp_modes.specs.Responses.{Response, lines_in}
use Rattle.pp_modes.specs.Verdicts.{AnswersVerify, is_depending, is_invalid, is_open, is_valid, summary_by}
use Rattle.pp_modes.specs.Verdicts.{verdict_lines, verdict_text}
use Rattle.pp_print.specs.Heads.{IsHead, heads}
use Rattle.pp_prog.specs.declared.expr.Function.{Function}
use Rattle.pp_prog.specs.declared.program.Program.{Program}

summary_leads : (vs : List Verdict) → IsHead (summary_by vs)
summary_leads vs =
    let counts : Counts = record {
      valid = count_by is_valid vs;
      invalid = count_by is_invalid vs;
      undecided = count_by is_open vs;
      depending = count_by is_depending vs;
    } in
    counts_are_heads counts

module _ (p : Program) (limits : Limits) (r : Response) (a : AnswersVerify p limits r)
    (begin : (i : ℕ) (f : Function) → slice_get p.functions i ≡ Some f → BeginsPlainly f.name) where
  abbrev ends : List CheckEnd
  ends = a.found.checks

  -- the lines of these functions, the first of which has this number, and which have these verdicts
  functions_lead : (n : ℕ) (fs : List Function) (vs : List Verdict) → AreFrom p.functions n fs
      → AreFrom a.found.verdicts n vs → All IsHead (verdict_lines p ends n fs vs)
  functions_lead n [] vs from also = All-nil IsHead
  functions_lead n (f ∷ fs) [] from also = All-nil IsHead
  functions_lead n (f ∷ fs) (v ∷ vs) from also =
      let line = verdict_text p ends n f v in
      let here = from_first a.found.verdicts n v vs also in
      let says = has_name p limits n f line v (told_by p limits r a n f v here) in
      All-cons IsHead line (verdict_lines p ends (suc n) fs vs)
      (subst IsHead (sym says.1) (name_leads f.name says.0 (begin n f (from_first p.functions n f fs from))))
      (functions_lead (suc n) fs vs (from_rest p.functions n f fs from) (from_rest a.found.verdicts n v vs also))

  own_heads : heads (lines_in r) ≡ own_lines p limits r a
  own_heads =
      let summary = summary_by a.found.verdicts in
      ap (λ s. heads (lines_in s)) a.says
      ∙ all_heads (own_lines p limits r a)
      (All-append IsHead (verdict_lines p ends 0 p.functions a.found.verdicts) (summary ∷ [])
      (functions_lead 0 p.functions a.found.verdicts (from_start p.functions) (from_start a.found.verdicts))
      (All-cons IsHead summary [] (summary_leads a.found.verdicts) (All-nil IsHead)))

-- so it is with answers to sources
pub heads_told : (sources : List (List ℕ)) (p : Program) → IsAccepted sources p → (limits : Limits) (r : Response)
    (a : AnswersVerify p limits r) → heads (lines_in r) ≡ own_lines p limits r a
heads_told sources p is limits r a =
    let typing = is.program.typing in
    own_heads p limits r a
    (names_begin_plainly sources typing.units is.program.typed p (each_spells typing.spelled) typing.typing
    is.program.concrete)
