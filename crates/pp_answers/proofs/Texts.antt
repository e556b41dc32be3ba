-- What is read back from the whole text of a report is what was printed, and it is true.
use Rattle.std.proofs.Common.{◌≡◌, ◌∙◌, ◌<◌, ◌^◌, ◌+◌, ℕ, zero, suc, Bool, List, [], ◌∷◌, ◌++◌, Some, length}
use Rattle.std.proofs.Common.{refl, sym, ap, subst, inl, arith, count_by}
use Rattle.std.specs.List.{concat}
use Rattle.std.specs.Prelude.{slice_get}
use Rattle.std.proofs.lemmas.List.Elements.{All-nil}
use Rattle.std.proofs.lemmas.List.Sums.{count_by-le-length}
use Rattle.std.proofs.lemmas.Option.{same_Some, slice_get_within}
use Rattle.pp_answers.proofs.Claimed.{of_verify}
use Rattle.pp_answers.proofs.Counts.{same_count}
use Rattle.pp_answers.proofs.Depending.{ShowEach, Shows, first_unsettled}
use Rattle.pp_answers.proofs.Excluded.{excluded}
use Rattle.pp_answers.proofs.Lines.{Tells, told_by}
use Rattle.pp_answers.proofs.Once.{AreAlike, one_program, swapped}
use Rattle.pp_answers.proofs.Readings.{content_of, legible, meant, means_there, printed, prints_there}
use Rattle.pp_answers.specs.Answers.{accepted, refused}
use Rattle.pp_answers.specs.Laws.{TextReadBack}
use Rattle.pp_answers.specs.Readings.{AreTrue, IsFirstUnsettled, IsTextReadBack, Means, counts_of, is_depending}
use Rattle.pp_answers.specs.Readings.{is_failed, is_left_open, is_valid}
use Rattle.pp_induct.specs.Reports.{AreLimits}
use Rattle.pp_induct.specs.declared.ends.CheckEnd.{CheckEnd}
use Rattle.pp_induct.specs.declared.limits.Limits.{Limits}
use Rattle.pp_induct.specs.declared.verdict.Verdict.{Verdict}
use Rattle.pp_induct.specs.declared.verdict.Verdict.TheVariants.{Valid, Depends, Invalid, Open}
use Rattle.pp_line_contents.proofs.Tails.{AreFrom, from_first, from_rest, from_start}
use Rattle.pp_line_contents.proofs.Texts.{texts_tell_contents}
use Rattle.pp_line_contents.specs.Contents.{Content}
use Rattle.pp_line_contents.specs.Laws.{IsLegible}
use Rattle.pp_line_contents.specs.Lines.{StandsUnder}
use Rattle.pp_line_contents.specs.Reports.{AreSmall, PrintEach, PrintsReport, ReportContent, counts_text, more_lines}
use Rattle.pp_line_contents.specs.Reports.{no_lines}
use Rattle.pp_modes.specs.Responses.{Response, lines_in}
use Rattle.pp_modes.specs.Verdicts as verdict
use Rattle.pp_modes.specs.Verdicts.{AnswersVerify, summary_by, verdict_lines, verdict_text}
use Rattle.pp_print.specs.Lines.{summary_text}
use Rattle.pp_prog.specs.declared.expr.Function.{Function}
use Rattle.pp_prog.specs.declared.program.Program.{Program}

-- ---- counts

-- the contents have the verdicts
pub record HaveVerdicts (cs : List Content) (vs : List Verdict) : Type 0 where
  pub size : length cs ≡ length vs
  pub valid : count_by is_valid cs ≡ count_by verdict.is_valid vs
  pub invalid : count_by is_failed cs ≡ count_by verdict.is_invalid vs
  pub undecided : count_by is_left_open cs ≡ count_by verdict.is_open vs
  pub depending : count_by is_depending cs ≡ count_by verdict.is_depending vs

record HasVerdict (c : Content) (v : Verdict) : Type 0 where
  pub valid : is_valid c ≡ verdict.is_valid v
  pub invalid : is_failed c ≡ verdict.is_invalid v
  pub undecided : is_left_open c ≡ verdict.is_open v
  pub depending : is_depending c ≡ verdict.is_depending v

one_more : (c : Content) (v : Verdict) (cs : List Content) (vs : List Verdict) → HasVerdict c v → HaveVerdicts cs vs
    → HaveVerdicts (c ∷ cs) (v ∷ vs)
one_more c v cs vs one rest = record {
  size = ap suc rest.size;
  valid = same_count is_valid verdict.is_valid c cs v vs one.valid rest.valid;
  invalid = same_count is_failed verdict.is_invalid c cs v vs one.invalid rest.invalid;
  undecided = same_count is_left_open verdict.is_open c cs v vs one.undecided rest.undecided;
  depending = same_count is_depending verdict.is_depending c cs v vs one.depending rest.depending;
}

pub same_counts : (cs : List Content) (vs : List Verdict) → HaveVerdicts cs vs
    → summary_by vs ≡ counts_text (counts_of cs)
same_counts cs vs have =
    let v = count_by is_valid cs in
    let i = count_by is_failed cs in
    let o = count_by is_left_open cs in
    ap (λ n. summary_text n (count_by verdict.is_invalid vs) (count_by verdict.is_open vs)
    (count_by verdict.is_depending vs)) (sym have.valid)
    ∙ ap (λ n. summary_text v n (count_by verdict.is_open vs) (count_by verdict.is_depending vs)) (sym have.invalid)
    ∙ ap (λ n. summary_text v i n (count_by verdict.is_depending vs)) (sym have.undecided)
    ∙ ap (summary_text v i o) (sym have.depending)

few : (test : Content → Bool) (cs : List Content) → length cs < 2 ^ 32 → count_by test cs < 2 ^ 64
few test cs less = let most = count_by-le-length test cs in omega (arith, most, less)

small : (cs : List Content) → length cs < 2 ^ 32 → AreSmall (counts_of cs)
small cs less = record {
  valid = few is_valid cs less;
  invalid = few is_failed cs less;
  undecided = few is_left_open cs less;
  depending = few is_depending cs less;
}

-- ---- contents

module _ (p : Program) (limits : Limits) where
  has_verdict : (i : ℕ) (f : Function) (line : List ℕ) (v : Verdict) (t : Tells p limits i f line v)
      → HasVerdict (content_of p limits i f line v t) v
  has_verdict i f line Valid t = record { valid = refl; invalid = refl; undecided = refl; depending = refl }
  has_verdict i f line (Depends g) t = record { valid = refl; invalid = refl; undecided = refl; depending = refl }
  has_verdict i f line (Invalid c) t = record { valid = refl; invalid = refl; undecided = refl; depending = refl }
  has_verdict i f line (Open c) t = record { valid = refl; invalid = refl; undecided = refl; depending = refl }

  shows_it : (i : ℕ) (f : Function) (line : List ℕ) (v : Verdict) (t : Tells p limits i f line v)
      → Shows (content_of p limits i f line v t) v
  shows_it i f line Valid t = refl
  shows_it i f line (Depends g) t = refl
  shows_it i f line (Invalid c) t = refl
  shows_it i f line (Open c) t = refl

  one_more_shown : (c : Content) (v : Verdict) (cs : List Content) (vs : List Verdict) → Shows c v → ShowEach cs vs
      → ShowEach (c ∷ cs) (v ∷ vs)
  one_more_shown c v cs vs one rest = record { size = ap suc rest.size; each = by }
    where
      by : (k : ℕ) (d : Content) (w : Verdict) → slice_get (c ∷ cs) k ≡ Some d → slice_get (v ∷ vs) k ≡ Some w
          → Shows d w
      by zero d w at here =
          subst (λ z. Shows z w) (same_Some c d at) (subst (Shows c) (same_Some v w here) one)
      by (suc k) d w at here = rest.each k d w at here

  -- the contents are true of the functions, the first of which has this number
  abbrev pub AreTrueFrom : ℕ → List Function → List Content → Type 0
  AreTrueFrom n fs cs = (k : ℕ) (f : Function) (c : Content) → slice_get fs k ≡ Some f → slice_get cs k ≡ Some c
      → Means limits p (n + k) f c

  one_more_true : (n : ℕ) (f : Function) (fs : List Function) (c : Content) (cs : List Content) → Means limits p n f c
      → AreTrueFrom (suc n) fs cs → AreTrueFrom n (f ∷ fs) (c ∷ cs)
  one_more_true n f fs c cs one rest zero g d at here =
      let same : n ≡ n + 0 = omega arith in
      subst (λ k. Means limits p k g d) same
      (subst (Means limits p n g) (same_Some _ _ here) (subst (λ h. Means limits p n h c) (same_Some _ _ at) one))
  one_more_true n f fs c cs one rest (suc k) g d at here =
      let same : suc n + k ≡ n + suc k = omega arith in
      subst (λ m. Means limits p m g d) same (rest k g d at here)

module _ (p : Program) (limits : Limits) (r : Response) (a : AnswersVerify p limits r) (range : AreLimits limits) where
  abbrev pub ends : List CheckEnd
  ends = a.found.checks

  -- what the lines say of these functions, the first of which has this number, and which have these verdicts
  pub record AreTold (n : ℕ) (fs : List Function) (vs : List Verdict) : Type 0 where
    pub contents : List Content
    pub prints : PrintEach p n fs (verdict_lines p ends n fs vs) contents
    pub are_true : AreTrueFrom p limits n fs contents
    pub counts : HaveVerdicts contents vs
    pub show : ShowEach contents vs

  none_told : (n : ℕ) → AreTold n [] []
  none_told n = record {
    contents = [];
    prints = no_lines;
    are_true = λ k f c at here. absurd (omega (arith, slice_get_within [] k f at));
    counts = record { size = refl; valid = refl; invalid = refl; undecided = refl; depending = refl };
    show = record { size = refl; each = λ k c v at here. absurd (omega (arith, slice_get_within [] k c at)) };
  }

  all_told : (n : ℕ) (fs : List Function) (vs : List Verdict) → length vs ≡ length fs → AreFrom p.functions n fs
      → AreFrom a.found.verdicts n vs → AreTold n fs vs
  all_told n [] [] even from also = none_told n
  all_told n [] (v ∷ vs) even from also = absurd (omega (arith, even))
  all_told n (f ∷ fs) [] even from also = absurd (omega (arith, even))
  all_told n (f ∷ fs) (v ∷ vs) even from also =
      let at = from_first p.functions n f fs from in
      let here = from_first a.found.verdicts n v vs also in
      let line = verdict_text p ends n f v in
      let t = told_by p limits r a n f v here in
      let content = content_of p limits n f line v t in
      let rest = all_told (suc n) fs vs (omega (arith, even)) (from_rest p.functions n f fs from)
      (from_rest a.found.verdicts n v vs also) in
      record {
        contents = content ∷ rest.contents;
        prints = more_lines (printed p limits n f line range at v t) [] (All-nil StandsUnder) rest.prints;
        are_true = one_more_true p limits n f fs content rest.contents
            (meant p limits n f line v t (λ is. a.valid n (here ∙ ap Some is) n f (inl refl) at)) rest.are_true;
        counts = one_more content v rest.contents vs (has_verdict p limits n f line v t) rest.counts;
        show = one_more_shown p limits content v rest.contents vs (shows_it p limits n f line v t) rest.show;
      }

  -- and of all functions
  pub told_all : AreTold 0 p.functions a.found.verdicts
  told_all =
      all_told 0 p.functions a.found.verdicts a.holds.verdicts.size (from_start p.functions)
      (from_start a.found.verdicts)

  pub told_true : AreTrue limits p told_all.contents
  told_true = record {
    true_of = λ i f c at here.
        let same : 0 + i ≡ i = omega arith in
        subst (λ n. Means limits p n f c) same (told_all.are_true i f c at here);
    depends = first_unsettled p ends a.found.verdicts a.holds.verdicts told_all.contents told_all.show;
  }

  pub told_small : AreSmall (counts_of told_all.contents)
  told_small =
      let most = p.few_functions in
      let size = told_all.counts.size in
      let even = a.holds.verdicts.size in small told_all.contents (omega (arith, most, size, even))

  pub told_text : IsLegible p → IsTextReadBack limits p (concat (lines_in r))
  told_text legible =
      let contents = told_all.contents in
      let content : ReportContent = record { functions = contents; counts = counts_of contents } in
      let prints : PrintsReport p (concat (lines_in r)) content = record {
        lines = verdict_lines p ends 0 p.functions a.found.verdicts;
        each = told_all.prints;
        small = told_small;
        whole = ap (λ s. concat (lines_in s)) a.says
            ∙ ap (λ l. concat (verdict_lines p ends 0 p.functions a.found.verdicts ++ l ∷ []))
            (same_counts contents a.found.verdicts told_all.counts);
      } in
      record {
        content = content;
        printed = prints;
        only = λ other h. texts_tell_contents p legible (concat (lines_in r)) other content h prints;
        holds = told_true;
        counted = refl;
      }

-- ---- programs that are alike

module _ (p q : Program) (alike : AreAlike p q) where
  pub each_there : {i : ℕ} {fs : List Function} {lines : List (List ℕ)} {cs : List Content} → PrintEach p i fs lines cs
      → PrintEach q i fs lines cs
  each_there no_lines = no_lines
  each_there (more_lines {i = i} {f = f} {line = line} {c = c} one under stand rest) =
      more_lines (prints_there p q alike i f line c one) under stand (each_there rest)

  report_there : (text : List ℕ) (c : ReportContent) → PrintsReport p text c → PrintsReport q text c
  report_there text c h = record {
    lines = h.lines;
    each = subst (λ fs. PrintEach q 0 fs h.lines c.functions) alike.functions (each_there h.each);
    small = h.small;
    whole = h.whole;
  }

pub true_there : (p q : Program) → AreAlike p q → (limits : Limits) (cs : List Content) → AreTrue limits p cs
    → AreTrue limits q cs
true_there p q alike limits cs h = record {
  true_of = λ i f c at here.
      means_there p q alike i f [] limits c
      (h.true_of i f c (ap (λ fs. slice_get fs i) alike.functions ∙ at) here);
  depends = λ i g checks at.
      subst (λ fs. IsFirstUnsettled fs cs i g.0) alike.functions (h.depends i g checks at);
}

text_there : (p q : Program) → AreAlike p q → (limits : Limits) (text : List ℕ) → IsTextReadBack limits p text
    → IsTextReadBack limits q text
text_there p q alike limits text h = record {
  content = h.content;
  printed = report_there p q alike text h.content h.printed;
  only = λ other k. h.only other (report_there q p (swapped alike) text other k);
  holds = true_there p q alike limits h.content.functions h.holds;
  counted = h.counted;
}

-- ---- the law

pub text_read_back : TextReadBack
text_read_back order limits sources r range short (refused {line = line} a) p is = absurd (excluded sources line p a is)
text_read_back order limits sources r range short (accepted q also a) p is =
    let alike = one_program sources q p also.program is.program in
    text_there q p alike limits (concat (lines_in r))
    (told_text q limits r (of_verify q order limits a) range (legible sources q short also))
