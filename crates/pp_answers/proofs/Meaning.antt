-- What the answers of mode `verify` mean, line by line.
use Rattle.std.proofs.Common.{◌≡◌, ◌+◌, ℕ, zero, suc, true, false, List, [], ◌∷◌, codes, count_by}
use Rattle.std.proofs.Common.{length, refl, sym, ap, ◌∙◌, inl, inr, subst, arith}
use Rattle.std.specs.Prelude.{Option, None, Some, slice_get}
use Rattle.std.proofs.lemmas.List.{length-append}
use Rattle.std.proofs.lemmas.Option.{same_Some, slice_get_within}
use Rattle.pp_answers.proofs.Counts.{none_counted, some_counted}
use Rattle.pp_answers.proofs.Lines.{IsOpen, Tells, own_lines, same_line, says_depends}
use Rattle.pp_answers.proofs.Lines.{says_invalid, says_open, says_valid, told, within}
use Rattle.pp_answers.proofs.Words.{at_not_before, depends_not_open, invalid_not_depends, invalid_not_open}
use Rattle.pp_answers.proofs.Words.{valid_not_depends, valid_not_invalid, valid_not_open}
use Rattle.pp_answers.specs.Claims.{AreLinesOf, Claim, InvalidFails, IsStatusOf, LineSays, NamesFailure, NamesSearch}
use Rattle.pp_answers.specs.Claims.{OpenIsSearched, Says, ValidIsGood, all_valid, some_invalid, some_open}
use Rattle.pp_induct.specs.Reports.{IsSearched}
use Rattle.pp_induct.specs.declared.ends.CheckEnd.{CheckEnd}
use Rattle.pp_induct.specs.declared.limits.Limits.{Limits}
use Rattle.pp_induct.specs.declared.verdict.Verdict.{Verdict}
use Rattle.pp_induct.specs.declared.verdict.Verdict.TheVariants.{Valid, Depends, Invalid, Open}
use Rattle.pp_modes.specs.Responses.{Response, status_in}
use Rattle.pp_modes.specs.Verdicts.{AnswersVerify, is_depending, is_invalid, is_open, reason_of, status_for}
use Rattle.pp_modes.specs.Verdicts.{summary_by, verdict_lines}
use Rattle.pp_print.specs.Lines.{open_text}
use Rattle.pp_prog.specs.declared.expr.Function.{Function}
use Rattle.pp_prog.specs.declared.id.CheckId.{CheckId}
use Rattle.pp_prog.specs.declared.program.Program.{Program}

true_false : true ≡ false → ⊥
true_false h = cc

-- ---- the line of a function

module _ (p : Program) (limits : Limits) (i : ℕ) (f : Function) (line : List ℕ) where
  -- it is invalid, and nothing else
  failure : (v : Verdict) → Tells p limits i f line v → Says (codes ": invalid, ") f line
      → NamesFailure limits p i f line
  failure Valid t s = absurd (valid_not_invalid f line (says_valid f line _ t) s)
  failure (Depends g) t s = absurd (invalid_not_depends f line s (says_depends p limits i f line t))
  failure (Open c) t s = absurd (invalid_not_open f line s (says_open p limits i f line c t))
  failure (Invalid c) t s = record {
    number = c;
    own = t.own;
    args = t.args;
    fuel = t.round;
    asked = t.ended.tried.round;
    fails = t.ended.fails;
    printed = t.text;
  }

  -- a round was searched, and the line says which
  searched : (c : CheckId) (t : IsOpen p limits i f line c) (n : Option ℕ) → t.searched ≡ n
      → Says (codes ": open at round ") f line → NamesSearch limits p i f line
  searched c t None is s =
      let text = t.text ∙ ap (λ m. open_text f.name m t.own.check.kind t.own.check.place (reason_of t.why)) is in
      absurd (at_not_before f line s (_, text))
  searched c t (Some n) is s =
      let ended : IsSearched p limits i c (Some n) = subst (IsSearched p limits i c) is t.ended in
      record {
        number = c;
        own = t.own;
        round = n;
        asked = ended.begun.round;
        none = ended.none;
        reason = reason_of t.why;
        printed = t.text ∙ ap (λ m. open_text f.name m t.own.check.kind t.own.check.place (reason_of t.why)) is;
      }

  search : (v : Verdict) → Tells p limits i f line v → Says (codes ": open at round ") f line
      → NamesSearch limits p i f line
  search (Open c) t s = searched c t t.searched refl s
  search Valid t s = absurd (valid_not_open f line (says_valid f line _ t) (_, s.1))
  search (Depends g) t s = absurd (depends_not_open f line (says_depends p limits i f line t) (_, s.1))
  search (Invalid c) t s = absurd (invalid_not_open f line (says_invalid p limits i f line c t) (_, s.1))

  -- only one that is valid is said to be
  valid_alone : (v : Verdict) → Tells p limits i f line v → Says (codes ": valid, ") f line → v ≡ Valid
  valid_alone Valid t s = refl
  valid_alone (Depends g) t s = absurd (valid_not_depends f line s (says_depends p limits i f line t))
  valid_alone (Invalid c) t s = absurd (valid_not_invalid f line s (says_invalid p limits i f line c t))
  valid_alone (Open c) t s = absurd (valid_not_open f line s (says_open p limits i f line c t))

  pub has_name : (v : Verdict) → Tells p limits i f line v → Says (codes ": ") f line
  has_name Valid t = (_, t)
  has_name (Depends g) t = (_, t.text)
  has_name (Invalid c) t = (_, t.text)
  has_name (Open c) t = (_, t.text)

-- ---- all lines of an answer

module _ (p : Program) (limits : Limits) (r : Response) (a : AnswersVerify p limits r) where
  -- the claim is true of each line
  abbrev pub EachTold : Claim → Type 0
  EachTold IsTrue = (i : ℕ) (f : Function) (line : List ℕ) → slice_get p.functions i ≡ Some f
      → slice_get (own_lines p limits r a) i ≡ Some line → IsTrue p i f line

  pub told_good : EachTold ValidIsGood
  told_good i f line at there s =
      let t = told p limits r a i f at in
      let says = subst (Says (codes ": valid, ") f) (sym (same_line p limits r a i f t line there)) s in
      let valid = valid_alone p limits i f t.line t.verdict t.tells says in
      a.valid i (t.here ∙ ap Some valid) i f (inl refl) at

  pub told_failed : EachTold (InvalidFails limits)
  told_failed i f line at there s =
      let t = told p limits r a i f at in
      failure p limits i f line t.verdict
      (subst (λ l. Tells p limits i f l t.verdict) (same_line p limits r a i f t line there) t.tells) s

  pub told_searched : EachTold (OpenIsSearched limits)
  told_searched i f line at there s =
      let t = told p limits r a i f at in
      search p limits i f line t.verdict
      (subst (λ l. Tells p limits i f l t.verdict) (same_line p limits r a i f t line there) t.tells) s

  -- ---- the status

  abbrev Line : List ℕ → ℕ → Type 0
  Line = LineSays p.functions (own_lines p limits r a)

  -- the line of a function whose verdict this is
  line_of : (i : ℕ) (v : Verdict) → slice_get a.found.verdicts i ≡ Some v
      → (f : Function) × (slice_get p.functions i ≡ Some f) × ((words : List ℕ)
      → ((line : List ℕ) → Tells p limits i f line v → Says words f line) → Line words i)
  line_of i v here =
      let are = a.holds.verdicts in
      let f = within p.functions i (omega (arith, are.size, slice_get_within a.found.verdicts i v here)) in
      let t = told p limits r a i f.0 f.1 in
      let same : t.verdict ≡ v = same_Some _ _ (sym t.here ∙ here) in (
        f.0,
        f.1,
        λ words says. record {
          function = f.0;
          here = f.1;
          line = t.line;
          there = t.there;
          says = says t.line (subst (Tells p limits i f.0 t.line) same t.tells);
        },
      )

  of_invalid : (i : ℕ) (v : Verdict) → slice_get a.found.verdicts i ≡ Some v → is_invalid v ≡ true
      → Line (codes ": invalid, ") i
  of_invalid i (Invalid c) here is =
      let l = line_of i (Invalid c) here in
      l.2 (codes ": invalid, ") (λ line t. says_invalid p limits i l.0 line c t)
  of_invalid i Valid here is = absurd (true_false (sym is))
  of_invalid i (Depends g) here is = absurd (true_false (sym is))
  of_invalid i (Open c) here is = absurd (true_false (sym is))

  of_open : (i : ℕ) (v : Verdict) → slice_get a.found.verdicts i ≡ Some v → is_open v ≡ true → Line (codes ": open ") i
  of_open i (Open c) here is =
      let l = line_of i (Open c) here in l.2 (codes ": open ") (λ line t. says_open p limits i l.0 line c t)
  of_open i Valid here is = absurd (true_false (sym is))
  of_open i (Depends g) here is = absurd (true_false (sym is))
  of_open i (Invalid c) here is = absurd (true_false (sym is))

  of_depending : (i : ℕ) (v : Verdict) → slice_get a.found.verdicts i ≡ Some v → is_depending v ≡ true
      → Line (codes ": depends on ") i
  of_depending i (Depends g) here is =
      let l = line_of i (Depends g) here in
      l.2 (codes ": depends on ") (λ line t. says_depends p limits i l.0 line t)
  of_depending i Valid here is = absurd (true_false (sym is))
  of_depending i (Open c) here is = absurd (true_false (sym is))
  of_depending i (Invalid c) here is = absurd (true_false (sym is))

  of_other : (i : ℕ) (v : Verdict) → slice_get a.found.verdicts i ≡ Some v → is_invalid v ≡ false → is_open v ≡ false
      → is_depending v ≡ false → Line (codes ": valid, ") i
  of_other i Valid here x y z =
      let l = line_of i Valid here in l.2 (codes ": valid, ") (λ line t. says_valid l.0 line _ t)
  of_other i (Invalid c) here x y z = absurd (true_false x)
  of_other i (Open c) here x y z = absurd (true_false y)
  of_other i (Depends g) here x y z = absurd (true_false z)

  -- where no verdict is invalid, no line says so
  no_line : count_by is_invalid a.found.verdicts ≡ 0 → (i : ℕ) → Line (codes ": invalid, ") i → ⊥
  no_line none i l =
      let t = told p limits r a i l.function l.here in
      let line = same_line p limits r a i l.function t l.line l.there in
      by t.verdict (subst (λ z. Tells p limits i l.function z t.verdict) line t.tells)
      (none_counted is_invalid a.found.verdicts none i t.verdict t.here)
    where
      by : (v : Verdict) → Tells p limits i l.function l.line v → is_invalid v ≡ false → ⊥
      by (Invalid c) t is = true_false is
      by Valid t is = valid_not_invalid l.function l.line (says_valid l.function l.line _ t) l.says
      by (Depends g) t is = invalid_not_depends l.function l.line l.says (says_depends p limits i l.function l.line t)
      by (Open c) t is = invalid_not_open l.function l.line l.says (says_open p limits i l.function l.line c t)

  by_counts : (x y z : ℕ) → count_by is_invalid a.found.verdicts ≡ x → count_by is_open a.found.verdicts ≡ y
      → count_by is_depending a.found.verdicts ≡ z → IsStatusOf p.functions (own_lines p limits r a) (status_for x y z)
  by_counts (suc x) y z e g h =
      let one = some_counted is_invalid a.found.verdicts (omega (arith, e)) in
      some_invalid one.place (of_invalid one.place one.item one.here one.passes)
  by_counts zero (suc y) z e g h =
      let one = some_counted is_open a.found.verdicts (omega (arith, g)) in
      some_open (no_line e) one.place (inl (of_open one.place one.item one.here one.passes))
  by_counts zero zero (suc z) e g h =
      let one = some_counted is_depending a.found.verdicts (omega (arith, h)) in
      some_open (no_line e) one.place (inr (of_depending one.place one.item one.here one.passes))
  by_counts zero zero zero e g h =
      all_valid (λ i lt.
      let v = within a.found.verdicts i (omega (arith, lt, a.holds.verdicts.size)) in
      of_other i v.0 v.1 (none_counted is_invalid a.found.verdicts e i v.0 v.1)
      (none_counted is_open a.found.verdicts g i v.0 v.1) (none_counted is_depending a.found.verdicts h i v.0 v.1))

  lines_size : (ends : List CheckEnd) (n : ℕ) (fs : List Function) (vs : List Verdict) → length vs ≡ length fs
      → length (verdict_lines p ends n fs vs) ≡ length fs
  lines_size ends n [] vs even = refl
  lines_size ends n (f ∷ fs) [] even = absurd (omega (arith, even))
  lines_size ends n (f ∷ fs) (v ∷ vs) even = ap suc (lines_size ends (suc n) fs vs (omega arith))

  pub told_each : AreLinesOf p (own_lines p limits r a) (status_in r)
  told_each = record {
    size = length-append (verdict_lines p a.found.checks 0 p.functions a.found.verdicts)
        (summary_by a.found.verdicts ∷ [])
        ∙ ap (λ n. n + 1) (lines_size a.found.checks 0 p.functions a.found.verdicts a.holds.verdicts.size);
    names = λ i lt.
        let v = within a.found.verdicts i (omega (arith, lt, a.holds.verdicts.size)) in
        let l = line_of i v.0 v.1 in
        l.2 (codes ": ") (λ line t. has_name p limits i l.0 line v.0 t);
    status = subst (IsStatusOf p.functions (own_lines p limits r a)) (sym (ap status_in a.says))
        (by_counts _ _ _ refl refl refl);
  }
