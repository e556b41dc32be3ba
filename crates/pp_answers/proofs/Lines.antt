-- What the line of each function tells, by its verdict.
use Rattle.std.proofs.Common.{◌≡◌, ◌<◌, ◌+◌, ℕ, zero, suc, List, [], ◌∷◌, ◌++◌, codes}
use Rattle.std.proofs.Common.{length, refl, sym, ap, ◌∙◌, subst, arith}
use Rattle.std.specs.Prelude.{Option, Some, slice_get}
use Rattle.std.proofs.lemmas.Option.{same_Some, slice_get_within}
use Rattle.pp_answers.specs.Claims.{Says}
use Rattle.pp_induct.specs.Reports.{AreEnds, IsInvalidIn, IsSearched, IsWhy}
use Rattle.pp_induct.specs.Verdicts.{EndedSo, IsInvalidEnd, IsOpenEnd, IsVerdict}
use Rattle.pp_induct.specs.declared.ends.CheckEnd.{CheckEnd}
use Rattle.pp_induct.specs.declared.ends.CheckEnd.TheVariants as end
use Rattle.pp_induct.specs.declared.ends.Why.{Why}
use Rattle.pp_induct.specs.declared.limits.Limits.{Limits}
use Rattle.pp_induct.specs.declared.verdict.Verdict.{Verdict}
use Rattle.pp_induct.specs.declared.verdict.Verdict.TheVariants.{Valid, Depends, Invalid, Open}
use Rattle.pp_modes.specs.Lists.{own_checks}
use Rattle.pp_modes.specs.Responses.{Response}
use Rattle.pp_modes.specs.Verdicts.{AnswersMake, AnswersVerify, check_text, depending_text, reason_of, summary_by}
use Rattle.pp_modes.specs.Verdicts.{verdict_lines, verdict_report, verdict_text}
use Rattle.pp_print.specs.Lines.{depends_text, invalid_text, open_text, valid_text}
use Rattle.pp_prog.specs.Cone.{InCone}
use Rattle.pp_prog.specs.declared.expr.Function.{Function}
use Rattle.pp_prog.specs.declared.id.CheckId.{CheckId}
use Rattle.pp_prog.specs.declared.id.FunctionId.{FunctionId}
use Rattle.pp_prog.specs.declared.program.Program.{Program}
use Rattle.pp_prog.specs.declared.value.Value.{Value}
use Rattle.pp_sound.specs.Sound.{IsCheckOf}

pub within : {A : Type 0} (xs : List A) (n : ℕ) → n < length xs → (x : A) × (slice_get xs n ≡ Some x)
within [] n lt = absurd (omega (arith, lt))
within (x ∷ xs) zero lt = (x, refl)
within (x ∷ xs) (suc n) lt = within xs n (omega arith)

-- ---- what a line tells

module _ (p : Program) (limits : Limits) (i : ℕ) (f : Function) (line : List ℕ) where
  pub record IsFailed (c : CheckId) : Type 0 where
    pub own : IsCheckOf p i c.0
    pub args : List Value
    pub round : ℕ
    pub ended : IsInvalidIn p limits i c args round
    pub text : line ≡ invalid_text p.types.ctors f.name own.check.kind own.check.place f.params args

  pub record IsOpen (c : CheckId) : Type 0 where
    pub own : IsCheckOf p i c.0
    pub searched : Option ℕ
    pub why : Why
    pub ended : IsSearched p limits i c searched
    pub because : IsWhy p limits i c searched why
    pub text : line ≡ open_text f.name searched own.check.kind own.check.place (reason_of why)

  pub record IsDepending (g : FunctionId) : Type 0 where
    pub on : Function
    pub here : slice_get p.functions g.0 ≡ Some on
    pub cone : InCone p.functions i g.0
    pub text : line ≡ depends_text f.name on.name (own_checks i p.checks)

  abbrev pub Tells : Verdict → Type 0
  Tells Valid = line ≡ valid_text f.name (own_checks i p.checks)
  Tells (Depends g) = IsDepending g
  Tells (Invalid c) = IsFailed c
  Tells (Open c) = IsOpen c

-- ---- the words behind the name

pub says_valid : (f : Function) (line : List ℕ) (checks : ℕ) → line ≡ valid_text f.name checks
    → Says (codes ": valid, ") f line
says_valid f line checks is = (_, is)

pub says_depends : (p : Program) (limits : Limits) (i : ℕ) (f : Function) (line : List ℕ) {g : FunctionId}
    → IsDepending p limits i f line g → Says (codes ": depends on ") f line
says_depends p limits i f line t = (_, t.text)

pub says_invalid : (p : Program) (limits : Limits) (i : ℕ) (f : Function) (line : List ℕ) (c : CheckId)
    → IsFailed p limits i f line c → Says (codes ": invalid, ") f line
says_invalid p limits i f line c t = (_, t.text)

pub says_open : (p : Program) (limits : Limits) (i : ℕ) (f : Function) (line : List ℕ) (c : CheckId)
    → IsOpen p limits i f line c → Says (codes ": open ") f line
says_open p limits i f line c t = (_, t.text)

-- ---- the named check

module _ (p : Program) (limits : Limits) (ends : List CheckEnd) (are : AreEnds p limits ends) (i : ℕ) (f : Function)
    (line : List ℕ) where
  failed : (c : CheckId) → EndedSo p ends IsInvalidEnd i c.0 → line ≡ verdict_text p ends i f (Invalid c)
      → IsFailed p limits i f line c
  failed c found is =
      let args = found.so.0 in
      let n = found.so.1 in
      let here : slice_get ends c.0 ≡ Some (end.Invalid args n) = found.at ∙ ap Some found.so.2 in
      record {
        own = record { check = found.check; listed = found.listed; owner = found.owner };
        args = args;
        round = n;
        ended = subst (λ k. IsInvalidIn p limits k c args n) found.owner
            (are c.0 found.check (end.Invalid args n) found.listed here);
        text = is ∙ ap (λ o. check_text p f o (slice_get ends c.0)) found.listed
            ∙ ap (check_text p f (Some found.check)) here;
      }

  left_open : (c : CheckId) → EndedSo p ends IsOpenEnd i c.0 → line ≡ verdict_text p ends i f (Open c)
      → IsOpen p limits i f line c
  left_open c found is =
      let searched = found.so.0 in
      let w = found.so.1 in
      let here : slice_get ends c.0 ≡ Some (end.Open searched w) = found.at ∙ ap Some found.so.2 in
      let holds = are c.0 found.check (end.Open searched w) found.listed here in
      record {
        own = record { check = found.check; listed = found.listed; owner = found.owner };
        searched = searched;
        why = w;
        ended = subst (λ k. IsSearched p limits k c searched) found.owner holds.0;
        because = subst (λ k. IsWhy p limits k c searched w) found.owner holds.1;
        text = is ∙ ap (λ o. check_text p f o (slice_get ends c.0)) found.listed
            ∙ ap (check_text p f (Some found.check)) here;
      }

  tells : (v : Verdict) → IsVerdict p ends i v → line ≡ verdict_text p ends i f v → Tells p limits i f line v
  tells Valid so is = is
  tells (Depends g) so is =
      let on = within p.functions g.0 so.2.has.0.0 in
      record {
        on = on.0;
        here = on.1;
        cone = so.2.has.0.1;
        text = is ∙ ap (depending_text f (own_checks i p.checks)) on.1;
      }
  tells (Invalid c) so is = failed c so.has is
  tells (Open c) so is = left_open c so.1.has is

-- ---- functions that were made

-- the report of their text is that of lines on each
abbrev pub as_verify : (p : Program) (limits : Limits) (r : Response) (a : AnswersMake p limits r)
    → AnswersVerify p limits (verdict_report p a.found)
as_verify p limits r a = record { found = a.found; holds = a.holds; valid = a.valid; says = refl }

-- ---- the line of each function

line_at : (p : Program) (ends : List CheckEnd) (rest : List (List ℕ)) (n i : ℕ) (fs : List Function) (vs : List Verdict)
    (f : Function) (v : Verdict) → slice_get fs i ≡ Some f → slice_get vs i ≡ Some v
    → slice_get (verdict_lines p ends n fs vs ++ rest) i ≡ Some (verdict_text p ends (n + i) f v)
line_at p ends rest n i [] vs f v at also = absurd (omega (arith, slice_get_within [] i f at))
line_at p ends rest n i (g ∷ fs) [] f v at also = absurd (omega (arith, slice_get_within [] i v also))
line_at p ends rest n zero (g ∷ fs) (w ∷ vs) f v at also =
    let same : n ≡ n + 0 = omega arith in
    ap (λ z. Some (verdict_text p ends n z w)) (same_Some _ _ at)
    ∙ ap (λ z. Some (verdict_text p ends n f z)) (same_Some _ _ also) ∙ ap (λ k. Some (verdict_text p ends k f v)) same
line_at p ends rest n (suc i) (g ∷ fs) (w ∷ vs) f v at also =
    let same : suc n + i ≡ n + suc i = omega arith in
    line_at p ends rest (suc n) i fs vs f v at also ∙ ap (λ k. Some (verdict_text p ends k f v)) same

module _ (p : Program) (limits : Limits) (r : Response) (a : AnswersVerify p limits r) where
  -- the line of each function, and the summary behind them
  abbrev pub own_lines : List (List ℕ)
  own_lines = verdict_lines p a.found.checks 0 p.functions a.found.verdicts ++ summary_by a.found.verdicts ∷ []

  -- the verdict of a function, and its line
  pub record IsTold (i : ℕ) (f : Function) : Type 0 where
    pub verdict : Verdict
    pub here : slice_get a.found.verdicts i ≡ Some verdict
    pub line : List ℕ
    pub there : slice_get own_lines i ≡ Some line
    pub tells : Tells p limits i f line verdict

  -- what the line of a verdict tells
  pub told_by : (i : ℕ) (f : Function) (v : Verdict) → slice_get a.found.verdicts i ≡ Some v
      → Tells p limits i f (verdict_text p a.found.checks i f v) v
  told_by i f v at =
      tells p limits a.found.checks a.holds.ends i f (verdict_text p a.found.checks i f v) v
      (a.holds.verdicts.each i v at) refl

  pub told : (i : ℕ) (f : Function) → slice_get p.functions i ≡ Some f → IsTold i f
  told i f at =
      let ends = a.found.checks in
      let are = a.holds.verdicts in
      let v = within a.found.verdicts i (omega (arith, are.size, slice_get_within p.functions i f at)) in
      let text = verdict_text p ends i f v.0 in
      let first : 0 + i ≡ i = omega arith in
      record {
        verdict = v.0;
        here = v.1;
        line = text;
        there = line_at p ends (summary_by a.found.verdicts ∷ []) 0 i p.functions a.found.verdicts f v.0 at v.1
            ∙ ap (λ k. Some (verdict_text p ends k f v.0)) first;
        tells = told_by i f v.0 v.1;
      }

  -- the line that stands there is the one that is told
  pub same_line : (i : ℕ) (f : Function) (t : IsTold i f) (line : List ℕ) → slice_get own_lines i ≡ Some line
      → t.line ≡ line
  same_line i f t line there = same_Some _ _ (sym t.there ∙ there)
