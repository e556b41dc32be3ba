-- What is read back from the line of a function is what was printed, and it is true.
use Rattle.std.proofs.Common.{◌≡◌, ◌∙◌, ◌^◌, ◌<◌, ℕ, List, refl, sym, ap, subst, inl, inr, arith}
use Rattle.std.specs.Prelude.{Option, None, Some, nat_eq, slice_get}
use Rattle.std.proofs.lemmas.List.Sums.{count_by-le-length}
use Rattle.std.proofs.lemmas.Option.{same_Some}
use Rattle.pp_answers.proofs.Alike.{check_there, counterexample_there, good_there, none_there}
use Rattle.pp_answers.proofs.Claimed.{of_verify}
use Rattle.pp_answers.proofs.Excluded.{excluded}
use Rattle.pp_answers.proofs.Heads.{heads_told}
use Rattle.pp_answers.proofs.Lines.{Tells, same_line, told}
use Rattle.pp_answers.proofs.Meaning.{EachTold}
use Rattle.pp_answers.proofs.Once.{AreAlike, one_program, swapped}
use Rattle.pp_answers.specs.Answers.{IsAccepted, accepted, refused}
use Rattle.pp_answers.specs.Laws.{LinesReadBack}
use Rattle.pp_answers.specs.Readings.{IsReadBack, Means, MeansReason, MeansSearched, MeansSpent}
use Rattle.pp_checks.specs.Plain.{IsPlain}
use Rattle.pp_clause.specs.declared.spent.Spent.{Spent}
use Rattle.pp_estimate.specs.Estimates.{estimate}
use Rattle.pp_eval.specs.Runs.{AreArguments, IsGood}
use Rattle.pp_front.proofs.Spelled.{each_spells}
use Rattle.pp_induct.specs.Reports.{AreLimits, IsNotPlain, IsOutOfLemmas, IsSearched, IsWhy, next_round}
use Rattle.pp_induct.specs.declared.ends.Why.{Why}
use Rattle.pp_induct.specs.declared.ends.Why.TheVariants as why
use Rattle.pp_induct.specs.declared.limits.Limits.{Limits}
use Rattle.pp_induct.specs.declared.verdict.Verdict.{Verdict}
use Rattle.pp_induct.specs.declared.verdict.Verdict.TheVariants.{Valid, Depends, Invalid, Open}
use Rattle.pp_legible.proofs.Law.{programs_are_legible}
use Rattle.pp_line_contents.proofs.Law.{lines_tell_contents}
use Rattle.pp_line_contents.specs.Contents.{Content, IsSmallRound, Prints, depending, failed, left_open, valid}
use Rattle.pp_line_contents.specs.Laws.{IsLegible}
use Rattle.pp_modes.specs.Lists.{own_checks}
use Rattle.pp_modes.specs.Responses.{Response}
use Rattle.pp_modes.specs.Verdicts.{AnswersVerify, reason_of}
use Rattle.pp_ordinary.specs.Laws.{AreShort}
use Rattle.pp_print.specs.Lines.{invalid_text}
use Rattle.pp_print.specs.declared.line.Reason.{Reason}
use Rattle.pp_print.specs.declared.line.Reason.TheVariants as reason
use Rattle.pp_prog.specs.Cone.{InCone}
use Rattle.pp_prog.specs.declared.check.Check.{Check}
use Rattle.pp_prog.specs.declared.expr.Function.{Function}
use Rattle.pp_prog.specs.declared.id.CheckId.{CheckId}
use Rattle.pp_prog.specs.declared.program.Program.{Program}
use Rattle.pp_prog.specs.declared.types.TypeTable.{TypeTable}
use Rattle.pp_sound.specs.Sound.{IsCalled}

-- ---- what a line tells is its content

module _ (p : Program) (limits : Limits) (i : ℕ) (f : Function) (line : List ℕ) where
  abbrev pub content_of : (v : Verdict) → Tells p limits i f line v → Content
  content_of Valid t = valid (own_checks i p.checks)
  content_of (Depends g) t = depending g (own_checks i p.checks)
  content_of (Invalid c) t = failed c t.args
  content_of (Open c) t = left_open t.searched c (reason_of t.why)

  few_checks : own_checks i p.checks < 2 ^ 64
  few_checks =
      let few = p.few_checks in
      let le = count_by-le-length (λ (check : Check). nat_eq check.function.0 i) p.checks in omega (arith, le, few)

  small_round : AreLimits limits → (c : CheckId) (searched : Option ℕ) → IsSearched p limits i c searched
      → IsSmallRound searched
  small_round range c None is = tt
  small_round range c (Some n) is = let le = is.begun.round in let most = range.rounds in omega (arith, le, most)

  sorted : slice_get p.functions i ≡ Some f → (args : _) (g : Function) → IsCalled p i g args
      → AreArguments p.types.ctors (Some f) args
  sorted at args g called =
      subst (λ h. AreArguments p.types.ctors (Some h) args) (same_Some _ _ (sym called.function ∙ at)) called.arguments

  pub printed : AreLimits limits → slice_get p.functions i ≡ Some f → (v : Verdict) (t : Tells p limits i f line v)
      → Prints p i f line (content_of v t)
  printed range at Valid t = record { small = few_checks; text = t }
  printed range at (Depends g) t = record { on = t.on; here = t.here; small = few_checks; text = t.text }
  printed range at (Invalid c) t = record {
    own = t.own;
    sorted = sorted at t.args t.ended.fails.function t.ended.fails.called;
    text = t.text;
  }
  printed range at (Open c) t = record { own = t.own; small = small_round range c t.searched t.ended; text = t.text }

  searched_means : (c : CheckId) (searched : Option ℕ) → IsSearched p limits i c searched
      → MeansSearched limits p i f searched c
  searched_means c None is = tt
  searched_means c (Some n) is = (is.begun.round, is.none)

  spent_means : (c : CheckId) (searched : Option ℕ) (s : Spent) → IsOutOfLemmas p limits i c searched s
      → MeansSpent limits p i f searched c
  spent_means c None s is = tt
  spent_means c (Some n) s (inl search) = inl search.begun.round
  spent_means c (Some n) s (inr proof) = inr proof.not_plain

  reason_means : (c : CheckId) (searched : Option ℕ) (w : Why) → IsWhy p limits i c searched w
      → MeansReason limits p i f searched c (reason_of w)
  reason_means c searched why.Rounds is = is
  reason_means c searched (why.Lemmas s) is = spent_means c searched s is
  reason_means c searched why.Size is = (is.round, is.size)

  pub meant : (v : Verdict) (t : Tells p limits i f line v) → (v ≡ Valid → IsGood p.types.ctors p.functions f)
      → Means limits p i f (content_of v t)
  meant Valid t good = (refl, good refl)
  meant (Depends g) t good = (refl, t.cone)
  meant (Invalid c) t good = (t.round, t.ended.tried.round, t.ended.fails)
  meant (Open c) t good = (searched_means c t.searched t.ended, reason_means c t.searched t.why t.because)

module _ (p : Program) (limits : Limits) (r : Response) (a : AnswersVerify p limits r) where
  pub told_read : AreLimits limits → IsLegible p → EachTold p limits r a (IsReadBack limits)
  told_read range legible i f line at there =
      let t = told p limits r a i f at in
      let own = printed p limits i f t.line range at t.verdict t.tells in
      subst (IsReadBack limits p i f) (same_line p limits r a i f t line there) (record {
        content = content_of p limits i f t.line t.verdict t.tells;
        printed = own;
        only = λ other h. (lines_tell_contents p legible i i f f at at t.line other _ h own).1;
        true_of = meant p limits i f t.line t.verdict t.tells
            (λ is. a.valid i (t.here ∙ ap Some is) i f (inl refl) at);
      })

-- ---- programs that are alike

module _ (p q : Program) (alike : AreAlike p q) (i : ℕ) (f : Function) (line : List ℕ) where
  pub prints_there : (c : Content) → Prints p i f line c → Prints q i f line c
  prints_there (valid checks) h = record { small = h.small; text = h.text }
  prints_there (depending g checks) h = record {
    on = h.on;
    here = ap (λ fs. slice_get fs g.0) (sym alike.functions) ∙ h.here;
    small = h.small;
    text = h.text;
  }
  prints_there (failed c args) h = record {
    own = check_there p q alike i c.0 h.own;
    sorted = subst (λ (t : TypeTable). AreArguments t.ctors (Some f) args) alike.types h.sorted;
    text = h.text
        ∙ ap (λ (t : TypeTable). invalid_text t.ctors f.name h.own.check.kind h.own.check.place f.params args)
        alike.types;
  }
  prints_there (left_open searched c why) h =
      record { own = check_there p q alike i c.0 h.own; small = h.small; text = h.text }

  same_estimate : (c n d : ℕ)
      → estimate p.types p.functions p.checks c n d ≡ estimate q.types q.functions q.checks c n d
  same_estimate c n d =
      ap (λ (t : TypeTable). estimate t p.functions p.checks c n d) alike.types
      ∙ ap (λ fs. estimate q.types fs p.checks c n d) alike.functions
      ∙ ap (λ cs. estimate q.types q.functions cs c n d) alike.checks

  searched_there : (limits : Limits) (searched : Option ℕ) (c : CheckId) → MeansSearched limits p i f searched c
      → MeansSearched limits q i f searched c
  searched_there limits None c h = tt
  searched_there limits (Some n) c h = (h.0, none_there p q alike limits i f line c n limits.depth h.1)

  not_plain_there : (c : CheckId) → IsNotPlain p c → IsNotPlain q c
  not_plain_there c = subst (λ fs. IsPlain fs c.0 → ⊥) alike.functions

  spent_there : (limits : Limits) (searched : Option ℕ) (c : CheckId) → MeansSpent limits p i f searched c
      → MeansSpent limits q i f searched c
  spent_there limits None c h = tt
  spent_there limits (Some n) c (inl asked) = inl asked
  spent_there limits (Some n) c (inr not_plain) = inr (not_plain_there c not_plain)

  reason_there : (limits : Limits) (searched : Option ℕ) (c : CheckId) (w : Reason)
      → MeansReason limits p i f searched c w → MeansReason limits q i f searched c w
  reason_there limits searched c reason.Rounds h = (h.0, not_plain_there c h.1)
  reason_there limits searched c reason.Lemmas h = spent_there limits searched c h
  reason_there limits searched c reason.Size h =
      (h.0, subst (λ n. limits.gates < n) (same_estimate c.0 (next_round searched) limits.depth) h.1)

  pub means_there : (limits : Limits) (c : Content) → Means limits p i f c → Means limits q i f c
  means_there limits (valid checks) h = (h.0 ∙ ap (own_checks i) alike.checks, good_there p q alike f h.1)
  means_there limits (depending g checks) h =
      (h.0 ∙ ap (own_checks i) alike.checks, subst (λ fs. InCone fs i g.0) alike.functions h.1)
  means_there limits (failed c args) h = (h.0, h.1, counterexample_there p q alike i c h.0 limits.depth args h.2)
  means_there limits (left_open searched c w) h =
      (searched_there limits searched c h.0, reason_there limits searched c w h.1)

read_there : (p q : Program) → AreAlike p q → (limits : Limits) (i : ℕ) (f : Function) (line : List ℕ)
    → IsReadBack limits p i f line → IsReadBack limits q i f line
read_there p q alike limits i f line h = record {
  content = h.content;
  printed = prints_there p q alike i f line h.content h.printed;
  only = λ other k. h.only other (prints_there q p (swapped alike) i f line other k);
  true_of = means_there p q alike i f line limits h.content h.true_of;
}

-- ---- the law

pub legible : (sources : List (List ℕ)) (p : Program) → AreShort sources → IsAccepted sources p → IsLegible p
legible sources p short is =
    let typing = is.program.typing in
    programs_are_legible sources typing.units is.program.typed p short (each_spells typing.spelled) typing.typing
    is.program.concrete

pub lines_read_back : LinesReadBack
lines_read_back order limits sources r range short (refused {line = text} a) p is i f line at here =
    absurd (excluded sources text p a is)
lines_read_back order limits sources r range short (accepted q also a) p is i f line at here =
    let alike = one_program sources q p also.program is.program in
    let verified = of_verify q order limits a in
    read_there q p alike limits i f line
    (told_read q limits r verified range (legible sources q short also) i f line
    (ap (λ fs. slice_get fs i) alike.functions ∙ at)
    (ap (λ l. slice_get l i) (sym (heads_told sources q also limits r verified)) ∙ here))
