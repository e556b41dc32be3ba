-- Which function is asked for.
use Rattle.std.proofs.Common.{◌≡◌, ◌<◌, ℕ, zero, suc, List, [], ◌∷◌, length, Result, Ok, Err, IfOk, refl, sym, ap}
use Rattle.std.proofs.Common.{◌∙◌, subst, arith}
use Rattle.std.specs.Prelude.{Some, slice_get}
use Rattle.std.proofs.lemmas.Option.{same_Some, slice_get_within}
use Rattle.pp_eval.specs.Runs.{run_at}
use Rattle.pp_eval.specs.declared.outcome.Outcome.{Outcome}
use Rattle.pp_modes.specs.Responses.{Response, refusal}
use Rattle.pp_modes.specs.Runs.{AnswersRun, IsAsked, no_function, outcome_report, ran}
use Rattle.pp_modes.specs.declared.status.Status.TheVariants as status
use Rattle.pp_print.specs.Refusals.{words_text}
use Rattle.pp_prog.specs.Names.{IsFirstNamed, NoneNamed}
use Rattle.pp_prog.specs.declared.expr.Function.{Function}
use Rattle.pp_prog.specs.declared.program.Program.{Program}

pub within : (fs : List Function) (name : List ℕ) (f : ℕ) → IsFirstNamed fs name f → f < length fs
within fs name f is = slice_get_within fs f is.named.0 is.named.1

-- what is true of an answer, where there is one
pub if_ok : {A E : Type 0} {P Q : A → Type 0} (r : Result A E) → IfOk r P → ((a : A) → P a → Q a) → IfOk r Q
if_ok (Ok a) h go = go a h
if_ok (Err e) h go = tt

not_less : (m n : ℕ) → (m < n → ⊥) → (n < m → ⊥) → m ≡ n
not_less zero zero h k = refl
not_less zero (suc n) h k = absurd (h (omega arith))
not_less (suc m) zero h k = absurd (k (omega arith))
not_less (suc m) (suc n) h k = ap suc (not_less m n (λ l. h (omega arith)) (λ l. k (omega arith)))

module _ (p : Program) (name : List ℕ) (fuel : ℕ) where
  -- no function of the name is asked for
  pub none_asked : (r : Response) → NoneNamed p.functions name → r ≡ refusal status.Words words_text
      → AnswersRun p name fuel r
  none_asked r none is =
      subst (AnswersRun p name fuel) (sym is) (no_function (λ f asked. none asked.place asked.named.named))

  one_first : (f g : ℕ) → IsFirstNamed p.functions name f → IsFirstNamed p.functions name g → f ≡ g
  one_first f g a b =
      not_less f g (λ (less : f < g). b.first f less a.named) (λ (more : g < f). a.first g more b.named)

  -- the first of the name is the one that is asked for
  pub same_function : (f : ℕ) (g : Function) → IsFirstNamed p.functions name f → slice_get p.functions f ≡ Some g
      → (h : Function) → IsAsked p name fuel h → h ≡ g
  same_function f g first at h asked =
      same_Some _ _ (sym asked.here ∙ ap (slice_get p.functions) (one_first asked.place f asked.named first) ∙ at)

  -- where the function of the name has parameters, none is asked for
  pub has_params : (r : Response) (f : ℕ) (g : Function) → IsFirstNamed p.functions name f
      → slice_get p.functions f ≡ Some g
      → 0 < length g.params → r ≡ refusal status.Words words_text → AnswersRun p name fuel r
  has_params r f g first at some is =
      subst (AnswersRun p name fuel) (sym is) (no_function (λ h asked.
      let none : g.params ≡ [] =
      ap (λ (z : Function). z.params) (sym (same_function f g first at h asked)) ∙ asked.bare in
      let zero_long = ap length none in absurd (omega (arith, some, zero_long))))

  -- and else its run is told
  pub is_run : (r : Response) (f : ℕ) (g : Function) (o : Outcome) → IsFirstNamed p.functions name f
      → slice_get p.functions f ≡ Some g → length g.params ≡ 0 → o ≡ run_at p.types.ctors p.functions (Some g) [] fuel
      → r ≡ outcome_report p name fuel o → AnswersRun p name fuel r
  is_run r f g o first at bare ran_to is =
      subst (AnswersRun p name fuel) (sym (is ∙ ap (outcome_report p name fuel) ran_to))
      (ran g (record { place = f; named = first; here = at; bare = nothing g.params bare }))
    where
      nothing : {A : Type 0} (xs : List A) → length xs ≡ 0 → xs ≡ []
      nothing [] h = refl
      nothing (x ∷ xs) h = absurd (omega (arith, h))
