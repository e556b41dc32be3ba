-- A round in which no call was left to unfold in the round before is like that one.
use Rattle.std.proofs.Common.{◌∙◌, ℕ, zero, suc, sym, arith}
use Rattle.std.specs.Prelude.{List}
use Rattle.pp_prog.specs.declared.id.CheckId.{CheckId}
use Rattle.pp_prog.specs.declared.program.Program.{Program}
use Rattle.pp_prog.specs.Calls.{call_table}
use Rattle.pp_checks.specs.Closed.{Closed, Nests}
use Rattle.pp_eval.proofs.Lasts.{lasts}
use Rattle.pp_induction.specs.Ends.{GuessFails, NoGuessFails, NoLowRunFails}
use Rattle.pp_run_laws.proofs.Nested.{nested_never_deep}
use Rattle.pp_verify.proofs.GuessesAlike.{guess_same_after}
use Rattle.pp_verify.specs.Laws.{RepeatedAreAlike}

-- a call tree that is at most n deep is at most n + 1 deep
nests_more : (calls : List (List ℕ)) (n f : ℕ) → Nests calls n f → Nests calls (suc n) f
nests_more calls zero f nests g has = absurd (nests g has)
nests_more calls (suc n) f nests g has = nests_more calls n g (nests g has)

-- a guess run that fails a check in the one fails it in the other too
pub guess_fails_after : (p : Program) (i : ℕ) (c : CheckId) (n : ℕ) → Nests (call_table p.functions) n i
    → GuessFails p i c n → GuessFails p i c (suc n)
guess_fails_after p i c n nests h = record {
  function = h.function;
  args = h.args;
  called = h.called;
  answers = h.answers;
  answering = h.answering;
  failed = sym (guess_same_after p.types.ctors p.functions n i h.function h.called.function nests c h.args h.answers)
      ∙ h.failed;
}

pub repeated_are_alike : RepeatedAreAlike
repeated_are_alike p i n nests c d = record { runs = (later, sooner); guesses = (guesses, back); closed = (more, less) }
  where
    later : NoLowRunFails p i c n d → NoLowRunFails p i c (suc n) d
    later none f args called low fails =
        let never = nested_never_deep p i f args called n nests in
        none f args called low
        (sym (lasts p.types.ctors p.functions f args n (suc n) (omega arith) never) ∙ fails)

    sooner : NoLowRunFails p i c (suc n) d → NoLowRunFails p i c n d
    sooner none f args called low fails =
        let never = nested_never_deep p i f args called n nests in
        none f args called low (lasts p.types.ctors p.functions f args n (suc n) (omega arith) never ∙ fails)

    guesses : NoGuessFails p i c n → NoGuessFails p i c (suc n)
    guesses none f args called W is fails =
        none f args called W is
        (guess_same_after p.types.ctors p.functions n i f called.function nests c args W ∙ fails)

    back : NoGuessFails p i c (suc n) → NoGuessFails p i c n
    back none f args called W is fails =
        none f args called W is
        (sym (guess_same_after p.types.ctors p.functions n i f called.function nests c args W) ∙ fails)

    more : Closed p.types p.functions i n d → Closed p.types p.functions i (suc n) d
    more h = record { acyclic = h.acyclic; nested = nests_more (call_table p.functions) n i nests; low = h.low }

    less : Closed p.types p.functions i (suc n) d → Closed p.types p.functions i n d
    less h = record { acyclic = h.acyclic; nested = nests; low = h.low }
