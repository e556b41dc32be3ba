-- In a word function an assignment that says that the check fails is that of a guess run that fails it: the values
-- are those of the registers.
use Rattle.std.proofs.Common.{◌≡◌, ◌<◌, ℕ, List, [], ◌∷◌, length, Bool, true, Option, None, Some, refl, sym}
use Rattle.std.proofs.Common.{◌∙◌, subst}
use Rattle.std.proofs.lemmas.Bool.{and_parts}
use Rattle.std.specs.Prelude.{slice_get}
use Rattle.pp_prog.specs.declared.expr.Function.{Function}
use Rattle.pp_prog.specs.declared.id.CheckId.{CheckId}
use Rattle.pp_prog.specs.declared.program.Program.{Program}
use Rattle.pp_prog.specs.declared.sort.Sort.TheVariants as sort
use Rattle.pp_prog.specs.Cone.{IsWordFunction}
use Rattle.pp_prog.specs.Sorts.{param_sorts}
use Rattle.pp_clause.specs.Literal.{lit_value}
use Rattle.pp_gate.specs.declared.gate.Gate.{Gate}
use Rattle.pp_gate.proofs.Agreement.{Gives_old}
use Rattle.pp_induction.specs.Ends.{GuessFails}
use Rattle.pp_domain.specs.declared.symbol.Symbol.{Symbol}
use Rattle.pp_domain.specs.declared.symbol.Symbol.TheVariants as symbol
use Rattle.pp_domain.specs.Answers.{Fresh}
use Rattle.pp_domain.specs.Laws.{AdmittedFor, Lawful}
use Rattle.pp_domain.specs.Sense.{Good, Sense}
use Rattle.pp_domain.specs.Symbols.{IsSymbol}
use Rattle.pp_steps.specs.Guesses.{guess_steps}
use Rattle.pp_steps.specs.Meaning.{bit}
use Rattle.pp_steps_run.specs.Told.{AllOf}
use Rattle.pp_steps_run.proofs.Pieces.{bit_truth}
use Rattle.pp_guess_steps.specs.Laws.{HaveGuessSorts}
use Rattle.pp_guess_words.proofs.WordSorts.{no_trees}
use Rattle.pp_symbolic.specs.declared.frame.Frame.{Frame}
use Rattle.pp_symbolic.specs.Frame.{IsModel}
use Rattle.pp_symbolic.specs.Guessed.{IsGuessed, all_bits, register_bit}
use Rattle.pp_symbolic.proofs.RunFrame.{nothing_open}
use Rattle.pp_symbolic.proofs.WordRegisters.{registers_fail, value_of}

module _ {D T : Type 0} (m : Sense D T) (e : D) (hs : List Gate) (a : ℕ → Bool) where
  -- a register of a truth value that is true stands for a true value
  true_value : (r : Option (Symbol T)) → ((x : Symbol T) → r ≡ Some x → IsSymbol m e hs sort.Bool x)
      → register_bit a r ≡ true → bit (value_of a r) ≡ true
  true_value None of on = bit_truth true
  true_value (Some (symbol.Bit l)) of on = bit_truth (lit_value a l) ∙ on
  true_value (Some (symbol.Word w)) of on = absurd (of (symbol.Word w) refl)
  true_value (Some (symbol.Tree t)) of on = absurd (of (symbol.Tree t) refl)

module _ {D T : Type 0} (m : Sense D T) (law : Lawful m) (p : Program) (i : ℕ)
    (words : IsWordFunction p.types p.functions i) (f : Function) (here : slice_get p.functions i ≡ Some f)
    (c : CheckId) (n : ℕ) (run : HaveGuessSorts p.types (guess_steps p.functions f c n) (param_sorts f.params))
    (d : D) (gs : List Gate) (fresh : Fresh m p.types d gs) (has_names : 0 < m.limit d) (e : D)
    (hs : List Gate) (frame : Frame T)
    (is : IsGuessed m p.types d gs (guess_steps p.functions f c n) run.sorts e hs frame)
    (a : ℕ → Bool) (model : IsModel m p c n e hs frame a)
  where
    same : e ≡ d
    same = is.words (λ k lt. no_trees p i words f here c n run k lt)

    holds : (lit_value a (m.ok e) ≡ true) × (all_bits a is.registers (guess_steps p.functions f c n).supposed ≡ true)
    holds =
        and_parts (lit_value a (m.ok e)) (all_bits a is.registers (guess_steps p.functions f c n).supposed)
        (sym (is.ok.value a model.gates) ∙ model.ok)

    some : AdmittedFor m p.types d []
    some = law.names p.types d gs fresh.fits [] has_names

    good : Good m p.types e is.before some.naming a
    good = record {
      gates = Gives_old is.before hs (length (guess_steps p.functions f c n).supposed) is.joined.grows a model.gates;
      ok = holds.0;
      matches = subst (λ x. m.Matches x a some.naming) (sym same) (fresh.matches a some.naming some.reaches);
      admitted = some.admitted;
    }

    of_sort : (k : ℕ) → run.sorts k ≡ sort.Bool → (x : Symbol T) → slice_get is.registers k ≡ Some x
        → IsSymbol m e is.before sort.Bool x
    of_sort k is_bool x at = subst (λ s. IsSymbol m e is.before s x) is_bool (is.built.registers.of k x at)

    on_own : (k : ℕ) → run.sorts k ≡ sort.Bool → register_bit a (slice_get is.registers k) ≡ true
        → bit (value_of a (slice_get is.registers k)) ≡ true
    on_own k is_bool on =
        true_value m e is.before a (slice_get is.registers k) (of_sort k is_bool) on

    all_own : (ks : List ℕ) → AllOf (λ k. run.sorts k ≡ sort.Bool) ks → all_bits a is.registers ks ≡ true
        → AllOf (λ k. bit (value_of a (slice_get is.registers k)) ≡ true) ks
    all_own [] sorted on = tt
    all_own (k ∷ ks) sorted on =
        let parts = and_parts (register_bit a (slice_get is.registers k)) (all_bits a is.registers ks) on in
        (on_own k sorted.0 parts.0, all_own ks sorted.1 parts.1)

    fails_before : register_bit a (slice_get is.registers (guess_steps p.functions f c n).fails) ≡ true
    fails_before = sym (is.fails.value a good.gates) ∙ model.fails

    pub word_model_fails : GuessFails p i c n
    word_model_fails =
        registers_fail m p i words f here c n run d gs is.heights e is.before is.registers is.built some.naming a good
        nothing_open
        (record {
          fails = on_own (guess_steps p.functions f c n).fails run.fails fails_before;
          supposed = all_own (guess_steps p.functions f c n).supposed run.supposed holds.1;
        })
