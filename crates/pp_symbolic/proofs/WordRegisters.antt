-- In a word function the values of registers are those of a guess run that fails the check.
use Rattle.std.proofs.Common.{◌≡◌, ◌<◌, ℕ, zero, suc, Bool, true, List, [], ◌∷◌, length, Option, Some, None}
use Rattle.std.proofs.Common.{refl, sym, ap, ◌∙◌, subst, arith}
use Rattle.std.specs.Prelude.{slice_get}
use Rattle.std.specs.Int.{w32}
use Rattle.pp_prog.specs.declared.expr.Function.{Function}
use Rattle.pp_prog.specs.declared.id.CheckId.{CheckId}
use Rattle.pp_prog.specs.declared.program.Program.{Program}
use Rattle.pp_prog.specs.declared.sort.Sort.{Sort}
use Rattle.pp_prog.specs.declared.sort.Sort.TheVariants as sort
use Rattle.pp_prog.specs.declared.value.Value.{Value}
use Rattle.pp_prog.specs.declared.value.Value.TheVariants as value
use Rattle.pp_prog.specs.Cone.{IsWordFunction, is_word}
use Rattle.pp_prog.specs.Sorts.{has_sort, param_sorts}
use Rattle.pp_prog.proofs.ValueSorts.{int_has, truth_has}
use Rattle.pp_clause.specs.Literal.{lit_value}
use Rattle.pp_gate.specs.declared.gate.Gate.{Gate}
use Rattle.pp_wordgate.specs.Meaning.{word_of}
use Rattle.pp_domain.specs.declared.symbol.Symbol.{Symbol}
use Rattle.pp_domain.specs.declared.symbol.Symbol.TheVariants as symbol
use Rattle.pp_domain.specs.Naming.{Naming}
use Rattle.pp_domain.specs.Sense.{Sense, Good}
use Rattle.pp_domain.specs.Symbols.{IsSymbol, SymbolStands}
use Rattle.pp_build_operators.proofs.Results.{word_is_int}
use Rattle.pp_build.specs.Built.{IsBuilt}
use Rattle.pp_build.specs.Followed.{Compares}
use Rattle.pp_build.specs.Registers.{IsKnown}
use Rattle.pp_build.proofs.StepLists.{reads_at}
use Rattle.pp_induction.specs.Ends.{GuessFails}
use Rattle.pp_steps.specs.declared.step.Step.{Step}
use Rattle.pp_steps.specs.declared.step.Step.TheVariants as steps
use Rattle.pp_steps.specs.Gates.{Heights}
use Rattle.pp_steps.specs.Guesses.{GuessSteps, guess_steps}
use Rattle.pp_steps.specs.Known.{Tells}
use Rattle.pp_steps.specs.Meaning.{Does, Missing, Values}
use Rattle.pp_steps.specs.Reads.{Reads}
use Rattle.pp_guess_steps.specs.Laws.{HaveGuessSorts, IsSupposed}
use Rattle.pp_guess_steps.proofs.RoundsRead.{guess_read}
use Rattle.pp_guess_words.proofs.ReadGuesses.{own_fails}
use Rattle.pp_guess_words.proofs.ReadValues.{IsRead}
use Rattle.pp_guess_words.proofs.WordSorts.{no_tree, no_trees}
use Rattle.std.proofs.lemmas.Option.{slice_get_within}

module _ {T : Type 0} where
  -- the value of a register under an assignment; of a tree, which no word function has, none is meant
  abbrev pub value_of : (ℕ → Bool) → Option (Symbol T) → Value
  value_of a None = value.Bool true
  value_of a (Some (symbol.Word w)) = value.Int (word_of w32 a w)
  value_of a (Some (symbol.Bit l)) = value.Bool (lit_value a l)
  value_of a (Some (symbol.Tree t)) = value.Bool true

  at_place : (rs : List (Symbol T)) (k : ℕ) → k < length rs → (r : Symbol T) × (slice_get rs k ≡ Some r)
  at_place [] k lt = absurd (omega (arith, lt))
  at_place (r ∷ rs) zero lt = (r, refl)
  at_place (r ∷ rs) (suc k) lt = at_place rs k (omega (arith, lt))

module _ {D T : Type 0} (m : Sense D T) (p : Program) (i : ℕ) (words : IsWordFunction p.types p.functions i)
    (f : Function) (is : slice_get p.functions i ≡ Some f) (check : CheckId) (n : ℕ)
    (run : HaveGuessSorts p.types (guess_steps p.functions f check n) (param_sorts f.params))
    (d : D) (gs : List Gate) (η : Heights) (e : D) (hs : List Gate) (rs : List (Symbol T))
    (built : IsBuilt m p.types d gs (guess_steps p.functions f check n).steps [] run.sorts η e hs rs)
    (names : Naming) (a : ℕ → Bool) (good : Good m p.types e hs names a) (missing : Missing) where
  abbrev pub G : GuessSteps
  G = guess_steps p.functions f check n

  abbrev pub own : Values
  own k = value_of a (slice_get rs k)

  abbrev K : Values → ℕ → Type 0
  K ρ k = IsKnown m p.types e a names run.sorts ρ rs k

  -- a word's register stands for its value, which has its sort, and for no other
  pub record Word (s : Sort) (r : Symbol T) : Type 0 where
    pub stands : SymbolStands m e a names r (value_of a (Some r))
    pub one : (v : Value) → SymbolStands m e a names r v → v ≡ value_of a (Some r)
    pub sorted : has_sort p.types.ctors (value_of a (Some r)) s ≡ true

  word : (s : Sort) (r : Symbol T) → is_word s ≡ true → IsSymbol m e hs s r → Word s r
  word sort.Int (symbol.Word w) h of = record {
    stands = refl;
    one = λ v stands. stands;
    sorted = int_has p.types.ctors (word_of w32 a w) (word_is_int a w of.0);
  }
  word sort.Bool (symbol.Bit l) h of = record {
    stands = refl;
    one = λ v stands. stands;
    sorted = truth_has p.types.ctors (lit_value a l);
  }
  word sort.Int (symbol.Bit l) h of = absurd of
  word sort.Int (symbol.Tree t) h of = absurd of
  word sort.Bool (symbol.Word w) h of = absurd of
  word sort.Bool (symbol.Tree t) h of = absurd of
  word (sort.Tree c) r h of = absurd (cc)

  within : (k : ℕ) → k < length G.steps → k < length rs
  within k lt = subst (λ l. k < l) (sym built.many) lt

  word_at : (k : ℕ) (r : Symbol T) → k < length G.steps → slice_get rs k ≡ Some r → Word (run.sorts k) r
  word_at k r lt at = word (run.sorts k) r (no_trees p i words f is check n run k lt) (built.registers.of k r at)

  own_is : (k : ℕ) (r : Symbol T) → slice_get rs k ≡ Some r → own k ≡ value_of a (Some r)
  own_is k r at = ap (value_of a) at

  own_sorted : (k : ℕ) → k < length G.steps → has_sort p.types.ctors (own k) (run.sorts k) ≡ true
  own_sorted k lt =
      let r = at_place rs k (within k lt) in
      subst (λ v. has_sort p.types.ctors v (run.sorts k) ≡ true) (sym (own_is k r.0 r.1)) (word_at k r.0 lt r.1).sorted

  is_read : IsRead own K (length G.steps)
  is_read = record {
    stands = λ ρ j lt same.
        let r = at_place rs j (within j lt) in
        let it = own_is j r.0 r.1 in
        record {
          register = r.0;
          at = r.1;
          stands = subst (λ v. SymbolStands m e a names r.0 v) (sym (same ∙ it)) (word_at j r.0 lt r.1).stands;
          sorted = subst (λ v. has_sort p.types.ctors v (run.sorts j) ≡ true) (sym same) (own_sorted j lt);
        };
    read = λ ρ j lt known. (word_at j known.register lt known.at).one (ρ j) known.stands
        ∙ sym (own_is j known.register known.at);
  }

  compares : (k : ℕ) (s : Step) → slice_get G.steps k ≡ Some s → Reads k s → k < length G.steps
      → Compares m p.types run.sorts s
  compares k (steps.GoesDown x y) at r lt =
      λ of tree. absurd (no_tree (run.sorts x) of
      (no_trees p i words f is check n run x (omega (arith, lt, r.0))) tree)
  compares k (steps.Open t) at r lt = tt
  compares k (steps.Int z) at r lt = tt
  compares k (steps.Bool b) at r lt = tt
  compares k (steps.Not x) at r lt = tt
  compares k (steps.Both x y) at r lt = tt
  compares k (steps.Choose c x y) at r lt = tt
  compares k (steps.Unary op x) at r lt = tt
  compares k (steps.Binary op x y) at r lt = tt
  compares k (steps.Construct c fields) at r lt = tt
  compares k (steps.IsCtor c l x) at r lt = tt
  compares k (steps.CtorField c l x) at r lt = tt
  compares k (steps.Field x l) at r lt = tt
  compares k (steps.IsAlike x y) at r lt = tt
  compares k (steps.HasAnswer c) at r lt = tt
  compares k (steps.Answer c) at r lt = tt

  knows : (ρ : Values) (k : ℕ) (s : Step) → slice_get G.steps k ≡ Some s → Does p.types.ctors missing ρ s (ρ k)
      → Tells ρ (K ρ) s k
  knows ρ k s at does =
      built.known names a ρ missing k s good (omega arith) at
      (compares k s at (reads_at 0 G.steps k k s (guess_read p.functions f check n).reads at (omega arith))
      (slice_get_within G.steps k s at)) does

  pub registers_fail : IsSupposed own G → GuessFails p i check n
  registers_fail supposed = own_fails p i words f is check n run missing own K is_read knows own_sorted supposed
