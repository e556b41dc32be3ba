-- In a word function no step of a guess run has the sort of a datatype.
use Rattle.std.proofs.Common.{◌≡◌, ◌<◌, ◌≤◌, ◌⊎◌, inl, inr, ℕ, suc, ◌+◌, true, List, [], ◌∷◌, length, Option, Some}
use Rattle.std.proofs.Common.{refl, sym, subst, arith}
use Rattle.std.proofs.lemmas.Bool.{cases_lt}
use Rattle.std.proofs.Common.{⊎_elim, ap}
use Rattle.pp_operators.specs.Classes.{class_of}
use Rattle.pp_operators.specs.declared.class.OperatorClass.{OperatorClass}
use Rattle.pp_operators.specs.declared.class.OperatorClass.TheVariants as class
use Rattle.pp_tree.specs.declared.operator.BinaryOp.{BinaryOp}
use Rattle.pp_tree.specs.declared.operator.UnaryOp.{UnaryOp}
use Rattle.pp_tree.specs.declared.operator.UnaryOp.TheVariants.{Neg, Not, Flip}
use Rattle.pp_prog.specs.declared.id.DataId.{DataId}
use Rattle.pp_prog.specs.declared.program.Program.{Program}
use Rattle.pp_prog.specs.declared.sort.Sort.{Sort}
use Rattle.pp_prog.specs.declared.sort.Sort.TheVariants as sort
use Rattle.pp_prog.specs.Cone.{IsWordFunction, is_word}
use Rattle.pp_prog.specs.ExprSorts.{a_bool, an_int}
use Rattle.pp_prog.specs.ExprSorts.{unary_sort}
use Rattle.pp_prog.proofs.PartSorts.{bits_parts, bool_then, equality_parts, int_then, order_parts, shift_parts}
use Rattle.pp_prog.proofs.PartSorts.{sum_parts}
use Rattle.pp_steps.proofs.Counting.{zero_plus}
use Rattle.pp_steps.specs.declared.step.Step.{Step}
use Rattle.pp_steps.specs.declared.step.Step.TheVariants as steps
use Rattle.pp_steps.specs.Guesses.{guess_steps}
use Rattle.pp_steps.specs.Reads.{AllRead, Reads}
use Rattle.pp_steps.specs.Sorted.{AllSorted, IsSorted, Selects, SelectsOnly, Sorts, class_operated, operated_sort}
use Rattle.pp_guess_steps.proofs.Labels.{IsLabelled, Labelled, guess_labelled}
use Rattle.pp_guess_steps.proofs.RoundsRead.{guess_read}
use Rattle.pp_guess_words.specs.Laws.{NoTrees}
use Rattle.pp_guess_words.proofs.WordFunctions.{result_word}
use Rattle.pp_guess_words.proofs.WordSteps.{AreWordSteps, IsWordStep, guess_words}

-- ---- operators

some_word : (s r : Sort) → is_word s ≡ true → Some s ≡ Some r → is_word r ≡ true
some_word s r h e = cc

same_word : (s r : Sort) → is_word s ≡ true → r ≡ s → is_word r ≡ true
same_word s r h e = subst (λ t. is_word t ≡ true) (sym e) h

int_word : (a : Option Sort) (s r : Sort) → is_word s ≡ true → an_int a (Some s) ≡ Some r → is_word r ≡ true
int_word a s r h e = some_word s r h (int_then a (Some s) r e).1

bool_word : (a : Option Sort) (s r : Sort) → is_word s ≡ true → a_bool a (Some s) ≡ Some r → is_word r ≡ true
bool_word a s r h e = some_word s r h (bool_then a (Some s) r e).1

unary_word : (op : UnaryOp) (a : Option Sort) (r : Sort) → unary_sort op a ≡ Some r → is_word r ≡ true
unary_word Neg a r h = int_word a sort.Int r refl h
unary_word Not a r h = bool_word a sort.Bool r refl h
unary_word Flip a r h = int_word a sort.Int r refl h

class_word : (c : OperatorClass) (a b : Option Sort) (r : Sort) → class_operated c a b ≡ Some r → is_word r ≡ true
class_word class.Sum a b r h = some_word sort.Int r refl (ap Some (sum_parts a b r h).2)
class_word class.Product a b r h = some_word sort.Int r refl (ap Some (sum_parts a b r h).2)
class_word class.Quotient a b r h = some_word sort.Int r refl (ap Some (sum_parts a b r h).2)
class_word class.Equality a b r h = some_word sort.Bool r refl (ap Some (equality_parts a b r h).1.2)
class_word class.Order a b r h = some_word sort.Bool r refl (ap Some (order_parts a b r h).2)
class_word class.Logic a b r h = cc
class_word class.Bitwise a b r h =
    ⊎_elim (λ k. some_word sort.Int r refl (ap Some k.2)) (λ k. some_word sort.Bool r refl (ap Some k.2))
    (bits_parts a b r h)
class_word class.Shift a b r h = some_word sort.Int r refl (ap Some (shift_parts a b r h).2)

operated_word : (op : BinaryOp) (a b : Option Sort) (r : Sort) → operated_sort op a b ≡ Some r → is_word r ≡ true
operated_word op a b r h = class_word (class_of op) a b r h

-- ---- steps

-- the sort of a word is no datatype
pub no_tree : (s : Sort) (d : DataId) → is_word s ≡ true → s ≡ sort.Tree d → ⊥
no_tree s d h e = absurd (cc)

module _ (p : Program) (start : ℕ) (words : IsWordFunction p.types p.functions start) (σ : Sorts) where
  abbrev WordsBelow : ℕ → Type 0
  WordsBelow k = (j : ℕ) → j < k → is_word (σ j) ≡ true

  -- behind words, a step of a word function has a word
  step_word : (k : ℕ) (s : Step) (r : Sort) → IsSorted p.types σ s r → IsWordStep p start s
      → IsLabelled p.functions s → Reads k s → WordsBelow k → is_word r ≡ true
  step_word k (steps.Open s) r h w l reads below = same_word s r w h.0
  step_word k (steps.Int n) r h w l reads below = same_word sort.Int r refl h.0
  step_word k (steps.Bool b) r h w l reads below = same_word sort.Bool r refl h
  step_word k (steps.Not a) r h w l reads below = same_word sort.Bool r refl h.1
  step_word k (steps.Both a b) r h w l reads below = same_word sort.Bool r refl h.2
  step_word k (steps.Choose c a b) r h w l reads below =
      subst (λ t. is_word t ≡ true) h.1 (below a reads.1)
  step_word k (steps.Unary op a) r h w l reads below = unary_word op (Some (σ a)) r h
  step_word k (steps.Binary op a b) r h w l reads below = operated_word op (Some (σ a)) (Some (σ b)) r h
  step_word k (steps.Construct c fields) r h w l reads below = absurd w
  step_word k (steps.IsCtor c n a) r h w l reads below = same_word sort.Bool r refl h.1
  step_word k (steps.CtorField c i a) r h w l reads below =
      let made : Selects p.types σ c i a r = h in absurd (no_tree (σ a) made.ctor.of (below a reads) made.operand)
  step_word k (steps.Field a i) r h w l reads below =
      let made : SelectsOnly p.types σ a i r = h in absurd (no_tree (σ a) made.datatype (below a reads) made.operand)
  step_word k (steps.IsAlike a b) r h w l reads below = same_word sort.Bool r refl h.1
  step_word k (steps.GoesDown a b) r h w l reads below = same_word sort.Bool r refl h.1
  step_word k (steps.HasAnswer c) r h w l reads below = same_word sort.Bool r refl h.2
  step_word k (steps.Answer c) r h w l reads below =
      same_word c.result r (same_word _ c.result (result_word p start words c.callee.0 w) l.result) h.1

  words_below_next : (k : ℕ) → WordsBelow k → is_word (σ k) ≡ true → WordsBelow (suc k)
  words_below_next k below here j lt = by (cases_lt j k)
    where
      at : (j k : ℕ) → j < suc k → k ≤ j → k ≡ j
      at j k lt le = omega (arith, lt, le)

      by : (j < k) ⊎ (k ≤ j) → is_word (σ j) ≡ true
      by (inl less) = below j less
      by (inr le) = subst (λ i. is_word (σ i) ≡ true) (at j k lt le) here

  steps_words : (k : ℕ) (ss : List Step) → AllSorted p.types σ k ss → AreWordSteps p start ss
      → Labelled p.functions ss → AllRead k ss → WordsBelow k → WordsBelow (k + length ss)
  steps_words k [] h w l reads below = subst WordsBelow (none k) below
    where
      none : (k : ℕ) → k ≡ k + 0
      none k = omega arith
  steps_words k (s ∷ ss) h w l reads below =
      subst WordsBelow (more k (length ss))
      (steps_words (suc k) ss h.1 w.1 l.1 reads.1
      (words_below_next k below (step_word k s (σ k) h.0 w.0 l.0 reads.0 below)))
    where
      more : (k n : ℕ) → suc k + n ≡ k + suc n
      more k n = omega arith

none_before : (j : ℕ) → j < 0 → ⊥
none_before j lt = omega (arith, lt)

pub no_trees : NoTrees
no_trees p i words f is check n run k lt =
    let g = guess_steps p.functions f check n in
    steps_words p i words run.sorts 0 g.steps run.sorted (guess_words p i words f is check n)
    (guess_labelled p.functions f check n) (guess_read p.functions f check n).reads
    (λ j less. absurd (none_before j less)) k (subst (λ m. k < m) (sym (zero_plus (length g.steps))) lt)
