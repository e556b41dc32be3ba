-- Numbers and truth values of inputs, blank ones, and those that are blank where a literal is false.
use Rattle.std.proofs.Common.{◌≡◌, ℕ, ◌+◌, ◌^◌, ◌%◌, Bool, true, false, ◌&&◌, if◌then◌else◌, List, All}
use Rattle.std.proofs.Common.{length, refl, sym, ap, ◌∙◌, subst, arith}
use Rattle.std.specs.Prelude.{ℤ}
use Rattle.std.proofs.lemmas.Int.{to_z-of_z}
use Rattle.std.specs.Int.{w32, cast_signed, cast_unsigned}
use Rattle.std.specs.Int.RustNames.{FitsSigned}
use Rattle.pp_prog.specs.declared.id.DataId.{DataId}
use Rattle.pp_prog.specs.declared.sort.Sort.{Sort}
use Rattle.pp_prog.specs.declared.sort.Sort.TheVariants as sort
use Rattle.pp_prog.specs.declared.types.TypeTable.{TypeTable}
use Rattle.pp_prog.specs.declared.value.Value.{Value}
use Rattle.pp_prog.specs.declared.value.Value.TheVariants as value
use Rattle.pp_prog.specs.Cone.{is_word}
use Rattle.pp_prog.specs.Sorts.{has_sort, is_int}
use Rattle.pp_prog.proofs.Values.{height_of_bool, height_of_int}
use Rattle.pp_prog.proofs.ValueSorts.{bool_value, int_has, int_value, truth_has}
use Rattle.pp_word.proofs.Ranges.{IsWord-cast_signed, IsWord-from_fits, cast_unsigned_below}
use Rattle.pp_eval.proofs.Ranges.{int_fits, int_from}
use Rattle.pp_clause.specs.Literal.{Literal, lit_value}
use Rattle.pp_gate.specs.declared.gate.Gate.{Gate}
use Rattle.pp_gate.specs.Circuit.{Gives, IsCircuit, IsInput, IsOf, StandsFor}
use Rattle.pp_gate.specs.Growth.{AddsGates, Grows}
use Rattle.pp_gate.proofs.Agreement.{agree_along, lit_agree}
use Rattle.pp_gate.proofs.Extension.{growth_extends}
use Rattle.pp_gate.proofs.Growing.{length-Grows}
use Rattle.pp_bits.specs.Inputs.{AreInputs, ChosenNumber}
use Rattle.pp_bits.specs.Number.{nat_of, StandsForNumber}
use Rattle.pp_bits.proofs.Chosen.{nat_of_agree}
use Rattle.pp_bits.proofs.Growing.{Gives_before}
use Rattle.pp_bits.proofs.Numbers.{nat_of_within}
use Rattle.pp_wordgate.specs.Meaning.{ChosenWord, word_of}
use Rattle.pp_domain.specs.declared.symbol.Symbol.{Symbol}
use Rattle.pp_domain.specs.declared.symbol.Symbol.TheVariants as symbol
use Rattle.pp_domain.specs.AnySort.{IsUpTo}
use Rattle.pp_domain.specs.Plain.{IsAnyWord, IsMaskedPlain, IsMaskedWord, IsPlain, IsPlainValue, IsUnknownPlain}
use Rattle.pp_domain.specs.Plain.{PlainStands}

-- ---- words

-- a word of 32 literals stands for a number in the range of Int
pub word_is_int : (a : ℕ → Bool) (w : List Literal) → length w ≡ 32 → is_int (word_of w32 a w) ≡ true
unfolding word_of
word_is_int a w len = int_from _ (IsWord-cast_signed w32 (nat_of a w) (nat_of_within a w 32 len))

masked_is : (gs fs hs : List Gate) (P : ℕ → Type 0) (lit : Literal) (digits blank ls word : List Literal)
    → Grows gs fs 32 → IsOf gs lit → All (IsOf fs) digits
    → ((s : ℕ → Bool) → Gives s gs → (v : ℕ) → P v → ChosenNumber gs fs s digits v)
    → StandsForNumber fs 32 blank (λ s. 0 % 2 ^ 32) → AddsGates fs hs 32
    → StandsForNumber hs 32 ls (λ s. if lit_value s lit then nat_of s digits else nat_of s blank) → word ≡ ls
    → IsMaskedWord gs hs P lit word
masked_is gs fs hs P lit digits blank ls word grows of inputs chosen zero adds stands same = record {
  len = ap length same ∙ stands.len;
  of = subst (λ l. All (IsOf hs) l) (sym same) stands.of;
  blank = λ a gives off.
      ap (nat_of a) same ∙ stands.value a gives
      ∙ ap (λ (b : Bool). if b then nat_of a digits else nat_of a blank) off
      ∙ zero.value a (Gives_before fs hs 32 adds a gives);
  chosen = λ a v gives low.
      let pick = chosen a gives v low in
      let more = growth_extends fs hs 32 adds.grows adds.circuit pick.assignment pick.assignment pick.gives in
      let along = agree_along (length gs) (length fs) a pick.assignment more.assignment
      (length-Grows gs fs 32 grows).0 pick.keeps more.keeps in record {
        next = more.assignment;
        gives = more.gives;
        keeps = along;
        is = λ on.
            let still : lit_value more.assignment lit ≡ true =
            sym (lit_agree (length gs) a more.assignment lit of along) ∙ on in
            ap (nat_of more.assignment) same ∙ stands.value more.assignment more.gives
            ∙ ap (λ (b : Bool). if b then nat_of more.assignment digits else nat_of more.assignment blank) still
            ∙ sym (nat_of_agree fs pick.assignment more.assignment digits inputs more.keeps) ∙ pick.number;
      };
}

-- as the call reads the lists
pub masked_read : (gs fs hs : List Gate) (P : ℕ → Type 0) (lit : Literal) (digits blank la lb ls word : List Literal)
    → Grows gs fs 32 → IsOf gs lit → length digits ≡ 32 → All (IsOf fs) digits
    → ((s : ℕ → Bool) → Gives s gs → (v : ℕ) → P v → ChosenNumber gs fs s digits v)
    → StandsForNumber fs 32 blank (λ s. 0 % 2 ^ 32) → la ≡ digits → lb ≡ blank → AddsGates fs hs (length la)
    → StandsForNumber hs (length la) ls (λ s. if lit_value s lit then nat_of s la else nat_of s lb) → word ≡ ls
    → IsMaskedWord gs hs P lit word
masked_read gs fs hs P lit digits blank la lb ls word grows of len inputs chosen zero one other adds stands same =
    masked_is gs fs hs P lit digits blank ls word grows of inputs chosen zero
    (subst (λ n. AddsGates fs hs n) (ap length one ∙ len) adds) (record {
      len = stands.len ∙ ap length one ∙ len;
      of = stands.of;
      value = λ s gives. stands.value s gives
          ∙ (λ i. if lit_value s lit then nat_of s (one i) else nat_of s (other i));
    }) same

and_false : (b c : Bool) → b ≡ false → b && c ≡ false
and_false true c e = cc
and_false false c e = refl

and_true : (b c : Bool) → b ≡ true → b && c ≡ c
and_true true c e = refl
and_true false c e = cc

-- ---- values

-- what is no datatype is a number or a truth value
pub no_tree_is_word : (s : Sort) → ((d : DataId) → s ≡ sort.Tree d → ⊥) → is_word s ≡ true
no_tree_is_word sort.Int other = refl
no_tree_is_word sort.Bool other = refl
no_tree_is_word (sort.Tree d) other = absurd (other d refl)

-- a value of a sort that is no datatype
pub value_is_plain : (types : TypeTable) (s : Sort) (v : Value) → is_word s ≡ true → has_sort types.ctors v s ≡ true
    → IsPlainValue s v
value_is_plain types sort.Int v plain h =
    let n = int_value types.ctors v h in (n.number, n.is, int_fits n.number n.fits)
value_is_plain types sort.Bool v plain h = let b = bool_value types.ctors v h in (b.truth, b.is)
value_is_plain types (sort.Tree d) v plain h = absurd (cc)

-- the symbol stands for a value of the sort, of at most this height
pub record HasPlainValue {T : Type 0} (types : TypeTable) (a : ℕ → Bool) (h : ℕ) (s : Sort) (x : Symbol T) : Type 0
  where
    pub value : Value
    pub stands : PlainStands a x value
    pub is : IsUpTo types s h value

-- ---- symbols, whatever the trees are

module _ {T : Type 0} where
  pub plain_value : (types : TypeTable) (gs : List Gate) (a : ℕ → Bool) (h : ℕ) (s : Sort) (x : Symbol T)
      → IsPlain gs s x → HasPlainValue types a h s x
  plain_value types gs a h sort.Int (symbol.Word w) is = record {
    value = value.Int (word_of w32 a w);
    stands = refl;
    is = record {
      sorted = int_has types.ctors (word_of w32 a w) (word_is_int a w is.0);
      low = (let e = height_of_int (word_of w32 a w) in omega arith);
    };
  }
  plain_value types gs a h sort.Bool (symbol.Bit l) is = record {
    value = value.Bool (lit_value a l);
    stands = refl;
    is = record {
      sorted = truth_has types.ctors (lit_value a l);
      low = (let e = height_of_bool (lit_value a l) in omega arith);
    };
  }
  plain_value types gs a h sort.Int (symbol.Bit l) is = absurd is
  plain_value types gs a h sort.Int (symbol.Tree t) is = absurd is
  plain_value types gs a h sort.Bool (symbol.Word w) is = absurd is
  plain_value types gs a h sort.Bool (symbol.Tree t) is = absurd is
  plain_value types gs a h (sort.Tree of) x is = absurd is

  pub word_unknown : (gs hs : List Gate) (w : List Literal) → AreInputs gs hs 32 w
      → ((s : ℕ → Bool) → Gives s gs → (v : ℤ) → FitsSigned w32 v → ChosenWord w32 gs hs s w v)
      → IsUnknownPlain {T = T} gs hs sort.Int (symbol.Word w)
  word_unknown gs hs w inputs chosen = record {
    of = (inputs.len, inputs.of);
    chosen = λ a v gives is.
        let c = chosen a gives is.0 is.2 in record {
          next = c.assignment;
          gives = c.gives;
          keeps = c.keeps;
          stands = is.1 ∙ ap value.Int (sym c.value);
        };
  }

  pub bit_unknown : (gs hs : List Gate) (l : Literal) → Grows gs hs 1 → IsCircuit hs → IsOf hs l → IsInput hs l.var
      → l.var ≡ length gs + 1 → ((s : ℕ → Bool) → lit_value s l ≡ s (length gs + 1))
      → IsUnknownPlain {T = T} gs hs sort.Bool (symbol.Bit l)
  bit_unknown gs hs l grows circuit of input var means = record {
    of = of;
    chosen = λ a v gives is.
        let x = growth_extends gs hs 1 grows circuit a (λ k. is.0) gives in record {
          next = x.assignment;
          gives = x.gives;
          keeps = x.keeps;
          stands = is.1 ∙ ap value.Bool (sym (means x.assignment ∙ ap x.assignment (sym var)
              ∙ sym (x.inputs l.var (omega arith) input)));
        };
  }

  pub word_masked : (gs hs : List Gate) (lit : Literal) (r : List Literal) → IsMaskedWord gs hs IsAnyWord lit r
      → IsMaskedPlain {T = T} gs hs lit sort.Int (symbol.Word r)
  unfolding word_of
  word_masked gs hs lit r is = record {
    of = (is.len, is.of);
    blank = λ a gives off. is.blank a gives off;
    chosen = λ a v gives can.
        let small = cast_unsigned_below w32 can.0 (IsWord-from_fits w32 can.0 can.2) in
        let pick = is.chosen a (cast_unsigned w32 can.0) gives small in record {
          next = pick.next;
          gives = pick.gives;
          keeps = pick.keeps;
          stands = λ on.
              can.1 ∙ ap value.Int (sym (ap (cast_signed w32) (pick.is on) ∙ to_z-of_z w32 can.0 can.2));
        };
  }

  pub bit_masked : (gs fs hs : List Gate) (lit input r : Literal) → IsOf gs lit → Grows gs fs 1 → IsCircuit fs
      → IsInput fs input.var → input.var ≡ length gs + 1
      → ((s : ℕ → Bool) → lit_value s input ≡ s (length gs + 1)) → IsOf fs input → AddsGates fs hs 1
      → StandsFor hs r (λ s. lit_value s lit && lit_value s input)
      → IsMaskedPlain {T = T} gs hs lit sort.Bool (symbol.Bit r)
  bit_masked gs fs hs lit input r of grows circuit is var means input_of adds stands = record {
    of = stands.of;
    blank = λ a gives off.
        stands.value a gives ∙ and_false (lit_value a lit) (lit_value a input) off;
    chosen = λ a v gives can.
        let x = growth_extends gs fs 1 grows circuit a (λ k. can.0) gives in
        let y = growth_extends fs hs 1 adds.grows adds.circuit x.assignment x.assignment x.gives in
        let along = agree_along (length gs) (length fs) a x.assignment y.assignment
        (length-Grows gs fs 1 grows).0 x.keeps y.keeps in record {
          next = y.assignment;
          gives = y.gives;
          keeps = along;
          stands = λ on.
              let still = sym (lit_agree (length gs) a y.assignment lit of along) ∙ on in
              let put : lit_value y.assignment input ≡ can.0 =
              sym (lit_agree (length fs) x.assignment y.assignment input input_of y.keeps)
              ∙ means x.assignment ∙ ap x.assignment (sym var) ∙ sym (x.inputs input.var (omega arith) is) in
              can.1 ∙ ap value.Bool (sym (stands.value y.assignment y.gives
              ∙ and_true (lit_value y.assignment lit) (lit_value y.assignment input) still ∙ put));
        };
  }
