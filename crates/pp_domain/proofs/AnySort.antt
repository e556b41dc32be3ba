-- Words and literals that are chosen, compared and made, as operations on symbols.
use Rattle.std.proofs.Common.{◌≡◌, ℕ, List, Bool, true, false, not, if◌then◌else◌, refl, sym, ap, ◌∙◌, subst}
use Rattle.std.specs.Prelude.{◌↔◌, ℤ}
use Rattle.std.specs.Int.{w32}
use Rattle.pp_prog.specs.declared.sort.Sort.{Sort}
use Rattle.pp_prog.specs.declared.sort.Sort.TheVariants as sort
use Rattle.pp_prog.specs.declared.types.TypeTable.{TypeTable}
use Rattle.pp_prog.specs.declared.value.Value.{Value}
use Rattle.pp_prog.specs.declared.value.Value.TheVariants as value
use Rattle.pp_prog.specs.declared.value.Value.TheVariants.{outs-Int, outs-Bool}
use Rattle.pp_prog.specs.declared.value.Value.TheViews.{out-Value}
use Rattle.pp_clause.specs.Literal.{Literal, lit_value, opposite}
use Rattle.pp_gate.specs.declared.gate.Gate.{Gate}
use Rattle.pp_gate.specs.Circuit.{IsOf, Gives, StandsFor}
use Rattle.pp_gate.specs.Gate.{xor_of}
use Rattle.pp_gate.specs.Growth.{AddsGates}
use Rattle.pp_bits.proofs.Growing.{IsOf_opposite}
use Rattle.pp_bits.proofs.Numbers.{lit_value_negated}
use Rattle.pp_wordgate.specs.Meaning.{word_of, StandsForWord}
use Rattle.pp_domain.specs.declared.symbol.Symbol.TheVariants as symbol
use Rattle.pp_domain.specs.Naming.{Naming}
use Rattle.pp_domain.specs.Sense.{Sense}
use Rattle.pp_domain.specs.Symbols.{IsSymbol, SymbolStands}
use Rattle.pp_domain.specs.Moves.{Moves, Steady, SameLooks}
use Rattle.pp_domain.specs.Laws.{Lawful}
use Rattle.pp_domain.specs.Answers.{IsEquality, IsMerge}
use Rattle.pp_domain.specs.AnySort.{IsChoice, IsSame}
use Rattle.pp_domain.proofs.Composition.{Moves_grown, Extended_grown}

-- equal values have equal contents
pub int_same : (x y : ℤ) → value.Int x ≡ value.Int y → x ≡ y
int_same x y e = let o = sym (outs-Int x) ∙ ap out-Value e ∙ outs-Int y in cc

pub bool_same : (x y : Bool) → value.Bool x ≡ value.Bool y → x ≡ y
bool_same x y e = let o = sym (outs-Bool x) ∙ ap out-Value e ∙ outs-Bool y in cc

module _ {D T : Type 0} (m : Sense D T) (types : TypeTable) (law : Lawful m) where
  -- gates that aren't inputs
  pub Moves_gates : (d : D) (gs hs : List Gate) (k : ℕ) → m.Fits types d gs → AddsGates gs hs k
      → Moves m types d gs d hs k
  Moves_gates d gs hs k fits adds = Moves_grown m types law d gs hs k fits adds.grows adds.circuit

  pub Steady_gates : (d : D) (gs hs : List Gate) (k : ℕ) → AddsGates gs hs k → Steady m d gs d hs
  Steady_gates d gs hs k adds = record { ok = refl; inputs = adds.inputs }

  pub SameLooks_none : (d : D) → SameLooks m d d
  SameLooks_none d = record { looks = refl; compares = refl }

  pub words_chosen : (d : D) (gs hs : List Gate) (k : ℕ) (choice : Literal) (a b r : List Literal) → m.Fits types d gs
      → AddsGates gs hs k
      → StandsForWord w32 hs r (λ s. if lit_value s choice then word_of w32 s a else word_of w32 s b)
      → IsChoice m types d gs d hs choice (symbol.Word a) (symbol.Word b) (symbol.Word r)
  words_chosen d gs hs k choice a b r fits adds stands = record {
    of = λ t is. sort_is t is;
    height = refl;
    means = λ n s v good is. value_is n s v good.gates (lit_value s choice) refl is;
    extends = λ n s good any. Extended_grown m types law d gs hs k n s s fits adds.grows adds.circuit good;
  }
    where
      sort_is : (t : Sort) → IsSymbol m d gs t (symbol.Word a) → IsSymbol m d hs t (symbol.Word r)
      sort_is sort.Int is = (stands.len, stands.of)
      sort_is sort.Bool is = absurd is
      sort_is (sort.Tree of) is = absurd is

      value_is : (n : Naming) (s : ℕ → Bool) (v : Value) → Gives s hs → (c : Bool) → lit_value s choice ≡ c
          → SymbolStands m d s n (if c then symbol.Word a else symbol.Word b) v → v ≡ value.Int (word_of w32 s r)
      value_is n s v gives true e is =
          is ∙ ap value.Int (sym (stands.value s gives ∙ ap (λ (x : Bool). if x then word_of w32 s a else word_of w32
          s b) e))
      value_is n s v gives false e is =
          is ∙ ap value.Int (sym (stands.value s gives ∙ ap (λ (x : Bool). if x then word_of w32 s a else word_of w32
          s b) e))

  pub bits_chosen : (d : D) (gs hs : List Gate) (k : ℕ) (choice a b r : Literal) → m.Fits types d gs → AddsGates gs hs k
      → StandsFor hs r (λ s. if lit_value s choice then lit_value s a else lit_value s b)
      → IsChoice m types d gs d hs choice (symbol.Bit a) (symbol.Bit b) (symbol.Bit r)
  bits_chosen d gs hs k choice a b r fits adds stands = record {
    of = λ t is. sort_is t is;
    height = refl;
    means = λ n s v good is. value_is n s v good.gates (lit_value s choice) refl is;
    extends = λ n s good any. Extended_grown m types law d gs hs k n s s fits adds.grows adds.circuit good;
  }
    where
      sort_is : (t : Sort) → IsSymbol m d gs t (symbol.Bit a) → IsSymbol m d hs t (symbol.Bit r)
      sort_is sort.Int is = absurd is
      sort_is sort.Bool is = stands.of
      sort_is (sort.Tree of) is = absurd is

      value_is : (n : Naming) (s : ℕ → Bool) (v : Value) → Gives s hs → (c : Bool) → lit_value s choice ≡ c
          → SymbolStands m d s n (if c then symbol.Bit a else symbol.Bit b) v → v ≡ value.Bool (lit_value s r)
      value_is n s v gives true e is =
          is ∙ ap value.Bool (sym (stands.value s gives ∙ ap (λ (x : Bool). if x then lit_value s a else lit_value s
          b) e))
      value_is n s v gives false e is =
          is ∙ ap value.Bool (sym (stands.value s gives ∙ ap (λ (x : Bool). if x then lit_value s a else lit_value s
          b) e))

  pub words_same : (d : D) (gs hs : List Gate) (k : ℕ) (a b : List Literal) (l : Literal) → m.Fits types d gs
      → AddsGates gs hs k → IsOf hs l
      → ((s : ℕ → Bool) → Gives s hs → (lit_value s l ≡ true) ↔ (word_of w32 s a ≡ word_of w32 s b))
      → IsSame m types d gs d hs (symbol.Word a) (symbol.Word b) l
  words_same d gs hs k a b l fits adds of means = record {
    of = of;
    means = λ n s v w good one other.
        let both = means s good.gates in (
          λ is. one ∙ ap value.Int (both.0 is) ∙ sym other,
          λ e. both.1 (int_same (word_of w32 s a) (word_of w32 s b) (sym one ∙ e ∙ other)),
        );
    extends = λ n s good any. Extended_grown m types law d gs hs k n s s fits adds.grows adds.circuit good;
  }

  differ_not : (x y : Bool) → (not (xor_of x y) ≡ true) ↔ (x ≡ y)
  differ_not true true = (λ e. refl, λ e. refl)
  differ_not true false = (λ e. cc, λ e. cc)
  differ_not false true = (λ e. cc, λ e. cc)
  differ_not false false = (λ e. refl, λ e. refl)

  pub bits_same : (d : D) (gs hs : List Gate) (k : ℕ) (a b r l : Literal) → m.Fits types d gs → AddsGates gs hs k
      → StandsFor hs r (λ s. xor_of (lit_value s a) (lit_value s b)) → l ≡ opposite r
      → IsSame m types d gs d hs (symbol.Bit a) (symbol.Bit b) l
  bits_same d gs hs k a b r l fits adds stands is = record {
    of = subst (IsOf hs) (sym is) (IsOf_opposite hs r stands.of);
    means = λ n s v w good one other.
        let turned : lit_value s l ≡ not (xor_of (lit_value s a) (lit_value s b)) =
        lit_value_negated s l r is ∙ ap not (stands.value s good.gates) in
        let both = differ_not (lit_value s a) (lit_value s b) in (
          λ h. one ∙ ap value.Bool (both.0 (sym turned ∙ h)) ∙ sym other,
          λ e. turned ∙ both.1 (bool_same (lit_value s a) (lit_value s b) (sym one ∙ e ∙ other)),
        );
    extends = λ n s good any. Extended_grown m types law d gs hs k n s s fits adds.grows adds.circuit good;
  }

  pub trees_chosen : (d e : D) (gs hs : List Gate) (choice : Literal) (t u r : T)
      → IsMerge m types d gs e hs choice t u r
      → IsChoice m types d gs e hs choice (symbol.Tree t) (symbol.Tree u) (symbol.Tree r)
  trees_chosen d e gs hs choice t u r merge = record {
    of = λ s is. sort_is s is;
    height = merge.height;
    means = λ n a v good is. merge.means n a v good (picked n a v (lit_value a choice) is);
    extends = merge.extends;
  }
    where
      sort_is : (s : Sort) → IsSymbol m d gs s (symbol.Tree t) → IsSymbol m e hs s (symbol.Tree r)
      sort_is sort.Int is = absurd is
      sort_is sort.Bool is = absurd is
      sort_is (sort.Tree of) is = (merge.node, merge.data_of ∙ is.1)

      picked : (n : Naming) (a : ℕ → Bool) (v : Value) (c : Bool)
          → SymbolStands m e a n (if c then symbol.Tree t else symbol.Tree u) v → m.Stands e a n (if c then t else u) v
      picked n a v true is = is
      picked n a v false is = is

  pub trees_same : (d e : D) (gs hs : List Gate) (t u : T) (l : Literal) → IsEquality m types d gs e hs t u l
      → IsSame m types d gs e hs (symbol.Tree t) (symbol.Tree u) l
  trees_same d e gs hs t u l equality = record { of = equality.of; means = equality.means; extends = equality.extends }
