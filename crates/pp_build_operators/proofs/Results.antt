-- Symbols without a tree: what they stand for has their sort, and good assignments extend over them.
use Rattle.std.proofs.Common.{◌≡◌, ℕ, List, length, All, Bool, false, refl, sym, ap, ◌∙◌}
use Rattle.std.specs.Int.{w32}
use Rattle.pp_prog.specs.declared.sort.Sort.TheVariants as sort
use Rattle.pp_prog.specs.declared.types.TypeTable.{TypeTable}
use Rattle.pp_prog.specs.declared.value.Value.{Value}
use Rattle.pp_prog.specs.declared.value.Value.TheVariants.{Int, Bool as Truth}
use Rattle.pp_prog.specs.Sorts.{has_sort}
use Rattle.pp_prog.proofs.ValueSorts.{int_has, truth_has}
use Rattle.pp_clause.specs.Literal.{Literal, lit_value}
use Rattle.pp_gate.specs.declared.gate.Gate.{Gate}
use Rattle.pp_gate.specs.Circuit.{IsOf, Gives}
use Rattle.pp_gate.specs.Growth.{AddsGates}
use Rattle.pp_wordgate.specs.Meaning.{word_of}
use Rattle.pp_domain.specs.declared.symbol.Symbol.{Symbol}
use Rattle.pp_domain.specs.declared.symbol.Symbol.TheVariants as symbol
use Rattle.pp_domain.specs.Laws.{Lawful}
use Rattle.pp_domain.specs.Naming.{Naming}
use Rattle.pp_domain.specs.Sense.{Sense}
use Rattle.pp_domain.proofs.Composition.{Extended_grown}
pub use Rattle.pp_domain.proofs.PlainSymbols.{word_is_int}
use Rattle.pp_eval.specs.Part.{Part}
use Rattle.pp_steps.specs.Meaning.{value_or}
use Rattle.pp_build_operators.specs.Operated.{IsMade, StandsAs}
use Rattle.pp_build_operators.specs.Plain.{IsNumberOf, IsTruthOf}
use Rattle.pp_build_operators.proofs.Values.{MakesNumber, MakesTruth}

module _ {D T : Type 0} (m : Sense D T) (types : TypeTable) where
  number_stands : (e : D) (a : ℕ → Bool) (n : Naming) (r : List Literal) (v : Value) → length r ≡ 32
      → v ≡ Int (word_of w32 a r) → StandsAs m types e a n sort.Int (symbol.Word r) v
  number_stands e a n r v len is = record {
    stands = is;
    sorted = ap (λ (w : Value). has_sort types.ctors w sort.Int) is
        ∙ int_has types.ctors (word_of w32 a r) (word_is_int a r len);
  }

  pub truth_stands : (e : D) (a : ℕ → Bool) (n : Naming) (r : Literal) (v : Value) → v ≡ Truth (lit_value a r)
      → StandsAs m types e a n sort.Bool (symbol.Bit r) v
  truth_stands e a n r v is = record {
    stands = is;
    sorted = ap (λ (w : Value). has_sort types.ctors w sort.Bool) is ∙ truth_has types.ctors (lit_value a r);
  }

  -- what the part comes to
  pub number_of_part : (e : D) (a : ℕ → Bool) (n : Naming) (hs : List Gate) (r : List Literal)
      (part : (ℕ → Bool) → Part Value) (q : Part Value) → IsNumberOf hs r part → Gives a hs → MakesNumber (part a)
      → q ≡ part a → StandsAs m types e a n sort.Int (symbol.Word r) (value_or (Truth false) q)
  number_of_part e a n hs r part q is gives made same =
      number_stands e a n r (value_or (Truth false) q) is.len
      (ap (λ (p : Part Value). value_or (Truth false) p) (same ∙ made.is)
      ∙ ap Int (sym (is.value a made.number gives made.is)))

  pub truth_of_part : (e : D) (a : ℕ → Bool) (n : Naming) (hs : List Gate) (r : Literal)
      (part : (ℕ → Bool) → Part Value) (q : Part Value) → IsTruthOf hs r part → Gives a hs → MakesTruth (part a)
      → q ≡ part a → StandsAs m types e a n sort.Bool (symbol.Bit r) (value_or (Truth false) q)
  truth_of_part e a n hs r part q is gives made same =
      truth_stands e a n r (value_or (Truth false) q)
      (ap (λ (p : Part Value). value_or (Truth false) p) (same ∙ made.is)
      ∙ ap Truth (sym (is.value a made.truth gives made.is)))

  pub number_made : Lawful m → (xs : List (Symbol T)) (d : D) (gs hs : List Gate) (k : ℕ) (r : List Literal)
      → m.Fits types d gs → AddsGates gs hs k → length r ≡ 32 → All (IsOf hs) r
      → IsMade m types d gs xs d hs sort.Int (symbol.Word r)
  number_made law xs d gs hs k r fits adds len of = record {
    of = (len, of);
    low = refl;
    extends = λ n a good any. Extended_grown m types law d gs hs k n a a fits adds.grows adds.circuit good;
  }

  pub truth_made : Lawful m → (xs : List (Symbol T)) (d : D) (gs hs : List Gate) (k : ℕ) (r : Literal)
      → m.Fits types d gs → AddsGates gs hs k → IsOf hs r → IsMade m types d gs xs d hs sort.Bool (symbol.Bit r)
  truth_made law xs d gs hs k r fits adds of = record {
    of = of;
    low = refl;
    extends = λ n a good any. Extended_grown m types law d gs hs k n a a fits adds.grows adds.circuit good;
  }
