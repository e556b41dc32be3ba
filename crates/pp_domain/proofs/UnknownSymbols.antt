-- New symbols of which nothing is known but their height.
use Rattle.std.proofs.Common.{◌≡◌, ℕ, Bool, true, List, length, refl, sym, ◌∙◌, subst}
use Rattle.std.proofs.lemmas.Bool.{false≢true}
use Rattle.pp_prog.specs.declared.id.DataId.{DataId}
use Rattle.pp_prog.specs.declared.sort.Sort.{Sort}
use Rattle.pp_prog.specs.declared.sort.Sort.TheVariants as sort
use Rattle.pp_prog.specs.declared.types.TypeTable.{TypeTable}
use Rattle.pp_prog.specs.declared.value.Value.{Value}
use Rattle.pp_prog.specs.Cone.{is_word}
use Rattle.pp_prog.specs.Sizes.{height_at}
use Rattle.pp_prog.specs.Sorts.{has_sort}
use Rattle.pp_gate.specs.declared.gate.Gate.{Gate}
use Rattle.pp_gate.specs.Circuit.{Gives, IsCircuit}
use Rattle.pp_gate.specs.Growth.{Grows}
use Rattle.pp_gate.specs.Laws.{AgreeUpTo}
use Rattle.pp_gate.proofs.Agreement.{lit_agree}
use Rattle.pp_domain.specs.declared.symbol.Symbol.{Symbol}
use Rattle.pp_domain.specs.declared.symbol.Symbol.TheVariants as symbol
use Rattle.pp_domain.specs.AnySort.{IsUnknownSymbol, SymbolStandsUpTo, fresh_gates}
use Rattle.pp_domain.specs.Answers.{IsUnknown}
use Rattle.pp_domain.specs.Laws.{Lawful}
use Rattle.pp_domain.specs.Moves.{Moves, SameLooks}
use Rattle.pp_domain.specs.Naming.{Naming}
use Rattle.pp_domain.specs.Plain.{IsPlain, IsUnknownPlain, PlainStands, plain_gates}
use Rattle.pp_domain.specs.Sense.{Extended, Good, Sense}
use Rattle.pp_domain.specs.Symbols.{IsSymbol, SymbolStands, symbol_height}
use Rattle.pp_domain.proofs.PlainSymbols.{plain_value, value_is_plain}
use Rattle.pp_domain.proofs.Composition.{Extended_grown, Extended_steady, Moves_grown, exactly}

-- a number or a truth value is a symbol of each domain
module _ {D T : Type 0} (m : Sense D T) where
  pub plain_symbol : (d : D) (gs : List Gate) (s : Sort) (x : Symbol T) → IsPlain gs s x → IsSymbol m d gs s x
  plain_symbol d gs sort.Int (symbol.Word w) is = is
  plain_symbol d gs sort.Bool (symbol.Bit l) is = is
  plain_symbol d gs sort.Int (symbol.Bit l) is = absurd is
  plain_symbol d gs sort.Int (symbol.Tree t) is = absurd is
  plain_symbol d gs sort.Bool (symbol.Word w) is = absurd is
  plain_symbol d gs sort.Bool (symbol.Tree t) is = absurd is
  plain_symbol d gs (sort.Tree of) x is = absurd is

  pub plain_height : (d : D) (gs : List Gate) (h : ℕ) (s : Sort) (x : Symbol T) → IsPlain gs s x
      → symbol_height m d x ≡ height_at h s
  plain_height d gs h sort.Int (symbol.Word w) is = refl
  plain_height d gs h sort.Bool (symbol.Bit l) is = refl
  plain_height d gs h sort.Int (symbol.Bit l) is = absurd is
  plain_height d gs h sort.Int (symbol.Tree t) is = absurd is
  plain_height d gs h sort.Bool (symbol.Word w) is = absurd is
  plain_height d gs h sort.Bool (symbol.Tree t) is = absurd is
  plain_height d gs h (sort.Tree of) x is = absurd is

  plain_stands : (d : D) (a : ℕ → Bool) (n : Naming) (x : Symbol T) (v : Value) → PlainStands a x v
      → SymbolStands m d a n x v
  plain_stands d a n (symbol.Word w) v is = is
  plain_stands d a n (symbol.Bit l) v is = is
  plain_stands d a n (symbol.Tree t) v is = absurd is

module _ {D T : Type 0} (m : Sense D T) (types : TypeTable) where
  plain_bounded : (d : D) (gs : List Gate) (a : ℕ → Bool) (n : Naming) (h : ℕ) (s : Sort) (x : Symbol T)
      → IsPlain gs s x → SymbolStandsUpTo m types d a n s h x
  plain_bounded d gs a n h s x is =
      let v = plain_value types gs a h s x is in
      record { value = v.value; stands = plain_stands m d a n x v.value v.stands; is = v.is }

  plain_gates_are : (h : ℕ) (s : Sort) → is_word s ≡ true → plain_gates s ≡ fresh_gates m types s h
  plain_gates_are h sort.Int plain = refl
  plain_gates_are h sort.Bool plain = refl
  plain_gates_are h (sort.Tree of) plain = absurd (cc)

module _ {D T : Type 0} (m : Sense D T) (types : TypeTable) (law : Lawful m) (d : D) (gs hs : List Gate)
    (fits : m.Fits types d gs) where
  -- an assignment that goes on over inputs is good
  good_on : (n : Naming) (a b : ℕ → Bool) → Good m types d gs n a → AgreeUpTo (length gs) a b → Gives b hs
      → Good m types d hs n b
  good_on n a b good agree gives = record {
    gates = gives;
    ok = sym (lit_agree (length gs) a b (m.ok d) (law.ok_of types d gs fits) agree) ∙ good.ok;
    matches = law.matches types d gs n a b fits agree good.matches;
    admitted = good.admitted;
  }

  pub plain_moves : (h : ℕ) (s : Sort) → is_word s ≡ true → Grows gs hs (plain_gates s) → IsCircuit hs
      → Moves m types d gs d hs (fresh_gates m types s h)
  plain_moves h s plain grows circuit =
      subst (λ k. Moves m types d gs d hs k) (plain_gates_are m types h s plain)
      (Moves_grown m types law d gs hs (plain_gates s) fits grows circuit)

  pub plain_unknown : (h : ℕ) (s : Sort) (x : Symbol T) → is_word s ≡ true → Grows gs hs (plain_gates s) → IsCircuit hs
      → IsUnknownPlain gs hs s x → IsUnknownSymbol m types d gs d hs s h x
  plain_unknown h s x plain grows circuit unknown = record {
    of = plain_symbol m d hs s x unknown.of;
    height = plain_height m d hs h s x unknown.of;
    looks = record { looks = refl; compares = refl };
    bounded = λ exact some n a good. plain_bounded m types d hs a n h s x unknown.of;
    chosen = λ exact n a v good is. picked n a v good is.sorted;
    named = λ inexact n a v good sorted names. picked n a v good sorted;
    extends = λ exact none n a good.
        Extended_grown m types law d gs hs (plain_gates s) n a a fits grows circuit good;
  }
    where
      picked : (n : Naming) (a : ℕ → Bool) (v : Value) → Good m types d gs n a → has_sort types.ctors v s ≡ true
          → (y : Extended m types gs n a d hs) × SymbolStands m d y.next n x v
      picked n a v good sorted =
          let c = unknown.chosen a v good.gates (value_is_plain types s v plain sorted) in (
            record { next = c.next; agree = c.keeps; good = good_on n a c.next good c.keeps c.gives },
            plain_stands m d c.next n x v c.stands,
          )

  pub tree_unknown : (e : D) (k h : ℕ) (of : DataId) (t : T) → Moves m types d gs e hs k → SameLooks m d e
      → IsUnknown m types d gs e hs t of h → IsUnknownSymbol m types d gs e hs (sort.Tree of) h (symbol.Tree t)
  tree_unknown e k h of t moves looks unknown = record {
    of = (unknown.node, unknown.data_of);
    height = unknown.height;
    looks = looks;
    bounded = λ exact some n a good.
        let v = unknown.bounded exact some n a good in record {
          value = v.value;
          stands = v.stands;
          is = record { sorted = v.sort; low = v.most };
        };
    chosen = λ exact n a v good is. unknown.chosen n a v good is.sorted (λ _. is.low) (exactly m _ exact);
    named = λ inexact n a v good sorted names.
        unknown.chosen n a v good sorted (λ is. absurd (false≢true (sym inexact ∙ is))) (λ _. names of sorted);
    extends = λ exact none n a good.
        Extended_steady m types law exact d e gs hs k n a fits moves (unknown.nothing exact none).steady good;
  }
