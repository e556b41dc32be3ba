-- The gates that operations on symbols take, as steps with the symbols' sorts and heights count them.
use Rattle.std.proofs.Common.{◌≡◌, ℕ, ◌+◌, ◌*◌, max, min, length, sym, subst, arith, Bool, true, false, if◌then◌else◌}
use Rattle.std.proofs.Common.{List, Some, slice_get, refl, ap, ◌∙◌}
use Rattle.std.proofs.lemmas.Option.{same_Some}
use Rattle.pp_prog.proofs.PartSorts.{equality_parts}
use Rattle.pp_prog.specs.declared.id.CtorId.{CtorId}
use Rattle.pp_prog.specs.declared.sort.Sort.{Sort}
use Rattle.pp_prog.specs.declared.sort.Sort.TheVariants as sort
use Rattle.pp_prog.specs.declared.types.Ctor.{Ctor}
use Rattle.pp_prog.specs.declared.types.TypeTable.{TypeTable}
use Rattle.pp_operators.specs.declared.class.OperatorClass.{OperatorClass}
use Rattle.pp_operators.specs.declared.class.OperatorClass.TheVariants as class
use Rattle.pp_tree.specs.declared.operator.BinaryOp.{BinaryOp}
use Rattle.pp_tree.specs.declared.operator.BinaryOp.TheVariants.{Equal}
use Rattle.pp_prog.specs.Sizes.{bits, by_sort, nodes}
use Rattle.pp_gate.specs.declared.gate.Gate.{Gate}
use Rattle.pp_domain.specs.declared.symbol.Symbol.{Symbol}
use Rattle.pp_domain.specs.declared.symbol.Symbol.TheVariants as symbol
use Rattle.pp_domain.specs.Allowance.{bits_at, construct_gates, equality_gates, expand_gates_of, look_at_gates}
use Rattle.pp_domain.specs.Allowance.{nodes_at}
use Rattle.pp_domain.specs.AnySort.{choose_gates, compare_gates}
use Rattle.pp_domain.specs.Sense.{Sense}
use Rattle.pp_domain.specs.Symbols.{IsSymbol, symbol_height}
use Rattle.pp_steps.specs.Gates.{binary_gates, class_gates}
use Rattle.pp_steps.specs.Sorted.{class_operated, operated_sort}
use Rattle.pp_build.specs.StepGates.{one_look}
use Rattle.pp_operators.specs.Classes.{class_is_equality, class_of, is_equality}
use Rattle.pp_build_operators.specs.Budget.{goes_down_gates, operator_gates, symbol_sort, tree_down_gates}
use Rattle.pp_build_operators.proofs.SymbolSorts.{compare_gates_are, symbol_sort_is}

equal_sorts : (p q r : Sort) → operated_sort Equal (Some p) (Some q) ≡ Some r → p ≡ q
equal_sorts p q r e =
    let k = (equality_parts (Some p) (Some q) r e).1 in same_Some p q (k.0 ∙ sym k.1)

module _ {D T : Type 0} (m : Sense D T) (types : TypeTable) where
  pub choose_gates_are : (d : D) (gs : List Gate) (s : Sort) (x y : Symbol T) → IsSymbol m d gs s x
      → IsSymbol m d gs s y
      → choose_gates m types d x y
      ≡ by_sort 32 1 (λ of. 32 + bits_at m types of (max (symbol_height m d x) (symbol_height m d y))) s
  choose_gates_are d gs sort.Int (symbol.Word v) (symbol.Word w) is other = refl
  choose_gates_are d gs sort.Bool (symbol.Bit k) (symbol.Bit l) is other = refl
  choose_gates_are d gs (sort.Tree of) (symbol.Tree t) (symbol.Tree u) is other =
      ap (λ e. 32 + bits_at m types e (max (m.height d t) (m.height d u))) is.1
  choose_gates_are d gs sort.Int (symbol.Bit l) y is other = absurd is
  choose_gates_are d gs sort.Int (symbol.Tree t) y is other = absurd is
  choose_gates_are d gs sort.Bool (symbol.Word w) y is other = absurd is
  choose_gates_are d gs sort.Bool (symbol.Tree t) y is other = absurd is
  choose_gates_are d gs (sort.Tree of) (symbol.Word w) y is other = absurd is
  choose_gates_are d gs (sort.Tree of) (symbol.Bit l) y is other = absurd is
  choose_gates_are d gs sort.Int (symbol.Word w) (symbol.Bit l) is other = absurd other
  choose_gates_are d gs sort.Int (symbol.Word w) (symbol.Tree t) is other = absurd other
  choose_gates_are d gs sort.Bool (symbol.Bit l) (symbol.Word w) is other = absurd other
  choose_gates_are d gs sort.Bool (symbol.Bit l) (symbol.Tree t) is other = absurd other
  choose_gates_are d gs (sort.Tree of) (symbol.Tree t) (symbol.Word w) is other = absurd other
  choose_gates_are d gs (sort.Tree of) (symbol.Tree t) (symbol.Bit l) is other = absurd other

  -- a constructor takes none
  -- a look at a tree, and at one that is made
  pub look_gates_are : (d : D) (t : T) (s : Sort) → s ≡ sort.Tree (m.data_of d t)
      → look_at_gates m types d t ≡ by_sort 0 0 (one_look m types (m.looks d) (m.compares d)) s
  look_gates_are d t s is = sym (ap (by_sort 0 0 (one_look m types (m.looks d) (m.compares d))) is)

  pub construct_gates_are : (d : D) (c : CtorId) (k : Ctor) (s : Sort) → slice_get types.ctors c.0 ≡ Some k
      → s ≡ sort.Tree k.of
      → construct_gates m types d c ≡ by_sort 0 0 (one_look m types (m.looks d) (m.compares d)) s
  construct_gates_are d c k s at is =
      ap (expand_gates_of m types d) at ∙ sym (ap (by_sort 0 0 (one_look m types (m.looks d) (m.compares d))) is)

  pub operator_gates_are : (op : BinaryOp) (d : D) (gs : List Gate) (s t u : Sort) (x y : Symbol T)
      → IsSymbol m d gs s x → IsSymbol m d gs t y → operated_sort op (Some s) (Some t) ≡ Some u
      → operator_gates m types op d x y ≡ (if is_equality op
      then by_sort 64 1 (λ of. equality_gates m types of (min (symbol_height m d x) (symbol_height m d y))) s
      else binary_gates types op 0 s)
  operator_gates_are op d gs s t u x y is other sorted = by (class_of op) sorted
    where
      h : ℕ
      h = min (symbol_height m d x) (symbol_height m d y)

      compared : (s ≡ t) → compare_gates m types d x y ≡ by_sort 64 1 (λ of. equality_gates m types of h) s
      compared same =
          compare_gates_are m types d gs s x y is (subst (λ q. IsSymbol m d gs q y) (sym same) other)

      plain : (o : OperatorClass) → class_gates types o 0 (symbol_sort m types d x) ≡ class_gates types o 0 s
      plain o = ap (class_gates types o 0) (symbol_sort_is m types d gs s x is)

      by : (o : OperatorClass) → class_operated o (Some s) (Some t) ≡ Some u
          → (if class_is_equality o then compare_gates m types d x y
          else class_gates types o 0 (symbol_sort m types d x)) ≡ (if class_is_equality o
          then by_sort 64 1 (λ of. equality_gates m types of h) s else class_gates types o 0 s)
      by class.Equality sorted = compared (equal_sorts s t u sorted)
      by class.Sum sorted = plain class.Sum
      by class.Product sorted = plain class.Product
      by class.Quotient sorted = plain class.Quotient
      by class.Order sorted = plain class.Order
      by class.Logic sorted = plain class.Logic
      by class.Bitwise sorted = plain class.Bitwise
      by class.Shift sorted = plain class.Shift

  pub goes_down_gates_are : (d : D) (gs : List Gate) (s : Sort) (x y : Symbol T) → IsSymbol m d gs s x
      → IsSymbol m d gs s y
      → goes_down_gates m types d x y ≡ by_sort 1024 0 (λ of.
      if m.exact then 64 + 4 * (32 + bits_at m types of (symbol_height m d x))
      * (1 + nodes_at m types of (symbol_height m d y)) else 194 + 128 * length (m.looks d)) s
  goes_down_gates_are d gs sort.Int (symbol.Word v) (symbol.Word w) is other = refl
  goes_down_gates_are d gs sort.Bool (symbol.Bit k) (symbol.Bit l) is other = refl
  goes_down_gates_are d gs (sort.Tree of) (symbol.Tree t) (symbol.Tree u) is other =
      by m.exact refl
      ∙ ap (λ e. if m.exact then 64 + 4 * (32 + bits_at m types e (m.height d t))
      * (1 + nodes_at m types e (m.height d u)) else 194 + 128 * length (m.looks d)) is.1
    where
      most : ℕ
      most = 64 + 4 * (32 + bits_at m types (m.data_of d t) (m.height d t))
          * (1 + nodes_at m types (m.data_of d t) (m.height d u))

      -- by the kind of the domain
      whole : Bool → ℕ
      whole b = 64 + 4 * (32 + (if b then bits types (m.height d t) (sort.Tree (m.data_of d t)) else 0))
          * (1 + (if b then nodes types (m.height d u) (sort.Tree (m.data_of d t)) else 0))
          + (if b then 0 else 128 * length (m.looks d)) + (if b then 0 else 2)

      plain : (n : ℕ) → n + 0 + 0 ≡ n
      plain n = omega arith

      by : (b : Bool) → m.exact ≡ b
          → tree_down_gates m types d t u ≡ (if b then most else 194 + 128 * length (m.looks d))
      by true e =
          ap (λ (b : Bool). most + (if b then 0 else 128 * length (m.looks d)) + (if b then 0 else 2)) e ∙ plain most
      by false e = ap whole e ∙ omega arith
  goes_down_gates_are d gs sort.Int (symbol.Bit l) y is other = absurd is
  goes_down_gates_are d gs sort.Int (symbol.Tree t) y is other = absurd is
  goes_down_gates_are d gs sort.Bool (symbol.Word w) y is other = absurd is
  goes_down_gates_are d gs sort.Bool (symbol.Tree t) y is other = absurd is
  goes_down_gates_are d gs (sort.Tree of) (symbol.Word w) y is other = absurd is
  goes_down_gates_are d gs (sort.Tree of) (symbol.Bit l) y is other = absurd is
  goes_down_gates_are d gs sort.Int (symbol.Word w) (symbol.Bit l) is other = absurd other
  goes_down_gates_are d gs sort.Int (symbol.Word w) (symbol.Tree t) is other = absurd other
  goes_down_gates_are d gs sort.Bool (symbol.Bit l) (symbol.Word w) is other = absurd other
  goes_down_gates_are d gs sort.Bool (symbol.Bit l) (symbol.Tree t) is other = absurd other
  goes_down_gates_are d gs (sort.Tree of) (symbol.Tree t) (symbol.Word w) is other = absurd other
  goes_down_gates_are d gs (sort.Tree of) (symbol.Tree t) (symbol.Bit l) is other = absurd other
