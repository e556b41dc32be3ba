-- Steps that meet no datatype leave the domain as it was; and steps that always meet one aren't among them.
use Rattle.std.proofs.Common.{◌≡◌, ℕ, List, length, Some, slice_get, sym, ap, ◌∙◌, subst, arith}
use Rattle.std.specs.Prelude.{IsTrue}
use Rattle.std.proofs.lemmas.Bool.{false≢true}
use Rattle.pp_tree.specs.declared.operator.BinaryOp.{BinaryOp}
use Rattle.pp_prog.specs.declared.id.CtorId.{CtorId}
use Rattle.pp_prog.specs.declared.id.DataId.{DataId}
use Rattle.pp_prog.specs.declared.sort.Sort.{Sort}
use Rattle.pp_prog.specs.declared.sort.Sort.TheVariants as sort
use Rattle.pp_prog.specs.declared.types.TypeTable.{TypeTable}
use Rattle.pp_prog.specs.Cone.{is_word}
use Rattle.pp_gate.specs.declared.gate.Gate.{Gate}
use Rattle.pp_domain.specs.declared.symbol.Symbol.{Symbol}
use Rattle.pp_domain.specs.declared.symbol.Symbol.TheVariants as symbol
use Rattle.pp_domain.specs.Sense.{Sense}
use Rattle.pp_domain.specs.Symbols.{IsSymbol, IsWordSymbol}
use Rattle.pp_steps.specs.declared.step.OpenCall.{OpenCall}
use Rattle.pp_steps.specs.declared.step.Step.TheVariants as steps
use Rattle.pp_build.specs.Words.{KeepsDomain}

-- a word's sort is no datatype
word_no_tree : (s : Sort) (of : DataId) → IsTrue (is_word s) → s ≡ sort.Tree of → ⊥
word_no_tree s of word is = false≢true (sym (ap is_word is) ∙ word)

-- a symbol of a word's sort is no tree
word_symbol : {D T : Type 0} (m : Sense D T) (d : D) (gs : List Gate) (s : Sort) (x : Symbol T) → IsTrue (is_word s)
    → IsSymbol m d gs s x → IsWordSymbol x
word_symbol m d gs s (symbol.Word w) word is = tt
word_symbol m d gs s (symbol.Bit l) word is = tt
word_symbol m d gs sort.Int (symbol.Tree t) word is = absurd is
word_symbol m d gs sort.Bool (symbol.Tree t) word is = absurd is
word_symbol m d gs (sort.Tree of) (symbol.Tree t) word is = absurd (false≢true word)

module _ {D T : Type 0} (m : Sense D T) (types : TypeTable) (d : D) (gs : List Gate) (rs : List (Symbol T)) (e : D)
  where
    -- ---- a step of which nothing is known

    pub open_keeps_domain : (s : Sort) → (IsTrue (is_word s) → e ≡ d) → KeepsDomain m types d gs rs (steps.Open s) e
    open_keeps_domain s kept can words =
        kept (subst (λ q. IsTrue (is_word q)) can.sorted.0 (words (length rs) (omega arith)))

    pub answer_keeps_domain : (c : OpenCall) → (IsTrue (is_word c.result) → e ≡ d)
        → KeepsDomain m types d gs rs (steps.Answer c) e
    answer_keeps_domain c kept can words =
        kept (subst (λ q. IsTrue (is_word q)) can.sorted.1 (words (length rs) (omega arith)))

    -- ---- steps on values of any sort

    pub choice_keeps_domain : (c i j : ℕ) (x : Symbol T) → slice_get rs i ≡ Some x → (IsWordSymbol x → e ≡ d)
        → KeepsDomain m types d gs rs (steps.Choose c i j) e
    choice_keeps_domain c i j x left kept can words =
        let lt = can.reads.1 in
        kept (word_symbol m d gs (can.sorts i) x (words i (omega arith)) (can.registers.of i x left))

    pub binary_keeps_domain : (op : BinaryOp) (i j : ℕ) (x : Symbol T) → slice_get rs i ≡ Some x
        → (IsWordSymbol x → e ≡ d) → KeepsDomain m types d gs rs (steps.Binary op i j) e
    binary_keeps_domain op i j x left kept can words =
        let lt = can.reads.0 in
        kept (word_symbol m d gs (can.sorts i) x (words i (omega arith)) (can.registers.of i x left))

    pub descent_keeps_domain : (i j : ℕ) (x : Symbol T) → slice_get rs i ≡ Some x → (IsWordSymbol x → e ≡ d)
        → KeepsDomain m types d gs rs (steps.GoesDown i j) e
    descent_keeps_domain i j x new kept can words =
        let lt = can.reads.0 in
        kept (word_symbol m d gs (can.sorts i) x (words i (omega arith)) (can.registers.of i x new))

    -- ---- steps on trees

    pub construct_is_no_word : (c : CtorId) (fields : List ℕ) → KeepsDomain m types d gs rs (steps.Construct c fields) e
    construct_is_no_word c fields can words =
        let made = can.sorted in
        absurd (word_no_tree (can.sorts (length rs)) made.ctor.of (words (length rs) (omega arith)) made.result)

    pub test_meets_a_tree : (c : CtorId) (n i : ℕ) → KeepsDomain m types d gs rs (steps.IsCtor c n i) e
    test_meets_a_tree c n i can words =
        let lt = can.reads in
        let tested = can.sorted.0 in
        absurd (word_no_tree (can.sorts i) tested.ctor.of (words i (omega arith)) tested.operand)

    pub ctor_field_meets_a_tree : (c : CtorId) (place i : ℕ) → KeepsDomain m types d gs rs (steps.CtorField c place i) e
    ctor_field_meets_a_tree c place i can words =
        let lt = can.reads in
        let read = can.sorted in
        absurd (word_no_tree (can.sorts i) read.ctor.of (words i (omega arith)) read.operand)

    pub only_field_meets_a_tree : (i place : ℕ) → KeepsDomain m types d gs rs (steps.Field i place) e
    only_field_meets_a_tree i place can words =
        let lt = can.reads in
        let read = can.sorted in
        absurd (word_no_tree (can.sorts i) read.datatype (words i (omega arith)) read.operand)
