-- What operators on symbols ask and answer: a symbol of the result's sort, that stands under each good assignment for
-- what the operator makes of the operands' values. Source: own.
use Rattle.std.specs.Prelude.{◌≡◌, ◌≤◌, ◌+◌, ℕ, Bool, true, false, List, [], ◌∷◌, Some, IsTrue}
use Rattle.pp_prog.specs.declared.id.DataId.{DataId}
use Rattle.pp_tree.specs.declared.operator.BinaryOp.{BinaryOp}
use Rattle.pp_tree.specs.declared.operator.UnaryOp.{UnaryOp}
use Rattle.pp_prog.specs.declared.sort.Sort.{Sort}
use Rattle.pp_prog.specs.declared.sort.Sort.TheVariants as sort
use Rattle.pp_prog.specs.declared.types.TypeTable.{TypeTable}
use Rattle.pp_prog.specs.declared.value.Value.{Value}
use Rattle.pp_prog.specs.declared.value.Value.TheVariants.{Bool as Truth}
use Rattle.pp_prog.specs.ExprSorts.{unary_sort}
use Rattle.pp_prog.specs.Sizes.{by_sort}
use Rattle.pp_prog.specs.Sorts.{has_sort}
use Rattle.pp_gate.specs.declared.gate.Gate.{Gate}
use Rattle.pp_domain.specs.declared.symbol.Symbol.{Symbol}
use Rattle.pp_domain.specs.Moves.{SameLooks}
use Rattle.pp_domain.specs.Naming.{Naming}
use Rattle.pp_domain.specs.Sense.{Sense, Good, Extended, Inexact}
use Rattle.pp_domain.specs.Symbols.{IsSymbol, SymbolStands, SymbolsStand, symbol_height}
use Rattle.pp_eval.specs.Measure.{goes_down}
use Rattle.pp_eval.specs.Operators.{unary}
use Rattle.pp_steps.specs.Meaning.{applied, value_or}
use Rattle.pp_steps.specs.Sorted.{operated_sort}

module _ {D T : Type 0} (m : Sense D T) where
  -- the operator has a sort on a symbol of this one
  pub record CanApply (op : UnaryOp) (d : D) (gs : List Gate) (x : Symbol T) : Type 0 where
    pub sort : Sort
    pub result : Sort
    pub is : IsSymbol m d gs sort x
    pub sorted : unary_sort op (Some sort) ≡ Some result

  -- the operator has a sort on symbols of these two
  pub record CanOperate (op : BinaryOp) (d : D) (gs : List Gate) (left right : Symbol T) : Type 0 where
    pub left_sort : Sort
    pub right_sort : Sort
    pub result : Sort
    pub left_is : IsSymbol m d gs left_sort left
    pub right_is : IsSymbol m d gs right_sort right
    pub sorted : operated_sort op (Some left_sort) (Some right_sort) ≡ Some result

  -- no tree was expanded; of components that are trees at most one comparison more is counted
  pub record CountsOne (d e : D) (s : Sort) : Type 0 where
    pub looks : m.looks e ≡ m.looks d
    pub compares : m.compares e ≤ by_sort 0 0 (λ of. 1) s + m.compares d

module _ {D T : Type 0} (m : Sense D T) (types : TypeTable) where
  -- a symbol of this sort, of height 0, over which each good assignment extends; in a domain that isn't exact where the
  -- operands stand for values
  pub record IsMade (d : D) (gs : List Gate) (xs : List (Symbol T)) (e : D) (hs : List Gate) (s : Sort) (r : Symbol T)
      : Type 0 where
    pub of : IsSymbol m e hs s r
    pub low : symbol_height m e r ≡ 0
    pub extends : (n : Naming) (a : ℕ → Bool) → Good m types d gs n a
        → Inexact m ((vs : List Value) × SymbolsStand m d a n xs vs) → Extended m types gs n a e hs

  -- under the assignment the symbol stands for the value, which has the sort
  pub record StandsAs (e : D) (a : ℕ → Bool) (n : Naming) (s : Sort) (r : Symbol T) (v : Value) : Type 0 where
    pub stands : SymbolStands m e a n r v
    pub sorted : IsTrue (has_sort types.ctors v s)

  -- under each good assignment the result stands for what the operator makes of the operand's value
  abbrev pub MeansUnary : UnaryOp → D → List Gate → Sort → Sort → Symbol T → Symbol T → Type 0
  MeansUnary op e hs s u x r = (n : Naming) (a : ℕ → Bool) (v : Value) → Good m types e hs n a
      → StandsAs e a n s x v → StandsAs e a n u r (value_or (Truth false) (unary op v))

  -- of the two operands' values
  abbrev pub MeansBinary : BinaryOp → D → List Gate → Sort → Sort → Sort → Symbol T → Symbol T → Symbol T → Type 0
  MeansBinary op e hs s t u left right r = (n : Naming) (a : ℕ → Bool) (v w : Value) → Good m types e hs n a
      → StandsAs e a n s left v → StandsAs e a n t right w
      → StandsAs e a n u r (value_or (Truth false) (applied op v w))

  -- the result is true exactly where the old value goes down to the new one
  abbrev pub MeansDescent : D → List Gate → Sort → Symbol T → Symbol T → Symbol T → Type 0
  MeansDescent e hs s new old r = (n : Naming) (a : ℕ → Bool) (v w : Value) → Good m types e hs n a
      → StandsAs e a n s new v → StandsAs e a n s old w → StandsAs e a n sort.Bool r (Truth (goes_down v w))

  -- what an operator with one operand answers; no tree is expanded
  abbrev pub IsUnary : UnaryOp → D → List Gate → D → List Gate → Symbol T → Symbol T → Type 0
  IsUnary op d gs e hs x r = (s u : Sort) → IsSymbol m d gs s x → unary_sort op (Some s) ≡ Some u
      → IsMade d gs (x ∷ []) e hs u r × MeansUnary op e hs s u x r × Inexact m (SameLooks m d e)

  -- and one with two
  abbrev pub IsBinary : BinaryOp → D → List Gate → D → List Gate → Symbol T → Symbol T → Symbol T → Type 0
  IsBinary op d gs e hs left right r = (s t u : Sort) → IsSymbol m d gs s left → IsSymbol m d gs t right
      → operated_sort op (Some s) (Some t) ≡ Some u
      → IsMade d gs (left ∷ right ∷ []) e hs u r × MeansBinary op e hs s t u left right r × Inexact m (SameLooks m d e)

  -- the comparison says when the component goes down: of trees in an exact domain alone
  abbrev pub IsCompared : Sort → Type 0
  IsCompared s = (of : DataId) → s ≡ sort.Tree of → m.exact ≡ true

  -- in a domain that isn't exact a good assignment goes on to one under which the result stands for whether it does
  abbrev pub ChoosesDescent : D → List Gate → D → List Gate → Sort → Symbol T → Symbol T → Symbol T → Type 0
  ChoosesDescent d gs e hs s new old r = m.exact ≡ false → (n : Naming) (a : ℕ → Bool) (v w : Value)
      → Good m types d gs n a → StandsAs d a n s new v → StandsAs d a n s old w
      → (x : Extended m types gs n a e hs) × SymbolStands m e x.next n r (Truth (goes_down v w))

  -- what a comparison of two components of measures answers
  abbrev pub IsDescent : D → List Gate → D → List Gate → Symbol T → Symbol T → Symbol T → Type 0
  IsDescent d gs e hs new old r = (s : Sort) → IsSymbol m d gs s new → IsSymbol m d gs s old
      → IsMade d gs (new ∷ old ∷ []) e hs sort.Bool r × (IsCompared s → MeansDescent e hs s new old r)
      × ChoosesDescent d gs e hs s new old r × Inexact m (CountsOne m d e s)
