-- The values for which the nodes of an arena stand under an assignment. A node's fields are nodes before it. (own)
use Rattle.std.specs.Prelude.{ℕ, zero, suc, Bool, if◌then◌else◌, List, [], ◌∷◌, ◌++◌, map, Option, Some, None}
use Rattle.std.specs.Int.{w32}
use Rattle.pp_prog.specs.declared.id.CtorId.{CtorId}
use Rattle.pp_prog.specs.declared.value.Value.{Value}
use Rattle.pp_prog.specs.declared.value.Value.TheVariants as value
use Rattle.pp_clause.specs.Literal.{lit_value}
use Rattle.pp_wordgate.specs.Meaning.{word_of}
use Rattle.pp_domain.specs.declared.symbol.Symbol.{Symbol}
use Rattle.pp_domain.specs.declared.symbol.Symbol.TheVariants as symbol
use Rattle.pp_bounded_trees.specs.declared.arena.Alternative.{Alternative}
use Rattle.pp_bounded_trees.specs.declared.arena.BoundedTree.{BoundedTree}
use Rattle.pp_bounded_trees.specs.declared.arena.Node.{Node}

-- the value at a place, if there is one
abbrev pub value_at : List (Option Value) → ℕ → Option Value
value_at [] k = None
value_at (o ∷ os) zero = o
value_at (o ∷ os) (suc k) = value_at os k

-- all values, if each is there
abbrev pub prepended : Value → Option (List Value) → Option (List Value)
prepended v None = None
prepended v (Some vs) = Some (v ∷ vs)

abbrev pub all_values : List (Option Value) → Option (List Value)
all_values [] = Some []
all_values (None ∷ os) = None
all_values (Some v ∷ os) = prepended v (all_values os)

-- the constructor with these values of its fields
abbrev pub built : CtorId → Option (List Value) → Option Value
built c None = None
built c (Some vs) = Some (value.Tree c vs)

module _ (a : ℕ → Bool) where
  -- the value of a symbol, where the nodes before have these values
  abbrev pub symbol_value : List (Option Value) → Symbol BoundedTree → Option Value
  symbol_value done (symbol.Word w) = Some (value.Int (word_of w32 a w))
  symbol_value done (symbol.Bit l) = Some (value.Bool (lit_value a l))
  symbol_value done (symbol.Tree t) = value_at done t.number

  abbrev pub field_values : List (Option Value) → List (Symbol BoundedTree) → Option (List Value)
  field_values done fields = all_values (map (symbol_value done) fields)

  -- the constructor whose literal is true, with the values of its fields
  abbrev pub value_among : List (Option Value) → List Alternative → Option Value
  value_among done [] = None
  value_among done (x ∷ xs) =
      if lit_value a x.lit then built x.ctor (field_values done x.fields) else value_among done xs

  -- the values of the nodes, one after another, after these
  abbrev pub values_after : List (Option Value) → List Node → List (Option Value)
  values_after done [] = done
  values_after done (x ∷ xs) = values_after (done ++ value_among done x.alternatives ∷ []) xs

  abbrev pub values_of : List Node → List (Option Value)
  values_of nodes = values_after [] nodes
