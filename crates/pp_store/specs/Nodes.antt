-- Which trees the nodes of a store stand for: each has fields that are numbers, truth values, or trees of earlier
-- nodes. Source: own.
use Rattle.std.specs.Prelude.{◌+◌, ◌≤◌, List, [], ◌∷◌, ◌++◌, take, drop, length}
use Rattle.pp_prog.specs.declared.value.Value.{Value}
use Rattle.pp_prog.specs.declared.value.Value.TheVariants as value
use Rattle.pp_store.specs.declared.held.Held.{Held}
use Rattle.pp_store.specs.declared.node.Node.{Node}
use Rattle.pp_store.specs.Values.{AreHeld, values_of}

-- the fields of the node
abbrev pub fields_at : List Held → Node → List Held
fields_at fields node = take node.count (drop node.first fields)

-- the tree of the node, where these are the trees of the earlier ones
abbrev pub tree_of : List Held → List Value → Node → Value
tree_of fields trees node = value.Tree node.ctor (values_of trees (fields_at fields node))

-- its fields are there, and their trees are earlier ones
pub record IsNode (fields : List Held) (trees : List Value) (node : Node) : Type 0 where
  pub inside : node.first + node.count ≤ length fields
  pub earlier : AreHeld trees (fields_at fields node)

-- the trees of the earlier nodes, and of these
abbrev pub trees_after : List Held → List Value → List Node → List Value
trees_after fields trees [] = trees
trees_after fields trees (node ∷ nodes) = trees_after fields (trees ++ tree_of fields trees node ∷ []) nodes

-- each has fields that are there and are earlier
abbrev pub AreNodesAfter : List Held → List Value → List Node → Type 0
AreNodesAfter fields trees [] = Unit {0}
AreNodesAfter fields trees (node ∷ nodes) =
    IsNode fields trees node × AreNodesAfter fields (trees ++ tree_of fields trees node ∷ []) nodes

-- the trees of the nodes, from the front
abbrev pub trees_of : List Held → List Node → List Value
trees_of fields nodes = trees_after fields [] nodes

abbrev pub AreNodes : List Held → List Node → Type 0
AreNodes fields nodes = AreNodesAfter fields [] nodes
