-- The trees of nodes: with more fields, with a node more, and at a number.
use Rattle.std.proofs.Common.{◌≡◌, ◌∙◌, ℕ, zero, suc, ◌+◌, ◌<◌, ◌≤◌, List, [], ◌∷◌, ◌++◌, get_or, length, take, drop}
use Rattle.std.proofs.Common.{refl, sym, ap, subst, arith, append-nil, append_assoc, length-append, length-drop, false}
use Rattle.std.proofs.Common.{zero-add}
use Rattle.std.proofs.lemmas.List.{drop-append-le, drop_at, get_or_at, get_or_default, get_or_push, length_push}
use Rattle.std.proofs.lemmas.List.{take-append-le, take_all}
use Rattle.pp_prog.specs.declared.id.CtorId.{CtorId}
use Rattle.pp_prog.specs.declared.value.Value.{Value}
use Rattle.pp_prog.specs.declared.value.Value.TheVariants as value
use Rattle.pp_store.specs.declared.held.Held.{Held}
use Rattle.pp_store.specs.declared.held.Held.TheVariants as held
use Rattle.pp_store.specs.declared.node.Node.{Node}
use Rattle.pp_store.specs.Values.{AreBefore, AreHeld, Extends, StandsFor, values_of}
use Rattle.pp_store.specs.Nodes.{AreNodes, AreNodesAfter, IsNode, fields_at, tree_of, trees_after, trees_of}
use Rattle.pp_store.proofs.Values.{all_before_more, extends_length, extends_refl, extends_trans, extends_values}

-- ---- more fields behind those that there are

module _ (fields more : List Held) where
  fields_kept : (n : Node) → n.first + n.count ≤ length fields → fields_at (fields ++ more) n ≡ fields_at fields n
  fields_kept n inside =
      ap (λ (l : List Held). take n.count l) (drop-append-le n.first fields more (omega (arith, inside)))
      ∙ take-append-le n.count (drop n.first fields) more (omega (arith, inside, length-drop n.first fields))

  tree_kept : (trees : List Value) (n : Node) → n.first + n.count ≤ length fields
      → tree_of (fields ++ more) trees n ≡ tree_of fields trees n
  tree_kept trees n inside = ap (λ (l : List Held). value.Tree n.ctor (values_of trees l)) (fields_kept n inside)

  pub node_kept : (trees : List Value) (n : Node) → IsNode fields trees n → IsNode (fields ++ more) trees n
  node_kept trees n is =
      record {
        inside = omega (arith, is.inside, length-append fields more);
        earlier = subst (λ (l : List Held). AreHeld trees l) (sym (fields_kept n is.inside)) is.earlier;
      }

  pub trees_kept : (trees : List Value) (nodes : List Node) → AreNodesAfter fields trees nodes
      → trees_after (fields ++ more) trees nodes ≡ trees_after fields trees nodes
  trees_kept trees [] are = refl
  trees_kept trees (n ∷ ns) are =
      ap (λ (v : Value). trees_after (fields ++ more) (trees ++ v ∷ []) ns) (tree_kept trees n are.0.inside)
      ∙ trees_kept (trees ++ tree_of fields trees n ∷ []) ns are.1

  pub nodes_kept : (trees : List Value) (nodes : List Node) → AreNodesAfter fields trees nodes
      → AreNodesAfter (fields ++ more) trees nodes
  nodes_kept trees [] are = tt
  nodes_kept trees (n ∷ ns) are = (
    node_kept trees n are.0,
    subst (λ (v : Value). AreNodesAfter (fields ++ more) (trees ++ v ∷ []) ns) (sym (tree_kept trees n are.0.inside))
        (nodes_kept (trees ++ tree_of fields trees n ∷ []) ns are.1),
  )

-- ---- a node more, and a node at its number

-- the value is a constructor with fields
abbrev pub IsTree : Value → Type 0
IsTree v = (c : CtorId) × (vs : List Value) × (v ≡ value.Tree c vs)

module _ (fields : List Held) where
  pub trees_push : (trees : List Value) (nodes : List Node) (n : Node)
      → trees_after fields trees (nodes ++ n ∷ [])
      ≡ trees_after fields trees nodes ++ tree_of fields (trees_after fields trees nodes) n ∷ []
  trees_push trees [] n = refl
  trees_push trees (m ∷ ms) n = trees_push (trees ++ tree_of fields trees m ∷ []) ms n

  pub nodes_push : (trees : List Value) (nodes : List Node) (n : Node) → AreNodesAfter fields trees nodes
      → IsNode fields (trees_after fields trees nodes) n → AreNodesAfter fields trees (nodes ++ n ∷ [])
  nodes_push trees [] n are is = (is, tt)
  nodes_push trees (m ∷ ms) n are is = (are.0, nodes_push (trees ++ tree_of fields trees m ∷ []) ms n are.1 is)

  pub trees_extend : (trees : List Value) (nodes : List Node) → Extends trees (trees_after fields trees nodes)
  trees_extend trees [] = extends_refl trees
  trees_extend trees (n ∷ ns) =
      let next = trees ++ tree_of fields trees n ∷ [] in
      extends_trans trees next (trees_after fields next ns) (tree_of fields trees n ∷ [], refl) (trees_extend next ns)

  pub trees_length : (trees : List Value) (nodes : List Node)
      → length (trees_after fields trees nodes) ≡ length trees + length nodes
  trees_length trees [] = omega arith
  trees_length trees (n ∷ ns) =
      omega (
        arith,
        trees_length (trees ++ tree_of fields trees n ∷ []) ns,
        length_push trees (tree_of fields trees n),
      )

  pub number_within : (nodes : List Node) (all : List Value) (k : ℕ) → trees_of fields nodes ≡ all → k < length all
      → k < length nodes
  number_within nodes all k view lt =
      let many : length all ≡ length nodes = ap length (sym view) ∙ trees_length [] nodes ∙ zero-add (length nodes) in
      omega (arith, many, lt)

  -- the node at this number: its fields are there and earlier, and its tree stands at its number
  pub record IsAt (all : List Value) (number : ℕ) (node : Node) : Type 0 where
    pub inside : node.first + node.count ≤ length fields
    pub earlier : AreBefore number (fields_at fields node)
    pub held : AreHeld all (fields_at fields node)
    pub tree : (d : Value) → get_or all number d ≡ tree_of fields all node

  first_at : (trees more all : List Value) (node : Node) → IsNode fields trees node
      → all ≡ (trees ++ tree_of fields trees node ∷ []) ++ more → IsAt all (length trees) node
  first_at trees more all node is e =
      let extends : Extends trees all =
      (tree_of fields trees node ∷ more, e ∙ append_assoc trees (tree_of fields trees node ∷ []) more) in
      let kept = extends_values trees all extends (fields_at fields node) is.earlier in
      record {
        inside = is.inside;
        earlier = is.earlier;
        held = all_before_more (length trees) (length all) (fields_at fields node) (extends_length trees all extends)
            is.earlier;
        tree = λ d. ap (λ (l : List Value). get_or l (length trees) d) extends.1
            ∙ get_or_at trees (tree_of fields trees node) more d (length trees) refl
            ∙ ap (λ (vs : List Value). value.Tree node.ctor vs) (sym kept);
      }

  pub node_at : (trees : List Value) (nodes : List Node) (k : ℕ) (d : Node) → AreNodesAfter fields trees nodes
      → k < length nodes → IsAt (trees_after fields trees nodes) (length trees + k) (get_or nodes k d)
  node_at trees [] k d are lt = absurd (omega (arith, lt))
  node_at trees (n ∷ ns) zero d are lt =
      let rest = trees_extend (trees ++ tree_of fields trees n ∷ []) ns in
      let here : length trees ≡ length trees + 0 = omega arith in
      subst (λ (i : ℕ). IsAt (trees_after fields trees (n ∷ ns)) i n) here
      (first_at trees rest.0 (trees_after fields trees (n ∷ ns)) n are.0 rest.1)
  node_at trees (n ∷ ns) (suc k) d are lt =
      let next = trees ++ tree_of fields trees n ∷ [] in
      let there : length next + k ≡ length trees + suc k = omega (arith, length_push trees (tree_of fields trees n)) in
      subst (λ (i : ℕ). IsAt (trees_after fields next ns) i (get_or ns k d)) there
      (node_at next ns k d are.1 (omega (arith, lt)))

  -- the node that was read at a number of the store
  pub node_of : (nodes : List Node) (all : List Value) (k : ℕ) (node : Node) → AreNodes fields nodes
      → trees_of fields nodes ≡ all → k < length all → node ≡ get_or nodes k node → IsAt all k node
  node_of nodes all k node are view lt read =
      let within = number_within nodes all k view lt in
      let here : 0 + k ≡ k = omega arith in
      subst (λ (ts : List Value). IsAt ts k node) view
      (subst (λ (n : Node). IsAt (trees_of fields nodes) k n) (sym read)
      (subst (λ (i : ℕ). IsAt (trees_of fields nodes) i (get_or nodes k node)) here
      (node_at [] nodes k node are within)))

  -- what stands at a number of the store is a constructor with fields
  pub tree_at : (nodes : List Node) (all : List Value) (k : ℕ) → AreNodes fields nodes → trees_of fields nodes ≡ all
      → k < length all → IsTree (get_or all k (value.Bool false))
  tree_at nodes all k are view lt =
      let within = number_within nodes all k view lt in
      let none : Node = record { ctor = record { 0 = 0 }; first = 0; count = 0 } in
      let node = get_or nodes k none in
      let at = node_of nodes all k node are view lt (get_or_default nodes k none node within) in
      (node.ctor, values_of all (fields_at fields node), at.tree (value.Bool false))

-- ---- a new tree

-- the node of fields that were added
pub new_fields : (fields more : List Held) (n : Node) → n.first ≡ length fields → n.count ≡ length more
    → fields_at (fields ++ more) n ≡ more
new_fields fields more n first count =
    ap (λ (l : List Held). take n.count l) (drop_at fields more n.first (sym first))
    ∙ take_all n.count more (omega (arith, count))

-- a store before and after a tree is made
module _ (fields more grown : List Held) (nodes : List Node) (all : List Value) (are : AreNodes fields nodes)
    (view : trees_of fields nodes ≡ all) (are_held : AreHeld all more) (grows : grown ≡ fields ++ more)
  where
    -- fields without a node change nothing
    pub kept_nodes : (same : List Node) → same ≡ nodes → AreNodes grown same
    kept_nodes same e =
        subst (λ (ns : List Node). AreNodes grown ns) (sym e)
        (subst (λ (hs : List Held). AreNodes hs nodes) (sym grows) (nodes_kept fields more [] nodes are))

    kept_trees : trees_of grown nodes ≡ all
    kept_trees = ap (λ (hs : List Held). trees_of hs nodes) grows ∙ trees_kept fields more [] nodes are ∙ view

    pub kept_extends : (same : List Node) → same ≡ nodes → Extends all (trees_of grown same)
    kept_extends same e =
        ([], ap (λ (ns : List Node). trees_of grown ns) e ∙ kept_trees ∙ sym (append-nil all))

    module _ (n : Node) (now : List Node) (pushed : now ≡ nodes ++ n ∷ []) (first : n.first ≡ length fields)
        (count : n.count ≡ length more)
      where
        own_fields : fields_at grown n ≡ more
        own_fields = ap (λ (hs : List Held). fields_at hs n) grows ∙ new_fields fields more n first count

        pub made_trees : trees_of grown now ≡ all ++ value.Tree n.ctor (values_of all more) ∷ []
        made_trees =
            ap (λ (ns : List Node). trees_of grown ns) pushed ∙ trees_push grown [] nodes n
            ∙ ap (λ (ts : List Value). ts ++ tree_of grown ts n ∷ []) kept_trees
            ∙ ap (λ (hs : List Held). all ++ value.Tree n.ctor (values_of all hs) ∷ []) own_fields

        is_node : IsNode grown all n
        is_node =
            record {
              inside = omega (arith, first, count, length-append fields more, ap length grows);
              earlier = subst (λ (hs : List Held). AreHeld all hs) (sym own_fields) are_held;
            }

        pub made_nodes : AreNodes grown now
        made_nodes =
            subst (λ (ns : List Node). AreNodes grown ns) (sym pushed)
            (nodes_push grown [] nodes n (kept_nodes nodes refl)
            (subst (λ (ts : List Value). IsNode grown ts n) (sym kept_trees) is_node))

        pub made_extends : Extends all (trees_of grown now)
        made_extends = (value.Tree n.ctor (values_of all more) ∷ [], made_trees)

        pub made_stands : (number : ℕ) → number ≡ length nodes
            → StandsFor (trees_of grown now) (held.Tree number) (value.Tree n.ctor (values_of all more))
        made_stands number e =
            let v = value.Tree n.ctor (values_of all more) in
            let many : length all ≡ number =
            ap length (sym view) ∙ trees_length fields [] nodes ∙ zero-add (length nodes) ∙ sym e in
            record {
              held = subst (λ (ts : List Value). number < length ts) (sym made_trees)
                  (omega (arith, many, length_push all v));
              value = ap (λ (ts : List Value). get_or ts number (value.Bool false)) made_trees
                  ∙ get_or_push all v (value.Bool false) number many;
            }
