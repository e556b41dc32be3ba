-- Later nodes leave the values of the earlier ones, and a node's value is that of its constructors.
use Rattle.std.proofs.Common.{◌≡◌, ℕ, zero, suc, ◌+◌, ◌<◌, Bool, List, [], ◌∷◌, ◌++◌, length, Option, Some, refl, sym}
use Rattle.std.proofs.Common.{ap, ◌∙◌, subst, arith, slice_get, length-append}
use Rattle.std.proofs.lemmas.Option.{same_Some}
use Rattle.pp_prog.specs.declared.types.TypeTable.{TypeTable}
use Rattle.pp_prog.specs.declared.value.Value.{Value}
use Rattle.pp_gate.specs.declared.gate.Gate.{Gate}
use Rattle.pp_bounded_trees.specs.declared.arena.Node.{Node}
use Rattle.pp_bounded_trees.specs.Agreement.{SameBelow, among_agree}
use Rattle.pp_bounded_trees.specs.Arena.{ArenaFits, NodeFits}
use Rattle.pp_bounded_trees.proofs.Values.{value_at_left, value_at_next}
use Rattle.pp_bounded_trees.specs.Values.{value_at, value_among, values_after, values_of}
use Rattle.pp_domain.proofs.Composition.{agree_self}

-- later nodes leave the values of the earlier ones
pub values_keep : (a : ℕ → Bool) (rest : List Node) (done : List (Option Value)) (k : ℕ) → k < length done
    → value_at (values_after a done rest) k ≡ value_at done k
values_keep a [] done k lt = refl
values_keep a (x ∷ rest) done k lt =
    let more = done ++ value_among a done x.alternatives ∷ [] in
    let longer = length-append done (value_among a done x.alternatives ∷ []) in
    values_keep a rest more k (omega arith) ∙ value_at_left done (value_among a done x.alternatives ∷ []) k lt

-- the value of a node, by the values of all nodes
node_value_after : (a : ℕ → Bool) (gs : List Gate) (types : TypeTable) (nodes rest : List Node)
    (done : List (Option Value)) (j : ℕ)
    (x : Node) → slice_get rest j ≡ Some x → NodeFits gs nodes types (length done + j) x
    → value_at (values_after a done rest) (length done + j) ≡ value_among a (values_after a done rest) x.alternatives
node_value_after a gs types nodes [] done j x at fits = cc
node_value_after a gs types nodes (y ∷ rest) done zero x at fits =
    let same : y ≡ x = same_Some y x at in
    let more = done ++ value_among a done y.alternatives ∷ [] in
    let all = values_after a more rest in
    let longer = length-append done (value_among a done y.alternatives ∷ []) in
    let zeroed : length done + 0 ≡ length done = omega arith in
    let here : value_at all (length done) ≡ value_among a done y.alternatives =
    values_keep a rest more (length done) (omega arith) ∙ value_at_next done (value_among a done y.alternatives) in
    let before : SameBelow (length done + 0) done all = λ i lt.
    sym (values_keep a rest more i (omega arith) ∙ value_at_left done (value_among a done y.alternatives ∷ []) i
    (omega arith)) in
    ap (λ n. value_at all n) zeroed ∙ here ∙ ap (λ (z : Node). value_among a done z.alternatives) same
    ∙ among_agree gs a a (agree_self (length gs) a) nodes (length done + 0) done all before types x.of x.height
    x.alternatives fits.each
node_value_after a gs types nodes (y ∷ rest) done (suc j) x at fits =
    let more = done ++ value_among a done y.alternatives ∷ [] in
    let longer = length-append done (value_among a done y.alternatives ∷ []) in
    let moved : length done + suc j ≡ length more + j = omega arith in
    ap (λ n. value_at (values_after a more rest) n) moved
    ∙ node_value_after a gs types nodes rest more j x at (subst (λ n. NodeFits gs nodes types n x) moved fits)

pub node_value : (a : ℕ → Bool) (gs : List Gate) (types : TypeTable) (nodes : List Node) (k : ℕ) (x : Node)
    → ArenaFits types gs nodes → slice_get nodes k ≡ Some x
    → value_at (values_of a nodes) k ≡ value_among a (values_of a nodes) x.alternatives
node_value a gs types nodes k x fits at =
    let from_none : 0 + k ≡ k = omega arith in
    subst (λ n. value_at (values_of a nodes) n ≡ value_among a (values_of a nodes) x.alternatives) from_none
    (node_value_after a gs types nodes nodes [] k x at (subst (λ n. NodeFits gs nodes types n x) (sym from_none)
    (fits.each k x at)))
