-- One constructor more.
use Rattle.std.proofs.Common.{◌≡◌, ℕ, zero, suc, ◌+◌, ◌≤◌, List, [], ◌∷◌, ◌++◌, length, take, Some, sym, ap, ◌∙◌}
use Rattle.std.proofs.Common.{subst}
use Rattle.std.proofs.Common.{arith, slice_get, inl, inr, length-append}
use Rattle.pp_prog.specs.declared.types.Ctor.{Ctor}
use Rattle.pp_clause.specs.Literal.{Literal}
use Rattle.pp_gate.specs.declared.gate.Gate.{Gate}
use Rattle.pp_gate.specs.Circuit.{IsCircuit, IsOf}
use Rattle.pp_gate.specs.Growth.{Grows}
use Rattle.pp_gate.proofs.Growing.{length-Grows}
use Rattle.pp_gate.proofs.Places.{at_push}
use Rattle.pp_bounded_trees.proofs.Candidates.{take_next}
use Rattle.pp_named_trees.specs.declared.arena.Alternative.{Alternative}
use Rattle.pp_named_contents.specs.Contents.{AreGuarded, parts_gates}
use Rattle.pp_named_contents.proofs.Alternatives.{contents_push}
use Rattle.pp_named_contents.specs.FreshContents.{AreOf, ctor_from, fields_at, fields_gates, sorts_from}

gates_push : (ks : List Ctor) (k : Ctor) → fields_gates (ks ++ k ∷ []) ≡ fields_gates ks + parts_gates k.fields
gates_push [] k = omega arith
gates_push (r ∷ ks) k = let e = gates_push ks k in omega arith

gates_within : (ks : List Ctor) (i : ℕ) → fields_gates (take i ks) ≤ fields_gates ks
gates_within [] zero = omega arith
gates_within [] (suc i) = omega arith
gates_within (k ∷ ks) zero = omega arith
gates_within (k ∷ ks) (suc i) = let e = gates_within ks i in omega arith

pub gates_turn : (ks : List Ctor) (i : ℕ) (k : Ctor) → slice_get ks i ≡ Some k
    → fields_gates (take i ks) + parts_gates k.fields ≤ fields_gates (take (i + 1) ks)
gates_turn ks i k at = let e = ap fields_gates (take_next ks i k at) ∙ gates_push (take i ks) k in omega arith

pub gates_next : (ks : List Ctor) (i : ℕ) (k : Ctor) → slice_get ks i ≡ Some k
    → fields_gates (take i ks) + parts_gates k.fields ≤ fields_gates ks
gates_next ks i k at = let e = gates_turn ks i k at in let w = gates_within ks (i + 1) in omega arith

pub are_push : (gs fs hs : List Gate) (m n top first : ℕ) (ctors : List Ctor) (lits : List Literal) (i : ℕ)
    (xs ys : List Alternative) (x : Alternative) (k : Ctor) → Grows gs fs m → IsCircuit fs → Grows fs hs n
    → IsCircuit hs → AreOf gs fs top first ctors lits i xs → slice_get lits i ≡ Some x.lit → IsOf gs x.lit
    → x.ctor ≡ ctor_from first i
    → slice_get ctors i ≡ Some k → AreGuarded fs hs top x.lit k.fields x.fields → ys ≡ xs ++ x ∷ []
    → AreOf gs hs top first ctors lits (i + 1) ys
are_push gs fs hs m n top first ctors lits i xs ys x k grows is more circuit all at of ctor here fields push = record {
  many = ap length push ∙ length-append xs (x ∷ []) ∙ ap (λ j. j + 1) all.many;
  lits_are = λ j y to. elim (at_push xs x j y (ap (λ l. slice_get l j) (sym push) ∙ to)) [
    | inl old ↦ all.lits_are j y old
    | inr new ↦ ap (slice_get lits) (new.0 ∙ all.many) ∙ at ∙ ap (λ (z : Alternative). Some z.lit) new.1
  ];
  contents = contents_push gs fs hs m n top (ctor_from first) (sorts_from ctors) xs ys x grows is more circuit
      all.contents
      of (ctor ∙ ap (ctor_from first) (sym all.many))
      (subst (λ ss. AreGuarded fs hs top x.lit ss x.fields)
      (sym (ap (sorts_from ctors) all.many ∙ ap fields_at here)) fields) push;
}

-- as the loop reads the table
pub turn_room : (gs fs : List Gate) (ks : List Ctor) (i : ℕ) (k : Ctor) (ss : List _) (most : ℕ)
    → Grows gs fs (fields_gates (take i ks)) → slice_get ks i ≡ Some k → ss ≡ k.fields
    → length gs + fields_gates ks ≤ most → length fs + parts_gates ss ≤ most
turn_room gs fs ks i k ss most grows at same room =
    let e = gates_next ks i k at in
    let s = ap parts_gates same in
    let g = (length-Grows gs fs (fields_gates (take i ks)) grows).1 in omega arith

pub turn_most : (ks : List Ctor) (i : ℕ) (k : Ctor) (ss : List _) → slice_get ks i ≡ Some k → ss ≡ k.fields
    → fields_gates (take i ks) + parts_gates ss ≤ fields_gates ks
turn_most ks i k ss at same = let e = gates_next ks i k at in let s = ap parts_gates same in omega arith

pub turn_next : (ks : List Ctor) (i : ℕ) (k : Ctor) (ss : List _) → slice_get ks i ≡ Some k → ss ≡ k.fields
    → fields_gates (take i ks) + parts_gates ss ≤ fields_gates (take (i + 1) ks)
turn_next ks i k ss at same = let e = gates_turn ks i k at in let s = ap parts_gates same in omega arith

pub are_turn : (gs fs hs : List Gate) (m n top first : ℕ) (ctors : List Ctor) (lits : List Literal) (i : ℕ)
    (xs ys : List Alternative) (x : Alternative) (k : Ctor) (ss : List _) → Grows gs fs m → IsCircuit fs → Grows fs hs n
    → IsCircuit hs → AreOf gs fs top first ctors lits i xs → slice_get lits i ≡ Some x.lit → IsOf gs x.lit
    → x.ctor ≡ ctor_from first i → slice_get ctors i ≡ Some k → ss ≡ k.fields → AreGuarded fs hs top x.lit ss x.fields
    → ys ≡ xs ++ x ∷ [] → AreOf gs hs top first ctors lits (i + 1) ys
are_turn gs fs hs m n top first ctors lits i xs ys x k ss grows is more circuit all at of ctor here same fields push =
    are_push gs fs hs m n top first ctors lits i xs ys x k grows is more circuit all at of ctor here
    (subst (λ zs. AreGuarded fs hs top x.lit zs x.fields) same fields) push
