-- Each call has its room where few gates are there and few trees were looked at.
use Rattle.std.proofs.Common.{◌≡◌, ℕ, zero, suc, ◌+◌, ◌*◌, ◌^◌, ◌≤◌, nat_eq, if◌then◌else◌, Bool, true, false, List, []}
use Rattle.std.proofs.Common.{◌∷◌, length, map, sum, sym, ap, ◌∙◌, subst, slice_get, arith, Some, None}
use Rattle.std.proofs.Common.{Option}
use Rattle.std.proofs.Math.Nat.{mul-le-mul_left, mul-le-mul_right}
use Rattle.std.proofs.lemmas.List.{length-map, length-reverse}
use Rattle.pp_list.specs.Joined.{joined}
use Rattle.pp_prog.specs.declared.id.CtorId.{CtorId}
use Rattle.pp_prog.specs.declared.id.DataId.{DataId}
use Rattle.pp_prog.specs.declared.types.Ctor.{Ctor}
use Rattle.pp_prog.specs.declared.types.Datatype.{Datatype}
use Rattle.pp_prog.specs.declared.types.TypeTable.{TypeTable}
use Rattle.pp_prog.specs.Sizes.{ctors_in, ctors_of, flat, sorts_in_ctor, width}
use Rattle.pp_gate.specs.declared.gate.Gate.{Gate}
use Rattle.pp_domain.specs.Allowance.{construct_gates, expand_gates_of, look_gates, look_at_gates, times}
use Rattle.pp_named_trees.specs.declared.arena.Expansion.{Expansion}
use Rattle.pp_named_trees.specs.declared.arena.NamedTree.{NamedTree}
use Rattle.pp_named_trees.specs.declared.arena.NamedTrees.{NamedTrees}
use Rattle.pp_named_trees.specs.Arena.{data_of_look, looked}
use Rattle.pp_named_trees.specs.Meaning.{named_sense}
use Rattle.pp_bounded_samples.specs.Sample.{IsSample, sample_ctors, sample_datatypes}
use Rattle.pp_bounded_cases.specs.Registers.{HasRoom}

-- ---- the samples are narrow

abbrev flat_among : List Ctor → ℕ
flat_among l = length l + sum (map width (joined (map sorts_in_ctor l)))

flat_few : (types : TypeTable) → IsSample types → (d : ℕ) → flat types (record { 0 = d }) ≤ 133
flat_few types s d = subst (λ (l : List Ctor). flat_among l ≤ 133) (sym own) (few d)
  where
    own : ctors_of types (record { 0 = d }) ≡ ctors_in (sample_ctors s.name) (slice_get (sample_datatypes s.name) d)
    own =
        ap (λ (l : List Ctor). ctors_in l (slice_get types.datatypes d)) s.ctors
        ∙ ap (λ (l : List Datatype). ctors_in (sample_ctors s.name) (slice_get l d)) s.datatypes

    few : (i : ℕ) → flat_among (ctors_in (sample_ctors s.name) (slice_get (sample_datatypes s.name) i)) ≤ 133
    few zero = omega arith
    few (suc zero) = omega arith
    few (suc (suc zero)) = omega arith
    few (suc (suc (suc zero))) = omega arith
    few (suc (suc (suc (suc zero)))) = omega arith
    few (suc (suc (suc (suc (suc zero))))) = omega arith
    few (suc (suc (suc (suc (suc (suc zero)))))) = omega arith
    few (suc (suc (suc (suc (suc (suc (suc zero))))))) = omega arith
    few (suc (suc (suc (suc (suc (suc (suc (suc i)))))))) = omega arith

-- ---- few looks

one_more : (b : Bool) (n m : ℕ) → n ≤ m → (if b then 1 + n else n) ≤ 1 + m
one_more true n m le = omega (arith, le)
one_more false n m le = omega (arith, le)

times_few : (d : DataId) (looks : List DataId) → times d looks ≤ length looks
times_few d [] = omega arith
times_few d (x ∷ xs) = omega (arith, one_more (nat_eq x.0 d.0) (times d xs) (length xs) (times_few d xs))

looks_few : (types : TypeTable) → IsSample types → (ys : List Expansion) (d : DataId) → length ys ≤ 1000
    → look_gates types (looked ys) 0 d ≤ 2 ^ 28
looks_few types s ys d few =
    let f = flat_few types s d.0 in
    let n = times_few d (looked ys) in
    let len = length-reverse (map data_of_look ys) ∙ length-map ys data_of_look in
    let most : times d (looked ys) ≤ 1000 = omega (arith, n, len, few) in
    let w : 64 + 4 * flat types d ≤ 596 = omega (arith, f) in
    let one = mul-le-mul_left (times d (looked ys)) w in
    let two = mul-le-mul_right 596 most in
    omega (arith, one, two, f)

pub look_room : (types : TypeTable) → IsSample types → (d : NamedTrees) (gs : List Gate) (t : NamedTree)
    → HasRoom d gs → length gs + look_at_gates named_sense types d t ≤ 2 ^ 30
look_room types s d gs t room =
    let few = looks_few types s d.expansions t.of room.looks in omega (arith, few, room.gates)

pub construct_room : (types : TypeTable) → IsSample types → (d : NamedTrees) (gs : List Gate) (c : CtorId)
    → HasRoom d gs → length gs + construct_gates named_sense types d c ≤ 2 ^ 30
construct_room types s d gs c room = at (slice_get types.ctors c.0)
  where
    at : (k : Option Ctor) → length gs + expand_gates_of named_sense types d k ≤ 2 ^ 30
    at None = omega (arith, room.gates)
    at (Some k) = let few = looks_few types s d.expansions k.of room.looks in omega (arith, few, room.gates)
