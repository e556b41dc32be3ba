-- What the calls on names answer.
use Rattle.std.proofs.Common.{◌≡◌, ℕ, ◌*◌, ◌≤◌, max, ◌==◌, Bool, true, false, if◌then◌else◌, List}
use Rattle.std.proofs.Common.{length, refl, sym}
use Rattle.std.proofs.Common.{ap, ◌∙◌, subst, Some, arith}
use Rattle.std.proofs.lemmas.Bool.{eqb-true, eq-eqb}
use Rattle.std.proofs.lemmas.Option.{same_Some}
use Rattle.pp_prog.specs.declared.id.DataId.{DataId}
use Rattle.pp_prog.specs.declared.types.TypeTable.{TypeTable}
use Rattle.pp_prog.specs.declared.value.Value.{Value}
use Rattle.pp_clause.specs.Literal.{Literal, lit_value}
use Rattle.pp_gate.specs.declared.gate.Gate.{Gate}
use Rattle.pp_gate.specs.Circuit.{IsCircuit, StandsFor}
use Rattle.pp_gate.specs.Growth.{AddsGates, Grows}
use Rattle.pp_gate.proofs.Agreement.{lit_agree}
use Rattle.pp_bits.specs.Number.{nat_of, StandsForNumber}
use Rattle.pp_domain.specs.Answers.{AreOfOneData, IsEquality, IsMerge, IsUnknown}
use Rattle.pp_domain.specs.Naming.{Naming}
use Rattle.pp_domain.specs.Short.{IsShortWord}
use Rattle.pp_domain.specs.Sense.{Extended, Good}
use Rattle.pp_domain.specs.Moves.{Moves}
use Rattle.pp_domain.proofs.AnySort.{Moves_gates}
use Rattle.pp_domain.proofs.Composition.{Extended_grown, Moves_grown, Moves_weaker}
use Rattle.pp_named_trees.specs.declared.arena.NamedTree.{NamedTree}
use Rattle.pp_named_trees.specs.declared.arena.NamedTrees.{NamedTrees}
use Rattle.pp_named_trees.specs.declared.arena.Node.{Node}
use Rattle.pp_named_trees.specs.Arena.{IsName}
use Rattle.pp_named_trees.specs.Kept.{with_node}
use Rattle.pp_named_trees.specs.Laws.{matches_agree}
use Rattle.pp_named_trees.specs.Meaning.{NamedFits, named_sense}
use Rattle.pp_named_trees.proofs.Keeping.{matches_kept, node_kept, Moves_kept}
use Rattle.pp_named_trees.proofs.Lawful.{named_lawful}

never : {X : Type 0} → false ≡ true → X
never e = cc

pub unknown_is : (types : TypeTable) (d : NamedTrees) (gs hs : List Gate) (of : DataId) (h : ℕ) (name : List Literal)
    → NamedFits types d gs → Grows gs hs 32 → IsCircuit hs → IsShortWord gs hs d.low name
    → IsUnknown named_sense types d gs (with_node d (record { of = of; name = name })) hs
    (record { of = of; height = h; name = name }) of h
unknown_is types d gs hs of h name fits grows is word = record {
  node = node_kept types d gs hs 32 (record { of = of; name = name }) fits grows is named h;
  data_of = refl;
  height = refl;
  chosen = λ n a v good sorted low has.
      let at = has refl in
      let short = good.matches.short of at.number v at.is in
      let pick = word.chosen a good.gates at.number short in (
        record {
          next = pick.assignment;
          agree = pick.keeps;
          good = record {
            gates = pick.gives;
            ok = sym (lit_agree (length gs) a pick.assignment d.ok fits.ok_of pick.keeps) ∙ good.ok;
            matches = matches_kept types d gs hs 32 (record { of = of; name = name }) fits grows is named
                pick.assignment n (matches_agree types d gs n a pick.assignment fits pick.keeps good.matches);
            admitted = good.admitted;
          };
        },
        ap (λ (k : ℕ). n of k) pick.number ∙ at.is,
      );
  bounded = λ exact. never exact;
  nothing = λ exact. never exact;
}
  where
    named : IsName hs name
    named = record { len = word.len; of = word.of }

-- a good assignment goes on over gates alone
pub Extended_kept : (types : TypeTable) (d : NamedTrees) (gs hs : List Gate) (k : ℕ) (x : Node) (n : Naming)
    (a : ℕ → Bool) → NamedFits types d gs → Grows gs hs k → IsCircuit hs → IsName hs x.name
    → Good named_sense types d gs n a → Extended named_sense types gs n a (with_node d x) hs
Extended_kept types d gs hs k x n a fits grows is name good =
    let more = Extended_grown named_sense types named_lawful d gs hs k n a a fits grows is good in record {
      next = more.next;
      agree = more.agree;
      good = record {
        gates = more.good.gates;
        ok = more.good.ok;
        matches = matches_kept types d gs hs k x fits grows is name more.next n more.good.matches;
        admitted = more.good.admitted;
      };
    }

pub merge_is : (types : TypeTable) (d : NamedTrees) (gs hs : List Gate) (choice : Literal) (left right : NamedTree)
    (h : ℕ) (ls name : List Literal) → NamedFits types d gs → AreOfOneData named_sense types d left right
    → AddsGates gs hs 32 → StandsForNumber hs 32 ls
    (λ s. if lit_value s choice then nat_of s left.name else nat_of s right.name) → name ≡ ls
    → h ≡ max left.height right.height
    → IsMerge named_sense types d gs (with_node d (record { of = left.of; name = name })) hs choice left right
    (record { of = left.of; height = h; name = name })
merge_is types d gs hs choice left right h ls name fits trees adds stands same high = record {
  node = node_kept types d gs hs 32 (record { of = left.of; name = name }) fits adds.grows adds.circuit named h;
  data_of = refl;
  height = high;
  means = λ n a v good is. value_is n a v (lit_value a choice)
      (ap (nat_of a) same ∙ stands.value a good.gates) is;
  extends = λ n a good any.
      Extended_kept types d gs hs 32 (record { of = left.of; name = name }) n a fits adds.grows adds.circuit named good;
}
  where
    named : IsName hs name
    named = subst (λ l. IsName hs l) (sym same) (record { len = stands.len; of = stands.of })

    value_is : (n : Naming) (a : ℕ → Bool) (v : Value) (c : Bool)
        → nat_of a name ≡ (if c then nat_of a left.name else nat_of a right.name)
        → n (if c then left else right).of (nat_of a (if c then left else right).name) ≡ Some v
        → n left.of (nat_of a name) ≡ Some v
    value_is n a v true e is = ap (λ (k : ℕ). n left.of k) e ∙ is
    value_is n a v false e is =
        ap (λ (k : ℕ). n left.of k) e ∙ ap (λ (d : DataId). n d (nat_of a right.name)) (sym trees.same) ∙ is

pub equality_is : (types : TypeTable) (d : NamedTrees) (gs hs : List Gate) (k : ℕ) (left right : NamedTree)
    (l : Literal) → NamedFits types d gs → AreOfOneData named_sense types d left right → AddsGates gs hs k
    → StandsFor hs l (λ s. nat_of s left.name == nat_of s right.name)
    → IsEquality named_sense types d gs d hs left right l
equality_is types d gs hs k left right l fits trees adds stands = record {
  of = stands.of;
  means = λ n a v w good one other.
      let naming = named_lawful.naming types n good.admitted in
      let to : n left.of (nat_of a right.name) ≡ Some w =
      ap (λ (d : DataId). n d (nat_of a right.name)) (sym trees.same) ∙ other in (
        λ is. same_Some v w (sym one ∙ ap (λ (k : ℕ). n left.of k)
            (eqb-true (nat_of a left.name) (nat_of a right.name) (sym (stands.value a good.gates) ∙ is)) ∙ to),
        λ is. stands.value a good.gates ∙ eq-eqb (nat_of a left.name) (nat_of a right.name)
            (naming.apart left.of (nat_of a left.name) (nat_of a right.name) v one (to ∙ ap Some (sym is))),
      );
  extends = λ n a good any.
      Extended_grown named_sense types named_lawful d gs hs k n a a fits adds.grows adds.circuit good;
}

-- ---- as the calls read the names

pub equal_moves : (types : TypeTable) (d : NamedTrees) (gs hs : List Gate) (ls name : List Literal)
    → NamedFits types d gs → ls ≡ name → length name ≡ 32 → AddsGates gs hs (2 * length ls)
    → Moves named_sense types d gs d hs 64
equal_moves types d gs hs ls name fits same len adds =
    let e : length ls ≡ 32 = ap length same ∙ len in
    Moves_weaker named_sense types d d gs hs (2 * length ls) 64
    (Moves_gates named_sense types named_lawful d gs hs (2 * length ls) fits adds) (omega arith)

pub equality_read : (types : TypeTable) (d : NamedTrees) (gs hs : List Gate) (k : ℕ) (left right : NamedTree)
    (l : Literal) (la lb : List Literal) → NamedFits types d gs → AreOfOneData named_sense types d left right
    → AddsGates gs hs k → la ≡ left.name → lb ≡ right.name → StandsFor hs l (λ s. nat_of s la == nat_of s lb)
    → IsEquality named_sense types d gs d hs left right l
equality_read types d gs hs k left right l la lb fits trees adds one other stands =
    equality_is types d gs hs k left right l fits trees adds (record {
      of = stands.of;
      value = λ s gives. stands.value s gives ∙ (λ i. nat_of s (one i) == nat_of s (other i));
    })

pub adds_by : (gs hs : List Gate) (ls name : List Literal) → ls ≡ name → length name ≡ 32
    → AddsGates gs hs (length ls) → AddsGates gs hs 32
adds_by gs hs ls name same len adds = subst (λ n. AddsGates gs hs n) (ap length same ∙ len) adds

pub chosen_by : (gs : List Gate) (choice : Literal) (la lb left right ls : List Literal) → la ≡ left → lb ≡ right
    → length left ≡ 32
    → StandsForNumber gs (length la) ls (λ s. if lit_value s choice then nat_of s la else nat_of s lb)
    → StandsForNumber gs 32 ls (λ s. if lit_value s choice then nat_of s left else nat_of s right)
chosen_by gs choice la lb left right ls one other len stands = record {
  len = stands.len ∙ ap length one ∙ len;
  of = stands.of;
  value = λ s gives. stands.value s gives
      ∙ (λ i. if lit_value s choice then nat_of s (one i) else nat_of s (other i));
}

pub Moves_same : (types : TypeTable) (d e : NamedTrees) (gs hs : List Gate) (k : ℕ) → NamedFits types d gs
    → Grows gs hs k → IsCircuit hs → e ≡ d → Moves named_sense types d gs e hs k
Moves_same types d e gs hs k fits grows is same =
    subst (λ (f : NamedTrees). Moves named_sense types d gs f hs k) (sym same)
    (Moves_grown named_sense types named_lawful d gs hs k fits grows is)

pub Moves_node : (types : TypeTable) (d e : NamedTrees) (gs hs : List Gate) (of : DataId) (ls name : List Literal)
    (k : ℕ) → NamedFits types d gs → Grows gs hs 32 → IsCircuit hs → IsName hs ls → name ≡ ls
    → e ≡ with_node d (record { of = of; name = name }) → 32 ≤ k → Moves named_sense types d gs e hs k
Moves_node types d e gs hs of ls name k fits grows is named same kept le =
    Moves_weaker named_sense types d e gs hs 32 k
    (subst (λ (f : NamedTrees). Moves named_sense types d gs f hs 32) (sym kept)
    (Moves_kept types d gs hs 32 (record { of = of; name = name }) fits grows is
    (subst (λ l. IsName hs l) (sym same) named))) le

pub merge_at : (types : TypeTable) (d e : NamedTrees) (gs hs : List Gate) (choice : Literal) (left right : NamedTree)
    (h : ℕ) (ls name : List Literal) → NamedFits types d gs → AreOfOneData named_sense types d left right
    → AddsGates gs hs 32 → StandsForNumber hs 32 ls
    (λ s. if lit_value s choice then nat_of s left.name else nat_of s right.name) → name ≡ ls
    → h ≡ max left.height right.height → e ≡ with_node d (record { of = left.of; name = name })
    → IsMerge named_sense types d gs e hs choice left right (record { of = left.of; height = h; name = name })
merge_at types d e gs hs choice left right h ls name fits trees adds stands same high kept =
    subst (λ (f : NamedTrees). IsMerge named_sense types d gs f hs choice left right (record {
      of = left.of;
      height = h;
      name = name;
    })) (sym kept)
    (merge_is types d gs hs choice left right h ls name fits trees adds stands same high)

pub unknown_at : (types : TypeTable) (d e : NamedTrees) (gs hs : List Gate) (of : DataId) (h g : ℕ)
    (name : List Literal) → NamedFits types d gs → Grows gs hs 32 → IsCircuit hs → IsShortWord gs hs d.low name
    → g ≡ h → e ≡ with_node d (record { of = of; name = name })
    → IsUnknown named_sense types d gs e hs (record { of = of; height = g; name = name }) of h
unknown_at types d e gs hs of h g name fits grows is word high kept =
    subst (λ (f : NamedTrees). IsUnknown named_sense types d gs f hs (record {
      of = of;
      height = g;
      name = name;
    }) of h) (sym kept)
    (subst (λ k. IsUnknown named_sense types d gs (with_node d (record { of = of; name = name })) hs (record {
      of = of;
      height = k;
      name = name;
    }) of h) (sym high)
    (unknown_is types d gs hs of h name fits grows is word))
