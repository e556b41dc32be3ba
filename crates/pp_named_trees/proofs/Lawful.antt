-- The laws of the domain of named trees, and a domain without trees.
use Rattle.std.proofs.Common.{◌≡◌, ◌≤◌, ◌⊎◌, ℕ, true, List, [], refl, sym, ap, subst, inl, inr, arith}
use Rattle.std.proofs.Math.Pow.{pow_mono}
use Rattle.pp_prog.specs.declared.types.TypeTable.{TypeTable}
use Rattle.pp_gate.specs.declared.gate.Gate.{Gate}
use Rattle.pp_gate.specs.Circuit.{IsOf, IsCircuit}
use Rattle.pp_domain.specs.Answers.{Fresh}
use Rattle.pp_domain.specs.Laws.{Lawful}
use Rattle.pp_domain.specs.Moves.{Moves}
use Rattle.pp_domain.specs.Naming.{Naming}
use Rattle.pp_gate.proofs.Growing.{Grows_none}
use Rattle.pp_named_order.specs.Short.{AreShort}
use Rattle.pp_domain.specs.Short.{IsShort}
use Rattle.pp_graph.specs.Reaches.{AreGroups}
use Rattle.pp_checks.specs.Tables.{field_table}
use Rattle.pp_named_trees.specs.declared.arena.NamedTrees.{NamedTrees}
use Rattle.pp_named_trees.specs.Arena.{looked}
use Rattle.pp_named_trees.specs.Laws.{named_laws}
use Rattle.pp_named_trees.specs.Kept.{with_low}
use Rattle.pp_named_trees.specs.Meaning.{IsUntouched, NamedFits, named_sense}
use Rattle.pp_list.proofs.Lists.{nothing}

pub named_lawful : Lawful named_sense
named_lawful = named_laws

pub named_fresh : (types : TypeTable) (d : NamedTrees) (gs : List Gate) → IsCircuit gs → IsOf gs d.ok
    → d.ok ≡ record { var = 1; positive = true } → d.nodes ≡ [] → d.expansions ≡ [] → d.levels ≡ [] → d.groups ≡ []
    → d.low ≤ 31 → Fresh named_sense types d gs
named_fresh types d gs is of ok nodes expansions levels groups low = record {
  fits = record {
    circuit = is;
    ok_of = of;
    low = low;
    groups = inl (record { groups = groups; expansions = expansions; levels = levels });
    nodes = λ i x at. nothing d.nodes i x nodes at;
    expansions = λ i y at. nothing d.expansions i y expansions at;
    levels = λ i z at. nothing d.levels i z levels at;
    instances = λ a gives is. record {
      agree = λ i j y z lt at to same. nothing d.expansions i y expansions at;
      order = λ i y at. nothing d.expansions i y expansions at;
    };
  };
  empty = λ t is. nothing d.nodes is.number is.node nodes is.at;
  ok = ok;
  matches = λ a n reaches. record {
    short = reaches;
    expansions = λ i y at. nothing d.expansions i y expansions at;
    levels = λ i z at. nothing d.levels i z levels at;
  };
  looks = ap looked expansions;
  compares = refl;
}

-- what is short with fewer digits is short with more
short_more : (low more v : ℕ) → low ≤ more → IsShort low v → IsShort more v
short_more low more v le (inl small) = let e = pow_mono {i = low} {j = more} le in inl (omega (arith, small, e))
short_more low more v le (inr high) =
    let e = pow_mono {i = low} {j = more} le in let first = high.0 in inr (omega (arith, first, e), high.1)

-- a domain without trees may have shorter names
module _ (types : TypeTable) (d : NamedTrees) (gs : List Gate) (low : ℕ) (le : low ≤ d.low)
    (fresh : Fresh named_sense types d gs) where
  groups_shorter : IsUntouched d ⊎ AreGroups (field_table types) d.groups
      → IsUntouched (with_low d low) ⊎ AreGroups (field_table types) d.groups
  groups_shorter (inl u) = inl (record { groups = u.groups; expansions = u.expansions; levels = u.levels })
  groups_shorter (inr g) = inr g

  longer_names : (n : Naming) → AreShort low n → AreShort d.low n
  longer_names n short of k v at = short_more low d.low k le (short of k v at)

  with_low_fits : NamedFits types (with_low d low) gs
  with_low_fits = record {
    circuit = fresh.fits.circuit;
    ok_of = fresh.fits.ok_of;
    low = let most = fresh.fits.low in omega (arith, le, most);
    groups = groups_shorter fresh.fits.groups;
    nodes = fresh.fits.nodes;
    expansions = fresh.fits.expansions;
    levels = fresh.fits.levels;
    instances = λ a gives ok. let old = fresh.fits.instances a gives ok in
        record { agree = old.agree; order = old.order };
  }

  with_low_fresh : Fresh named_sense types (with_low d low) gs
  with_low_fresh = record {
    fits = with_low_fits;
    empty = fresh.empty;
    ok = fresh.ok;
    matches = λ a n short. let old = fresh.matches a n (longer_names n short) in
        record { short = short; expansions = old.expansions; levels = old.levels };
    looks = fresh.looks;
    compares = refl;
  }

  with_low_moves : Moves named_sense types d gs (with_low d low) gs 0
  with_low_moves = record {
    grows = Grows_none gs;
    fits = with_low_fits;
    nodes = λ t node. absurd (fresh.empty t node);
    stands = λ n a b t v node agree. absurd (fresh.empty t node);
    back = λ n a good. record {
      gates = good.gates;
      ok = good.ok;
      matches = record {
        short = longer_names n good.matches.short;
        expansions = good.matches.expansions;
        levels = good.matches.levels;
      };
      admitted = good.admitted;
    };
  }

  module _ (e : NamedTrees) (is : e ≡ with_low d low) where
    pub shorter_fresh : Fresh named_sense types e gs
    shorter_fresh = subst (λ (f : NamedTrees). Fresh named_sense types f gs) (sym is) with_low_fresh

    pub shorter_moves : Moves named_sense types d gs e gs 0
    shorter_moves = subst (λ (f : NamedTrees). Moves named_sense types d gs f gs 0) (sym is) with_low_moves
