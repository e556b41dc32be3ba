-- Before the first look the groups can be worked out: nothing rests on them yet.
use Rattle.std.proofs.Common.{◌≡◌, ◌⊎◌, ℕ, zero, suc, List, [], ◌∷◌, length, refl, sym, ap, ◌∙◌}
use Rattle.std.proofs.Common.{subst}
use Rattle.std.proofs.Common.{inl, inr, arith, ◌<◌, ◌^◌, length-append}
use Rattle.pp_prog.specs.declared.types.TypeTable.{TypeTable}
use Rattle.pp_gate.specs.declared.gate.Gate.{Gate}
use Rattle.pp_gate.proofs.Growing.{Grows_none}
use Rattle.pp_graph.specs.Reaches.{AreGroups}
use Rattle.pp_prog.specs.Sizes.{fields_of}
use Rattle.pp_checks.specs.Tables.{field_table, fields_below, trees_in}
use Rattle.pp_domain.proofs.Composition.{Moves_none}
use Rattle.pp_named_trees.specs.declared.arena.NamedTrees.{NamedTrees}
use Rattle.pp_named_trees.specs.Laws.{stands_agree}
use Rattle.pp_named_trees.specs.Meaning.{IsUntouched, NamedFits, named_sense}
use Rattle.pp_named_trees.proofs.Keeping.{agree_back}
use Rattle.pp_named_trees.proofs.Lawful.{named_lawful}
use Rattle.pp_named_expand.specs.Touched.{IsTouched}
use Rattle.pp_list.proofs.Lists.{nothing}

pub touched_none : (types : TypeTable) (d : NamedTrees) (gs : List Gate) → NamedFits types d gs → IsTouched types d gs d
touched_none types d gs fits = record {
  moves = Moves_none named_sense types named_lawful d gs fits;
  groups = d.groups;
  is = refl;
  good = λ n a good. good;
}

-- where there are groups, they are those of the table
pub some_groups : (types : TypeTable) (d : NamedTrees) (gs : List Gate) → NamedFits types d gs → (d.groups ≡ [] → ⊥)
    → AreGroups (field_table types) d.groups
some_groups types d gs fits some = by fits.groups
  where
    by : IsUntouched d ⊎ AreGroups (field_table types) d.groups → AreGroups (field_table types) d.groups
    by (inl untouched) = absurd (some untouched.groups)
    by (inr are) = are

-- two lists of groups of a table without datatypes are one
no_groups : (types : TypeTable) (groups more : List ℕ) → groups ≡ [] → AreGroups (field_table types) groups
    → AreGroups (field_table types) more → more ≡ groups
no_groups types groups more none are news =
    sym (empty more (sym (ap length none ∙ refl) ∙ (are.size ∙ sym news.size))) ∙ sym none
  where
    empty : (xs : List ℕ) → 0 ≡ length xs → [] ≡ xs
    empty [] e = refl
    empty (x ∷ xs) e = absurd (omega (arith, e))

untouched_groups : (types : TypeTable) (d : NamedTrees) (gs : List Gate) (groups : List ℕ) → NamedFits types d gs
    → IsUntouched d → AreGroups (field_table types) groups → IsTouched types d gs (record d { groups = groups })
untouched_groups types d gs groups fits untouched are = record {
  moves = record {
    grows = Grows_none gs;
    fits = record {
      circuit = fits.circuit;
      ok_of = fits.ok_of;
      low = fits.low;
      groups = inr are;
      nodes = fits.nodes;
      expansions = fits.expansions;
      levels = fits.levels;
      instances = λ a gives on. record {
        agree = (fits.instances a gives on).agree;
        order = λ i y at. nothing d.expansions i y untouched.expansions at;
      };
    };
    nodes = λ t node. record { node = node; data_of = refl; height = refl; expanded = λ h. h };
    stands = λ n a b t v node agree. (
      λ s. stands_agree gs a b agree n d.nodes fits.nodes t v node s,
      λ s. stands_agree gs b a (agree_back (length gs) a b agree) n d.nodes fits.nodes t v node s,
    );
    back = λ n a good. record {
      gates = good.gates;
      ok = good.ok;
      matches = record {
        short = good.matches.short;
        expansions = good.matches.expansions;
        levels = λ i z at. nothing d.levels i z untouched.levels at;
      };
      admitted = good.admitted;
    };
  };
  groups = groups;
  is = refl;
  good = λ n a good. record {
    gates = good.gates;
    ok = good.ok;
    matches = record {
      short = good.matches.short;
      expansions = good.matches.expansions;
      levels = λ i z at. nothing d.levels i z untouched.levels at;
    };
    admitted = good.admitted;
  };
}

pub touched : (types : TypeTable) (d : NamedTrees) (gs : List Gate) (groups : List ℕ) → NamedFits types d gs
    → d.groups ≡ [] → AreGroups (field_table types) groups → IsTouched types d gs (record d { groups = groups })
touched types d gs groups fits none are = by fits.groups
  where
    by : IsUntouched d ⊎ AreGroups (field_table types) d.groups → IsTouched types d gs (record d { groups = groups })
    by (inl untouched) = untouched_groups types d gs groups fits untouched are
    by (inr were) = subst (λ (ns : List ℕ). IsTouched types d gs (record d { groups = ns }))
        (sym (no_groups types d.groups groups none were are)) (touched_none types d gs fits)

rows_below : (types : TypeTable) (n : ℕ) → length (fields_below types n) ≡ n
rows_below types zero = refl
rows_below types (suc n) =
    let e = rows_below types n in
    let s = length-append (fields_below types n) (trees_in (fields_of types (record { 0 = n })) ∷ []) in omega arith

-- the table is short enough for its numbers
pub few_rows : (types : TypeTable) (rows : List (List ℕ)) → rows ≡ field_table types → length rows < 2 ^ 32
few_rows types rows is =
    let e = ap length is ∙ rows_below types (length types.datatypes) in omega (arith, e, types.few_datatypes)

pub groups_read : (types : TypeTable) (rows : List (List ℕ)) (groups : List ℕ) → rows ≡ field_table types
    → AreGroups rows groups → AreGroups (field_table types) groups
groups_read types rows groups is are = subst (λ ns. AreGroups ns groups) is are
