-- What one more level leaves, and how a good assignment goes on over it.
use Rattle.std.proofs.Common.{◌≡◌, ℕ, ◌<◌, ◌^◌, Bool, List, [], ◌∷◌, ◌++◌, length, refl, sym, ◌∙◌}
use Rattle.std.proofs.Common.{subst}
use Rattle.std.proofs.Common.{inl, inr, Some, slice_get}
use Rattle.pp_prog.specs.declared.id.DataId.{DataId}
use Rattle.pp_prog.specs.declared.types.TypeTable.{TypeTable}
use Rattle.pp_gate.specs.declared.gate.Gate.{Gate}
use Rattle.pp_gate.specs.Circuit.{Gives, IsCircuit}
use Rattle.pp_gate.specs.Growth.{Grows}
use Rattle.pp_gate.proofs.Agreement.{Gives_old, lit_agree}
use Rattle.pp_gate.proofs.Growing.{IsOf_more}
use Rattle.pp_gate.proofs.Places.{at_left, at_push}
use Rattle.pp_graph.specs.Reaches.{AreGroups}
use Rattle.pp_bits.specs.Inputs.{ChosenNumber}
use Rattle.pp_bits.specs.Number.{nat_of}
use Rattle.pp_domain.specs.Moves.{Moves}
use Rattle.pp_domain.specs.Naming.{Naming}
use Rattle.pp_domain.specs.Sense.{Extended, Good}
use Rattle.pp_checks.specs.Tables.{field_table}
use Rattle.pp_named_trees.specs.declared.arena.Expansion.{Expansion}
use Rattle.pp_named_trees.specs.declared.arena.Level.{Level}
use Rattle.pp_named_trees.specs.declared.arena.NamedTrees.{NamedTrees}
use Rattle.pp_named_trees.specs.Arena.{IsName}
use Rattle.pp_named_trees.specs.Holding.{LevelsHold}
use Rattle.pp_named_trees.specs.Instances.{IsLevel, base, word, InOrder}
use Rattle.pp_named_trees.specs.Kept.{with_level}
use Rattle.pp_named_trees.specs.Laws.{expansion_later, matches_agree, name_later, number_agree, stands_agree}
use Rattle.pp_named_trees.specs.Meaning.{NamedAdmits, NamedFits, NamedMatches, named_sense}
use Rattle.pp_named_trees.proofs.Keeping.{agree_back}

-- the levels that were made are those of an order that the naming has
pub some_order : (types : TypeTable) (d : NamedTrees) (a : ℕ → Bool) (n : Naming)
    → AreGroups (field_table types) d.groups → NamedAdmits types n → NamedMatches d a n
    → LevelsHold a n d.groups d.levels
some_order types d a n are admits matches = by d.levels matches.levels
  where
    by : (levels : List Level) → ((i : ℕ) (z : Level) → slice_get levels i ≡ Some z → LevelsHold a n d.groups levels)
        → LevelsHold a n d.groups levels
    by [] from = record {
      level = (admits.order d.groups are).0;
      order = (admits.order d.groups are).1;
      words = λ i z at. cc;
    }
    by (z ∷ zs) from = from 0 z refl

module _ (a : ℕ → Bool) (groups : List ℕ) (levels : List Level) (z : Level) where
  pub level_more : (d : DataId) (k : ℕ) → IsLevel a groups levels d k → IsLevel a groups (levels ++ z ∷ []) d k
  level_more d k (base first is) = base first is
  level_more d k (word i x at of is) = word i x (at_left levels (z ∷ []) i x at) of is

  pub order_more : (y : Expansion) → InOrder a groups levels y → InOrder a groups (levels ++ z ∷ []) y
  order_more y order j x p t at on field one =
      let is = order j x p t at on field one in record {
        field_level = is.field_level;
        tree_level = is.tree_level;
        field_is = level_more t.of is.field_level is.field_is;
        tree_is = level_more y.of is.tree_level is.tree_is;
        below = is.below;
      }

module _ (types : TypeTable) (d : NamedTrees) (gs hs : List Gate) (k : ℕ) (z : Level)
    (fits : NamedFits types d gs) (grows : Grows gs hs k) (is : IsCircuit hs)
    (are : AreGroups (field_table types) d.groups) (name : IsName hs z.word) where
  levelled_fits : NamedFits types (with_level d z) hs
  levelled_fits = record {
    circuit = is;
    ok_of = IsOf_more gs hs k d.ok grows fits.ok_of;
    low = fits.low;
    groups = inr are;
    nodes = λ i x at. name_later gs hs k grows x.name (fits.nodes i x at);
    expansions = λ i y at. expansion_later gs hs k grows d.nodes types y (fits.expansions i y at);
    levels = λ i x at. elim (at_push d.levels z i x at) [
      | inl old ↦ name_later gs hs k grows x.word (fits.levels i x old)
      | inr new ↦ subst (λ (u : Level). IsName hs u.word) new.1 name
    ];
    instances = λ a gives ok.
        let old = fits.instances a (Gives_old gs hs k grows a gives) ok in record {
          agree = old.agree;
          order = λ i y at. order_more a d.groups d.levels z y (old.order i y at);
        };
  }

  pub levelled_moves : Moves named_sense types d gs (with_level d z) hs k
  levelled_moves = record {
    grows = grows;
    fits = levelled_fits;
    nodes = λ t node. record { node = node; data_of = refl; height = refl; expanded = λ h. h };
    stands = λ n a b t v node agree. (
      λ s. stands_agree gs a b agree n d.nodes fits.nodes t v node s,
      λ s. stands_agree gs b a (agree_back (length gs) a b agree) n d.nodes fits.nodes t v node s,
    );
    back = λ n a good. record {
      gates = Gives_old gs hs k grows a good.gates;
      ok = good.ok;
      matches = record {
        short = good.matches.short;
        expansions = good.matches.expansions;
        levels = λ i x at.
            let more = good.matches.levels i x (at_left d.levels (z ∷ []) i x at) in record {
              level = more.level;
              order = more.order;
              words = λ j u to. more.words j u (at_left d.levels (z ∷ []) j u to);
            };
      };
      admitted = good.admitted;
    };
  }

  -- the new word can have the level of its datatype
  pub levelled_extends : ((s : ℕ → Bool) → Gives s gs → (v : ℕ) → v < 2 ^ 32 → ChosenNumber gs hs s z.word v)
      → (n : Naming) (a : ℕ → Bool) → Good named_sense types d gs n a
      → Extended named_sense types gs n a (with_level d z) hs
  levelled_extends chosen n a good =
      let level = some_order types d a n are good.admitted good.matches in
      let pick = chosen a good.gates (level.level z.of) (level.order.within z.of) in
      let b = pick.assignment in
      let matches = matches_agree types d gs n a b fits pick.keeps good.matches in
      let all : LevelsHold b n d.groups (d.levels ++ z ∷ []) = record {
        level = level.level;
        order = level.order;
        words = λ i x at. elim (at_push d.levels z i x at) [
          | inl first ↦
              sym (number_agree gs a b pick.keeps n x.word (fits.levels i x first)) ∙ level.words i x first
          | inr new ↦ subst (λ (u : Level). nat_of b u.word ≡ level.level u.of) new.1 pick.number
        ];
      } in record {
        next = b;
        agree = pick.keeps;
        good = record {
          gates = pick.gives;
          ok = sym (lit_agree (length gs) a b d.ok fits.ok_of pick.keeps) ∙ good.ok;
          matches = record { short = matches.short; expansions = matches.expansions; levels = λ i x at. all };
          admitted = good.admitted;
        };
      }
