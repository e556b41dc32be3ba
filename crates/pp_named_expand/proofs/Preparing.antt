-- Groups, levels, contents and their trees, one after another.
use Rattle.std.proofs.Common.{◌≡◌, ℕ, ◌+◌, ◌≤◌, Bool, List, length, sym, ap, ◌∙◌, subst, arith}
use Rattle.pp_prog.specs.declared.id.DataId.{DataId}
use Rattle.pp_prog.specs.declared.types.TypeTable.{TypeTable}
use Rattle.pp_prog.specs.declared.value.Value.{Value}
use Rattle.pp_gate.specs.declared.gate.Gate.{Gate}
use Rattle.pp_gate.specs.Circuit.{IsCircuit}
use Rattle.pp_gate.specs.Growth.{Grows}
use Rattle.pp_gate.proofs.Agreement.{agree_along, lit_agree}
use Rattle.pp_gate.proofs.Growing.{length-Grows}
use Rattle.pp_graph.specs.Reaches.{AreGroups}
use Rattle.pp_checks.specs.Tables.{field_table}
use Rattle.pp_domain.specs.Moves.{Moves}
use Rattle.pp_domain.specs.Naming.{IsOfData, Naming, NamesFields}
use Rattle.pp_domain.specs.Sense.{Good}
use Rattle.pp_domain.proofs.Composition.{Moves_grown, Moves_more}
use Rattle.pp_named_trees.specs.declared.arena.Alternative.{Alternative}
use Rattle.pp_named_trees.specs.declared.arena.NamedTrees.{NamedTrees}
use Rattle.pp_named_trees.specs.Laws.{matches_agree}
use Rattle.pp_named_trees.specs.Meaning.{named_sense}
use Rattle.pp_named_trees.proofs.Lawful.{named_lawful}
use Rattle.pp_named_contents.specs.FreshContents.{AreFresh}
use Rattle.pp_named_contents.specs.Kept.{FieldsKept, FieldsNamed, Keeps}
use Rattle.pp_named_contents.proofs.Holdable.{can_hold_fields}
use Rattle.pp_named_contents.proofs.Kept.{contents_named, keeps_good, keeps_moves}
use Rattle.pp_named_instances.specs.Levels.{AddsLevels, DataHasLevels}
use Rattle.pp_named_expand.specs.Prepared.{HoldsFor, IsPrepared}
use Rattle.pp_named_expand.specs.Touched.{IsTouched}

module _ (types : TypeTable) (d d1 d2 : NamedTrees) (gs fs : List Gate) (p : ℕ)
    (touched : IsTouched types d gs d1) (leveled : AddsLevels types d1 gs d2 fs p) where
  -- names are as long as before
  pub leveled_low : d2.low ≡ d.low
  leveled_low = ap (λ (f : NamedTrees). f.low) leveled.is ∙ ap (λ (f : NamedTrees). f.low) touched.is

  pub leveled_moves : (n : ℕ) → p ≤ n → Moves named_sense types d gs d2 fs n
  leveled_moves n le =
      Moves_more named_sense types d d1 d2 gs gs fs 0 p n touched.moves leveled.moves (omega arith)

  module _ (hs : List Gate) (q : ℕ) (grows : Grows fs hs q) (is : IsCircuit hs) where
    pub fresh_moves : (n : ℕ) → p + q ≤ n → Moves named_sense types d gs d2 hs n
    fresh_moves n le =
        let before = leveled_moves p (omega arith) in
        Moves_more named_sense types d d2 d2 gs fs hs p q n before
        (Moves_grown named_sense types named_lawful d2 fs hs q before.fits grows is) le

    module _ (d3 : NamedTrees) (keeps : Keeps hs d2 d3) where
      pub kept_moves : (n : ℕ) → p + q ≤ n → Moves named_sense types d gs d3 hs n
      kept_moves n le =
          let before = fresh_moves n le in
          Moves_more named_sense types d d2 d3 gs hs hs n 0 n before
          (keeps_moves types hs d2 d3 before.fits keeps) (omega arith)

      module _ (of : DataId) (xs ys : List Alternative) (fresh : AreFresh types fs hs d2.low of xs)
          (same : ys ≡ xs)
          (kept : FieldsKept d3.nodes ys) (are : AreGroups (field_table types) d1.groups)
          (levels : DataHasLevels types d2.groups d2.levels of) where
        groups_kept : d3.groups ≡ d1.groups
        groups_kept =
            ap (λ (f : NamedTrees). f.groups) keeps.is ∙ ap (λ (f : NamedTrees). f.groups) leveled.is

        levels_kept : DataHasLevels types d3.groups d3.levels of
        levels_kept = subst (λ (f : NamedTrees). DataHasLevels types f.groups f.levels of) (sym keeps.is) levels

        chosen_holds : (n : Naming) (a : ℕ → Bool) (v : Value) → Good named_sense types d gs n a → IsOfData types of v
            → NamesFields types n v → HoldsFor types gs n a d3 hs v xs
        chosen_holds n a v good sorted names =
            let x = leveled.extends n a (touched.good n a good) in
            let fits = leveled.moves.fits in
            let c = fresh.chosen x.next n v x.good.gates sorted
            (can_hold_fields d2.low types n x.good.matches.short of v sorted names) in record {
              extended = record {
                next = c.next;
                agree = agree_along (length gs) (length fs) a x.next c.next (length-Grows gs fs p leveled.moves.grows).0
                    x.agree c.keeps;
                good = keeps_good types hs d2 d3 n c.next keeps (record {
                  gates = c.gives;
                  ok = sym (lit_agree (length fs) x.next c.next d2.ok fits.ok_of c.keeps) ∙ x.good.ok;
                  matches = matches_agree types d2 fs n x.next c.next fits c.keeps x.good.matches;
                  admitted = x.good.admitted;
                });
              };
              holds = c.holds;
            }

        pub prepared : IsPrepared types d gs d3 hs of xs
        prepared = record {
          expansions = ap (λ (f : NamedTrees). f.expansions) keeps.is ∙ ap (λ (f : NamedTrees). f.expansions) leveled.is
              ∙ ap (λ (f : NamedTrees). f.expansions) touched.is;
          groups = subst (λ ns. AreGroups (field_table types) ns) (sym groups_kept) are;
          levels = levels_kept;
          fits = fresh.fits;
          kept = subst (λ zs. FieldsKept d3.nodes zs) same kept;
          chosen = chosen_holds;
        }

pub named_read : (types : TypeTable) (gs hs : List Gate) (low : ℕ) (of : DataId) (xs ys : List Alternative)
    → AreFresh types gs hs low of xs → ys ≡ xs → FieldsNamed hs ys
named_read types gs hs low of xs ys fresh same =
    subst (λ zs. FieldsNamed hs zs) (sym same) (contents_named hs types of xs fresh.fits)

pub room_next : (gs fs : List Gate) (p q most : ℕ) → Grows gs fs p → length gs + (p + q) ≤ most → length fs + q ≤ most
room_next gs fs p q most grows room = let g = (length-Grows gs fs p grows).1 in omega arith
