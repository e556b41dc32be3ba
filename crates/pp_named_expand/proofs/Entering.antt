-- What one more expansion leaves, and how a good assignment goes on over it.
use Rattle.std.proofs.Common.{◌≡◌, ℕ, ◌<◌, Bool, true, ◌&&◌, List, [], ◌∷◌, ◌++◌, length, refl, sym}
use Rattle.std.proofs.Common.{ap, ◌∙◌}
use Rattle.std.proofs.Common.{subst, inl, inr, Some, slice_get, arith}
use Rattle.std.proofs.lemmas.Bool.{and_parts}
use Rattle.std.proofs.lemmas.Option.{slice_get_within}
use Rattle.pp_prog.specs.declared.types.TypeTable.{TypeTable}
use Rattle.pp_clause.specs.Literal.{Literal, lit_value}
use Rattle.pp_gate.specs.declared.gate.Gate.{Gate}
use Rattle.pp_gate.specs.Circuit.{Gives, IsCircuit, StandsFor}
use Rattle.pp_gate.specs.Growth.{Grows}
use Rattle.pp_gate.proofs.Agreement.{Gives_old, lit_agree}
use Rattle.pp_gate.proofs.Extension.{growth_extends}
use Rattle.pp_gate.proofs.Places.{at_left, at_push}
use Rattle.pp_graph.specs.Reaches.{AreGroups}
use Rattle.pp_domain.specs.Moves.{Moves}
use Rattle.pp_domain.specs.Naming.{Naming}
use Rattle.pp_domain.specs.Sense.{Extended, Good}
use Rattle.pp_checks.specs.Tables.{field_table}
use Rattle.pp_named_trees.specs.declared.arena.Expansion.{Expansion}
use Rattle.pp_named_trees.specs.declared.arena.NamedTrees.{NamedTrees}
use Rattle.pp_named_trees.specs.Arena.{ExpansionFits}
use Rattle.pp_named_trees.specs.Holding.{ExpansionHolds}
use Rattle.pp_named_trees.specs.Instances.{Agrees, InOrder}
use Rattle.pp_named_trees.specs.Kept.{with_expansion}
use Rattle.pp_named_trees.specs.Laws.{expansion_agree, expansion_later, matches_agree, name_later, stands_agree}
use Rattle.pp_named_trees.specs.Meaning.{NamedFits, named_sense}
use Rattle.pp_named_trees.proofs.Keeping.{agree_back}
use Rattle.pp_named_instances.specs.Condition.{IsCondition}
use Rattle.pp_named_instances.proofs.Levelling.{some_order}

module _ (types : TypeTable) (d : NamedTrees) (gs hs : List Gate) (k : ℕ) (y : Expansion) (l ok : Literal)
    (fits : NamedFits types d gs) (grows : Grows gs hs k) (is : IsCircuit hs)
    (are : AreGroups (field_table types) d.groups) (own : ExpansionFits gs d.nodes types y)
    (condition : IsCondition types hs d y l)
    (both : StandsFor hs ok (λ s. lit_value s d.ok && lit_value s l)) where
  parts : (a : ℕ → Bool) → Gives a hs → lit_value a ok ≡ true → (lit_value a d.ok ≡ true) × (lit_value a l ≡ true)
  parts a gives e = let p = and_parts (lit_value a d.ok) (lit_value a l) (sym (both.value a gives) ∙ e) in (p.0, p.1)

  entered_fits : NamedFits types (with_expansion d y ok) hs
  entered_fits = record {
    circuit = is;
    ok_of = both.of;
    low = fits.low;
    groups = inr are;
    nodes = λ i x at. name_later gs hs k grows x.name (fits.nodes i x at);
    expansions = λ i z at. elim (at_push d.expansions y i z at) [
      | inl old ↦ expansion_later gs hs k grows d.nodes types z (fits.expansions i z old)
      | inr new ↦ subst (λ (x : Expansion). ExpansionFits hs d.nodes types x) new.1
          (expansion_later gs hs k grows d.nodes types y own)
    ];
    levels = λ i z at. name_later gs hs k grows z.word (fits.levels i z at);
    instances = λ a gives e.
        let p = parts a gives e in
        let old = fits.instances a (Gives_old gs hs k grows a gives) p.0 in record {
          agree = λ i j x z lt at to same. elim (at_push d.expansions y i x at) [
            | inl first ↦ elim (at_push d.expansions y j z to) [
              | inl second ↦ old.agree i j x z lt first second same
              | inr second ↦ subst (λ (u : Expansion). Agrees a u x) second.1
                  (condition.agrees a gives p.1 i x first (sym (ap (λ (u : Expansion). u.of) second.1 ∙ same)))
            ]
            | inr first ↦ absurd (late i j z first.0 lt to)
          ];
          order = λ i z at. elim (at_push d.expansions y i z at) [
            | inl first ↦ old.order i z first
            | inr new ↦ subst (λ (u : Expansion). InOrder a d.groups d.levels u) new.1 (condition.ordered a gives p.1)
          ];
        };
  }
    where
      late : (i j : ℕ) (z : Expansion) → i ≡ length d.expansions → i < j
          → slice_get (d.expansions ++ y ∷ []) j ≡ Some z → ⊥
      late i j z here lt to = elim (at_push d.expansions y j z to) [
        | inl old ↦ let w = slice_get_within d.expansions j z old in omega arith
        | inr new ↦ let w = new.0 in omega arith
      ]

  pub entered_moves : Moves named_sense types d gs (with_expansion d y ok) hs k
  entered_moves = record {
    grows = grows;
    fits = entered_fits;
    nodes = λ t node. record {
      node = node;
      data_of = refl;
      height = refl;
      expanded = λ h. record {
        number = h.number;
        expansion = h.expansion;
        at = at_left d.expansions (y ∷ []) h.number h.expansion h.at;
        of = h.of;
        name = h.name;
      };
    };
    stands = λ n a b t v node agree. (
      λ s. stands_agree gs a b agree n d.nodes fits.nodes t v node s,
      λ s. stands_agree gs b a (agree_back (length gs) a b agree) n d.nodes fits.nodes t v node s,
    );
    back = λ n a good. record {
      gates = Gives_old gs hs k grows a good.gates;
      ok = (parts a good.gates good.ok).0;
      matches = record {
        short = good.matches.short;
        expansions = λ i z at. good.matches.expansions i z (at_left d.expansions (y ∷ []) i z at);
        levels = good.matches.levels;
      };
      admitted = good.admitted;
    };
  }

  -- where the new expansion holds too
  pub entered_extends : (n : Naming) (a : ℕ → Bool) → Good named_sense types d gs n a → ExpansionHolds a n y
      → Extended named_sense types gs n a (with_expansion d y ok) hs
  entered_extends n a good holds =
      let more = growth_extends gs hs k grows is a a good.gates in
      let b = more.assignment in
      let matches = matches_agree types d gs n a b fits more.keeps good.matches in
      let here = expansion_agree gs a b more.keeps n d.nodes fits.nodes types y own holds in
      let level = some_order types d b n are good.admitted matches in
      let one : lit_value b d.ok ≡ true = sym (lit_agree (length gs) a b d.ok fits.ok_of more.keeps) ∙ good.ok in
      let two : lit_value b l ≡ true =
      condition.holds b n more.gives good.admitted.naming level matches.expansions here in record {
        next = b;
        agree = more.keeps;
        good = record {
          gates = more.gives;
          ok = both.value b more.gives ∙ (λ i. one i && two i);
          matches = record {
            short = matches.short;
            expansions = λ i z at. elim (at_push d.expansions y i z at) [
              | inl old ↦ matches.expansions i z old
              | inr new ↦ subst (λ (u : Expansion). ExpansionHolds b n u) new.1 here
            ];
            levels = matches.levels;
          };
          admitted = good.admitted;
        };
      }
