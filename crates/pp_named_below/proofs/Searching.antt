-- A search from its start to its answer.
use Rattle.std.proofs.Common.{◌≡◌, ℕ, zero, suc, ◌+◌, ◌-◌, ◌*◌, ◌≤◌, ◌<◌, Bool, true, false, List, [], ◌∷◌}
use Rattle.std.proofs.Common.{length, map, Some, refl, sym, ap, ◌∙◌, subst, slice_get, slice_index_or, inl, inr, arith}
use Rattle.std.proofs.lemmas.Bool.{and_parts}
use Rattle.std.proofs.lemmas.List.{length-map, length-reverse}
use Rattle.std.proofs.lemmas.Option.{same_Some}
use Rattle.pp_prog.specs.declared.types.TypeTable.{TypeTable}
use Rattle.pp_prog.specs.declared.value.Value.{Value}
use Rattle.pp_prog.specs.Values.{IsBelow}
use Rattle.pp_clause.specs.Literal.{lit_value}
use Rattle.pp_gate.specs.declared.gate.Gate.{Gate}
use Rattle.pp_gate.specs.Circuit.{IsCircuit}
use Rattle.pp_gate.specs.Growth.{AddsGates}
use Rattle.pp_gate.proofs.Growing.{AddsGates_more, AddsGates_none}
use Rattle.pp_gate.proofs.Places.{at_read}
use Rattle.pp_bits.specs.Number.{nat_of}
use Rattle.pp_bits.proofs.Growing.{Gives_before}
use Rattle.pp_domain.specs.Answers.{IsComparison}
use Rattle.pp_domain.specs.Naming.{Naming}
use Rattle.pp_domain.specs.Sense.{Good}
use Rattle.pp_domain.specs.Moves.{Moves}
use Rattle.pp_domain.proofs.AnySort.{Moves_gates}
use Rattle.pp_domain.proofs.Composition.{Extended_grown, Moves_weaker}
use Rattle.pp_named_trees.specs.declared.arena.Expansion.{Expansion}
use Rattle.pp_named_trees.specs.declared.arena.NamedTree.{NamedTree}
use Rattle.pp_named_trees.specs.declared.arena.NamedTrees.{NamedTrees}
use Rattle.pp_named_trees.specs.Arena.{data_of_look, looked}
use Rattle.pp_named_trees.specs.Meaning.{NamedFits, named_sense}
use Rattle.pp_named_trees.proofs.Lawful.{named_lawful}
use Rattle.pp_named_below.specs.declared.fields.TreeField.{TreeField}
use Rattle.pp_named_below.specs.declared.search.Search.{Search}
use Rattle.pp_named_below.specs.declared.search.TheConstants.{FIELD_GATES}
use Rattle.pp_named_below.specs.declared.search.Visit.{Visit}
use Rattle.pp_named_below.specs.Fields.{AreTreeFields}
use Rattle.pp_named_below.specs.Search.{AreTaken, IsNext, IsSame, IsStart, Spends}
use Rattle.pp_named_below.specs.Sound.{IsSearch, IsVisit, LiesBelow}
use Rattle.pp_named_below.proofs.Lying.{below_under, field_lies}

-- ---- the gates

-- so many gates came in, and with those that the fields may add that are left they are at most those of a comparison
pub record Affords (gs hs : List Gate) (looks : ℕ) (s : Search) : Type 0 where
  pub gates : ℕ
  pub adds : AddsGates gs hs gates
  pub few : gates + FIELD_GATES * s.left ≤ 192 + 128 * looks

pub affords_start : (gs : List Gate) (ys zs : List Expansion) (old : NamedTree) (s : Search) → IsCircuit gs → ys ≡ zs
    → IsStart gs (length ys) old s → Affords gs gs (length zs) s
affords_start gs ys zs old s is same start = record {
  gates = 0;
  adds = AddsGates_none gs 0 is;
  few = omega (arith, start.left, ap length same);
}

pub affords_more : (gs fs hs : List Gate) (looks : ℕ) (s t : Search) → Affords gs fs looks s → Spends fs hs s t
    → Affords gs hs looks t
affords_more gs fs hs looks s t has spends = record {
  gates = has.gates + FIELD_GATES * (s.left - t.left);
  adds = AddsGates_more gs fs hs _ _ _ has.adds spends.adds (omega arith);
  few = omega (arith, has.few, spends.left);
}

pub looks_length : (ys : List Expansion) → length (looked ys) ≡ length ys
looks_length ys = length-reverse (map data_of_look ys) ∙ length-map ys data_of_look

pub affords_moves : (types : TypeTable) (d : NamedTrees) (gs hs : List Gate) (s : Search) → NamedFits types d gs
    → Affords gs hs (length d.expansions) s
    → Moves named_sense types d gs d hs (192 + 128 * length (looked d.expansions))
affords_moves types d gs hs s fits has =
    Moves_weaker named_sense types d d gs hs has.gates _
    (Moves_gates named_sense types named_lawful d gs hs has.gates fits has.adds)
    (omega (arith, looks_length d.expansions, has.few))

pub affords_fits : (types : TypeTable) (d : NamedTrees) (gs hs : List Gate) (looks : ℕ) (s : Search)
    → NamedFits types d gs → Affords gs hs looks s → NamedFits types d hs
affords_fits types d gs hs looks s fits has =
    (Moves_gates named_sense types named_lawful d gs hs has.gates fits has.adds).fits

-- ---- the list

pub visit_at : (xs ys : List Visit) (k n : ℕ) (x : Visit) → xs ≡ ys → n ≡ length ys → k < n
    → x ≡ slice_index_or xs k x → slice_get ys k ≡ Some x
visit_at xs ys k n x same count lt is =
    ap (λ zs. slice_get zs k) (sym same) ∙ at_read xs k x (omega (arith, ap length same, count, lt)) is

pub fields_read : (t : NamedTree) (ys zs : List Expansion) (xs fs : List TreeField) → ys ≡ zs → xs ≡ fs
    → AreTreeFields ys t fs → AreTreeFields zs t xs
fields_read t ys zs xs fs same read fields =
    subst (λ us. AreTreeFields us t xs) same (subst (λ gs. AreTreeFields ys t gs) (sym read) fields)

-- ---- the values

module _ (types : TypeTable) (d : NamedTrees) where
  good_before : (gs hs : List Gate) (k : ℕ) (n : Naming) (a : ℕ → Bool) → AddsGates gs hs k
      → Good named_sense types d hs n a → Good named_sense types d gs n a
  good_before gs hs k n a adds good = record {
    gates = Gives_before gs hs k adds a good.gates;
    ok = good.ok;
    matches = good.matches;
    admitted = good.admitted;
  }

  pub search_start : (gs : List Gate) (looks : ℕ) (new old : NamedTree) (s : Search) → IsStart gs looks old s
      → IsSearch types d gs new old s
  search_start gs looks new old s start = record {
    any = record {
      of = start.any.of;
      sound = λ n a v w good one other on. never (sym (start.any.value a good.gates) ∙ on);
    };
    visits = λ i x at. first i x (ap (λ xs. slice_get xs i) (sym start.visits) ∙ at);
  }
    where
      never : {X : Type 0} → false ≡ true → X
      never e = cc

      own : IsVisit types d gs old (record { tree = old; path = start.path })
      own = record {
        of = start.path_on.of;
        under = λ n a w good stands on. record { value = w; stands = stands; under = inl refl };
      }

      first : (i : ℕ) (x : Visit) → slice_get (record { tree = old; path = start.path } ∷ []) i ≡ Some x
          → IsVisit types d gs old x
      first zero x at = subst (λ (z : Visit). IsVisit types d gs old z)
          (same_Some (record { tree = old; path = start.path }) x at) own
      first (suc i) x at = cc

  module _ (gs hs : List Gate) (k : ℕ) (adds : AddsGates gs hs k) (fits : NamedFits types d gs) (new old : NamedTree)
      (x : Visit) (is : IsVisit types d gs old x) (fs : List TreeField)
      (fields : AreTreeFields d.expansions x.tree fs) where
    -- a field of a tree on the list, where it is reached
    lies : (n : Naming) (a : ℕ → Bool) (w : Value) (i : ℕ) (f : TreeField) → Good named_sense types d hs n a
        → n old.of (nat_of a old.name) ≡ Some w → slice_get fs i ≡ Some f → lit_value a x.path ≡ true
        → lit_value a f.lit ≡ true → LiesBelow a n f.tree w
    lies n a w i f good stands at path_on lit_on =
        let early = good_before gs hs k n a adds good in
        let u = is.under n a w early stands path_on in
        below_under a n f.tree u.value w
        (field_lies types d gs n a x.tree fs i f u.value fits early fields at lit_on u.stands) u.under

    same_value : (n : Naming) (a : ℕ → Bool) (t : NamedTree) (v w : Value) → IsSame a new t
        → n new.of (nat_of a new.name) ≡ Some v → LiesBelow a n t w → IsBelow v w
    same_value n a t v w same stands low =
        let kind = ap (λ (c : ℕ). record { 0 = c }) same.of in
        let e : low.value ≡ v = same_Some low.value v
        (sym low.stands ∙ ap (λ c. n c (nat_of a t.name)) kind ∙ ap (λ (c : ℕ). n new.of c) same.name ∙ stands) in
        subst (λ (u : Value). IsBelow u w) e low.below

    next_visit : (y : Visit) → IsNext hs x.path fs y → IsVisit types d hs old y
    next_visit y next = record {
      of = next.step.reaches.of;
      under = λ n a w good stands on.
          let p = and_parts (lit_value a x.path) (lit_value a next.field.lit)
          (sym (next.step.reaches.value a good.gates) ∙ on) in
          let low = lies n a w next.place next.field good stands next.at p.0 p.1 in record {
            value = low.value;
            stands = ap (λ (t : NamedTree). n t.of (nat_of a t.name)) next.step.tree ∙ low.stands;
            under = inr low.below;
          };
    }

    pub search_turn : (s t : Search) → IsSearch types d gs new old s → AreTaken hs new x.path fs s t
        → IsSearch types d hs new old t
    search_turn s t search taken = record {
      any = record {
        of = taken.of;
        sound = λ n a v w good one other on. elim (taken.found a good.gates on) [
          | inl before ↦ search.any.sound n a v w (good_before gs hs k n a adds good) one other before
          | inr m ↦ same_value n a m.field.tree v w m.same one
              (lies n a w m.place m.field good other m.at m.path_on m.lit_on)
        ];
      };
      visits = λ i y at. elim (taken.visits i y at) [
        | inl before ↦ let v = search.visits i y before in record {
          of = adds.literals y.path v.of;
          under = λ n a w good stands on. v.under n a w (good_before gs hs k n a adds good) stands on;
        }
        | inr next ↦ next_visit y next
      ];
    }

  pub search_comparison : (gs hs : List Gate) (k : ℕ) (new old : NamedTree) (s : Search) → NamedFits types d gs
      → AddsGates gs hs k → IsSearch types d hs new old s
      → IsComparison named_sense types d gs d hs new old s.any
  search_comparison gs hs k new old s fits adds search = record {
    of = search.any.of;
    sound = λ n a v w good one other on. search.any.sound n a v w good one other on;
    exact = λ exact. never exact;
    extends = λ n a good any.
        Extended_grown named_sense types named_lawful d gs hs k n a a fits adds.grows adds.circuit good;
  }
    where
      never : {X : Type 0} → false ≡ true → X
      never e = cc
