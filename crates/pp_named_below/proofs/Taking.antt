-- Fields that are taken up, one after another.
use Rattle.std.proofs.Common.{◌≡◌, ◌⊎◌, ℕ, ◌-◌, ◌*◌, ◌==◌, ◌&&◌, ◌||◌, Bool, true, false, List, []}
use Rattle.std.proofs.Common.{◌∷◌, ◌++◌, length, length-append, Some, refl, sym, ap, ◌∙◌, subst, slice_get, inl, inr}
use Rattle.std.proofs.Common.{arith}
use Rattle.std.proofs.lemmas.Bool.{and_from, and_parts, eqb-true, eq-eqb, or_left, or_right}
use Rattle.pp_clause.specs.Literal.{Literal, lit_value}
use Rattle.pp_gate.specs.declared.gate.Gate.{Gate}
use Rattle.pp_gate.specs.Circuit.{IsOf, StandsFor}
use Rattle.pp_gate.specs.Growth.{AddsGates}
use Rattle.pp_gate.proofs.Growing.{AddsGates_more}
use Rattle.pp_gate.proofs.Places.{at_push}
use Rattle.pp_bits.specs.Number.{nat_of}
use Rattle.pp_bits.proofs.Growing.{Gives_before}
use Rattle.pp_named_trees.specs.declared.arena.NamedTree.{NamedTree}
use Rattle.pp_named_trees.specs.Laws.{name_later}
use Rattle.pp_named_below.specs.declared.fields.TreeField.{TreeField}
use Rattle.pp_named_below.specs.declared.search.Search.{Search}
use Rattle.pp_named_below.specs.declared.search.Visit.{Visit}
use Rattle.pp_named_below.specs.Search.{AreTaken, IsNext, IsSameOr, IsTaken}
use Rattle.pp_named_below.specs.Search.{IsTreeField, Spends, never_there, none_left, taken_up}

either_true : (b c : Bool) → b || c ≡ true → (b ≡ true) ⊎ (c ≡ true)
either_true true c e = inl refl
either_true false c e = inr e

-- ---- the comparison

pub same_apart : (gs : List Gate) (new t : NamedTree) (path any : Literal) → IsOf gs any → (t.of.0 ≡ new.of.0 → ⊥)
    → IsSameOr gs new t path any any
same_apart gs new t path any of differ = record {
  of = of;
  means = λ a gives. (λ on. inl on, λ h. elim h [ inl on ↦ on | inr s ↦ absurd (differ s.1.of) ]);
}

pub same_or : (fs ms hs : List Gate) (j k : ℕ) (new t : NamedTree) (path any same here l : Literal)
    (la lb : List Literal) → t.of.0 ≡ new.of.0 → la ≡ t.name → lb ≡ new.name
    → StandsFor fs same (λ s. nat_of s la == nat_of s lb) → AddsGates fs ms j
    → StandsFor ms here (λ s. lit_value s path && lit_value s same) → AddsGates ms hs k
    → StandsFor hs l (λ s. lit_value s any || lit_value s here) → IsSameOr hs new t path any l
same_or fs ms hs j k new t path any same here l la lb kind left right compared first both second either = record {
  of = either.of;
  means = λ a gives.
      let middle = Gives_before ms hs k second a gives in
      let is : lit_value a same ≡ (nat_of a t.name == nat_of a new.name) =
      compared.value a (Gives_before fs ms j first a middle) ∙ (λ i. nat_of a (left i) == nat_of a (right i)) in (
        λ on. elim (either_true (lit_value a any) (lit_value a here) (sym (either.value a gives) ∙ on)) [
          | inl old ↦ inl old
          | inr new_on ↦
              let p = and_parts (lit_value a path) (lit_value a same) (sym (both.value a middle) ∙ new_on) in
              inr (p.0, record { of = kind; name = eqb-true (nat_of a t.name) (nat_of a new.name) (sym is ∙ p.1) })
        ],
        λ h. either.value a gives ∙ elim h [
          | inl old ↦ or_left (lit_value a any) (lit_value a here) old
          | inr s ↦ or_right (lit_value a any) (lit_value a here) (both.value a middle
              ∙ and_from (lit_value a path) (lit_value a same) s.0
              (is ∙ eq-eqb (nat_of a t.name) (nat_of a new.name) s.1.name))
        ],
      );
}

-- ---- the gates

pub same_gates : (gs fs ms hs : List Gate) (la name : List Literal) → la ≡ name → length name ≡ 32
    → AddsGates gs fs (2 * length la) → AddsGates fs ms 1 → AddsGates ms hs 1 → AddsGates gs hs 66
same_gates gs fs ms hs la name same len one two three =
    AddsGates_more gs ms hs 65 1 66
    (AddsGates_more gs fs ms (2 * length la) 1 65 one two (omega (arith, ap length same, len))) three (omega arith)

pub spends_more : (gs fs hs : List Gate) (s u t : Search) → Spends gs fs s u → Spends fs hs u t → Spends gs hs s t
spends_more gs fs hs s u t one two = record {
  left = omega (arith, one.left, two.left);
  adds = AddsGates_more gs fs hs _ _ _ one.adds two.adds (omega (arith, one.left, two.left));
}

-- ---- a field

pub taken_one : (fs hs : List Gate) (k : ℕ) (new : NamedTree) (path here l : Literal) (f : TreeField) (s : Search)
    (visits : List Visit) → (s.left ≡ 0 → ⊥) → StandsFor fs here (λ a. lit_value a path && lit_value a f.lit)
    → AddsGates fs hs k → IsSameOr hs new f.tree here s.any l
    → visits ≡ s.visits ++ record { tree = f.tree; path = here } ∷ []
    → IsTaken hs new path f s (record { visits = visits; any = l; left = s.left - 1 })
taken_one fs hs k new path here l f s visits some stands adds same push =
    taken_up (record { tree = f.tree; path = here }) (record {
      tree = refl;
      reaches = record {
        of = adds.literals here stands.of;
        value = λ a gives. stands.value a (Gives_before fs hs k adds a gives);
      };
    }) push same (omega (arith, some))

-- ---- a list of fields

pub field_later : (gs fs : List Gate) (k : ℕ) (f : TreeField) → AddsGates gs fs k → IsTreeField gs f
    → IsTreeField fs f
field_later gs fs k f adds is = record {
  lit = adds.literals f.lit is.lit;
  name = name_later gs fs k adds.grows f.tree.name is.name;
}

module _ (new : NamedTree) (path : Literal) (fs : List TreeField) where
  next_later : (gs hs : List Gate) (k : ℕ) (x : Visit) → AddsGates gs hs k → IsNext gs path fs x
      → IsNext hs path fs x
  next_later gs hs k x adds is = record {
    place = is.place;
    field = is.field;
    at = is.at;
    step = record {
      tree = is.step.tree;
      reaches = record {
        of = adds.literals x.path is.step.reaches.of;
        value = λ a gives. is.step.reaches.value a (Gives_before gs hs k adds a gives);
      };
    };
  }

  taken_later : (gs hs : List Gate) (k : ℕ) (s t : Search) → AddsGates gs hs k → AreTaken gs new path fs s t
      → AreTaken hs new path fs s t
  taken_later gs hs k s t adds are = record {
    count = are.count;
    of = adds.literals t.any are.of;
    found = λ a gives on. are.found a (Gives_before gs hs k adds a gives) on;
    visits = λ i x at. elim (are.visits i x at) [
      | inl old ↦ inl old
      | inr one ↦ inr (next_later gs hs k x adds one)
    ];
  }

  pub taken_turn : (gs hs : List Gate) (s u t : Search) (i : ℕ) (f : TreeField) → slice_get fs i ≡ Some f
      → AreTaken gs new path fs s u → Spends gs hs u t → IsTaken hs new path f u t → AreTaken hs new path fs s t
  taken_turn gs hs s u t i f at are spends (none_left none same) =
      subst (λ (r : Search). AreTaken hs new path fs s r) (sym same) (taken_later gs hs _ s u spends.adds are)
  taken_turn gs hs s u t i f at are spends (never_there off same) =
      subst (λ (r : Search). AreTaken hs new path fs s r) (sym same) (taken_later gs hs _ s u spends.adds are)
  taken_turn gs hs s u t i f at are spends (taken_up x step push same count) = record {
    count = let e = ap length push ∙ length-append u.visits (x ∷ []) in omega (arith, e, count, are.count);
    of = same.of;
    found = λ a gives on. elim ((same.means a gives).0 on) [
      | inl old ↦ are.found a (Gives_before gs hs _ spends.adds a gives) old
      | inr new_on ↦ let p = and_parts (lit_value a path) (lit_value a f.lit)
          (sym (step.reaches.value a gives) ∙ new_on.0) in inr (record {
            place = i;
            field = f;
            at = at;
            path_on = p.0;
            lit_on = p.1;
            same = new_on.1;
          })
    ];
    visits = λ j y there. elim (at_push u.visits x j y (ap (λ xs. slice_get xs j) (sym push) ∙ there)) [
      | inl old ↦ elim (are.visits j y old) [
        | inl first ↦ inl first
        | inr one ↦ inr (next_later gs hs _ y spends.adds one)
      ]
      | inr last ↦ inr (subst (λ (z : Visit). IsNext hs path fs z) last.1 (record {
        place = i;
        field = f;
        at = at;
        step = step;
      }))
    ];
  }
