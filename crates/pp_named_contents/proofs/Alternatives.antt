-- Alternatives that come in one after another.
use Rattle.std.proofs.Common.{◌≡◌, ℕ, zero, suc, ◌≤◌, Bool, List, [], ◌∷◌, ◌++◌, length}
use Rattle.std.proofs.Common.{Some}
use Rattle.std.proofs.Common.{refl, sym, ap, ◌∙◌, subst, slice_get, inl, inr}
use Rattle.pp_prog.specs.declared.id.CtorId.{CtorId}
use Rattle.pp_prog.specs.declared.sort.Sort.{Sort}
use Rattle.pp_prog.specs.declared.value.Value.{Value}
use Rattle.pp_prog.specs.declared.value.Value.TheVariants as value
use Rattle.pp_prog.proofs.Values.{same_fields}
use Rattle.pp_gate.specs.declared.gate.Gate.{Gate}
use Rattle.pp_gate.specs.Circuit.{IsCircuit, IsOf}
use Rattle.pp_gate.specs.Growth.{Grows}
use Rattle.pp_gate.specs.Laws.{AgreeUpTo}
use Rattle.pp_gate.proofs.Agreement.{Gives_old, agree_along, lit_agree}
use Rattle.pp_gate.proofs.Extension.{growth_extends}
use Rattle.pp_gate.proofs.Growing.{IsOf_more, length-Grows}
use Rattle.pp_gate.proofs.Places.{at_push}
use Rattle.pp_domain.specs.Naming.{Naming, HasCtor}
use Rattle.pp_named_trees.specs.declared.arena.Alternative.{Alternative}
use Rattle.pp_named_contents.specs.Contents.{AreContents, AreGuarded, ChosenContents, GoesWith, PartFitsAt}
use Rattle.pp_named_trees.specs.Holding.{AlternativeHolds, AlternativesHold, SymbolsHold}
use Rattle.pp_named_trees.proofs.Parts.{parts_agree, parts_later}

alternative_later : (gs hs : List Gate) (k : ℕ) → Grows gs hs k → (c : CtorId) (ss : List Sort) (x : Alternative)
    → PartFitsAt gs c ss x → PartFitsAt hs c ss x
alternative_later gs hs k grows c ss x fits = record {
  ctor = fits.ctor;
  lit = IsOf_more gs hs k x.lit grows fits.lit;
  fields = parts_later gs hs k grows ss x.fields fits.fields;
  blank = λ a gives off. fits.blank a (Gives_old gs hs k grows a gives) off;
}

alternative_agree : (gs : List Gate) (a b : ℕ → Bool) → AgreeUpTo (length gs) a b → (n : Naming) (c : CtorId)
    (ss : List Sort) (x : Alternative) (v : Value) → PartFitsAt gs c ss x → AlternativeHolds a n v x
    → AlternativeHolds b n v x
alternative_agree gs a b agree n c ss x v fits holds =
    let same = lit_agree (length gs) a b x.lit fits.lit agree in record {
      own = λ vs is. let h = holds.own vs is in
          (sym same ∙ h.0, parts_agree gs a b agree n ss x.fields vs fits.fields h.1);
      other = λ not. sym same ∙ holds.other not;
    }

-- one more that holds, where the earlier ones do
holds_all : (a : ℕ → Bool) (n : Naming) (v : Value) (xs : List Alternative) (x : Alternative)
    → AlternativesHold a n v xs → AlternativeHolds a n v x → AlternativesHold a n v (xs ++ x ∷ [])
holds_all a n v xs x all own j y at = elim (at_push xs x j y at) [
  | inl old ↦ all j y old
  | inr new ↦ subst (λ (z : Alternative). AlternativeHolds a n v z) new.1 own
]

pub contents_push : (gs fs hs : List Gate) (m k top : ℕ) (ctor : ℕ → CtorId) (sorts : ℕ → List Sort)
    (xs ys : List Alternative) (x : Alternative) → Grows gs fs m → IsCircuit fs → Grows fs hs k → IsCircuit hs
    → AreContents gs fs top ctor sorts xs → IsOf gs x.lit → x.ctor ≡ ctor (length xs)
    → AreGuarded fs hs top x.lit (sorts (length xs)) x.fields → ys ≡ xs ++ x ∷ [] → AreContents gs hs top ctor sorts ys
contents_push gs fs hs m k top ctor sorts xs ys x first is second more all lit own fields push =
    subst (λ zs. AreContents gs hs top ctor sorts zs) (sym push) (record {
      each = λ j y at. elim (at_push xs x j y at) [
        | inl old ↦ alternative_later fs hs k second (ctor j) (sorts j) y (all.each j y old)
        | inr new ↦ subst (λ (z : Alternative). PartFitsAt hs (ctor j) (sorts j) z) new.1
            (subst (λ i. PartFitsAt hs (ctor i) (sorts i) x) (sym new.0) here)
      ];
      lits = λ j y at. elim (at_push xs x j y at) [
        | inl old ↦ all.lits j y old
        | inr new ↦ subst (λ (z : Alternative). IsOf gs z.lit) new.1 lit
      ];
      chosen = λ a n v gives goes.
          let one = all.chosen a n v gives (λ j y at. goes j y (at_left_push xs x j y at)) in
          last a n v one (goes (length xs) x (at_next_push xs x));
    })
  where
    here : PartFitsAt hs (ctor (length xs)) (sorts (length xs)) x
    here = record {
      ctor = own;
      lit = IsOf_more fs hs k x.lit second (IsOf_more gs fs m x.lit first lit);
      fields = fields.fits;
      blank = fields.blank;
    }

    at_left_push : (zs : List Alternative) (z : Alternative) (j : ℕ) (y : Alternative) → slice_get zs j ≡ Some y
        → slice_get (zs ++ z ∷ []) j ≡ Some y
    at_left_push [] z j y at = cc
    at_left_push (w ∷ zs) z zero y at = at
    at_left_push (w ∷ zs) z (suc j) y at = at_left_push zs z j y at

    at_next_push : (zs : List Alternative) (z : Alternative) → slice_get (zs ++ z ∷ []) (length zs) ≡ Some z
    at_next_push [] z = refl
    at_next_push (w ∷ zs) z = at_next_push zs z

    low : length gs ≤ length fs
    low = (length-Grows gs fs m first).0

    kept : (a b : ℕ → Bool) (n : Naming) (v : Value) → AgreeUpTo (length fs) a b → AlternativesHold a n v xs
        → AlternativesHold b n v xs
    kept a b n v agree holds j y at =
        alternative_agree fs a b agree n (ctor j) (sorts j) y v (all.each j y at) (holds j y at)

    turned : (a : ℕ → Bool) (c d : CtorId) (v : Value) → c ≡ d → (HasCtor d v → ⊥) → HasCtor c v → ⊥
    turned a c d v same not has = not (has.0, has.1 ∙ ap (λ b. value.Tree b has.0) same)

    last : (a : ℕ → Bool) (n : Naming) (v : Value) → ChosenContents gs fs a n v xs
        → GoesWith top a n v (ctor (length xs)) (sorts (length xs)) x.lit → ChosenContents gs hs a n v (xs ++ x ∷ [])
    last a n v one goes = elim goes.either [
      | inl has ↦
          let with_it = goes.own has.0 has.1 in
          let two = fields.chosen one.next n has.0 one.gives with_it.1 in
          let along = agree_along (length gs) (length fs) a one.next two.next low one.keeps two.keeps in
          let on = sym (lit_agree (length gs) a one.next x.lit lit one.keeps) ∙ with_it.0 in
          let after = sym (lit_agree (length gs) a two.next x.lit lit along) ∙ with_it.0 in record {
            next = two.next;
            gives = two.gives;
            keeps = along;
            holds = holds_all two.next n v xs x (kept one.next two.next n v two.keeps one.holds) (record {
              own = λ vs is. (
                after,
                subst (λ us. SymbolsHold two.next n x.fields us)
                    (same_fields (ctor (length xs)) x.ctor has.0 vs (sym has.1 ∙ is)) (two.holds on),
              );
              other = λ not. absurd (not (has.0, has.1 ∙ ap (λ b. value.Tree b has.0) (sym own)));
            });
          }
      | inr without ↦
          let two = growth_extends fs hs k second more one.next one.next one.gives in
          let along = agree_along (length gs) (length fs) a one.next two.assignment low one.keeps two.keeps in
          let off = sym (lit_agree (length gs) a two.assignment x.lit lit along) ∙ goes.other without in record {
            next = two.assignment;
            gives = two.gives;
            keeps = along;
            holds = holds_all two.assignment n v xs x (kept one.next two.assignment n v two.keeps one.holds) (record {
              own = λ vs is. absurd (turned a x.ctor (ctor (length xs)) v own without (vs, is));
              other = λ not. off;
            });
          }
    ]
