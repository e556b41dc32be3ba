-- Tests of whole contents, one constructor after another, and agreement.
use Rattle.std.proofs.Common.{◌≡◌, ◌↔◌, ℕ, zero, suc, ◌+◌, ◌*◌, ◌≤◌, ◌==◌, if◌then◌else◌, Bool}
use Rattle.std.proofs.Common.{true}
use Rattle.std.proofs.Common.{false, ◌&&◌}
use Rattle.std.proofs.Common.{not, List, [], ◌∷◌, ◌++◌, length, take, Some, refl, sym, ap, ◌∙◌, subst, arith, slice_get}
use Rattle.std.proofs.Common.{inl, inr}
use Rattle.std.proofs.lemmas.Bool.{and_from, and_parts, eq-eqb, eqb-true}
use Rattle.std.proofs.lemmas.List.{take_all}
use Rattle.pp_prog.specs.declared.id.DataId.{DataId}
use Rattle.pp_clause.specs.Literal.{Literal, lit_value, opposite}
use Rattle.pp_gate.specs.declared.gate.Gate.{Gate}
use Rattle.pp_gate.specs.Circuit.{IsOf, StandsFor}
use Rattle.pp_gate.specs.Gate.{xor_of}
use Rattle.pp_gate.specs.Growth.{AddsGates}
use Rattle.pp_gate.proofs.Growing.{AddsGates_more, IsOf_more, length-Grows}
use Rattle.pp_gate.proofs.Places.{at_left, at_next, at_push}
use Rattle.pp_bits.specs.Number.{nat_of}
use Rattle.pp_bits.proofs.Growing.{Gives_before, IsOf_negated}
use Rattle.pp_bits.proofs.Numbers.{lit_value_negated}
use Rattle.pp_domain.specs.declared.symbol.Symbol.{Symbol}
use Rattle.pp_bounded_trees.specs.Possible.{total}
use Rattle.pp_bounded_trees.proofs.Candidates.{take_next, total_taken, total_within}
use Rattle.pp_named_trees.specs.declared.arena.Alternative.{Alternative}
use Rattle.pp_named_trees.specs.declared.arena.Expansion.{Expansion}
use Rattle.pp_named_trees.specs.declared.arena.NamedTree.{NamedTree}
use Rattle.pp_named_trees.specs.Instances.{Agrees, SameAlternatives, SameSymbols}
use Rattle.pp_named_trees.specs.Laws.{name_later}
use Rattle.pp_named_trees.proofs.Parts.{parts_later}
use Rattle.pp_named_instances.specs.Tests.{AreAllParts, AreLooks, AreOfOneCtor, AreOfOneData, AreSameTest}
use Rattle.pp_named_instances.specs.Tests.{IsAgreement, IsAgreementIf, IsAgreementTest, IsLookLike, IsContentsTest}
use Rattle.pp_named_instances.specs.Tests.{IsCtorTest, ctor_same_gates}
use Rattle.pp_named_instances.specs.Tests.{agreement_gates, agreement_gates_if}

xnor : (p q : Bool) → (not (xor_of p q) ≡ true) ↔ (p ≡ q)
xnor true true = (λ e. refl, λ e. refl)
xnor true false = (λ e. cc, λ e. cc)
xnor false true = (λ e. cc, λ e. cc)
xnor false false = (λ e. refl, λ e. refl)

both_or_neither : (p q : Bool) → (p ≡ true → q ≡ true) → (q ≡ true → p ≡ true) → p ≡ q
both_or_neither true q f g = sym (f refl)
both_or_neither false true f g = g refl
both_or_neither false false f g = refl

-- ---- sums over the first items

pub total_turn : {X : Type 0} (f : X → ℕ) (xs : List X) (i : ℕ) (x : X) → slice_get xs i ≡ Some x
    → total f (take i xs) + f x ≤ total f (take (i + 1) xs)
total_turn f xs i x at = let e = total_taken f xs i x at in omega arith

pub total_next : {X : Type 0} (f : X → ℕ) (xs : List X) (i : ℕ) (x : X) → slice_get xs i ≡ Some x
    → total f (take i xs) + f x ≤ total f xs
total_next f xs i x at =
    let e = total_taken f xs i x at in let w = total_within f xs (i + 1) in omega arith

pub total_room : {X : Type 0} (f : X → ℕ) (gs fs : List Gate) (xs : List X) (i : ℕ) (x : X) (most : ℕ)
    → AddsGates gs fs (total f (take i xs)) → slice_get xs i ≡ Some x → length gs + total f xs ≤ most
    → length fs + f x ≤ most
total_room f gs fs xs i x most adds at room =
    let e = total_next f xs i x at in
    let g = (length-Grows gs fs (total f (take i xs)) adds.grows).1 in omega arith

-- ---- one constructor

pub ctor_test : (fs ms hs : List Gate) (j k : ℕ) (both differ same lits l : Literal) (x y : Alternative)
    (xs ys : List (Symbol NamedTree))
    → StandsFor fs differ (λ s. xor_of (lit_value s x.lit) (lit_value s y.lit)) → same ≡ opposite differ
    → AddsGates fs ms j → StandsFor ms lits (λ s. lit_value s both && lit_value s same) → AddsGates ms hs k
    → xs ≡ x.fields → ys ≡ y.fields → AreSameTest hs lits xs ys l → IsCtorTest hs both x y l
ctor_test fs ms hs j k both differ same lits l x y xs ys xor turned first and second one other test =
    let fields = subst (λ zs. AreSameTest hs lits x.fields zs l) other
    (subst (λ zs. AreSameTest hs lits zs ys l) one test) in record {
      of = test.of;
      means = λ a gives.
          let before = Gives_before ms hs k second a gives in
          let equal : lit_value a same ≡ not (xor_of (lit_value a x.lit) (lit_value a y.lit)) =
          lit_value_negated a same differ turned ∙ ap not (xor.value a (Gives_before fs ms j first a before)) in
          let means = fields.means a gives in (
            λ on.
                let p = means.0 on in
                let q = and_parts (lit_value a both) (lit_value a same) (sym (and.value a before) ∙ p.0) in
                (q.0, (xnor (lit_value a x.lit) (lit_value a y.lit)).0 (sym equal ∙ q.1), p.1),
            λ p. means.1 (
              and.value a before ∙ and_from (lit_value a both) (lit_value a same) p.0
                  (equal ∙ (xnor (lit_value a x.lit) (lit_value a y.lit)).1 p.1),
              p.2,
            ),
          );
    }

pub one_ctor_later : (gs fs : List Gate) (k : ℕ) (x y : Alternative) → AddsGates gs fs k → AreOfOneCtor gs x y
    → AreOfOneCtor fs x y
one_ctor_later gs fs k x y adds are = record {
  first = IsOf_more gs fs k x.lit adds.grows are.first;
  second = IsOf_more gs fs k y.lit adds.grows are.second;
  fields = record {
    sorts = are.fields.sorts;
    first = parts_later gs fs k adds.grows are.fields.sorts x.fields are.fields.first;
    second = parts_later gs fs k adds.grows are.fields.sorts y.fields are.fields.second;
  };
}

-- as the call reads the fields
pub parts_read : (gs fs ms : List Gate) (j k : ℕ) (x y : Alternative) (xs ys : List (Symbol NamedTree))
    → AddsGates gs fs j → AddsGates fs ms k → xs ≡ x.fields → ys ≡ y.fields → AreOfOneCtor gs x y → AreAllParts ms xs ys
parts_read gs fs ms j k x y xs ys first second one other are =
    let later = one_ctor_later fs ms k x y second (one_ctor_later gs fs j x y first are) in
    subst (λ zs. AreAllParts ms zs ys) (sym one) (subst (λ zs. AreAllParts ms x.fields zs) (sym other) later.fields)

-- ---- all constructors

contents_push : (a : ℕ → Bool) (xs ys : List Alternative) (x y : Alternative) → length xs ≡ length ys
    → SameAlternatives a (xs ++ x ∷ []) (ys ++ y ∷ [])
    ↔ (SameAlternatives a xs ys × (lit_value a x.lit ≡ lit_value a y.lit) × SameSymbols a x.fields y.fields)
contents_push a [] [] x y e = (λ h. (tt, h.0, h.1), λ h. (h.1, h.2, tt))
contents_push a (u ∷ xs) (v ∷ ys) x y e =
    let rest = contents_push a xs ys x y (omega arith) in (
      λ h. let r = rest.0 h.2 in ((h.0, h.1, r.0), r.1, r.2),
      λ h. (h.0.0, h.0.1, rest.1 (h.0.2, h.1, h.2)),
    )
contents_push a [] (v ∷ ys) x y e = absurd (omega arith)
contents_push a (u ∷ xs) [] x y e = absurd (omega arith)

taken : (us vs : List Alternative) (n : ℕ) → length us ≡ length vs → length (take n us) ≡ length (take n vs)
taken us vs zero e = refl
taken [] [] (suc n) e = refl
taken (u ∷ us) (v ∷ vs) (suc n) e = ap suc (taken us vs n (omega arith))
taken [] (v ∷ vs) (suc n) e = absurd (omega arith)
taken (u ∷ us) [] (suc n) e = absurd (omega arith)

pub contents_none : (gs : List Gate) (truth : Literal) → StandsFor gs truth (λ s. true) → IsContentsTest gs [] [] truth
contents_none gs truth stands = record {
  of = stands.of;
  means = λ a gives. (λ on. tt, λ same. stands.value a gives);
}

pub contents_turn : (fs hs : List Gate) (k : ℕ) (all l : Literal) (xs ys : List Alternative) (i : ℕ) (x y : Alternative)
    → length xs ≡ length ys → AddsGates fs hs k → slice_get xs i ≡ Some x → slice_get ys i ≡ Some y
    → IsContentsTest fs (take i xs) (take i ys) all → IsCtorTest hs all x y l
    → IsContentsTest hs (take (i + 1) xs) (take (i + 1) ys) l
contents_turn fs hs k all l xs ys i x y len adds at to before own =
    subst (λ zs. IsContentsTest hs zs (take (i + 1) ys) l) (sym (take_next xs i x at))
    (subst (λ zs. IsContentsTest hs (take i xs ++ x ∷ []) zs l) (sym (take_next ys i y to)) (record {
      of = own.of;
      means = λ a gives.
          let old = before.means a (Gives_before fs hs k adds a gives) in
          let new = own.means a gives in
          let push = contents_push a (take i xs) (take i ys) x y (taken xs ys i len) in (
            λ on. let p = new.0 on in push.1 (old.0 p.0, p.1, p.2),
            λ same. let p = push.0 same in new.1 (old.1 p.0, p.1, p.2),
          );
    }))

pub contents_whole : (hs : List Gate) (l : Literal) (xs ys : List Alternative) (i : ℕ) → length xs ≡ length ys
    → length xs ≤ i → IsContentsTest hs (take i xs) (take i ys) l → IsContentsTest hs xs ys l
contents_whole hs l xs ys i len end same =
    subst (λ zs. IsContentsTest hs zs ys l) (take_all i xs end)
    (subst (λ zs. IsContentsTest hs (take i xs) zs l) (take_all i ys (omega arith)) same)

-- ---- agreement

pub agreement_is : (fs ms hs : List Gate) (j k : ℕ) (names contents differ l : Literal) (y z : Expansion)
    (la lb : List Literal) (xs ys : List Alternative) → la ≡ y.name → lb ≡ z.name → xs ≡ y.alternatives
    → ys ≡ z.alternatives → StandsFor fs names (λ s. nat_of s la == nat_of s lb) → AddsGates fs ms j
    → IsContentsTest ms xs ys contents → AddsGates ms hs k
    → StandsFor hs differ (λ s. xor_of (lit_value s names) (lit_value s contents)) → l ≡ opposite differ
    → IsAgreement hs y z l
agreement_is fs ms hs j k names contents differ l y z la lb xs ys one other left right equal first test second xor
    turned =
    let same = subst (λ vs. IsContentsTest ms y.alternatives vs contents) right
    (subst (λ us. IsContentsTest ms us ys contents) left test) in record {
      of = IsOf_negated hs l differ turned xor.of;
      means = λ a gives.
          let before = Gives_before ms hs k second a gives in
          let named : lit_value a names ≡ (nat_of a y.name == nat_of a z.name) =
          equal.value a (Gives_before fs ms j first a before) ∙ (λ i. nat_of a (one i) == nat_of a (other i)) in
          let is : lit_value a l ≡ not (xor_of (lit_value a names) (lit_value a contents)) =
          lit_value_negated a l differ turned ∙ ap not (xor.value a gives) in
          let means = same.means a before in
          let pair = xnor (lit_value a names) (lit_value a contents) in (
            λ on.
                let e = pair.0 (sym is ∙ on) in (
                  λ number. means.0 (sym e ∙ named ∙ eq-eqb (nat_of a y.name) (nat_of a z.name) number),
                  λ content. eqb-true (nat_of a y.name) (nat_of a z.name) (sym named ∙ e ∙ means.1 content),
                ),
            λ agrees. is ∙ pair.1 (both_or_neither (lit_value a names) (lit_value a contents)
                (λ on. means.1 (agrees.0 (eqb-true (nat_of a y.name) (nat_of a z.name) (sym named ∙ on))))
                (λ on. named ∙ eq-eqb (nat_of a y.name) (nat_of a z.name) (agrees.1 (means.0 on)))),
          );
    }

pub agreement_gates_of : (gs fs ms hs : List Gate) (y : Expansion) (ls : List Literal) (xs : List Alternative)
    → ls ≡ y.name → length y.name ≡ 32 → xs ≡ y.alternatives → AddsGates gs fs (2 * length ls)
    → AddsGates fs ms (total ctor_same_gates xs) → AddsGates ms hs 1 → AddsGates gs hs (agreement_gates y)
agreement_gates_of gs fs ms hs y ls xs name len same first second third =
    let n = ap length name ∙ len in
    let e = ap (total ctor_same_gates) same in
    AddsGates_more gs ms hs (2 * length ls + total ctor_same_gates xs) 1 (agreement_gates y)
    (AddsGates_more gs fs ms (2 * length ls) (total ctor_same_gates xs) (2 * length ls + total ctor_same_gates xs) first
    second (omega arith)) third (omega arith)

pub contents_later : (gs fs : List Gate) (k : ℕ) (us vs xs ys : List Alternative) → AddsGates gs fs k → xs ≡ us
    → ys ≡ vs → AreOfOneData gs us vs → AreOfOneData fs xs ys
contents_later gs fs k us vs xs ys adds one other are =
    subst (λ zs. AreOfOneData fs zs ys) (sym one) (subst (λ zs. AreOfOneData fs us zs) (sym other) (record {
      many = are.many;
      each = λ j u v at to. one_ctor_later gs fs k u v adds (are.each j u v at to);
    }))

pub agreements_none : (gs : List Gate) (truth : Literal) (y : Expansion) → StandsFor gs truth (λ s. true)
    → IsAgreementTest gs y [] truth
agreements_none gs truth y stands = record {
  of = stands.of;
  means = λ a gives. (λ on i z at. cc, λ all. stands.value a gives);
}

-- another tree of the datatype
pub agreement_both : (fs ms hs : List Gate) (j k : ℕ) (all one l : Literal) (y z : Expansion) → z.of.0 ≡ y.of.0
    → AddsGates fs ms j → IsAgreement ms y z one → AddsGates ms hs k
    → StandsFor hs l (λ s. lit_value s all && lit_value s one) → IsAgreementIf hs all y z l
agreement_both fs ms hs j k all one l y z same first own second both = record {
  of = both.of;
  means = λ a gives.
      let new = own.means a (Gives_before ms hs k second a gives) in (
        λ on.
            let p = and_parts (lit_value a all) (lit_value a one) (sym (both.value a gives) ∙ on) in
            (p.0, λ same. new.0 p.1),
        λ p. both.value a gives
            ∙ and_from (lit_value a all) (lit_value a one) p.0 (new.1 (p.1 (data_from z.of y.of same))),
      );
}
  where
    data_from : (d e : DataId) → d.0 ≡ e.0 → d ≡ e
    data_from d e is = let mk : ℕ → DataId = λ n. record { 0 = n } in ap mk is

-- and one of another
pub agreement_skip : (fs : List Gate) (all : Literal) (y z : Expansion) → IsOf fs all → (z.of.0 ≡ y.of.0 → ⊥)
    → IsAgreementIf fs all y z all
agreement_skip fs all y z of differ = record {
  of = of;
  means = λ a gives. (λ on. (on, λ same. absurd (differ (ap (λ (d : DataId). d.0) same))), λ p. p.0);
}

pub gates_if : (y z : Expansion) → z.of.0 ≡ y.of.0 → agreement_gates_if y z ≡ agreement_gates y + 1
gates_if y z same = ap (λ b. if b then agreement_gates y + 1 else 0) (eq-eqb z.of.0 y.of.0 same)

pub agreements_turn : (fs hs : List Gate) (k : ℕ) (all l : Literal) (y z : Expansion) (zs : List Expansion) (i : ℕ)
    → slice_get zs i ≡ Some z → AddsGates fs hs k → IsAgreementTest fs y (take i zs) all → IsAgreementIf hs all y z l
    → IsAgreementTest hs y (take (i + 1) zs) l
agreements_turn fs hs k all l y z zs i at adds before own =
    subst (λ us. IsAgreementTest hs y us l) (sym (take_next zs i z at)) (record {
      of = own.of;
      means = λ a gives.
          let old = before.means a (Gives_before fs hs k adds a gives) in
          let new = own.means a gives in (
            λ on.
                let p = new.0 on in
                λ n u to same. elim (at_push (take i zs) z n u to) [
                  | inl here ↦ old.0 p.0 n u here same
                  | inr there ↦ subst (λ (v : Expansion). Agrees a y v) there.1
                      (p.1 (ap (λ (v : Expansion). v.of) there.1 ∙ same))
                ],
            λ each. new.1 (
              old.1 (λ n u to same. each n u (at_left (take i zs) (z ∷ []) n u to) same),
              each (length (take i zs)) z (at_next (take i zs) [] z),
            ),
          );
    })

pub looks_later : (gs fs : List Gate) (k : ℕ) (y : Expansion) (zs : List Expansion) (i : ℕ) (z : Expansion)
    → AddsGates gs fs k → AreLooks gs y zs → slice_get zs i ≡ Some z → z.of.0 ≡ y.of.0 → IsLookLike fs y z
looks_later gs fs k y zs i z adds looks at same =
    let own = looks.each i z at same in record {
      name = name_later gs fs k adds.grows z.name own.name;
      contents = contents_later gs fs k y.alternatives z.alternatives y.alternatives z.alternatives adds refl refl
          own.contents;
    }

pub agreements_whole : (hs : List Gate) (l : Literal) (y : Expansion) (zs : List Expansion) (i : ℕ) → length zs ≤ i
    → IsAgreementTest hs y (take i zs) l → IsAgreementTest hs y zs l
agreements_whole hs l y zs i end test = subst (λ us. IsAgreementTest hs y us l) (take_all i zs end) test
