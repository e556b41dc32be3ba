-- Contents of which all is known hold for the constructor with the values of its fields.
use Rattle.std.proofs.Common.{◌≡◌, ◌≢◌, ℕ, suc, ◌+◌, ◌<◌, ◌≤◌, Bool, true, false, List, [], ◌∷◌, ◌++◌}
use Rattle.std.proofs.Common.{length}
use Rattle.std.proofs.Common.{Some, refl, sym, ap, ◌∙◌, subst, arith, slice_get, inl, inr}
use Rattle.std.proofs.lemmas.Bool.{both_ways, cases_lt}
use Rattle.std.proofs.lemmas.Bool.Decides.{eqb_tells}
use Rattle.std.proofs.lemmas.Option.{same_Some, slice_get_within}
use Rattle.pp_prog.specs.declared.id.CtorId.{CtorId}
use Rattle.pp_prog.specs.declared.id.DataId.{DataId}
use Rattle.pp_prog.specs.declared.sort.Sort.{Sort}
use Rattle.pp_prog.specs.declared.types.Ctor.{Ctor}
use Rattle.pp_prog.specs.declared.types.Datatype.{Datatype}
use Rattle.pp_prog.specs.declared.types.TypeTable.{TypeTable}
use Rattle.pp_prog.specs.declared.value.Value.{Value}
use Rattle.pp_prog.specs.declared.value.Value.TheVariants.{Tree}
use Rattle.pp_prog.specs.Sizes.{ctors_of}
use Rattle.pp_prog.proofs.Values.{ctor_same, same_ctor, same_fields}
use Rattle.pp_clause.specs.Literal.{Literal, lit_value}
use Rattle.pp_gate.specs.declared.gate.Gate.{Gate}
use Rattle.pp_gate.specs.Circuit.{Gives, StandsFor}
use Rattle.pp_gate.proofs.Places.{at_push}
use Rattle.pp_bits.specs.Number.{bit, lit_bit}
use Rattle.pp_domain.specs.declared.symbol.Symbol.{Symbol}
use Rattle.pp_domain.specs.Answers.{IsCtorOf}
use Rattle.pp_domain.specs.Naming.{Naming}
use Rattle.pp_bounded_trees.proofs.Candidates.{ctor_in_block, in_block_ctor}
use Rattle.pp_named_trees.specs.declared.arena.Alternative.{Alternative}
use Rattle.pp_named_trees.specs.declared.arena.NamedTree.{NamedTree}
use Rattle.pp_named_trees.specs.Arena.{true_among}
use Rattle.pp_named_trees.specs.Holding.{AlternativesHold, SymbolsHold}
use Rattle.pp_named_trees.specs.Parts.{PartsFit}
use Rattle.pp_named_contents.specs.FreshContents.{ctor_from, fields_at, sorts_from}
use Rattle.pp_named_contents.specs.Known.{AreBlankParts, AreFieldsOf, AreKnown, AreKnownTo, IsKnownAt}
use Rattle.pp_named_contents.proofs.Blocks.{block_length, ctor_fits}

pub known_own : (gs : List Gate) (own c : CtorId) (ss : List Sort) (l : Literal) (fields xs : List (Symbol NamedTree))
    → own.0 ≡ c.0 → PartsFit gs ss fields → StandsFor gs l (λ s. true) → xs ≡ fields
    → IsKnownAt gs own ss c fields (record { ctor = own; lit = l; fields = xs })
known_own gs own c ss l fields xs same fits stands is = record {
  part = record {
    ctor = refl;
    lit = stands.of;
    fields = subst (λ ys. PartsFit gs ss ys) (sym is) fits;
    blank = λ a gives off. absurd (both_ways (lit_value a l) off (stands.value a gives));
  };
  known = record {
    own = λ e. is;
    on = λ e a gives. stands.value a gives;
    off = λ differ. absurd (differ (ctor_same own c same));
  };
}

pub known_other : (gs : List Gate) (own c : CtorId) (ss : List Sort) (l : Literal) (fields xs : List (Symbol NamedTree))
    → (own.0 ≡ c.0 → ⊥) → StandsFor gs l (λ s. false) → AreBlankParts gs ss xs
    → IsKnownAt gs own ss c fields (record { ctor = own; lit = l; fields = xs })
known_other gs own c ss l fields xs differ stands are = record {
  part = record { ctor = refl; lit = stands.of; fields = are.fits; blank = λ a gives off. are.blank a gives };
  known = record {
    own = λ e. absurd (differ (ap (λ (d : CtorId). d.0) e));
    on = λ e. absurd (differ (ap (λ (d : CtorId). d.0) e));
    off = λ not a gives. stands.value a gives;
  };
}

pub known_none : (gs : List Gate) (first : ℕ) (ctors : List Ctor) (c : CtorId) (fields : List (Symbol NamedTree))
    (xs : List Alternative) → xs ≡ [] → AreKnownTo gs first ctors 0 c fields xs
known_none gs first ctors c fields xs none = subst (λ ys. AreKnownTo gs first ctors 0 c fields ys) (sym none)
    (record { many = refl; each = λ j x at. cc })

pub known_turn : (gs : List Gate) (first : ℕ) (ctors : List Ctor) (i : ℕ) (c : CtorId)
    (fields : List (Symbol NamedTree)) (xs ys : List Alternative) (x : Alternative) (own : CtorId) (k : Ctor)
    (ss : List Sort)
    → AreKnownTo gs first ctors i c fields xs → own ≡ ctor_from first i → slice_get ctors i ≡ Some k → ss ≡ k.fields
    → IsKnownAt gs own ss c fields x → ys ≡ xs ++ x ∷ [] → AreKnownTo gs first ctors (i + 1) c fields ys
known_turn gs first ctors i c fields xs ys x own k ss all number at same is push =
    subst (λ zs. AreKnownTo gs first ctors (i + 1) c fields zs) (sym push) (record {
      many = length_push xs ∙ ap (λ n. n + 1) all.many;
      each = λ j y to. elim (at_push xs x j y to) [
        | inl old ↦ all.each j y old
        | inr new ↦ subst (λ (z : Alternative). IsKnownAt gs (ctor_from first j) (sorts_from ctors j) c fields z) new.1
            (subst (λ n. IsKnownAt gs (ctor_from first n) (sorts_from ctors n) c fields x) (sym (new.0 ∙ all.many))
            (subst (λ zs. IsKnownAt gs (ctor_from first i) zs c fields x)
            (same ∙ ap (λ o. fields_at o) (sym at)) (subst (λ d. IsKnownAt gs d ss c fields x) number is)))
      ];
    })
  where
    length_push : (zs : List Alternative) → length (zs ++ x ∷ []) ≡ length zs + 1
    length_push [] = refl
    length_push (z ∷ zs) = let e = length_push zs in omega arith

-- the fields are of the sorts that stand at the constructor's place
pub known_sorts : (types : TypeTable) (gs : List Gate) (of : DataId) (t : Datatype) (c : CtorId)
    (fields : List (Symbol NamedTree)) (ctors : List Ctor) (i : ℕ) (k : Ctor) (ss : List Sort)
    → slice_get types.datatypes of.0 ≡ Some t → ctors ≡ ctors_of types of → slice_get ctors i ≡ Some k → ss ≡ k.fields
    → AreFieldsOf types gs c fields → t.first.0 + i ≡ c.0 → PartsFit gs ss fields
known_sorts types gs of t c fields ctors i k ss is block at same are here =
    let own = ctor_in_block types of t i k is (ap (λ ks. slice_get ks i) (sym block) ∙ at) in
    let entry : are.0 ≡ k = same_Some are.0 k (sym are.1 ∙ ap (slice_get types.ctors) (sym here) ∙ own.0) in
    subst (λ zs. PartsFit gs zs fields) (ap (λ (e : Ctor). e.fields) entry ∙ sym same) are.2

-- where each literal is true at the place of c alone, exactly one is true if c stands among them
none_before : (a : ℕ → Bool) (f c : ℕ) (xs : List Alternative)
    → ((j : ℕ) (x : Alternative) → slice_get xs j ≡ Some x → f + j ≢ c → lit_value a x.lit ≡ false) → c < f
    → true_among a xs ≡ 0
none_before a f c [] each lt = refl
none_before a f c (x ∷ xs) each lt =
    let own : lit_bit a x.lit ≡ 0 = ap bit (each 0 x refl (λ e. omega (arith, e, lt))) in
    let rest = none_before a (suc f) c xs (λ j y at not. each (suc j) y at (λ e. not (omega (arith, e))))
    (omega (arith, lt)) in omega arith

one_among : (a : ℕ → Bool) (f c : ℕ) (xs : List Alternative)
    → ((j : ℕ) (x : Alternative) → slice_get xs j ≡ Some x → f + j ≡ c → lit_value a x.lit ≡ true)
    → ((j : ℕ) (x : Alternative) → slice_get xs j ≡ Some x → f + j ≢ c → lit_value a x.lit ≡ false)
    → f ≤ c → c < f + length xs → true_among a xs ≡ 1
one_among a f c [] on off le lt = absurd (omega arith)
one_among a f c (x ∷ xs) on off le lt = elim (eqb_tells f c) [
  | inl same ↦
      let own : lit_bit a x.lit ≡ 1 = ap bit (on 0 x refl (omega (arith, same.1))) in
      let rest = none_before a (suc f) c xs (λ j y at not. off (suc j) y at (λ e. not (omega (arith, e))))
      (omega (arith, same.1)) in omega arith
  | inr differ ↦
      let own : lit_bit a x.lit ≡ 0 = ap bit (off 0 x refl (λ e. differ.1 (omega (arith, e)))) in
      let more : suc f ≤ c = later differ.1 in
      let rest = one_among a (suc f) c xs (λ j y at e. on (suc j) y at (omega (arith, e)))
      (λ j y at not. off (suc j) y at (λ e. not (omega (arith, e)))) more (omega arith) in omega arith
]
  where
    later : (f ≡ c → ⊥) → suc f ≤ c
    later not = elim (cases_lt f c) [ inl less ↦ omega (arith, less) | inr ge ↦ absurd (not (omega (arith, ge, le))) ]

pub known_are : (types : TypeTable) (gs : List Gate) (of : DataId) (t : Datatype) (c : CtorId)
    (fields : List (Symbol NamedTree)) (ctors : List Ctor) (n : ℕ) (xs : List Alternative)
    → slice_get types.datatypes of.0 ≡ Some t → IsCtorOf types c of → ctors ≡ ctors_of types of → n ≡ length ctors
    → AreKnownTo gs t.first.0 ctors n c fields xs → AreKnown types gs of c fields xs
known_are types gs of t c fields ctors n xs is ctor block whole given =
    let all : AreKnownTo gs t.first.0 (ctors_of types of) (length (ctors_of types of)) c fields xs =
    subst (λ ks. AreKnownTo gs t.first.0 ks (length ks) c fields xs) block
    (subst (λ m. AreKnownTo gs t.first.0 ctors m c fields xs) whole given) in
    let many : length xs ≡ t.count = all.many ∙ block_length types of t is in
    let here = in_block_ctor types of c.0 ctor.0 ctor.1 ctor.2 in
    let same : here.datatype ≡ t = same_Some here.datatype t (sym here.at_data ∙ is) in
    let number : c.0 ≡ t.first.0 + here.place =
    here.number ∙ ap (λ (u : Datatype). u.first.0 + here.place) same in
    let low = slice_get_within (ctors_of types of) here.place ctor.0 here.at in record {
      fits = record {
        datatype = t;
        at = is;
        many = many;
        each = λ j x at. ctor_fits types gs of t is j x
            (let w = slice_get_within xs j x at in omega (arith, all.many)) (all.each j x at).part;
        one = λ a gives. one_among a t.first.0 c.0 xs
            (λ j x at e. (all.each j x at).known.on
            ((all.each j x at).part.ctor ∙ ctor_same (ctor_from t.first.0 j) c e) a gives)
            (λ j x at not. (all.each j x at).known.off
            (λ e. not (ap (λ (d : CtorId). d.0) (sym (all.each j x at).part.ctor ∙ e))) a gives)
            (omega (arith, number)) (let m = all.many in omega (arith, number, low, m));
      };
      each = λ j x at. (all.each j x at).known;
    }

pub known_holds : (types : TypeTable) (gs : List Gate) (of : DataId) (c : CtorId) (fields : List (Symbol NamedTree))
    (xs : List Alternative) (a : ℕ → Bool) (n : Naming) (vs : List Value) → AreKnown types gs of c fields xs
    → Gives a gs → SymbolsHold a n fields vs → AlternativesHold a n (Tree c vs) xs
known_holds types gs of c fields xs a n vs known gives are j x at =
    let is = known.each j x at in record {
      own = λ us same.
          let ctor : x.ctor ≡ c = sym (same_ctor c x.ctor vs us same) in (
            is.on ctor a gives,
            subst (λ ws. SymbolsHold a n x.fields ws) (same_fields c x.ctor vs us same)
                (subst (λ ys. SymbolsHold a n ys vs) (sym (is.own ctor)) are),
          );
      other = λ not. is.off (λ e. not (vs, ap (λ d. Tree d vs) (sym e))) a gives;
    }
