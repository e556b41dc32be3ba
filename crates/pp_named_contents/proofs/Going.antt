-- Literals of which exactly one is true go with a value.
use Rattle.std.proofs.Common.{◌≡◌, ◌≢◌, ℕ, zero, suc, Bool, true, false, List, [], ◌∷◌, Some}
use Rattle.std.proofs.Common.{refl, sym}
use Rattle.std.proofs.Common.{ap, ◌∙◌, subst, arith, slice_get, inl, inr}
use Rattle.std.proofs.lemmas.Bool.{cases_Bool}
use Rattle.std.proofs.lemmas.Bool.Decides.{eqb_tells}
use Rattle.pp_prog.specs.declared.id.CtorId.{CtorId}
use Rattle.pp_prog.specs.declared.types.Ctor.{Ctor}
use Rattle.pp_prog.specs.declared.value.Value.{Value}
use Rattle.pp_prog.specs.declared.value.Value.TheVariants as value
use Rattle.pp_prog.proofs.Values.{same_ctor, same_fields}
use Rattle.pp_clause.specs.Literal.{Literal, lit_value}
use Rattle.pp_bits.specs.Number.{bit, lit_bit}
use Rattle.pp_domain.specs.Naming.{Naming, HasCtor}
use Rattle.pp_bounded_trees.specs.Choices.{true_in}
use Rattle.pp_named_contents.specs.Contents.{CanHolds, GoesWith}
use Rattle.pp_named_contents.specs.FreshContents.{ctor_from, sorts_from}

one_bit : (a : ℕ → Bool) (l : Literal) → lit_value a l ≡ true → lit_bit a l ≡ 1
one_bit a l e = ap bit e

none_true : (a : ℕ → Bool) (ls : List Literal) (j : ℕ) (m : Literal) → true_in a ls ≡ 0 → slice_get ls j ≡ Some m
    → lit_value a m ≡ false
none_true a [] j m none at = cc
none_true a (l ∷ ls) zero m none at = elim (cases_Bool (lit_value a m)) [
  | inl on ↦
      let same : l ≡ m = cc in
      let e : lit_bit a l ≡ 1 = ap bit (ap (lit_value a) same ∙ on) in absurd (omega arith)
  | inr off ↦ off
]
none_true a (l ∷ ls) (suc j) m none at = none_true a ls j m (omega arith) at

-- the others are false
pub others_false : (a : ℕ → Bool) (ls : List Literal) (p j : ℕ) (l m : Literal) → true_in a ls ≡ 1
    → slice_get ls p ≡ Some l → lit_value a l ≡ true → slice_get ls j ≡ Some m → j ≢ p → lit_value a m ≡ false
others_false a [] p j l m one at on to differ = cc
others_false a (h ∷ ls) zero zero l m one at on to differ = absurd (differ refl)
others_false a (h ∷ ls) zero (suc j) l m one at on to differ =
    let same : h ≡ l = cc in
    let e : lit_bit a h ≡ 1 = ap bit (ap (lit_value a) same ∙ on) in none_true a ls j m (omega arith) to
others_false a (h ∷ ls) (suc p) zero l m one at on to differ = elim (cases_Bool (lit_value a m)) [
  | inl yet ↦
      let same : h ≡ m = cc in
      let e : lit_bit a h ≡ 1 = ap bit (ap (lit_value a) same ∙ yet) in
      let off = none_true a ls p l (omega arith) at in let no_way : true ≡ false = sym on ∙ off in cc
  | inr off ↦ off
]
others_false a (h ∷ ls) (suc p) (suc j) l m one at on to differ = elim (cases_Bool (lit_value a h)) [
  | inl yet ↦
      let e : lit_bit a h ≡ 1 = ap bit yet in
      let off = none_true a ls p l (omega arith) at in let no_way : true ≡ false = sym on ∙ off in cc
  | inr off ↦
      let e : lit_bit a h ≡ 0 = ap bit off in
      others_false a ls p j l m (omega arith) at on to (λ same. differ (ap suc same))
]

module _ (top : ℕ) (a : ℕ → Bool) (n : Naming) (v : Value) (first : ℕ) (ctors : List Ctor) (ls : List Literal) (p : ℕ)
    (l : Literal) (fields : List Value) (one : true_in a ls ≡ 1) (at : slice_get ls p ≡ Some l)
    (on : lit_value a l ≡ true) (is : v ≡ value.Tree (ctor_from first p) fields)
    (can : CanHolds top n (sorts_from ctors p) fields) where
  pub goes_with : (j : ℕ) (m : Literal) → slice_get ls j ≡ Some m
      → GoesWith top a n v (ctor_from first j) (sorts_from ctors j) m
  goes_with j m to = elim (eqb_tells j p) [
    | inl same ↦
        let lit : m ≡ l = some (sym to ∙ ap (slice_get ls) same.1 ∙ at) in
        let has : v ≡ value.Tree (ctor_from first j) fields =
        is ∙ ap (λ i. value.Tree (ctor_from first i) fields) (sym same.1) in record {
          own = λ vs h. (
            ap (lit_value a) lit ∙ on,
            subst (λ us. CanHolds top n (sorts_from ctors j) us)
                (same_fields (ctor_from first j) (ctor_from first j) fields vs (sym has ∙ h))
                (subst (λ i. CanHolds top n (sorts_from ctors i) fields) (sym same.1) can),
          );
          other = λ not. absurd (not (fields, has));
          either = inl (fields, has);
        }
    | inr differ ↦
        let not : HasCtor (ctor_from first j) v → ⊥ = λ has.
        differ.1 (let e = ap (λ (c : CtorId). c.0)
        (same_ctor (ctor_from first j) (ctor_from first p) has.0 fields (sym has.1 ∙ is)) in omega arith) in record {
          own = λ vs h. absurd (not (vs, h));
          other = λ h. others_false a ls p j l m one at on to differ.1;
          either = inr not;
        }
  ]
    where
      some : {x y : Literal} → Some x ≡ Some y → x ≡ y
      some e = cc
