-- What a translation of sorts keeps: which operands an operator takes, and what it gives.
use Rattle.std.proofs.Common.{◌≡◌, ⊎_elim, true, ◌&&◌, Some, refl, sym, ap, ◌∙◌, subst}
use Rattle.std.proofs.lemmas.Bool.{and_parts, and_from, or_cases, or_left, or_right}
use Rattle.pp_generic.proofs.Equal.{equal_same}
use Rattle.pp_operators.specs.Classes.{class_of}
use Rattle.pp_operators.specs.Sorts as operators
use Rattle.pp_operators.specs.declared.class.OperatorClass.{OperatorClass}
use Rattle.pp_operators.specs.declared.class.OperatorClass.TheVariants as class
use Rattle.pp_prog.proofs.ValueSorts.{its_sort}
use Rattle.pp_prog.specs.ExprSorts.{alike, binary_sort, class_gives, class_takes, sort_if, unary_sort as prog_unary}
use Rattle.pp_prog.specs.Sorts.{same_sort}
use Rattle.pp_prog.specs.declared.sort.Sort.{Sort}
use Rattle.pp_prog.specs.declared.sort.Sort.TheVariants as prog
use Rattle.pp_tree.specs.declared.operator.BinaryOp.{BinaryOp}
use Rattle.pp_tree.specs.declared.operator.UnaryOp.{UnaryOp}
use Rattle.pp_tree.specs.declared.operator.UnaryOp.TheVariants.{Neg, Not, Flip}
use Rattle.pp_typed.specs.Equal.{equal}
use Rattle.pp_typed.specs.Operators.{Operates, is_number, unary_sort}
use Rattle.pp_typed.specs.declared.sort.GenericSort.{GenericSort}
use Rattle.pp_typed.specs.declared.sort.GenericSort.TheVariants as sort

pub alike_self : (s : Sort) → alike (Some s) (Some s) ≡ Some s
alike_self s = ap (λ b. sort_if b s) (its_sort s)

-- where G gives the sorts of the program
module _ (G : GenericSort → Sort) (int : G sort.Int ≡ prog.Int) (bool : G sort.Bool ≡ prog.Bool) where
  pub unary_right : (op : UnaryOp) (a of : GenericSort) → a ≡ unary_sort op → of ≡ unary_sort op
      → prog_unary op (Some (G a)) ≡ Some (G of)
  unary_right Neg a of p q = ap (λ s. prog_unary Neg (Some s)) (ap G p ∙ int) ∙ ap Some (sym (ap G q ∙ int))
  unary_right Not a of p q =
      ap (λ s. prog_unary Not (Some s)) (ap G p ∙ bool) ∙ ap Some (sym (ap G q ∙ bool))
  unary_right Flip a of p q =
      ap (λ s. prog_unary Flip (Some s)) (ap G p ∙ int) ∙ ap Some (sym (ap G q ∙ int))

  same : (a b : GenericSort) → equal a b ≡ true → same_sort (G a) (G b) ≡ true
  same a b h = ap (λ s. same_sort (G a) (G s)) (sym (equal_same a b h)) ∙ its_sort (G a)

  number : (a : GenericSort) → is_number a ≡ true → same_sort prog.Int (G a) ≡ true
  number a h = subst (λ s. same_sort s (G a) ≡ true) int (same sort.Int a h)

  truth : (a : GenericSort) → equal sort.Bool a ≡ true → same_sort prog.Bool (G a) ≡ true
  truth a h = subst (λ s. same_sort s (G a) ≡ true) bool (same sort.Bool a h)

  two_numbers : (a b : GenericSort) → (is_number a && equal a b) ≡ true
      → (same_sort prog.Int (G a) && same_sort (G a) (G b)) ≡ true
  two_numbers a b h = let p = and_parts _ _ h in and_from _ _ (number a p.0) (same a b p.1)

  takes_right : (c : OperatorClass) (a b : GenericSort)
      → operators.class_takes is_number equal sort.Bool c a b ≡ true → class_takes c (G a) (G b) ≡ true
  takes_right class.Sum a b h = two_numbers a b h
  takes_right class.Product a b h = two_numbers a b h
  takes_right class.Quotient a b h = two_numbers a b h
  takes_right class.Equality a b h = same a b h
  takes_right class.Order a b h = two_numbers a b h
  takes_right class.Logic a b h = let p = and_parts _ _ h in and_from _ _ (truth a p.0) (truth b p.1)
  takes_right class.Bitwise a b h =
      let p = and_parts _ _ h in
      and_from _ _
      (⊎_elim (λ (q : is_number a ≡ true). or_left (same_sort prog.Int (G a)) (same_sort prog.Bool (G a)) (number a q))
      (λ (q : equal sort.Bool a ≡ true). or_right (same_sort prog.Int (G a)) (same_sort prog.Bool (G a)) (truth a q))
      (or_cases _ _ p.0)) (same a b p.1)
  takes_right class.Shift a b h = let p = and_parts _ _ h in and_from _ _ (number a p.0) (number b p.1)

  gives_right : (c : OperatorClass) (a : GenericSort) → class_gives c (G a) ≡ G (operators.class_gives sort.Bool c a)
  gives_right class.Sum a = refl
  gives_right class.Product a = refl
  gives_right class.Quotient a = refl
  gives_right class.Equality a = sym bool
  gives_right class.Order a = sym bool
  gives_right class.Logic a = sym bool
  gives_right class.Bitwise a = refl
  gives_right class.Shift a = refl

  pub binary_right : (op : BinaryOp) (a b of : GenericSort) → Operates op a b of
      → binary_sort op (Some (G a)) (Some (G b)) ≡ Some (G of)
  binary_right op a b of h =
      let c = class_of op in
      ap (λ t. sort_if t (class_gives c (G a))) (takes_right c a b h.0) ∙ ap Some (gives_right c a ∙ ap G (sym h.1))
