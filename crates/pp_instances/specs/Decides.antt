-- `same` decides equality, so it is an equivalence, and what is the same is hashed alike.
use Rattle.std.proofs.Common.{◌≡◌, Bool, true, false, ◌&&◌, List, [], ◌∷◌, map, refl, sym, ap, ◌∙◌, subst, eq-eqb}
use Rattle.std.proofs.Common.{true≢false}
use Rattle.std.specs.Prelude.{IsTrue, ◌↔◌}
use Rattle.std.specs.Cmp.{IsEquivalence, IsPartialEquivalence, partial_equiv_from_equiv, both_ways}
use Rattle.std.proofs.lemmas.Bool.{eqb-true}
use Rattle.pp_generic.proofs.Equal.{equal_same, equal_self}
use Rattle.pp_typed.specs.Equal.{equal, pass_all}
use Rattle.pp_instances.specs.Same.{same, same_decl, fed_member}
use Rattle.pp_instances.specs.declared.member.Decl.{Decl}
use Rattle.pp_instances.specs.declared.member.Decl.TheVariants.{Function, Root}
use Rattle.pp_instances.specs.declared.member.Member.{Member}
use Rattle.pp_typed.specs.declared.sort.GenericSort.{GenericSort}

never : {A : Type 0} → false ≡ true → A
never h = absurd (true≢false (sym h))

first_true : (a b : Bool) → a && b ≡ true → a ≡ true
first_true true b h = refl
first_true false b h = never h

second_true : (a b : Bool) → a && b ≡ true → b ≡ true
second_true true b h = h
second_true false b h = never h

both_true : (a b : Bool) → a ≡ true → b ≡ true → a && b ≡ true
both_true true b h k = k
both_true false b h k = h

pub all_same : (xs ys : List GenericSort) → pass_all (map equal xs) ys ≡ true → xs ≡ ys
all_same [] [] h = refl
all_same [] (y ∷ ys) h = never h
all_same (x ∷ xs) [] h = never h
all_same (x ∷ xs) (y ∷ ys) h =
    ap (λ z. z ∷ xs) (equal_same x y (first_true _ _ h)) ∙ ap (λ zs. y ∷ zs) (all_same xs ys (second_true _ _ h))

pub all_self : (xs : List GenericSort) → pass_all (map equal xs) xs ≡ true
all_self [] = refl
all_self (x ∷ xs) = both_true _ _ (equal_self x) (all_self xs)

decl_same : (a b : Decl) → same_decl a b ≡ true → a ≡ b
decl_same (Function f) (Function g) h = ap Function (eqb-true f g h)
decl_same (Function f) (Root q) h = never h
decl_same (Root r) (Function g) h = never h
decl_same (Root r) (Root q) h = ap Root (eqb-true r q h)

decl_self : (a : Decl) → same_decl a a ≡ true
decl_self (Function f) = eq-eqb f f refl
decl_self (Root r) = eq-eqb r r refl

abbrev pub member : Decl → List GenericSort → Member
member of args = record { of = of; args = args }

pub same_is : (a b : Member) → same a b ≡ true → a ≡ b
same_is a b h =
    ap (λ d. member d a.args) (decl_same a.of b.of (first_true _ _ h))
    ∙ ap (member b.of) (all_same a.args b.args (second_true _ _ h))

pub same_self : (a : Member) → same a a ≡ true
same_self a = both_true _ _ (decl_self a.of) (all_self a.args)

turned : (a b : Member) → same a b ≡ true → same b a ≡ true
turned a b h = subst (λ z. same z a ≡ true) (same_is a b h) (same_self a)

pub same_laws : IsEquivalence same
same_laws = record {
  refl = same_self;
  symm = λ a b. both_ways (same a b) (same b a) (turned a b) (turned b a);
  congr = λ a b c h. ap (λ z. same z c) (same_is a b h);
}

pub same_partial_laws : IsPartialEquivalence same
same_partial_laws = partial_equiv_from_equiv same_laws

pub same_fed : (a b : Member) → IsTrue (same a b) → fed_member a ≡ fed_member b
same_fed a b h = ap fed_member (same_is a b h)

agreed : (b c : Bool) → (b ≡ true → c ≡ true) → (c ≡ true → b ≡ true) → b ≡ c
agreed true c there back = sym (there refl)
agreed false true there back = back refl
agreed false false there back = refl

pub agree_all : (b : Bool) (xs ys : List GenericSort) → IsTrue b ↔ (xs ≡ ys) → b ≡ pass_all (map equal xs) ys
agree_all b xs ys h =
    agreed b (pass_all (map equal xs) ys) (λ t. subst (λ l. pass_all (map equal xs) l ≡ true) (h.0 t) (all_self xs))
    (λ t. h.1 (all_same xs ys t))
