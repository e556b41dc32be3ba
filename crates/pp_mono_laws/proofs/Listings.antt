-- The instances of one kind, listed in order, are told by the members.
use Rattle.std.proofs.Common.{◌≡◌, ℕ, List, Contains, refl, sym, ap, ◌∙◌, subst, inl, inr, arith, Less, Equal}
use Rattle.std.proofs.lemmas.Cmp.{nat_list_cmp_total, tied_itself}
use Rattle.pp_instances.specs.Names.{printed}
use Rattle.pp_instances.specs.Order.{AreListed, IsListing, MemberOf, Precedes, member_of}
use Rattle.pp_instances.specs.declared.member.Decl.TheVariants.{Function, Root}
use Rattle.pp_instances.specs.declared.member.Instance.{Instance}
use Rattle.pp_instances.specs.declared.member.Member.{Member}
use Rattle.pp_instances.proofs.Decls.{one_function, one_root}
use Rattle.pp_typed.specs.declared.sort.GenericSort.{GenericSort}
use Rattle.pp_typed.specs.declared.typed.Typed.{Typed}
use Rattle.pp_mono_laws.proofs.Ordered.{at_place, one_order}

abbrev made : ℕ → List GenericSort → List ℕ → Instance
made number args name = record { number = number; args = args; name = name }

module _ (typed : Typed) (kind : MemberOf) where
  never_precedes : (a : Instance) → Precedes typed kind a a → ⊥
  never_precedes a (inl less) = absurd (omega arith)
  never_precedes a (inr both) =
      let less = both.1 in
      let tied = tied_itself nat_list_cmp_total a.name in
      let never : Less ≡ Equal = sym less ∙ tied in cc

  precedes_through : (a b c : Instance) → Precedes typed kind a b → Precedes typed kind b c → Precedes typed kind a c
  precedes_through a b c (inl p) (inl q) = inl (omega (arith, p, q))
  precedes_through a b c (inl p) (inr q) = let e = q.0 in inl (omega (arith, p, e))
  precedes_through a b c (inr p) (inl q) = let e = p.0 in inl (omega (arith, q, e))
  precedes_through a b c (inr p) (inr q) =
      inr (p.0 ∙ q.0, nat_list_cmp_total.trans a.name b.name c.name p.1 q.1)

  module _ (tells : (n m : ℕ) → kind n ≡ kind m → n ≡ m) where
    one_instance : (a b : Instance) → member_of typed kind a ≡ member_of typed kind b
        → a.name ≡ printed typed (member_of typed kind a) → b.name ≡ printed typed (member_of typed kind b) → a ≡ b
    one_instance a b same p q =
        ap (λ n. made n a.args a.name) (tells a.number b.number (ap (λ (m : Member). m.of) same))
        ∙ ap (λ l. made b.number l a.name) (ap (λ (m : Member). m.args) same)
        ∙ ap (λ t. made b.number b.args t) (p ∙ ap (printed typed) same ∙ sym q)

    listed_too : (ms ns : List Member) (xs ys : List Instance) → IsListing typed kind ms xs
        → IsListing typed kind ns ys
        → ((m : Member) → Contains ms m → Contains ns m) → (a : Instance) → Contains xs a → Contains ys a
    listed_too ms ns xs ys p q more a has =
        let here = at_place xs a has in
        let m = member_of typed kind a in
        let found = q.all a.number m (more m (p.only has.0 a here)) refl in
        let there = at_place ys found.0 found.1 in
        subst (λ z. Contains ys z)
        (one_instance found.0 a found.2 (q.names found.1.0 found.0 there) (p.names has.0 a here)) found.1

    pub one_listing : (ms ns : List Member) (xs ys : List Instance) → IsListing typed kind ms xs
        → IsListing typed kind ns ys → ((m : Member) → Contains ms m → Contains ns m)
        → ((m : Member) → Contains ns m → Contains ms m) → xs ≡ ys
    one_listing ms ns xs ys p q more back =
        one_order (Precedes typed kind) never_precedes precedes_through xs ys p.in_order q.in_order
        (listed_too ms ns xs ys p q more) (listed_too ns ms ys xs q p back)

module _ (typed : Typed) (ms ns : List Member) (fs gs rs qs : List Instance) (p : AreListed typed ms fs rs)
    (q : AreListed typed ns gs qs) (more : (m : Member) → Contains ms m → Contains ns m)
    (back : (m : Member) → Contains ns m → Contains ms m) where
  pub functions_are : fs ≡ gs
  functions_are = one_listing typed Function one_function ms ns fs gs p.functions q.functions more back

  pub roots_are : rs ≡ qs
  roots_are = one_listing typed Root one_root ms ns rs qs p.roots q.roots more back
