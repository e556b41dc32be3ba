-- Lists of members that are proper: each is of a declaration, at sorts in range, and the types of these are in the
-- list.
use Rattle.std.proofs.Common.{◌≡◌, ⊎_elim, ℕ, List, [], ◌∷◌, ◌++◌, map, length, refl, sym, ap, ◌∙◌, subst}
use Rattle.std.specs.Prelude.{Some, slice_get, Contains}
use Rattle.std.proofs.lemmas.List.{length-map}
use Rattle.std.proofs.lemmas.List.Elements.{Contains-append_cases, Contains-append_left, Contains-append_right}
use Rattle.pp_list.specs.Joined.{joined}
use Rattle.pp_instances.proofs.Kept.{nothing_in}
use Rattle.pp_instances.proofs.Mentioned.{types_int, types_bool, types_param, types_root}
use Rattle.pp_instances.specs.Uses.{at_args, function_at, root_at, types_in, types_of}
use Rattle.pp_instances.specs.declared.member.Member.{Member}
use Rattle.pp_members.proofs.Lists.{first_in, first_or_later, joined_in, later_in}
use Rattle.pp_members.proofs.Put.{puts_in_range}
use Rattle.pp_members.specs.Proper.{IsProper, of_function, of_root}
use Rattle.pp_typed.specs.InRange.{IsInRange, AreInRange, int_in_range, bool_in_range, param_in_range, root_in_range}
use Rattle.pp_typed.specs.InRange.{none_in_range, more_in_range}
use Rattle.pp_typed.specs.Put.{put}
use Rattle.pp_typed.specs.declared.sort.GenericSort.{GenericSort}
use Rattle.pp_typed.specs.declared.typed.Typed.{Typed}
use Rattle.pp_typed.specs.declared.typed.TypedDef.{TypedDef}
use Rattle.pp_typed.specs.declared.typed.TypedRoot.{TypedRoot}

module _ (typed : Typed) (params : ℕ) where
  -- the member is one of a declaration, at as many sorts as that has type parameters; the sorts are in range in a
  -- declaration with so many
  pub data IsProperIn : Member → Type 0 where
    function_in : {m : Member} (f : ℕ) (d : TypedDef) (args : List GenericSort) → m ≡ function_at f args
        → slice_get typed.defs f ≡ Some d → length args ≡ d.type_params → AreInRange typed.roots params args
        → IsProperIn m
    root_in : {m : Member} (r : ℕ) (root : TypedRoot) (args : List GenericSort) → m ≡ root_at r args
        → slice_get typed.roots r ≡ Some root → length args ≡ root.type_params → AreInRange typed.roots params args
        → IsProperIn m

  -- each of the members is, and the types of its arguments are among them
  pub record AreProperIn (l : List Member) : Type 0 where
    pub each : (m : Member) → Contains l m → IsProperIn m
    pub types : (m : Member) → Contains l m → (s : GenericSort) → Contains m.args s → (n : Member)
        → Contains (types_in s) n → Contains l n

  pub proper_none : AreProperIn []
  proper_none = record { each = λ m h. absurd (nothing_in m h); types = λ m h. absurd (nothing_in m h) }

  pub proper_same : {a b : List Member} → b ≡ a → AreProperIn a → AreProperIn b
  proper_same e h = subst AreProperIn (sym e) h

  pub proper_append : {a b : List Member} → AreProperIn a → AreProperIn b → AreProperIn (a ++ b)
  proper_append {a} {b} p q = record {
    each = λ m h. ⊎_elim (p.each m) (q.each m) (Contains-append_cases a b m h);
    types = λ m h s c n k. ⊎_elim (λ (l : Contains a m). Contains-append_left a b n (p.types m l s c n k))
        (λ (r : Contains b m). Contains-append_right a b n (q.types m r s c n k)) (Contains-append_cases a b m h);
  }

  -- a member, and the types of its arguments
  pub proper_member : (m : Member) → IsProperIn m → AreProperIn (types_of m.args) → AreProperIn (m ∷ types_of m.args)
  proper_member m this p = record {
    each = λ k h. ⊎_elim (λ (e : m ≡ k). subst IsProperIn e this) (p.each k) (first_or_later m (types_of m.args) k h);
    types = λ k h s c n t. later_in m (types_of m.args) n
        (⊎_elim (λ (e : m ≡ k). joined_in types_in m.args s n (subst (λ (z : Member). Contains z.args s) (sym e) c) t)
        (λ (l : Contains (types_of m.args) k). p.types k l s c n t) (first_or_later m (types_of m.args) k h));
  }

  mutual
    -- the types that a sort in range is made of
    pub proper_sort : {s : GenericSort} → IsInRange typed.roots params s → AreProperIn (types_in s)
    proper_sort (int_in_range is) = proper_same (ap types_in is ∙ types_int) proper_none
    proper_sort (bool_in_range is) = proper_same (ap types_in is ∙ types_bool) proper_none
    proper_sort (param_in_range i is lt) = proper_same (ap types_in is ∙ types_param i) proper_none
    proper_sort (root_in_range r root args is declared all each) =
        proper_same (ap types_in is ∙ types_root r args)
        (proper_member (root_at r args) (root_in r root args refl declared all each) (proper_sorts each))

    pub proper_sorts : {ss : List GenericSort} → AreInRange typed.roots params ss → AreProperIn (types_of ss)
    proper_sorts none_in_range = proper_none
    proper_sorts (more_in_range here more) = proper_append (proper_sort here) (proper_sorts more)

  pub proper_joined : {A : Type 0} (f : A → List Member) (xs : List A) → ((x : A) → Contains xs x → AreProperIn (f x))
      → AreProperIn (joined (map f xs))
  proper_joined f [] h = proper_none
  proper_joined f (x ∷ xs) h = proper_append (h x (first_in x xs)) (proper_joined f xs (λ y c. h y (later_in x xs y c)))

-- a member of a declaration at the arguments of a member
pub proper_put : (typed : Typed) (params : ℕ) (args : List GenericSort) → AreInRange typed.roots 0 args
    → length args ≡ params → (m : Member) → IsProperIn typed params m → IsProper typed (at_args args m)
proper_put typed params args ok all m (function_in f d sorts is declared whole each) =
    of_function f d (map (put args) sorts) (ap (at_args args) is) declared (length-map sorts (put args) ∙ whole)
    (puts_in_range args typed.roots params 0 ok all each)
proper_put typed params args ok all m (root_in r root sorts is declared whole each) =
    of_root r root (map (put args) sorts) (ap (at_args args) is) declared (length-map sorts (put args) ∙ whole)
    (puts_in_range args typed.roots params 0 ok all each)
