-- What `instance_cmp` says of two instances: which one precedes the other.
use Rattle.std.proofs.Common.{◌≡◌, ◌<◌, ℕ, Bool, false, List, refl, sym, ap, ◌∙◌, inl, inr, true≢false}
use Rattle.std.proofs.Common.{Ordering, Less, Equal, Greater, is_lt}
use Rattle.std.specs.Cmp.{IsTotalOrder, IsStrictWeakOrder}
use Rattle.std.specs.Cmp.Lexicographic.{bytes_decides, slice_cmp, texts_ties}
use Rattle.std.specs.Ordering.{MatchOrdering, is_eq, nat_cmp, ordering_reverse, ordering_then}
use Rattle.std.proofs.lemmas.Cmp.{nat_cmp_total, nat_list_cmp_total, on_total, ranked, then_total}
use Rattle.std.proofs.lemmas.List.Sorted.{ranks_by}
use Rattle.pp_instances.specs.Order.{MemberOf, Precedes}
use Rattle.pp_instances.specs.declared.member.Instance.{Instance}
use Rattle.pp_order.specs.Instances.{instance_cmp}
use Rattle.pp_typed.specs.declared.typed.Typed.{Typed}

instance_cmp_total : IsTotalOrder instance_cmp
instance_cmp_total =
    then_total (on_total (λ (i : Instance). i.number) nat_cmp_total)
    (on_total (λ (i : Instance). i.name) nat_list_cmp_total)

-- whether an instance comes before another
abbrev pub is_before : Instance → Instance → Bool
is_before a b = is_lt (instance_cmp a b)

pub instance_order : IsStrictWeakOrder is_before
instance_order = ranks_by instance_cmp_total (λ i. i)

-- texts that compare as equal are the same
same_texts : (xs ys : List ℕ) → slice_cmp nat_cmp xs ys ≡ Equal → xs ≡ ys
same_texts xs ys equal = (bytes_decides xs ys).0 (texts_ties xs ys ∙ ap is_eq equal)

module _ (typed : Typed) (kind : MemberOf) (a b : Instance) where
  by_names : (o : Ordering) → slice_cmp nat_cmp b.name a.name ≡ o → a.number ≡ b.number → is_lt o ≡ false
      → (a.name ≡ b.name → ⊥) → Precedes typed kind a b
  by_names Less is same last other = absurd (true≢false last)
  by_names Equal is same last other = absurd (other (sym (same_texts b.name a.name is)))
  by_names Greater is same last other =
      inr (same, nat_list_cmp_total.antisymm a.name b.name ∙ ap ordering_reverse is)

  by_numbers : (o : Ordering)
      → MatchOrdering o (b.number < a.number) (b.number ≡ a.number) (a.number < b.number)
      → is_lt (ordering_then o (slice_cmp nat_cmp b.name a.name)) ≡ false → (a.name ≡ b.name → ⊥)
      → Precedes typed kind a b
  by_numbers Less told last other = absurd (true≢false last)
  by_numbers Equal told last other = by_names (slice_cmp nat_cmp b.name a.name) refl (sym told) last other
  by_numbers Greater told last other = inl told

  -- where b doesn't come before a, and has another name, a precedes b
  pub precedes : is_before b a ≡ false → (a.name ≡ b.name → ⊥) → Precedes typed kind a b
  precedes last other =
      by_numbers (nat_cmp b.number a.number) (ranked b.number a.number (nat_cmp b.number a.number) refl) last other
