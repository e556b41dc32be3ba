-- The answer of a settled table.
use Rattle.std.proofs.Common.{◌≡◌, ◌∙◌, ℕ, zero, suc, ◌<◌, Bool, List, [], ◌∷◌, Option, Some, None, MatchOption, length}
use Rattle.std.proofs.Common.{slice_get, refl, sym, arith, true≢false}
use Rattle.std.proofs.lemmas.Option.{slice_get_read, slice_get_within}
use Rattle.pp_inhabited.specs.Laws.{FewTypeParams, IsSound, IsClosed}
use Rattle.pp_inhabited.specs.Settled.{AreClosed}
use Rattle.pp_inhabited.specs.Table.{NoneUnwritten, IsFirstUnwritten}
use Rattle.pp_inhabited.specs.Value.{AreInhabited, IsFirstUninhabited}
use Rattle.pp_inhabited.proofs.Exact.{found, has_own}
use Rattle.pp_typed.specs.declared.typed.TypedCtor.{TypedCtor}
use Rattle.pp_typed.specs.declared.typed.TypedRoot.{TypedRoot}

root_at : (roots : List TypedRoot) (r : ℕ) → r < length roots → (root : TypedRoot) × (slice_get roots r ≡ Some root)
root_at [] r lt = absurd (omega arith)
root_at (x ∷ xs) zero lt = (x, refl)
root_at (x ∷ xs) (suc r) lt = root_at xs r (omega arith)

module _ (roots : List TypedRoot) (ctors : List TypedCtor) (t : List Bool) (few : FewTypeParams roots)
    (sound : IsSound roots ctors t)
    (settled : AreClosed roots ctors (length ctors) t) where
  closed : IsClosed roots ctors t
  closed c m has small =
      settled has.0 has.1 m small c (slice_get_read ctors (length ctors) has.0 c refl has.1 (sym has.2))

  pub answer : (o : Option ℕ) → MatchOption o (NoneUnwritten t (length roots)) (IsFirstUnwritten t (length roots))
      → MatchOption o (AreInhabited roots ctors) (IsFirstUninhabited roots ctors)
  answer None h = λ r root there. has_own roots ctors t sound r root there (h r (slice_get_within roots r root there))
  answer (Some r) h =
      let x = root_at roots r h.within in
      record {
        root = x.0;
        there = x.1;
        uninhabited = λ v. true≢false (sym (found roots ctors t few closed r x.0 v) ∙ h.unwritten);
        first = λ q other lt there. has_own roots ctors t sound q other there (h.first q lt);
      }
