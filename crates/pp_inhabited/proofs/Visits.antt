-- What visits write and keep.
use Rattle.std.proofs.Common.{◌≡◌, ◌∙◌, ℕ, zero, suc, ◌≤◌, Bool, true, false, not, ◌&&◌, nat_eq, List, [], ◌∷◌, Option}
use Rattle.std.proofs.Common.{Some, None, map, length, slice_get, unwrap_or, refl, sym, subst, arith}
use Rattle.std.proofs.lemmas.Bool.{and_parts, eqb-true, not-true}
use Rattle.std.proofs.lemmas.List.{length-map}
use Rattle.std.proofs.lemmas.Option.{get_or_from_slice_get, slice_get_within}
use Rattle.pp_inhabited.specs.Laws.{FewTypeParams, FitsMask, IsSound}
use Rattle.pp_typed.specs.Put.{put}
use Rattle.pp_inhabited.specs.Table.{all_live, has_arity, lives, look, mask_of, is_dead}
use Rattle.pp_typed.specs.Value.{HasValue, an_int, a_truth, a_param, HaveValues, no_values, more_values}
use Rattle.pp_inhabited.proofs.Digits.{dead_at, mask_digit, mask_small}
use Rattle.pp_inhabited.proofs.Layers.{lives-param, lives-root, put-int, put-truth, put-param, put-root}
use Rattle.pp_typed.specs.declared.sort.GenericSort.{GenericSort}
use Rattle.pp_typed.specs.declared.sort.GenericSort.TheOpen as layer
use Rattle.pp_typed.specs.declared.sort.GenericSort.TheVariants.{Param, Root, rolls-Int, rolls-Bool, rolls-Param}
use Rattle.pp_typed.specs.declared.sort.GenericSort.TheVariants.{rolls-Root}
use Rattle.pp_typed.specs.declared.sort.GenericSort.TheFolds.{ind-GenericSort, map-GenericSort}
use Rattle.pp_typed.specs.declared.sort.GenericSort.TheViews.{roll-GenericSort}
use Rattle.pp_typed.specs.declared.typed.TypedCtor.{TypedCtor}
use Rattle.pp_typed.specs.declared.typed.TypedRoot.{TypedRoot}

-- what lives by a sound table has a value
module _ (roots : List TypedRoot) (ctors : List TypedCtor) (t : List Bool) (few : FewTypeParams roots)
    (sound : IsSound roots ctors t) (m : ℕ) (args : List GenericSort)
    (fits : FitsMask roots ctors t m args) where
  abbrev LivesHas : GenericSort → Type 0
  LivesHas s = lives roots t m s ≡ true → HasValue roots ctors (put args s)

  abbrev P : Type 0
  P = (v : GenericSort) × LivesHas v

  abbrev sorts_of : List P → List GenericSort
  sorts_of = map (λ (z : P). z.0)

  param_has : (i : ℕ) (o : Option GenericSort) → slice_get args i ≡ o → is_dead m i ≡ false
      → HasValue roots ctors (unwrap_or o (Param i))
  param_has i None e dead = a_param i refl
  param_has i (Some s) e dead = fits i s e dead

  parts_fit : (ys : List P) (i : ℕ) (s : GenericSort) → slice_get (map (put args) (sorts_of ys)) i ≡ Some s
      → dead_at (slice_get (map (lives roots t m) (sorts_of ys)) i) ≡ false → HasValue roots ctors s
  parts_fit [] i s get dead = cc
  parts_fit (y ∷ ys) zero s get dead =
      let live : lives roots t m y.0 ≡ true = live_if (lives roots t m y.0) dead in
      let is : put args y.0 ≡ s = cc in subst (HasValue roots ctors) is (y.1 live)
    where
      live_if : (b : Bool) → not b ≡ false → b ≡ true
      live_if true e = refl
      live_if false e = cc
  parts_fit (y ∷ ys) (suc i) s get dead = parts_fit ys i s get dead

  root_has : (r : ℕ) (ys : List P) (o : Option TypedRoot) → slice_get roots r ≡ o
      → (has_arity o (length (map (lives roots t m) (sorts_of ys))) && look t r (mask_of (map (lives roots t m)
      (sorts_of ys)))) ≡ true
      → HasValue roots ctors (Root r (map (put args) (sorts_of ys)))
  root_has r ys None there h = cc
  root_has r ys (Some root) there h =
      let b = and_parts (nat_eq (length (map (lives roots t m) (sorts_of ys))) root.type_params) (look t r (mask_of
      (map (lives roots t m) (sorts_of ys)))) h in
      let count : length (map (lives roots t m) (sorts_of ys)) ≡ root.type_params = eqb-true _ _ b.0 in
      let le : root.type_params ≤ 4 =
      subst (λ (x : TypedRoot). x.type_params ≤ 4) (get_or_from_slice_get roots r root root there) (few r root
      (slice_get_within roots r root there)) in
      let small = mask_small (map (lives roots t m) (sorts_of ys)) (omega arith) in
      sound r (mask_of (map (lives roots t m) (sorts_of ys))) root (map (put args) (sorts_of ys)) small b.1 there
      (length-map (sorts_of ys) (put args) ∙ sym (length-map (sorts_of ys) (lives roots t m)) ∙ count)
      (λ i s get dead. parts_fit ys i s get (sym (mask_digit (map (lives roots t m) (sorts_of ys)) i) ∙ dead))

  level_has : (y : layer.GenericSort-F P)
      → LivesHas (roll-GenericSort (map-GenericSort P GenericSort (λ (z : P). z.0) y))
  level_has layer.Int = subst LivesHas (sym rolls-Int) (λ h. an_int (put-int args))
  level_has layer.Bool = subst LivesHas (sym rolls-Bool) (λ h. a_truth (put-truth args))
  level_has (layer.Param i) =
      subst LivesHas (sym (rolls-Param i)) (λ h. subst (HasValue roots ctors) (sym (put-param args i))
      (param_has i (slice_get args i) refl (not-true (is_dead m i) (sym (lives-param roots t m i) ∙ h))))
  level_has (layer.Root r ys) =
      subst LivesHas (sym (rolls-Root r (sorts_of ys))) (λ h. subst (HasValue roots ctors) (sym (put-root args r
      (sorts_of ys)))
      (root_has r ys (slice_get roots r) refl (sym (lives-root roots t m r (sorts_of ys)) ∙ h)))

  lives_has : (s : GenericSort) → LivesHas s
  lives_has = ind-GenericSort LivesHas (λ x y is. subst (λ z. LivesHas (roll-GenericSort z)) is (level_has y))

  pub all_have : (ss : List GenericSort) → all_live roots t m ss ≡ true → HaveValues roots ctors (map (put args) ss)
  all_have [] h = no_values
  all_have (s ∷ ss) h = let b = and_parts (lives roots t m s) (all_live roots t m ss) h in
      more_values (lives_has s b.0) (all_have ss b.1)
