-- Sorts put at arguments, and the sorts of the program that they are.
use Rattle.std.proofs.Common.{◌≡◌, ⊎_elim, ℕ, List, [], ◌∷◌, map, length, get_or, refl, sym, ap, ◌∙◌, subst, ◌<◌}
use Rattle.std.specs.Prelude.{Option, Some, None, slice_get, unwrap_or, Contains}
use Rattle.std.specs.Option.{option_map}
use Rattle.std.proofs.lemmas.Option.{slice_get-get_or}
use Rattle.std.proofs.lemmas.Option.{slice_get-map}
use Rattle.std.proofs.lemmas.List.Elements.{Contains-push_cases, Contains-append_cases}
use Rattle.pp_generic.proofs.Putting.{put_bool, put_int, put_param, put_root}
use Rattle.pp_instances.proofs.Kept.{nothing_in}
use Rattle.pp_instances.specs.declared.member.Member.{Member}
use Rattle.pp_prog.specs.declared.sort.Sort.TheVariants as prog
use Rattle.pp_translation.specs.Numbers.{args_in_layer, args_of, data_number, program_sort, sort_at, sort_of_layer}
use Rattle.pp_typed.specs.InRange.{IsInRange, AreInRange, int_in_range, bool_in_range, param_in_range, root_in_range}
use Rattle.pp_typed.specs.InRange.{none_in_range, more_in_range}
use Rattle.pp_typed.specs.Put.{put, put_at}
use Rattle.pp_typed.specs.declared.sort.GenericSort.{GenericSort}
use Rattle.pp_typed.specs.declared.sort.GenericSort.TheVariants as sort
use Rattle.pp_typed.specs.declared.typed.TypedRoot.{TypedRoot}

-- arguments put twice are put at once, where the inner ones are all there
module _ (outer args : List GenericSort) where
  param_put : (i : ℕ) → i < length args → put outer (put_at args i) ≡ put_at (map (put outer) args) i
  param_put i lt = by (slice_get args i) refl
    where
      by : (o : Option GenericSort) → slice_get args i ≡ o → put outer (put_at args i) ≡ put_at (map (put outer) args) i
      by None h = let no : None ≡ Some (get_or args i sort.Int) = sym h ∙ slice_get-get_or args i sort.Int lt in cc
      by (Some s) h =
          ap (λ o. put outer (unwrap_or o (sort.Param i))) h
          ∙ sym (ap (λ o. unwrap_or o (sort.Param i)) (slice_get-map (put outer) args i
          ∙ ap (λ (o : Option GenericSort). option_map (put outer) o) h))

  mutual
    pub put_put : {roots : List TypedRoot} {n : ℕ} (s : GenericSort) → IsInRange roots n s → n ≡ length args
        → put outer (put args s) ≡ put (map (put outer) args) s
    put_put s (int_in_range is) all =
        ap (λ z. put outer (put args z)) is ∙ ap (put outer) (put_int args) ∙ put_int outer
        ∙ sym (put_int (map (put outer) args)) ∙ ap (put (map (put outer) args)) (sym is)
    put_put s (bool_in_range is) all =
        ap (λ z. put outer (put args z)) is ∙ ap (put outer) (put_bool args) ∙ put_bool outer
        ∙ sym (put_bool (map (put outer) args)) ∙ ap (put (map (put outer) args)) (sym is)
    put_put s (param_in_range i is lt) all =
        ap (λ z. put outer (put args z)) is ∙ ap (put outer) (put_param args i)
        ∙ param_put i (subst (λ k. i < k) all lt)
        ∙ sym (put_param (map (put outer) args) i) ∙ ap (put (map (put outer) args)) (sym is)
    put_put s (root_in_range r root ss is declared whole each) all =
        ap (λ z. put outer (put args z)) is ∙ ap (put outer) (put_root args r ss) ∙ put_root outer r (map (put args) ss)
        ∙ ap (sort.Root r) (puts_puts ss each all) ∙ sym (put_root (map (put outer) args) r ss)
        ∙ ap (put (map (put outer) args)) (sym is)

    pub puts_puts : {roots : List TypedRoot} {n : ℕ} (ss : List GenericSort) → AreInRange roots n ss → n ≡ length args
        → map (put outer) (map (put args) ss) ≡ map (put (map (put outer) args)) ss
    puts_puts [] none_in_range all = refl
    puts_puts (s ∷ ss) (more_in_range here more) all =
        ap (λ z. z ∷ map (put outer) (map (put args) ss)) (put_put s here all)
        ∙ ap (λ l. put (map (put outer) args) s ∷ l) (puts_puts ss more all)

  pub each_put : {roots : List TypedRoot} {n : ℕ} (ss : List GenericSort) → AreInRange roots n ss → n ≡ length args
      → (s : GenericSort) → Contains ss s
      → put outer (put args s) ≡ put (map (put outer) args) s
  each_put [] none_in_range all s c = absurd (nothing_in s c)
  each_put (r ∷ ss) (more_in_range here more) all s c =
      ⊎_elim (λ (first : Contains (r ∷ []) s). ⊎_elim (λ (no : Contains [] s). absurd (nothing_in s no))
      (λ (e : r ≡ s). subst (λ z. put outer (put args z) ≡ put (map (put outer) args) z) e (put_put r here all))
      (Contains-push_cases [] r s first))
      (λ (later : Contains ss s). each_put ss more all s later) (Contains-append_cases (r ∷ []) ss s c)

-- the sorts of the program
module _ (roots : List Member) (args : List GenericSort) where
  pub ground_int : program_sort roots sort.Int ≡ prog.Int
  ground_int = ap (sort_of_layer roots) sort.outs-Int

  pub ground_bool : program_sort roots sort.Bool ≡ prog.Bool
  ground_bool = ap (sort_of_layer roots) sort.outs-Bool

  pub ground_root : (r : ℕ) (ss : List GenericSort) → program_sort roots (sort.Root r ss) ≡ prog.Tree
      (data_number roots r ss)
  ground_root r ss = ap (sort_of_layer roots) (sort.outs-Root r ss)

  pub sort_at_int : sort_at roots args sort.Int ≡ prog.Int
  sort_at_int = ap (program_sort roots) (put_int args) ∙ ground_int

  pub sort_at_bool : sort_at roots args sort.Bool ≡ prog.Bool
  sort_at_bool = ap (program_sort roots) (put_bool args) ∙ ground_bool

  pub sort_at_root : (r : ℕ) (ss : List GenericSort) → sort_at roots args (sort.Root r ss) ≡ prog.Tree
      (data_number roots r (map (put args) ss))
  sort_at_root r ss = ap (program_sort roots) (put_root args r ss) ∙ ground_root r (map (put args) ss)

  pub args_of_root : (r : ℕ) (ss : List GenericSort) → args_of (sort.Root r ss) ≡ ss
  args_of_root r ss = ap args_in_layer (sort.outs-Root r ss)
