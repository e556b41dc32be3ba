-- What a table and a substitution make of each form of sort.
use Rattle.std.proofs.Common.{◌≡◌, ◌∙◌, ℕ, Bool, true, not, ◌&&◌, List, map, length, sym, ap, slice_get}
use Rattle.pp_typed.specs.Put.{put, put_at, put_step}
use Rattle.pp_inhabited.specs.Table.{has_arity, lives, lives_step, look, mask_of, is_dead}
use Rattle.pp_typed.specs.declared.sort.GenericSort.{GenericSort}
use Rattle.pp_typed.specs.declared.sort.GenericSort.TheFolds.{fold-roll-GenericSort}
use Rattle.pp_typed.specs.declared.sort.GenericSort.TheOpen as layer
use Rattle.pp_typed.specs.declared.sort.GenericSort.TheVariants.{Int, Bool as Truth, Param, Root, rolls-Int, rolls-Bool}
use Rattle.pp_typed.specs.declared.sort.GenericSort.TheVariants.{rolls-Param, rolls-Root}
use Rattle.pp_typed.specs.declared.typed.TypedRoot.{TypedRoot}

module _ (roots : List TypedRoot) (t : List Bool) (m : ℕ) where
  pub lives-int : lives roots t m Int ≡ true
  lives-int = ap (lives roots t m) (sym rolls-Int) ∙ fold-roll-GenericSort Bool (lives_step roots t m) layer.Int

  pub lives-truth : lives roots t m Truth ≡ true
  lives-truth = ap (lives roots t m) (sym rolls-Bool) ∙ fold-roll-GenericSort Bool (lives_step roots t m) layer.Bool

  pub lives-param : (i : ℕ) → lives roots t m (Param i) ≡ not (is_dead m i)
  lives-param i = ap (lives roots t m) (sym (rolls-Param i))
      ∙ fold-roll-GenericSort Bool (lives_step roots t m) (layer.Param i)

  pub lives-root : (r : ℕ) (parts : List GenericSort) → lives roots t m (Root r parts)
      ≡ (has_arity (slice_get roots r) (length (map (lives roots t m) parts)) && look t r (mask_of (map
      (lives roots t m) parts)))
  lives-root r parts = ap (lives roots t m) (sym (rolls-Root r parts))
      ∙ fold-roll-GenericSort Bool (lives_step roots t m) (layer.Root r parts)

module _ (args : List GenericSort) where
  pub put-int : put args Int ≡ Int
  put-int = ap (put args) (sym rolls-Int) ∙ fold-roll-GenericSort GenericSort (put_step args) layer.Int

  pub put-truth : put args Truth ≡ Truth
  put-truth = ap (put args) (sym rolls-Bool) ∙ fold-roll-GenericSort GenericSort (put_step args) layer.Bool

  pub put-param : (i : ℕ) → put args (Param i) ≡ put_at args i
  put-param i = ap (put args) (sym (rolls-Param i)) ∙ fold-roll-GenericSort GenericSort (put_step args) (layer.Param i)

  pub put-root : (r : ℕ) (parts : List GenericSort) → put args (Root r parts) ≡ Root r (map (put args) parts)
  put-root r parts = ap (put args) (sym (rolls-Root r parts))
      ∙ fold-roll-GenericSort GenericSort (put_step args) (layer.Root r parts)
