-- What the forms of sorts become with others in place of their parameters.
use Rattle.std.proofs.Common.{◌≡◌, ◌∙◌, ℕ, List, map, sym, ap}
use Rattle.pp_typed.specs.Put.{put, put_at, put_step}
use Rattle.pp_typed.specs.declared.sort.GenericSort.{GenericSort}
use Rattle.pp_typed.specs.declared.sort.GenericSort.TheFolds.{fold-roll-GenericSort}
use Rattle.pp_typed.specs.declared.sort.GenericSort.TheOpen as layer
use Rattle.pp_typed.specs.declared.sort.GenericSort.TheVariants as sort

pub put_int : (args : List GenericSort) → put args sort.Int ≡ sort.Int
put_int args = ap (put args) (sym sort.rolls-Int) ∙ fold-roll-GenericSort GenericSort (put_step args) layer.Int

pub put_bool : (args : List GenericSort) → put args sort.Bool ≡ sort.Bool
put_bool args = ap (put args) (sym sort.rolls-Bool) ∙ fold-roll-GenericSort GenericSort (put_step args) layer.Bool

pub put_param : (args : List GenericSort) (i : ℕ) → put args (sort.Param i) ≡ put_at args i
put_param args i = ap (put args) (sym (sort.rolls-Param i))
    ∙ fold-roll-GenericSort GenericSort (put_step args) (layer.Param i)

pub put_root : (args : List GenericSort) (r : ℕ) (ss : List GenericSort)
    → put args (sort.Root r ss) ≡ sort.Root r (map (put args) ss)
put_root args r ss = ap (put args) (sym (sort.rolls-Root r ss))
    ∙ fold-roll-GenericSort GenericSort (put_step args) (layer.Root r ss)
