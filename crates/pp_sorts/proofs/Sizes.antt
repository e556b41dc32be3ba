-- How many types a list of written types has.
use Rattle.std.proofs.Common.{◌≡◌, suc, List, [], ◌∷◌, map, length, refl, ap}
use Rattle.pp_sorts.specs.IsSort.{count}
use Rattle.pp_tree.specs.Shown.{type_of, type_trees}
use Rattle.pp_tree.specs.declared.type_text.TypeText.{TypeText}

pub count_of : (ts : List TypeText) → count (type_trees (map type_of ts)) ≡ length ts
count_of [] = refl
count_of (t ∷ ts) = ap suc (count_of ts)
