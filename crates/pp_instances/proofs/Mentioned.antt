-- The types that each form of a sort is made of.
use Rattle.std.proofs.Common.{◌≡◌, ℕ, List, [], ◌∷◌, ◌++◌, map, refl, sym, ap, ◌∙◌}
use Rattle.std.proofs.lemmas.List.{append-nil}
use Rattle.pp_list.specs.Joined.{joined}
use Rattle.pp_instances.specs.Uses.{types_in, types_of, types_step, types_inside, sort_itself, root_at}
use Rattle.pp_instances.specs.declared.member.Member.{Member}
use Rattle.pp_typed.specs.declared.sort.GenericSort.{GenericSort}
use Rattle.pp_typed.specs.declared.sort.GenericSort.TheFolds.{para-roll-GenericSort}
use Rattle.pp_typed.specs.declared.sort.GenericSort.TheOpen as sort_layer
use Rattle.pp_typed.specs.declared.sort.GenericSort.TheVariants.{Int, Bool, Param, Root, rolls-Int, rolls-Bool}
use Rattle.pp_typed.specs.declared.sort.GenericSort.TheVariants.{rolls-Param, rolls-Root}

abbrev Ms : Type 0
Ms = List Member

pub types_int : types_in Int ≡ []
types_int = ap types_in (sym rolls-Int) ∙ para-roll-GenericSort Ms types_step sort_layer.Int

pub types_bool : types_in Bool ≡ []
types_bool = ap types_in (sym rolls-Bool) ∙ para-roll-GenericSort Ms types_step sort_layer.Bool

pub types_param : (i : ℕ) → types_in (Param i) ≡ []
types_param i = ap types_in (sym (rolls-Param i)) ∙ para-roll-GenericSort Ms types_step (sort_layer.Param i)

abbrev beside : GenericSort → GenericSort × Ms
beside s = (s, types_in s)

itself : (ss : List GenericSort) → map sort_itself (map beside ss) ≡ ss
itself [] = refl
itself (s ∷ ss) = ap (λ l. s ∷ l) (itself ss)

inside : (ss : List GenericSort) → joined (map types_inside (map beside ss)) ≡ types_of ss
inside [] = refl
inside (s ∷ ss) = ap (λ l. types_in s ++ l) (inside ss)

pub types_root : (r : ℕ) (parts : List GenericSort) → types_in (Root r parts) ≡ root_at r parts ∷ types_of parts
types_root r parts =
    ap types_in (sym (rolls-Root r parts)) ∙ para-roll-GenericSort Ms types_step (sort_layer.Root r parts)
    ∙ ap (λ l. root_at r l ∷ joined (map types_inside (map beside parts))) (itself parts)
    ∙ ap (λ l. root_at r parts ∷ l) (inside parts)

pub nothing_more : (found : Ms) (s : GenericSort) → types_in s ≡ [] → found ≡ found ++ types_in s
nothing_more found s none = sym (append-nil found) ∙ ap (λ l. found ++ l) (sym none)
