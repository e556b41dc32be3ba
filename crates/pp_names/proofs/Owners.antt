-- The roots of constructors, one after another.
use Rattle.std.proofs.Common.{◌≡◌, ◌∙◌, ℕ, ◌+◌, ◌<◌, List, length, sym, ap, subst, arith, get_or, take, All}
use Rattle.std.proofs.lemmas.List.{length-map, get_or-map}
use Rattle.std.proofs.lemmas.List.Elements.{All-get_or}
use Rattle.pp_typed.specs.declared.typed.TypedCtor.{TypedCtor}
use Rattle.pp_names.specs.Find.{owners_of}
use Rattle.pp_names.specs.Places.{pushed_at, grouped_from}
use Rattle.pp_names.proofs.Grouped.{length-grouped_from, grouped_turn}

owner_at : (cs : List TypedCtor) (i : ℕ) (d : TypedCtor) → i < length cs
    → get_or (owners_of cs) i 0 ≡ (get_or cs i d).root
owner_at cs i d lt = get_or-map (λ (c : TypedCtor). c.root) cs i d 0 lt

pub owner_within : (cs : List TypedCtor) (lists : List (List ℕ)) (roots i : ℕ) (ns : List ℕ) (d : TypedCtor)
    → i < length cs → All (λ r. r < roots) (owners_of cs)
    → lists ≡ grouped_from 0 roots ns → ((get_or cs i d).root < roots) × ((get_or cs i d).root < length lists)
owner_within cs lists roots i ns d lt within before =
    let own : (get_or cs i d).root < roots =
    subst (λ r. r < roots) (owner_at cs i d lt) (All-get_or (λ r. r < roots) (owners_of cs) i 0 (omega
    (arith, length-map cs (λ (c : TypedCtor). c.root))) within) in
    let size : length lists ≡ roots = ap length before ∙ length-grouped_from 0 roots ns in
    (own, subst (λ n. (get_or cs i d).root < n) (sym size) own)

pub owner_turn : (cs : List TypedCtor) (lists more : List (List ℕ)) (roots i : ℕ) (d : TypedCtor) → i < length cs
    → All (λ r. r < roots) (owners_of cs)
    → lists ≡ grouped_from 0 roots (take i (owners_of cs)) → more ≡ pushed_at lists (get_or cs i d).root i
    → more ≡ grouped_from 0 roots (take (i + 1) (owners_of cs))
owner_turn cs lists more roots i d lt within before push =
    grouped_turn lists more roots i (get_or cs i d).root (owners_of cs) (omega (
      arith,
      length-map cs (λ (c : TypedCtor). c.root),
    )) (sym (owner_at cs i d lt))
    (owner_within cs lists roots i (take i (owners_of cs)) d lt within before).0 before push
