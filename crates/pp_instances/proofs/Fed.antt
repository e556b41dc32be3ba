-- The turn of a loop that feeds a hasher.
use Rattle.std.proofs.Common.{◌≡◌, ℕ, ◌+◌, ◌<◌, ◌≤◌, List, ◌++◌, map, take, length, get_or, sym, ap, ◌∙◌}
use Rattle.std.specs.Prelude.{fold}
use Rattle.std.proofs.lemmas.List.Sums.{fold-append}
use Rattle.std.specs.Hash as fed
use Rattle.std.proofs.lemmas.List.{take_all}
use Rattle.pp_list.specs.Joined.{joined}
use Rattle.pp_instances.specs.Same.{fed_sort, fed_step}
use Rattle.pp_list.proofs.Joined.{parts_more}
use Rattle.pp_typed.specs.declared.sort.GenericSort.{GenericSort}
use Rattle.pp_typed.specs.declared.sort.GenericSort.TheFolds.{fold-roll-GenericSort}
use Rattle.pp_typed.specs.declared.sort.GenericSort.TheOpen as layer
use Rattle.pp_typed.specs.declared.sort.GenericSort.TheVariants.{Root, rolls-Root}

pub fed_more : {S T : Type 0} (write : S → List ℕ → S) (F : T → List (List ℕ)) (s : S) (xs : List T) (i : ℕ) (x : T)
    {mid end : S}
    → i < length xs → x ≡ get_or xs i x → mid ≡ fold write s (joined (map F (take i xs))) → end ≡ fold write mid (F x)
    → end ≡ fold write s (joined (map F (take (i + 1) xs)))
fed_more write F s xs i x lt is p q =
    q ∙ ap (λ m. fold write m (F x)) p ∙ sym (fold-append write s (joined (map F (take i xs))) (F x))
    ∙ ap (fold write s) (sym (parts_more F xs i x lt is))

fed_root : (r : ℕ) (parts : List GenericSort)
    → fed_sort (Root r parts) ≡ fed.u8 3 ++ (fed.u32 r ++ joined (map fed_sort parts))
fed_root r parts =
    ap fed_sort (sym (rolls-Root r parts)) ∙ fold-roll-GenericSort fed.HashWrites fed_step (layer.Root r parts)

-- a root is fed by its tag, its number and its parts
pub root_fed : {S : Type 0} (write : S → List ℕ → S) (start : S) (sort : GenericSort) (r : ℕ)
    (parts xs : List GenericSort) (i : ℕ) {one two end : S}
    → sort ≡ Root r parts → xs ≡ parts → one ≡ fold write start (fed.u8 3) → two ≡ fold write one (fed.u32 r)
    → end ≡ fold write two (joined (map fed_sort (take i xs))) → length xs ≤ i → end ≡ fold write start (fed_sort sort)
root_fed write start sort r parts xs i {one} {two} {end} is same p q e all =
    e ∙ ap (λ l. fold write two (joined (map fed_sort l))) (take_all i xs all ∙ same)
    ∙ ap (λ s. fold write s (joined (map fed_sort parts))) (q ∙ ap (λ s. fold write s (fed.u32 r)) p)
    ∙ sym (fold-append write (fold write start (fed.u8 3)) (fed.u32 r) (joined (map fed_sort parts)))
    ∙ sym (fold-append write start (fed.u8 3) (fed.u32 r ++ joined (map fed_sort parts)))
    ∙ ap (fold write start) (sym (ap fed_sort is ∙ fed_root r parts))

-- a list is fed item by item
pub all_fed : {S : Type 0} (write : S → List ℕ → S) (start : S) (before : fed.HashWrites) (xs : List GenericSort)
    (i : ℕ) {one end : S}
    → one ≡ fold write start before → end ≡ fold write one (joined (map fed_sort (take i xs))) → length xs ≤ i
    → end ≡ fold write start (before ++ joined (map fed_sort xs))
all_fed write start before xs i {one} {end} p e all =
    e ∙ ap (λ l. fold write one (joined (map fed_sort l))) (take_all i xs all)
    ∙ ap (λ s. fold write s (joined (map fed_sort xs))) p
    ∙ sym (fold-append write start before (joined (map fed_sort xs)))
