-- A look at a tree is within its allowance.
use Rattle.std.proofs.Common.{◌≡◌, ℕ, suc, ◌+◌, ◌*◌, ◌≤◌, nat_eq, if◌then◌else◌, List, []}
use Rattle.std.proofs.Common.{◌∷◌}
use Rattle.std.proofs.Common.{◌++◌, length, map, reverse, Some, refl, sym, ap, ◌∙◌, subst, arith, slice_get, inl}
use Rattle.std.proofs.Common.{inr}
use Rattle.std.proofs.lemmas.Bool.{cases_Bool}
use Rattle.std.proofs.lemmas.List.{reverse-append}
use Rattle.std.proofs.lemmas.Option.{same_Some}
use Rattle.pp_list.specs.Joined.{joined}
use Rattle.pp_prog.specs.declared.id.DataId.{DataId}
use Rattle.pp_prog.specs.declared.sort.Sort.{Sort}
use Rattle.pp_prog.specs.declared.sort.Sort.TheVariants as sort
use Rattle.pp_prog.specs.declared.types.Ctor.{Ctor}
use Rattle.pp_prog.specs.declared.types.TypeTable.{TypeTable}
use Rattle.pp_prog.specs.Sizes.{ctors_of, fields_of, flat, sorts_in_ctor, width}
use Rattle.pp_gate.specs.declared.gate.Gate.{Gate}
use Rattle.pp_domain.specs.declared.symbol.Symbol.{Symbol}
use Rattle.pp_domain.specs.declared.symbol.Symbol.TheVariants as symbol
use Rattle.pp_domain.specs.Allowance.{look_gates, times}
use Rattle.pp_bounded_trees.specs.Possible.{total}
use Rattle.pp_bounded_trees.proofs.Candidates.{ctor_in_block, total_append, total_sum}
use Rattle.pp_named_trees.specs.declared.arena.Alternative.{Alternative}
use Rattle.pp_named_trees.specs.declared.arena.Expansion.{Expansion}
use Rattle.pp_named_trees.specs.declared.arena.NamedTree.{NamedTree}
use Rattle.pp_named_trees.specs.declared.arena.NamedTrees.{NamedTrees}
use Rattle.pp_named_trees.specs.Arena.{data_of_look, looked}
use Rattle.pp_named_trees.specs.Parts.{PartFits, PartsFit}
use Rattle.pp_named_contents.specs.Contents.{part_gates, parts_gates}
use Rattle.pp_named_contents.specs.Fitting.{ContentsFit}
use Rattle.pp_named_contents.specs.FreshContents.{fields_gates}
use Rattle.pp_named_contents.proofs.Blocks.{block_length}
use Rattle.pp_named_instances.specs.Levels.{ctor_level_gates, level_gates}
use Rattle.pp_named_instances.specs.OrderTests.{before_gates, fields_before_gates}
use Rattle.pp_named_instances.specs.Tests.{agreement_gates, agreements_gates, all_same_gates}
use Rattle.pp_named_instances.specs.Tests.{contents_same_gates, same_gates}
use Rattle.pp_named_expand.specs.Constructed.{known_gates}
use Rattle.pp_named_expand.specs.Entered.{enter_gates}
use Rattle.pp_named_expand.specs.Prepared.{prepare_gates}

abbrev widths : Ctor → ℕ
widths k = total width k.fields

-- ---- fields

part_most : (gs : List Gate) (s : Sort) (x : Symbol NamedTree) → PartFits gs s x
    → level_gates s + part_gates s + before_gates x ≤ 8 * width s
part_most gs sort.Int (symbol.Word w) fits = omega arith
part_most gs sort.Bool (symbol.Bit l) fits = omega arith
part_most gs (sort.Tree of) (symbol.Tree t) fits = omega arith
part_most gs sort.Int (symbol.Bit l) fits = absurd fits
part_most gs sort.Int (symbol.Tree t) fits = absurd fits
part_most gs sort.Bool (symbol.Word w) fits = absurd fits
part_most gs sort.Bool (symbol.Tree t) fits = absurd fits
part_most gs (sort.Tree of) (symbol.Word w) fits = absurd fits
part_most gs (sort.Tree of) (symbol.Bit l) fits = absurd fits

same_most : (gs : List Gate) (s : Sort) (x : Symbol NamedTree) → PartFits gs s x → same_gates x + 1 ≤ 4 * width s
same_most gs sort.Int (symbol.Word w) fits = omega arith
same_most gs sort.Bool (symbol.Bit l) fits = omega arith
same_most gs (sort.Tree of) (symbol.Tree t) fits = omega arith
same_most gs sort.Int (symbol.Bit l) fits = absurd fits
same_most gs sort.Int (symbol.Tree t) fits = absurd fits
same_most gs sort.Bool (symbol.Word w) fits = absurd fits
same_most gs sort.Bool (symbol.Tree t) fits = absurd fits
same_most gs (sort.Tree of) (symbol.Word w) fits = absurd fits
same_most gs (sort.Tree of) (symbol.Bit l) fits = absurd fits

parts_most : (gs : List Gate) (ss : List Sort) (xs : List (Symbol NamedTree)) → PartsFit gs ss xs
    → total level_gates ss + parts_gates ss + total before_gates xs ≤ 8 * total width ss
parts_most gs [] [] fits = omega arith
parts_most gs (s ∷ ss) (x ∷ xs) fits =
    let one = part_most gs s x fits.0 in let rest = parts_most gs ss xs fits.1 in omega arith
parts_most gs [] (x ∷ xs) fits = absurd fits
parts_most gs (s ∷ ss) [] fits = absurd fits

all_same_most : (gs : List Gate) (ss : List Sort) (xs : List (Symbol NamedTree)) → PartsFit gs ss xs
    → all_same_gates xs ≤ 4 * total width ss
all_same_most gs [] [] fits = omega arith
all_same_most gs (s ∷ ss) (x ∷ xs) fits =
    let one = same_most gs s x fits.0 in let rest = all_same_most gs ss xs fits.1 in omega arith
all_same_most gs [] (x ∷ xs) fits = absurd fits
all_same_most gs (s ∷ ss) [] fits = absurd fits

-- ---- constructors

abbrev pub Pairs : List Gate → List Ctor → List Alternative → Type 0
Pairs gs ks xs =
    (j : ℕ) (k : Ctor) (x : Alternative) → slice_get ks j ≡ Some k → slice_get xs j ≡ Some x
    → PartsFit gs k.fields x.fields

ctors_most : (gs : List Gate) (ks : List Ctor) (xs : List Alternative) → length xs ≡ length ks → Pairs gs ks xs
    → total ctor_level_gates ks + fields_gates ks + total fields_before_gates xs ≤ 8 * total widths ks
ctors_most gs [] [] len pairs = omega arith
ctors_most gs (k ∷ ks) (x ∷ xs) len pairs =
    let one = parts_most gs k.fields x.fields (pairs 0 k x refl refl) in
    let rest = ctors_most gs ks xs (omega arith) (λ j l y at to. pairs (suc j) l y at to) in omega arith
ctors_most gs [] (x ∷ xs) len pairs = absurd (omega arith)
ctors_most gs (k ∷ ks) [] len pairs = absurd (omega arith)

contents_most : (gs : List Gate) (ks : List Ctor) (xs : List Alternative) → length xs ≡ length ks → Pairs gs ks xs
    → contents_same_gates xs ≤ 2 * length ks + 4 * total widths ks
contents_most gs [] [] len pairs = omega arith
contents_most gs (k ∷ ks) (x ∷ xs) len pairs =
    let one = all_same_most gs k.fields x.fields (pairs 0 k x refl refl) in
    let rest = contents_most gs ks xs (omega arith) (λ j l y at to. pairs (suc j) l y at to) in omega arith
contents_most gs [] (x ∷ xs) len pairs = absurd (omega arith)
contents_most gs (k ∷ ks) [] len pairs = absurd (omega arith)

widths_joined : (ks : List Ctor) → total width (joined (map sorts_in_ctor ks)) ≡ total widths ks
widths_joined [] = refl
widths_joined (k ∷ ks) =
    total_append width k.fields (joined (map sorts_in_ctor ks)) ∙ ap (λ n. widths k + n) (widths_joined ks)

flat_is : (types : TypeTable) (of : DataId)
    → flat types of ≡ length (ctors_of types of) + total widths (ctors_of types of)
flat_is types of =
    ap (λ n. length (ctors_of types of) + n) (total_sum width (fields_of types of) ∙ widths_joined (ctors_of types of))

pub pairs_of : (types : TypeTable) (gs : List Gate) (of : DataId) (xs : List Alternative) → ContentsFit gs types of xs
    → Pairs gs (ctors_of types of) xs
pairs_of types gs of xs fits j k x at to =
    let own = fits.each j x to in
    let here = ctor_in_block types of fits.datatype j k fits.at at in
    let entry : own.entry ≡ k =
    same_Some own.entry k (sym own.at ∙ ap (slice_get types.ctors) own.ctor ∙ here.0) in
    subst (λ (e : Ctor). PartsFit gs e.fields x.fields) entry own.fields

-- ---- earlier looks

times_append : (d : DataId) (xs ys : List DataId) → times d (xs ++ ys) ≡ times d xs + times d ys
times_append d [] ys = omega arith
times_append d (x ∷ xs) ys = elim (cases_Bool (nat_eq x.0 d.0)) [
  | inl on ↦
      let a = ap (λ b. if b then 1 + times d (xs ++ ys) else times d (xs ++ ys)) on in
      let b = ap (λ c. if c then 1 + times d xs else times d xs) on in
      let rest = times_append d xs ys in omega arith
  | inr off ↦
      let a = ap (λ b. if b then 1 + times d (xs ++ ys) else times d (xs ++ ys)) off in
      let b = ap (λ c. if c then 1 + times d xs else times d xs) off in
      let rest = times_append d xs ys in omega arith
]

times_reverse : (d : DataId) (xs : List DataId) → times d (reverse xs) ≡ times d xs
times_reverse d [] = refl
times_reverse d (x ∷ xs) =
    let e = ap (times d) (reverse-append (x ∷ []) xs) ∙ times_append d (reverse xs) (x ∷ []) in
    let s = times_append d (x ∷ []) xs in
    let rest = times_reverse d xs in omega arith

looks_most : (y : Expansion) (zs : List Expansion) (most : ℕ) → agreement_gates y + 1 ≤ most
    → agreements_gates y zs ≤ times y.of (map data_of_look zs) * most
looks_most y [] most le = omega arith
looks_most y (z ∷ zs) most le =
    let rest = looks_most y zs most le in
    elim (cases_Bool (nat_eq z.of.0 y.of.0)) [
      | inl on ↦
          let a = ap (λ b. if b then agreement_gates y + 1 else 0) on in
          let t = times y.of (map data_of_look zs) in
          let b : times y.of (map data_of_look (z ∷ zs)) ≡ 1 + t = ap (λ c. if c then 1 + t else t) on in
          let m = ap (λ n. n * most) b ∙ one_more t most in omega arith
      | inr off ↦
          let a = ap (λ b. if b then agreement_gates y + 1 else 0) off in
          let t = times y.of (map data_of_look zs) in
          let b : times y.of (map data_of_look (z ∷ zs)) ≡ t = ap (λ c. if c then 1 + t else t) off in
          let m = ap (λ n. n * most) b in omega arith
    ]
  where
    one_more : (t m : ℕ) → (1 + t) * m ≡ m + t * m
    one_more t m = omega arith

-- ---- the whole look

entry_most : (types : TypeTable) (gs : List Gate) (d e : NamedTrees) (y : Expansion)
    → ContentsFit gs types y.of y.alternatives → 1 ≤ length (ctors_of types y.of) → e.expansions ≡ d.expansions
    → total ctor_level_gates (ctors_of types y.of) + fields_gates (ctors_of types y.of) + enter_gates e y + 158
    + 8 * length (ctors_of types y.of) ≤ look_gates types (looked d.expansions) 0 y.of
entry_most types gs d e y fits some same =
    let ks = ctors_of types y.of in
    let len : length y.alternatives ≡ length ks = fits.many ∙ sym (block_length types y.of fits.datatype fits.at) in
    let pairs = pairs_of types gs y.of y.alternatives fits in
    let one = ctors_most gs ks y.alternatives len pairs in
    let two = contents_most gs ks y.alternatives len pairs in
    let f = flat_is types y.of in
    let each : agreement_gates y + 1 ≤ 64 + 4 * flat types y.of = omega arith in
    let looks = looks_most y d.expansions (64 + 4 * flat types y.of) each in
    let t = ap (λ n. n * (64 + 4 * flat types y.of)) (times_reverse y.of (map data_of_look d.expansions)) in
    let s = ap (agreements_gates y) same in omega arith

pub look_room : (types : TypeTable) (gs : List Gate) (d e : NamedTrees) (y : Expansion)
    → ContentsFit gs types y.of y.alternatives → 1 ≤ length (ctors_of types y.of) → e.expansions ≡ d.expansions
    → prepare_gates types y.of + enter_gates e y ≤ look_gates types (looked d.expansions) 0 y.of
look_room types gs d e y fits some same = let all = entry_most types gs d e y fits some same in omega arith

-- what comes in before the tree is entered is within it, too
sort_most : (s : Sort) → level_gates s + part_gates s ≤ 8 * width s
sort_most sort.Int = omega arith
sort_most sort.Bool = omega arith
sort_most (sort.Tree of) = omega arith

sorts_most : (ss : List Sort) → total level_gates ss + parts_gates ss ≤ 8 * total width ss
sorts_most [] = omega arith
sorts_most (s ∷ ss) = let one = sort_most s in let rest = sorts_most ss in omega arith

blocks_most : (ks : List Ctor) → total ctor_level_gates ks + fields_gates ks ≤ 8 * total widths ks
blocks_most [] = omega arith
blocks_most (k ∷ ks) = let one = sorts_most k.fields in let rest = blocks_most ks in omega arith

pub prepare_most : (types : TypeTable) (of : DataId) (looks : List DataId)
    → prepare_gates types of ≤ look_gates types looks 0 of
prepare_most types of looks =
    let one = blocks_most (ctors_of types of) in let f = flat_is types of in omega arith

-- so is a new tree with a known constructor
pub known_room : (types : TypeTable) (gs : List Gate) (d e : NamedTrees) (y : Expansion)
    → ContentsFit gs types y.of y.alternatives → 1 ≤ length (ctors_of types y.of) → e.expansions ≡ d.expansions
    → known_gates types y.of + enter_gates e y ≤ look_gates types (looked d.expansions) 0 y.of
known_room types gs d e y fits some same = let all = entry_most types gs d e y fits some same in omega arith

pub known_most : (types : TypeTable) (of : DataId) (looks : List DataId)
    → known_gates types of ≤ look_gates types looks 0 of
known_most types of looks =
    let one = blocks_most (ctors_of types of) in let f = flat_is types of in omega arith
