-- A table that is sound and closed is exact.
use Rattle.std.proofs.Common.{◌≡◌, ◌∙◌, ℕ, zero, suc, ◌+◌, ◌*◌, ◌<◌, ◌≤◌, Bool, true, false, not, ◌&&◌, List, [], ◌∷◌}
use Rattle.std.proofs.Common.{Option, Some, None, map, length, slice_get, refl, sym, ap, subst, arith, eq-eqb}
use Rattle.std.proofs.Common.{unwrap_or, if◌then◌else◌}
use Rattle.std.proofs.lemmas.Bool.{and_parts}
use Rattle.std.proofs.lemmas.List.{length-map}
use Rattle.std.proofs.lemmas.Option.{get_or_from_slice_get, slice_get-map, slice_get_within}
use Rattle.std.specs.Option.{option_map}
use Rattle.pp_inhabited.specs.Laws.{FewTypeParams, IsSound, IsClosed}
use Rattle.pp_typed.specs.Put.{put}
use Rattle.pp_inhabited.specs.Table.{all_live, has_arity, lives, look, mask_of}
use Rattle.pp_typed.specs.Value.{HasValue, an_int, a_truth, a_param, a_tree, HaveValues, no_values, more_values}
use Rattle.pp_typed.specs.Value.{IsInhabited, params_from}
use Rattle.pp_inhabited.proofs.Digits.{dead_at, none_dead, mask_digit, mask_small}
use Rattle.pp_inhabited.proofs.Layers.{lives-int, lives-truth, lives-param, lives-root, put-int, put-truth, put-param}
use Rattle.pp_inhabited.proofs.Layers.{put-root}
use Rattle.pp_typed.specs.declared.sort.GenericSort.{GenericSort}
use Rattle.pp_typed.specs.declared.sort.GenericSort.TheOpen as layer
use Rattle.pp_typed.specs.declared.sort.GenericSort.TheVariants.{Param, rolls-Int, rolls-Bool, rolls-Param, rolls-Root}
use Rattle.pp_typed.specs.declared.sort.GenericSort.TheFolds.{ind-GenericSort, map-GenericSort}
use Rattle.pp_typed.specs.declared.sort.GenericSort.TheViews.{roll-GenericSort}
use Rattle.pp_typed.specs.declared.typed.TypedCtor.{TypedCtor}
use Rattle.pp_typed.specs.declared.typed.TypedRoot.{TypedRoot}

-- a sort with arguments put in lives where it lives at the mask of the arguments
module _ (roots : List TypedRoot) (t : List Bool) (args : List GenericSort) where
  abbrev own_mask : ℕ
  own_mask = mask_of (map (lives roots t 0) args)

  abbrev PutLives : GenericSort → Type 0
  PutLives s = lives roots t 0 (put args s) ≡ lives roots t own_mask s

  abbrev P : Type 0
  P = (v : GenericSort) × PutLives v

  abbrev sorts_of : List P → List GenericSort
  sorts_of = map (λ (z : P). z.0)

  param_lives : (i : ℕ) (o : Option GenericSort) → slice_get args i ≡ o
      → lives roots t 0 (unwrap_or o (Param i)) ≡ not (dead_at (slice_get (map (lives roots t 0) args) i))
  param_lives i None e = lives-param roots t 0 i ∙ ap not (none_dead i)
      ∙ ap (λ o. not (dead_at o)) (sym (slice_get-map (lives roots t 0) args i ∙ ap (option_map (lives roots t 0)) e))
  param_lives i (Some s) e =
      twice (lives roots t 0 s) ∙ ap (λ o. not (dead_at o)) (sym (slice_get-map (lives roots t 0) args i
      ∙ ap (option_map (lives roots t 0)) e))
    where
      twice : (b : Bool) → b ≡ not (not b)
      twice true = refl
      twice false = refl

  parts_live : (ys : List P)
      → map (lives roots t 0) (map (put args) (sorts_of ys)) ≡ map (lives roots t own_mask) (sorts_of ys)
  parts_live [] = refl
  parts_live (y ∷ ys) = let a = y.1 in let b = parts_live ys in cc

  level_lives : (y : layer.GenericSort-F P)
      → PutLives (roll-GenericSort (map-GenericSort P GenericSort (λ (z : P). z.0) y))
  level_lives layer.Int = subst PutLives (sym rolls-Int) (ap (lives roots t 0) (put-int args) ∙ lives-int roots t 0
      ∙ sym (lives-int roots t own_mask))
  level_lives layer.Bool = subst PutLives (sym rolls-Bool) (ap (lives roots t 0) (put-truth args)
      ∙ lives-truth roots t 0 ∙ sym (lives-truth roots t own_mask))
  level_lives (layer.Param i) =
      subst PutLives (sym (rolls-Param i)) (ap (lives roots t 0) (put-param args i)
      ∙ param_lives i (slice_get args i) refl
      ∙ ap not (sym (mask_digit (map (lives roots t 0) args) i)) ∙ sym (lives-param roots t own_mask i))
  level_lives (layer.Root r ys) =
      subst PutLives (sym (rolls-Root r (sorts_of ys))) (ap (lives roots t 0) (put-root args r (sorts_of ys))
      ∙ lives-root roots t 0 r (map (put args) (sorts_of ys))
      ∙ ap (λ bs. has_arity (slice_get roots r) (length bs) && look t r (mask_of bs)) (parts_live ys)
      ∙ sym (lives-root roots t own_mask r (sorts_of ys)))

  pub put_lives : (s : GenericSort) → PutLives s
  put_lives = ind-GenericSort PutLives (λ x y is. subst (λ z. PutLives (roll-GenericSort z)) is (level_lives y))

  pub all_put_live : (ss : List GenericSort) → all_live roots t 0 (map (put args) ss) ≡ all_live roots t own_mask ss
  all_put_live [] = refl
  all_put_live (s ∷ ss) = let a = put_lives s in let b = all_put_live ss in cc

-- a closed table has each sort with a value
module _ (roots : List TypedRoot) (ctors : List TypedCtor) (t : List Bool) (few : FewTypeParams roots)
    (closed : IsClosed roots ctors t) where
  few_at : (r : ℕ) (root : TypedRoot) → slice_get roots r ≡ Some root → root.type_params ≤ 4
  few_at r root e =
      let within = slice_get_within roots r root e in
      subst (λ (x : TypedRoot). x.type_params ≤ 4) (get_or_from_slice_get roots r root root e) (few r root within)

  own_arity : (r : ℕ) (root : TypedRoot) (args : List GenericSort) (m : ℕ) → slice_get roots r ≡ Some root
      → length args ≡ root.type_params
      → has_arity (slice_get roots r) (length (map (lives roots t m) args)) ≡ true
  own_arity r root args m there count =
      ap (λ o. has_arity o (length (map (lives roots t m) args))) there
      ∙ eq-eqb (length (map (lives roots t m) args)) root.type_params (length-map args (lives roots t m) ∙ count)

  mutual
    pub finds : {s : GenericSort} → HasValue roots ctors s → lives roots t 0 s ≡ true
    finds (an_int e) = ap (lives roots t 0) e ∙ lives-int roots t 0
    finds (a_truth e) = ap (lives roots t 0) e ∙ lives-truth roots t 0
    finds (a_param i e) = ap (lives roots t 0) e ∙ lives-param roots t 0 i ∙ ap not (none_dead i)
    finds (a_tree c root args e has there count values) =
        let m = mask_of (map (lives roots t 0) args) in
        let le = few_at c.root root there in
        let small : m < 16 = mask_small (map (lives roots t 0) args) (omega (
          arith,
          length-map args (lives roots t 0),
          count,
          le,
        )) in
        ap (lives roots t 0) e ∙ lives-root roots t 0 c.root args
        ∙ ap (λ b. b && look t c.root m) (own_arity c.root root args 0 there count)
        ∙ closed c m has small (sym (all_put_live roots t args c.fields) ∙ finds_all values)

    pub finds_all : {ss : List GenericSort} → HaveValues roots ctors ss → all_live roots t 0 ss ≡ true
    finds_all no_values = refl
    finds_all (more_values v vs) = let a = finds v in let b = finds_all vs in both a b
      where
        both : {a b : Bool} → a ≡ true → b ≡ true → (a && b) ≡ true
        both {a} {b} h i = ap (λ x. x && b) h ∙ i

  params_live : (i n : ℕ) → mask_of (map (lives roots t 0) (params_from i n)) ≡ 0
  params_live i zero = refl
  params_live i (suc n) =
      ap (λ b. (if b then 0 else 1) + 2 * mask_of (map (lives roots t 0) (params_from (i + 1) n)))
      (lives-param roots t 0 i ∙ ap not (none_dead i))
      ∙ ap (λ k. 0 + 2 * k) (params_live (i + 1) n)

  pub found : (r : ℕ) (root : TypedRoot) → IsInhabited roots ctors r root → look t r 0 ≡ true
  found r root v =
      let args = params_from 0 root.type_params in
      let b = and_parts (has_arity (slice_get roots r) (length (map (lives roots t 0) args))) (look t r (mask_of (map
      (lives roots t 0) args)))
      (sym (lives-root roots t 0 r args) ∙ finds v) in
      ap (look t r) (sym (params_live 0 root.type_params)) ∙ b.1

length-params_from : (i n : ℕ) → length (params_from i n) ≡ n
length-params_from i zero = refl
length-params_from i (suc n) = ap suc (length-params_from (i + 1) n)

-- type parameters have values
param_at : (roots : List TypedRoot) (ctors : List TypedCtor) (i n k : ℕ) (s : GenericSort)
    → slice_get (params_from i n) k ≡ Some s → HasValue roots ctors s
param_at roots ctors i zero k s e = cc
param_at roots ctors i (suc n) zero s e = a_param i (let f : Some (Param i) ≡ Some s = e in let g : Param i ≡ s = cc in
    sym g)
param_at roots ctors i (suc n) (suc k) s e = param_at roots ctors (i + 1) n k s e

pub has_own : (roots : List TypedRoot) (ctors : List TypedCtor) (t : List Bool) → IsSound roots ctors t
    → (r : ℕ) (root : TypedRoot) → slice_get roots r ≡ Some root
    → look t r 0 ≡ true → IsInhabited roots ctors r root
has_own roots ctors t sound r root there e =
    sound r 0 root (params_from 0 root.type_params) (omega arith) e there (length-params_from 0 root.type_params)
    (λ i s get dead. param_at roots ctors 0 root.type_params i s get)
