-- What the steps that are left make of the values that were put.
use Rattle.std.proofs.Common.{◌≡◌, ◌∙◌, ℕ, ◌+◌, ◌*◌, ◌<◌, ◌≤◌, List, [], ◌∷◌, ◌++◌, length, map, reverse, take, drop}
use Rattle.std.proofs.Common.{refl, sym, ap, arith, append_assoc, get_or, length-drop}
use Rattle.std.specs.List.{sum_by}
use Rattle.std.proofs.lemmas.List.{drop_all, drop_at, drop_more, reverse-append, reverse-reverse, take_all, take_at}
use Rattle.std.proofs.lemmas.List.{take_more}
use Rattle.std.proofs.lemmas.List.Sums.{sum_by-append, sum_by-cons, sum_by_push}
use Rattle.pp_prog.specs.declared.id.CtorId.{CtorId}
use Rattle.pp_prog.specs.declared.value.Value.{Value}
use Rattle.pp_prog.specs.declared.value.Value.TheVariants.{Tree}
use Rattle.pp_store.specs.Sizes.{size}
use Rattle.pp_store.specs.Work.{Step, Put, Join, tree_steps}
use Rattle.pp_store.proofs.Pairs.{reverse_cons, reverse_push}
use Rattle.pp_store.proofs.Sizes.{size_of_tree, size_positive}

-- what the steps come to, the next one first, with the values that were put, the last one first
abbrev pub finish : List Step → List Value → List Value
finish [] vs = vs
finish (Put v ∷ steps) vs = finish steps (v ∷ vs)
finish (Join c n ∷ steps) vs = finish steps (Tree c (take n vs) ∷ drop n vs)

-- the steps come to the value alone; the last one of both lists comes first
abbrev pub ComesTo : Value → List Step → List Value → Type 0
ComesTo v steps values = finish (reverse steps) (reverse values) ≡ v ∷ []

abbrev pub work : Step → ℕ
work (Put v) = 2 * size v
work (Join c n) = 1

-- ---- a tree by its steps

puts_finish : (us : List Value) (steps : List Step) (vs : List Value)
    → finish (reverse (map Put us) ++ steps) vs ≡ finish steps (us ++ vs)
puts_finish [] steps vs = refl
puts_finish (u ∷ us) steps vs =
    ap (λ (l : List Step). finish (l ++ steps) vs) (reverse_cons (Put u) (map Put us))
    ∙ ap (λ (l : List Step). finish l vs) (append_assoc (reverse (map Put us)) (Put u ∷ []) steps)
    ∙ puts_finish us (Put u ∷ steps) vs

tree_finish : (c : CtorId) (us : List Value) (steps : List Step) (vs : List Value)
    → finish (reverse (tree_steps c us) ++ steps) vs ≡ finish steps (Tree c us ∷ vs)
tree_finish c us steps vs =
    let n = length us in
    let join = Join c n in
    ap (λ (l : List Step). finish (l ++ steps) vs) (reverse_cons join (map Put us))
    ∙ ap (λ (l : List Step). finish l vs) (append_assoc (reverse (map Put us)) (join ∷ []) steps)
    ∙ puts_finish us (join ∷ steps) vs
    ∙ ap (λ (l : List Value). finish steps (Tree c l ∷ drop n (us ++ vs))) (take_at us vs n refl)
    ∙ ap (λ (l : List Value). finish steps (Tree c us ∷ l)) (drop_at us vs n refl)

puts_work : (us : List Value) → sum_by work (map Put us) ≡ 2 * sum_by size us
puts_work [] = refl
puts_work (u ∷ us) =
    omega (arith, sum_by-cons work (Put u) (map Put us), puts_work us, sum_by-cons size u us)

tree_work : (c : CtorId) (us : List Value) → sum_by work (tree_steps c us) < 2 * size (Tree c us)
tree_work c us =
    omega (arith, sum_by-cons work (Join c (length us)) (map Put us), puts_work us, size_of_tree c us)

-- ---- a step is done

module _ (steps rest : List Step) (step : Step) (popped : steps ≡ rest ++ step ∷ []) where
  pub put_less : (w : Value) (next : List Step) → step ≡ Put w → next ≡ rest → sum_by work next < sum_by work steps
  put_less w next e same =
      omega (
        arith,
        ap (sum_by work) same,
        ap (sum_by work) popped,
        sum_by_push work rest step,
        ap work e,
        size_positive w,
      )

  pub opened_less : (w : Value) (c : CtorId) (us : List Value) (next : List Step) → step ≡ Put w → w ≡ Tree c us
      → next ≡ rest ++ tree_steps c us → sum_by work next < sum_by work steps
  opened_less w c us next e f grows =
      omega (
        arith,
        ap (sum_by work) grows,
        sum_by-append work rest (tree_steps c us),
        tree_work c us,
        ap (λ (u : Value). 2 * size u) f,
        ap work e,
        ap (sum_by work) popped,
        sum_by_push work rest step,
      )

  pub joined_less : (c : CtorId) (n : ℕ) → step ≡ Join c n → sum_by work rest < sum_by work steps
  joined_less c n e = omega (arith, ap (sum_by work) popped, sum_by_push work rest step, ap work e)

  module _ (v : Value) (values : List Value) (is : ComesTo v steps values) where
    next_comes : finish (step ∷ reverse rest) (reverse values) ≡ v ∷ []
    next_comes =
        ap (λ (l : List Step). finish l (reverse values)) (sym (ap reverse popped ∙ reverse_push rest step)) ∙ is

    pub put_comes : (w : Value) (next : List Step) (new : List Value) → step ≡ Put w → next ≡ rest
        → new ≡ values ++ w ∷ [] → ComesTo v next new
    put_comes w next new e same grows =
        ap (λ (l : List Step). finish (reverse l) (reverse new)) same
        ∙ ap (finish (reverse rest)) (ap reverse grows ∙ reverse_push values w)
        ∙ ap (λ (s : Step). finish (s ∷ reverse rest) (reverse values)) (sym e) ∙ next_comes

    pub opened_comes : (w : Value) (c : CtorId) (us : List Value) (next : List Step) (new : List Value) → step ≡ Put w
        → w ≡ Tree c us → next ≡ rest ++ tree_steps c us → new ≡ values → ComesTo v next new
    opened_comes w c us next new e f grows same =
        ap (λ (l : List Value). finish (reverse next) (reverse l)) same
        ∙ ap (λ (l : List Step). finish l (reverse values)) (ap reverse grows ∙ reverse-append rest (tree_steps c us))
        ∙ tree_finish c us (reverse rest) (reverse values)
        ∙ ap (λ (u : Value). finish (reverse rest) (u ∷ reverse values)) (sym f)
        ∙ ap (λ (s : Step). finish (s ∷ reverse rest) (reverse values)) (sym e) ∙ next_comes

    pub joined_comes : (c : CtorId) (n : ℕ) (new : List Value) → step ≡ Join c n
        → reverse new ≡ Tree c (take n (reverse values)) ∷ drop n (reverse values) → ComesTo v rest new
    joined_comes c n new e made =
        ap (finish (reverse rest)) made ∙ ap (λ (s : Step). finish (s ∷ reverse rest) (reverse values)) (sym e)
        ∙ next_comes

-- ---- no step is left

pub only_value : (v : Value) (steps : List Step) (values : List Value) → ComesTo v steps values → steps ≡ []
    → values ≡ v ∷ []
only_value v steps values is e =
    sym (reverse-reverse values)
    ∙ ap reverse (ap (λ (l : List Step). finish (reverse l) (reverse values)) (sym e) ∙ is)

-- ---- values from the end

module _ {A : Type 0} where
  pub taken_next : (k : ℕ) (all rest : List A) (x : A) → drop k all ≡ x ∷ rest
      → (take (k + 1) all ≡ take k all ++ x ∷ []) × (drop (k + 1) all ≡ rest)
  taken_next k all rest x e =
      let lt : k < length all = omega (arith, ap length e, length-drop k all) in
      let more = drop_more all k x lt in
      let first : get_or all k x ≡ x = let o = sym more ∙ e in cc in
      let left : drop (k + 1) all ≡ rest = let o = sym more ∙ e in cc in
      (take_more all k x lt ∙ ap (λ (y : A). take k all ++ y ∷ []) first, left)

  pub taken_all : (k n : ℕ) (all : List A) → k ≤ n → drop k all ≡ []
      → (take n all ≡ take k all) × (drop n all ≡ [])
  taken_all k n all le e =
      let short : length all ≤ k = omega (arith, ap length e, length-drop k all) in (
        take_all n all (omega (arith, short, le)) ∙ sym (take_all k all short),
        drop_all n all (omega (arith, short, le)),
      )
