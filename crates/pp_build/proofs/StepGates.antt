-- The gates of steps: in an exact domain those by heights, in another one no more after fewer looks.
use Rattle.pp_tree.specs.declared.operator.BinaryOp.{BinaryOp}
use Rattle.std.proofs.Common.{◌≡◌, ℕ, suc, ◌+◌, ◌*◌, ◌≤◌, max, min, nat_eq, Bool, true, false, if◌then◌else◌, List, []}
use Rattle.std.proofs.Common.{◌∷◌, ◌++◌, drop, length, map, sum, Some, slice_get, refl, sym, ap, ◌∙◌, subst, arith, inl}
use Rattle.std.proofs.Common.{inr, ◌⊎◌}
use Rattle.std.proofs.lemmas.Bool.{eq-eqb, eqb-true}
use Rattle.pp_operators.specs.Classes.{class_is_equality, class_of}
use Rattle.pp_operators.specs.declared.class.OperatorClass.{OperatorClass}
use Rattle.pp_operators.specs.declared.class.OperatorClass.TheVariants as class
use Rattle.pp_prog.specs.declared.id.DataId.{DataId}
use Rattle.pp_prog.specs.declared.sort.Sort.{Sort}
use Rattle.pp_prog.specs.declared.sort.Sort.TheVariants as sort
use Rattle.pp_prog.specs.declared.types.TypeTable.{TypeTable}
use Rattle.pp_prog.specs.Sizes.{bits, by_sort, flat, nodes}
use Rattle.pp_domain.specs.Allowance.{bits_at, equality_gates, look_gates, nodes_at, times}
use Rattle.pp_domain.specs.Moves.{FirstLook, LooksAt, SameLooks}
use Rattle.pp_domain.specs.Sense.{Inexact, Sense}
use Rattle.pp_gate.specs.declared.gate.Gate.{Gate}
use Rattle.pp_steps.specs.declared.step.Step.{Step}
use Rattle.pp_steps.specs.declared.step.Step.TheVariants as steps
use Rattle.pp_steps.specs.Gates.{Heights, all_gates, class_gates, gates_of, open_gates}
use Rattle.pp_steps.specs.Sorted.{Sorts}
use Rattle.pp_build.proofs.StepLists.{drop_at}
use Rattle.pp_build.specs.StepGates.{AtMostIn, KeepsLooks, all_step_gates, compared, looked, one_look, is_seen}
use Rattle.pp_build.specs.StepGates.{looked_trees, opened_gates, step_gates}
use Rattle.pp_build_operators.specs.Operated.{CountsOne}

-- ---- fewer looks

more_times : (d e : DataId) (xs : List DataId) → times d xs ≤ times d (e ∷ xs)
more_times d e xs = by (nat_eq e.0 d.0)
  where
    by : (b : Bool) → times d xs ≤ (if b then 1 + times d xs else times d xs)
    by true = omega arith
    by false = omega arith

pub more_times_all : (d : DataId) (fs xs ys : List DataId) → times d xs ≤ times d ys → times d xs ≤ times d (fs ++ ys)
more_times_all d [] xs ys le = le
more_times_all d (f ∷ fs) xs ys le =
    let rest = more_times_all d fs xs ys le in let one = more_times d f (fs ++ ys) in omega arith

same_times : (d e : DataId) (xs ys : List DataId) → times d xs ≤ times d ys → times d (e ∷ xs) ≤ times d (e ∷ ys)
same_times d e xs ys le = by (nat_eq e.0 d.0)
  where
    by : (b : Bool) → (if b then 1 + times d xs else times d xs) ≤ (if b then 1 + times d ys else times d ys)
    by true = omega arith
    by false = le

-- the list without the first of these datatypes
abbrev without_one : DataId → List DataId → List DataId
without_one d [] = []
without_one d (y ∷ ys) = if nat_eq y.0 d.0 then ys else y ∷ without_one d ys

without_shorter : (d : DataId) (ys : List DataId) → 1 ≤ times d ys → length ys ≡ suc (length (without_one d ys))
without_shorter d [] has = omega (arith, has)
without_shorter d (y ∷ ys) has = by (nat_eq y.0 d.0) has (without_shorter d ys)
  where
    by : (b : Bool) → 1 ≤ (if b then 1 + times d ys else times d ys)
        → (1 ≤ times d ys → length ys ≡ suc (length (without_one d ys)))
        → suc (length ys) ≡ suc (length (if b then ys else y ∷ without_one d ys))
    by true has rest = refl
    by false has rest = ap suc (rest has)

-- it stood there
without_times : (d e : DataId) (ys : List DataId) → times e ys ≤ times e (d ∷ without_one d ys)
without_times d e [] = omega arith
without_times d e (y ∷ ys) = by (nat_eq y.0 d.0) refl (without_times d e ys)
  where
    next : (a c : Bool) (n m : ℕ) → n ≤ (if a then 1 + m else m)
        → (if c then 1 + n else n) ≤ (if a then 1 + (if c then 1 + m else m) else (if c then 1 + m else m))
    next true true n m le = omega arith
    next true false n m le = omega arith
    next false true n m le = omega arith
    next false false n m le = omega arith

    by : (b : Bool) → nat_eq y.0 d.0 ≡ b → times e ys ≤ times e (d ∷ without_one d ys)
        → times e (y ∷ ys) ≤ times e (d ∷ (if b then ys else y ∷ without_one d ys))
    by true same rest =
        subst (λ k. times e (y ∷ ys) ≤ (if nat_eq k e.0 then 1 + times e ys else times e ys)) (eqb-true y.0 d.0 same)
        (omega arith)
    by false other rest =
        next (nat_eq d.0 e.0) (nat_eq y.0 e.0) (times e ys) (times e (without_one d ys)) rest

-- so the first list isn't longer
fewer_long : (xs ys : List DataId) → AtMostIn xs ys → length xs ≤ length ys
fewer_long [] ys fewer = omega arith
fewer_long (x ∷ xs) ys fewer =
    let has : 1 ≤ times x ys = one x (times x xs) (fewer x) in
    let rest = fewer_long xs (without_one x ys)
    (λ d. cancelled (nat_eq x.0 d.0) _ _ _ (fewer d) (without_times x d ys)) in
    let shorter = without_shorter x ys has in
    omega (arith, rest, shorter)
  where
    cancelled : (b : Bool) (k m n : ℕ) → (if b then 1 + k else k) ≤ m → m ≤ (if b then 1 + n else n) → k ≤ n
    cancelled true k m n le more = omega arith
    cancelled false k m n le more = omega arith

    one : (d : DataId) (k : ℕ) → (if nat_eq d.0 d.0 then 1 + k else k) ≤ times d ys → 1 ≤ times d ys
    one d k le =
        subst (λ (b : Bool). (if b then 1 + k else k) ≤ times d ys → 1 ≤ times d ys) (sym (eq-eqb d.0 d.0 refl))
        (λ more. omega (arith, more)) le

pub fewer_after : (fs xs ys : List DataId) → AtMostIn xs ys → AtMostIn (fs ++ xs) (fs ++ ys)
fewer_after [] xs ys fewer = fewer
fewer_after (f ∷ fs) xs ys fewer =
    let rest = fewer_after fs xs ys fewer in λ d. same_times d f (fs ++ xs) (fs ++ ys) (rest d)

product_le : (a b c : ℕ) → a ≤ b → a * c ≤ b * c
product_le a b c le = grind (arith)

look_le : (types : TypeTable) (xs ys : List DataId) (j k : ℕ) (d : DataId) → AtMostIn xs ys → j ≤ k
    → look_gates types xs j d ≤ look_gates types ys k d
look_le types xs ys j k d fewer le =
    let p = product_le (times d xs) (times d ys) (64 + 4 * flat types d) (fewer d) in omega arith

module _ {D T : Type 0} (m : Sense D T) (types : TypeTable) where
  one_look_le : (xs ys : List DataId) (j k : ℕ) (d : DataId) → AtMostIn xs ys → j ≤ k
      → one_look m types xs j d ≤ one_look m types ys k d
  one_look_le xs ys j k d fewer le = by m.exact
    where
      by : (b : Bool) → (if b then 0 else look_gates types xs j d) ≤ (if b then 0 else look_gates types ys k d)
      by true = omega arith
      by false = look_le types xs ys j k d fewer le

  sort_look_le : (xs ys : List DataId) (j k : ℕ) (s : Sort) → AtMostIn xs ys → j ≤ k
      → by_sort 0 0 (one_look m types xs j) s ≤ by_sort 0 0 (one_look m types ys k) s
  sort_look_le xs ys j k sort.Int fewer le = omega arith
  sort_look_le xs ys j k sort.Bool fewer le = omega arith
  sort_look_le xs ys j k (sort.Tree d) fewer le = one_look_le xs ys j k d fewer le

  new_look_le : (b : Bool) (x y : ℕ) → x ≤ y → (if b then 0 else x) ≤ (if b then 0 else y)
  new_look_le true x y le = omega arith
  new_look_le false x y le = le

  compare_le : (xs ys : List DataId) (one : DataId → ℕ) (s : Sort) → AtMostIn xs ys
      → by_sort 1024 0 (λ of. if m.exact then one of else 194 + 128 * length xs) s
      ≤ by_sort 1024 0 (λ of. if m.exact then one of else 194 + 128 * length ys) s
  compare_le xs ys one sort.Int fewer = omega arith
  compare_le xs ys one sort.Bool fewer = omega arith
  compare_le xs ys one (sort.Tree of) fewer = by m.exact
    where
      by : (b : Bool) → (if b then one of else 194 + 128 * length xs) ≤ (if b then one of else 194 + 128 * length ys)
      by true = omega arith
      by false = (let all = fewer_long xs ys fewer in omega arith)

  module _ (σ : Sorts) (η : Heights) where
    pub step_gates_le : (xs ys : List DataId) (j k : ℕ) (seen : List ℕ) (i : ℕ) (s : Step) → AtMostIn xs ys → j ≤ k
        → step_gates m types σ η xs j seen i s ≤ step_gates m types σ η ys k seen i s
    step_gates_le xs ys j k seen i (steps.Open s) fewer le = omega arith
    step_gates_le xs ys j k seen i (steps.Int n) fewer le = omega arith
    step_gates_le xs ys j k seen i (steps.Bool b) fewer le = omega arith
    step_gates_le xs ys j k seen i (steps.Not a) fewer le = omega arith
    step_gates_le xs ys j k seen i (steps.Both a b) fewer le = omega arith
    step_gates_le xs ys j k seen i (steps.Choose c a b) fewer le = omega arith
    step_gates_le xs ys j k seen i (steps.Unary op a) fewer le = omega arith
    step_gates_le xs ys j k seen i (steps.Binary op a b) fewer le = omega arith
    step_gates_le xs ys j k seen i (steps.Construct c fields) fewer le = sort_look_le xs ys j k (σ i) fewer le
    step_gates_le xs ys j k seen i (steps.IsCtor c n a) fewer le =
        new_look_le (is_seen seen a) _ _ (sort_look_le xs ys j k (σ a) fewer le)
    step_gates_le xs ys j k seen i (steps.CtorField c n a) fewer le =
        new_look_le (is_seen seen a) _ _ (sort_look_le xs ys j k (σ a) fewer le)
    step_gates_le xs ys j k seen i (steps.Field a n) fewer le =
        new_look_le (is_seen seen a) _ _ (sort_look_le xs ys j k (σ a) fewer le)
    step_gates_le xs ys j k seen i (steps.IsAlike a b) fewer le = omega arith
    step_gates_le xs ys j k seen i (steps.GoesDown a b) fewer le =
        compare_le xs ys (λ of. 64 + 4 * (32 + bits_at m types of (η a)) * (1 + nodes_at m types of (η b))) (σ a) fewer
    step_gates_le xs ys j k seen i (steps.HasAnswer c) fewer le = omega arith
    step_gates_le xs ys j k seen i (steps.Answer c) fewer le = omega arith

    pub all_step_gates_le : (xs ys : List DataId) (j k : ℕ) (seen : List ℕ) (i : ℕ) (ss : List Step) → AtMostIn xs ys
        → j ≤ k → all_step_gates m types σ η xs j seen i ss ≤ all_step_gates m types σ η ys k seen i ss
    all_step_gates_le xs ys j k seen i [] fewer le = omega arith
    all_step_gates_le xs ys j k seen i (s ∷ ss) fewer le =
        let one = step_gates_le xs ys j k seen i s fewer le in
        let rest = all_step_gates_le (looked σ seen i s ++ xs) (looked σ seen i s ++ ys) (compared σ s + j)
        (compared σ s + k) (looked_trees i s ++ seen) (suc i) ss (fewer_after (looked σ seen i s) xs ys fewer)
        (omega arith) in
        omega arith

  -- what a call that looks at a tree leaves
  pub looked_once : (d e : D) (gs hs : List Gate) (t : T) (of : DataId) → LooksAt m d gs e hs t of
      → AtMostIn (m.looks e) (of ∷ m.looks d)
  looked_once d e gs hs t of at = by at.once
    where
      by : (SameLooks m d e × (hs ≡ gs)) ⊎ FirstLook m d e t of → AtMostIn (m.looks e) (of ∷ m.looks d)
      by (inl same) = λ x.
          subst (λ l. times x l ≤ times x (of ∷ m.looks d)) (sym same.0.looks) (more_times x of (m.looks d))
      by (inr first) = λ x. subst (λ l. times x l ≤ times x (of ∷ m.looks d)) (sym first.looks) (omega arith)

  -- a step that looks at no tree
  pub keeps_same : (d e : D) (σ : Sorts) (seen : List ℕ) (k : ℕ) (s : Step) → (m.exact ≡ false → SameLooks m d e)
      → KeepsLooks m d e σ seen k s
  keeps_same d e σ seen k s same = record {
    looks = λ inexact x. more_times_all x (looked σ seen k s) (m.looks e) (m.looks d)
        (subst (λ l. times x l ≤ times x (m.looks d)) (sym (same inexact).looks) (omega arith));
    compares = λ inexact. (let c = (same inexact).compares in omega arith);
  }

  -- a step that compares two
  pub keeps_compared : (d e : D) (σ : Sorts) (seen : List ℕ) (k i j : ℕ) → Inexact m (CountsOne m d e (σ i))
      → KeepsLooks m d e σ seen k (steps.GoesDown i j)
  keeps_compared d e σ seen k i j once = record {
    looks = λ inexact x. subst (λ l. times x l ≤ times x (m.looks d)) (sym (once inexact).looks) (omega arith);
    compares = λ inexact. (once inexact).compares;
  }

  -- a look counts no comparison
  looks_alone : (d e : D) (gs hs : List Gate) (t : T) (of : DataId) (σ : Sorts) (s : Step) → LooksAt m d gs e hs t of
      → m.compares e ≤ compared σ s + m.compares d
  looks_alone d e gs hs t of σ s at = by at.once
    where
      by : (SameLooks m d e × (hs ≡ gs)) ⊎ FirstLook m d e t of → m.compares e ≤ compared σ s + m.compares d
      by (inl same) = (let c = same.0.compares in omega arith)
      by (inr first) = (let c = first.compares in omega arith)

  -- a step that looks at a new tree
  pub keeps_look : (d e : D) (gs hs : List Gate) (t : T) (of : DataId) (σ : Sorts) (seen : List ℕ) (k : ℕ) (s : Step)
      → LooksAt m d gs e hs t of → looked σ seen k s ≡ of ∷ [] → KeepsLooks m d e σ seen k s
  keeps_look d e gs hs t of σ seen k s at is = record {
    looks = λ inexact. subst (λ l. AtMostIn (m.looks e) (l ++ m.looks d)) (sym is) (looked_once d e gs hs t of at);
    compares = λ inexact. looks_alone d e gs hs t of σ s at;
  }

  -- nothing is looked at where the tree is expanded
  looked_again : (d e : D) (gs hs : List Gate) (t : T) (of : DataId) → LooksAt m d gs e hs t of → m.Expanded d t
      → AtMostIn (m.looks e) (m.looks d)
  looked_again d e gs hs t of at there = by at.once
    where
      by : (SameLooks m d e × (hs ≡ gs)) ⊎ FirstLook m d e t of → AtMostIn (m.looks e) (m.looks d)
      by (inl same) = λ x. subst (λ l. times x l ≤ times x (m.looks d)) (sym same.0.looks) (omega arith)
      by (inr first) = absurd (first.before there)

  -- a step that looks at the tree of an earlier one
  pub keeps_look_at : (d e : D) (gs hs : List Gate) (t : T) (of : DataId) (σ : Sorts) (seen : List ℕ) (k i : ℕ)
      (s : Step) → LooksAt m d gs e hs t of → (is_seen seen i ≡ true → m.Expanded d t)
      → looked σ seen k s ≡ (if is_seen seen i then [] else of ∷ []) → KeepsLooks m d e σ seen k s
  keeps_look_at d e gs hs t of σ seen k i s at there is = record {
    looks = λ inexact. subst (λ l. AtMostIn (m.looks e) (l ++ m.looks d)) (sym is) (by (is_seen seen i) refl);
    compares = λ inexact. looks_alone d e gs hs t of σ s at;
  }
    where
      by : (b : Bool) → is_seen seen i ≡ b → AtMostIn (m.looks e) ((if b then [] else of ∷ []) ++ m.looks d)
      by true found = looked_again d e gs hs t of at (there found)
      by false found = looked_once d e gs hs t of at

-- ---- an exact domain

module _ {D T : Type 0} (m : Sense D T) (types : TypeTable) (exact : m.exact ≡ true) (σ : Sorts) (η : Heights) where
  pub exact_opened : (h : ℕ) (s : Sort) → opened_gates m types h s ≡ open_gates types h s
  exact_opened h sort.Int = refl
  exact_opened h sort.Bool = refl
  exact_opened h (sort.Tree of) =
      ap (λ (b : Bool). if b then (if nat_eq h 0 then 0 else 4 * (32 + bits types h (sort.Tree of))) else 32) exact

  -- and of all arguments
  each_opened : (h : ℕ) (ss : List Sort) → map (opened_gates m types h) ss ≡ map (open_gates types h) ss
  each_opened h [] = refl
  each_opened h (s ∷ ss) =
      ap (λ n. n ∷ map (opened_gates m types h) ss) (exact_opened h s)
      ∙ ap (λ ns. open_gates types h s ∷ ns) (each_opened h ss)

  pub exact_all_opened : (h : ℕ) (ss : List Sort)
      → sum (map (opened_gates m types h) ss) ≡ sum (map (open_gates types h) ss)
  exact_all_opened h ss = ap (λ ns. sum ns) (each_opened h ss)

  no_look : (looks : List DataId) (compares : ℕ) (s : Sort) → by_sort 0 0 (one_look m types looks compares) s ≡ 0
  no_look looks compares sort.Int = refl
  no_look looks compares sort.Bool = refl
  no_look looks compares (sort.Tree of) =
      ap (λ (b : Bool). if b then 0 else look_gates types looks compares of) exact

  bits_are : (of : DataId) (h : ℕ) → bits_at m types of h ≡ bits types h (sort.Tree of)
  bits_are of h = ap (λ (b : Bool). if b then bits types h (sort.Tree of) else 0) exact

  no_new_look : (looks : List DataId) (compares : ℕ) (b : Bool) (s : Sort)
      → (if b then 0 else by_sort 0 0 (one_look m types looks compares) s) ≡ 0
  no_new_look looks compares true s = refl
  no_new_look looks compares false s = no_look looks compares s

  pub exact_gates : (looks : List DataId) (compares : ℕ) (seen : List ℕ) (k : ℕ) (s : Step)
      → step_gates m types σ η looks compares seen k s ≡ gates_of types σ η k s
  exact_gates looks compares seen k (steps.Open s) = exact_opened 0 s
  exact_gates looks compares seen k (steps.HasAnswer c) = refl
  exact_gates looks compares seen k (steps.Answer c) = exact_opened 0 c.result
  exact_gates looks compares seen k (steps.Int n) = refl
  exact_gates looks compares seen k (steps.Bool b) = refl
  exact_gates looks compares seen k (steps.Not a) = refl
  exact_gates looks compares seen k (steps.Both a b) = refl
  exact_gates looks compares seen k (steps.Choose c a b) = chosen (σ k)
    where
      chosen : (q : Sort) → by_sort 32 1 (λ of. 32 + bits_at m types of (max (η a) (η b))) q
          ≡ by_sort 32 1 (λ of. 32 + bits types (max (η a) (η b)) (sort.Tree of)) q
      chosen sort.Int = refl
      chosen sort.Bool = refl
      chosen (sort.Tree of) = ap (λ n. 32 + n) (bits_are of (max (η a) (η b)))
  exact_gates looks compares seen k (steps.Unary op a) = refl
  exact_gates looks compares seen k (steps.Binary op a b) = by (class_of op)
    where
      h : ℕ
      h = min (η a) (η b)

      compared : (q : Sort) → by_sort 64 1 (λ of. equality_gates m types of h) q
          ≡ by_sort 64 1 (λ of. 4 * (32 + bits types h (sort.Tree of))) q
      compared sort.Int = refl
      compared sort.Bool = refl
      compared (sort.Tree of) = ap (λ (b : Bool). if b then 4 * (32 + bits types h (sort.Tree of)) else 64) exact

      by : (o : OperatorClass)
          → (if class_is_equality o then by_sort 64 1 (λ of. equality_gates m types of h) (σ a)
          else class_gates types o 0 (σ a)) ≡ class_gates types o h (σ a)
      by class.Equality = compared (σ a)
      by class.Sum = refl
      by class.Product = refl
      by class.Quotient = refl
      by class.Order = refl
      by class.Logic = refl
      by class.Bitwise = refl
      by class.Shift = refl
  exact_gates looks compares seen k (steps.Construct c fields) = no_look looks compares (σ k)
  exact_gates looks compares seen k (steps.IsCtor c n a) = no_new_look looks compares (is_seen seen a) (σ a)
  exact_gates looks compares seen k (steps.CtorField c i a) = no_new_look looks compares (is_seen seen a) (σ a)
  exact_gates looks compares seen k (steps.Field a i) = no_new_look looks compares (is_seen seen a) (σ a)
  exact_gates looks compares seen k (steps.IsAlike a b) = refl
  exact_gates looks compares seen k (steps.GoesDown a b) = down (σ a)
    where
      down : (q : Sort) → by_sort 1024 0 (λ of.
          if m.exact then 64 + 4 * (32 + bits_at m types of (η a)) * (1 + nodes_at m types of (η b))
          else 194 + 128 * length looks) q
          ≡ by_sort 1024 0 (λ of. 64 + 4 * (32 + bits types (η a) (sort.Tree of))
          * (1 + nodes types (η b) (sort.Tree of)))
          q
      down sort.Int = refl
      down sort.Bool = refl
      down (sort.Tree of) =
          ap (λ (z : Bool). if z then 64 + 4 * (32 + (if z then bits types (η a) (sort.Tree of) else 0))
          * (1 + (if z then nodes types (η b) (sort.Tree of) else 0)) else 194 + 128 * length looks) exact

  -- so are those of all steps
  pub exact_all_gates : (looks : List DataId) (compares : ℕ) (seen : List ℕ) (k : ℕ) (ss : List Step)
      → all_step_gates m types σ η looks compares seen k ss ≡ all_gates types σ η k ss
  exact_all_gates looks compares seen k [] = refl
  exact_all_gates looks compares seen k (s ∷ ss) =
      ap (λ n. n + all_step_gates m types σ η (looked σ seen k s ++ looks) (compared σ s + compares)
      (looked_trees k s ++ seen) (suc k) ss) (exact_gates looks compares seen k s)
      ∙ ap (λ n. gates_of types σ η k s + n)
      (exact_all_gates (looked σ seen k s ++ looks) (compared σ s + compares) (looked_trees k s ++ seen) (suc k) ss)

-- ---- a step at a time

module _ {D T : Type 0} (m : Sense D T) (types : TypeTable) (σ : Sorts) (η : Heights) where
  -- the gates of the steps from a place on
  pub step_gates_at : (looks : List DataId) (compares : ℕ) (seen : List ℕ) (ss : List Step) (i : ℕ) (s : Step)
      → slice_get ss i ≡ Some s
      → all_step_gates m types σ η looks compares seen i (drop i ss) ≡ step_gates m types σ η looks compares seen i s
      + all_step_gates m types σ η (looked σ seen i s ++ looks) (compared σ s + compares) (looked_trees i s ++ seen)
      (suc i) (drop (suc i) ss)
  step_gates_at looks compares seen ss i s at =
      ap (all_step_gates m types σ η looks compares seen i) (drop_at ss i s at)

  -- after a step no more is left than was counted before it
  pub left_gates : (d e : D) (seen : List ℕ) (k : ℕ) (s : Step) (more : List ℕ) (i : ℕ) (ss : List Step)
      → KeepsLooks m d e σ seen k s
      → all_step_gates m types σ η (m.looks e) (m.compares e) more i ss
      ≤ all_step_gates m types σ η (looked σ seen k s ++ m.looks d) (compared σ s + m.compares d) more i ss
  left_gates d e seen k s more i ss keeps = by m.exact refl
    where
      by : (b : Bool) → m.exact ≡ b → all_step_gates m types σ η (m.looks e) (m.compares e) more i ss
          ≤ all_step_gates m types σ η (looked σ seen k s ++ m.looks d) (compared σ s + m.compares d) more i ss
      by true exact =
          let one = exact_all_gates m types exact σ η (m.looks e) (m.compares e) more i ss in
          let other = exact_all_gates m types exact σ η (looked σ seen k s ++ m.looks d) (compared σ s + m.compares d)
          more i ss in
          omega arith
      by false inexact =
          all_step_gates_le m types σ η (m.looks e) (looked σ seen k s ++ m.looks d) (m.compares e)
          (compared σ s + m.compares d) more i ss (keeps.looks inexact) (keeps.compares inexact)
