-- The steps of a guess run take no more gates than their measure says, in a domain that isn't exact; and what has to be
-- named is paid by it.
use Rattle.std.proofs.Common.{◌≡◌, ℕ, suc, ◌+◌, ◌*◌, ◌≤◌, max, min, nat_eq, Bool, true, false, ◌||◌, if◌then◌else◌}
use Rattle.std.proofs.Common.{List, [], ◌∷◌, ◌++◌, length, refl, sym, ap, ◌∙◌, subst, arith}
use Rattle.std.specs.List.{sum_by}
use Rattle.std.proofs.lemmas.List.Sums.{sum_by-append, sum_by-cons}
use Rattle.pp_operators.specs.declared.class.OperatorClass.{OperatorClass}
use Rattle.pp_operators.specs.declared.class.OperatorClass.TheVariants as class
use Rattle.pp_tree.specs.declared.operator.BinaryOp.{BinaryOp}
use Rattle.pp_prog.specs.declared.id.DataId.{DataId}
use Rattle.pp_prog.specs.declared.sort.Sort.{Sort}
use Rattle.pp_prog.specs.declared.sort.Sort.TheVariants as sort
use Rattle.pp_prog.specs.declared.types.TypeTable.{TypeTable}
use Rattle.pp_prog.specs.Sizes.{bits, by_sort, flat, width}
use Rattle.pp_domain.specs.Allowance.{bits_at, equality_gates, look_gates, nodes_at, times}
use Rattle.pp_domain.specs.Sense.{Sense}
use Rattle.pp_steps.specs.declared.step.Step.{Step}
use Rattle.pp_steps.specs.declared.step.Step.TheVariants as steps
use Rattle.pp_steps.specs.Gates.{Heights, binary_gates}
use Rattle.pp_steps.specs.Gates as steps_gates
use Rattle.pp_steps.specs.Sorted.{Sorts}
use Rattle.pp_operators.specs.Classes.{class_is_equality, class_of, is_equality}
use Rattle.pp_build.specs.StepGates.{AtMostIn, all_step_gates, compared, is_seen, looked, looked_trees, one_look}
use Rattle.pp_build.specs.StepGates.{opened_gates, step_gates, tree_of}
use Rattle.pp_build.proofs.StepGates.{all_step_gates_le, more_times_all}
use Rattle.pp_guess_gates.specs.Measure.{class_gates, datatype_in, gates_after, newly_compared, newly_looked}
use Rattle.pp_guess_gates.specs.Measure.{operator_gates, round_gates}
use Rattle.pp_guess_values.specs.LooksBefore.{LooksBefore}
use Rattle.pp_guess_values.specs.NamedGuess.{all_looked_at, fields_at, looked_at}

-- ---- numbers

le_self : (n : ℕ) → n ≤ n
le_self n = omega arith

le_same : (a b : ℕ) → a ≡ b → a ≤ b
le_same a b is = omega (arith, is)

-- the second list has all numbers of the first
abbrev HasAll : List ℕ → List ℕ → Type 0
HasAll asked seen = (a : ℕ) → is_seen asked a ≡ true → is_seen seen a ≡ true

seen_behind : (ks seen : List ℕ) (a : ℕ) → is_seen seen a ≡ true → is_seen (ks ++ seen) a ≡ true
seen_behind [] seen a found = found
seen_behind (k ∷ ks) seen a found = by (nat_eq a k) (seen_behind ks seen a found)
  where
    by : (b : Bool) → is_seen (ks ++ seen) a ≡ true → (b || is_seen (ks ++ seen) a) ≡ true
    by true rest = refl
    by false rest = rest

seen_more : (x : ℕ) (asked seen : List ℕ) → HasAll asked seen → HasAll (x ∷ asked) (x ∷ seen)
seen_more x asked seen has a found = by (nat_eq a x) found
  where
    by : (b : Bool) → (b || is_seen asked a) ≡ true → (b || is_seen seen a) ≡ true
    by true found = refl
    by false found = has a found

-- ---- looks

same_tree : (s : Sort) → tree_of s ≡ datatype_in s
same_tree sort.Int = refl
same_tree sort.Bool = refl
same_tree (sort.Tree d) = refl

-- a look that isn't new is left out
maybe_looked : (b : Bool) (s : Sort) (looks : List DataId)
    → AtMostIn ((if b then [] else tree_of s) ++ looks) (datatype_in s ++ looks)
maybe_looked true s looks = λ d. more_times_all d (datatype_in s) looks looks (le_self (times d looks))
maybe_looked false s looks =
    λ d. le_same (times d (tree_of s ++ looks)) (times d (datatype_in s ++ looks))
    (ap (λ l. times d (l ++ looks)) (same_tree s))

module _ (σ : Sorts) where
  -- what is looked at for the first time is counted
  looks_counted : (asked seen : List ℕ) (ds : List DataId) (k : ℕ) (s : Step) (ss : List Step)
      → HasAll asked seen → LooksBefore asked (s ∷ ss) → AtMostIn (looked σ seen k s ++ ds) (newly_looked σ k s ++ ds)
  looks_counted asked seen ds k (steps.Construct z fields) ss has before =
      maybe_looked false (σ k) ds
  looks_counted asked seen ds k (steps.IsCtor z n a) ss has before =
      maybe_looked (is_seen seen a) (σ a) ds
  looks_counted asked seen ds k (steps.Field a i) ss has before =
      maybe_looked (is_seen seen a) (σ a) ds
  looks_counted asked seen ds k (steps.CtorField z i a) ss has before =
      subst (λ (b : Bool). AtMostIn ((if b then [] else tree_of (σ a)) ++ ds) ds) (sym (has a before.0))
      (λ d. le_self (times d ds))
  looks_counted asked seen ds k (steps.Open s) ss has before = λ d. le_self (times d ds)
  looks_counted asked seen ds k (steps.Int n) ss has before = λ d. le_self (times d ds)
  looks_counted asked seen ds k (steps.Bool b) ss has before = λ d. le_self (times d ds)
  looks_counted asked seen ds k (steps.Not a) ss has before = λ d. le_self (times d ds)
  looks_counted asked seen ds k (steps.Both a b) ss has before = λ d. le_self (times d ds)
  looks_counted asked seen ds k (steps.Choose z a b) ss has before = λ d. le_self (times d ds)
  looks_counted asked seen ds k (steps.Unary op a) ss has before = λ d. le_self (times d ds)
  looks_counted asked seen ds k (steps.Binary op a b) ss has before = λ d. le_self (times d ds)
  looks_counted asked seen ds k (steps.IsAlike a b) ss has before = λ d. le_self (times d ds)
  looks_counted asked seen ds k (steps.GoesDown a b) ss has before = λ d. le_self (times d ds)
  looks_counted asked seen ds k (steps.HasAnswer z) ss has before = λ d. le_self (times d ds)
  looks_counted asked seen ds k (steps.Answer z) ss has before = λ d. le_self (times d ds)

  -- so is what is compared
  same_compared : (s : Step) → compared σ s ≡ newly_compared σ s
  same_compared (steps.Open s) = refl
  same_compared (steps.Int n) = refl
  same_compared (steps.Bool b) = refl
  same_compared (steps.Not a) = refl
  same_compared (steps.Both a b) = refl
  same_compared (steps.Choose z a b) = refl
  same_compared (steps.Unary op a) = refl
  same_compared (steps.Binary op a b) = refl
  same_compared (steps.Construct z fields) = refl
  same_compared (steps.IsCtor z n a) = refl
  same_compared (steps.CtorField z i a) = refl
  same_compared (steps.Field a i) = refl
  same_compared (steps.IsAlike a b) = refl
  same_compared (steps.GoesDown a b) = refl
  same_compared (steps.HasAnswer z) = refl
  same_compared (steps.Answer z) = refl

  -- what was asked for is looked at
  asked_later : (asked seen : List ℕ) (k : ℕ) (s : Step) (ss : List Step) → HasAll asked seen
      → LooksBefore asked (s ∷ ss) → (later : List ℕ) × HasAll later (looked_trees k s ++ seen) × LooksBefore later ss
  asked_later asked seen k (steps.IsCtor z n a) ss has before = (a ∷ asked, seen_more a asked seen has, before)
  asked_later asked seen k (steps.CtorField z i a) ss has before =
      (asked, (λ x found. seen_behind (a ∷ []) seen x (has x found)), before.1)
  asked_later asked seen k (steps.Construct z fields) ss has before =
      (asked, (λ x found. seen_behind (k ∷ []) seen x (has x found)), before)
  asked_later asked seen k (steps.Field a i) ss has before =
      (asked, (λ x found. seen_behind (a ∷ []) seen x (has x found)), before)
  asked_later asked seen k (steps.Open s) ss has before = (asked, has, before)
  asked_later asked seen k (steps.Int n) ss has before = (asked, has, before)
  asked_later asked seen k (steps.Bool b) ss has before = (asked, has, before)
  asked_later asked seen k (steps.Not a) ss has before = (asked, has, before)
  asked_later asked seen k (steps.Both a b) ss has before = (asked, has, before)
  asked_later asked seen k (steps.Choose z a b) ss has before = (asked, has, before)
  asked_later asked seen k (steps.Unary op a) ss has before = (asked, has, before)
  asked_later asked seen k (steps.Binary op a b) ss has before = (asked, has, before)
  asked_later asked seen k (steps.IsAlike a b) ss has before = (asked, has, before)
  asked_later asked seen k (steps.GoesDown a b) ss has before = (asked, has, before)
  asked_later asked seen k (steps.HasAnswer z) ss has before = (asked, has, before)
  asked_later asked seen k (steps.Answer z) ss has before = (asked, has, before)

-- ---- a step

module _ {D T : Type 0} (m : Sense D T) (types : TypeTable) (inexact : m.exact ≡ false) where
  opened_most : (s : Sort) → opened_gates m types 0 s ≤ width s
  opened_most sort.Int = omega arith
  opened_most sort.Bool = omega arith
  opened_most (sort.Tree of) =
      le_same _ 32 (ap (λ (b : Bool). if b then (if nat_eq 0 0 then 0 else 4 * (32 + bits types 0 (sort.Tree of)))
      else 32) inexact)

  chosen_most : (h : ℕ) (s : Sort) → by_sort 32 1 (λ of. 32 + bits_at m types of h) s ≤ width s
  chosen_most h sort.Int = omega arith
  chosen_most h sort.Bool = omega arith
  chosen_most h (sort.Tree of) =
      le_same _ 32 (ap (λ (b : Bool). 32 + (if b then bits types h (sort.Tree of) else 0)) inexact)

  equal_most : (h : ℕ) (s : Sort) → by_sort 64 1 (λ of. equality_gates m types of h) s ≤ by_sort 64 1 (λ d. 64) s
  equal_most h sort.Int = omega arith
  equal_most h sort.Bool = omega arith
  equal_most h (sort.Tree of) =
      le_same _ 64 (ap (λ (b : Bool). if b then 4 * (32 + bits types h (sort.Tree of)) else 64) inexact)

  class_most : (c : OperatorClass) (h : ℕ) (s : Sort)
      → (if class_is_equality c then by_sort 64 1 (λ of. equality_gates m types of h) s
      else steps_gates.class_gates types c 0 s)
      ≤ class_gates types c s
  class_most class.Equality h s = equal_most h s
  class_most class.Sum h s = le_self _
  class_most class.Product h s = le_self _
  class_most class.Quotient h s = le_self _
  class_most class.Order h s = le_self _
  class_most class.Logic h s = le_self _
  class_most class.Bitwise h s = le_self _
  class_most class.Shift h s = le_self _

  operator_most : (op : BinaryOp) (h : ℕ) (s : Sort)
      → (if is_equality op then by_sort 64 1 (λ of. equality_gates m types of h) s else binary_gates types op 0 s)
      ≤ operator_gates types op s
  operator_most op h s = class_most (class_of op) h s

  look_most : (looks : List DataId) (c : ℕ) (s : Sort)
      → by_sort 0 0 (one_look m types looks c) s ≤ by_sort 0 0 (look_gates types looks c) s
  look_most looks c sort.Int = omega arith
  look_most looks c sort.Bool = omega arith
  look_most looks c (sort.Tree of) =
      le_same _ (look_gates types looks c of) (ap (λ (b : Bool). if b then 0 else look_gates types looks c of) inexact)

  new_look_most : (b : Bool) (looks : List DataId) (c : ℕ) (s : Sort)
      → (if b then 0 else by_sort 0 0 (one_look m types looks c) s) ≤ by_sort 0 0 (look_gates types looks c) s
  new_look_most true looks c s = omega arith
  new_look_most false looks c s = look_most looks c s

  descent_most : (looks : List DataId) (a b : ℕ) (s : Sort) → by_sort 1024 0 (λ of.
      if m.exact then 64 + 4 * (32 + bits_at m types of a) * (1 + nodes_at m types of b)
      else 194 + 128 * length looks) s ≤ by_sort 1024 0 (λ d. 194 + 128 * length looks) s
  descent_most looks a b sort.Int = omega arith
  descent_most looks a b sort.Bool = omega arith
  descent_most looks a b (sort.Tree of) =
      le_same _ (194 + 128 * length looks) (ap (λ (z : Bool).
      if z then 64 + 4 * (32 + bits_at m types of a) * (1 + nodes_at m types of b)
      else 194 + 128 * length looks) inexact)

  module _ (σ : Sorts) (η : Heights) where
    step_most : (looks : List DataId) (c : ℕ) (asked seen : List ℕ) (k : ℕ) (s : Step) (ss : List Step)
        → HasAll asked seen → LooksBefore asked (s ∷ ss)
        → step_gates m types σ η looks c seen k s ≤ gates_after types σ looks c k s
    step_most looks c asked seen k (steps.Open s) ss has before = opened_most s
    step_most looks c asked seen k (steps.Int n) ss has before = omega arith
    step_most looks c asked seen k (steps.Bool b) ss has before = omega arith
    step_most looks c asked seen k (steps.Not a) ss has before = omega arith
    step_most looks c asked seen k (steps.Both a b) ss has before = omega arith
    step_most looks c asked seen k (steps.Choose z a b) ss has before = chosen_most (max (η a) (η b)) (σ k)
    step_most looks c asked seen k (steps.Unary op a) ss has before = le_self _
    step_most looks c asked seen k (steps.Binary op a b) ss has before = operator_most op (min (η a) (η b)) (σ a)
    step_most looks c asked seen k (steps.Construct z fields) ss has before = look_most looks c (σ k)
    step_most looks c asked seen k (steps.IsCtor z n a) ss has before = new_look_most (is_seen seen a) looks c (σ a)
    step_most looks c asked seen k (steps.CtorField z i a) ss has before =
        le_same _ 0 (ap (λ (b : Bool). if b then 0 else by_sort 0 0 (one_look m types looks c) (σ a))
        (has a before.0))
    step_most looks c asked seen k (steps.Field a i) ss has before = new_look_most (is_seen seen a) looks c (σ a)
    step_most looks c asked seen k (steps.IsAlike a b) ss has before = omega arith
    step_most looks c asked seen k (steps.GoesDown a b) ss has before = descent_most looks (η a) (η b) (σ a)
    step_most looks c asked seen k (steps.HasAnswer z) ss has before = omega arith
    step_most looks c asked seen k (steps.Answer z) ss has before = opened_most z.result

    -- ---- all steps

    steps_most : (looks : List DataId) (c : ℕ) (asked seen : List ℕ) (k : ℕ) (ss : List Step) → HasAll asked seen
        → LooksBefore asked ss → all_step_gates m types σ η looks c seen k ss ≤ round_gates types σ looks c k ss
    steps_most looks c asked seen k [] has before = omega arith
    steps_most looks c asked seen k (s ∷ ss) has before =
        let one = step_most looks c asked seen k s ss has before in
        let next = asked_later σ asked seen k s ss has before in
        let fewer = all_step_gates_le m types σ η (looked σ seen k s ++ looks) (newly_looked σ k s ++ looks)
        (compared σ s + c) (newly_compared σ s + c) (looked_trees k s ++ seen) (suc k) ss
        (looks_counted σ asked seen looks k s ss has before)
        (le_same (compared σ s + c) (newly_compared σ s + c) (ap (λ n. n + c) (same_compared σ s))) in
        let rest = steps_most (newly_looked σ k s ++ looks) (newly_compared σ s + c) next.0
        (looked_trees k s ++ seen) (suc k) ss next.1 next.2 in
        omega (arith, one, fewer, rest)

    -- of a domain that has looked at nothing
    pub guess_steps_most : (ss : List Step) → LooksBefore [] ss
        → all_step_gates m types σ η [] 0 [] 0 ss ≤ round_gates types σ [] 0 0 ss
    guess_steps_most ss before = steps_most [] 0 [] [] 0 ss (λ a found. found) before

-- ---- what has to be named

module _ (types : TypeTable) (σ : Sorts) where
  -- a look pays eight for each field
  look_pays : (looks : List DataId) (c : ℕ) (s : Sort)
      → 8 * by_sort 0 0 (flat types) s ≤ by_sort 0 0 (look_gates types looks c) s
  look_pays looks c sort.Int = omega arith
  look_pays looks c sort.Bool = omega arith
  look_pays looks c (sort.Tree d) = omega arith

  one_named : (a : ℕ) → sum_by (fields_at (flat types) σ) (a ∷ []) ≡ by_sort 0 0 (flat types) (σ a)
  one_named a = sum_by-cons (fields_at (flat types) σ) a [] ∙ plus_none (by_sort 0 0 (flat types) (σ a))
    where
      plus_none : (n : ℕ) → n + 0 ≡ n
      plus_none n = omega arith

  named_by : (looks : List DataId) (c k : ℕ) (s : Step)
      → 8 * sum_by (fields_at (flat types) σ) (looked_at s) ≤ gates_after types σ looks c k s
  named_by looks c k (steps.IsCtor z n a) =
      subst (λ n. 8 * n ≤ by_sort 0 0 (look_gates types looks c) (σ a)) (sym (one_named a)) (look_pays looks c (σ a))
  named_by looks c k (steps.Field a i) =
      subst (λ n. 8 * n ≤ by_sort 0 0 (look_gates types looks c) (σ a)) (sym (one_named a)) (look_pays looks c (σ a))
  named_by looks c k (steps.Open s) = omega arith
  named_by looks c k (steps.Int n) = omega arith
  named_by looks c k (steps.Bool b) = omega arith
  named_by looks c k (steps.Not a) = omega arith
  named_by looks c k (steps.Both a b) = omega arith
  named_by looks c k (steps.Choose z a b) = omega arith
  named_by looks c k (steps.Unary op a) = omega arith
  named_by looks c k (steps.Binary op a b) = omega arith
  named_by looks c k (steps.Construct z fields) = omega arith
  named_by looks c k (steps.CtorField z i a) = omega arith
  named_by looks c k (steps.IsAlike a b) = omega arith
  named_by looks c k (steps.GoesDown a b) = omega arith
  named_by looks c k (steps.HasAnswer z) = omega arith
  named_by looks c k (steps.Answer z) = omega arith

  names_after : (looks : List DataId) (c k : ℕ) (ss : List Step)
      → 8 * sum_by (fields_at (flat types) σ) (all_looked_at ss) ≤ round_gates types σ looks c k ss
  names_after looks c k [] = omega arith
  names_after looks c k (s ∷ ss) =
      let one = named_by looks c k s in
      let rest = names_after (newly_looked σ k s ++ looks) (newly_compared σ s + c) (suc k) ss in
      let both = sum_by-append (fields_at (flat types) σ) (looked_at s) (all_looked_at ss) in
      omega (arith, one, rest, both)

  pub names_paid : (ss : List Step)
      → 8 * sum_by (fields_at (flat types) σ) (all_looked_at ss) ≤ round_gates types σ [] 0 0 ss
  names_paid ss = names_after [] 0 0 ss
