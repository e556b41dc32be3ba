-- What stands in the place of a step is at most as high, and takes at most as many gates.
use Rattle.std.proofs.Common.{◌≡◌, ℕ, ◌-◌, ◌<◌, ◌≤◌, max, min, Bool, true, false, List, [], ◌∷◌, map, slice_get, Option}
use Rattle.std.proofs.Common.{Some, None, arith, subst, sym}
use Rattle.std.proofs.Math.Nat.{le-max_left, le-max_right, le-min, max-le, min-le_left, min-le_right}
use Rattle.pp_tree.specs.declared.operator.BinaryOp.{BinaryOp}
use Rattle.pp_tree.specs.declared.operator.BinaryOp.TheVariants.{Equal, Differ}
use Rattle.pp_prog.specs.declared.id.CtorId.{CtorId}
use Rattle.pp_prog.specs.declared.sort.Sort.{Sort}
use Rattle.pp_prog.specs.declared.sort.Sort.TheVariants as sort
use Rattle.pp_prog.specs.declared.types.TypeTable.{TypeTable}
use Rattle.pp_prog.specs.Values.{greatest}
use Rattle.pp_estimate_laws.proofs.Numbers.{le_same, plus_grows, times_grow}
use Rattle.pp_estimate_laws.proofs.Sizes.{bits_grow, height_grows, nodes_grow}
use Rattle.pp_steps.specs.declared.step.Step.{Step}
use Rattle.pp_steps.specs.declared.step.Step.TheVariants as steps
use Rattle.pp_steps.specs.Gates.{Heights, binary_gates, choice_gates, descent_gates, equality_gates, gates_of}
use Rattle.pp_steps.specs.Gates.{height_of}
use Rattle.pp_steps.specs.Reads.{Below, Reads}
use Rattle.pp_steps.specs.Sorted.{Sorts}
use Rattle.pp_steps.proofs.Counting.{le_trans}
use Rattle.pp_simplify.specs.Folded.{both, bool_at, chosen, folded, taken, tested, turned}
use Rattle.pp_simplify.specs.Literals.{computed}
use Rattle.pp_simplify.specs.Operands.{renamed}
use Rattle.pp_simplify.proofs.Stating.{stated_by}

none : (n : ℕ) → 0 ≤ n
none n = omega arith

max_grows : (a b c d : ℕ) → a ≤ c → b ≤ d → max a b ≤ max c d
max_grows a b c d h g =
    max-le (le_trans a c (max c d) h (le-max_left c d)) (le_trans b d (max c d) g (le-max_right c d))

min_grows : (a b c d : ℕ) → a ≤ c → b ≤ d → min a b ≤ min c d
min_grows a b c d h g =
    le-min (le_trans (min a b) a c (min-le_left a b) h) (le_trans (min a b) b d (min-le_right a b) g)

minus_grows : (a b : ℕ) → a ≤ b → a - 1 ≤ b - 1
minus_grows a b h = omega arith

-- ---- gates grow with the heights

module _ (types : TypeTable) where
  choice_grows : (g h : ℕ) (s : Sort) → g ≤ h → choice_gates types g s ≤ choice_gates types h s
  choice_grows g h sort.Int le = le_same 32
  choice_grows g h sort.Bool le = le_same 1
  choice_grows g h (sort.Tree d) le = plus_grows 32 32 _ _ (le_same 32) (bits_grow types g h (sort.Tree d) le)

  equality_grows : (g h : ℕ) (s : Sort) → g ≤ h → equality_gates types g s ≤ equality_gates types h s
  equality_grows g h sort.Int le = le_same 64
  equality_grows g h sort.Bool le = le_same 1
  equality_grows g h (sort.Tree d) le =
      times_grow 4 4 _ _ (le_same 4) (plus_grows 32 32 _ _ (le_same 32) (bits_grow types g h (sort.Tree d) le))

  binary_grows : (op : BinaryOp) (g h : ℕ) (s : Sort) → g ≤ h → binary_gates types op g s ≤ binary_gates types op h s
  binary_grows Equal g h s le = equality_grows g h s le
  binary_grows Differ g h s le = equality_grows g h s le
  binary_grows op g h s le = le_same _

  descent_grows : (g h i j : ℕ) (s : Sort) → g ≤ h → i ≤ j → descent_gates types g i s ≤ descent_gates types h j s
  descent_grows g h i j sort.Int le more = le_same 1024
  descent_grows g h i j sort.Bool le more = le_same 0
  descent_grows g h i j (sort.Tree d) le more =
      plus_grows 64 64 _ _ (le_same 64)
      (times_grow _ _ _ _
      (times_grow 4 4 _ _ (le_same 4) (plus_grows 32 32 _ _ (le_same 32) (bits_grow types g h (sort.Tree d) le)))
      (plus_grows 1 1 _ _ (le_same 1) (nodes_grow types i j (sort.Tree d) more)))

-- ---- a step whose operands are renamed to lower ones

-- the step t in the place of s, under these heights, is at most as high as s and takes at most as many gates
abbrev pub IsLower : TypeTable → Sorts → Heights → Heights → ℕ → Step → Step → Type 0
IsLower types σ θ η k t s =
    (height_of types σ θ k t ≤ height_of types σ η k s) × (gates_of types σ θ k t ≤ gates_of types σ η k s)

module _ (types : TypeTable) (σ : Sorts) (η θ : Heights) (r : ℕ → ℕ) (k : ℕ) (low : (i : ℕ) → i < k → θ (r i) ≤ η i)
    (same : (i : ℕ) → σ (r i) ≡ σ i)
  where
    greatest_grows : (ns : List ℕ) → Below k ns → greatest (map θ (map r ns)) ≤ greatest (map η ns)
    greatest_grows [] b = le_same 0
    greatest_grows (n ∷ ns) b =
        max_grows (θ (r n)) (greatest (map θ (map r ns))) (η n) (greatest (map η ns)) (low n b.0)
        (greatest_grows ns b.1)

    height_lower : (s : Step) → Reads k s → height_of types σ θ k (renamed r s) ≤ height_of types σ η k s
    height_lower (steps.Open s) b = le_same 0
    height_lower (steps.Int n) b = le_same 0
    height_lower (steps.Bool v) b = le_same 0
    height_lower (steps.Not a) b = le_same 0
    height_lower (steps.Both x y) b = le_same 0
    height_lower (steps.Choose c x y) b = max_grows (θ (r x)) (θ (r y)) (η x) (η y) (low x b.1) (low y b.2)
    height_lower (steps.Unary op a) b = le_same 0
    height_lower (steps.Binary op x y) b = le_same 0
    height_lower (steps.Construct c fields) b = plus_grows 1 1 _ _ (le_same 1) (greatest_grows fields b)
    height_lower (steps.IsCtor c n a) b = le_same 0
    height_lower (steps.CtorField c i a) b =
        height_grows (θ (r a) - 1) (η a - 1) (σ k) (minus_grows (θ (r a)) (η a) (low a b))
    height_lower (steps.Field a i) b =
        height_grows (θ (r a) - 1) (η a - 1) (σ k) (minus_grows (θ (r a)) (η a) (low a b))
    height_lower (steps.IsAlike x y) b = le_same 0
    height_lower (steps.GoesDown x y) b = le_same 0
    height_lower (steps.HasAnswer c) b = le_same 0
    height_lower (steps.Answer c) b = le_same 0

    gates_lower : (s : Step) → Reads k s → gates_of types σ θ k (renamed r s) ≤ gates_of types σ η k s
    gates_lower (steps.Open s) b = le_same _
    gates_lower (steps.Int n) b = le_same 0
    gates_lower (steps.Bool v) b = le_same 0
    gates_lower (steps.Not a) b = le_same 0
    gates_lower (steps.Both x y) b = le_same 1
    gates_lower (steps.Choose c x y) b =
        choice_grows types (max (θ (r x)) (θ (r y))) (max (η x) (η y)) (σ k)
        (max_grows (θ (r x)) (θ (r y)) (η x) (η y) (low x b.1) (low y b.2))
    gates_lower (steps.Unary op a) b = le_same _
    gates_lower (steps.Binary op x y) b =
        subst (λ t. binary_gates types op (min (θ (r x)) (θ (r y))) t ≤ binary_gates types op (min (η x) (η y)) (σ x))
        (sym (same x))
        (binary_grows types op (min (θ (r x)) (θ (r y))) (min (η x) (η y)) (σ x)
        (min_grows (θ (r x)) (θ (r y)) (η x) (η y) (low x b.0) (low y b.1)))
    gates_lower (steps.Construct c fields) b = le_same 0
    gates_lower (steps.IsCtor c n a) b = le_same 0
    gates_lower (steps.CtorField c i a) b = le_same 0
    gates_lower (steps.Field a i) b = le_same 0
    gates_lower (steps.IsAlike x y) b = le_same 0
    gates_lower (steps.GoesDown x y) b =
        subst (λ t. descent_gates types (θ (r x)) (θ (r y)) t ≤ descent_gates types (η x) (η y) (σ x)) (sym (same x))
        (descent_grows types (θ (r x)) (η x) (θ (r y)) (η y) (σ x) (low x b.0) (low y b.1))
    gates_lower (steps.HasAnswer c) b = le_same 1
    gates_lower (steps.Answer c) b = le_same _

    pub renamed_lower : (s : Step) → Reads k s → IsLower types σ θ η k (renamed r s) s
    renamed_lower s b = (height_lower s b, gates_lower s b)

-- ---- and that is folded

module _ (types : TypeTable) (σ : Sorts) (θ : Heights) (k : ℕ) where
  abbrev IsNoHigher : Step → Step → Type 0
  IsNoHigher t s = IsLower types σ θ θ k t s

  own : (s : Step) → IsNoHigher s s
  own s = (le_same _, le_same _)

  turned_lower : (a : ℕ) (o : Option Bool) → IsNoHigher (turned a o) (steps.Not a)
  turned_lower a None = (le_same 0, le_same 0)
  turned_lower a (Some b) = (le_same 0, le_same 0)

  both_lower : (a b : ℕ) (x y : Option Bool) → IsNoHigher (both a b x y) (steps.Both a b)
  both_lower a b (Some false) y = (le_same 0, none 1)
  both_lower a b (Some true) (Some w) = (le_same 0, none 1)
  both_lower a b (Some true) None = (le_same 0, le_same 1)
  both_lower a b None (Some false) = (le_same 0, none 1)
  both_lower a b None (Some true) = (le_same 0, le_same 1)
  both_lower a b None None = (le_same 0, le_same 1)

  taken_left : (c a b : ℕ) (x : Option Bool) → IsNoHigher (taken c a x) (steps.Choose c a b)
  taken_left c a b (Some w) = (none _, none _)
  taken_left c a b None =
      let le = max-le {a = θ a} {b = θ a} (le-max_left (θ a) (θ b)) (le-max_left (θ a) (θ b)) in
      (le, choice_grows types (max (θ a) (θ a)) (max (θ a) (θ b)) (σ k) le)

  taken_right : (c a b : ℕ) (x : Option Bool) → IsNoHigher (taken c b x) (steps.Choose c a b)
  taken_right c a b (Some w) = (none _, none _)
  taken_right c a b None =
      let le = max-le {a = θ b} {b = θ b} (le-max_right (θ a) (θ b)) (le-max_right (θ a) (θ b)) in
      (le, choice_grows types (max (θ b) (θ b)) (max (θ a) (θ b)) (σ k) le)

  chosen_lower : (c a b : ℕ) (o x y : Option Bool) → IsNoHigher (chosen c a b o x y) (steps.Choose c a b)
  chosen_lower c a b (Some true) x y = taken_left c a b x
  chosen_lower c a b (Some false) x y = taken_right c a b y
  chosen_lower c a b None x y = own (steps.Choose c a b)

  tested_lower : (c : CtorId) (n a : ℕ) (o : Option Step) → IsNoHigher (tested c n a o) (steps.IsCtor c n a)
  tested_lower c n a (Some (steps.Construct d fields)) = (le_same 0, le_same 0)
  tested_lower c n a o = (le_same 0, le_same 0)

  folded_lower : (news : List Step) (s : Step) → IsNoHigher (folded news s) s
  folded_lower news (steps.Not a) = turned_lower a (bool_at news a)
  folded_lower news (steps.Both a b) = both_lower a b (bool_at news a) (bool_at news b)
  folded_lower news (steps.Choose c a b) = chosen_lower c a b (bool_at news c) (bool_at news a) (bool_at news b)
  folded_lower news (steps.IsCtor c n a) = tested_lower c n a (slice_get news a)
  folded_lower news s = stated_by (λ t. IsNoHigher t s) s (computed news s) (own s) (λ n e. (none _, none _))
      (λ b e. (none _, none _))

-- what stands in the place of a step
pub next_lower : (types : TypeTable) (σ : Sorts) (η θ : Heights) (r : ℕ → ℕ) (k : ℕ)
    → ((i : ℕ) → i < k → θ (r i) ≤ η i) → ((i : ℕ) → σ (r i) ≡ σ i) → (news : List Step) (s : Step) → Reads k s
    → IsLower types σ θ η k (folded news (renamed r s)) s
next_lower types σ η θ r k low same news s b =
    let x = folded_lower types σ θ k news (renamed r s) in
    let y = renamed_lower types σ η θ r k low same s b in
    (le_trans _ _ _ x.0 y.0, le_trans _ _ _ x.1 y.1)
