-- Lists of steps, a step at a time.
use Rattle.std.proofs.Common.{◌≡◌, ℕ, zero, suc, ◌+◌, ◌<◌, List, [], ◌∷◌, All, drop, Some, slice_get, refl, ap, ◌∙◌}
use Rattle.std.proofs.Common.{subst, arith}
use Rattle.std.proofs.lemmas.List.Elements.{All-cons, All-head, All-tail}
use Rattle.std.proofs.lemmas.Option.{same_Some}
use Rattle.pp_prog.specs.declared.types.Ctor.{Ctor}
use Rattle.pp_prog.specs.declared.types.TypeTable.{TypeTable}
use Rattle.pp_steps.specs.declared.step.Step.{Step}
use Rattle.pp_steps.specs.declared.step.Step.TheVariants as steps
use Rattle.pp_steps.specs.Gates.{AllHigh, Heights, all_gates, gates_of, height_of}
use Rattle.pp_steps.specs.Known.{AllTell, Tells}
use Rattle.pp_steps.specs.Meaning.{Does, Missing, Obeys, Values}
use Rattle.pp_steps.specs.Reads.{AllRead, Below, Reads}
use Rattle.pp_steps.specs.Sorted.{AllSorted, IsSorted, Sorts}

-- what holds of each step of a list holds of the one at a place
pub reads_at : (j : ℕ) (ss : List Step) (i k : ℕ) (s : Step) → AllRead j ss → slice_get ss i ≡ Some s → k ≡ j + i
    → Reads k s
reads_at j [] i k s all at is = cc
reads_at j (x ∷ ss) zero k s all at is =
    let e : j ≡ k = omega arith in subst (λ n. Reads n s) e (subst (Reads j) (same_Some x s at) all.0)
reads_at j (x ∷ ss) (suc i) k s all at is = reads_at (suc j) ss i k s all.1 at (omega arith)

pub sorted_at : (types : TypeTable) (σ : Sorts) (j : ℕ) (ss : List Step) (i k : ℕ) (s : Step)
    → AllSorted types σ j ss → slice_get ss i ≡ Some s → k ≡ j + i → IsSorted types σ s (σ k)
sorted_at types σ j [] i k s all at is = cc
sorted_at types σ j (x ∷ ss) zero k s all at is =
    let e : j ≡ k = omega arith in
    subst (λ n. IsSorted types σ s (σ n)) e (subst (λ y. IsSorted types σ y (σ j)) (same_Some x s at) all.0)
sorted_at types σ j (x ∷ ss) (suc i) k s all at is =
    sorted_at types σ (suc j) ss i k s all.1 at (omega arith)

pub high_at : (types : TypeTable) (σ : Sorts) (η : Heights) (j : ℕ) (ss : List Step) (i k : ℕ) (s : Step)
    → AllHigh types σ η j ss → slice_get ss i ≡ Some s → k ≡ j + i → η k ≡ height_of types σ η k s
high_at types σ η j [] i k s all at is = cc
high_at types σ η j (x ∷ ss) zero k s all at is =
    let e : j ≡ k = omega arith in
    subst (λ n. η n ≡ height_of types σ η n s) e
    (subst (λ y. η j ≡ height_of types σ η j y) (same_Some x s at) all.0)
high_at types σ η j (x ∷ ss) (suc i) k s all at is =
    high_at types σ η (suc j) ss i k s all.1 at (omega arith)

-- the steps from a place on
pub drop_at : {X : Type 0} (xs : List X) (i : ℕ) (x : X) → slice_get xs i ≡ Some x → drop i xs ≡ x ∷ drop (suc i) xs
drop_at [] i x at = cc
drop_at (y ∷ xs) zero x at = ap (λ z. z ∷ xs) (same_Some y x at)
drop_at (y ∷ xs) (suc i) x at = drop_at xs i x at

pub at_dropped : {X : Type 0} (xs : List X) (q i : ℕ) (x : X) → slice_get (drop q xs) i ≡ Some x
    → slice_get xs (q + i) ≡ Some x
at_dropped xs zero i x at = let e : 0 + i ≡ i = omega arith in ap (slice_get xs) e ∙ at
at_dropped [] (suc q) i x at = cc
at_dropped (y ∷ xs) (suc q) i x at =
    let e : suc q + i ≡ suc (q + i) = omega arith in ap (slice_get (y ∷ xs)) e ∙ at_dropped xs q i x at

pub dropped_at : {X : Type 0} (xs : List X) (q i k : ℕ) (x : X) → slice_get xs k ≡ Some x → k ≡ q + i
    → slice_get (drop q xs) i ≡ Some x
dropped_at xs zero i k x at is = let e : i ≡ k = omega arith in ap (slice_get xs) e ∙ at
dropped_at [] (suc q) i k x at is = cc
dropped_at (y ∷ xs) (suc q) i zero x at is = absurd (omega arith)
dropped_at (y ∷ xs) (suc q) i (suc k) x at is = dropped_at xs q i k x at (omega arith)

-- the gates of the steps from a place on
pub gates_at : (types : TypeTable) (σ : Sorts) (η : Heights) (ss : List Step) (i : ℕ) (s : Step)
    → slice_get ss i ≡ Some s
    → all_gates types σ η i (drop i ss)
    ≡ gates_of types σ η i s + all_gates types σ η (suc i) (drop (suc i) ss)
gates_at types σ η ss i s at = ap (all_gates types σ η i) (drop_at ss i s at)

-- ---- what is known

all_map : (K J : ℕ → Type 0) (k : ℕ) (ns : List ℕ) → Below k ns → ((i : ℕ) → i < k → J i → K i) → All J ns → All K ns
all_map K J k [] below back all = λ i d lt. absurd (omega arith)
all_map K J k (n ∷ ns) below back all =
    All-cons K n ns (back n below.0 (All-head J n ns all)) (all_map K J k ns below.1 back (All-tail J n ns all))

-- where less is known of earlier steps and more of this one
pub tells_map : (ρ : Values) (K J : ℕ → Type 0) (k : ℕ) (s : Step) → Reads k s → ((i : ℕ) → i < k → J i → K i)
    → (K k → J k) → Tells ρ K s k → Tells ρ J s k
tells_map ρ K J k (steps.Open s) reads back on tells = tt
tells_map ρ K J k (steps.Int n) reads back on tells = on tells
tells_map ρ K J k (steps.Bool b) reads back on tells = on tells
tells_map ρ K J k (steps.Not a) reads back on tells = λ x. on (tells (back a reads x))
tells_map ρ K J k (steps.Both a b) reads back on tells =
    λ x more. on (tells (back a reads.0 x) (λ e. back b reads.1 (more e)))
tells_map ρ K J k (steps.Choose c a b) reads back on tells =
    λ x one other. on (tells (back c reads.0 x) (λ e. back a reads.1 (one e)) (λ e. back b reads.2 (other e)))
tells_map ρ K J k (steps.Unary op a) reads back on tells = λ x. on (tells (back a reads x))
tells_map ρ K J k (steps.Binary op a b) reads back on tells =
    λ x y. on (tells (back a reads.0 x) (back b reads.1 y))
tells_map ρ K J k (steps.Construct c fields) reads back on tells =
    λ all. on (tells (all_map K J k fields reads back all))
tells_map ρ K J k (steps.IsCtor c n a) reads back on tells = λ x. on (tells (back a reads x))
tells_map ρ K J k (steps.CtorField c i a) reads back on tells =
    λ x fields is. on (tells (back a reads x) fields is)
tells_map ρ K J k (steps.Field a i) reads back on tells = λ x. on (tells (back a reads x))
tells_map ρ K J k (steps.IsAlike a b) reads back on tells = λ x y. on (tells (back a reads.0 x) (back b reads.1 y))
tells_map ρ K J k (steps.GoesDown a b) reads back on tells = λ x y. on (tells (back a reads.0 x) (back b reads.1 y))
tells_map ρ K J k (steps.HasAnswer c) reads back on tells = tt
tells_map ρ K J k (steps.Answer c) reads back on tells = tt

-- each step of a list tells, if the one at each place does
pub all_tell : (ctors : List Ctor) (missing : Missing) (ρ : Values) (K : ℕ → Type 0) (j : ℕ) (ss : List Step)
    → ((i k : ℕ) (s : Step) → slice_get ss i ≡ Some s → k ≡ j + i → Does ctors missing ρ s (ρ k) → Tells ρ K s k)
    → Obeys ctors missing ρ j ss → AllTell ρ K j ss
all_tell ctors missing ρ K j [] each obeys = tt
all_tell ctors missing ρ K j (s ∷ ss) each obeys = (
  each 0 j s refl (omega arith) obeys.0,
  all_tell ctors missing ρ K (suc j) ss (λ i k x at is does. each (suc i) k x at (omega arith) does) obeys.1,
)
