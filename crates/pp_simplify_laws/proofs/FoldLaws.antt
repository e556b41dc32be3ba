-- The laws of folded steps.
use Rattle.std.proofs.Common.{◌≡◌, ℕ, zero, suc, ◌+◌, ◌<◌, ◌≤◌, List, [], ◌∷◌, ◌++◌, length, map, slice_get, Some, None}
use Rattle.std.proofs.Common.{Contains, refl, sym, ap, ◌∙◌, subst, arith}
use Rattle.std.proofs.lemmas.List.{length-map}
use Rattle.pp_prog.specs.declared.id.CtorId.{CtorId}
use Rattle.pp_prog.specs.declared.sort.Sort.{Sort}
use Rattle.pp_prog.specs.declared.types.TypeTable.{TypeTable}
use Rattle.pp_prog.specs.Sizes.{height_at}
use Rattle.pp_steps.proofs.Counting.{plus_none, plus_suc, zero_plus}
use Rattle.pp_steps.specs.declared.step.Step.{Step}
use Rattle.pp_steps.specs.declared.step.Step.TheVariants as steps
use Rattle.pp_steps.specs.Frames.{open_step}
use Rattle.pp_steps.specs.Gates.{AllHigh, Heights, all_gates}
use Rattle.pp_steps.specs.Reads.{AllRead}
use Rattle.pp_steps.specs.Sorted.{AllSorted, Sorts}
use Rattle.pp_steps_gates.proofs.Heights.{solved, solved_high, solved_keeps}
use Rattle.pp_simplify.specs.Folded.{Folding, all_folded, folded_from, next, nothing_folded}
use Rattle.pp_simplify.specs.Names.{named}
use Rattle.pp_simplify.proofs.Naming.{named_push}
use Rattle.pp_simplify.proofs.Turns.{Reading, as_many, folded_behind, reading, reading_nothing}
use Rattle.pp_simplify_laws.specs.Fully.{IsFully, folded_known, fully, made_of}
use Rattle.pp_simplify_laws.specs.Laws.{AreLevel, FoldedFit, FoldedLast, FoldedObey, FoldedRead, FoldedSorted}
use Rattle.pp_simplify_laws.specs.Laws.{FoldedTell}
use Rattle.pp_simplify_laws.specs.Laws.{IsFoldedRest, SortedFolded}
use Rattle.pp_simplify_laws.proofs.FoldedHeights.{Lowered, appended, appended_all, rest_lower}
use Rattle.pp_simplify_laws.proofs.FoldedKnown.{tells_from}
use Rattle.pp_simplify_laws.proofs.FoldedSorts.{sorted_from}
use Rattle.pp_simplify_laws.proofs.FoldedValues.{agrees_from}
use Rattle.pp_simplify_laws.proofs.Stays.{names_stay, steps_stay}

pub folded_obey : FoldedObey
folded_obey old reads ctors missing ρ obeys =
    agrees_from ctors missing ρ nothing_folded old reading_nothing reads
    (record { obeys = tt; same = λ k. refl }) obeys

pub folded_tell : (K : ℕ → Type 0) → FoldedTell K
folded_tell K old reads ctors missing ρ obeys tells =
    tells_from ctors missing ρ K nothing_folded old reading_nothing reads (record { obeys = tt; same = λ k. refl })
    obeys tells

pub folded_read : FoldedRead
folded_read old reads = (reading old reads).reads

pub folded_last : FoldedLast
folded_last old reads = record { many = as_many old; low = (reading old reads).low }

pub folded_sorted : FoldedSorted
folded_sorted old reads types σ sorted =
    sorted_from types σ nothing_folded old reading_nothing reads (record { sorted = tt; same = λ k. refl }) sorted

-- ---- the arguments

-- they stay
opens_appended : (f : Folding) (params : List Sort) → appended f (map open_step params) ≡ map open_step params
opens_appended f [] = refl
opens_appended f (p ∷ ps) = ap (λ l. open_step p ∷ l) (opens_appended (next f (open_step p)) ps)

-- and have no other names
opens_named : (f : Folding) (params : List Sort) → ((k : ℕ) → named f.names k ≡ k) → (k : ℕ)
    → named (folded_from f (map open_step params)).names k ≡ k
opens_named f [] own = own
opens_named f (p ∷ ps) own = opens_named (next f (open_step p)) ps (named_push (λ k n. n ≡ k) f.names None own refl)

opens_stay : (params : List Sort) → (all_folded (map open_step params)).steps ≡ map open_step params
opens_stay params = appended_all nothing_folded (map open_step params) ∙ opens_appended nothing_folded params

opens_many : (params : List Sort) → length (all_folded (map open_step params)).steps ≡ length params
opens_many params = ap length (opens_stay params) ∙ length-map params open_step

opens_own : (params : List Sort) (k : ℕ) → named (all_folded (map open_step params)).names k ≡ k
opens_own params = opens_named nothing_folded params (λ k. refl)

nothing_made : (params : List Sort) (i : ℕ) (d : CtorId) (fields : List ℕ)
    → slice_get (map open_step params) i ≡ Some (steps.Construct d fields) → ⊥
nothing_made [] i d fields at = absurd (cc)
nothing_made (p ∷ ps) zero d fields at = absurd (cc)
nothing_made (p ∷ ps) (suc i) d fields at = nothing_made ps i d fields at

opens_read : (k : ℕ) (params : List Sort) → AllRead k (map open_step params)
opens_read k [] = tt
opens_read k (p ∷ ps) = (tt, opens_read (suc k) ps)

reads_behind : (k : ℕ) (xs ys : List Step) → AllRead k (xs ++ ys) → AllRead (k + length xs) ys
reads_behind k [] ys r = subst (λ n. AllRead n ys) (plus_none k) r
reads_behind k (x ∷ xs) ys r = subst (λ n. AllRead n ys) (plus_suc k (length xs)) (reads_behind (suc k) xs ys r.1)

module _ (types : TypeTable) (σ : Sorts) where
  sorted_front : (k : ℕ) (xs ys : List Step) → AllSorted types σ k (xs ++ ys) → AllSorted types σ k xs
  sorted_front k [] ys r = tt
  sorted_front k (x ∷ xs) ys r = (r.0, sorted_front (suc k) xs ys r.1)

  sorted_behind : (k : ℕ) (xs ys : List Step) → AllSorted types σ k (xs ++ ys) → AllSorted types σ (k + length xs) ys
  sorted_behind k [] ys r = subst (λ n. AllSorted types σ n ys) (plus_none k) r
  sorted_behind k (x ∷ xs) ys r =
      subst (λ n. AllSorted types σ n ys) (plus_suc k (length xs)) (sorted_behind (suc k) xs ys r.1)

-- they make nothing, so each is known with all that it makes where it is known
opens_make : (params : List Sort) (k : ℕ) → made_of (slice_get (map open_step params) k) ≡ []
opens_make [] k = refl
opens_make (p ∷ ps) zero = refl
opens_make (p ∷ ps) (suc k) = opens_make ps k

nothing_in : (ns : List ℕ) (x : ℕ) → ns ≡ [] → Contains ns x → ⊥
nothing_in ns x e c = let none = ap length e in absurd (omega (arith, c.1))

pub opens_fully : (K : ℕ → Type 0) (params : List Sort) (rest : List Step) (k : ℕ) → k < length params → K k
    → folded_known (all_folded (map open_step params ++ rest)) K k
opens_fully K params rest k lt known =
    let opens = map open_step params in
    let f = all_folded opens in
    let all = folded_from f rest in
    let here : k < length f.steps = subst (λ n. k < n) (sym (opens_many params)) lt in
    let there = subst (λ n. k < n) (sym (reading opens (opens_read 0 params)).many) here in
    let makes = ap made_of (steps_stay f rest k here ∙ ap (λ l. slice_get l k) (opens_stay params))
    ∙ opens_make params k in
    subst (λ (g : Folding). folded_known g K k) (sym (folded_behind nothing_folded opens rest))
    (subst (IsFully all.steps K) (sym (names_stay f rest k there ∙ opens_own params k))
    (fully k known (λ x c. absurd (nothing_in (made_of (slice_get all.steps k)) x makes c))))

le_of : (a b : ℕ) → a ≡ b → a ≤ b
le_of a b e = omega arith

-- ---- heights and gates

module _ (params : List Sort) (rest : List Step) (types : TypeTable) (σ : Sorts) (η : Heights)
    (reads : AllRead 0 (map open_step params ++ rest)) (sorted : AllSorted types σ 0 (map open_step params ++ rest))
    (level : AreLevel σ η (length params)) (high : AllHigh types σ η (length params) rest)
  where
    abbrev opens : List Step
    opens = map open_step params

    abbrev f : Folding
    f = all_folded opens

    abbrev new : List Step
    new = appended f rest

    f_steps : f.steps ≡ opens
    f_steps = opens_stay params

    many : length f.steps ≡ length params
    many = opens_many params

    f_reading : Reading f
    f_reading = reading opens (opens_read 0 params)

    f_sorted : SortedFolded types σ f
    f_sorted = folded_sorted opens (opens_read 0 params) types σ (sorted_front types σ 0 opens rest sorted)

    -- where the steps behind the arguments begin
    begin : 0 + length opens ≡ length f.steps
    begin = zero_plus (length opens) ∙ ap length (sym f_steps)

    rest_reads : AllRead (length f.steps) rest
    rest_reads = subst (λ n. AllRead n rest) begin (reads_behind 0 opens rest reads)

    rest_sorted : AllSorted types σ (length f.steps) rest
    rest_sorted = subst (λ n. AllSorted types σ n rest) begin (sorted_behind types σ 0 opens rest sorted)

    all_steps : (all_folded (opens ++ rest)).steps ≡ f.steps ++ new
    all_steps = ap (λ (g : Folding). g.steps) (folded_behind nothing_folded opens rest) ∙ appended_all f rest

    new_reads : AllRead (length f.steps) new
    new_reads = subst (λ n. AllRead n new) (zero_plus (length f.steps))
        (reads_behind 0 f.steps new (subst (λ l. AllRead 0 l) all_steps (folded_read (opens ++ rest) reads)))

    abbrev θ : Heights
    θ = solved types σ (length f.steps) new η

    new_high : AllHigh types σ θ (length f.steps) new
    new_high = solved_high types σ (length f.steps) new η new_reads

    stays : (k : ℕ) → k < length f.steps → θ k ≡ η k
    stays k lt = solved_keeps types σ (length f.steps) new η k lt

    lowered : Lowered σ η θ f
    lowered = record {
      low = λ i lt. subst (λ n. θ n ≤ η i) (sym (opens_own params i)) (le_of (θ i) (η i) (stays i lt));
      level = λ i lt. subst (λ h. h ≡ height_at h (σ i)) (sym (stays i lt)) (level i (subst (λ n. i < n) many lt));
      built = λ i d fields at. absurd (nothing_made params i d fields
          (sym (ap (λ l. slice_get l i) f_steps) ∙ at));
    }

    pub fit_rest : IsFoldedRest types σ η params rest (all_folded (opens ++ rest)).steps
    fit_rest = record {
      steps = new;
      heights = θ;
      split = all_steps ∙ ap (λ l. l ++ new) f_steps;
      front = λ k lt. stays k (subst (λ n. k < n) (sym many) lt);
      high = subst (λ n. AllHigh types σ θ n new) many new_high;
      few = subst (λ n. all_gates types σ θ n new ≤ all_gates types σ η n rest) many
          (rest_lower types σ η θ f rest f_reading f_sorted rest_reads rest_sorted lowered
          (subst (λ n. AllHigh types σ η n rest) (sym many) high) new_high);
    }

pub folded_fit : FoldedFit
folded_fit old params rest split reads types σ η sorted level high =
    subst (λ l. IsFoldedRest types σ η params rest (all_folded l).steps) (sym split)
    (fit_rest params rest types σ η (subst (λ l. AllRead 0 l) split reads)
    (subst (λ l. AllSorted types σ 0 l) split sorted) level high)
