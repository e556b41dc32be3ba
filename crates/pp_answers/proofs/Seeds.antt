-- The sources of a task, by its seed.
use Rattle.std.proofs.Common.{◌≡◌, ◌≤◌, ◌∙◌, ℕ, List, [], ◌∷◌, Some, None, length, map, sym, ap, subst, arith}
use Rattle.std.specs.Prelude.{Vec}
use Rattle.std.proofs.lemmas.List.{length-map}
use Rattle.pp_answers.specs.Answers.{seed_of, sources_by, sources_of}
use Rattle.pp_front.specs.Programs.{bytes_of}
use Rattle.pp_limits.specs.declared.TheConstants.{MOST_SEED, MOST_SOURCES}
use Rattle.pp_made.specs.Made.{made_source}
use Rattle.pp_modes.specs.Answers.{IsInRange}
use Rattle.pp_words.specs.Task.{Task, list, make, run, verify}

no_seed : {seed : ℕ} → Some seed ≡ None → ⊥
no_seed h = cc

one_seed : {m n : ℕ} → Some m ≡ Some n → n ≡ m
one_seed h = cc

-- the seed is in its range
pub made_range : (task : Task) (seed : ℕ) → Some seed ≡ seed_of task → IsInRange task → seed ≤ MOST_SEED
made_range (verify order numbers) seed is range = absurd (no_seed is)
made_range (list rounds depth) seed is range = absurd (no_seed is)
made_range (run function fuel) seed is range = absurd (no_seed is)
made_range (make other numbers) seed is range = subst (λ n. n ≤ MOST_SEED) (one_seed is) range.0

-- the sources are the one that is made
pub made_alone : (task : Task) (seed : ℕ) (fetched made : List (List ℕ)) → Some seed ≡ seed_of task
    → made ≡ made_source seed ∷ [] → sources_of task fetched ≡ made
made_alone task seed fetched made is says = ap (λ s. sources_by s fetched) (sym is) ∙ sym says

-- they are those that are fetched
pub fetched_all : (task : Task) (fetched : List (List ℕ)) → None ≡ seed_of task → sources_of task fetched ≡ fetched
fetched_all task fetched is = ap (λ s. sources_by s fetched) (sym is)

-- one source is few
pub one_is_few : {Z : Type 0} (sources : List (Vec ℕ Z)) (bytes : List ℕ) → map bytes_of sources ≡ bytes ∷ []
    → length sources ≤ MOST_SOURCES
one_is_few sources bytes is =
    let same = length-map sources bytes_of in
    let one : length (map bytes_of sources) ≡ 1 = ap length is in omega (arith, same, one)
