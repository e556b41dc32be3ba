-- The numbers of a line of words are in their ranges, and it has at most 16 files, and none where a source is made.
use Rattle.std.proofs.Common.{◌≡◌, ◌≤◌, ℕ, Bool, true, false, ◌&&◌, if◌then◌else◌, List, [], ◌∷◌, length, nat_eq}
use Rattle.std.proofs.Common.{nat_le, refl, sym, subst, arith, ◌∙◌}
use Rattle.std.specs.Prelude.{Option, None, Some, option_and_then, option_map}
use Rattle.std.proofs.lemmas.Bool.{and_parts, eqb-true, leb-true}
use Rattle.std.proofs.lemmas.Option.{none-some, same_Some}
use Rattle.pp_limits.specs.declared.Range.{Range}
use Rattle.pp_induct.specs.Reports.{AreLimits}
use Rattle.pp_limits.specs.declared.TheConstants.{DEPTH, FUEL, GATES, LEAST_SEED, LEMMAS, MOST_SEED, MOST_SOURCES}
use Rattle.pp_limits.specs.declared.TheConstants.{ROUNDS}
use Rattle.pp_modes.specs.Answers.{IsInRange}
use Rattle.pp_modes.specs.Verdicts.{limits_of}
use Rattle.pp_words.specs.Line.{Line, given_in, is_taken, line_given, line_of}
use Rattle.pp_words.specs.Command.{values_in}
use Rattle.pp_words.specs.Number.{number_in, number_of, with_digits, within}
use Rattle.pp_words.specs.Order.{order_of}
use Rattle.pp_words.specs.Task.{Given, Mode, Task, asked, has_files, list, listing, make, making, mode_of, numbers_in}
use Rattle.pp_words.specs.Task.{reads_all, run, running, seed_in, task_in, task_of, verify, verifying}
use Rattle.pp_words.specs.declared.order.Order.{Order}
use Rattle.pp_words.specs.declared.task.Numbers.{Numbers}

-- what a test let through
tested : {A : Type 0} (b : Bool) (o : Option A) (x : A) → (if b then o else None) ≡ Some x → (b ≡ true) × (o ≡ Some x)
tested true o x h = (refl, h)
tested false o x h = absurd (none-some _ h)

chained : {A B : Type 0} (f : A → Option B) (o : Option A) (y : B) → option_and_then f o ≡ Some y
    → (x : A) × (o ≡ Some x) × (f x ≡ Some y)
chained f None y h = absurd (none-some _ h)
chained f (Some x) y h = (x, refl, h)

mapped : {A B : Type 0} (f : A → B) (o : Option A) (y : B) → option_map f o ≡ Some y
    → (x : A) × (o ≡ Some x) × (f x ≡ y)
mapped f None y h = absurd (none-some _ h)
mapped f (Some x) y h = (x, refl, same_Some _ _ h)

in_number : (low high : ℕ) (text : List ℕ) (n : ℕ) → number_in low high text ≡ Some n → (low ≤ n) × (n ≤ high)
in_number low high text n h =
    let digits = chained (within low high) (with_digits 0 text) n (tested _ _ n h).1 in
    let fits = tested (nat_le low digits.0 && nat_le digits.0 high) (Some digits.0) n digits.2 in
    let sides = and_parts (nat_le low digits.0) (nat_le digits.0 high) fits.0 in
    let same = same_Some _ _ fits.1 in
    subst (λ m. (low ≤ m) × (m ≤ high)) same (leb-true low digits.0 sides.0, leb-true digits.0 high sides.1)

in_option : (range : Range) → range.least ≤ range.default → range.default ≤ range.most → (o : Option (List ℕ))
    (n : ℕ) → number_of range o ≡ Some n → (range.least ≤ n) × (n ≤ range.most)
in_option range a b None n h =
    (subst (λ m. range.least ≤ m) (same_Some _ _ h) a, subst (λ m. m ≤ range.most) (same_Some _ _ h) b)
in_option range a b (Some text) n h = in_number range.least range.most text n h

numbers_range : (given : Given) (n : Numbers) → numbers_in given ≡ Some n → AreLimits (limits_of n)
numbers_range given n h =
    let rounds = chained _ (number_of ROUNDS given.rounds) n h in
    let depth = chained _ (number_of DEPTH given.depth) n rounds.2 in
    let lemmas = chained _ (number_of LEMMAS given.lemmas) n depth.2 in
    let gates = mapped _ (number_of GATES given.gates) n lemmas.2 in
    let r = in_option ROUNDS (omega arith) (omega arith) given.rounds rounds.0 rounds.1 in
    let d = in_option DEPTH (omega arith) (omega arith) given.depth depth.0 depth.1 in
    let l = in_option LEMMAS (omega arith) (omega arith) given.lemmas lemmas.0 lemmas.1 in
    let g = in_option GATES (omega arith) (omega arith) given.gates gates.0 gates.1 in
    subst (λ m. AreLimits (limits_of m)) gates.2 (record {
      rounds = r.1;
      least_depth = d.0;
      depth = d.1;
      least_lemmas = l.0;
      lemmas = l.1;
      least_gates = g.0;
      gates = g.1;
    })

-- of each line
pub record IsFit (line : Line) : Type 0 where
  pub range : IsInRange line.task
  pub few : length line.files ≤ MOST_SOURCES
  pub none : (seed : ℕ) (numbers : Numbers) → line.task ≡ make seed numbers → line.files ≡ []

abbrev line_with : Given → Task → Line
line_with given t = record { task = t; files = given.files }

-- the files and the values fit the mode
fitting : (mode : Mode) (given : Given) (t : Task) → task_in mode given ≡ Some t
    → (has_files mode given ≡ true) × (asked mode given ≡ Some t)
fitting mode given t h =
    let test = tested (has_files mode given && reads_all mode given) (asked mode given) t h in
    ((and_parts (has_files mode given) (reads_all mode given) test.0).0, test.1)

at_most_16 : (files : List (List ℕ)) → nat_le 1 (length files) && nat_le (length files) MOST_SOURCES ≡ true
    → length files ≤ MOST_SOURCES
at_most_16 files h =
    leb-true (length files) MOST_SOURCES (and_parts (nat_le 1 (length files)) (nat_le (length files) MOST_SOURCES) h).1

no_files : (files : List (List ℕ)) → length files ≡ 0 → files ≡ []
no_files [] h = refl
no_files (file ∷ files) h = absurd (omega (arith, h))

verify_not_make : {o : Order} {n m : Numbers} {seed : ℕ} → verify o n ≡ make seed m → ⊥
verify_not_make h = cc

list_not_make : {rounds depth seed : ℕ} {m : Numbers} → list rounds depth ≡ make seed m → ⊥
list_not_make h = cc

run_not_make : {name : List ℕ} {fuel seed : ℕ} {m : Numbers} → run name fuel ≡ make seed m → ⊥
run_not_make h = cc

verify_fits : (given : Given) (t : Task) → task_in verifying given ≡ Some t → IsFit (line_with given t)
verify_fits given t h =
    let fit = fitting verifying given t h in
    let order = chained _ (order_of given.order) t fit.1 in
    let numbers = mapped (verify order.0) (numbers_in given) t order.2 in
    subst (λ u. IsFit (line_with given u)) numbers.2 (record {
      range = numbers_range given numbers.0 numbers.1;
      few = at_most_16 given.files fit.0;
      none = λ seed m is. absurd (verify_not_make is);
    })

list_fits : (given : Given) (t : Task) → task_in listing given ≡ Some t → IsFit (line_with given t)
list_fits given t h =
    let fit = fitting listing given t h in
    let rounds = chained _ (number_of ROUNDS given.rounds) t fit.1 in
    let depth = mapped (list rounds.0) (number_of DEPTH given.depth) t rounds.2 in
    let r = in_option ROUNDS (omega arith) (omega arith) given.rounds rounds.0 rounds.1 in
    let d = in_option DEPTH (omega arith) (omega arith) given.depth depth.0 depth.1 in
    subst (λ u. IsFit (line_with given u)) depth.2 (record {
      range = (r.1, d.0, d.1);
      few = at_most_16 given.files fit.0;
      none = λ seed m is. absurd (list_not_make is);
    })

run_fits : (given : Given) (t : Task) → task_in running given ≡ Some t → IsFit (line_with given t)
run_fits given t h =
    let fit = fitting running given t h in
    let function = chained _ given.function t fit.1 in
    let fuel = mapped (run function.0) (number_of FUEL given.fuel) t function.2 in
    subst (λ u. IsFit (line_with given u)) fuel.2 (record {
      range = (in_option FUEL (omega arith) (omega arith) given.fuel fuel.0 fuel.1).1;
      few = at_most_16 given.files fit.0;
      none = λ seed m is. absurd (run_not_make is);
    })

make_fits : (given : Given) (t : Task) → task_in making given ≡ Some t → IsFit (line_with given t)
make_fits given t h =
    let fit = fitting making given t h in
    let seed = chained _ (seed_in given) t fit.1 in
    let numbers = mapped (make seed.0) (numbers_in given) t seed.2 in
    let written = chained (number_in LEAST_SEED MOST_SEED) given.seed seed.0 seed.1 in
    let none = no_files given.files (eqb-true (length given.files) 0 fit.0) in
    subst (λ u. IsFit (line_with given u)) numbers.2 (record {
      range = (
        (in_number LEAST_SEED MOST_SEED written.0 seed.0 written.2).1,
        numbers_range given numbers.0 numbers.1,
      );
      few = subst (λ (files : List (List ℕ)). length files ≤ MOST_SOURCES) (sym none) (omega arith);
      none = λ other m is. none;
    })

mode_fits : (mode : Mode) (given : Given) (t : Task) → task_in mode given ≡ Some t → IsFit (line_with given t)
mode_fits verifying given t h = verify_fits given t h
mode_fits listing given t h = list_fits given t h
mode_fits running given t h = run_fits given t h
mode_fits making given t h = make_fits given t h

of_given : (given : Given) (line : Line) → line_given given ≡ Some line → IsFit line
of_given given line h =
    let task = mapped _ (task_of given) line h in
    let mode = chained (λ mode. task_in mode given) (mode_of given.mode) task.0 task.1 in
    subst IsFit task.2 (mode_fits mode.0 given task.0 mode.2)

pub line_fits : (words : List (List ℕ)) (line : Line) → line_of words ≡ Some line → IsFit line
unfolding line_of
line_fits words line h =
    let given = given_in (values_in words) in
    of_given given line (tested (is_taken words) (line_given given) line h).1
