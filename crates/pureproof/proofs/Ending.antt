-- When the program ends with which status.
use Rattle.std.proofs.Common.{◌≡◌, ◌⊎◌, ⊎_elim, inl, inr, ◌<◌, ◌≤◌, ℕ, zero, suc, List, ◌∷◌, length, refl}
use Rattle.std.proofs.Common.{not, sym, ap, ◌∙◌, subst, arith}
use Rattle.std.specs.Prelude.{Bool, Option, None, Some, IfSome, Contains, slice_get}
use Rattle.std.specs.List.{concat}
use Rattle.std.proofs.lemmas.List.Elements.{All-contains, Contains-get_or}
use Rattle.std.proofs.lemmas.List.Sums.{count_by-le-length, length-filter}
use Rattle.std.proofs.lemmas.Option.{get_or_from_slice_get, none-some, same_Some, slice_get_within}
use Rattle.pp_answers.specs.Answers as answer
use Rattle.pp_answers.specs.Answers.{Answers, IsAccepted, sources_of}
use Rattle.pp_answers.proofs.Statuses.{is_verdict}
use Rattle.pp_answers.specs.Claims.{AreLinesOf, Claim}
use Rattle.pp_answers.specs.Laws.{Agree, IsAlwaysTrue, IsOnVerdicts, IsVerify, MadeReadBack, OneLineEach, OneStatus}
use Rattle.pp_answers.specs.Laws.{all_valid, is_make, is_verify, some_invalid, some_open, verify_within}
use Rattle.pp_induct.specs.declared.limits.Limits.{Limits}
use Rattle.pp_modes.proofs.Ranges.{line_fits}
use Rattle.pp_modes.specs.Answers.{IsInRange}
use Rattle.pp_modes.specs.Codes.{code_of}
use Rattle.pp_modes.specs.Responses.{Response, lines_in, report, status_in}
use Rattle.pp_modes.specs.declared.status.Status.{Status}
use Rattle.pp_modes.specs.declared.status.Status.TheVariants as status
use Rattle.pp_modes.specs.Verdicts.{status_for}
use Rattle.pp_print.specs.Heads.{heads, is_indented}
use Rattle.pp_prog.specs.declared.program.Program.{Program}
use Rattle.pp_text.specs.Limits.{most_bytes}
use Rattle.pp_words.specs.Line.{Line, line_of}
use Rattle.pp_words.specs.Task.{Task}
use Rattle.pp_words.specs.declared.order.Order.{Order}
use Rattle.pureproof.specs.Dues.{AreFetched, IsDue, answered, no_line, no_memory, too_long, unread}
use Rattle.pureproof.specs.Ends as ends
use Rattle.pureproof.specs.Ends.{Comes, EachPrinted, Ends, Excuses, Hold, Holds, Reports, Run, Verifies, err_failed}
use Rattle.pureproof.specs.Ends.{no_files, one_file, out_failed}
use Rattle.pureproof.specs.Fetched.{AreHeld, IsHeld, Text, no_paths, one_path}
use Rattle.pureproof.specs.Shown.{Shows, TookAll, both_cut, cut, printed, refusal_cut, refused}

pub one_line : (words : List Text) (l m : Line) → line_of words ≡ Some l → line_of words ≡ Some m → l ≡ m
one_line words l m a b = same_Some _ _ (sym a ∙ b)

-- what is shown ends with its own status, or something failed
shown_or_failed : (run : Run) (q : Response) (s : Status) → Shows run.out run.err q s
    → (s ≡ status_in q) ⊎ Excuses run s
shown_or_failed run q s (printed t lines all still) = inl refl
shown_or_failed run q s (cut t lines front all) = inr (out_failed front.rose)
shown_or_failed run q s (both_cut t lines front again) = inr (out_failed front.rose)
shown_or_failed run q s (refused t line still all) = inl refl
shown_or_failed run q s (refusal_cut t line still front) = inr (err_failed front.rose)

-- the bytes that are told are those that are held
held_is : (o : Option Text) (bytes told : Text) → o ≡ Some bytes → IsHeld o told → told ≡ bytes
held_is None bytes told h is = absurd (none-some _ h)
held_is (Some b) bytes told h is = is ∙ same_Some _ _ h

one_sources : (held : Text → Option Text) {paths sources told : List Text} → Hold held paths sources
    → AreHeld held paths told → told ≡ sources
one_sources held no_files no_paths = refl
one_sources held (one_file {path = path} {bytes = bytes} {sources = sources} h more)
    (one_path {bytes = b} {sources = told} is rest) =
    ap (λ z. z ∷ told) (held_is (held path) bytes b h is) ∙ ap (λ l. bytes ∷ l) (one_sources held more rest)

held_at : (held : Text → Option Text) {paths sources : List Text} → Hold held paths sources → (n : ℕ) (path : Text)
    → slice_get paths n ≡ Some path → (bytes : Text) × (held path ≡ Some bytes) × Contains sources bytes
held_at held no_files n path at = absurd (none-some _ at)
held_at held (one_file {bytes = bytes} h more) zero path at =
    (bytes, subst (λ p. held p ≡ Some bytes) (same_Some _ _ at) h, (0, omega arith, refl))
held_at held (one_file {bytes = b} {sources = sources} h more) (suc n) path at =
    let later = held_at held more n path at in
    (later.0, later.1, later_in b sources later.0 later.2)
  where
    later_in : (x : Text) (xs : List Text) (y : Text) → Contains xs y → Contains (x ∷ xs) y
    later_in x xs y c = (suc c.0, omega (arith, c.1), c.2)

not_long : (o : Option Text) (bytes : Text) → o ≡ Some bytes → length bytes ≤ most_bytes
    → IfSome o (λ b. most_bytes < length b) → ⊥
not_long None bytes h few many = none-some _ h
not_long (Some b) bytes h few many =
    let same : length b ≡ length bytes = ap length (same_Some _ _ h) in absurd (omega (arith, same, few, many))

pub in_files : (files : List Text) (n : ℕ) (path : Text) → slice_get files n ≡ Some path → Contains files path
in_files files n path at =
    subst (Contains files) (get_or_from_slice_get files n path path at)
    (Contains-get_or files n path (slice_get_within files n path at))

-- whatever is true of the status of each answer is true of the status in the end, unless something excuses another
module _ (run : Run) (line : Line) (sources : List Text) (holds : Holds run line sources) (P : Status → Type 0)
    (each : (q : Response) → Answers line.task sources q → P (status_in q)) where
  by_due : (q : Response) (s : Status) → IsDue run.words run.shelf q → Shows run.out run.err q s → P s ⊎ Excuses run s
  by_due q s (no_line none calm) shows = absurd (none-some _ (sym none ∙ holds.words))
  by_due q s (unread other told is fails) shows =
      let path = in_files other.files (length told) fails.path fails.here in
      ⊎_elim (λ e. inr (subst (Excuses run) (sym e) (ends.unread other fails.path is path fails.grew)))
      (λ x. inr x) (shown_or_failed run q s shows)
  by_due q s (too_long other told is long) shows =
      let same = one_line run.words other line is holds.words in
      let there = held_at run.shelf.held holds.held (length told) long.path
      (ap (λ (l : Line). slice_get l.files (length told)) (sym same) ∙ long.here) in
      absurd (not_long (run.shelf.held long.path) there.0 there.1
      (All-contains (λ (b : Text). length b ≤ most_bytes) sources there.0 holds.short there.2) long.long)
  by_due q s (answered other told is fetched answers) shows =
      let same = one_line run.words other line is holds.words in
      let bytes = one_sources run.shelf.held holds.held
      (subst (λ (l : Line). AreHeld run.shelf.held l.files told) same fetched.held) in
      let here = subst (λ l. Answers line.task l q) bytes (subst (λ (l : Line). Answers l.task told q) same answers) in
      ⊎_elim (λ e. inl (subst P (sym e) (each q here))) (λ x. inr x) (shown_or_failed run q s shows)
  by_due q s no_memory shows =
      ⊎_elim (λ e. inr (subst (Excuses run) (sym e) ends.no_memory)) (λ x. inr x) (shown_or_failed run q s shows)

pub comes : OneStatus → (run : Run) (s : Status) → Ends run s → Comes run s
comes one run s e line sources r holds answers =
    by_due run line sources holds (λ t. Agree line.task t (status_in r))
    (λ q here. one line.task sources q r here answers)
    e.response s e.due e.shows

-- ---- modes `verify` and `make`

on_counts : (i o d : ℕ) → IsOnVerdicts (status_for i o d)
on_counts (suc i) o d = some_invalid
on_counts zero (suc o) d = some_open
on_counts zero zero (suc d) = some_open
on_counts zero zero zero = all_valid

verdict_status : OneLineEach → MadeReadBack → (task : Task) → IsVerify task → IsInRange task → (sources : List Text)
    (q : Response) → Answers task sources q → (p : Program) → IsAccepted (sources_of task sources) p
    → IsOnVerdicts (status_in q)
verdict_status each made task (is_verify order limits) range sources q answers p is =
    is_verdict p.functions (heads (lines_in q)) (status_in q) (each order limits sources q answers p is).status
verdict_status each made task (is_make seed limits) range sources q answers p is =
    let read = made seed limits sources q range.1 answers p is in
    subst IsOnVerdicts (sym read.status) (on_counts _ _ _)

pub verifies : OneLineEach → MadeReadBack → (run : Run) (s : Status) → Ends run s → Verifies run s
verifies each made run s e line sources p holds task is =
    by_due run line sources holds IsOnVerdicts
    (λ q answers. verdict_status each made line.task task (line_fits run.words line holds.words).range sources q
    answers p is)
    e.response s e.due e.shows

-- a status on verdicts is 0, 1 or 2
low : (s : Status) → IsOnVerdicts s → code_of s < 3
low s all_valid = omega arith
low s some_invalid = omega arith
low s some_open = omega arith

pub other : (s t : Status) → s ≡ t → IsOnVerdicts s → 3 ≤ code_of t → ⊥
other s t same is high = let less = low t (subst IsOnVerdicts same is) in absurd (omega (arith, less, high))

-- where it ends so, what is shown has this status, and as far as it has lines it is a report, of which `out` took all
pub record IsPrinted (run : Run) (q : Response) (s : Status) : Type 0 where
  pub same : s ≡ status_in q
  pub reports : 0 < length (lines_in q) → q ≡ report s (lines_in q)
  pub all : 0 < length (lines_in q) → TookAll run.out (concat (lines_in q))

pub is_printed : (run : Run) (q : Response) (s : Status) → Shows run.out run.err q s → IsOnVerdicts s
    → IsPrinted run q s
is_printed run q s (printed t lines all still) is = record { same = refl; reports = λ some. refl; all = λ some. all }
is_printed run q s (cut t lines front all) is = absurd (other status.WriteFault status.WriteFault refl is (omega arith))
is_printed run q s (both_cut t lines front again) is =
    absurd (other status.WriteFault status.WriteFault refl is (omega arith))
is_printed run q s (refused t line still all) is = record {
  same = refl;
  reports = λ some. absurd (omega (arith, some));
  all = λ some. absurd (omega (arith, some));
}
is_printed run q s (refusal_cut t line still front) is =
    absurd (other status.WriteFault status.WriteFault refl is (omega arith))

pub is_accepted : (task : Task) (sources : List Text) (q : Response) → Answers task sources q
    → IsOnVerdicts (status_in q) → (p : Program) × IsAccepted (sources_of task sources) p
is_accepted task sources q (answer.refused a) is = absurd (other status.Refused status.Refused refl is (omega arith))
is_accepted task sources q (answer.accepted p is_program a) is = (p, is_program)

-- there are no more heads than lines
heads_few : (lines : List Text) → length (heads lines) ≤ length lines
heads_few lines =
    let passes : Text → Bool = λ line. not (is_indented line) in
    subst (λ n. n ≤ length lines) (sym (length-filter passes lines)) (count_by-le-length passes lines)

module _ (each : OneLineEach) (IsTrue : Limits → Claim) (always : IsAlwaysTrue IsTrue) (run : Run) (line : Line)
    (order : Order) (limits : Limits) (words : line_of run.words ≡ Some line)
    (task : line.task ≡ verify_within order limits) where
  reports : (q : Response) (s : Status) → IsDue run.words run.shelf q → IsPrinted run q s → IsOnVerdicts s
      → Reports run line s (IsTrue limits)
  reports q s (no_line none calm) shown is = absurd (none-some _ (sym none ∙ words))
  reports q s (unread wanted told at fails) shown is = absurd (other s status.ReadFault shown.same is (omega arith))
  reports q s (too_long wanted told at long) shown is = absurd (other s status.Refused shown.same is (omega arith))
  reports q s no_memory shown is = absurd (other s status.Memory shown.same is (omega arith))
  reports q s (answered wanted sources at fetched answers) shown is =
      let same = one_line run.words wanted line at words in
      let due = subst (λ (l : Line). Answers l.task sources q) same answers in
      let here : Answers (verify_within order limits) sources q = subst (λ t. Answers t sources q) task due in
      let program = is_accepted (verify_within order limits) sources q here (subst IsOnVerdicts shown.same is) in
      let size = (each order limits sources q here program.0 program.1).size in
      let some : 0 < length (lines_in q) = let few = heads_few (lines_in q) in omega (arith, size, few) in
      record {
        sources = sources;
        fetched = subst (λ l. AreFetched run.shelf l sources) same fetched;
        program = program.0;
        accepted = program.1;
        lines = lines_in q;
        answers = subst (Answers line.task sources) (shown.reports some) due;
        printed = shown.all some;
        one_each = λ p there.
            subst (AreLinesOf p (heads (lines_in q))) (sym shown.same) (each order limits sources q here p there);
        claims = always order limits sources q here;
      }

pub each_printed : OneLineEach → (IsTrue : Limits → Claim) → IsAlwaysTrue IsTrue → (run : Run) (s : Status) → Ends run s
    → EachPrinted IsTrue run s
each_printed each IsTrue always run s e line order limits words task is =
    reports each IsTrue always run line order limits words task e.response s e.due
    (is_printed run e.response s e.shows is) is
