-- Sources that are fetched, one more at a time.
use Rattle.std.proofs.Common.{◌≡◌, ◌<◌, ◌≤◌, ◌+◌, ℕ, zero, suc, List, [], ◌∷◌, ◌++◌, map, take, length, get_or, All}
use Rattle.std.proofs.Common.{Result, Ok, Err, inl, inr, refl, sym, ap, ◌∙◌, subst, arith, append_assoc}
use Rattle.std.specs.Borrow.{Bor}
use Rattle.std.specs.Prelude.{Option, Some, IfSome, Vec, slice_get}
use Rattle.std.proofs.lemmas.List.{append-nil, length-map, length-take-le, map-append, take-map, take_more}
use Rattle.std.proofs.lemmas.List.Elements.{All-push}
use Rattle.std.proofs.lemmas.Option.{same_Some, slice_get_within}
use Rattle.pp_answers.specs.Answers.{Answers}
use Rattle.pp_front.specs.Programs.{IsShort, bytes_of}
use Rattle.pp_text.specs.Limits.{most_bytes}
use Rattle.pp_modes.specs.Responses.{Response, refusal}
use Rattle.pp_modes.specs.declared.status.Status.TheVariants as status
use Rattle.pp_print.specs.Refusals.{read_fault_text, too_long_text}
use Rattle.pp_seam.specs.Asked.{AsksFor}
use Rattle.pp_seam.specs.Faults.{failed_after}
use Rattle.pp_seam.specs.declared.faults.FetchFault.{FetchFault}
use Rattle.pp_seam.specs.declared.faults.FetchFault.TheVariants as fault
use Rattle.pp_words.specs.Line.{Line, line_of}
use Rattle.pp_words.specs.Told.{texts}
use Rattle.pureproof.specs.Dues.{IsDue, answered, too_long, unread}
use Rattle.pureproof.specs.Ends.{FetchesFiles}
use Rattle.pureproof.specs.Fetched.{AreHeld, AreShort, Asks, AsksFirst, FailsAt, FetchesNothing, IsHeld}
use Rattle.pureproof.specs.Fetched.{IsTooLongAt, Shelf, Text, no_paths, one_path}

held_push : {held : Text → Option Text} {paths sources : List Text} (path bytes : Text) → AreHeld held paths sources
    → IsHeld (held path) bytes → AreHeld held (paths ++ path ∷ []) (sources ++ bytes ∷ [])
held_push path bytes no_paths one = one_path one no_paths
held_push path bytes (one_path first rest) one = one_path first (held_push path bytes rest one)

-- there are as many
pub as_many : {held : Text → Option Text} {paths sources : List Text} → AreHeld held paths sources
    → length sources ≡ length paths
as_many no_paths = refl
as_many (one_path one rest) = ap suc (as_many rest)

pub held_more : {Z : Type 0} (held : Text → Option Text) (files : List (Bor Text)) (i : ℕ) (path : Bor Text)
    (source : Vec ℕ Z)
    (old : List (Vec ℕ Z)) {new : List (Vec ℕ Z)} → i < length files
    → AreHeld held (texts (take i files)) (map bytes_of old)
    → new ≡ old ++ source ∷ [] → IsHeld (held (get_or files i path).now) source.items
    → AreHeld held (texts (take (i + 1) files)) (map bytes_of new)
held_more held files i path source old {new} lt before more one =
    let paths : texts (take (i + 1) files) ≡ texts (take i files) ++ (get_or files i path).now ∷ [] =
    ap texts (take_more files i path lt)
    ∙ map-append (λ (w : Bor Text). w.now) (take i files) (get_or files i path ∷ []) in
    let sources : map bytes_of new ≡ map bytes_of old ++ source.items ∷ [] =
    ap (map bytes_of) more ∙ map-append bytes_of old (source ∷ []) in
    subst (λ l. AreHeld held l (map bytes_of new)) (sym paths)
    (subst (AreHeld held (texts (take i files) ++ (get_or files i path).now ∷ [])) (sym sources)
    (held_push (get_or files i path).now source.items before one))

pub short_more : {Z : Type 0} (old new : List (Vec ℕ Z)) (source : Vec ℕ Z) → All IsShort old → new ≡ old ++ source ∷ []
    → length source.items ≤ most_bytes → All IsShort new
short_more old new source before is one = subst (All IsShort) (sym is) (All-push IsShort old source before one)

shown_at : (d : Bor Text) (fs : List (Bor Text)) (k : ℕ) → k < length fs
    → slice_get (texts fs) k ≡ Some (get_or fs k d).now
shown_at d [] k h = absurd (omega (arith, h))
shown_at d (f ∷ fs) zero h = refl
shown_at d (f ∷ fs) (suc k) h = shown_at d fs k (omega arith)

-- the next file, behind those that are fetched
pub next_file : {Z : Type 0} (held : Text → Option Text) (files : List (Bor Text)) (i : ℕ) (path : Bor Text)
    (sources : List (Vec ℕ Z)) → i < length files → AreHeld held (texts (take i files)) (map bytes_of sources)
    → AreHeld held (take (length (map bytes_of sources)) (texts files)) (map bytes_of sources)
    × (slice_get (texts files) (length (map bytes_of sources)) ≡ Some (get_or files i path).now)
next_file held files i path sources lt before =
    let many = as_many before in
    let shown = length-map (take i files) (λ (w : Bor Text). w.now) in
    let front = length-take-le i files (omega arith) in
    let at : length (map bytes_of sources) ≡ i = omega arith in
    let whole = length-map files (λ (w : Bor Text). w.now) in (
      subst (λ k. AreHeld held (take k (texts files)) (map bytes_of sources)) (sym at)
          (subst (λ l. AreHeld held l (map bytes_of sources)) (sym (take-map (λ (w : Bor Text). w.now) i files))
          before),
      ap (slice_get (texts files)) at ∙ shown_at path files i lt,
    )

pub are_short : {Z : Type 0} (sources : List (Vec ℕ Z)) → All IsShort sources → AreShort (map bytes_of sources)
are_short [] h k d lt = absurd (omega (arith, lt))
are_short (s ∷ sources) h zero d lt = h 0 s (omega arith)
are_short (s ∷ sources) h (suc k) d lt = are_short sources (λ i e less. h (suc i) e (omega arith)) k d (omega arith)

-- ---- what was asked for

-- one path more, behind the first ones
pub asked_more : (before : List Text) (files : List (Bor Text)) (i : ℕ) (path : Bor Text) {now new : List Text}
    → i < length files → now ≡ before ++ texts (take i files) → new ≡ now ++ (get_or files i path).now ∷ []
    → new ≡ before ++ texts (take (i + 1) files)
asked_more before files i path {now} {new} lt is more =
    let paths : texts (take (i + 1) files) ≡ texts (take i files) ++ (get_or files i path).now ∷ [] =
    ap texts (take_more files i path lt)
    ∙ map-append (λ (w : Bor Text). w.now) (take i files) (get_or files i path ∷ []) in
    more ∙ ap (λ l. l ++ (get_or files i path).now ∷ []) is
    ∙ append_assoc before (texts (take i files)) ((get_or files i path).now ∷ [])
    ∙ ap (λ l. before ++ l) (sym paths)

-- the first ones are the first ones of all
pub asks_first : (shelf : Shelf) (files : List (Bor Text)) (i : ℕ)
    → shelf.asked_after ≡ shelf.asked ++ texts (take i files) → AsksFirst shelf (texts files)
asks_first shelf files i is =
    (i, is ∙ ap (λ l. shelf.asked ++ l) (sym (take-map (λ (w : Bor Text). w.now) i files)))

-- nothing was
pub asks_nothing : (shelf : Shelf) → shelf.asked_after ≡ shelf.asked → shelf.failed_after ≡ shelf.failed
    → FetchesNothing shelf
asks_nothing shelf same calm = record { asks = same ∙ sym (append-nil shelf.asked); failed = calm }

-- so it is whatever a fetch of the next one answers
pub asks_next : (shelf : Shelf) (files : List (Bor Text)) (i : ℕ) (path : Bor Text) {T : Type 0}
    (r : Result T FetchFault) (now : List Text) → i < length files
    → now ≡ shelf.asked ++ texts (take i files) → AsksFor now (get_or files i path).now r shelf.asked_after
    → AsksFirst shelf (texts files)
asks_next shelf files i path (Ok x) now lt is asks =
    asks_first shelf files (i + 1) (asked_more shelf.asked files i path lt is asks)
asks_next shelf files i path (Err fault.Failed) now lt is asks =
    asks_first shelf files (i + 1) (asked_more shelf.asked files i path lt is asks)
asks_next shelf files i path (Err fault.TooLong) now lt is asks =
    asks_first shelf files (i + 1) (asked_more shelf.asked files i path lt is asks)
asks_next shelf files i path (Err fault.Memory) now lt is (inl same) = asks_first shelf files i (same ∙ is)
asks_next shelf files i path (Err fault.Memory) now lt is (inr more) =
    asks_first shelf files (i + 1) (asked_more shelf.asked files i path lt is more)

-- ---- what is due

module _ {Z : Type 0} (words : List Text) (shelf : Shelf) (line : Line) (is : line_of words ≡ Some line) where
  pub due_answered : (sources slice : List (Vec ℕ Z)) (r : Response) → slice ≡ sources
      → AreHeld shelf.held line.files (map bytes_of sources) → All IsShort sources → Asks shelf line.files
      → shelf.failed_after ≡ shelf.failed
      → Answers line.task (map bytes_of slice) r → IsDue words shelf r
  due_answered sources slice r same held short asks calm answers =
      answered line (map bytes_of sources) is
      (record { held = held; short = are_short sources short; asks = asks; calm = calm })
      (subst (λ l. Answers line.task (map bytes_of l) r) same answers)

  pub due_unread : (sources : List (Vec ℕ Z)) (files : List (Bor Text)) (n : ℕ) (d : Bor Text) (r : Response)
      → (fails : FailsAt shelf line.files (map bytes_of sources)) → line.files ≡ texts files → n ≡ length sources
      → n < length files
      → r ≡ refusal status.ReadFault (read_fault_text (get_or files n d).now) → IsDue words shelf r
  due_unread sources files n d r fails are at lt says =
      let same_length = length-map sources bytes_of in
      let there : slice_get line.files (length (map bytes_of sources)) ≡ Some (get_or files n d).now =
      ap (slice_get line.files) (same_length ∙ sym at) ∙ ap (λ l. slice_get l n) are ∙ shown_at d files n lt in
      let same : (get_or files n d).now ≡ fails.path = same_Some _ _ (sym there ∙ fails.here) in
      subst (IsDue words shelf) (sym (says ∙ ap (λ p. refusal status.ReadFault (read_fault_text p)) same))
      (unread line (map bytes_of sources) is fails)

  pub due_too_long : (sources : List (Vec ℕ Z)) (number : ℕ) (r : Response)
      → IsTooLongAt shelf line.files (map bytes_of sources)
      → number ≡ length sources + 1 → r ≡ refusal status.Refused (too_long_text number) → IsDue words shelf r
  due_too_long sources number r long is_number says =
      let same_length = length-map sources bytes_of in
      let same : number ≡ length (map bytes_of sources) + 1 = omega arith in
      subst (IsDue words shelf) (sym (says ∙ ap (λ n. refusal status.Refused (too_long_text n)) same))
      (too_long line (map bytes_of sources) is long)

-- the next file is one of the files
pub fails_file : {Z : Type 0} (shelf : Shelf) (line : Line) (sources : List (Vec ℕ Z))
    → FailsAt shelf line.files (map bytes_of sources)
    → FetchesFiles line shelf
fails_file shelf line sources fails = record {
  asks = (length (map bytes_of sources) + 1, fails.asks);
  failed = inr (map bytes_of sources, fails);
}

-- fewer sources than files
pub fewer : {Z : Type 0} (files : List Text) (sources : List (Vec ℕ Z)) (path : Text)
    → slice_get files (length (map bytes_of sources)) ≡ Some path → length sources < length files
fewer files sources path at =
    let same_length = length-map sources bytes_of in
    let lt = slice_get_within files (length (map bytes_of sources)) path at in omega arith

-- ---- a fetch that fails

module _ {Z : Type 0} (shelf : Shelf) (files : List (Bor Text)) (i : ℕ) (item : Bor Text) (sources : List (Vec ℕ Z))
    (lt : i < length files)
    (before : AreHeld shelf.held (texts (take i files)) (map bytes_of sources)) (short : All IsShort sources)
    (now : List Text) (asked : now ≡ shelf.asked ++ texts (take i files)) where
  abbrev next : Text
  next = (get_or files i item).now

  -- the next one is asked for, and none behind it
  asks_here : shelf.asked_after ≡ now ++ next ∷ []
      → Asks shelf (take (length (map bytes_of sources) + 1) (texts files))
  asks_here more =
      let many = as_many before in
      let shown = length-map (take i files) (λ (w : Bor Text). w.now) in
      let front = length-take-le i files (omega arith) in
      let at : length (map bytes_of sources) ≡ i = omega arith in
      asked_more shelf.asked files i item lt asked more
      ∙ ap (λ l. shelf.asked ++ l) (sym (take-map (λ (w : Bor Text). w.now) (i + 1) files))
      ∙ ap (λ k. shelf.asked ++ take (k + 1) (texts files)) (sym at)

  pub fails_next : {T : Type 0} (old : List Text) (r : Result T FetchFault) → old ≡ shelf.failed
      → AsksFor now next r shelf.asked_after → shelf.failed_after ≡ failed_after old next r → r ≡ Err fault.Failed
      → FailsAt shelf (texts files) (map bytes_of sources)
  fails_next old r same asks grew e =
      let at = next_file shelf.held files i item sources lt before in
      record {
        path = next;
        before = at.0;
        short = are_short sources short;
        here = at.1;
        asks = asks_here (subst (λ z. AsksFor now next z shelf.asked_after) e asks);
        grew = grew ∙ ap (failed_after old next) e ∙ ap (λ l. l ++ next ∷ []) same;
      }

  pub long_next : {T : Type 0} (r : Result T FetchFault) → AsksFor now next r shelf.asked_after
      → r ≡ Err fault.TooLong → shelf.failed_after ≡ shelf.failed → length shelf.seen_after ≡ most_bytes + 1
      → IfSome (shelf.held next) (λ bytes. most_bytes < length bytes)
      → IsTooLongAt shelf (texts files) (map bytes_of sources)
  long_next r asks e calm seen long =
      let at = next_file shelf.held files i item sources lt before in
      record {
        path = next;
        before = at.0;
        short = are_short sources short;
        here = at.1;
        asks = asks_here (subst (λ z. AsksFor now next z shelf.asked_after) e asks);
        calm = calm;
        seen = seen;
        long = long;
      }

-- what a failed fetch leaves of the list of failed paths
pub not_grown : {T : Type 0} (old new : List Text) (path : Text) (r : Result T FetchFault)
    → new ≡ failed_after old path r
    → r ≡ Err fault.TooLong → new ≡ old
not_grown old new path r is e = is ∙ ap (failed_after old path) e

abbrev failing : FetchFault → Result (Unit {0}) FetchFault
failing f = Err f

abbrev done : Unit {0} → Result (Unit {0}) FetchFault
done u = Ok u

pub err_is : {f g : FetchFault} → failing f ≡ failing g → f ≡ g
err_is h = cc

pub ok_err : {u : Unit {0}} {f : FetchFault} → done u ≡ failing f → ⊥
ok_err h = cc
