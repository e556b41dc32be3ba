-- The lines of lists, one more at a time.
use Rattle.std.proofs.Common.{◌≡◌, ◌<◌, ◌+◌, ℕ, suc, nat_eq, Bool, true, false, if◌then◌else◌, List, [], ◌∷◌, ◌++◌}
use Rattle.std.proofs.Common.{map, take, length, get_or, refl, sym, ap, ◌∙◌, arith, append_assoc, String}
use Rattle.std.proofs.Common.{string_bytes}
use Rattle.std.specs.Prelude.{Some, slice_get}
use Rattle.std.proofs.lemmas.Bool.{eqb-true}
use Rattle.std.proofs.lemmas.List.{append-nil, length-take-le, map-append, take_more}
use Rattle.std.proofs.lemmas.Option.{slice_get-get_or}
use Rattle.pp_modes.specs.Lists.{IsSharedEstimate, check_lines, function_lines, line_if, lines_from, lines_with}
use Rattle.pp_modes.specs.Lists.{own_checks}
use Rattle.pp_print.specs.Listed.{count_text, estimate_text}
use Rattle.pp_prog.specs.declared.check.Check.{Check}
use Rattle.pp_prog.specs.declared.expr.Function.{Function}
use Rattle.pp_prog.specs.declared.program.Program.{Program}
use Rattle.pp_estimate.specs.Estimates.{estimate}

with_push : (f e : ℕ) (cs : List Check) (c : Check) → lines_with f e (cs ++ c ∷ []) ≡ lines_with f e cs ++ line_if f e c
with_push f e [] c = append-nil (line_if f e c)
with_push f e (d ∷ cs) c =
    ap (λ l. line_if f e d ++ l) (with_push f e cs c) ∙ sym
    (append_assoc (line_if f e d) (lines_with f e cs) (line_if f e c))

-- the lines with those of the next check
pub with_more : (f e : ℕ) (cs : List Check) (i : ℕ) (c : Check) (start : List (List ℕ)) {old new : List (List ℕ)}
    → i < length cs
    → old ≡ start ++ lines_with f e (take i cs) → new ≡ old ++ line_if f e (get_or cs i c)
    → new ≡ start ++ lines_with f e (take (i + 1) cs)
with_more f e cs i c start {old} {new} lt was more =
    let here = get_or cs i c in
    more ∙ ap (λ l. l ++ line_if f e here) was ∙ append_assoc start (lines_with f e (take i cs)) (line_if f e here)
    ∙ ap (λ l. start ++ l) (sym (with_push f e (take i cs) here))
    ∙ ap (λ l. start ++ lines_with f e l) (sym (take_more cs i c lt))

module _ (p : Program) (round depth : ℕ) where
  same_line : (f e d : ℕ) (c : Check) → (c.function.0 ≡ f → d ≡ e) → line_if f e c ≡ line_if f d c
  same_line f e d c h = by (nat_eq c.function.0 f) refl
    where
      by : (b : Bool) → nat_eq c.function.0 f ≡ b → line_if f e c ≡ line_if f d c
      by true is = ap (λ n. line_if f n c) (sym (h (eqb-true c.function.0 f is)))
      by false is = none e is ∙ sym (none d is)
        where
          none : (n : ℕ) → nat_eq c.function.0 f ≡ false → line_if f n c ≡ []
          none n h = ap (λ (b : Bool). if b then estimate_text c.kind c.place n ∷ [] else []) h

  -- with the estimate that the checks of a function share, the lines are those with the estimate of each
  shared_from : (f e n : ℕ) (cs : List Check)
      → ((c : ℕ) (check : Check) → slice_get cs c ≡ Some check → check.function.0 ≡ f
      → estimate p.types p.functions p.checks (n + c) round depth ≡ e)
      → lines_with f e cs ≡ check_lines p round depth f n cs
  shared_from f e n [] h = refl
  shared_from f e n (c ∷ cs) h =
      let here : n + 0 ≡ n = omega arith in
      let own = same_line f e (estimate p.types p.functions p.checks n round depth) c
      (λ is. ap (λ k. estimate p.types p.functions p.checks k round depth) (sym here) ∙ h 0 c refl is) in
      ap (λ l. l ++ lines_with f e cs) own
      ∙ ap (λ l. line_if f (estimate p.types p.functions p.checks n round depth) c ++ l)
      (shared_from f e (suc n) cs (λ k check at is. let next : suc n + k ≡ n + suc k = omega arith in
      ap (λ m. estimate p.types p.functions p.checks m round depth) next ∙ h (suc k) check at is))

  pub shared_lines : (f e : ℕ) → IsSharedEstimate p round depth f e
      → lines_with f e p.checks ≡ check_lines p round depth f 0 p.checks
  shared_lines f e h =
      shared_from f e 0 p.checks (λ c check at is. let same : 0 + c ≡ c = omega arith in
      ap (λ m. estimate p.types p.functions p.checks m round depth) same ∙ h c check at is)

  from_push : (n : ℕ) (fs : List Function) (f : Function)
      → lines_from p round depth n (fs ++ f ∷ []) ≡ lines_from p round depth n fs ++ function_lines p round depth
      (n + length fs) f
  from_push n [] f =
      let same : n ≡ n + 0 = omega arith in
      append-nil (function_lines p round depth n f) ∙ ap (λ k. function_lines p round depth k f) same
  from_push n (g ∷ fs) f =
      let same : suc n + length fs ≡ n + suc (length fs) = omega arith in
      let here = function_lines p round depth n g in
      ap (λ l. here ++ l) (from_push (suc n) fs f ∙ ap (λ k. lines_from p round depth (suc n) fs ++ function_lines p
      round depth k f) same)
      ∙ sym (append_assoc here (lines_from p round depth (suc n) fs)
      (function_lines p round depth (n + suc (length fs)) f))

  -- the lines with those of the next function
  pub from_more : (fs : List Function) (i : ℕ) {old new : List (List ℕ)} → i < length fs
      → ((f : Function) → slice_get fs i ≡ Some f → new ≡ old ++ function_lines p round depth i f)
      → old ≡ lines_from p round depth 0 (take i fs) → new ≡ lines_from p round depth 0 (take (i + 1) fs)
  from_more fs i {old} {new} lt next was =
      let f = first fs lt in
      let taken = take_more fs i f.0 lt in
      let size : 0 + length (take i fs) ≡ i = (let n = length-take-le i fs (omega arith) in omega arith) in
      next (get_or fs i f.0) (slice_get-get_or fs i f.0 lt)
      ∙ ap (λ l. l ++ function_lines p round depth i (get_or fs i f.0)) was
      ∙ ap (λ k. lines_from p round depth 0 (take i fs) ++ function_lines p round depth k (get_or fs i f.0)) (sym size)
      ∙ sym (from_push 0 (take i fs) (get_or fs i f.0)) ∙ ap (λ l. lines_from p round depth 0 l) (sym taken)
    where
      first : (fs : List Function) → i < length fs → (f : Function) × Unit {0}
      first [] h = absurd (omega (arith, h))
      first (f ∷ fs) h = (f, tt)

  -- the lines with those of a function
  pub function_added : (f e own : ℕ) (g : Function) (name : List ℕ) (checks : List Check) (old : List (List ℕ))
      {named new : List (List ℕ)}
      → name ≡ g.name → own ≡ own_checks f p.checks → checks ≡ p.checks → IsSharedEstimate p round depth f e
      → named ≡ old ++ count_text name own ∷ [] → new ≡ named ++ lines_with f e checks
      → new ≡ old ++ function_lines p round depth f g
  function_added f e own g name checks old {named} {new} is counted all shared first rest =
      let line : count_text name own ≡ count_text g.name (own_checks f p.checks) =
      ap (λ n. count_text n own) is ∙ ap (count_text g.name) counted in
      let own_lines : lines_with f e checks ≡ check_lines p round depth f 0 p.checks =
      ap (lines_with f e) all ∙ shared_lines f e shared in
      rest ∙ ap (λ l. l ++ lines_with f e checks) first
      ∙ append_assoc old (count_text name own ∷ []) (lines_with f e checks)
      ∙ ap (λ t. old ++ t ∷ lines_with f e checks) line
      ∙ ap (λ l. old ++ count_text g.name (own_checks f p.checks) ∷ l) own_lines

-- one line more
pub pushed : {Z : Type 0} (lines new : List (String Z)) (s : String Z) (text : List ℕ) → new ≡ lines ++ s ∷ []
    → string_bytes s ≡ text
    → map string_bytes new ≡ map string_bytes lines ++ text ∷ []
pushed lines new s text is says =
    ap (map string_bytes) is ∙ map-append string_bytes lines (s ∷ []) ∙ ap (λ t. map string_bytes lines ++ t ∷ []) says
