-- Calls and frames, once they are counted.
use Rattle.std.proofs.Common.{◌≡◌, ◌<◌, ◌+◌, ◌-◌, ◌*◌, ℕ, zero, suc, Bool, true, false, List, [], ◌∷◌, ◌++◌, length}
use Rattle.std.proofs.Common.{get_or, inl, inr, Option, Some, None, slice_get, refl, sym, ap, subst, ◌∙◌, arith}
use Rattle.std.specs.Prelude.{Contains}
use Rattle.std.proofs.lemmas.List.Elements.{Contains-push_cases}
use Rattle.std.proofs.lemmas.Option.{slice_get_within}
use Rattle.pp_list.proofs.Lists.{found_most}
use Rattle.pp_prog.specs.declared.expr.Function.{Function}
use Rattle.pp_prog.specs.declared.id.CheckId.{CheckId}
use Rattle.pp_prog.specs.declared.id.FunctionId.{FunctionId}
use Rattle.pp_prog.specs.declared.types.TypeTable.{TypeTable}
use Rattle.pp_estimate.specs.declared.counts.Counts.{Counts}
use Rattle.pp_estimate.specs.declared.memo.Framed.{Framed}
use Rattle.pp_estimate.specs.declared.memo.Known.{Known}
use Rattle.pp_estimate.specs.declared.memo.Memo.{Memo}
use Rattle.pp_estimate.specs.declared.shape.Shape.{Shape}
use Rattle.pp_estimate.specs.declared.sizes.Size.{Size}
use Rattle.pp_estimate.specs.Bounds.{AreRows}
use Rattle.pp_estimate.specs.Counted.{AllTrue, Fits, IsEntry, IsFrameAt, MemoOf, Sound, counted, framed, together}
use Rattle.pp_estimate.specs.Counted.{uncounted}
use Rattle.pp_estimate.specs.Events.{Event, work}
use Rattle.pp_estimate.specs.Frames.{Frame, calls_from, contract_at, frame, frame_at, inner_calls, measure_at}
use Rattle.pp_estimate.specs.Visits.{Visit, compared, visit}
use Rattle.pp_estimate.proofs.Merged.{fits_all, fits_none, together_is}
use Rattle.pp_estimate.proofs.Rows.{rows_none}
use Rattle.pp_estimate.proofs.Visited.{two}
use Rattle.pp_estimate.proofs.Width.{function_size, level, width}

got : {A : Type 0} (xs : List A) (i : ℕ) (x d : A) → slice_get xs i ≡ Some x → get_or xs i d ≡ x
got [] i x d is = let no : None ≡ Some x = is in cc
got (y ∷ xs) zero x d is = let both : Some y ≡ Some x = is in cc
got (y ∷ xs) (suc i) x d is = got xs i x d is

pushed : {A : Type 0} (xs : List A) (x : A) → slice_get (xs ++ x ∷ []) (length xs) ≡ Some x
pushed [] x = refl
pushed (y ∷ xs) x = pushed xs x

-- a called contract is below a call without fuel
pub contract_falls : (own : Bool) (fuel : ℕ) (fs : List Function) → own ≡ true → fuel ≡ 0
    → width fs - 2 < level own fuel * width fs
contract_falls own fuel fs e f =
    let one : level own fuel ≡ 1 = ap (λ (b : Bool). level b fuel) e ∙ ap (λ (n : ℕ). 1 + n) f in
    let whole : level own fuel * width fs ≡ 1 * width fs = ap (λ (n : ℕ). n * width fs) one in
    omega (arith, whole)

-- a frame of a function of the list is below its place in the memo
pub frame_falls : (l : ℕ) (fs : List Function) (i : ℕ) (f : Function) → slice_get fs i ≡ Some f
    → l * width fs + (5 * function_size f + 6) < (l + 1) * width fs - 2
frame_falls l fs i f is =
    let low = found_most function_size fs i f is in
    let split : (l + 1) * width fs ≡ l * width fs + width fs = grind arith in
    omega (arith, low, split)

module _ (types : TypeTable) (fs : List Function) where
  -- what holds while a visit counts holds after more events
  pub sound_more : (memo : Memo) (c d : Counts) (es : List Event) → Sound types fs memo c → d ≡ counted c es
      → Sound types fs memo d
  sound_more memo c d es s e = record {
    memo = s.memo;
    counts = subst (λ (k : Counts). Fits (length types.datatypes) (length fs) k) (sym e)
        (fits_all (length types.datatypes) (length fs) c es s.counts);
  }

  -- and with more rows
  pub sound_rows : (memo : Memo) (rows : List (List Size)) (c d : Counts) (es : List Event) → Sound types fs memo c
      → AreRows types rows → d ≡ counted c es → Sound types fs (record { known = memo.known; rows = rows }) d
  sound_rows memo rows c d es s r e = record {
    memo = record { known = s.memo.known; rows = r };
    counts = (sound_more memo c d es s e).counts;
  }

  -- nothing is known yet
  pub memo_none : MemoOf types fs (record { known = []; rows = [] })
  memo_none = record { known = none_known; rows = rows_none types }
    where
      none_known : AllTrue types fs []
      none_known k h = let low = h.1 in absurd (omega arith)

  pub sound_start : (memo : Memo) (n : ℕ) (c : Counts) → MemoOf types fs memo → n ≡ length types.datatypes
      → c ≡ uncounted n (length fs) → Sound types fs memo c
  sound_start memo n c true_ e is = record {
    memo = true_;
    counts = subst (λ (k : Counts). Fits (length types.datatypes) (length fs) k)
        (ap (λ (k : ℕ). uncounted k (length fs)) (sym e) ∙ sym is) (fits_none (length types.datatypes) (length fs));
  }

  abbrev called_frame : ℕ → FunctionId → List Shape → Frame
  called_frame n g args = frame_at types (inner_calls types fs n) (slice_get fs g.0) args

  -- a call with fuel left
  -- a called frame with the same fuel
  same_fuel : (n k : ℕ) (g : FunctionId) (check : Option CheckId) (old args : List Shape) → n ≡ k
      → visit (called_frame n g args).shape
      ((called_frame n g args).events ++ compared types check (called_frame n g args).measure old)
      ≡ visit (called_frame k g args).shape
      ((called_frame k g args).events ++ compared types check (called_frame k g args).measure old)
  same_fuel n k g check old args e =
      ap (λ (m : ℕ). visit (called_frame m g args).shape
      ((called_frame m g args).events ++ compared types check (called_frame m g args).measure old)) e

  call_is : (own : Bool) (fuel : ℕ) (g : FunctionId) (check : Option CheckId) (old args : List Shape) → (fuel ≡ 0 → ⊥)
      → calls_from types fs own fuel g check old args
      ≡ visit (called_frame (fuel - 1) g args).shape
      ((called_frame (fuel - 1) g args).events ++ compared types check (called_frame (fuel - 1) g args).measure old)
  call_is own zero g check old args ne = absurd (ne refl)
  call_is true (suc n) g check old args ne = same_fuel n (suc n - 1) g check old args (omega arith)
  call_is false (suc n) g check old args ne = same_fuel n (suc n - 1) g check old args (omega arith)

  pub frame_found : (memo slice : List Known) (i : ℕ) (d : Known) (frame : Framed) → IsFrameAt memo i frame
      → slice ≡ memo → (get_or slice i d).frame ≡ frame
  frame_found memo slice i d frame at_ e =
      ap (λ (l : List Known). (get_or l i d).frame) e ∙ ap (λ (k : Known). k.frame) (got memo i at_.entry d at_.here)
      ∙ at_.is

  pub frame_within : (memo slice : List Known) (i : ℕ) (frame : Framed) → IsFrameAt memo i frame → slice ≡ memo
      → i < length slice
  frame_within memo slice i frame at_ e =
      let low = slice_get_within memo i at_.entry at_.here in
      omega (arith, low, ap length e)

  pub called_shape : (own : Bool) (fuel : ℕ) (g : FunctionId) (check : Option CheckId) (old args : List Shape)
      (fr : Framed) → (fuel ≡ 0 → ⊥) → fr ≡ framed types fs (called_frame (fuel - 1) g args)
      → fr.shape ≡ (calls_from types fs own fuel g check old args).shape
  called_shape own fuel g check old args fr ne is =
      ap (λ (f : Framed). f.shape) is ∙ ap (λ (v : Visit). v.shape) (sym (call_is own fuel g check old args ne))

  pub called_counts : (own : Bool) (fuel : ℕ) (g : FunctionId) (check : Option CheckId) (old args measure : List Shape)
      (fr : Framed) (start mid end : Counts) → (fuel ≡ 0 → ⊥) → Fits (length types.datatypes) (length fs) start
      → fr ≡ framed types fs (called_frame (fuel - 1) g args) → mid ≡ together start fr.counts → measure ≡ fr.measure
      → end ≡ counted mid (compared types check measure old)
      → end ≡ counted start (calls_from types fs own fuel g check old args).events
  called_counts own fuel g check old args measure fr start mid end ne fits is me ms e =
      let f = called_frame (fuel - 1) g args in
      let first : mid ≡ counted start f.events = me ∙ ap (λ (k : Framed). together start k.counts) is
      ∙ together_is (length types.datatypes) (length fs) start f.events fits in
      let last : end ≡ counted mid (compared types check f.measure old) = e
      ∙ ap (λ (l : List Shape). counted mid (compared types check l old))
      (ms ∙ ap (λ (k : Framed). k.measure) is) in
      two start f.events (compared types check f.measure old) first last
      ∙ ap (λ (v : Visit). counted start v.events) (sym (call_is own fuel g check old args ne))

  -- a call with no fuel left, from the run's own frame and from a called one
  pub unfinished_own : (own : Bool) (fuel : ℕ) (g : FunctionId) (check : Option CheckId) (old args measure : List Shape)
      (start one two_ end : Counts) → own ≡ true → fuel ≡ 0 → one ≡ counted start (work 32 ∷ [])
      → two_ ≡ counted one (contract_at types fs (slice_get fs g.0) args)
      → measure ≡ measure_at types fs (slice_get fs g.0) args → end ≡ counted two_ (compared types check measure old)
      → end ≡ counted start (calls_from types fs own fuel g check old args).events
  unfinished_own own fuel g check old args measure start one two_ end o f oe te me e =
      let last : end ≡ counted two_ (compared types check (measure_at types fs (slice_get fs g.0) args) old) = e
      ∙ ap (λ (l : List Shape). counted two_ (compared types check l old)) me in
      two one (contract_at types fs (slice_get fs g.0) args)
      (compared types check (measure_at types fs (slice_get fs g.0) args) old) te last
      ∙ ap (λ (c : Counts). counted c (contract_at types fs (slice_get fs g.0) args
      ++ compared types check (measure_at types fs (slice_get fs g.0) args) old)) oe
      ∙ ap (λ (b : Bool). counted start (calls_from types fs b 0 g check old args).events) (sym o)
      ∙ ap (λ (n : ℕ). counted start (calls_from types fs own n g check old args).events) (sym f)

  pub unfinished_called : (own : Bool) (fuel : ℕ) (g : FunctionId) (check : Option CheckId) (old args : List Shape)
      (start end : Counts) → own ≡ false → fuel ≡ 0 → end ≡ counted start (work 32 ∷ [])
      → end ≡ counted start (calls_from types fs own fuel g check old args).events
  unfinished_called own fuel g check old args start end o f e =
      e ∙ ap (λ (b : Bool). counted start (calls_from types fs b 0 g check old args).events) (sym o)
      ∙ ap (λ (n : ℕ). counted start (calls_from types fs own n g check old args).events) (sym f)

  -- a frame that was found, and one that was added
  pub found_frame : (memo : List Known) (i fuel : ℕ) (g : FunctionId) (args : List Shape) → AllTrue types fs memo
      → IsEntry memo i g.0 fuel args → IsFrameAt memo i (framed types fs (called_frame fuel g args))
  found_frame memo i fuel g args true_ entry =
      let k = entry.entry in
      record {
        entry = k;
        here = entry.here;
        is = true_ k (contained memo i k entry.here)
            ∙ ap (λ (n : ℕ). framed types fs (frame_at types (inner_calls types fs n) (slice_get fs k.function) k.args))
            entry.fuel_is
            ∙ ap (λ (n : ℕ). framed types fs (frame_at types (inner_calls types fs fuel) (slice_get fs n) k.args))
            entry.function
            ∙ ap (λ (l : List Shape). framed types fs (frame_at types (inner_calls types fs fuel) (slice_get fs g.0) l))
            entry.args_are;
      }
    where
      contained : (xs : List Known) (i : ℕ) (k : Known) → slice_get xs i ≡ Some k → Contains xs k
      contained xs i k is = (i, slice_get_within xs i k is, got xs i k k is)

  pub added_frame : (memo next : List Known) (i : ℕ) (k : Known) (frame : Framed) → i ≡ length memo
      → next ≡ memo ++ k ∷ [] → k.frame ≡ frame → IsFrameAt next i frame
  added_frame memo next i k frame ie ne fe = record {
    entry = k;
    here = ap (slice_get next) ie ∙ ap (λ (l : List Known). slice_get l (length memo)) ne ∙ pushed memo k;
    is = fe;
  }

  pub added_true : (memo next : List Known) (k : Known) → AllTrue types fs memo → next ≡ memo ++ k ∷ []
      → k.frame ≡ framed types fs (frame_at types (inner_calls types fs k.fuel) (slice_get fs k.function) k.args)
      → AllTrue types fs next
  added_true memo next k true_ ne fe q c =
      elim (Contains-push_cases memo k q (subst (λ (l : List Known). Contains l q) ne c)) [
        | inl old ↦ true_ q old
        | inr same ↦ subst (λ (z : Known). z.frame
            ≡ framed types fs (frame_at types (inner_calls types fs z.fuel) (slice_get fs z.function) z.args)) same fe
      ]
