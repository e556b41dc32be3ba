-- One round by itself, from its parts.
use Rattle.std.proofs.Common.{◌≡◌, ◌<◌, ◌+◌, ◌*◌, ℕ, zero, suc, Bool, true, List, [], ◌∷◌, length, get_or, Option, Some}
use Rattle.std.proofs.Common.{slice_get, refl, sym, ap, ◌∙◌, arith}
use Rattle.pp_prog.specs.declared.check.Check.{Check}
use Rattle.pp_prog.specs.declared.expr.Function.{Function}
use Rattle.pp_prog.specs.declared.types.TypeTable.{TypeTable}
use Rattle.pp_prog.specs.Sorts.{param_sorts}
use Rattle.pp_estimate.specs.declared.memo.Framed.{Framed}
use Rattle.pp_estimate.specs.declared.shape.Shape.{Shape}
use Rattle.pp_estimate.specs.Counted.{counts_of, framed}
use Rattle.pp_estimate.specs.Cut.{cut}
use Rattle.pp_estimate.specs.Estimates.{estimate, inputs, instances, own_frame, rounds, rounds_at, rounds_of, shapes_to}
use Rattle.pp_estimate.specs.Estimates.{single}
use Rattle.pp_estimate.specs.Events.{Event, cost}
use Rattle.pp_estimate.specs.Frames.{calls_from, frame}
use Rattle.pp_estimate.proofs.Totals.{work_is}

module _ (types : TypeTable) (fs : List Function) where
  pub single_is : (f : Function) (own : Bool) (fuel d : ℕ) (fr : Framed) (args : List Shape) (i s t inst result : ℕ)
      → own ≡ true → args ≡ shapes_to d (param_sorts f.params)
      → fr ≡ framed types fs (frame types (calls_from types fs own fuel) f args)
      → i ≡ cut (inputs types d (param_sorts f.params)) → s ≡ cut (i + fr.counts.work) → t ≡ cut (s * 2)
      → ((es : List Event) → fr.counts ≡ counts_of types fs es → inst ≡ cut (instances types fs es))
      → result ≡ cut (t + inst) → result ≡ cut (single types fs f fuel d)
  single_is f own fuel d fr args i s t inst result o ae fe ie se te parts e =
      let whole = own_frame types fs f fuel d in
      let is : fr ≡ framed types fs whole = fe
      ∙ ap (λ (b : Bool). framed types fs (frame types (calls_from types fs b fuel) f args)) o
      ∙ ap (λ (l : List Shape). framed types fs (frame types (calls_from types fs true fuel) f l)) ae in
      let work : fr.counts.work ≡ cut (cost whole.events) = ap (λ (k : Framed). k.counts.work) is
      ∙ work_is types fs whole.events in
      let more : inst ≡ cut (instances types fs whole.events) = parts whole.events (ap (λ (k : Framed). k.counts) is) in
      omega (arith, work, more, ie, se, te, e)

  pub rounds_here : (cs : List Check) (i n d : ℕ) (c : Check) → i < length cs
      → rounds_of types fs (slice_get cs i) n d ≡ rounds_at types fs (slice_get fs (get_or cs i c).function.0) n d
  rounds_here [] i n d c lt = absurd (omega arith)
  rounds_here (x ∷ cs) zero n d c lt = refl
  rounds_here (x ∷ cs) (suc i) n d c lt = rounds_here cs i n d c (omega arith)

-- the estimate, from the rounds of the check's function
pub estimate_is : (types types2 : TypeTable) (fs fs2 : List Function) (cs cs2 : List Check) (f : Function) (i n d : ℕ)
    (z : Check) → i < length cs → types2 ≡ types → fs2 ≡ fs → cs2 ≡ cs
    → Some f ≡ slice_get fs2 (get_or cs2 i z).function.0 → cut (rounds types2 fs2 f n d) ≡ estimate types fs cs i n d
estimate_is types types2 fs fs2 cs cs2 f i n d z lt te fe ce is =
    let found : Some f ≡ slice_get fs (get_or cs i z).function.0 = is
    ∙ ap (λ (l : List Function). slice_get l (get_or cs2 i z).function.0) fe
    ∙ ap (λ (l : List Check). slice_get fs (get_or l i z).function.0) ce in
    ap (λ (t : TypeTable). cut (rounds t fs2 f n d)) te ∙ ap (λ (l : List Function). cut (rounds types l f n d)) fe
    ∙ ap (λ (o : Option Function). cut (rounds_at types fs o n d)) found
    ∙ ap cut (sym (rounds_here types fs cs i n d z lt))
