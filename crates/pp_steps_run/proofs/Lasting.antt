-- Parts of a run beside the same parts where calls that are nested too deep have answers: the second meet no value
-- that they have no meaning for, so the first are Deep for want of fuel alone.
use Rattle.std.proofs.Common.{◌≡◌, Bool, Option, Some, None, Ok, Err, refl, sym, ap, ◌∙◌, subst}
use Rattle.std.specs.Prelude.{◌≢◌}
use Rattle.pp_prog.specs.declared.id.CheckId.{CheckId}
use Rattle.pp_prog.specs.declared.value.Value.{Value}
use Rattle.pp_prog.specs.declared.value.Value.TheOpen as layer
use Rattle.pp_prog.specs.declared.value.Value.TheViews.{out-Value}
use Rattle.pp_eval.specs.declared.outcome.Stop.TheVariants.{Deep, Stuck}
use Rattle.pp_eval.specs.Operators.{truth, truth_in}
use Rattle.pp_eval.specs.Part.{Part, and_then, failed}
use Rattle.pp_eval.proofs.Extends.{Extends}
use Rattle.pp_steps.specs.Meaning.{Values, bit, bit_in}
use Rattle.pp_steps.specs.Piece.{Piece, joined}
use Rattle.pp_steps_run.specs.Told.{IsQuiet, IsTold, Off, On}
use Rattle.pp_steps_run.proofs.Pieces.{told_bind}

-- the part isn't Deep, and isn't stuck
pub record Lasts {A : Type 0} (part : Part A) : Type 0 where
  pub lasts : part ≢ Err Deep
  pub meant : part ≢ Err Stuck

pub lasts_first : {A B : Type 0} (part : Part A) (go : A → Part B) → Lasts (and_then part go) → Lasts part
lasts_first (Ok a) go h = record { lasts = λ e. absurd (cc); meant = λ e. absurd (cc) }
lasts_first (Err s) go h = record {
  lasts = λ e. let same : s ≡ Deep = cc in h.lasts (ap Err same);
  meant = λ e. let same : s ≡ Stuck = cc in h.meant (ap Err same);
}

pub lasts_next : {A B : Type 0} (part full : Part A) (go : A → Part B) → Extends part full → (a : A) → part ≡ Ok a
    → Lasts (and_then full go) → Lasts (go a)
lasts_next (Ok b) full go e a is h = let same : full ≡ Ok a = e ∙ is in subst (λ q. Lasts (and_then q go)) same h
lasts_next (Err s) full go e a is h = absurd (cc)

-- the truth value of a value that has one
truth_there : (o : layer.Value-F Value) → Lasts (truth_in o) → truth_in o ≡ Ok (bit_in o)
truth_there (layer.Int n) h = absurd (h.meant refl)
truth_there (layer.Bool b) h = refl
truth_there (layer.Tree c fields) h = absurd (h.meant refl)

pub truth_is : (v : Value) → Lasts (truth v) → truth v ≡ Ok (bit v)
truth_is v h = truth_there (out-Value v) h

-- a check that fails isn't absent
pub failed_is : {A : Type 0} (check : Option CheckId) → Lasts (failed {A = A} check) → (c : CheckId) × (check ≡ Some c)
failed_is None h = absurd (h.meant refl)
failed_is (Some c) h = (c, refl)

module _ (ρ : Values) (asked : Option CheckId) where
  -- one part after another
  pub told_then : {A B C D : Type 0} {R : A → C → Type 0} {S : B → D → Type 0} (x : Piece A) (y : Piece B)
      (part full : Part C) (go on : C → Part D) → Extends part full → Lasts (and_then full on)
      → (Lasts full → IsTold ρ asked R x part) → (Off ρ x.alive → IsQuiet ρ y)
      → ((c : C) → On ρ x.alive → R x.out c → Lasts (on c) → IsTold ρ asked S y (go c))
      → IsTold ρ asked S (joined x y) (and_then part go)
  told_then x y part full go on e h f q k =
      told_bind ρ asked x y part go (f (lasts_first full on h)) q
      (λ c is a r. k c a r (lasts_next part full on e c is h))

  -- what goes on from a truth value
  pub told_either : {A B : Type 0} {S : A → B → Type 0} (x : Piece A) (v : Value) (go on : Bool → Part B)
      → Lasts (and_then (truth v) on)
      → ((b : Bool) → bit v ≡ b → Lasts (on b) → IsTold ρ asked S x (go b))
      → IsTold ρ asked S x (and_then (truth v) go)
  told_either {S = S} x v go on h k =
      let e = truth_is v (lasts_first (truth v) on h) in
      subst (λ q. IsTold ρ asked S x (and_then q go)) (sym e) (k (bit v) refl (subst (λ q. Lasts (and_then q on)) e h))
