-- Where values obey the steps of a guess run, an assignment goes on by which the check fails and all that is supposed
-- holds.
use Rattle.std.proofs.Common.{◌≡◌, ℕ, ◌&&◌, List, [], ◌∷◌, length, Bool, true, false, Option, None, Some, refl}
use Rattle.std.proofs.Common.{sym, ap, ◌∙◌}
use Rattle.std.specs.Prelude.{slice_get}
use Rattle.pp_prog.specs.declared.types.TypeTable.{TypeTable}
use Rattle.pp_prog.specs.declared.value.Value.{Value}
use Rattle.pp_prog.specs.declared.value.Value.TheVariants.{Bool as Truth}
use Rattle.pp_clause.specs.Literal.{lit_value}
use Rattle.pp_gate.specs.declared.gate.Gate.{Gate}
use Rattle.pp_gate.proofs.Agreement.{Gives_old, agree_along}
use Rattle.pp_domain.specs.declared.symbol.Symbol.{Symbol}
use Rattle.pp_domain.specs.declared.symbol.Symbol.TheVariants as symbol
use Rattle.pp_domain.specs.Laws.{Lawful}
use Rattle.pp_domain.specs.Moves.{Moves}
use Rattle.pp_domain.specs.Naming.{Naming}
use Rattle.pp_domain.specs.Sense.{Extended, Sense}
use Rattle.pp_domain.specs.Symbols.{SymbolStands}
use Rattle.pp_domain.proofs.AnySort.{Moves_gates}
use Rattle.pp_domain.proofs.Composition.{Extended_grown}
use Rattle.pp_domain.proofs.Symbols.{SymbolStands_later}
use Rattle.pp_steps.specs.Guesses.{GuessSteps}
use Rattle.pp_steps.specs.Meaning.{Missing, Values, bit}
use Rattle.pp_steps.specs.Sorted.{Sorts}
use Rattle.pp_guess_steps.specs.Laws.{IsSupposed}
use Rattle.pp_steps_run.specs.Told.{AllOf, On}
use Rattle.pp_steps_run.proofs.Pieces.{bit_truth}
use Rattle.pp_build.specs.Followed.{AllStand, CanFollowAll}
use Rattle.pp_symbolic.specs.declared.frame.Frame.{Frame}
use Rattle.pp_symbolic.specs.Guessed.{IsGuessed, all_bits, register_bit}

-- ---- registers

module _ {D T : Type 0} (m : Sense D T) (types : TypeTable) (e : D) where
  true_register : (n : Naming) (a : ℕ → Bool) (v : Value) (r : Option (Symbol T))
      → ((x : Symbol T) → r ≡ Some x → SymbolStands m e a n x v) → bit v ≡ true → register_bit a r ≡ true
  true_register n a v None stands on = refl
  true_register n a v (Some (symbol.Word w)) stands on = refl
  true_register n a v (Some (symbol.Tree t)) stands on = refl
  true_register n a v (Some (symbol.Bit l)) stands on =
      let is : v ≡ Truth (lit_value a l) = stands (symbol.Bit l) refl in
      sym (bit_truth (lit_value a l)) ∙ ap bit (sym is) ∙ on

  -- where registers stand for values, those of true values are true
  all_true : (n : Naming) (a : ℕ → Bool) (ρ : Values) (rs : List (Symbol T)) → AllStand m types e a n ρ rs
      → (ks : List ℕ) → AllOf (On ρ) ks → all_bits a rs ks ≡ true
  all_true n a ρ rs stand [] on = refl
  all_true n a ρ rs stand (k ∷ ks) on =
      rw (true_register n a (ρ k) (slice_get rs k) (stand k) on.0) (all_true n a ρ rs stand ks on.1)

both_true : (p q : Bool) → p ≡ true → q ≡ true → (p && q) ≡ true
both_true p q a b = rw (a, b) refl

-- ---- the frame

module _ {D T : Type 0} (m : Sense D T) (law : Lawful m) (types : TypeTable) (inexact : m.exact ≡ false) (d : D)
    (gs : List Gate) (g : GuessSteps) (σ : Sorts) (e : D) (hs : List Gate) (frame : Frame T)
    (is : IsGuessed m types d gs g σ e hs frame)
  where
    -- a good assignment that goes on from `a`, by which the check fails and what is supposed holds
    pub record GoesTrue (n : Naming) (a : ℕ → Bool) : Type 0 where
      pub extended : Extended m types gs n a e hs
      pub fails : lit_value extended.next frame.fails ≡ true
      pub ok : lit_value extended.next frame.circuit_ok ≡ true

    pub goes_true : (n : Naming) (a : ℕ → Bool) (ρ : Values) (missing : Missing)
        → CanFollowAll m types d gs [] g.steps σ n a ρ missing → IsSupposed ρ g → GoesTrue n a
    goes_true n a ρ missing follow supposed =
        let many = length g.supposed in
        let x = is.built.follows inexact n a ρ missing follow in
        let b = x.0.next in
        let moves : Moves m types e is.before e hs many =
        Moves_gates m types law e is.before hs many is.fits is.joined in
        let y = Extended_grown m types law e is.before hs many n b b is.fits is.joined.grows is.joined.circuit
        x.0.good in
        let stand : AllStand m types e y.next n ρ is.registers =
        λ k r at.
        SymbolStands_later m types e e is.before hs many n b y.next (σ k) r (ρ k) moves (is.built.registers.of k r at)
        y.agree (x.1 k r at) in
        let before = Gives_old is.before hs many is.joined.grows y.next y.good.gates in record {
          extended = record {
            next = y.next;
            agree = agree_along (length gs) (length is.before) a b y.next is.longer x.0.agree y.agree;
            good = y.good;
          };
          fails = is.fails.value y.next before
              ∙ true_register m types e n y.next (ρ g.fails) (slice_get is.registers g.fails) (stand g.fails)
              supposed.fails;
          ok = is.ok.value y.next y.good.gates
              ∙ both_true (lit_value y.next (m.ok e)) (all_bits y.next is.registers g.supposed) y.good.ok
              (all_true m types e n y.next ρ is.registers stand g.supposed supposed.supposed);
        }
