-- How often each check is named after some passes over all checks.
use Rattle.std.proofs.Common.{◌≡◌, ℕ, ◌+◌, ◌-◌, ◌<◌, ◌≤◌, List, ◌∷◌, inl, inr, length, refl, sym, subst, arith}
use Rattle.std.proofs.lemmas.Bool.{cases_eq}
use Rattle.pp_prog.specs.declared.id.CheckId.{CheckId}
use Rattle.pp_prog.specs.declared.program.Program.{Program}
use Rattle.pp_turns.specs.declared.in_turns.Direction.{Direction}
use Rattle.pp_turns.specs.declared.in_turns.Direction.TheVariants.{Backward, Forward}
use Rattle.pp_turns.specs.declared.part.Turn.{Turn}
use Rattle.pp_turns.specs.declared.turns.Turns.{Turns}
use Rattle.pp_turns.specs.Parts.{HaveEnded}
use Rattle.pp_turns.specs.Passes.{AreNamed, place_named}
use Rattle.pp_turns.specs.Turns.{AreTurned, AreTurns, times}
use Rattle.pp_turns.proofs.Naming.{all_ended, times_grow, times_here}

-- as after a list that names each check at least k times, and those of the first n turns of the next pass once more
pub record AreNamedTo (p : Program) (k : ℕ) (order : Direction) (n : ℕ) (turns : List Turn) : Type 0 where
  pub names : List CheckId
  pub turned : AreTurned names turns
  pub each : (c : ℕ) → c < length p.checks → k ≤ times c names
  pub again : (m : ℕ) → m < n → k + 1 ≤ times (place_named order (length p.checks) m) names

pub place_within : (order : Direction) (count n : ℕ) → n < count → place_named order count n < count
place_within Forward count n lt = lt
place_within Backward count n lt = omega (arith, lt)

-- each check has a turn in a pass
its_turn : (order : Direction) (count c : ℕ) → c < count → (n : ℕ) × (n < count) × (place_named order count n ≡ c)
its_turn Forward count c lt = (c, lt, refl)
its_turn Backward count c lt = (count - 1 - c, omega (arith, lt), omega (arith, lt))

module _ (p : Program) (k : ℕ) (order : Direction) where
  pub pass_begins : (turns : List Turn) → AreNamed p k turns → AreNamedTo p k order 0 turns
  pass_begins turns h = record {
    names = h.names;
    turned = h.turned;
    each = h.each;
    again = λ m lt. absurd (omega (arith, lt));
  }

  -- one more turn
  pub pass_goes_on : (n : ℕ) (turns more : List Turn) (check : CheckId) → n < length p.checks
      → check.0 ≡ place_named order (length p.checks) n
      → ((names : List CheckId) → AreTurned names turns → AreTurned (check ∷ names) more)
      → AreNamedTo p k order n turns → AreNamedTo p k order (n + 1) more
  pass_goes_on n turns more check lt named turned h = record {
    names = check ∷ h.names;
    turned = turned h.names h.turned;
    each = λ c within. omega (arith, h.each c within, times_grow h.names check c);
    again = λ m below.
        elim (cases_eq m n) [
          | inl last ↦
              let place = place_named order (length p.checks) n in
              let here : k + 1 ≤ times place (check ∷ h.names) =
              omega (
                arith,
                times_here h.names check place named,
                h.each place (place_within order (length p.checks) n lt),
              ) in
              subst (λ (z : ℕ). k + 1 ≤ times (place_named order (length p.checks) z) (check ∷ h.names))
              (sym last) here
          | inr before ↦
              let earlier : m < n = omega (arith, below, before) in
              omega (
                arith,
                h.again m earlier,
                times_grow h.names check (place_named order (length p.checks) m),
              )
        ];
  }

  pub pass_ends : (n : ℕ) (turns : List Turn) → length p.checks ≤ n → AreNamedTo p k order n turns
      → AreNamed p (k + 1) turns
  pass_ends n turns all h = record {
    names = h.names;
    turned = h.turned;
    each = λ c within.
        let own = its_turn order (length p.checks) c within in
        subst (λ (z : ℕ). k + 1 ≤ times z h.names) own.2 (h.again own.0 (omega (arith, own.1, all)));
  }

-- no check was named yet
pub none_named : (p : Program) (names : List CheckId) (turns : List Turn) → AreTurned names turns → AreNamed p 0 turns
none_named p names turns turned = record { names = names; turned = turned; each = λ c within. omega arith }

-- after one pass more than there are rounds all have ended
pub passed_enough : (p : Program) (k : ℕ) (turns : Turns) → AreTurns p turns → turns.limits.rounds < k
    → AreNamed p k turns.checks → HaveEnded turns.checks
passed_enough p k turns are enough h =
    all_ended p h.names turns are h.turned (λ c within. omega (arith, enough, h.each c within))
