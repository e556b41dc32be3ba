-- The frame of a run: what its symbols mean, by the laws of steps.
use Rattle.std.proofs.Common.{◌≡◌, ℕ, ◌+◌, ◌<◌, List, length, Bool, true, false}
use Rattle.std.proofs.Common.{None, Some, sym, ap, ◌∙◌, subst, arith}
use Rattle.std.specs.Prelude.{slice_get}
use Rattle.std.proofs.lemmas.Option.{same_Some, slice_get_within}
use Rattle.pp_prog.specs.declared.check.Check.{Check}
use Rattle.pp_prog.specs.declared.expr.Function.{Function}
use Rattle.pp_prog.specs.declared.id.CheckId.{CheckId}
use Rattle.pp_prog.specs.declared.program.Program.{Program}
use Rattle.pp_prog.specs.declared.value.Value.{Value}
use Rattle.pp_prog.specs.declared.value.Value.TheVariants.{Bool as Truth}
use Rattle.pp_prog.specs.Sorts.{param_sorts}
use Rattle.pp_clause.specs.Literal.{lit_value}
use Rattle.pp_gate.specs.declared.gate.Gate.{Gate}
use Rattle.pp_gate.specs.declared.gate.Gate.TheVariants.{Truth as Constant}
use Rattle.pp_gate.specs.Circuit.{Gives, IsOf}
use Rattle.pp_gate.specs.Gate.{gate_value}
use Rattle.pp_sound.specs.Counterexample.{AreLow}
use Rattle.pp_sound.specs.Sound.{IsCalled, IsCheckOf}
use Rattle.pp_domain.specs.declared.symbol.Symbol.TheVariants as symbol
use Rattle.pp_domain.specs.Answers.{Fresh}
use Rattle.pp_domain.specs.Laws.{Lawful}
use Rattle.pp_domain.specs.Naming.{Naming}
use Rattle.pp_domain.specs.Sense.{Sense, Good}
use Rattle.pp_domain.specs.Symbols.{SymbolStands}
use Rattle.pp_steps.specs.declared.step.Step.{Step}
use Rattle.pp_steps.specs.Frames.{run_steps}
use Rattle.pp_steps.specs.Meaning.{Missing, Obeys, Values, bit}
use Rattle.pp_steps.specs.Sorted.{Sorts}
use Rattle.pp_steps_run.specs.Laws.{TellRuns}
use Rattle.pp_steps_run.proofs.Pieces.{bit_truth}
use Rattle.pp_steps_exist.specs.Laws.{RunsExist}
use Rattle.pp_steps_known.proofs.Laws.{runs_are_known}
use Rattle.pp_simplify_laws.proofs.Following.{Follows}
use Rattle.pp_build.specs.Registers.{IsKnown}
use Rattle.pp_symbolic.specs.declared.frame.Frame.{Frame}
use Rattle.pp_symbolic.specs.Evaluated.{IsEvaluated}
use Rattle.pp_symbolic.specs.Frame.{AreStoodFor, IsFrame, IsFrameOf, TellsRun}
use Rattle.pp_symbolic.proofs.Simplified.{known_first, values_first}

-- any value will do where a value has another constructor, and no call is left open
pub nothing_open : Missing
nothing_open = record { field = λ c k. Truth false; answer = λ wait g params result args. None }

-- ---- the first assignment

at_most_first : (k n : ℕ) → k < n → n ≡ 1 → k ≡ 0
at_most_first k n h e = omega arith

module _ {D T : Type 0} (m : Sense D T) (p : Program) (d : D) (gs : List Gate) (law : Lawful m)
    (fresh : Fresh m p.types d gs) (one : length gs ≡ 1)
  where
    first_gives : Gives (λ x. true) gs
    first_gives = record {
      gives = λ k g at.
          let here = at_most_first k (length gs) (slice_get_within gs k g at) one in
          let is = (law.circuit p.types d gs fresh.fits).first in
          let constant : Constant ≡ g =
          same_Some Constant g (sym is ∙ ap (λ j. slice_get gs j) (sym here) ∙ at) in
          ap (λ h. gate_value (λ x. true) h) constant;
    }

    pub first_good : (n : Naming) → m.Admits p.types n → m.Matches d (λ x. true) n → Good m p.types d gs n (λ x. true)
    first_good n admitted matches = record {
      gates = first_gives;
      ok = ap (λ l. lit_value (λ x. true) l) fresh.ok;
      matches = matches;
      admitted = admitted;
    }

-- ---- the frame of one function

zero_less : (i n : ℕ) → i < 0 + n → i < n
zero_less i n h = omega arith

-- the steps follow those of the run
abbrev pub FollowRun : (p : Program) (c : CheckId) (round : ℕ) (f : Function) (new : List Step) (next : ℕ) → Type 1
FollowRun p c round f new next =
    (ρ : Values) → Obeys p.types.ctors nothing_open ρ 0 (run_steps p.functions f c round).steps
    → Follows p.types.ctors nothing_open (length (param_sorts f.params)) (run_steps p.functions f c round).fails next
    (run_steps p.functions f c round).steps new ρ

module _ {D T : Type 0} (m : Sense D T) (p : Program) (c : CheckId) (round depth : ℕ) (d : D) (gs : List Gate)
    (e : D) (hs : List Gate) (frame : Frame T) (law : Lawful m) (exact : m.exact ≡ true)
    (fresh : Fresh m p.types d gs) (one : length gs ≡ 1)
    (told : TellRuns) (exist : RunsExist) (i : ℕ) (f : Function) (here : slice_get p.functions i ≡ Some f)
    (new : List Step) (next : ℕ) (follow : FollowRun p c round f new next) (σ : Sorts)
    (ev : IsEvaluated m p.types d gs (param_sorts f.params) depth new next σ e hs frame)
  where
    module _ (n : Naming) (a : ℕ → Bool) (good : Good m p.types e hs n a) where
      -- the literal has the value that the step which is asked for has in values that obey the steps
      literal_tells : (ρ : Values) → IsKnown m p.types e a n σ ρ ev.registers next
          → bit (ρ next) ≡ lit_value a frame.fails
      literal_tells ρ known =
          let same : known.register ≡ symbol.Bit frame.fails =
          same_Some known.register (symbol.Bit frame.fails) (sym known.at ∙ ev.fails) in
          let stands : ρ next ≡ Truth (lit_value a frame.fails) =
          subst (λ r. SymbolStands m e a n r (ρ next)) same known.stands in
          ap bit stands ∙ bit_truth (lit_value a frame.fails)

      tells_run : TellsRun m p c round depth e hs frame i f n a
      tells_run =
          let stands = ev.bounded n a good in
          let args = stands.values in
          let called : IsCalled p i f args = record { function = here; arguments = stands.are.sorted } in
          let made = exist p i f args called c round nothing_open in
          let after = follow made.0 made.1.steps in
          let K : ℕ → Type 0 = IsKnown m p.types e a n σ after.values ev.registers in
          let known = ev.known n a after.values nothing_open args good after.obeys stands.stand stands.are.sorted
          (values_first made.0 after.values 0 (param_sorts f.params) args
          (λ j lt. after.front j (zero_less j (length (param_sorts f.params)) lt)) made.1.arguments) in
          let learned = after.learns K known.tell in
          let next_known : K next = learned.target (runs_are_known learned.known p.functions f c round p.types.ctors
          nothing_open made.0 made.1.steps learned.tells
          (known_first K learned.known 0 (param_sorts f.params)
          (λ j lt. learned.front j (zero_less j (length (param_sorts f.params)) lt)) known.arguments)) in
          let same = ap bit (sym after.target) ∙ literal_tells after.values next_known in
          let both = told p i f args called c round nothing_open made.0 made.1 in
          record {
            args = args;
            arguments = record { stand = stands.stand; called = called; low = stands.are.low };
            tells = (λ h. both.0 (same ∙ h), λ h. sym same ∙ both.1 h);
          }

    stood_for : (n : Naming) → m.Admits p.types n → (args : List Value) → IsCalled p i f args → AreLow depth args
        → AreStoodFor m p c round depth e hs frame i f n args
    stood_for n admitted args called low =
        let x = ev.chosen n (λ y. true) args (first_good m p d gs law fresh one n admitted
        (law.fitting exact d n (λ y. true)))
        (record { sorted = called.arguments; low = low }) in
        record {
          assignment = x.0.next;
          supposed = record {
            good = x.0.good;
            ok = ap (λ l. lit_value x.0.next l) ev.ok ∙ x.0.good.ok;
          };
          arguments = record { stand = x.1; called = called; low = low };
        }

    pub is_frame_of : IsFrameOf m p c round depth e hs frame i f
    is_frame_of = record {
      symbols = ev.symbols;
      tells = λ n a supposed. tells_run n a supposed.good;
      stood_for = stood_for;
    }

    -- a check belongs to one function
    pub is_frame : IsCheckOf p i c.0 → IsFrame m p c round depth e hs frame
    is_frame owner = record {
      fails = ev.fails_of;
      circuit_ok = subst (λ l. IsOf hs l) (sym ev.ok) ev.ok_of;
      ok = λ a h. ap (λ l. lit_value a l) (sym ev.ok) ∙ h;
      of_function = λ j g other at.
          let check = same_Some owner.check other.check (sym owner.listed ∙ other.listed) in
          let number : i ≡ j =
          sym owner.owner ∙ ap (λ (k : Check). k.function.0) check ∙ other.owner in
          let function : f ≡ g =
          same_Some f g (sym here ∙ ap (λ k. slice_get p.functions k) number ∙ at) in
          subst (λ k. IsFrameOf m p c round depth e hs frame k g) number
          (subst (λ h. IsFrameOf m p c round depth e hs frame i h) function is_frame_of);
    }
