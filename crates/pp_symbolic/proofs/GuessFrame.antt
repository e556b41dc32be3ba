-- The frame of a guess run: where one fails the check, some assignment says so.
use Rattle.std.proofs.Common.{◌≡◌, ◌≤◌, ◌<◌, ℕ, ◌+◌, ◌*◌, ◌^◌, List, []}
use Rattle.std.proofs.Common.{length, Bool, true, false, ◌&&◌, Some, refl, sym, ap}
use Rattle.std.proofs.Common.{◌∙◌, subst, arith}
use Rattle.std.specs.Prelude.{slice_get}
use Rattle.std.specs.List.{sum_by}
use Rattle.std.proofs.Math.Logic.{∥∥₁_map}
use Rattle.std.proofs.lemmas.Option.{same_Some}
use Rattle.pp_prog.specs.declared.check.Check.{Check}
use Rattle.pp_prog.specs.declared.expr.Function.{Function}
use Rattle.pp_prog.specs.declared.id.CheckId.{CheckId}
use Rattle.pp_prog.specs.declared.program.Program.{Program}
use Rattle.pp_prog.specs.Cone.{IsWordFunction}
use Rattle.pp_prog.specs.Sizes.{flat}
use Rattle.pp_prog.specs.Sorts.{param_sorts}
use Rattle.pp_clause.specs.Literal.{lit_value}
use Rattle.pp_gate.specs.declared.gate.Gate.{Gate}
use Rattle.pp_gate.proofs.Growing.{IsOf_more, length-Grows}
use Rattle.pp_sound.specs.Sound.{IsCheckOf}
use Rattle.pp_checks.specs.Plan.{IsPlanOf, Plan}
use Rattle.pp_estimate.specs.Cut.{top}
use Rattle.pp_estimate.specs.Estimates.{estimate, single, sum_below}
use Rattle.pp_estimate_laws.proofs.Estimates.{grows_with_depth, sums_rounds}
use Rattle.pp_induction.specs.Ends.{GuessFails}
use Rattle.pp_domain.specs.Answers.{Fresh}
use Rattle.pp_domain.specs.Laws.{Lawful}
use Rattle.pp_domain.specs.Moves.{Moves}
use Rattle.pp_domain.specs.Sense.{Sense}
use Rattle.pp_domain.proofs.Composition.{Moves_more}
use Rattle.pp_steps.specs.Guesses.{GuessSteps, guess_steps}
use Rattle.pp_guess_steps.specs.Laws.{HaveGuessSorts}
use Rattle.pp_guess_steps.proofs.Existing.{guesses_read}
use Rattle.pp_guess_steps.proofs.RoundsSorted.{guesses_are_sorted}
use Rattle.pp_guess_gates.specs.Laws.{FitIn}
use Rattle.pp_guess_gates.proofs.Laws.{guesses_fit}
use Rattle.pp_guess_gates.specs.Measure.{round_gates}
use Rattle.pp_guess_values.specs.NamedGuess.{IsNamedGuess, IsShort, all_looked_at, fields_at}
use Rattle.pp_guess_values.proofs.Failing.{does_at}
use Rattle.pp_guess_values.proofs.Looking.{guess_looks_before}
use Rattle.pp_guess_values.proofs.Named.{failing_guess_is_named}
use Rattle.pp_build.specs.Followed.{CanFollowAll}
use Rattle.pp_symbolic.specs.declared.frame.Frame.{Frame}
use Rattle.pp_symbolic.specs.Frame.{IsGuessFrame, IsModel, IsOwner}
use Rattle.pp_symbolic.specs.Naming.{more_than_named}
use Rattle.pp_symbolic.specs.Guessed.{CanGuess, IsGuessed, all_bits, guess_gates}
use Rattle.pp_symbolic.proofs.GuessArguments.{enough_steps}
use Rattle.pp_symbolic.proofs.GuessFollows.{goes_true}
use Rattle.pp_symbolic.proofs.GuessWords.{word_model_fails}
use Rattle.pp_symbolic.proofs.GuessGates.{names_paid}
use Rattle.pp_symbolic.proofs.Names.{names_short}
use Rattle.pp_symbolic.proofs.RunFrame.{first_good}
use Rattle.pp_list.proofs.Lists.{no_item}

-- a check belongs to one function
pub same_owner : (p : Program) (i j c : ℕ) → IsCheckOf p i c → IsCheckOf p j c → i ≡ j
same_owner p i j c one other =
    let check = same_Some one.check other.check (sym one.listed ∙ other.listed) in
    sym one.owner ∙ ap (λ (k : Check). k.function.0) check ∙ other.owner

below_top : (a b : ℕ) → a ≤ b → b ≤ 4000000 → a < top
below_top a b le small = omega (arith, le, small)

last_round : (before one all most : ℕ) → all ≡ before + one → all ≤ most → one ≤ most
last_round before one all most is le = omega (arith, is, le)

few_names : (steps fields gates supposed single most : ℕ) → steps ≤ single → 1 + (gates + supposed) ≤ single
    → 8 * fields ≤ gates → single ≤ most → most ≤ 4000000 → 2 * steps + fields < 2 ^ 30
few_names steps fields gates supposed single most few fits paid le small = omega (arith, few, fits, paid, le, small)

and_first : (a b : Bool) → (a && b) ≡ true → a ≡ true
and_first true b h = refl
and_first false b h = h

module _ {D T : Type 0} (m : Sense D T) (law : Lawful m) (inexact : m.exact ≡ false) (p : Program) (plan : Plan)
    (is_plan : IsPlanOf plan p) (c : CheckId) (f : Function) (own : IsOwner p c f) (round depth : ℕ) (some : 1 ≤ depth)
    (small : estimate p.types p.functions p.checks c.0 round depth ≤ 4000000) (d : D)
    (gs : List Gate) (fresh : Fresh m p.types d gs) (one : length gs ≡ 1)
  where
    abbrev G : GuessSteps
    G = guess_steps p.functions f c round

    abbrev Can : GuessSteps → Type 0
    Can g = CanGuess p.types gs (param_sorts f.params) g

    -- what the round is estimated at
    abbrev most : ℕ
    most = estimate p.types p.functions p.checks c.0 round depth

    have : HaveGuessSorts p.types G (param_sorts f.params)
    have = guesses_are_sorted plan p is_plan own.number f own.here c round

    fits : FitIn p.types have.sorts G (single p.types p.functions f round 1)
    fits = guesses_fit plan p is_plan own.number f own.here c round have

    -- the round by itself, on the least arguments, is estimated at no more
    single_most : single p.types p.functions f round 1 ≤ most
    single_most =
        let lower = grows_with_depth p.types p.functions p.checks c.0 round 1 depth some in
        let here : slice_get p.functions own.owner.check.function.0 ≡ Some f =
        ap (slice_get p.functions) own.owner.owner ∙ own.here in
        let sums = sums_rounds p.types p.functions p.checks c.0 round 1 own.owner.check f own.owner.listed here
        (below_top _ most lower small) in
        last_round (sum_below round (λ r. single p.types p.functions f r 1)) (single p.types p.functions f round 1)
        (estimate p.types p.functions p.checks c.0 round 1) most sums lower

    few_gates : guess_gates p.types have.sorts G ≤ most
    few_gates = let whole = fits.gates in let e = single_most in omega (arith, whole, e)

    can_steps : Can G
    can_steps = record {
      have = have;
      reads = guesses_read p.functions f c round;
      enough = enough_steps guesses_read p.functions f c round;
      looks = guess_looks_before p.functions f c round;
      room = (let few = few_gates in omega (arith, few, one, small));
    }

    module _ (g : GuessSteps) (is : g ≡ G) where
      pub can_guess : Can g
      can_guess = subst Can (sym is) can_steps

      -- what they leave is at most the estimate, also from before the domain was told of a limit
      pub guess_moves : (before : D) → Moves m p.types before gs d gs 0 → (e : D) (hs : List Gate)
          → ((can : Can g) → Moves m p.types d gs e hs (guess_gates p.types can.have.sorts g))
          → Moves m p.types before gs e hs most
      unfolding can_steps
      guess_moves before told e hs moves =
          let left : (can : Can G) → Moves m p.types d gs e hs (guess_gates p.types can.have.sorts G) =
          subst (λ x. (can : Can x) → Moves m p.types d gs e hs (guess_gates p.types can.have.sorts x)) is moves in
          Moves_more m p.types before d e gs gs hs 0 (guess_gates p.types have.sorts G) most told (left can_steps)
          (let few = few_gates in omega arith)

      pub guess_size : (e : D) (hs : List Gate)
          → ((can : Can g) → Moves m p.types d gs e hs (guess_gates p.types can.have.sorts g)) → length hs ≤ most
      unfolding can_steps
      guess_size e hs moves =
          let left : (can : Can G) → Moves m p.types d gs e hs (guess_gates p.types can.have.sorts G) =
          subst (λ x. (can : Can x) → Moves m p.types d gs e hs (guess_gates p.types can.have.sorts x)) is moves in
          let grown = (length-Grows gs hs (guess_gates p.types have.sorts G) (left can_steps).grows).1 in
          let whole = fits.gates in
          let e = single_most in
          omega (arith, grown, whole, e, one)

      module _ (e : D) (hs : List Gate) (frame : Frame T)
          (evaluated : (can : Can g) → IsGuessed m p.types d gs g can.have.sorts e hs frame)
          (enough : more_than_named p.types G.steps ≤ m.limit d)
        where
          few : 2 * length G.steps + sum_by (fields_at (flat p.types) have.sorts) (all_looked_at G.steps) < 2 ^ 30
          few = few_names (length G.steps) (sum_by (fields_at (flat p.types) have.sorts) (all_looked_at G.steps))
              (round_gates p.types have.sorts [] 0 0 G.steps) (length G.supposed)
              (single p.types p.functions f round 1) most fits.steps fits.gates
              (names_paid p.types have.sorts G.steps) single_most small

          short : IsShort p.types have.sorts G.steps (m.limit d)
          short = names_short p.types have.sorts G.steps (m.limit d) few enough

          can : Can G
          can = can_steps

          ev : IsGuessed m p.types d gs G can.have.sorts e hs frame
          ev = subst (λ x. (k : Can x) → IsGuessed m p.types d gs x k.have.sorts e hs frame) is evaluated can

          -- values with a naming give an assignment
          model : IsNamedGuess m d p f c round can.have.sorts → (a : ℕ → Bool) × IsModel m p c round e hs frame a
          model v =
              let follow : CanFollowAll m p.types d gs [] G.steps can.have.sorts v.naming (λ x. true) v.values v.missing
              = record {
                good = first_good m p d gs law fresh one v.naming v.admitted
                    (fresh.matches (λ x. true) v.naming v.reaches);
                stand = λ k x at. absurd (no_item k x at);
                are = v.are;
                looked = λ k s le at. v.looked k s at;
                does = λ k s le at.
                    does_at p.types.ctors v.missing v.values 0 G.steps k k s v.guess.steps at (omega arith);
              } in
              let x = goes_true m law p.types inexact d gs G can.have.sorts e hs frame ev v.naming (λ y. true) v.values
              v.missing follow v.supposed in (
                x.extended.next,
                record {
                  gates = x.extended.good.gates;
                  ok = x.ok;
                  fails = x.fails;
                },
              )

          pub is_guess_frame : IsGuessFrame m p c round e hs frame
          unfolding can have can_steps
          is_guess_frame = record {
            fails = IsOf_more ev.before hs (length G.supposed) frame.fails ev.joined.grows ev.fails.of;
            circuit_ok = ev.ok.of;
            ok = λ a gives holds.
                and_first (lit_value a (m.ok e)) (all_bits a ev.registers G.supposed)
                (sym (ev.ok.value a gives) ∙ holds);
            found = λ i check fails.
                let number : i ≡ own.number = same_owner p i own.number c.0 check own.owner in
                ∥∥₁_map (failing_guess_is_named m p d (law.names p.types d gs fresh.fits) own.number f own.here c round
                (subst (λ j. GuessFails p j c round) number fails) can.have short) model;
            words = λ i check is_word a says.
                let number : i ≡ own.number = same_owner p i own.number c.0 check own.owner in
                subst (λ j. GuessFails p j c round) (sym number)
                (word_model_fails m law p own.number
                (subst (λ j. IsWordFunction p.types p.functions j) number is_word) f own.here c round can.have d gs
                fresh (omega (arith, enough)) e hs frame ev a says);
          }
