-- The steps of a guess run, built on nothing over a domain that isn't exact: that they can be, and that the literal is
-- true where values that obey them say so.
use Rattle.std.proofs.Common.{◌≡◌, ℕ, ◌+◌, ◌≤◌, ◌^◌, ◌&&◌, List, [], length, false}
use Rattle.std.proofs.Common.{sym, subst, arith}
use Rattle.std.specs.Prelude.{slice_get}
use Rattle.pp_prog.specs.declared.sort.Sort.{Sort}
use Rattle.pp_prog.specs.declared.sort.Sort.TheVariants as sort
use Rattle.pp_prog.specs.declared.types.TypeTable.{TypeTable}
use Rattle.pp_clause.specs.Literal.{Literal, lit_value}
use Rattle.pp_gate.specs.declared.gate.Gate.{Gate}
use Rattle.pp_gate.specs.Circuit.{IsOf, StandsFor}
use Rattle.pp_gate.specs.Growth.{AddsGates}
use Rattle.pp_gate.proofs.Growing.{length-Grows}
use Rattle.pp_domain.specs.declared.symbol.Symbol.{Symbol}
use Rattle.pp_domain.specs.declared.symbol.Symbol.TheVariants as symbol
use Rattle.pp_domain.specs.Answers.{Fresh}
use Rattle.pp_domain.specs.Laws.{Lawful}
use Rattle.pp_domain.specs.Moves.{Moves}
use Rattle.pp_domain.specs.Sense.{Sense}
use Rattle.pp_domain.specs.Symbols.{IsSymbol}
use Rattle.pp_domain.proofs.AnySort.{Moves_gates}
use Rattle.pp_domain.proofs.Composition.{Moves_more, Moves_weaker}
use Rattle.pp_steps.specs.declared.step.Step.{Step}
use Rattle.pp_steps.specs.Gates.{Heights}
use Rattle.pp_steps.specs.Guesses.{GuessSteps}
use Rattle.pp_steps_gates.proofs.Heights.{solved, solved_high}
use Rattle.pp_build.specs.Built.{CanBuild, IsBuilt}
use Rattle.pp_build.specs.Words.{AreWords}
use Rattle.pp_build.specs.StepGates.{all_step_gates}
use Rattle.pp_guess_gates.specs.Measure.{round_gates}
use Rattle.pp_symbolic.specs.Guessed.{CanGuess, HaveLiterals, IsGuessed, all_bits, guess_gates, register_bit}
use Rattle.pp_symbolic.proofs.GuessGates.{guess_steps_most}
use Rattle.pp_list.proofs.Lists.{no_item}

-- ---- registers

module _ {D T : Type 0} (m : Sense D T) (types : TypeTable) (e : D) (hs : List Gate) where
  literal_of : (s : Sort) (l : Literal) → IsSymbol m e hs s (symbol.Bit l) → IsOf hs l
  literal_of sort.Bool l is = is
  literal_of sort.Int l is = absurd is
  literal_of (sort.Tree d) l is = absurd is

-- ---- the steps

module _ {D T : Type 0} (m : Sense D T) (types : TypeTable) (inexact : m.exact ≡ false) (d : D) (gs : List Gate)
    (fresh : Fresh m types d gs) (params : List Sort) (g : GuessSteps) (can : CanGuess types gs params g)
  where
    abbrev pub heights : Heights
    heights = solved types can.have.sorts 0 g.steps (λ k. 0)

    abbrev pub built_gates : ℕ
    built_gates = round_gates types can.have.sorts [] 0 0 g.steps

    pub can_build : CanBuild m types d gs g.steps [] built_gates
    can_build = record {
      sorts = can.have.sorts;
      heights = heights;
      reads = can.reads.reads;
      sorted = can.have.sorted;
      registers = record {
        of = λ k r at. absurd (no_item k r at);
        high = λ k r at. absurd (no_item k r at);
      };
      fewer = omega arith;
      high = solved_high types can.have.sorts 0 g.steps (λ k. 0) can.reads.reads;
      few =
          subst (λ l. all_step_gates m types can.have.sorts heights l (m.compares d) [] 0 g.steps ≤ built_gates)
          (sym fresh.looks)
          (subst (λ k. all_step_gates m types can.have.sorts heights [] k [] 0 g.steps ≤ built_gates)
          (sym fresh.compares) (guess_steps_most m types inexact can.have.sorts heights g.steps can.looks));
      room = (let room = can.room in omega arith);
    }

    module _ (e : D) (hs : List Gate) (later : Moves m types d gs e hs built_gates) where
      -- also where nothing comes after it
      pub built_moves : Moves m types d gs e hs (guess_gates types can.have.sorts g)
      built_moves = Moves_weaker m types d e gs hs built_gates (guess_gates types can.have.sorts g) later (omega arith)

      -- there is room for the conjunction
      pub conjunction_room : length hs + length g.supposed ≤ 2 ^ 30
      conjunction_room =
          let grown = (length-Grows gs hs built_gates later.grows).1 in let room = can.room in omega arith

      module _ (rs : List (Symbol T))
          (built : IsBuilt m types d gs g.steps [] can.have.sorts heights e hs rs) where
        pub enough_registers : length params ≤ length rs
        enough_registers = let many = built.many in let enough = can.enough in omega arith

        pub have_literals : HaveLiterals hs rs
        have_literals = record {
          of = λ k l at. literal_of m types e hs (can.have.sorts k) l (built.registers.of k (symbol.Bit l) at);
        }

        -- with the conjunction of what is supposed
        module _ (law : Lawful m) (ks : List ℕ) (same : ks ≡ g.supposed) (is : List Gate)
            (added : AddsGates hs is (length ks)) where
          adds : AddsGates hs is (length g.supposed)
          adds = subst (λ (xs : List ℕ). AddsGates hs is (length xs)) same added

          gates_move : Moves m types e hs e is (length g.supposed)
          gates_move = Moves_gates m types law e hs is (length g.supposed) later.fits adds

          pub all_moves : Moves m types d gs e is (guess_gates types can.have.sorts g)
          all_moves = Moves_more m types d e e gs hs is built_gates (length g.supposed)
              (guess_gates types can.have.sorts g) later
              gates_move
              (omega arith)

          -- the literals, with what they are of
          pub guessed : (AreWords can.have.sorts (length g.steps) → e ≡ d) → (first all ok : Literal)
              (arguments : List (Symbol T))
              → StandsFor hs first (λ s. register_bit s (slice_get rs g.fails)) → ok ≡ m.ok e
              → StandsFor is all (λ s. lit_value s ok && all_bits s rs ks)
              → IsGuessed m types d gs g can.have.sorts e is
              (record { arguments = arguments; fails = first; circuit_ok = all })
          guessed words first all ok arguments starts is_ok stands = record {
            words = words;
            heights = heights;
            before = hs;
            registers = rs;
            built = built;
            fits = later.fits;
            longer = (length-Grows gs hs built_gates later.grows).0;
            joined = adds;
            fails = starts;
            ok = subst (λ (l : Literal). StandsFor is all (λ s. lit_value s l && all_bits s rs g.supposed)) is_ok
                (subst (λ (xs : List ℕ). StandsFor is all (λ s. lit_value s ok && all_bits s rs xs)) same stands);
          }

    -- where the registers begin as none, and the builder's answer is read off
    module _ (ss : List Step) (are : ss ≡ g.steps) (qs : List (Symbol T)) (none : qs ≡ []) where
      pub can_start : (k : ℕ) × CanBuild m types d gs ss qs k
      can_start = (
        built_gates,
        subst (λ zs. CanBuild m types d gs ss zs built_gates) (sym none)
            (subst (λ xs. CanBuild m types d gs xs [] built_gates) (sym are) can_build),
      )

      module _ (e : D) (hs : List Gate) where
        pub later_at : ((k : ℕ) → CanBuild m types d gs ss qs k → Moves m types d gs e hs k)
            → Moves m types d gs e hs built_gates
        later_at moves =
            subst (λ zs. (k : ℕ) → CanBuild m types d gs g.steps zs k → Moves m types d gs e hs k) none
            (subst (λ xs. (k : ℕ) → CanBuild m types d gs xs qs k → Moves m types d gs e hs k) are moves) built_gates
            can_build

        pub built_at : (rs : List (Symbol T))
            → ((k : ℕ) → (can_k : CanBuild m types d gs ss qs k)
            → IsBuilt m types d gs ss qs can_k.sorts can_k.heights e hs rs)
            → IsBuilt m types d gs g.steps [] can.have.sorts heights e hs rs
        unfolding can_build
        built_at rs builds =
            subst (λ zs. (k : ℕ) → (can_k : CanBuild m types d gs g.steps zs k)
            → IsBuilt m types d gs g.steps zs can_k.sorts can_k.heights e hs rs) none
            (subst (λ xs. (k : ℕ) → (can_k : CanBuild m types d gs xs qs k)
            → IsBuilt m types d gs xs qs can_k.sorts can_k.heights e hs rs) are builds) built_gates can_build

        pub words_at : ((k : ℕ) → (can_k : CanBuild m types d gs ss qs k) → AreWords can_k.sorts (length ss) → e ≡ d)
            → AreWords can.have.sorts (length g.steps) → e ≡ d
        unfolding can_build
        words_at words =
            subst (λ zs. (k : ℕ) → (can_k : CanBuild m types d gs g.steps zs k) → AreWords can_k.sorts (length g.steps)
            → e ≡ d) none
            (subst (λ xs. (k : ℕ) → (can_k : CanBuild m types d gs xs qs k) → AreWords can_k.sorts (length xs) → e ≡ d)
            are words) built_gates can_build
