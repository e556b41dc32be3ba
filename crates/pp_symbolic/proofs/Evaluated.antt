-- Unknown arguments, and the steps behind them: what the registers tell.
use Rattle.std.proofs.Common.{◌≡◌, ℕ, zero, suc, ◌+◌, ◌≤◌, ◌<◌, ◌^◌, List, [], ◌∷◌, ◌++◌, length, map, drop, Bool}
use Rattle.std.proofs.Common.{true, Some}
use Rattle.std.proofs.Common.{refl, sym, ap, ◌∙◌, subst, arith, length-append}
use Rattle.std.specs.Prelude.{slice_get, sum, IsTrue}
use Rattle.std.proofs.Math.Seq.{drop-append_seam}
use Rattle.std.proofs.lemmas.List.{length-map}
use Rattle.pp_prog.specs.declared.sort.Sort.{Sort}
use Rattle.pp_prog.specs.declared.sort.Sort.TheVariants as sort
use Rattle.pp_prog.specs.declared.types.TypeTable.{TypeTable}
use Rattle.pp_prog.specs.declared.value.Value.{Value}
use Rattle.pp_prog.specs.Sorts.{have_sorts}
use Rattle.pp_clause.specs.Literal.{Literal}
use Rattle.pp_gate.specs.declared.gate.Gate.{Gate}
use Rattle.pp_gate.specs.Circuit.{IsOf}
use Rattle.pp_gate.proofs.Agreement.{agree_along}
use Rattle.pp_gate.proofs.Growing.{length-Grows}
use Rattle.pp_domain.specs.declared.symbol.Symbol.{Symbol}
use Rattle.pp_domain.specs.declared.symbol.Symbol.TheVariants as symbol
use Rattle.pp_domain.specs.Laws.{Lawful}
use Rattle.pp_domain.specs.Moves.{Moves}
use Rattle.pp_domain.specs.Naming.{Naming}
use Rattle.pp_domain.specs.Sense.{Sense, Good}
use Rattle.pp_domain.specs.Symbols.{IsSymbol, SymbolsStand}
use Rattle.pp_domain.proofs.Composition.{Moves_more, Moves_weaker, agree_self}
use Rattle.pp_domain.proofs.Symbols.{AreSymbols_later, SymbolsStand_later}
use Rattle.pp_steps.proofs.Counting.{zero_plus}
use Rattle.pp_steps.specs.declared.step.Step.{Step}
use Rattle.pp_steps.specs.Frames.{numbers, open_step}
use Rattle.pp_steps.specs.Gates.{AllHigh, all_gates, open_gates}
use Rattle.pp_steps.specs.Known.{AllTell}
use Rattle.pp_steps.specs.Meaning.{Missing, Obeys, Values}
use Rattle.pp_steps_run.specs.Told.{AreValues}
use Rattle.pp_steps_run.proofs.Pieces.{obeys_right}
use Rattle.pp_build.proofs.StepGates.{exact_all_gates, exact_all_opened}
use Rattle.pp_build.specs.StepGates.{opened_gates}
use Rattle.pp_build.specs.Built.{CanBuild, IsBuilt}
use Rattle.pp_build.specs.Registers.{AreRegisters, IsKnown}
use Rattle.pp_build.specs.Unknown.{AreUnknown}
use Rattle.pp_symbolic.specs.Evaluated.{AllKnown, CanEvaluate, IsEvaluated}
use Rattle.pp_symbolic.proofs.Arguments.{as_many, height_of, known_from, opens_tell, registers_first, sort_at}
use Rattle.pp_symbolic.proofs.Arguments.{sorts_from, symbol_of}

same_most : (a b c : ℕ) → a ≡ b → b ≤ c → a ≤ c
same_most a b c e h = omega arith

-- a register of the sort Boolean is a literal of the circuit
pub record LiteralAt {T : Type 0} (rs : List (Symbol T)) (k : ℕ) (hs : List Gate) : Type 0 where
  pub literal : Literal
  pub at : slice_get rs k ≡ Some (symbol.Bit literal)
  pub of : IsOf hs literal

module _ {D T : Type 0} (m : Sense D T) where
  literal_of : (e : D) (hs : List Gate) (rs : List (Symbol T)) (k : ℕ) (r : Symbol T) → slice_get rs k ≡ Some r
      → IsSymbol m e hs sort.Bool r → LiteralAt rs k hs
  literal_of e hs rs k (symbol.Bit l) at is = record { literal = l; at = at; of = is }
  literal_of e hs rs k (symbol.Word w) at is = absurd is
  literal_of e hs rs k (symbol.Tree t) at is = absurd is

module _ {D T : Type 0} (m : Sense D T) (types : TypeTable) (exact : m.exact ≡ true) where
  pub opened_moves : (d : D) (gs : List Gate) (params : List Sort) (depth : ℕ) (e : D) (hs : List Gate)
      → Moves m types d gs e hs (sum (map (opened_gates m types depth) params))
      → Moves m types d gs e hs (sum (map (open_gates types depth) params))
  opened_moves d gs params depth e hs moves =
      subst (λ n. Moves m types d gs e hs n) (exact_all_opened m types exact (λ k. sort.Int) (λ k. 0) depth params)
      moves

  -- also where nothing comes after it
  pub opened_left : (d : D) (gs : List Gate) (params : List Sort) (depth : ℕ) (steps : List Step) (asked : ℕ)
      (e : D) (hs : List Gate) (most : ℕ) → CanEvaluate types gs params depth steps asked most
      → Moves m types d gs e hs (sum (map (opened_gates m types depth) params)) → Moves m types d gs e hs most
  opened_left d gs params depth steps asked e hs most can moves =
      Moves_weaker m types d e gs hs (sum (map (open_gates types depth) params)) most
      (opened_moves d gs params depth e hs moves) (let few = can.few in omega arith)

  pub opened_room : (gs : List Gate) (params : List Sort) (depth : ℕ) (steps : List Step) (asked : ℕ)
      (d : D) (most : ℕ) → CanEvaluate types gs params depth steps asked most
      → length gs + sum (map (opened_gates m types depth) params) ≤ 2 ^ 30
  opened_room gs params depth steps asked d most can =
      let same = exact_all_opened m types exact (λ k. sort.Int) (λ k. 0) depth params in
      let few = can.few in
      let room = can.room in omega arith

module _ {D T : Type 0} (m : Sense D T) (types : TypeTable) (exact : m.exact ≡ true) (d : D) (gs : List Gate)
    (params : List Sort) (depth : ℕ) (steps : List Step) (asked most : ℕ)
    (can : CanEvaluate types gs params depth steps asked most)
  where
    abbrev opens : List Step
    opens = map open_step params

    abbrev opened : ℕ
    opened = sum (map (open_gates types depth) params)

    abbrev pub rest_gates : ℕ
    rest_gates = all_gates types can.sorts can.heights (length params) can.rest

    module _ (c : D) (fs : List Gate) (args : List (Symbol T))
        (unknown : AreUnknown m types d gs c fs params depth args)
        (moved : Moves m types d gs c fs (sum (map (open_gates types depth) params)))
      where
        many : length args ≡ length params
        many = as_many m c fs params args unknown.symbols

        opens_many : length args ≡ length opens
        opens_many = many ∙ sym (length-map params open_step)

        rest_is : drop (length args) steps ≡ can.rest
        rest_is = ap (λ l. drop (length args) l) can.split
            ∙ ap (λ k. drop k (opens ++ can.rest)) opens_many ∙ drop-append_seam opens can.rest

        sort_of : (k : ℕ) (s : Sort) → slice_get params k ≡ Some s → can.sorts k ≡ s
        sort_of k s at = subst (λ j. can.sorts j ≡ s) (zero_plus k)
            (sort_at can.sorts 0 params k s (sorts_from can.sorts 0 params can.arguments) at)

        registers : AreRegisters m c fs can.sorts can.heights args
        registers = record {
          of = λ k r at. subst (λ j. IsSymbol m c fs (can.sorts j) r) (zero_plus k)
              (symbol_of m c fs 0 params args can.sorts unknown.symbols (sorts_from can.sorts 0 params can.arguments) k
              r at);
          high = λ k r at.
              let h = height_of m c fs depth params args unknown.heights k r at in h.2 ∙ sym (can.tall k h.0 h.1);
        }

        steps_many : length steps ≡ length opens + length can.rest
        steps_many = ap length can.split ∙ length-append opens can.rest

        less_steps : length args ≤ length steps
        less_steps = let a = opens_many in let b = steps_many in omega arith

        gates_same : all_gates types can.sorts can.heights (length args) (drop (length args) steps) ≡ rest_gates
        gates_same = ap (λ l. all_gates types can.sorts can.heights (length args) l) rest_is
            ∙ ap (λ k. all_gates types can.sorts can.heights k can.rest) many

        pub can_build : CanBuild m types c fs steps args rest_gates
        can_build = record {
          sorts = can.sorts;
          heights = can.heights;
          reads = can.reads;
          sorted = can.sorted;
          registers = registers;
          fewer = less_steps;
          high = subst (λ k. AllHigh types can.sorts can.heights k (drop (length args) steps)) (sym many)
              (subst (λ l. AllHigh types can.sorts can.heights (length params) l) (sym rest_is) can.high);
          few = subst (λ n. n ≤ rest_gates)
              (sym (exact_all_gates m types exact can.sorts can.heights (m.looks c) (m.compares c) [] (length args)
              (drop (length args) steps)))
              (let e = gates_same in omega arith);
          room =
              let grown = (length-Grows gs fs opened moved.grows).1 in
              let few = can.few in
              let room = can.room in omega arith;
        }

        module _ (e : D) (hs : List Gate) (later : Moves m types c fs e hs rest_gates) where
          pub moves_all : Moves m types d gs e hs most
          moves_all = Moves_more m types d c e gs fs hs opened rest_gates most moved later can.few

        module _ (e : D) (hs : List Gate) (later : Moves m types c fs e hs rest_gates) (rs : List (Symbol T))
            (built : IsBuilt m types c fs steps args can.sorts can.heights e hs rs)
          where
            pub asked_at : LiteralAt rs asked hs
            asked_at =
                let within = subst (λ n. asked < n) (sym built.many) can.stands in
                let found = some_at rs asked within in
                literal_of m e hs rs asked found.0 found.1
                (subst (λ s. IsSymbol m e hs s found.0) can.truth (built.registers.of asked found.0 found.1))
              where
                some_at : (xs : List (Symbol T)) (k : ℕ) → k < length xs → (x : Symbol T) × (slice_get xs k ≡ Some x)
                some_at [] k h = absurd (omega arith)
                some_at (x ∷ xs) zero h = (x, refl)
                some_at (x ∷ xs) (suc k) h = some_at xs k (omega arith)

            known_all : (n : Naming) (a : ℕ → Bool) (ρ : Values) (missing : Missing) (vs : List Value)
                → Good m types e hs n a → Obeys types.ctors missing ρ 0 steps → SymbolsStand m e a n args vs
                → IsTrue (have_sorts types.ctors vs params) → AreValues ρ (numbers 0 params) vs
                → AllKnown m types e a n can.sorts ρ params steps rs
            known_all n a ρ missing vs good obeys stand have are =
                let K : ℕ → Type 0 = IsKnown m types e a n can.sorts ρ rs in
                let at_rest : Obeys types.ctors missing ρ (0 + length opens) can.rest =
                obeys_right types.ctors missing ρ 0 opens can.rest
                (subst (λ l. Obeys types.ctors missing ρ 0 l) can.split obeys) in
                let from : Obeys types.ctors missing ρ (length args) (drop (length args) steps) =
                subst (λ k. Obeys types.ctors missing ρ k (drop (length args) steps))
                (zero_plus (length opens) ∙ sym opens_many)
                (subst (λ l. Obeys types.ctors missing ρ (0 + length opens) l) (sym rest_is) at_rest) in
                let tell : AllTell ρ K (length args) (drop (length args) steps) =
                built.all_known exact n a ρ missing good from in
                let tell_rest : AllTell ρ K (0 + length params) can.rest =
                subst (λ k. AllTell ρ K k can.rest) (many ∙ sym (zero_plus (length params)))
                (subst (λ l. AllTell ρ K (length args) l) rest_is tell) in
                record {
                  tell = subst (λ l. AllTell ρ K 0 l) (sym can.split) (opens_tell ρ K 0 params can.rest tell_rest);
                  arguments = known_from m types e a n can.sorts ρ rs 0 params args vs
                      (registers_first args rs built.front) (sorts_from can.sorts 0 params can.arguments) stand have
                      are;
                }

            pub evaluated : Lawful m
                → IsEvaluated m types d gs params depth steps asked can.sorts e hs
                (record { arguments = args; fails = asked_at.literal; circuit_ok = m.ok e })
            evaluated law = record {
              ok = refl;
              ok_of = law.ok_of types e hs later.fits;
              fails_of = asked_at.of;
              symbols = AreSymbols_later m types c e fs hs rest_gates params args later unknown.symbols;
              bounded = λ n a good.
                  let b = unknown.bounded exact n a (later.back n a good) in
                  record {
                    values = b.values;
                    stand = SymbolsStand_later m types c e fs hs rest_gates n a a params args b.values later
                        unknown.symbols
                        (agree_self (length fs) a) b.stand;
                    are = b.are;
                  };
              chosen = λ n a vs good upto.
                  let x = unknown.chosen exact n a vs good upto in
                  let y = built.extends exact n x.0.next x.0.good in
                  let le = (length-Grows gs fs opened moved.grows).0 in (
                    record {
                      next = y.next;
                      agree = agree_along (length gs) (length fs) a x.0.next y.next le x.0.agree y.agree;
                      good = y.good;
                    },
                    SymbolsStand_later m types c e fs hs rest_gates n x.0.next y.next params args vs later
                        unknown.symbols
                        y.agree x.1,
                  );
              registers = rs;
              fails = asked_at.at;
              known = known_all;
            }

        -- where the registers begin as copies of the arguments, and the builder's answer is read off
        module _ (e : D) (hs : List Gate) (qs : List (Symbol T)) (same : qs ≡ args)
            (moves : (k : ℕ) → CanBuild m types c fs steps qs k → Moves m types c fs e hs k)
          where
            later_at : Moves m types c fs e hs rest_gates
            later_at =
                subst (λ zs. (k : ℕ) → CanBuild m types c fs steps zs k → Moves m types c fs e hs k) same moves
                rest_gates
                can_build

            pub moves_after : Moves m types d gs e hs most
            moves_after = moves_all e hs later_at

            module _ (rs : List (Symbol T))
                (builds : (k : ℕ) → (can_k : CanBuild m types c fs steps qs k)
                → IsBuilt m types c fs steps qs can_k.sorts can_k.heights e hs rs)
              where
                built_at : IsBuilt m types c fs steps args can.sorts can.heights e hs rs
                unfolding can_build
                built_at =
                    subst (λ zs. (k : ℕ) → (can_k : CanBuild m types c fs steps zs k)
                    → IsBuilt m types c fs steps zs can_k.sorts can_k.heights e hs rs) same builds rest_gates can_build

                pub evaluated_after : Lawful m → (fails ok : Literal)
                    → ((l : Literal) → slice_get rs asked ≡ Some (symbol.Bit l) → fails ≡ l) → ok ≡ m.ok e
                    → IsEvaluated m types d gs params depth steps asked can.sorts e hs
                    (record { arguments = args; fails = fails; circuit_ok = ok })
                evaluated_after law fails ok reads is_ok =
                    let found = asked_at e hs later_at rs built_at in
                    subst (λ o. IsEvaluated m types d gs params depth steps asked can.sorts e hs
                    (record { arguments = args; fails = fails; circuit_ok = o })) (sym is_ok)
                    (subst (λ l. IsEvaluated m types d gs params depth steps asked can.sorts e hs
                    (record { arguments = args; fails = l; circuit_ok = m.ok e })) (sym (reads found.literal found.at))
                    (evaluated e hs later_at rs built_at law))
