-- How far the loop over the steps has come.
use Rattle.std.proofs.Common.{true, false, ◌≡◌, ℕ, suc, ◌+◌, ◌-◌, ◌<◌, ◌≤◌, Bool, List, [], ◌∷◌, ◌++◌, length, drop}
use Rattle.std.proofs.Common.{get_or, take}
use Rattle.std.proofs.Common.{Some, slice_get, refl, sym, ap, ◌∙◌, subst, arith, length-append, inl, inr, ◌⊎◌}
use Rattle.std.proofs.lemmas.List.{take_all, take-append-le}
use Rattle.std.proofs.lemmas.Bool.{cases_lt}
use Rattle.std.proofs.lemmas.Option.{same_Some, slice_get_within}
use Rattle.pp_prog.specs.declared.types.TypeTable.{TypeTable}
use Rattle.pp_gate.specs.declared.gate.Gate.{Gate}
use Rattle.pp_gate.proofs.Agreement.{agree_along}
use Rattle.pp_gate.proofs.Growing.{length-Grows}
use Rattle.pp_gate.proofs.Places.{at_read}
use Rattle.pp_domain.specs.declared.symbol.Symbol.{Symbol}
use Rattle.pp_domain.specs.Laws.{Lawful}
use Rattle.pp_domain.specs.Moves.{Moves}
use Rattle.pp_domain.specs.Naming.{Naming}
use Rattle.pp_domain.specs.Sense.{Extended, Good, Sense}
use Rattle.pp_domain.specs.Symbols.{SymbolStands}
use Rattle.pp_domain.proofs.Symbols.{SymbolStands_later}
use Rattle.pp_gate.proofs.Places.{at_push}
use Rattle.pp_build.proofs.Told.{all_compared}
use Rattle.pp_domain.proofs.Composition.{Extended_more, Extended_none, Moves_more, Moves_none, Moves_weaker, agree_self}
use Rattle.pp_steps.specs.declared.step.Step.{Step}
use Rattle.pp_steps.specs.Gates.{Heights}
use Rattle.pp_prog.specs.declared.id.DataId.{DataId}
use Rattle.pp_build.specs.StepGates.{all_step_gates, compared, looked, looked_trees, step_gates}
use Rattle.pp_build.proofs.StepGates.{left_gates, step_gates_at}
use Rattle.pp_steps.specs.Known.{Tells}
use Rattle.pp_steps.specs.Meaning.{Does, Missing, Values}
use Rattle.pp_steps.specs.Sorted.{Sorts}
use Rattle.pp_build.specs.Built.{CanBuild, IsBuilt}
use Rattle.pp_build.specs.Followed.{AllStand, CanFollow, CanFollowAll, Compares, GoesAll}
use Rattle.pp_build.specs.Performed.{CanPerform, IsPerformed, Leaves, Performs}
use Rattle.pp_build.specs.Registers.{AreExpanded, AreRegisters, IsKnown}
use Rattle.pp_build.proofs.Expanded.{both_expanded, expanded_later, none_expanded}
use Rattle.pp_build.specs.Words.{AreWords, KeepsDomain}
use Rattle.pp_build.proofs.Kept.{AreRegisters_later, AreRegisters_push, IsKnown_earlier, IsKnown_later}
use Rattle.pp_build.proofs.StepLists.{all_tell, at_dropped, dropped_at, high_at, reads_at, sorted_at}
use Rattle.pp_build.proofs.StepLists.{tells_map}

pub pushed_length : {X : Type 0} (rs ts : List X) (r : X) (i : ℕ) → length rs ≡ i → ts ≡ rs ++ r ∷ []
    → length ts ≡ i + 1
pushed_length rs ts r i many push =
    let e = ap length push in let l = length-append rs (r ∷ []) in omega arith

module _ {D T : Type 0} (m : Sense D T) (types : TypeTable) (d : D) (gs : List Gate) (steps : List Step)
    (qs : List (Symbol T)) where
  -- so many steps have registers, which tell what they do of all steps in the end
  pub record BuiltTo (σ : Sorts) (η : Heights) (most : ℕ) (e : D) (hs : List Gate) (rs : List (Symbol T)) : Type 0
    where
      pub spent : ℕ
      pub moves : Moves m types d gs e hs spent
      pub seen : List ℕ
      pub expanded : AreExpanded m e rs seen
      pub few : spent + all_step_gates m types σ η (m.looks e) (m.compares e) seen (length rs) (drop (length rs) steps)
          ≤ most
      pub words : AreWords σ (length steps) → e ≡ d
      pub longer : length qs ≤ length rs
      pub front : take (length qs) rs ≡ qs
      pub registers : AreRegisters m e hs σ η rs
      pub extends : m.exact ≡ true → (n : Naming) (a : ℕ → Bool) → Good m types d gs n a → Extended m types gs n a e hs
      pub follows : m.exact ≡ false → (n : Naming) (a : ℕ → Bool) (ρ : Values) (missing : Missing)
          → CanFollowAll m types d gs qs steps σ n a ρ missing → GoesAll m types gs n a e hs ρ rs
      pub known : (n : Naming) (a : ℕ → Bool) (ρ : Values) (missing : Missing) (k : ℕ) (s : Step)
          → Good m types e hs n a → length qs ≤ k → k < length rs → slice_get steps k ≡ Some s
          → Compares m types σ s → Does types.ctors missing ρ s (ρ k) → Tells ρ (IsKnown m types e a n σ ρ rs) s k

  -- for each way in which the steps can be built
  abbrev pub Building : D → List Gate → List (Symbol T) → Type 0
  Building e hs rs = (most : ℕ) (can : CanBuild m types d gs steps qs most)
      → BuiltTo can.sorts can.heights most e hs rs

  pub building_start : Lawful m → m.Fits types d gs → Building d gs qs
  building_start law fits most can = record {
    spent = 0;
    moves = Moves_none m types law d gs fits;
    seen = [];
    expanded = none_expanded m d qs;
    few = let f = can.few in omega arith;
    words = λ are. refl;
    longer = omega arith;
    front = take_all (length qs) qs (omega arith);
    registers = can.registers;
    extends = λ exact n a good. Extended_none m types d gs n a good;
    follows = λ inexact n a ρ missing all. (
      record { next = a; agree = agree_self (length gs) a; good = all.good },
      all.stand,
    );
    known = λ n a ρ missing k s good past lt at compares does. absurd (omega arith);
  }

  -- step number i, which the loop reads
  module _ (e : D) (hs : List Gate) (rs : List (Symbol T)) (i : ℕ) (s : Step) (many : length rs ≡ i)
      (lt : i < length steps) (is_at : s ≡ get_or steps i s) where
    at : slice_get steps (length rs) ≡ Some s
    at = ap (slice_get steps) many ∙ at_read steps i s lt is_at

    -- the next step can be performed
    pub can_perform : (most : ℕ) (can : CanBuild m types d gs steps qs most)
        → BuiltTo can.sorts can.heights most e hs rs → CanPerform m types e hs rs s
    can_perform most can built = record {
      sorts = can.sorts;
      heights = can.heights;
      registers = built.registers;
      reads = reads_at 0 steps (length rs) (length rs) s can.reads at (omega arith);
      sorted = sorted_at types can.sorts 0 steps (length rs) (length rs) s can.sorted at (omega arith);
      seen = built.seen;
      expanded = built.expanded;
      room =
          let grown = (length-Grows gs hs built.spent built.moves.grows).1 in
          let few = built.few in
          let here = step_gates_at m types can.sorts can.heights (m.looks e) (m.compares e) built.seen steps
          (length rs) s at in
          let room = can.room in
          omega arith;
    }

    -- what it leaves
    pub building_left : (f : D) (is : List Gate) → Building e hs rs → Leaves m types e hs rs s f is → (most : ℕ)
        → CanBuild m types d gs steps qs most → Moves m types d gs f is most
    unfolding can_perform
    building_left f is building leaves most can =
        let built = building most can in
        let here = step_gates_at m types can.sorts can.heights (m.looks e) (m.compares e) built.seen steps
        (length rs) s at in
        let few = built.few in
        Moves_more m types d e f gs hs is built.spent
        (step_gates m types can.sorts can.heights (m.looks e) (m.compares e) built.seen (length rs) s) most built.moves
        (leaves (can_perform most can built)) (omega arith)

    -- on words it leaves the domain that there was before all steps
    pub building_kept : (f : D) → Building e hs rs → KeepsDomain m types e hs rs s f → (most : ℕ)
        → (can : CanBuild m types d gs steps qs most) → AreWords can.sorts (length steps) → f ≡ d
    unfolding can_perform
    building_kept f building keeps most can are =
        let built = building most can in
        keeps (can_perform most can built) (λ k below. are k (omega (arith, many, lt))) ∙ built.words are

    -- with its register
    pub building_turn : (f : D) (is : List Gate) (r : Symbol T) (ts : List (Symbol T)) → Building e hs rs
        → Leaves m types e hs rs s f is → KeepsDomain m types e hs rs s f → Performs m types e hs rs s f is r
        → ts ≡ rs ++ r ∷ [] → Building f is ts
    unfolding can_perform
    building_turn f is r ts building leaves keeps performs push most can =
        subst (BuiltTo can.sorts can.heights most f is) (sym push) (record {
          spent = built.spent + here;
          moves = Moves_more m types d e f gs hs is built.spent here (built.spent + here) built.moves moves
              (omega arith);
          seen = seen_after;
          expanded = both_expanded m f (rs ++ r ∷ []) (looked_trees (length rs) s) built.seen done.expanded
              (expanded_later m types e f hs is here can.sorts can.heights rs r built.seen moves built.registers
              built.expanded);
          few = (let few = built.few in let all = gates_here in omega (arith, gates_next, gates_left));
          words = λ are. building_kept f building keeps most can are;
          longer = (let l = built.longer in omega (arith, next));
          front = take-append-le (length qs) rs (r ∷ []) built.longer ∙ built.front;
          registers = AreRegisters_push m types f is can.sorts can.heights rs r
              (AreRegisters_later m types e f hs is here can.sorts can.heights rs moves built.registers) done.of
              (done.high ∙ sym (high_at types can.sorts can.heights (length qs) (drop (length qs) steps) place
              (length rs) s can.high (dropped_at steps (length qs) place (length rs) s at placed) placed));
          extends = λ exact n a good.
              let x = built.extends exact n a good in
              Extended_more m types e f gs hs is built.spent n a built.moves.grows x
              (done.extends exact n x.next x.good);
          follows = λ inexact n a ρ missing all.
              let x = built.follows inexact n a ρ missing all in
              let y = done.follows inexact n x.0.next ρ missing (follow_at n a ρ missing all x.0 x.1) in (
                record {
                  next = y.0.next;
                  agree = agree_along (length gs) (length hs) a x.0.next y.0.next
                      (length-Grows gs hs built.spent built.moves.grows).0 x.0.agree y.0.agree;
                  good = y.0.good;
                },
                λ k z there. stands_at n x.0.next ρ y.0 x.1 y.1 k z (at_push rs r k z there),
              );
          known = λ n a ρ missing k q good past lt there compares does.
              known_at n a ρ missing k q good past there compares does (cases_lt k (length rs)) lt;
        })
      where
        built : BuiltTo can.sorts can.heights most e hs rs
        built = building most can

        step : CanPerform m types e hs rs s
        step = can_perform most can built

        here : ℕ
        here = step_gates m types can.sorts can.heights (m.looks e) (m.compares e) built.seen (length rs) s

        moves : Moves m types e hs f is here
        moves = leaves step

        done : IsPerformed m types e hs rs s can.sorts can.heights built.seen f is r
        done = performs step

        next : length (rs ++ r ∷ []) ≡ suc (length rs)
        next = let e = length-append rs (r ∷ []) in omega arith

        after : List DataId
        after = looked can.sorts built.seen (length rs) s ++ m.looks e

        seen_after : List ℕ
        seen_after = looked_trees (length rs) s ++ built.seen

        compares_after : ℕ
        compares_after = compared can.sorts s + m.compares e

        gates_here : all_step_gates m types can.sorts can.heights (m.looks e) (m.compares e) built.seen (length rs)
            (drop (length rs) steps)
            ≡ here + all_step_gates m types can.sorts can.heights after compares_after seen_after (suc (length rs))
            (drop (suc (length rs)) steps)
        gates_here =
            step_gates_at m types can.sorts can.heights (m.looks e) (m.compares e) built.seen steps (length rs) s at

        -- after the step no more is left than was counted
        gates_left : all_step_gates m types can.sorts can.heights (m.looks f) (m.compares f) seen_after
            (suc (length rs)) (drop (suc (length rs)) steps)
            ≤ all_step_gates m types can.sorts can.heights after compares_after seen_after (suc (length rs))
            (drop (suc (length rs)) steps)
        gates_left = left_gates m types can.sorts can.heights e f built.seen (length rs) s seen_after (suc (length rs))
            (drop (suc (length rs)) steps) done.looks

        gates_next : all_step_gates m types can.sorts can.heights (m.looks f) (m.compares f) seen_after
            (length (rs ++ r ∷ [])) (drop (length (rs ++ r ∷ [])) steps)
            ≡ all_step_gates m types can.sorts can.heights (m.looks f) (m.compares f) seen_after (suc (length rs))
            (drop (suc (length rs)) steps)
        gates_next =
            ap (λ n. all_step_gates m types can.sorts can.heights (m.looks f) (m.compares f) seen_after n
            (drop n steps)) next

        place : ℕ
        place = length rs - length qs

        placed : length rs ≡ length qs + place
        placed = let l = built.longer in omega arith

        within : length rs < length steps
        within = omega (arith, many, lt)

        -- what is supposed of this step
        follow_at : (n : Naming) (a : ℕ → Bool) (ρ : Values) (missing : Missing)
            → CanFollowAll m types d gs qs steps can.sorts n a ρ missing → (x : Extended m types gs n a e hs)
            → AllStand m types e x.next n ρ rs → CanFollow m types e hs rs s can.sorts n x.next ρ missing
        follow_at n a ρ missing all x stand = record {
          good = x.good;
          stand = stand;
          are = record {
            sorted = λ k below. all.are.sorted k (omega (arith, within));
            named = λ k below. all.are.named k (omega (arith, within));
          };
          looked = all.looked (length rs) s built.longer at;
          does = all.does (length rs) s built.longer at;
        }

        stands_at : (n : Naming) (a : ℕ → Bool) (ρ : Values) (y : Extended m types hs n a f is)
            → AllStand m types e a n ρ rs → SymbolStands m f y.next n r (ρ (length rs)) → (k : ℕ) (z : Symbol T)
            → (slice_get rs k ≡ Some z) ⊎ ((k ≡ length rs) × (r ≡ z)) → SymbolStands m f y.next n z (ρ k)
        stands_at n a ρ y stand own k z (inl there) =
            SymbolStands_later m types e f hs is here n a y.next (can.sorts k) z (ρ k) moves
            (built.registers.of k z there) y.agree (stand k z there)
        stands_at n a ρ y stand own k z (inr last) =
            subst (λ u. SymbolStands m f y.next n u (ρ k)) last.1
            (subst (λ j. SymbolStands m f y.next n r (ρ j)) (sym last.0) own)

        known_at : (n : Naming) (a : ℕ → Bool) (ρ : Values) (missing : Missing) (k : ℕ) (q : Step)
            → Good m types f is n a → length qs ≤ k → slice_get steps k ≡ Some q → Compares m types can.sorts q
            → Does types.ctors missing ρ q (ρ k)
            → (k < length rs) ⊎ (length rs ≤ k) → k < length (rs ++ r ∷ [])
            → Tells ρ (IsKnown m types f a n can.sorts ρ (rs ++ r ∷ [])) q k
        known_at n a ρ missing k q good past there compares does (inl before) lt =
            tells_map ρ (IsKnown m types e a n can.sorts ρ rs) (IsKnown m types f a n can.sorts ρ (rs ++ r ∷ [])) k q
            (reads_at 0 steps k k q can.reads there (omega arith))
            (λ i below known. IsKnown_earlier m types e f hs is here a n can.sorts can.heights ρ rs r i moves
            built.registers (omega arith) known)
            (λ known. IsKnown_later m types e f hs is here a n can.sorts can.heights ρ rs r k moves built.registers
            known)
            (built.known n a ρ missing k q (moves.back n a good) past before there compares does)
        known_at n a ρ missing k q good past there compares does (inr beyond) lt =
            let same : length rs ≡ k = omega (arith, next) in
            let step_is : s ≡ q = same_Some s q (sym at ∙ ap (slice_get steps) same ∙ there) in
            subst (λ j. Tells ρ (IsKnown m types f a n can.sorts ρ (rs ++ r ∷ [])) q j) same
            (subst (λ x. Tells ρ (IsKnown m types f a n can.sorts ρ (rs ++ r ∷ [])) x (length rs)) step_is
            (done.known n a ρ missing good (subst (Compares m types can.sorts) (sym step_is) compares)
            (subst (λ x. Does types.ctors missing ρ x (ρ (length rs))) (sym step_is)
            (subst (λ j. Does types.ctors missing ρ q (ρ j)) (sym same) does))))

  -- all steps
  pub building_moves : (e : D) (hs : List Gate) (rs : List (Symbol T)) → Building e hs rs → (most : ℕ)
      → CanBuild m types d gs steps qs most → Moves m types d gs e hs most
  building_moves e hs rs building most can =
      let built = building most can in
      let few = built.few in
      Moves_weaker m types d e gs hs built.spent most built.moves (omega arith)

  pub building_words : (e : D) (hs : List Gate) (rs : List (Symbol T)) → Building e hs rs → (most : ℕ)
      → (can : CanBuild m types d gs steps qs most) → AreWords can.sorts (length steps) → e ≡ d
  building_words e hs rs building most can = (building most can).words

  pub building_end : (e : D) (hs : List Gate) (rs : List (Symbol T)) → length rs ≡ length steps → Building e hs rs
      → (most : ℕ) (can : CanBuild m types d gs steps qs most)
      → IsBuilt m types d gs steps qs can.sorts can.heights e hs rs
  building_end e hs rs many building most can =
      let built = building most can in
      record {
        many = many;
        front = built.front;
        registers = built.registers;
        extends = built.extends;
        follows = built.follows;
        known = λ n a ρ missing k s good past there compares does.
            built.known n a ρ missing k s good past
            (let within = slice_get_within steps k s there in omega arith) there compares does;
        all_known = λ exact n a ρ missing good obeys.
            all_tell types.ctors missing ρ (IsKnown m types e a n can.sorts ρ rs) (length qs) (drop (length qs) steps)
            (λ i k s at is does.
            let there : slice_get steps k ≡ Some s = ap (slice_get steps) is ∙ at_dropped steps (length qs) i s at in
            built.known n a ρ missing k s good (omega arith)
            (let within = slice_get_within steps k s there in omega arith) there
            (all_compared m types can.sorts s exact) does)
            obeys;
      }
