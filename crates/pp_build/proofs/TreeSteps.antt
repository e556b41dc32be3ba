-- Performed steps on trees.
use Rattle.std.proofs.Common.{◌≡◌, ℕ, ◌+◌, ◌-◌, ◌<◌, Bool, true, false, if◌then◌else◌, List, [], ◌∷◌, ◌++◌, length}
use Rattle.std.proofs.Common.{map, All, Some}
use Rattle.std.proofs.Common.{slice_get, refl, sym, ap, ◌∙◌, subst, arith}
use Rattle.std.proofs.lemmas.Bool.{false≢true}
use Rattle.std.specs.Prelude.{IsTrue}
use Rattle.std.proofs.lemmas.Bool.{and_from}
use Rattle.std.proofs.lemmas.List.Elements.{All-head, All-tail}
use Rattle.std.proofs.lemmas.Option.{same_Some}
use Rattle.pp_prog.specs.declared.id.CtorId.{CtorId}
use Rattle.pp_prog.specs.declared.id.DataId.{DataId}
use Rattle.pp_prog.specs.declared.sort.Sort.{Sort}
use Rattle.pp_prog.specs.declared.sort.Sort.TheVariants as sort
use Rattle.pp_prog.specs.declared.types.Ctor.{Ctor}
use Rattle.pp_prog.specs.declared.types.Datatype.{Datatype}
use Rattle.pp_prog.specs.declared.types.TypeTable.{TypeTable}
use Rattle.pp_prog.specs.declared.value.Value.{Value}
use Rattle.pp_prog.specs.declared.value.Value.TheVariants.{Tree}
use Rattle.pp_prog.specs.ExprSorts.{field_sort}
use Rattle.pp_prog.specs.Sizes.{height_at}
use Rattle.pp_prog.specs.Sorts.{has_sort, have_sorts}
use Rattle.pp_prog.specs.Values.{greatest}
use Rattle.pp_clause.specs.Literal.{Literal, lit_value}
use Rattle.pp_gate.specs.declared.gate.Gate.{Gate}
use Rattle.pp_domain.specs.declared.symbol.Symbol.{Symbol}
use Rattle.pp_domain.specs.declared.symbol.Symbol.TheVariants as symbol
use Rattle.pp_domain.specs.Answers.{CanConstruct, HasField, IsConstruct, IsCtorOf, IsCtorTest, IsFieldRead}
use Rattle.pp_domain.specs.Naming.{IsFieldOf, Names, NamesFields, Naming, own}
use Rattle.pp_domain.specs.Moves.{Moves}
use Rattle.pp_domain.proofs.Composition.{Stands_later, exactly}
use Rattle.pp_domain.specs.Sense.{Sense, Good}
use Rattle.pp_domain.specs.Symbols.{AreSymbols, IsSymbol, SymbolsStand, symbol_height}
use Rattle.pp_steps.specs.declared.step.Step.TheVariants as steps
use Rattle.pp_steps.specs.Gates.{Heights}
use Rattle.pp_steps.specs.Meaning.{Values, has_ctor}
use Rattle.pp_steps.specs.Sorted.{Sorts}
use Rattle.pp_prog.proofs.ValueSorts.{have_at, tree_has_sort}
use Rattle.pp_build.specs.Followed.{AllStand, Goes}
use Rattle.pp_build.specs.Performed.{CanPerform, Performs}
use Rattle.pp_build.specs.Registers.{AreAt, AreRegisters, IsKnown}
use Rattle.pp_prog.proofs.Fields.{OnlyCtor, datatype_within, fields_sorted, only_ctor}
use Rattle.pp_build.proofs.Fields.{ctor_field_is, field_is, field_is_of, has_ctor_is}
use Rattle.pp_build.proofs.Told.{performed}
use Rattle.pp_build.proofs.StepGates.{keeps_look, keeps_look_at}
use Rattle.pp_build.proofs.Expanded.{one_expanded, own_expanded}
use Rattle.pp_build.proofs.Gates.{construct_gates_are, look_gates_are}
use Rattle.pp_build.proofs.Performing.{IsCount, IsLookCount}
use Rattle.pp_build.specs.StepGates.{is_seen, tree_of as tree_of_sort}
use Rattle.pp_domain.specs.Allowance.{construct_gates, look_at_gates}
use Rattle.pp_build.proofs.Operands.{operand_stands, step_known, tree_of, truth_known}

same_bool : (x y : Bool) → (x ≡ true → y ≡ true) → (y ≡ true → x ≡ true) → x ≡ y
same_bool true y f g = sym (f refl)
same_bool false true f g = g refl
same_bool false false f g = refl

module _ {D T : Type 0} (m : Sense D T) (types : TypeTable) (d : D) (gs : List Gate) (rs : List (Symbol T)) where
  -- ---- constructors

  -- the sort of a tree's register
  pub tree_sort : (σ : Sorts) (η : Heights) → AreRegisters m d gs σ η rs → (i : ℕ) (t : T)
      → slice_get rs i ≡ Some (symbol.Tree t) → (of : DataId) → σ i ≡ sort.Tree of
      → σ i ≡ sort.Tree (m.data_of d t)
  tree_sort σ η are i t at of is = is ∙ ap sort.Tree (sym (tree_of m d gs σ η rs i of t are at is).1)

  pub test_performed : (e : D) (hs : List Gate) (g : ℕ) → Moves m types d gs e hs g
      → (c : CtorId) (n i : ℕ) (t : T) (l : Literal)
      → slice_get rs i ≡ Some (symbol.Tree t) → IsCtorTest m types d gs e hs t c l
      → Performs m types d gs rs (steps.IsCtor c n i) e hs (symbol.Bit l)
  test_performed e hs g moves c n i t l at test can =
      performed m types d e gs hs g moves rs (steps.IsCtor c n i) can (symbol.Bit l) tt
      (keeps_look_at m types d e gs hs t (m.data_of d t) can.sorts can.seen (length rs) i (steps.IsCtor c n i)
      test.looks (λ found. can.expanded.expanded i found t at)
      (ap (λ s. if is_seen can.seen i then [] else tree_of_sort s)
      (tree_sort can.sorts can.heights can.registers i t at can.sorted.0.ctor.of can.sorted.0.operand)))
      (one_expanded m e rs (symbol.Bit l) i t at test.looks.expanded)
      (subst (λ s. IsSymbol m e hs s (symbol.Bit l)) (sym can.sorted.1) test.of) refl
      (λ exact k a good. test.extends k a good (exactly m _ exact))
      (λ inexact k a ρ missing follow. test.extends k a follow.good (λ _. (
        ρ i,
        follow.stand i (symbol.Tree t) at,
        follow.looked,
      )))
      (λ k a ρ missing good is known.
      let s = operand_stands m types e a k can.sorts ρ rs (symbol.Bit l) i (symbol.Tree t) at known in
      let of = can.sorted.0 in
      let both = has_ctor_is types.ctors c of.ctor n (ρ i) of.stands of.fields
      (subst (λ r. has_sort types.ctors (ρ i) r ≡ true) of.operand s.sorted) in
      let means = test.means k a (ρ i) good s.stands in
      truth_known m types e a k can.sorts ρ rs l (has_ctor c n (ρ i)) can.sorted.1 is
      (same_bool (lit_value a l) (has_ctor c n (ρ i)) (λ h. both.has (means.0 h).0 (means.0 h).1)
      (λ h. means.1 (both.only h))))

  -- the symbols of fields
  fields_at : (σ : Sorts) (η : Heights) (ks : List ℕ) (xs : List (Symbol T)) → AreRegisters m d gs σ η rs
      → AreAt rs ks xs → AreSymbols m d gs (map σ ks) xs
  fields_at σ η [] [] are at = tt
  fields_at σ η [] (x ∷ xs) are at = absurd at
  fields_at σ η (k ∷ ks) [] are at = absurd at
  fields_at σ η (k ∷ ks) (x ∷ xs) are at = (are.of k x at.0, fields_at σ η ks xs are at.1)

  heights_at : (σ : Sorts) (η : Heights) (ks : List ℕ) (xs : List (Symbol T)) → AreRegisters m d gs σ η rs
      → AreAt rs ks xs → map (symbol_height m d) xs ≡ map η ks
  heights_at σ η [] [] are at = refl
  heights_at σ η [] (x ∷ xs) are at = absurd at
  heights_at σ η (k ∷ ks) [] are at = absurd at
  heights_at σ η (k ∷ ks) (x ∷ xs) are at =
      ap (λ (h : ℕ). h ∷ map (symbol_height m d) xs) (are.high k x at.0)
      ∙ ap (λ (hs : List ℕ). η k ∷ hs) (heights_at σ η ks xs are at.1)

  pub can_construct : (c : CtorId) (ks : List ℕ) (xs : List (Symbol T)) → AreAt rs ks xs
      → CanPerform m types d gs rs (steps.Construct c ks) → CanConstruct m types d gs c xs
  can_construct c ks xs at can = (
    can.sorted.ctor,
    can.sorted.stands,
    subst (λ ss. AreSymbols m d gs ss xs) can.sorted.fields
        (fields_at can.sorts can.heights ks xs can.registers at),
  )

  module _ (e : D) (a : ℕ → Bool) (n : Naming) (σ : Sorts) (ρ : Values) (r : Symbol T) where
    fields_stand : (ks : List ℕ) (xs : List (Symbol T)) → AreAt rs ks xs
        → All (IsKnown m types e a n σ ρ (rs ++ r ∷ [])) ks → SymbolsStand m e a n xs (map ρ ks)
    fields_stand [] [] at known = tt
    fields_stand [] (x ∷ xs) at known = absurd at
    fields_stand (k ∷ ks) [] at known = absurd at
    fields_stand (k ∷ ks) (x ∷ xs) at known = (
      (operand_stands m types e a n σ ρ rs r k x at.0
          (All-head (IsKnown m types e a n σ ρ (rs ++ r ∷ [])) k ks known)).stands,
      fields_stand ks xs at.1 (All-tail (IsKnown m types e a n σ ρ (rs ++ r ∷ [])) k ks known),
    )

    fields_have_sorts : (ks : List ℕ) → All (IsKnown m types e a n σ ρ (rs ++ r ∷ [])) ks
        → have_sorts types.ctors (map ρ ks) (map σ ks) ≡ true
    fields_have_sorts [] known = refl
    fields_have_sorts (k ∷ ks) known =
        let first = All-head (IsKnown m types e a n σ ρ (rs ++ r ∷ [])) k ks known in
        and_from (has_sort types.ctors (ρ k) (σ k)) (have_sorts types.ctors (map ρ ks) (map σ ks)) first.sorted
        (fields_have_sorts ks (All-tail (IsKnown m types e a n σ ρ (rs ++ r ∷ [])) k ks known))

  -- the symbols of fields stand for their values
  all_stand : (a : ℕ → Bool) (n : Naming) (ρ : Values) → AllStand m types d a n ρ rs → (ks : List ℕ)
      (xs : List (Symbol T)) → AreAt rs ks xs → SymbolsStand m d a n xs (map ρ ks)
  all_stand a n ρ stand [] [] at = tt
  all_stand a n ρ stand [] (x ∷ xs) at = absurd at
  all_stand a n ρ stand (k ∷ ks) [] at = absurd at
  all_stand a n ρ stand (k ∷ ks) (x ∷ xs) at = (stand k x at.0, all_stand a n ρ stand ks xs at.1)

  pub construct_performed : (e : D) (hs : List Gate) (g : ℕ) → Moves m types d gs e hs g → (c : CtorId) (ks : List ℕ)
      (xs : List (Symbol T)) (t : T) → AreAt rs ks xs → IsConstruct m types d gs e hs c xs t
      → Performs m types d gs rs (steps.Construct c ks) e hs (symbol.Tree t)
  construct_performed e hs g moves c ks xs t at made can =
      let of : m.data_of e t ≡ can.sorted.ctor.of = sym made.data_of.2
      ∙ ap (λ (k : Ctor). k.of) (same_Some made.data_of.0 can.sorted.ctor (sym made.data_of.1 ∙ can.sorted.stands)) in
      performed m types d e gs hs g moves rs (steps.Construct c ks) can (symbol.Tree t) tt
      (keeps_look m types d e gs hs t (m.data_of e t) can.sorts can.seen (length rs) (steps.Construct c ks) made.looks
      (ap tree_of_sort (can.sorted.result ∙ ap sort.Tree (sym of))))
      (own_expanded m e rs t made.looks.expanded)
      (subst (λ s. IsSymbol m e hs s (symbol.Tree t)) (sym can.sorted.result) (made.node, of))
      (made.height ∙ ap (λ hs. 1 + greatest hs) (heights_at can.sorts can.heights ks xs can.registers at))
      (λ exact k a good. made.extends k a good (exactly m _ exact))
      (λ inexact k a ρ missing follow. made.extends k a follow.good (λ _. (
        map ρ ks,
        all_stand a k ρ follow.stand ks xs at,
        subst (Names types k) follow.does (follow.are.named (length rs) (omega arith)),
      )))
      (λ k a ρ missing good is known.
      step_known m types e a k can.sorts ρ rs (symbol.Tree t) (Tree c (map ρ ks)) is (record {
        stands = made.means k a (map ρ ks) good (fields_stand e a k can.sorts ρ (symbol.Tree t) ks xs at known);
        sorted = ap (has_sort types.ctors (Tree c (map ρ ks))) can.sorted.result
            ∙ tree_has_sort types.ctors c can.sorted.ctor (map ρ ks) can.sorted.stands
            (subst (λ ss. have_sorts types.ctors (map ρ ks) ss ≡ true) can.sorted.fields
            (fields_have_sorts e a k can.sorts ρ (symbol.Tree t) ks known));
      }))

  -- ---- fields

  -- a step that reads a field of a constructor, where the operand is a tree of its datatype
  module _ (σ : Sorts) (η : Heights) (are : AreRegisters m d gs σ η rs) (i : ℕ) (t : T)
      (at : slice_get rs i ≡ Some (symbol.Tree t)) (e : D) (hs : List Gate) (c : CtorId) (k : Ctor) (place : ℕ)
      (entry : slice_get types.ctors c.0 ≡ Some k) (operand : σ i ≡ sort.Tree k.of)
      (field : slice_get k.fields place ≡ Some (σ (length rs))) (r : Symbol T)
      (read : IsFieldRead m types d gs e hs t c place (σ (length rs)) r) where
    node : m.Node d t
    node = (tree_of m d gs σ η rs i k.of t are at operand).0

    field_height : symbol_height m e r ≡ height_at (η i - 1) (σ (length rs))
    field_height = read.height ∙ ap (λ h. height_at (h - 1) (σ (length rs))) (are.high i (symbol.Tree t) at)

    -- its value is known, where it is that of the field
    field_known : (n : Naming) (a : ℕ → Bool) (ρ : Values) → Good m types e hs n a
        → IsKnown m types e a n σ ρ (rs ++ r ∷ []) i → (fields : List Value) → ρ i ≡ Tree c fields
        → ((u : Value) → slice_get fields place ≡ Some u → ρ (length rs) ≡ u)
        → IsKnown m types e a n σ ρ (rs ++ r ∷ []) (length rs)
    field_known n a ρ good known fields is value =
        let o = operand_stands m types e a n σ ρ rs r i (symbol.Tree t) at known in
        let sorted = subst (λ s. IsTrue (has_sort types.ctors (ρ i) s)) operand o.sorted in
        let f = have_at types.ctors k.fields fields place (σ (length rs))
        (fields_sorted types.ctors c k k.of (ρ i) fields entry sorted is) field in
        step_known m types e a n σ ρ rs r f.0 (value f.0 f.1) (record {
          stands = read.means n a (ρ i) f.0 good o.stands (own fields is f.1) (λ _. (fields, is));
          sorted = f.2;
        })

    -- it follows, whichever constructor the operand has
    field_follows : (g : ℕ) → Moves m types d gs e hs g → m.exact ≡ false → (n : Naming) (a : ℕ → Bool) (ρ : Values)
        → Good m types d gs n a → m.Stands d a n t (ρ i) → NamesFields types n (ρ i)
        → IsFieldOf n c place (σ (length rs)) (ρ i) (ρ (length rs)) → Goes m types gs n a e hs r (ρ (length rs))
    field_follows g moves inexact n a ρ good stands named is =
        let x = read.extends n a good (λ _. (ρ i, ρ (length rs), stands, named, is)) in (
          x,
          read.means n x.next (ρ i) (ρ (length rs)) x.good
              (Stands_later m types d e gs hs g n a x t (ρ i) moves node stands)
              is (λ exact. absurd (false≢true (sym inexact ∙ exact))),
        )

  pub has_field : (c : CtorId) (place i : ℕ) → CanPerform m types d gs rs (steps.CtorField c place i)
      → (s : Sort) × HasField types c place s
  has_field c place i can = (can.sorts (length rs), (can.sorted.ctor, can.sorted.stands, can.sorted.field))

  pub ctor_field_performed : (e : D) (hs : List Gate) (g : ℕ) → Moves m types d gs e hs g
      → (c : CtorId) (place i : ℕ) (t : T) (r : Symbol T) → slice_get rs i ≡ Some (symbol.Tree t)
      → ((s : Sort) → HasField types c place s → IsFieldRead m types d gs e hs t c place s r)
      → Performs m types d gs rs (steps.CtorField c place i) e hs r
  ctor_field_performed e hs g moves c place i t r at given can =
      let k = can.sorted.ctor in
      let read = given (can.sorts (length rs)) (k, can.sorted.stands, can.sorted.field) in
      record {
        of = read.of;
        high = field_height can.sorts can.heights can.registers i t at e hs c k place can.sorted.stands
            can.sorted.operand can.sorted.field r read;
        extends = λ exact n a good. read.extends n a good (exactly m _ exact);
        looks = keeps_look_at m types d e gs hs t (m.data_of d t) can.sorts can.seen (length rs) i
            (steps.CtorField c place i) read.looks (λ found. can.expanded.expanded i found t at)
            (ap (λ s. if is_seen can.seen i then [] else tree_of_sort s)
            (tree_sort can.sorts can.heights can.registers i t at k.of can.sorted.operand));
        expanded = one_expanded m e rs r i t at read.looks.expanded;
        follows = λ inexact n a ρ missing follow.
            let lt : i < length rs = can.reads in
            field_follows can.sorts can.heights can.registers i t at e hs c k place can.sorted.stands
            can.sorted.operand can.sorted.field r read g moves inexact n a ρ follow.good
            (follow.stand i (symbol.Tree t) at) follow.looked.fields
            (field_is_of types.ctors n missing c k place (can.sorts (length rs)) (ρ i) (ρ (length rs))
            can.sorted.stands can.sorted.field
            (subst (λ s. has_sort types.ctors (ρ i) s ≡ true) can.sorted.operand
            (follow.are.sorted i (omega arith))) follow.does follow.looked.default);
        known = λ n a ρ missing good compared is known fields tree.
            field_known can.sorts can.heights can.registers i t at e hs c k place can.sorted.stands can.sorted.operand
            can.sorted.field r read n a ρ good known fields tree
            (λ u there. is ∙ ctor_field_is missing c place (ρ i) u fields tree there);
      }

  -- the one constructor of a datatype
  module _ (i place : ℕ) (t : T) (of : DataId) (is_of : of ≡ m.data_of d t)
      (at : slice_get rs i ≡ Some (symbol.Tree t)) where
    datatype_is : (can : CanPerform m types d gs rs (steps.Field i place)) → of ≡ can.sorted.datatype
    datatype_is can =
        is_of ∙ (tree_of m d gs can.sorts can.heights rs i can.sorted.datatype t can.registers at can.sorted.operand).1

    pub only_datatype : CanPerform m types d gs rs (steps.Field i place) → of.0 < length types.datatypes
    only_datatype can =
        subst (λ (x : DataId). x.0 < length types.datatypes) (sym (datatype_is can))
        (datatype_within types can.sorted.datatype place (can.sorts (length rs)) can.sorted.field)

    module _ (b : Datatype) (there : slice_get types.datatypes of.0 ≡ Some b) where
      only : (can : CanPerform m types d gs rs (steps.Field i place))
          → OnlyCtor types b of place (can.sorts (length rs))
      only can =
          only_ctor types b of place (can.sorts (length rs)) there
          (ap (λ (x : DataId). field_sort types [] x place) (datatype_is can) ∙ can.sorted.field)

      only_tree : (can : CanPerform m types d gs rs (steps.Field i place)) (v : Value)
          → IsTrue (has_sort types.ctors v (can.sorts i)) → (fields : List Value) × (v ≡ Tree b.first fields)
      only_tree can v sorted =
          (only can).only v (ap (has_sort types.ctors v) (ap sort.Tree (datatype_is can) ∙ sym can.sorted.operand)
          ∙ sorted)

      pub only_is : CanPerform m types d gs rs (steps.Field i place) → IsCtorOf types b.first (m.data_of d t)
      only_is can = let c = only can in (c.entry, c.at, c.of ∙ is_of)

      pub only_has : CanPerform m types d gs rs (steps.Field i place) → (s : Sort) × HasField types b.first place s
      only_has can = let c = only can in (can.sorts (length rs), (c.entry, c.at, c.field))

      pub only_field_performed : (e : D) (hs : List Gate) (g : ℕ) → Moves m types d gs e hs g → (r : Symbol T)
          → ((s : Sort) → HasField types b.first place s → IsFieldRead m types d gs e hs t b.first place s r)
          → Performs m types d gs rs (steps.Field i place) e hs r
      only_field_performed e hs g moves r given can =
          let c = only can in
          let operand = can.sorted.operand ∙ ap sort.Tree (sym (c.of ∙ datatype_is can)) in
          let read = given (can.sorts (length rs)) (c.entry, c.at, c.field) in
          record {
            of = read.of;
            high = field_height can.sorts can.heights can.registers i t at e hs b.first c.entry place c.at operand
                c.field r read;
            extends = λ exact n a good. read.extends n a good (exactly m _ exact);
            looks = keeps_look_at m types d e gs hs t (m.data_of d t) can.sorts can.seen (length rs) i
                (steps.Field i place) read.looks (λ found. can.expanded.expanded i found t at)
                (ap (λ s. if is_seen can.seen i then [] else tree_of_sort s)
                (tree_sort can.sorts can.heights can.registers i t at can.sorted.datatype can.sorted.operand));
            expanded = one_expanded m e rs r i t at read.looks.expanded;
            follows = λ inexact n a ρ missing follow.
                let lt : i < length rs = can.reads in
                let sorted = follow.are.sorted i (omega arith) in
                let tree = only_tree can (ρ i) sorted in
                let f = have_at types.ctors c.entry.fields tree.0 place (can.sorts (length rs))
                (fields_sorted types.ctors b.first c.entry c.entry.of (ρ i) tree.0 c.at
                (subst (λ s. has_sort types.ctors (ρ i) s ≡ true) operand sorted) tree.1) c.field in
                field_follows can.sorts can.heights can.registers i t at e hs b.first c.entry place c.at operand
                c.field r read g moves inexact n a ρ follow.good (follow.stand i (symbol.Tree t) at) follow.looked
                (own tree.0 tree.1 (f.1 ∙ ap Some (sym (follow.does ∙ field_is b.first place (ρ i) f.0 tree.0 tree.1
                f.1))));
            known = λ n a ρ missing good compared is known.
                let tree = only_tree can (ρ i) known.sorted in
                field_known can.sorts can.heights can.registers i t at e hs b.first c.entry place c.at operand c.field
                r read n a ρ good known tree.0 tree.1
                (λ u there. is ∙ field_is b.first place (ρ i) u tree.0 tree.1 there);
          }

  -- ---- gates

  pub construct_count : (c : CtorId) (ks : List ℕ)
      → IsCount m types d gs rs (steps.Construct c ks) (construct_gates m types d c)
  construct_count c ks can =
      construct_gates_are m types d c can.sorted.ctor (can.sorts (length rs)) can.sorted.stands can.sorted.result

  pub test_count : (c : CtorId) (n i : ℕ) (t : T) → slice_get rs i ≡ Some (symbol.Tree t)
      → IsLookCount m types d gs rs (steps.IsCtor c n i) i t
  test_count c n i t at can =
      ap (λ (g : ℕ). if is_seen can.seen i then 0 else g) (look_gates_are m types d t (can.sorts i)
      (tree_sort can.sorts can.heights can.registers i t at can.sorted.0.ctor.of can.sorted.0.operand))

  pub ctor_field_count : (c : CtorId) (place i : ℕ) (t : T) → slice_get rs i ≡ Some (symbol.Tree t)
      → IsLookCount m types d gs rs (steps.CtorField c place i) i t
  ctor_field_count c place i t at can =
      ap (λ (g : ℕ). if is_seen can.seen i then 0 else g) (look_gates_are m types d t (can.sorts i)
      (tree_sort can.sorts can.heights can.registers i t at can.sorted.ctor.of can.sorted.operand))

  pub only_field_count : (i place : ℕ) (t : T) → slice_get rs i ≡ Some (symbol.Tree t)
      → IsLookCount m types d gs rs (steps.Field i place) i t
  only_field_count i place t at can =
      ap (λ (g : ℕ). if is_seen can.seen i then 0 else g) (look_gates_are m types d t (can.sorts i)
      (tree_sort can.sorts can.heights can.registers i t at can.sorted.datatype can.sorted.operand))
