-- Symbols that can have any values up to a height: more of them, later, and from earlier.
use Rattle.std.proofs.Common.{◌≡◌, ℕ, ◌≤◌, Bool, List, [], ◌∷◌, ◌++◌, length, map, Some, refl, sym, ap, ◌∙◌, subst}
use Rattle.std.proofs.Common.{arith, slice_get, inl, inr}
use Rattle.std.proofs.lemmas.List.{map_push}
use Rattle.pp_prog.specs.declared.sort.Sort.{Sort}
use Rattle.pp_prog.specs.declared.types.TypeTable.{TypeTable}
use Rattle.pp_prog.specs.declared.value.Value.{Value}
use Rattle.pp_prog.specs.Sizes.{height_at}
use Rattle.pp_gate.specs.declared.gate.Gate.{Gate}
use Rattle.pp_gate.specs.Circuit.{IsCircuit}
use Rattle.pp_gate.specs.Growth.{Grows}
use Rattle.pp_gate.proofs.Agreement.{Gives_old, agree_along}
use Rattle.pp_gate.proofs.Extension.{growth_extends}
use Rattle.pp_gate.proofs.Growing.{length-Grows}
use Rattle.pp_gate.proofs.Places.{at_push}
use Rattle.pp_domain.specs.declared.symbol.Symbol.{Symbol}
use Rattle.pp_domain.specs.Moves.{Moves}
use Rattle.pp_domain.proofs.Symbols.{AreSymbols_later}
use Rattle.pp_domain.proofs.Composition.{agree_self}
use Rattle.pp_bounded_trees.specs.declared.arena.Trees.{Trees}
use Rattle.pp_bounded_trees.specs.declared.arena.BoundedTree.{BoundedTree}
use Rattle.pp_bounded_trees.specs.Arena.{height_of}
use Rattle.pp_bounded_unknown.specs.Full.{AreFull, IsFull}
use Rattle.pp_bounded_trees.specs.Possible.{AreValuesUpTo, IsValueUpTo}
use Rattle.pp_bounded_trees.specs.Meaning.{bounded_sense}
use Rattle.pp_bounded_trees.specs.Values.{all_values, field_values, symbol_value, values_of}
use Rattle.pp_bounded_trees.proofs.Kept.{AreSymbols_push, all_push, field_values_later}

-- values of one more sort
pub record LastValue (types : TypeTable) (h : ℕ) (ss : List Sort) (s : Sort) (us : List Value) : Type 0 where
  pub firsts : List Value
  pub last : Value
  pub whole : us ≡ firsts ++ last ∷ []
  pub firsts_are : AreValuesUpTo types h ss firsts
  pub last_is : IsValueUpTo types h s last

last_value : (types : TypeTable) (h : ℕ) (ss : List Sort) (s : Sort) (us : List Value)
    → AreValuesUpTo types h (ss ++ s ∷ []) us → LastValue types h ss s us
last_value types h [] s [] are = absurd are
last_value types h [] s (u ∷ []) are =
    record { firsts = []; last = u; whole = refl; firsts_are = tt; last_is = are.0 }
last_value types h [] s (u ∷ w ∷ us) are = absurd are.1
last_value types h (r ∷ ss) s [] are = absurd are
last_value types h (r ∷ ss) s (u ∷ us) are =
    let rest = last_value types h ss s us are.1 in record {
      firsts = u ∷ rest.firsts;
      last = rest.last;
      whole = ap (λ ws. u ∷ ws) rest.whole;
      firsts_are = (are.0, rest.firsts_are);
      last_is = rest.last_is;
    }

values_push : (types : TypeTable) (h : ℕ) (ss : List Sort) (s : Sort) (vs : List Value) (v : Value)
    → AreValuesUpTo types h ss vs → IsValueUpTo types h s v → AreValuesUpTo types h (ss ++ s ∷ []) (vs ++ v ∷ [])
values_push types h [] s [] v are is = (is, tt)
values_push types h (r ∷ ss) s (u ∷ vs) v are is = (are.0, values_push types h ss s vs v are.1 is)
values_push types h [] s (u ∷ vs) v are is = absurd are
values_push types h (r ∷ ss) s [] v are is = absurd are

module _ (types : TypeTable) (h : ℕ) where
  -- none
  pub AreFull_none : (d : Trees) (gs : List Gate) (xs : List (Symbol BoundedTree)) → xs ≡ []
      → AreFull types gs d gs h [] xs
  AreFull_none d gs xs empty = subst (λ ys. AreFull types gs d gs h [] ys) (sym empty) (record {
    of = tt;
    heights = λ j x at. absurd (nothing j x at);
    chosen = λ a vs gives are. record {
      next = a;
      gives = gives;
      keeps = agree_self (length gs) a;
      values = no_values vs are;
    };
    bounded = λ a gives. record { values = []; stand = refl; up_to = tt };
  })
    where
      nothing : (j : ℕ) (x : Symbol BoundedTree) → slice_get [] j ≡ Some x → ⊥
      nothing j x e = cc

      no_values : (vs : List Value) → AreValuesUpTo types h [] vs → Some [] ≡ Some vs
      no_values [] are = refl
      no_values (v ∷ vs) are = absurd are

  field_values_push : (e : Trees) (a : ℕ → Bool) (xs : List (Symbol BoundedTree)) (x : Symbol BoundedTree)
      (vs : List Value) (v : Value) → field_values a (values_of a e.nodes) xs ≡ Some vs
      → symbol_value a (values_of a e.nodes) x ≡ Some v
      → field_values a (values_of a e.nodes) (xs ++ x ∷ []) ≡ Some (vs ++ v ∷ [])
  field_values_push e a xs x vs v are is =
      ap all_values (map_push (symbol_value a (values_of a e.nodes)) xs x)
      ∙ all_push (map (symbol_value a (values_of a e.nodes)) xs) (symbol_value a (values_of a e.nodes) x) vs v are is

  module _ (d e : Trees) (gs fs hs : List Gate) (m n : ℕ) (before : Grows gs fs m)
      (moves : Moves bounded_sense types d fs e hs n) where
    -- one more
    pub AreFull_push : (ss : List Sort) (s : Sort) (xs ys : List (Symbol BoundedTree)) (x : Symbol BoundedTree)
        → AreFull types gs d fs h ss xs → IsFull types fs e hs h s x → height_at h s ≤ h → ys ≡ xs ++ x ∷ []
        → AreFull types gs e hs h (ss ++ s ∷ []) ys
    AreFull_push ss s xs ys x all one low push =
        subst (λ zs. AreFull types gs e hs h (ss ++ s ∷ []) zs) (sym push) (record {
          of = AreSymbols_push e hs ss s xs x
              (AreSymbols_later bounded_sense types d e fs hs n ss xs moves all.of) one.of;
          heights = λ j y at. elim (at_push xs x j y at) [
            | inl old ↦ all.heights j y old
            | inr new ↦ (let e : height_of x ≡ height_of y = ap height_of new.1 in let f = one.height in omega arith)
          ];
          chosen = λ a us gives are.
              let l = last_value types h ss s us are in
              let c = all.chosen a l.firsts gives l.firsts_are in
              let p = one.chosen c.next l.last c.gives l.last_is in
              record {
                next = p.next;
                gives = p.gives;
                keeps = agree_along (length gs) (length fs) a c.next p.next (length-Grows gs fs m before).0 c.keeps
                    p.keeps;
                values = field_values_push e p.next xs x l.firsts l.last
                    (field_values_later types d e fs hs n moves c.next p.next p.keeps ss xs l.firsts all.of c.values)
                    p.value ∙ ap Some (sym l.whole);
              };
          bounded = λ a gives.
              let c = all.bounded a (Gives_old fs hs n moves.grows a gives) in
              let p = one.bounded a gives in
              record {
                values = c.values ++ p.value ∷ [];
                stand = field_values_push e a xs x c.values p.value
                    (field_values_later types d e fs hs n moves a a (agree_self (length fs) a) ss xs c.values all.of
                    c.stand) p.stands;
                up_to = values_push types h ss s c.values p.value c.up_to p.up_to;
              };
        })

    -- later
    pub AreFull_later : (ss : List Sort) (xs : List (Symbol BoundedTree)) → AreFull types gs d fs h ss xs
        → AreFull types gs e hs h ss xs
    AreFull_later ss xs all = record {
      of = AreSymbols_later bounded_sense types d e fs hs n ss xs moves all.of;
      heights = all.heights;
      chosen = λ a vs gives are.
          let c = all.chosen a vs gives are in
          let p = growth_extends fs hs n moves.grows moves.fits.circuit c.next c.next c.gives in
          record {
            next = p.assignment;
            gives = p.gives;
            keeps = agree_along (length gs) (length fs) a c.next p.assignment (length-Grows gs fs m before).0 c.keeps
                p.keeps;
            values = field_values_later types d e fs hs n moves c.next p.assignment p.keeps ss xs vs all.of c.values;
          };
      bounded = λ a gives.
          let c = all.bounded a (Gives_old fs hs n moves.grows a gives) in
          record {
            values = c.values;
            stand = field_values_later types d e fs hs n moves a a (agree_self (length fs) a) ss xs c.values all.of
                c.stand;
            up_to = c.up_to;
          };
    }

    -- as those that came in with more gates
    pub AreFull_from : (ss : List Sort) (xs : List (Symbol BoundedTree)) → IsCircuit fs
        → AreFull types fs e hs h ss xs → AreFull types gs e hs h ss xs
    AreFull_from ss xs is all = record {
      of = all.of;
      heights = all.heights;
      chosen = λ a vs gives are.
          let p = growth_extends gs fs m before is a a gives in
          let c = all.chosen p.assignment vs p.gives are in
          record {
            next = c.next;
            gives = c.gives;
            keeps = agree_along (length gs) (length fs) a p.assignment c.next (length-Grows gs fs m before).0 p.keeps
                c.keeps;
            values = c.values;
          };
      bounded = all.bounded;
    }
