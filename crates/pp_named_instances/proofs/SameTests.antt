-- Tests of sameness, one field after another.
use Rattle.std.proofs.Common.{◌≡◌, ◌↔◌, ℕ, zero, suc, ◌+◌, ◌<◌, ◌≤◌, Bool, ◌&&◌, List, [], ◌∷◌, ◌++◌}
use Rattle.std.proofs.Common.{length, take}
use Rattle.std.proofs.Common.{Some, refl, sym, ap, ◌∙◌, subst, arith, slice_get}
use Rattle.std.proofs.lemmas.Bool.{and_parts, and_from}
use Rattle.std.proofs.lemmas.List.{take_all}
use Rattle.pp_prog.specs.declared.sort.Sort.{Sort}
use Rattle.pp_clause.specs.Literal.{Literal, lit_value}
use Rattle.pp_gate.specs.declared.gate.Gate.{Gate}
use Rattle.pp_gate.specs.Circuit.{IsOf, StandsFor}
use Rattle.pp_gate.specs.Growth.{AddsGates}
use Rattle.pp_gate.proofs.Growing.{length-Grows}
use Rattle.pp_bits.proofs.Growing.{Gives_before}
use Rattle.pp_domain.specs.declared.symbol.Symbol.{Symbol}
use Rattle.pp_bounded_trees.proofs.Candidates.{take_next}
use Rattle.pp_named_trees.specs.declared.arena.NamedTree.{NamedTree}
use Rattle.pp_named_trees.specs.Parts.{PartFits, PartsFit}
use Rattle.pp_named_trees.specs.Instances.{SameSymbol, SameSymbols}
use Rattle.pp_named_trees.proofs.Parts.{part_later}
use Rattle.pp_named_instances.specs.Tests.{AreAllParts, AreParts, AreSameTest, IsSameTest, all_same_gates, same_gates}

gates_push : (xs : List (Symbol NamedTree)) (x : Symbol NamedTree)
    → all_same_gates (xs ++ x ∷ []) ≡ all_same_gates xs + (same_gates x + 1)
gates_push [] x = omega arith
gates_push (y ∷ xs) x = let e = gates_push xs x in omega arith

gates_within : (xs : List (Symbol NamedTree)) (i : ℕ) → all_same_gates (take i xs) ≤ all_same_gates xs
gates_within [] zero = omega arith
gates_within [] (suc i) = omega arith
gates_within (x ∷ xs) zero = omega arith
gates_within (x ∷ xs) (suc i) = let e = gates_within xs i in omega arith

pub gates_turn : (xs : List (Symbol NamedTree)) (i : ℕ) (x : Symbol NamedTree) → slice_get xs i ≡ Some x
    → all_same_gates (take i xs) + (same_gates x + 1) ≤ all_same_gates (take (i + 1) xs)
gates_turn xs i x at = let e = ap all_same_gates (take_next xs i x at) ∙ gates_push (take i xs) x in omega arith

pub gates_next : (xs : List (Symbol NamedTree)) (i : ℕ) (x : Symbol NamedTree) → slice_get xs i ≡ Some x
    → all_same_gates (take i xs) + (same_gates x + 1) ≤ all_same_gates xs
gates_next xs i x at = let e = gates_turn xs i x at in let w = gates_within xs (i + 1) in omega arith

pub turn_room : (gs fs : List Gate) (xs : List (Symbol NamedTree)) (i : ℕ) (x : Symbol NamedTree) (most : ℕ)
    → AddsGates gs fs (all_same_gates (take i xs)) → slice_get xs i ≡ Some x → length gs + all_same_gates xs ≤ most
    → length fs + (same_gates x + 1) ≤ most
turn_room gs fs xs i x most adds at room =
    let e = gates_next xs i x at in
    let g = (length-Grows gs fs (all_same_gates (take i xs)) adds.grows).1 in omega arith

pub parts_length : (gs : List Gate) (ss : List Sort) (xs ys : List (Symbol NamedTree)) → PartsFit gs ss xs
    → PartsFit gs ss ys → length xs ≡ length ys
parts_length gs [] [] [] f g = refl
parts_length gs (s ∷ ss) (x ∷ xs) (y ∷ ys) f g = ap suc (parts_length gs ss xs ys f.1 g.1)
parts_length gs [] (x ∷ xs) ys f g = absurd f
parts_length gs [] [] (y ∷ ys) f g = absurd g
parts_length gs (s ∷ ss) [] ys f g = absurd f
parts_length gs (s ∷ ss) (x ∷ xs) [] f g = absurd g

parts_at : (gs : List Gate) (ss : List Sort) (xs ys : List (Symbol NamedTree)) (i : ℕ) (x y : Symbol NamedTree)
    → PartsFit gs ss xs → PartsFit gs ss ys → slice_get xs i ≡ Some x → slice_get ys i ≡ Some y → AreParts gs x y
parts_at gs [] [] ys i x y f g at to = cc
parts_at gs (s ∷ ss) (u ∷ xs) (v ∷ ys) zero x y f g at to =
    let one : u ≡ x = cc in let two : v ≡ y = cc in record {
      sort = s;
      first = subst (λ z. PartFits gs s z) one f.0;
      second = subst (λ z. PartFits gs s z) two g.0;
    }
parts_at gs (s ∷ ss) (u ∷ xs) (v ∷ ys) (suc i) x y f g at to = parts_at gs ss xs ys i x y f.1 g.1 at to
parts_at gs [] (u ∷ xs) ys i x y f g at to = absurd f
parts_at gs (s ∷ ss) [] ys i x y f g at to = absurd f
parts_at gs (s ∷ ss) (u ∷ xs) [] i x y f g at to = absurd g

pub turn_parts : (gs fs : List Gate) (k : ℕ) (xs ys : List (Symbol NamedTree)) (i : ℕ) (x y : Symbol NamedTree)
    → AddsGates gs fs k → AreAllParts gs xs ys → slice_get xs i ≡ Some x → slice_get ys i ≡ Some y → AreParts fs x y
turn_parts gs fs k xs ys i x y adds all at to =
    let own = parts_at gs all.sorts xs ys i x y all.first all.second at to in record {
      sort = own.sort;
      first = part_later gs fs k adds.grows own.sort x own.first;
      second = part_later gs fs k adds.grows own.sort y own.second;
    }

symbols_push : (a : ℕ → Bool) (xs ys : List (Symbol NamedTree)) (x y : Symbol NamedTree) → length xs ≡ length ys
    → SameSymbols a (xs ++ x ∷ []) (ys ++ y ∷ []) ↔ (SameSymbols a xs ys × SameSymbol a x y)
symbols_push a [] [] x y e = (λ h. (tt, h.0), λ h. (h.1, tt))
symbols_push a (u ∷ xs) (v ∷ ys) x y e =
    let rest = symbols_push a xs ys x y (omega arith) in (
      λ h. let r = rest.0 h.1 in ((h.0, r.0), r.1),
      λ h. (h.0.0, rest.1 (h.0.1, h.1)),
    )
symbols_push a [] (v ∷ ys) x y e = absurd (omega arith)
symbols_push a (u ∷ xs) [] x y e = absurd (omega arith)

pub same_none : (gs : List Gate) (both : Literal) → IsOf gs both → AreSameTest gs both [] [] both
same_none gs both of = record { of = of; means = λ a gives. (λ h. (h, tt), λ h. h.0) }

pub same_turn : (fs ms hs : List Gate) (j k : ℕ) (both l m r : Literal) (xs ys : List (Symbol NamedTree)) (i : ℕ)
    (x y : Symbol NamedTree) → length xs ≡ length ys → AddsGates fs ms j → AddsGates ms hs k
    → AreSameTest fs both (take i xs) (take i ys) l → IsSameTest ms x y m → slice_get xs i ≡ Some x
    → slice_get ys i ≡ Some y → StandsFor hs r (λ s. lit_value s l && lit_value s m)
    → AreSameTest hs both (take (i + 1) xs) (take (i + 1) ys) r
same_turn fs ms hs j k both l m r xs ys i x y len first second all own at to stands =
    subst (λ zs. AreSameTest hs both zs (take (i + 1) ys) r) (sym (take_next xs i x at))
    (subst (λ zs. AreSameTest hs both (take i xs ++ x ∷ []) zs r) (sym (take_next ys i y to)) (record {
      of = stands.of;
      means = λ a gives.
          let one = Gives_before ms hs k second a gives in
          let old = all.means a (Gives_before fs ms j first a one) in
          let new = own.means a one in
          let push = symbols_push a (take i xs) (take i ys) x y (taken xs ys i len) in (
            λ h. let p = and_parts (lit_value a l) (lit_value a m) (sym (stands.value a gives) ∙ h) in
                let q = old.0 p.0 in (q.0, push.1 (q.1, new.0 p.1)),
            λ h. let q = push.0 h.1 in
                stands.value a gives ∙ and_from (lit_value a l) (lit_value a m) (old.1 (h.0, q.0)) (new.1 q.1),
          );
    }))
  where
    taken : (us vs : List (Symbol NamedTree)) (n : ℕ) → length us ≡ length vs → length (take n us) ≡ length (take n vs)
    taken us vs zero e = refl
    taken [] [] (suc n) e = refl
    taken (u ∷ us) (v ∷ vs) (suc n) e = ap suc (taken us vs n (omega arith))
    taken [] (v ∷ vs) (suc n) e = absurd (omega arith)
    taken (u ∷ us) [] (suc n) e = absurd (omega arith)

pub index_within : {X : Type 0} (xs ys : List X) (i : ℕ) → length xs ≡ length ys → i < length xs → i < length ys
index_within xs ys i e lt = omega arith

pub room_and : (fs ms : List Gate) (x : Symbol NamedTree) (most : ℕ) → AddsGates fs ms (same_gates x)
    → length fs + (same_gates x + 1) ≤ most → length ms < most
room_and fs ms x most adds room = let g = (length-Grows fs ms (same_gates x) adds.grows).1 in omega arith

pub room_one : (n : ℕ) (x : Symbol NamedTree) (most : ℕ) → n + (same_gates x + 1) ≤ most → n + same_gates x ≤ most
room_one n x most room = omega arith

pub sum_one : (m n k : ℕ) → m + (n + 1) ≤ k → m + n ≤ k
sum_one m n k le = omega arith

pub sum_two : (m n k : ℕ) → m + (n + 1) ≤ k → m + n + 1 ≤ k
sum_two m n k le = omega arith

pub whole : (hs : List Gate) (both l : Literal) (xs ys : List (Symbol NamedTree)) (i : ℕ) → length xs ≡ length ys
    → length xs ≤ i → AreSameTest hs both (take i xs) (take i ys) l → AreSameTest hs both xs ys l
whole hs both l xs ys i len end same =
    subst (λ zs. AreSameTest hs both zs ys l) (take_all i xs end)
    (subst (λ zs. AreSameTest hs both (take i xs) zs l) (take_all i ys (omega arith)) same)

pub refl_le : {n : ℕ} → n ≤ n
refl_le = omega arith
