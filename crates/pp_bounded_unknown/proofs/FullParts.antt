-- A number, a truth value, and constructors with fields that can have any values up to a height.
use Rattle.std.proofs.Common.{◌≡◌, ℕ, zero, suc, ◌+◌, ◌*◌, ◌≤◌, Bool, true, List, [], ◌∷◌, ◌++◌, length, take, Some}
use Rattle.std.proofs.Common.{refl, sym, ap, ◌∙◌, subst, arith, slice_get, inl, inr, length-append}
use Rattle.std.proofs.lemmas.Bool.{and_parts}
use Rattle.std.specs.List.{list_all}
use Rattle.std.proofs.lemmas.Option.{same_Some}
use Rattle.pp_prog.specs.declared.id.CtorId.{CtorId}
use Rattle.pp_prog.specs.declared.sort.Sort.{Sort}
use Rattle.pp_prog.specs.declared.sort.Sort.TheVariants as sort
use Rattle.pp_prog.specs.declared.types.Ctor.{Ctor}
use Rattle.pp_prog.specs.declared.types.TypeTable.{TypeTable}
use Rattle.pp_prog.specs.declared.value.Value.{Value}
use Rattle.pp_prog.specs.Cone.{is_word}
use Rattle.pp_prog.specs.Sizes.{bits, height_at}
use Rattle.pp_clause.specs.Literal.{Literal}
use Rattle.pp_gate.specs.declared.gate.Gate.{Gate}
use Rattle.pp_gate.specs.Circuit.{IsCircuit}
use Rattle.pp_gate.specs.Growth.{Grows}
use Rattle.pp_gate.proofs.Places.{at_left, at_next, at_push}
use Rattle.pp_domain.specs.declared.symbol.Symbol.{Symbol}
use Rattle.pp_domain.specs.declared.symbol.Symbol.TheVariants as symbol
use Rattle.pp_domain.specs.Plain.{IsPlain, IsUnknownPlain, PlainStands, plain_gates}
use Rattle.pp_domain.proofs.PlainSymbols.{plain_value, value_is_plain}
use Rattle.pp_domain.proofs.UnknownSymbols.{plain_symbol}
use Rattle.pp_domain.specs.Moves.{Moves}
use Rattle.pp_bounded_trees.specs.declared.arena.Alternative.{Alternative}
use Rattle.pp_bounded_trees.specs.declared.arena.BoundedTree.{BoundedTree}
use Rattle.pp_bounded_trees.specs.declared.arena.Trees.{Trees}
use Rattle.pp_bounded_trees.specs.Arena.{height_of}
use Rattle.pp_bounded_trees.specs.Values.{symbol_value, values_of}
use Rattle.pp_bounded_unknown.specs.Full.{AreFull, AreFullAlternatives, IsFull, IsFullAlternative}
use Rattle.pp_bounded_trees.specs.Meaning.{bounded_sense}
use Rattle.pp_bounded_trees.proofs.Candidates.{bits_of_bool, bits_of_int, take_next}
use Rattle.pp_bounded_unknown.proofs.Full.{AreFull_from, AreFull_later}

pub height_within : (h : ℕ) (s : Sort) → height_at h s ≤ h
height_within h sort.Int = omega arith
height_within h sort.Bool = omega arith
height_within h (sort.Tree d) = omega arith

pub all_at : {X : Type 0} (p : X → Bool) (xs : List X) (j : ℕ) (x : X) → list_all p xs ≡ true → slice_get xs j ≡ Some x
    → p x ≡ true
all_at p [] j x all at = cc
all_at p (y ∷ xs) zero x all at =
    ap p (same_Some x y (sym at)) ∙ (and_parts (p y) _ all).0
all_at p (y ∷ xs) (suc j) x all at = all_at p xs j x (and_parts (p y) _ all).1 at

-- the inputs of a number or a truth value
pub plain_few : (types : TypeTable) (h : ℕ) (s : Sort) → is_word s ≡ true → plain_gates s ≤ 4 * bits types h s
plain_few types h sort.Int plain = omega (arith, bits_of_int types h)
plain_few types h sort.Bool plain = omega (arith, bits_of_bool types h)
plain_few types h (sort.Tree of) plain = absurd (cc)

-- a number or a truth value of inputs
module _ (types : TypeTable) (d : Trees) (gs hs : List Gate) (h : ℕ) where
  plain_height : (s : Sort) (x : Symbol BoundedTree) → IsPlain hs s x → height_of x ≡ height_at h s
  plain_height sort.Int (symbol.Word w) is = refl
  plain_height sort.Bool (symbol.Bit l) is = refl
  plain_height sort.Int (symbol.Bit l) is = absurd is
  plain_height sort.Int (symbol.Tree t) is = absurd is
  plain_height sort.Bool (symbol.Word w) is = absurd is
  plain_height sort.Bool (symbol.Tree t) is = absurd is
  plain_height (sort.Tree of) x is = absurd is

  plain_is : (a : ℕ → Bool) (x : Symbol BoundedTree) (v : Value) → PlainStands a x v
      → symbol_value a (values_of a d.nodes) x ≡ Some v
  plain_is a (symbol.Word w) v is = ap Some (sym is)
  plain_is a (symbol.Bit l) v is = ap Some (sym is)
  plain_is a (symbol.Tree t) v is = absurd is

  pub plain_full : (s : Sort) (x : Symbol BoundedTree) → is_word s ≡ true → IsUnknownPlain gs hs s x
      → IsFull types gs d hs h s x
  plain_full s x plain unknown = record {
    of = plain_symbol bounded_sense d hs s x unknown.of;
    height = plain_height s x unknown.of;
    chosen = λ a v gives is.
        let c = unknown.chosen a v gives (value_is_plain types s v plain is.sort) in
        record { next = c.next; gives = c.gives; keeps = c.keeps; value = plain_is c.next x v c.stands };
    bounded = λ a gives.
        let v = plain_value types hs a h s x unknown.of in record {
          value = v.value;
          stands = plain_is a x v.value v.stands;
          up_to = record { sort = v.is.sorted; most = v.is.low };
        };
  }

-- constructors
pub AreFullAlternatives_none : (types : TypeTable) (d : Trees) (gs : List Gate) (h : ℕ) (ls : List Literal)
    (ys : List Alternative) → ys ≡ [] → AreFullAlternatives types gs d gs h [] ls ys
AreFullAlternatives_none types d gs h ls ys empty =
    subst (λ zs. AreFullAlternatives types gs d gs h [] ls zs) (sym empty) (record {
      len = refl;
      each = λ j y at. absurd (nothing j y at);
      ctors = λ j y at. absurd (nothing j y at);
      lits = λ j y at. absurd (nothing j y at);
    })
  where
    nothing : (j : ℕ) (y : Alternative) → slice_get [] j ≡ Some y → ⊥
    nothing j y e = cc

pub AreFullAlternatives_push : (types : TypeTable) (d e : Trees) (gs fs hs : List Gate) (m n h : ℕ)
    → Grows gs fs m → IsCircuit fs → Moves bounded_sense types d fs e hs n → (cs : List CtorId) (ls : List Literal)
    (ys zs : List Alternative) (i : ℕ) (c : CtorId) (y : Alternative) (k : Ctor)
    → AreFullAlternatives types gs d fs h (take i cs) ls ys → slice_get cs i ≡ Some c → i ≡ length ys → y.ctor ≡ c
    → slice_get ls i ≡ Some y.lit → slice_get types.ctors c.0 ≡ Some k → AreFull types fs e hs h k.fields y.fields
    → zs ≡ ys ++ y ∷ [] → AreFullAlternatives types gs e hs h (take (i + 1) cs) ls zs
AreFullAlternatives_push types d e gs fs hs m n h before is moves cs ls ys zs i c y k all here number ctor lit entry
    full push =
    subst (λ ws. AreFullAlternatives types gs e hs h (take (i + 1) cs) ls ws) (sym push) (record {
      len =
          length-append ys (y ∷ []) ∙ ap (λ a. a + 1) all.len ∙ sym (length-append (take i cs) (c ∷ []))
          ∙ ap length (sym next);
      each = λ j z at. elim (at_push ys y j z at) [
        | inl old ↦ later z (all.each j z old)
        | inr new ↦ subst (λ (w : Alternative). IsFullAlternative types gs e hs h w) new.1 own
      ];
      ctors = λ j z at. elim (at_push ys y j z at) [
        | inl old ↦ (ap (λ (bs : List CtorId). slice_get bs j) next
            ∙ at_left (take i cs) (c ∷ []) j z.ctor (all.ctors j z old))
        | inr new ↦ (
            ap (λ (bs : List CtorId). slice_get bs j) next
            ∙ ap (slice_get (take i cs ++ c ∷ [])) (new.0 ∙ all.len)
            ∙ at_next (take i cs) [] c
            ∙ ap Some (sym ctor) ∙ ap (λ (w : Alternative). Some w.ctor) new.1)
      ];
      lits = λ j z at. elim (at_push ys y j z at) [
        | inl old ↦ all.lits j z old
        | inr new ↦ (ap (slice_get ls) (new.0 ∙ sym number) ∙ lit ∙ ap (λ (w : Alternative). Some w.lit) new.1)
      ];
    })
  where
    next : take (i + 1) cs ≡ take i cs ++ c ∷ []
    next = take_next cs i c here

    later : (z : Alternative) → IsFullAlternative types gs d fs h z → IsFullAlternative types gs e hs h z
    later z a = record {
      entry = a.entry;
      at = a.at;
      fields = AreFull_later types h d e gs fs hs m n before moves a.entry.fields z.fields a.fields;
    }

    own : IsFullAlternative types gs e hs h y
    own = record {
      entry = k;
      at = ap (λ (b : CtorId). slice_get types.ctors b.0) ctor ∙ entry;
      fields = AreFull_from types h d e gs fs hs m n before moves k.fields y.fields is full;
    }
