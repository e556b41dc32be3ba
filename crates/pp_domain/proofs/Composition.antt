-- Calls after calls, and gates alone: what evaluation over a domain cites.
use Rattle.std.proofs.Common.{◌≡◌, ℕ, ◌+◌, ◌≤◌, List, length, Bool, true, refl, sym, ap, ◌∙◌}
use Rattle.std.proofs.lemmas.Bool.{false≢true}
use Rattle.pp_prog.specs.declared.types.TypeTable.{TypeTable}
use Rattle.pp_prog.specs.declared.value.Value.{Value}
use Rattle.pp_clause.specs.Literal.{Literal, lit_value}
use Rattle.pp_gate.specs.declared.gate.Gate.{Gate}
use Rattle.pp_gate.specs.Circuit.{IsCircuit}
use Rattle.pp_gate.specs.Growth.{Grows}
use Rattle.pp_gate.specs.Laws.{AgreeUpTo}
use Rattle.pp_gate.proofs.Agreement.{agree_along, lit_agree, Gives_old}
use Rattle.pp_gate.proofs.Extension.{growth_extends}
use Rattle.pp_gate.proofs.Growing.{Grows_none, Grows_more, Grows_weaker, length-Grows}
use Rattle.pp_domain.specs.Naming.{Naming}
use Rattle.pp_domain.specs.Sense.{Sense, Good, Extended, Inexact}
use Rattle.pp_domain.specs.Moves.{KeepsNode, Moves, Steady}
use Rattle.pp_domain.specs.Laws.{Lawful}

-- a valuation agrees with itself
pub agree_self : (n : ℕ) (a : ℕ → Bool) → AgreeUpTo n a a
agree_self n a = record { agree = λ x low high. refl }

agree_back : (n : ℕ) (a b : ℕ → Bool) → AgreeUpTo n a b → AgreeUpTo n b a
agree_back n a b h = record { agree = λ x low high. sym (h.agree x low high) }

-- in an exact domain nothing is asked of the other kind
pub exactly : {D T : Type 0} (m : Sense D T) (P : Type 0) → m.exact ≡ true → Inexact m P
exactly m P exact inexact = absurd (false≢true (sym inexact ∙ exact))

module _ {D T : Type 0} (m : Sense D T) (types : TypeTable) where
  pub KeepsNode_more : (c d e : D) (t : T) → KeepsNode m c d t → KeepsNode m d e t → KeepsNode m c e t
  KeepsNode_more c d e t a b = record {
    node = b.node;
    data_of = b.data_of ∙ a.data_of;
    height = b.height ∙ a.height;
    expanded = λ h. b.expanded (a.expanded h);
  }

  pub Moves_more : (c d e : D) (fs gs hs : List Gate) (p q k : ℕ)
      → Moves m types c fs d gs p → Moves m types d gs e hs q → p + q ≤ k → Moves m types c fs e hs k
  Moves_more c d e fs gs hs p q k a b le = record {
    grows = Grows_more fs gs hs p q k a.grows b.grows le;
    fits = b.fits;
    nodes = λ t h. KeepsNode_more c d e t (a.nodes t h) (b.nodes t (a.nodes t h).node);
    stands = λ n s u t v h g.
        let first = a.stands n s u t v h g in
        let second = b.stands n u u t v (a.nodes t h).node (agree_self (length gs) u) in
        (λ x. second.0 (first.0 x), λ x. first.1 (second.1 x));
    back = λ n s g. a.back n s (b.back n s g);
  }

  pub Moves_weaker : (d e : D) (gs hs : List Gate) (p k : ℕ) → Moves m types d gs e hs p → p ≤ k
      → Moves m types d gs e hs k
  Moves_weaker d e gs hs p k a le = record {
    grows = Grows_weaker gs hs p k a.grows le;
    fits = a.fits;
    nodes = a.nodes;
    stands = a.stands;
    back = a.back;
  }

  -- gates and inputs alone
  pub Moves_grown : Lawful m → (d : D) (gs hs : List Gate) (k : ℕ) → m.Fits types d gs → Grows gs hs k → IsCircuit hs
      → Moves m types d gs d hs k
  Moves_grown law d gs hs k fits grows is = record {
    grows = grows;
    fits = law.grows types d gs hs k fits grows is;
    nodes = λ t h. record { node = h; data_of = refl; height = refl; expanded = λ x. x };
    stands = λ n a b t v h g. (
      λ s. law.stands types d gs n a b t v fits h g s,
      λ s. law.stands types d gs n b a t v fits h (agree_back (length gs) a b g) s,
    );
    back = λ n a good. record {
      gates = Gives_old gs hs k grows a good.gates;
      ok = good.ok;
      matches = good.matches;
      admitted = good.admitted;
    };
  }

  pub Moves_none : Lawful m → (d : D) (gs : List Gate) → m.Fits types d gs → Moves m types d gs d gs 0
  Moves_none law d gs fits = Moves_grown law d gs gs 0 fits (Grows_none gs) (law.circuit types d gs fits)

  -- a good assignment goes on over calls one after another
  pub Extended_more : (d e : D) (fs gs hs : List Gate) (k : ℕ) (n : Naming) (a : ℕ → Bool) → Grows fs gs k
      → (x : Extended m types fs n a d gs) → Extended m types gs n x.next e hs → Extended m types fs n a e hs
  Extended_more d e fs gs hs k n a grows x y = record {
    next = y.next;
    agree = agree_along (length fs) (length gs) a x.next y.next (length-Grows fs gs k grows).0 x.agree y.agree;
    good = y.good;
  }

  pub Extended_none : (d : D) (gs : List Gate) (n : Naming) (a : ℕ → Bool) → Good m types d gs n a
      → Extended m types gs n a d gs
  Extended_none d gs n a good = record { next = a; agree = agree_self (length gs) a; good = good }

  -- over gates and inputs alone, with any values for the new inputs
  pub Extended_grown : Lawful m → (d : D) (gs hs : List Gate) (k : ℕ) (n : Naming) (a values : ℕ → Bool)
      → m.Fits types d gs
      → Grows gs hs k → IsCircuit hs → Good m types d gs n a → Extended m types gs n a d hs
  Extended_grown law d gs hs k n a values fits grows is good =
      let x = growth_extends gs hs k grows is a values good.gates in record {
        next = x.assignment;
        agree = x.keeps;
        good = record {
          gates = x.gives;
          ok = sym (lit_agree (length gs) a x.assignment (m.ok d) (law.ok_of types d gs fits) x.keeps) ∙ good.ok;
          matches = law.matches types d gs n a x.assignment fits x.keeps good.matches;
          admitted = good.admitted;
        };
      }

  -- in an exact domain each call that leaves `ok` and the inputs extends every good assignment
  pub Extended_steady : Lawful m → m.exact ≡ true → (d e : D) (gs hs : List Gate) (k : ℕ) (n : Naming) (a : ℕ → Bool)
      → m.Fits types d gs → Moves m types d gs e hs k → Steady m d gs e hs → Good m types d gs n a
      → Extended m types gs n a e hs
  Extended_steady law exact d e gs hs k n a fits moves steady good =
      let is = law.circuit types e hs moves.fits in
      let x = growth_extends gs hs k moves.grows is a a good.gates in record {
        next = x.assignment;
        agree = x.keeps;
        good = record {
          gates = x.gives;
          ok = ap (λ (l : Literal). lit_value x.assignment l) steady.ok
              ∙ sym (lit_agree (length gs) a x.assignment (m.ok d) (law.ok_of types d gs fits) x.keeps) ∙ good.ok;
          matches = law.fitting exact e n x.assignment;
          admitted = good.admitted;
        };
      }

  -- a tree stands later for what it stands for now, under each assignment that agrees on the variables of now
  pub Stands_later : (d e : D) (gs hs : List Gate) (k : ℕ) (n : Naming) (a : ℕ
      → Bool) (x : Extended m types gs n a e hs)
      (t : T) (v : Value) → Moves m types d gs e hs k → m.Node d t → m.Stands d a n t v → m.Stands e x.next n t v
  Stands_later d e gs hs k n a x t v moves node stands = (moves.stands n a x.next t v node x.agree).0 stands
