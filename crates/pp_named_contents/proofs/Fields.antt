-- Fields that come in one after another.
use Rattle.std.proofs.Common.{◌≡◌, ℕ, zero, suc, ◌+◌, ◌≤◌, Bool, List, [], ◌∷◌, ◌++◌, length, take}
use Rattle.std.proofs.Common.{Some}
use Rattle.std.proofs.Common.{refl, sym, ap, ◌∙◌, subst, arith, slice_get}
use Rattle.std.proofs.lemmas.List.Elements.{All-push}
use Rattle.pp_prog.specs.declared.sort.Sort.{Sort}
use Rattle.pp_prog.specs.declared.value.Value.{Value}
use Rattle.pp_clause.specs.Literal.{Literal}
use Rattle.pp_gate.specs.declared.gate.Gate.{Gate}
use Rattle.pp_gate.specs.Circuit.{IsOf}
use Rattle.pp_gate.specs.Growth.{Grows}
use Rattle.pp_gate.specs.Laws.{AgreeUpTo}
use Rattle.pp_gate.proofs.Agreement.{Gives_old, agree_along, lit_agree}
use Rattle.pp_gate.proofs.Growing.{length-Grows}
use Rattle.pp_domain.specs.declared.symbol.Symbol.{Symbol}
use Rattle.pp_domain.specs.Naming.{Naming}
use Rattle.pp_bounded_trees.proofs.Candidates.{take_next}
use Rattle.pp_named_trees.specs.declared.arena.NamedTree.{NamedTree}
use Rattle.pp_named_trees.specs.Arena.{IsBlank}
use Rattle.pp_named_contents.specs.Contents.{AreGuarded, CanHold, CanHolds, IsGuarded, part_gates}
use Rattle.pp_named_contents.specs.Contents.{parts_gates}
use Rattle.pp_named_trees.specs.Holding.{SymbolHolds, SymbolsHold}
use Rattle.pp_named_trees.specs.Parts.{PartFits, PartsFit}
use Rattle.pp_named_trees.proofs.Parts.{part_agree, part_later}

module _ (gs hs : List Gate) (k : ℕ) (grows : Grows gs hs k) where
  pub parts_push : (ss : List Sort) (xs : List (Symbol NamedTree)) (s : Sort) (x : Symbol NamedTree) → PartsFit gs ss xs
      → PartFits hs s x → PartsFit hs (ss ++ s ∷ []) (xs ++ x ∷ [])
  parts_push [] [] s x fits own = (own, tt)
  parts_push (r ∷ ss) (y ∷ xs) s x fits own = (part_later gs hs k grows r y fits.0, parts_push ss xs s x fits.1 own)
  parts_push [] (y ∷ xs) s x fits own = absurd fits
  parts_push (r ∷ ss) [] s x fits own = absurd fits

module _ (gs : List Gate) (a b : ℕ → Bool) (agree : AgreeUpTo (length gs) a b) (n : Naming) where
  pub holds_push : (ss : List Sort) (xs : List (Symbol NamedTree)) (vs : List Value) (x : Symbol NamedTree) (v : Value)
      → PartsFit gs ss xs → SymbolsHold a n xs vs → SymbolHolds b n x v → SymbolsHold b n (xs ++ x ∷ []) (vs ++ v ∷ [])
  holds_push [] [] [] x v fits are is = (is, tt)
  holds_push (s ∷ ss) (y ∷ xs) (w ∷ vs) x v fits are is =
      (part_agree gs a b agree n s y w fits.0 are.0, holds_push ss xs vs x v fits.1 are.1 is)
  holds_push [] [] (w ∷ vs) x v fits are is = absurd are
  holds_push [] (y ∷ xs) vs x v fits are is = absurd fits
  holds_push (s ∷ ss) [] vs x v fits are is = absurd fits
  holds_push (s ∷ ss) (y ∷ xs) [] x v fits are is = absurd are

-- the last of the values
record Last (top : ℕ) (n : Naming) (ss : List Sort) (s : Sort) (us : List Value) : Type 0 where
  firsts : List Value
  last : Value
  whole : us ≡ firsts ++ last ∷ []
  firsts_can : CanHolds top n ss firsts
  last_can : CanHold top n s last

last_of : (top : ℕ) (n : Naming) (ss : List Sort) (s : Sort) (us : List Value) → CanHolds top n (ss ++ s ∷ []) us
    → Last top n ss s us
last_of top n [] s [] can = absurd can
last_of top n [] s (u ∷ []) can = record { firsts = []; last = u; whole = refl; firsts_can = tt; last_can = can.0 }
last_of top n [] s (u ∷ w ∷ us) can = absurd can.1
last_of top n (r ∷ ss) s [] can = absurd can
last_of top n (r ∷ ss) s (u ∷ us) can =
    let rest = last_of top n ss s us can.1 in record {
      firsts = u ∷ rest.firsts;
      last = rest.last;
      whole = ap (λ ws. u ∷ ws) rest.whole;
      firsts_can = (can.0, rest.firsts_can);
      last_can = rest.last_can;
    }

pub guarded_none : (gs : List Gate) (top : ℕ) (lit : Literal) (xs : List (Symbol NamedTree)) → xs ≡ []
    → AreGuarded gs gs top lit [] xs
guarded_none gs top lit xs none = subst (λ ys. AreGuarded gs gs top lit [] ys) (sym none) (record {
  fits = tt;
  blank = λ a gives off i x lt. absurd (omega arith);
  chosen = λ a n vs gives can. record {
    next = a;
    gives = gives;
    keeps = record { agree = λ v low high. refl };
    holds = λ on. nothing n a vs can;
  };
})
  where
    nothing : (n : Naming) (a : ℕ → Bool) (vs : List Value) → CanHolds top n [] vs → SymbolsHold a n [] vs
    nothing n a [] can = tt
    nothing n a (v ∷ vs) can = absurd can

pub guarded_push : (gs fs hs : List Gate) (m k top : ℕ) (lit : Literal) (ss : List Sort) (s : Sort)
    (xs ys : List (Symbol NamedTree)) (x : Symbol NamedTree) → IsOf gs lit → Grows gs fs m → Grows fs hs k
    → AreGuarded gs fs top lit ss xs → IsGuarded fs hs top lit s x → ys ≡ xs ++ x ∷ []
    → AreGuarded gs hs top lit (ss ++ s ∷ []) ys
guarded_push gs fs hs m k top lit ss s xs ys x of first second all own push =
    subst (λ zs. AreGuarded gs hs top lit (ss ++ s ∷ []) zs) (sym push) (record {
      fits = parts_push fs hs k second ss xs s x all.fits own.fits;
      blank = λ a gives off.
          All-push (IsBlank a) xs x (all.blank a (Gives_old fs hs k second a gives) off) (own.blank a gives off);
      chosen = λ a n us gives can.
          let split = last_of top n ss s us can in
          let one = all.chosen a n split.firsts gives split.firsts_can in
          let two = own.chosen one.next n split.last one.gives split.last_can in
          let low = (length-Grows gs fs m first).0 in record {
            next = two.next;
            gives = two.gives;
            keeps = agree_along (length gs) (length fs) a one.next two.next low one.keeps two.keeps;
            holds = λ on.
                let still = sym (lit_agree (length gs) a one.next lit of one.keeps) ∙ on in
                subst (λ ws. SymbolsHold two.next n (xs ++ x ∷ []) ws) (sym split.whole)
                (holds_push fs one.next two.next two.keeps n ss xs split.firsts x split.last all.fits (one.holds on)
                (two.holds still));
          };
    })

pub gates_push : (ss : List Sort) (s : Sort) → parts_gates (ss ++ s ∷ []) ≡ parts_gates ss + part_gates s
gates_push [] s = omega arith
gates_push (r ∷ ss) s = let e = gates_push ss s in omega arith

pub gates_within : (ss : List Sort) (i : ℕ) → parts_gates (take i ss) ≤ parts_gates ss
gates_within [] zero = omega arith
gates_within [] (suc i) = omega arith
gates_within (s ∷ ss) zero = omega arith
gates_within (s ∷ ss) (suc i) = let e = gates_within ss i in omega arith

-- the gates of one more field
pub gates_turn : (ss : List Sort) (i : ℕ) (s : Sort) → slice_get ss i ≡ Some s
    → parts_gates (take i ss) + part_gates s ≤ parts_gates (take (i + 1) ss)
gates_turn ss i s at = let e = ap parts_gates (take_next ss i s at) ∙ gates_push (take i ss) s in omega arith

pub gates_next : (ss : List Sort) (i : ℕ) (s : Sort) → slice_get ss i ≡ Some s
    → parts_gates (take i ss) + part_gates s ≤ parts_gates ss
gates_next ss i s at =
    let e = gates_turn ss i s at in let w = gates_within ss (i + 1) in omega arith

pub gates_room : (gs fs : List Gate) (ss : List Sort) (i : ℕ) (s : Sort) (most : ℕ)
    → Grows gs fs (parts_gates (take i ss)) → slice_get ss i ≡ Some s → length gs + parts_gates ss ≤ most
    → length fs + part_gates s ≤ most
gates_room gs fs ss i s most grows at room =
    let e = gates_next ss i s at in let g = (length-Grows gs fs (parts_gates (take i ss)) grows).1 in omega arith
