-- Blank symbols, one after another.
use Rattle.std.proofs.Common.{◌≡◌, ℕ, ◌+◌, List, [], ◌∷◌, ◌++◌, take, Some}
use Rattle.std.proofs.Common.{refl, sym}
use Rattle.std.proofs.Common.{subst, slice_get}
use Rattle.std.proofs.lemmas.List.Elements.{All-nil, All-push}
use Rattle.pp_prog.specs.declared.id.DataId.{DataId}
use Rattle.pp_prog.specs.declared.sort.Sort.{Sort}
use Rattle.pp_prog.specs.declared.sort.Sort.TheVariants as sort
use Rattle.pp_clause.specs.Literal.{Literal}
use Rattle.pp_gate.specs.declared.gate.Gate.{Gate}
use Rattle.pp_gate.proofs.Growing.{Grows_none}
use Rattle.pp_bits.specs.Number.{StandsForNumber}
use Rattle.pp_domain.specs.declared.symbol.Symbol.{Symbol}
use Rattle.pp_domain.specs.declared.symbol.Symbol.TheVariants as symbol
use Rattle.pp_domain.specs.Plain.{IsBlankPlain}
use Rattle.pp_bounded_trees.proofs.Candidates.{take_next}
use Rattle.pp_named_trees.specs.declared.arena.NamedTree.{NamedTree}
use Rattle.pp_named_trees.specs.Arena.{IsBlank}
use Rattle.pp_named_contents.specs.Known.{AreBlankParts, IsBlankPart}
use Rattle.pp_named_contents.proofs.Fields.{parts_push}

pub plain_blank : (gs : List Gate) (s : Sort) (x : Symbol NamedTree) → IsBlankPlain gs s x → IsBlankPart gs s x
plain_blank gs sort.Int (symbol.Word w) is = record { fits = record { len = is.of.0; of = is.of.1 }; blank = is.blank }
plain_blank gs sort.Bool (symbol.Bit l) is = record { fits = is.of; blank = is.blank }
plain_blank gs sort.Int (symbol.Bit l) is = absurd is.of
plain_blank gs sort.Int (symbol.Tree t) is = absurd is.of
plain_blank gs sort.Bool (symbol.Word w) is = absurd is.of
plain_blank gs sort.Bool (symbol.Tree t) is = absurd is.of
plain_blank gs (sort.Tree of) x is = absurd is.of

pub tree_blank : (gs : List Gate) (of : DataId) (h : ℕ) (r : List Literal) → StandsForNumber gs 32 r (λ a. 0)
    → IsBlankPart gs (sort.Tree of) (symbol.Tree (record { of = of; height = h; name = r }))
tree_blank gs of h r is = record {
  fits = (record { len = is.len; of = is.of }, refl);
  blank = λ a gives. is.value a gives;
}

pub blanks_none : (gs : List Gate) (xs : List (Symbol NamedTree)) → xs ≡ [] → AreBlankParts gs [] xs
blanks_none gs xs none = subst (λ ys. AreBlankParts gs [] ys) (sym none)
    (record { fits = tt; blank = λ a gives. All-nil (IsBlank a) })

pub blanks_turn : (gs : List Gate) (ss : List Sort) (i : ℕ) (s : Sort) (xs ys : List (Symbol NamedTree))
    (x : Symbol NamedTree) → slice_get ss i ≡ Some s → AreBlankParts gs (take i ss) xs → IsBlankPart gs s x
    → ys ≡ xs ++ x ∷ [] → AreBlankParts gs (take (i + 1) ss) ys
blanks_turn gs ss i s xs ys x at all own push =
    subst (λ zs. AreBlankParts gs (take (i + 1) ss) zs) (sym push)
    (subst (λ ks. AreBlankParts gs ks (xs ++ x ∷ [])) (sym (take_next ss i s at)) (record {
      fits = parts_push gs gs 0 (Grows_none gs) (take i ss) xs s x all.fits own.fits;
      blank = λ a gives. All-push (IsBlank a) xs x (all.blank a gives) (own.blank a gives);
    }))
