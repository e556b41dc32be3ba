-- The fields of a tree that was looked at, one after another, and where they stand.
use Rattle.std.proofs.Common.{◌≡◌, ◌⊎◌, ℕ, zero, suc, ◌+◌, List, [], ◌∷◌, ◌++◌, take, Some}
use Rattle.std.proofs.Common.{refl, sym, ap, ◌∙◌, append_assoc, slice_get, inl, inr}
use Rattle.std.proofs.lemmas.List.{append-nil}
use Rattle.std.proofs.lemmas.Option.{same_Some}
use Rattle.pp_clause.specs.Literal.{Literal}
use Rattle.pp_domain.specs.declared.symbol.Symbol.{Symbol}
use Rattle.pp_domain.specs.declared.symbol.Symbol.TheVariants as symbol
use Rattle.pp_named_trees.specs.declared.arena.Alternative.{Alternative}
use Rattle.pp_named_trees.specs.declared.arena.Expansion.{Expansion}
use Rattle.pp_named_trees.specs.declared.arena.NamedTree.{NamedTree}
use Rattle.pp_named_trees.specs.Found.{IsPlaceOf}
use Rattle.pp_named_below.specs.declared.fields.TreeField.{TreeField}
use Rattle.pp_named_below.specs.Fields.{AreTreeFields, fields_among, looked_at, trees_among}
use Rattle.pp_list.proofs.Lists.{taken_next}

-- ---- one more

trees_push : (l : Literal) (xs ys : List (Symbol NamedTree))
    → trees_among l (xs ++ ys) ≡ trees_among l xs ++ trees_among l ys
trees_push l [] ys = refl
trees_push l (symbol.Word w ∷ xs) ys = trees_push l xs ys
trees_push l (symbol.Bit m ∷ xs) ys = trees_push l xs ys
trees_push l (symbol.Tree t ∷ xs) ys = ap (λ fs. record { lit = l; tree = t } ∷ fs) (trees_push l xs ys)

pub trees_turn : (l : Literal) (xs : List (Symbol NamedTree)) (i : ℕ) (x : Symbol NamedTree)
    (start old new : List TreeField) → slice_get xs i ≡ Some x → old ≡ start ++ trees_among l (take i xs)
    → new ≡ old ++ trees_among l (x ∷ []) → new ≡ start ++ trees_among l (take (i + 1) xs)
trees_turn l xs i x start old new at before push =
    push ∙ ap (λ fs. fs ++ trees_among l (x ∷ [])) before
    ∙ append_assoc start (trees_among l (take i xs)) (trees_among l (x ∷ []))
    ∙ ap (λ fs. start ++ fs) (sym (ap (trees_among l) (taken_next xs i x at) ∙ trees_push l (take i xs) (x ∷ [])))

fields_push : (xs : List Alternative) (x : Alternative)
    → fields_among (xs ++ x ∷ []) ≡ fields_among xs ++ trees_among x.lit x.fields
fields_push [] x = append-nil (trees_among x.lit x.fields)
fields_push (y ∷ xs) x =
    ap (λ fs. trees_among y.lit y.fields ++ fs) (fields_push xs x)
    ∙ sym (append_assoc (trees_among y.lit y.fields) (fields_among xs) (trees_among x.lit x.fields))

pub fields_turn : (xs : List Alternative) (i : ℕ) (x : Alternative) (ys : List (Symbol NamedTree))
    (old new : List TreeField) → slice_get xs i ≡ Some x → ys ≡ x.fields → old ≡ fields_among (take i xs)
    → new ≡ old ++ trees_among x.lit ys → new ≡ fields_among (take (i + 1) xs)
fields_turn xs i x ys old new at same before push =
    push ∙ ap (λ zs. old ++ trees_among x.lit zs) same ∙ ap (λ fs. fs ++ trees_among x.lit x.fields) before
    ∙ sym (ap fields_among (taken_next xs i x at) ∙ fields_push (take i xs) x)

-- ---- the tree's place among those that were looked at

pub fields_found : (ys : List Expansion) (t : NamedTree) (p : ℕ) (y : Expansion) (xs : List Alternative)
    (fs : List TreeField) → IsPlaceOf ys t p → slice_get ys p ≡ Some y → xs ≡ y.alternatives → fs ≡ fields_among xs
    → AreTreeFields ys t fs
fields_found ys t p y xs fs is at same all =
    looked_at p y at (is.of y at) (is.name y at) (all ∙ ap fields_among same)

-- ---- where a field stands

at_either : {X : Type 0} (xs ys : List X) (k : ℕ) (x : X) → slice_get (xs ++ ys) k ≡ Some x
    → ((j : ℕ) × (slice_get xs j ≡ Some x)) ⊎ ((j : ℕ) × (slice_get ys j ≡ Some x))
at_either [] ys k x at = inr (k, at)
at_either (z ∷ xs) ys zero x at = inl (0, at)
at_either (z ∷ xs) ys (suc k) x at = elim (at_either xs ys k x at) [ inl a ↦ inl (suc a.0, a.1) | inr b ↦ inr b ]

-- the field is one of the constructor's
pub record IsIn (xs : List (Symbol NamedTree)) (l : Literal) (f : TreeField) : Type 0 where
  pub place : ℕ
  pub here : slice_get xs place ≡ Some (symbol.Tree f.tree)
  pub lit : f.lit ≡ l

among_at : (l : Literal) (xs : List (Symbol NamedTree)) (k : ℕ) (f : TreeField)
    → slice_get (trees_among l xs) k ≡ Some f → IsIn xs l f
among_at l [] k f at = cc
among_at l (symbol.Word w ∷ xs) k f at =
    let r = among_at l xs k f at in record { place = suc r.place; here = r.here; lit = r.lit }
among_at l (symbol.Bit m ∷ xs) k f at =
    let r = among_at l xs k f at in record { place = suc r.place; here = r.here; lit = r.lit }
among_at l (symbol.Tree t ∷ xs) zero f at =
    let e = same_Some (record { lit = l; tree = t }) f at in record {
      place = 0;
      here = ap (λ (g : TreeField). Some (symbol.Tree g.tree)) e;
      lit = sym (ap (λ (g : TreeField). g.lit) e);
    }
among_at l (symbol.Tree t ∷ xs) (suc k) f at =
    let r = among_at l xs k f at in record { place = suc r.place; here = r.here; lit = r.lit }

-- the field is one of one of the constructors
pub record IsOfCtor (xs : List Alternative) (f : TreeField) : Type 0 where
  pub number : ℕ
  pub alternative : Alternative
  pub at : slice_get xs number ≡ Some alternative
  pub own : IsIn alternative.fields alternative.lit f

pub ctor_of : (xs : List Alternative) (k : ℕ) (f : TreeField) → slice_get (fields_among xs) k ≡ Some f → IsOfCtor xs f
ctor_of [] k f at = cc
ctor_of (x ∷ xs) k f at = elim (at_either (trees_among x.lit x.fields) (fields_among xs) k f at) [
  | inl a ↦ record {
    number = 0;
    alternative = x;
    at = refl;
    own = among_at x.lit x.fields a.0 f a.1;
  }
  | inr b ↦ let r = ctor_of xs b.0 f b.1 in record {
    number = suc r.number;
    alternative = r.alternative;
    at = r.at;
    own = r.own;
  }
]
