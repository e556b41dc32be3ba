-- Symbols stay those of the domain from call to call, and each call has its room.
use Rattle.std.proofs.Common.{◌≡◌, ℕ, ◌+◌, List, [], ◌∷◌, ◌++◌, All, length, take, refl, sym, ap, ◌∙◌, subst}
use Rattle.std.proofs.Common.{slice_get, inl, inr, Some}
use Rattle.pp_prog.specs.declared.sort.Sort.{Sort}
use Rattle.pp_prog.specs.declared.sort.Sort.TheVariants as sort
use Rattle.pp_prog.specs.declared.types.TypeTable.{TypeTable}
use Rattle.pp_clause.specs.Literal.{Literal}
use Rattle.pp_gate.specs.declared.gate.Gate.{Gate}
use Rattle.pp_gate.specs.Circuit.{IsOf}
use Rattle.pp_gate.proofs.Places.{at_push}
use Rattle.pp_domain.specs.declared.symbol.Symbol.{Symbol}
use Rattle.pp_domain.specs.declared.symbol.Symbol.TheVariants as symbol
use Rattle.pp_domain.specs.Moves.{Moves}
use Rattle.pp_domain.specs.Answers.{AreOfOneData}
use Rattle.pp_domain.specs.Symbols.{AreSymbols, IsSymbol}
use Rattle.pp_domain.proofs.Symbols.{IsSymbol_later}
use Rattle.pp_named_trees.specs.declared.arena.NamedTree.{NamedTree}
use Rattle.pp_named_trees.specs.declared.arena.NamedTrees.{NamedTrees}
use Rattle.pp_named_trees.specs.Arena.{IsKept}
use Rattle.pp_named_trees.specs.Meaning.{named_sense}
use Rattle.pp_bounded_cases.specs.Registers.{AreHeld, IsHeld, IsRegister, MayBe}
use Rattle.pp_list.proofs.Lists.{taken_next}

-- ---- what a register holds

module _ (d : NamedTrees) (gs : List Gate) where
  tree_kept : (s : Sort) (t : NamedTree) → IsSymbol named_sense d gs s (symbol.Tree t) → IsKept d.nodes t
  tree_kept (sort.Tree of) t is = is.0
  tree_kept sort.Int t is = absurd is
  tree_kept sort.Bool t is = absurd is

  literal_of : (s : Sort) (l : Literal) → IsSymbol named_sense d gs s (symbol.Bit l) → IsOf gs l
  literal_of sort.Bool l is = is
  literal_of sort.Int l is = absurd is
  literal_of (sort.Tree of) l is = absurd is

  word_of : (s : Sort) (w : List Literal) → IsSymbol named_sense d gs s (symbol.Word w) → All (IsOf gs) w
  word_of sort.Int w is = is.1
  word_of sort.Bool w is = absurd is
  word_of (sort.Tree of) w is = absurd is

  pub tree_held : (t : NamedTree) → IsKept d.nodes t → IsHeld d gs (symbol.Tree t)
  tree_held t is = record { sort = sort.Tree t.of; is = (is, refl) }

  pub literal_held : (l : Literal) → IsOf gs l → IsHeld d gs (symbol.Bit l)
  literal_held l is = record { sort = sort.Bool; is = is }

  pub word_held : (w : List Literal) → length w ≡ 32 → All (IsOf gs) w → IsHeld d gs (symbol.Word w)
  word_held w len is = record { sort = sort.Int; is = (len, is) }

  module _ (types : TypeTable) (xs : List (Symbol NamedTree)) (are : AreHeld types d gs xs) where
    pub register_tree : (t : NamedTree) → IsRegister xs (symbol.Tree t) → IsKept d.nodes t
    register_tree t r = let h = are.each r.place (symbol.Tree t) r.at in tree_kept h.sort t h.is

    pub register_literal : (l : Literal) → IsRegister xs (symbol.Bit l) → IsOf gs l
    register_literal l r = let h = are.each r.place (symbol.Bit l) r.at in literal_of h.sort l h.is

    pub register_word : (w : List Literal) → IsRegister xs (symbol.Word w) → All (IsOf gs) w
    register_word w r = let h = are.each r.place (symbol.Word w) r.at in word_of h.sort w h.is

  -- a symbol that may be of the sort is
  pub symbol_sorted : (s : Sort) (x : Symbol NamedTree) → MayBe s x → IsHeld d gs x → IsSymbol named_sense d gs s x
  symbol_sorted sort.Int (symbol.Word w) may h = sorted h.sort h.is
    where
      sorted : (s : Sort) → IsSymbol named_sense d gs s (symbol.Word w) → (length w ≡ 32) × All (IsOf gs) w
      sorted sort.Int is = is
      sorted sort.Bool is = absurd is
      sorted (sort.Tree of) is = absurd is
  symbol_sorted sort.Bool (symbol.Bit l) may h = literal_of h.sort l h.is
  symbol_sorted (sort.Tree of) (symbol.Tree t) may h =
      (tree_kept h.sort t h.is, ap (λ (k : ℕ). record { 0 = k }) may)
  symbol_sorted sort.Int (symbol.Bit l) may h = absurd may
  symbol_sorted sort.Int (symbol.Tree t) may h = absurd may
  symbol_sorted sort.Bool (symbol.Word w) may h = absurd may
  symbol_sorted sort.Bool (symbol.Tree t) may h = absurd may
  symbol_sorted (sort.Tree of) (symbol.Word w) may h = absurd may
  symbol_sorted (sort.Tree of) (symbol.Bit l) may h = absurd may

-- ---- one symbol more

pub held_push : (types : TypeTable) (d e : NamedTrees) (gs hs : List Gate) (k : ℕ) (xs ys : List (Symbol NamedTree))
    (x : Symbol NamedTree) → AreHeld types d gs xs → Moves named_sense types d gs e hs k → IsHeld e hs x
    → ys ≡ xs ++ x ∷ [] → AreHeld types e hs ys
held_push types d e gs hs k xs ys x are moves is push = record {
  fits = moves.fits;
  each = λ i y at. elim (at_push xs x i y (ap (λ zs. slice_get zs i) (sym push) ∙ at)) [
    | inl old ↦ let h = are.each i y old in
        record { sort = h.sort; is = IsSymbol_later named_sense types d e gs hs k h.sort y moves h.is }
    | inr last ↦ subst (λ z. IsHeld e hs z) last.1 is
  ];
}

-- ---- fields for a constructor

symbols_push : (d : NamedTrees) (gs : List Gate) (ss : List Sort) (s : Sort) (xs : List (Symbol NamedTree))
    (x : Symbol NamedTree) → AreSymbols named_sense d gs ss xs → IsSymbol named_sense d gs s x
    → AreSymbols named_sense d gs (ss ++ s ∷ []) (xs ++ x ∷ [])
symbols_push d gs [] s [] x are is = (is, tt)
symbols_push d gs (r ∷ ss) s (y ∷ xs) x are is = (are.0, symbols_push d gs ss s xs x are.1 is)
symbols_push d gs [] s (y ∷ xs) x are is = absurd are
symbols_push d gs (r ∷ ss) s [] x are is = absurd are

pub fields_turn : (types : TypeTable) (d : NamedTrees) (gs : List Gate) (ss : List Sort) (i : ℕ) (s : Sort)
    (rs xs ys : List (Symbol NamedTree)) (x : Symbol NamedTree) → AreHeld types d gs rs → slice_get ss i ≡ Some s
    → AreSymbols named_sense d gs (take i ss) xs → IsRegister rs x → MayBe s x → ys ≡ xs ++ x ∷ []
    → AreSymbols named_sense d gs (take (i + 1) ss) ys
fields_turn types d gs ss i s rs xs ys x held at are r may push =
    let is = symbol_sorted d gs s x may (held.each r.place x r.at) in
    subst (λ zs. AreSymbols named_sense d gs (take (i + 1) ss) zs) (sym push)
    (subst (λ ts. AreSymbols named_sense d gs ts (xs ++ x ∷ [])) (sym (taken_next ss i s at))
    (symbols_push d gs (take i ss) s xs x are is))

-- ---- as a call reads the registers

register_read : (xs ys : List (Symbol NamedTree)) (x : Symbol NamedTree) → ys ≡ xs → IsRegister ys x → IsRegister xs x
register_read xs ys x same r = record { place = r.place; at = ap (λ zs. slice_get zs r.place) (sym same) ∙ r.at }

module _ (types : TypeTable) (d : NamedTrees) (gs : List Gate) (xs ys : List (Symbol NamedTree))
    (are : AreHeld types d gs xs) (same : ys ≡ xs) where
  pub read_tree : (t : NamedTree) → IsRegister ys (symbol.Tree t) → IsKept d.nodes t
  read_tree t r = register_tree d gs types xs are t (register_read xs ys (symbol.Tree t) same r)

  pub read_literal : (l : Literal) → IsRegister ys (symbol.Bit l) → IsOf gs l
  read_literal l r = register_literal d gs types xs are l (register_read xs ys (symbol.Bit l) same r)

  pub read_word : (w : List Literal) → IsRegister ys (symbol.Word w) → All (IsOf gs) w
  read_word w r = register_word d gs types xs are w (register_read xs ys (symbol.Word w) same r)

pub of_one_data : (types : TypeTable) (d : NamedTrees) (gs : List Gate) (xs ys zs : List (Symbol NamedTree))
    (t u : NamedTree) → AreHeld types d gs xs → ys ≡ xs → zs ≡ xs → IsRegister ys (symbol.Tree t)
    → IsRegister zs (symbol.Tree u) → t.of.0 ≡ u.of.0 → AreOfOneData named_sense types d t u
of_one_data types d gs xs ys zs t u are one other left right same = record {
  left_kept = read_tree types d gs xs ys are one t left;
  right_kept = read_tree types d gs xs zs are other u right;
  same = ap (λ (k : ℕ). record { 0 = k }) (sym same);
}
