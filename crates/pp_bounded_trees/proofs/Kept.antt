-- The values of symbols over calls, and lists of them.
use Rattle.std.proofs.Common.{◌≡◌, ℕ, suc, ◌≤◌, Bool, List, [], ◌∷◌, ◌++◌, length, map, Option, Some, None, refl, sym}
use Rattle.std.proofs.Common.{ap, ◌∙◌, subst, arith, slice_get}
use Rattle.std.specs.Int.{w32}
use Rattle.pp_prog.specs.declared.sort.Sort.{Sort}
use Rattle.pp_prog.specs.declared.sort.Sort.TheVariants as sort
use Rattle.pp_prog.specs.declared.types.TypeTable.{TypeTable}
use Rattle.pp_prog.specs.declared.value.Value.{Value}
use Rattle.pp_prog.specs.declared.value.Value.TheVariants as value
use Rattle.pp_prog.specs.Values.{greatest}
use Rattle.pp_gate.specs.declared.gate.Gate.{Gate}
use Rattle.pp_gate.specs.Laws.{AgreeUpTo}
use Rattle.pp_gate.proofs.Agreement.{lit_agree}
use Rattle.pp_domain.specs.declared.symbol.Symbol.{Symbol}
use Rattle.pp_domain.specs.declared.symbol.Symbol.TheVariants as symbol
use Rattle.pp_domain.specs.Moves.{Moves}
use Rattle.pp_domain.specs.Naming.{Naming}
use Rattle.pp_domain.specs.Symbols.{AreSymbols, IsSymbol, SymbolsStand}
use Rattle.pp_domain.proofs.Symbols.{SymbolStands_later, SymbolsStand_later, word_of_agree}
use Rattle.pp_bounded_trees.specs.declared.arena.Trees.{Trees}
use Rattle.pp_bounded_trees.specs.declared.arena.BoundedTree.{BoundedTree}
use Rattle.pp_bounded_trees.specs.Arena.{height_of}
use Rattle.pp_bounded_trees.specs.Meaning.{bounded_sense}
use Rattle.pp_bounded_trees.specs.Values.{all_values, field_values, prepended, symbol_value, values_of}
use Rattle.pp_bounded_trees.proofs.Fields.{all_first, symbol_has}
use Rattle.pp_bounded_trees.proofs.Known.{fields_are, symbol_is}

no_naming : Naming
no_naming = λ d k. None

-- symbols stand for the values that they have
pub fields_stand : (d : Trees) (n : Naming) (a : ℕ → Bool) (xs : List (Symbol BoundedTree)) (vs : List Value)
    → field_values a (values_of a d.nodes) xs ≡ Some vs → SymbolsStand bounded_sense d a n xs vs
fields_stand d n a [] [] is = tt
fields_stand d n a [] (v ∷ vs) is = cc
fields_stand d n a (x ∷ xs) vs is =
    let o = all_first (symbol_value a (values_of a d.nodes) x) (map (symbol_value a (values_of a d.nodes)) xs) vs is in
    subst (λ us. SymbolsStand bounded_sense d a n (x ∷ xs) us) (sym o.whole)
    (symbol_has d n a x o.first o.first_is, fields_stand d n a xs o.rest o.rest_is)

module _ (types : TypeTable) (d e : Trees) (gs hs : List Gate) (k : ℕ)
    (moves : Moves bounded_sense types d gs e hs k) (a b : ℕ → Bool) (agree : AgreeUpTo (length gs) a b) where
  pub symbol_value_later : (s : Sort) (x : Symbol BoundedTree) (v : Value) → IsSymbol bounded_sense d gs s x
      → symbol_value a (values_of a d.nodes) x ≡ Some v → symbol_value b (values_of b e.nodes) x ≡ Some v
  symbol_value_later s x v of is =
      symbol_is e no_naming b x v (SymbolStands_later bounded_sense types d e gs hs k no_naming a b s x v moves of
      agree (symbol_has d no_naming a x v is))

  pub field_values_later : (ss : List Sort) (xs : List (Symbol BoundedTree)) (vs : List Value)
      → AreSymbols bounded_sense d gs ss xs → field_values a (values_of a d.nodes) xs ≡ Some vs
      → field_values b (values_of b e.nodes) xs ≡ Some vs
  field_values_later ss xs vs of are =
      fields_are e no_naming b xs vs (SymbolsStand_later bounded_sense types d e gs hs k no_naming a b ss xs vs moves
      of agree (fields_stand d no_naming a xs vs are))

-- and had the values that they have later
module _ (types : TypeTable) (d e : Trees) (gs hs : List Gate) (k : ℕ)
    (moves : Moves bounded_sense types d gs e hs k) (a b : ℕ → Bool) (agree : AgreeUpTo (length gs) a b) where
  pub symbol_value_before : (s : Sort) (x : Symbol BoundedTree) (v : Value) → IsSymbol bounded_sense d gs s x
      → symbol_value b (values_of b e.nodes) x ≡ Some v → symbol_value a (values_of a d.nodes) x ≡ Some v
  symbol_value_before sort.Int (symbol.Word w) v of is =
      ap (λ z. Some (value.Int z)) (word_of_agree w32 gs a b w of.1 agree) ∙ is
  symbol_value_before sort.Bool (symbol.Bit l) v of is =
      ap (λ z. Some (value.Bool z)) (lit_agree (length gs) a b l of agree) ∙ is
  symbol_value_before (sort.Tree d) (symbol.Tree t) v of is = (moves.stands no_naming a b t v of.0 agree).1 is
  symbol_value_before sort.Int (symbol.Bit l) v of is = absurd of
  symbol_value_before sort.Int (symbol.Tree t) v of is = absurd of
  symbol_value_before sort.Bool (symbol.Word w) v of is = absurd of
  symbol_value_before sort.Bool (symbol.Tree t) v of is = absurd of
  symbol_value_before (sort.Tree d) (symbol.Word w) v of is = absurd of
  symbol_value_before (sort.Tree d) (symbol.Bit l) v of is = absurd of

  pub field_values_before : (ss : List Sort) (xs : List (Symbol BoundedTree)) (vs : List Value)
      → AreSymbols bounded_sense d gs ss xs → field_values b (values_of b e.nodes) xs ≡ Some vs
      → field_values a (values_of a d.nodes) xs ≡ Some vs
  field_values_before [] [] vs of are = are
  field_values_before [] (x ∷ xs) vs of are = absurd of
  field_values_before (s ∷ ss) [] vs of are = absurd of
  field_values_before (s ∷ ss) (x ∷ xs) vs of are =
      let o = all_first (symbol_value b (values_of b e.nodes) x) (map (symbol_value b (values_of b e.nodes)) xs) vs are
      in
      ap (λ p. all_values (p ∷ map (symbol_value a (values_of a d.nodes)) xs))
      (symbol_value_before s x o.first of.0 o.first_is)
      ∙ ap (prepended o.first) (field_values_before ss xs o.rest of.1 o.rest_is) ∙ ap Some (sym o.whole)

-- one more at the end
pub record LastOfAll (os : List (Option Value)) (o : Option Value) (vs : List Value) : Type 0 where
  pub firsts : List Value
  pub last : Value
  pub firsts_are : all_values os ≡ Some firsts
  pub last_is : o ≡ Some last
  pub whole : vs ≡ firsts ++ last ∷ []

pub last_of_all : (os : List (Option Value)) (o : Option Value) (vs : List Value)
    → all_values (os ++ o ∷ []) ≡ Some vs → LastOfAll os o vs
last_of_all [] o vs all =
    let f = all_first o [] vs all in
    record {
      firsts = [];
      last = f.first;
      firsts_are = refl;
      last_is = f.first_is;
      whole = f.whole ∙ ap (λ us. f.first ∷ us) (list_same f.rest [] (sym f.rest_is));
    }
  where
    list_same : (xs ys : List Value) → Some xs ≡ Some ys → xs ≡ ys
    list_same xs ys e = cc
last_of_all (p ∷ os) o vs all =
    let f = all_first p (os ++ o ∷ []) vs all in
    let l = last_of_all os o f.rest f.rest_is in
    record {
      firsts = f.first ∷ l.firsts;
      last = l.last;
      firsts_are = ap (λ q. all_values (q ∷ os)) f.first_is ∙ ap (prepended f.first) l.firsts_are;
      last_is = l.last_is;
      whole = f.whole ∙ ap (λ us. f.first ∷ us) l.whole;
    }

pub all_push : (os : List (Option Value)) (o : Option Value) (vs : List Value) (v : Value) → all_values os ≡ Some vs
    → o ≡ Some v → all_values (os ++ o ∷ []) ≡ Some (vs ++ v ∷ [])
all_push [] o vs v all is =
    ap (λ p. all_values (p ∷ [])) is ∙ ap (λ (us : List Value). Some (us ++ v ∷ [])) (list_same [] vs all)
  where
    list_same : (xs ys : List Value) → Some xs ≡ Some ys → xs ≡ ys
    list_same xs ys e = cc
all_push (p ∷ os) o vs v all is =
    let f = all_first p os vs all in
    ap (λ q. all_values (q ∷ os ++ o ∷ [])) f.first_is
    ∙ ap (prepended f.first) (all_push os o f.rest v f.rest_is is)
    ∙ ap (λ (us : List Value). Some (us ++ v ∷ [])) (sym f.whole)

pub AreSymbols_push : (d : Trees) (gs : List Gate) (ss : List Sort) (s : Sort) (xs : List (Symbol BoundedTree))
    (x : Symbol BoundedTree) → AreSymbols bounded_sense d gs ss xs → IsSymbol bounded_sense d gs s x
    → AreSymbols bounded_sense d gs (ss ++ s ∷ []) (xs ++ x ∷ [])
AreSymbols_push d gs [] s [] x are is = (is, tt)
AreSymbols_push d gs (r ∷ ss) s (y ∷ xs) x are is = (are.0, AreSymbols_push d gs ss s xs x are.1 is)
AreSymbols_push d gs [] s (y ∷ xs) x are is = absurd are
AreSymbols_push d gs (r ∷ ss) s [] x are is = absurd are

-- the greatest height, where each is at most this
pub greatest_within : (h : ℕ) (xs : List (Symbol BoundedTree))
    → ((j : ℕ) (x : Symbol BoundedTree) → slice_get xs j ≡ Some x → height_of x ≤ h) → greatest (map height_of xs) ≤ h
greatest_within h [] low = omega arith
greatest_within h (x ∷ xs) low =
    let one = low 0 x refl in
    let rest = greatest_within h xs (λ j y at. low (suc j) y at) in omega arith
