-- Constructors that are chosen from two sides: one, and one after another.
use Rattle.std.proofs.Common.{◌≡◌, ℕ, zero, suc, ◌+◌, ◌≤◌, Bool, true, false, if◌then◌else◌, List, [], ◌∷◌, ◌++◌}
use Rattle.std.proofs.Common.{length, Option, Some, None, sym, ap, ◌∙◌, subst, arith, slice_get, inl, inr}
use Rattle.std.proofs.lemmas.Bool.{cases_lt}
use Rattle.std.proofs.lemmas.Option.{same_Some, slice_get_within}
use Rattle.pp_prog.specs.declared.id.CtorId.{CtorId}
use Rattle.pp_prog.specs.declared.id.DataId.{DataId}
use Rattle.pp_prog.specs.declared.sort.Sort.{Sort}
use Rattle.pp_prog.specs.declared.sort.Sort.TheVariants as sort
use Rattle.pp_prog.specs.declared.types.Ctor.{Ctor}
use Rattle.pp_prog.specs.declared.types.TypeTable.{TypeTable}
use Rattle.pp_clause.specs.Literal.{Literal, lit_value}
use Rattle.pp_gate.specs.declared.gate.Gate.{Gate}
use Rattle.pp_gate.specs.Circuit.{Gives, IsOf}
use Rattle.pp_gate.proofs.Agreement.{Gives_old}
use Rattle.pp_gate.proofs.Growing.{IsOf_more}
use Rattle.pp_gate.proofs.Places.{at_left, at_next, at_push}
use Rattle.pp_domain.specs.declared.symbol.Symbol.{Symbol}
use Rattle.pp_domain.specs.declared.symbol.Symbol.TheVariants as symbol
use Rattle.pp_domain.specs.Moves.{Moves}
use Rattle.pp_domain.specs.Symbols.{AreSymbols}
use Rattle.pp_domain.proofs.Symbols.{AreSymbols_later}
use Rattle.pp_domain.proofs.Composition.{agree_self}
use Rattle.pp_bounded_trees.specs.declared.arena.Alternative.{Alternative}
use Rattle.pp_bounded_trees.specs.declared.arena.Trees.{Trees}
use Rattle.pp_bounded_trees.specs.declared.arena.BoundedTree.{BoundedTree}
use Rattle.pp_bounded_trees.specs.declared.arena.Node.{Node}
use Rattle.pp_bounded_trees.specs.Alternatives.{found}
use Rattle.pp_bounded_trees.specs.Arena.{FieldFits, FieldsFit, height_of}
use Rattle.pp_bounded_trees.specs.Meaning.{bounded_sense}
use Rattle.pp_bounded_merge.specs.Merge.{AreAlternatives, AreLow, IsMerged, IsMergedCtor, MergedBefore, is_true}
use Rattle.pp_bounded_trees.proofs.Found.{found_some}
use Rattle.pp_bounded_trees.proofs.Kept.{field_values_before, field_values_later}
use Rattle.pp_bounded_trees.proofs.Reading.{field_is}

-- fields of a node are symbols of the domain, and lower than it
pub fields_are_symbols : (d : Trees) (gs : List Gate) (k h : ℕ) (ss : List Sort) (xs : List (Symbol BoundedTree))
    → k ≤ length d.nodes → FieldsFit gs d.nodes k h ss xs → AreSymbols bounded_sense d gs ss xs
fields_are_symbols d gs k h [] [] within fits = tt
fields_are_symbols d gs k h [] (x ∷ xs) within fits = absurd fits
fields_are_symbols d gs k h (s ∷ ss) [] within fits = absurd fits
fields_are_symbols d gs k h (s ∷ ss) (x ∷ xs) within fits =
    (field_is d gs k h s x within fits.0, fields_are_symbols d gs k h ss xs within fits.1)

field_low : (gs : List Gate) (nodes : List Node) (k h : ℕ) (s : Sort) (x : Symbol BoundedTree)
    → FieldFits gs nodes k (suc h) s x → height_of x ≤ h
field_low gs nodes k h s (symbol.Word w) fits = omega arith
field_low gs nodes k h s (symbol.Bit l) fits = omega arith
field_low gs nodes k h (sort.Tree of) (symbol.Tree t) fits =
    let l = fits.2 in omega arith
field_low gs nodes k h sort.Int (symbol.Tree t) fits = absurd fits
field_low gs nodes k h sort.Bool (symbol.Tree t) fits = absurd fits

pub fields_low : (gs : List Gate) (nodes : List Node) (k h : ℕ) (ss : List Sort) (xs : List (Symbol BoundedTree))
    → FieldsFit gs nodes k (suc h) ss xs → AreLow h xs
fields_low gs nodes k h [] [] fits j x at = cc
fields_low gs nodes k h [] (y ∷ xs) fits j x at = absurd fits
fields_low gs nodes k h (s ∷ ss) [] fits j x at = absurd fits
fields_low gs nodes k h (s ∷ ss) (y ∷ xs) fits zero x at =
    let e = ap height_of (same_Some y x at) in
    let l = field_low gs nodes k h s y fits.0 in omega arith
fields_low gs nodes k h (s ∷ ss) (y ∷ xs) fits (suc j) x at = fields_low gs nodes k h ss xs fits.1 j x at

module _ (types : TypeTable) (d : Trees) (gs : List Gate) where
  -- what is known of a constructor that is found
  pub record FoundCtor (of : DataId) (h : ℕ) (c : ℕ) (y : Alternative) : Type 0 where
    pub entry : Ctor
    pub at : slice_get types.ctors c ≡ Some entry
    pub data_of : entry.of ≡ of
    pub lit_of : IsOf gs y.lit
    pub fits : FieldsFit gs d.nodes (length d.nodes) (suc h) entry.fields y.fields
    pub symbols : AreSymbols bounded_sense d gs entry.fields y.fields
    pub low : AreLow h y.fields

  pub found_ctor : (of : DataId) (h : ℕ) (xs : List Alternative) (c : ℕ) (y : Alternative)
      → AreAlternatives types d gs of (suc h) xs → found c xs ≡ Some y → FoundCtor of h c y
  found_ctor of h xs c y are is =
      let f = found_some c xs y is in
      let a = are f.place y f.at in
      record {
        entry = a.entry;
        at = ap (slice_get types.ctors) (sym f.ctor) ∙ a.at;
        data_of = a.data_of;
        lit_of = a.lit_of;
        fits = a.fields;
        symbols = fields_are_symbols d gs (length d.nodes) (suc h) a.entry.fields y.fields (omega arith) a.fields;
        low = fields_low gs d.nodes (length d.nodes) h a.entry.fields y.fields a.fields;
      }

  -- one constructor has one entry
  pub same_entry : (of : DataId) (h c : ℕ) (x y : Alternative) → (p : FoundCtor of h c x) → (q : FoundCtor of h c y)
      → q.entry ≡ p.entry
  same_entry of h c x y p q = same_Some q.entry p.entry (sym q.at ∙ p.at)

module _ (types : TypeTable) (d e : Trees) (gs hs : List Gate) (k : ℕ)
    (moves : Moves bounded_sense types d gs e hs k) (choice : Literal) (of : DataId) (h : ℕ)
    (xs ys : List Alternative) where
  -- later
  pub IsMerged_later : (z : Alternative) → IsMerged types d gs choice of h xs ys z
      → IsMerged types e hs choice of h xs ys z
  IsMerged_later z now = record {
    lit = record {
      of = IsOf_more gs hs k z.lit moves.grows now.lit.of;
      value = λ a gives. now.lit.value a (Gives_old gs hs k moves.grows a gives);
    };
    entry = now.entry;
    at = now.at;
    data_of = now.data_of;
    symbols = AreSymbols_later bounded_sense types d e gs hs k now.entry.fields z.fields moves now.symbols;
    low = now.low;
    sides = λ b y is.
        AreSymbols_later bounded_sense types d e gs hs k now.entry.fields y.fields moves (now.sides b y is);
    means = λ a b y vs gives side is stand.
        field_values_later types d e gs hs k moves a a (agree_self (length gs) a) now.entry.fields z.fields vs
        now.symbols (now.means a b y vs (Gives_old gs hs k moves.grows a gives) side is
        (field_values_before types d e gs hs k moves a a (agree_self (length gs) a) now.entry.fields y.fields vs
        (now.sides b y is) stand));
  }

  pub MergedBefore_later : (first i : ℕ) (zs : List Alternative) → MergedBefore types d gs choice of h xs ys first i zs
      → MergedBefore types e hs choice of h xs ys first i zs
  MergedBefore_later first i zs now = record {
    each = λ j z at. IsMerged_later z (now.each j z at);
    low = now.low;
    order = now.order;
    all = now.all;
  }

module _ (types : TypeTable) (e : Trees) (hs : List Gate) (choice : Literal) (of : DataId) (h : ℕ)
    (xs ys : List Alternative) (first : ℕ) where
  pub MergedBefore_none : (zs : List Alternative) → zs ≡ [] → MergedBefore types e hs choice of h xs ys first 0 zs
  MergedBefore_none zs empty =
      subst (λ ws. MergedBefore types e hs choice of h xs ys first 0 ws) (sym empty) (record {
        each = λ j z at. absurd (nothing j z at);
        low = λ j z at. absurd (nothing j z at);
        order = λ m j y z lt one other. absurd (nothing m y one);
        all = λ b c j y lt n is. absurd (omega arith);
      })
    where
      nothing : (j : ℕ) (z : Alternative) → slice_get [] j ≡ Some z → ⊥
      nothing j z at = cc

  module _ (i : ℕ) (c : CtorId) (o : Option Alternative) (zs : List Alternative) (number : c.0 ≡ first + i)
      (before : MergedBefore types e hs choice of h xs ys first i zs)
      (own : IsMergedCtor types e hs choice of h xs ys c o) where
    -- neither side has the next one
    pub MergedBefore_skip : o ≡ None → MergedBefore types e hs choice of h xs ys first (i + 1) zs
    MergedBefore_skip none = record {
      each = before.each;
      low = λ j z at. let l = before.low j z at in omega arith;
      order = before.order;
      all = λ b n j y lt is has. elim (cases_lt j i) [
        | inl less ↦ before.all b n j y less is has
        | inr last ↦
            let same : n ≡ c.0 = (let e : j ≡ i = omega arith in is ∙ ap (λ m. first + m) e ∙ sym number) in
            absurd (absent b y (ap (λ m. found m (if b then xs else ys)) (sym same) ∙ has))
      ];
    }
      where
        absent : (b : Bool) (y : Alternative) → found c.0 (if b then xs else ys) ≡ Some y → ⊥
        absent true y has = let n : None ≡ Some y = sym (own.absent none).0 ∙ has in cc
        absent false y has = let n : None ≡ Some y = sym (own.absent none).1 ∙ has in cc

    -- one side has it
    pub MergedBefore_push : (ws : List Alternative) (z : Alternative) → o ≡ Some z → ws ≡ zs ++ z ∷ []
        → MergedBefore types e hs choice of h xs ys first (i + 1) ws
    MergedBefore_push ws z some push =
        subst (λ us. MergedBefore types e hs choice of h xs ys first (i + 1) us) (sym push) (record {
          each = λ j y at. elim (at_push zs z j y at) [
            | inl old ↦ before.each j y old
            | inr new ↦ subst (λ (w : Alternative). IsMerged types e hs choice of h xs ys w) new.1 (own.there z some).1
          ];
          low = λ j y at. elim (at_push zs z j y at) [
            | inl old ↦ (let l = before.low j y old in omega arith)
            | inr new ↦ (let n = its y new.1 in omega arith)
          ];
          order = λ m j y w lt one other. elim (at_push zs z j w other) [
            | inl old ↦ elim (at_push zs z m y one) [
              | inl older ↦ before.order m j y w lt older old
              | inr last ↦ absurd (let p = slice_get_within zs j w old in let q = last.0 in omega arith)
            ]
            | inr new ↦ elim (at_push zs z m y one) [
              | inl older ↦ (let l = before.low m y older in let n = its w new.1 in omega arith)
              | inr last ↦ absurd (let p = last.0 in let q = new.0 in omega arith)
            ]
          ];
          all = λ b n j y lt is has. elim (cases_lt j i) [
            | inl less ↦ (let old = before.all b n j y less is has in
                (old.0, old.1, at_left zs (z ∷ []) old.0 old.1 old.2, old.3))
            | inr last ↦ (
              length zs,
              z,
              at_next zs [] z,
              (let e : j ≡ i = omega arith in
                  ap (λ (w : CtorId). w.0) (own.there z some).0 ∙ number ∙ ap (λ m. first + m) (sym e) ∙ sym is),
            )
          ];
        })
      where
        its : (y : Alternative) → z ≡ y → y.ctor.0 ≡ first + i
        its y e = ap (λ (w : Alternative). w.ctor.0) (sym e) ∙ ap (λ (w : CtorId). w.0) (own.there z some).0 ∙ number

-- the literal of the chosen side
pub merged_lit : (types : TypeTable) (e : Trees) (hs : List Gate) (choice : Literal) (of : DataId) (h : ℕ)
    (xs ys : List Alternative) (z : Alternative) (a : ℕ → Bool) (b : Bool)
    → IsMerged types e hs choice of h xs ys z → Gives a hs → lit_value a choice ≡ b
    → lit_value a z.lit ≡ is_true a (found z.ctor.0 (if b then xs else ys))
merged_lit types e hs choice of h xs ys z a true m gives is =
    m.lit.value a gives
    ∙ ap (λ (c : Bool). if c then is_true a (found z.ctor.0 xs) else is_true a (found z.ctor.0 ys)) is
merged_lit types e hs choice of h xs ys z a false m gives is =
    m.lit.value a gives
    ∙ ap (λ (c : Bool). if c then is_true a (found z.ctor.0 xs) else is_true a (found z.ctor.0 ys)) is
