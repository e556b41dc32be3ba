-- One constructor that is chosen from two sides, and the gates.
use Rattle.std.proofs.Common.{◌≡◌, ℕ, zero, suc, ◌+◌, ◌≤◌, ◌&&◌, Bool, true, false, not, if◌then◌else◌, List, length}
use Rattle.std.proofs.Common.{take, Option, Some, None, refl, sym, ap, ◌∙◌, subst, arith, slice_get}
use Rattle.std.proofs.lemmas.Option.{same_Some}
use Rattle.pp_prog.specs.declared.id.CtorId.{CtorId}
use Rattle.pp_prog.specs.declared.id.DataId.{DataId}
use Rattle.pp_prog.specs.declared.sort.Sort.{Sort}
use Rattle.pp_prog.specs.declared.types.Ctor.{Ctor}
use Rattle.pp_prog.specs.declared.types.Datatype.{Datatype}
use Rattle.pp_prog.specs.declared.types.TypeTable.{TypeTable}
use Rattle.pp_prog.specs.declared.value.Value.{Value}
use Rattle.pp_prog.specs.Sizes.{ctors_of}
use Rattle.pp_clause.specs.Literal.{Literal, lit_value, opposite}
use Rattle.pp_gate.specs.declared.gate.Gate.{Gate}
use Rattle.pp_gate.specs.Circuit.{Gives, StandsFor}
use Rattle.pp_gate.proofs.Agreement.{Gives_old}
use Rattle.pp_gate.proofs.Growing.{IsOf_more}
use Rattle.pp_gate.proofs.Places.{at_some}
use Rattle.pp_bits.proofs.Numbers.{lit_value_negated}
use Rattle.pp_domain.specs.Moves.{Moves}
use Rattle.pp_domain.specs.Symbols.{AreSymbols}
use Rattle.pp_domain.proofs.Symbols.{AreSymbols_later}
use Rattle.pp_bounded_trees.specs.declared.arena.Alternative.{Alternative}
use Rattle.pp_bounded_trees.specs.declared.arena.Trees.{Trees}
use Rattle.pp_bounded_trees.specs.Alternatives.{found}
use Rattle.pp_bounded_trees.specs.Arena.{FieldsFit}
use Rattle.pp_bounded_trees.specs.Possible.{field_bits, total}
use Rattle.pp_bounded_trees.specs.Meaning.{bounded_sense}
use Rattle.pp_bounded_merge.specs.Merge.{AreAlternatives, AreChosen, AreLow, AreOfSorts, IsMerged, IsMergedCtor}
use Rattle.pp_bounded_merge.specs.Merge.{is_true, joined_bits, merged_bits}
use Rattle.pp_bounded_trees.specs.Values.{field_values, values_of}
use Rattle.pp_bounded_trees.proofs.Candidates.{ctor_in_block, total_taken}
use Rattle.pp_bounded_merge.proofs.Chosen.{fields_within}
use Rattle.pp_bounded_merge.proofs.MergedCtors.{FoundCtor, found_ctor, same_entry}

-- the gates
module _ (types : TypeTable) (d : Trees) (gs : List Gate) (of : DataId) (h : ℕ) (xs ys : List Alternative)
    (left : AreAlternatives types d gs of (suc h) xs) (right : AreAlternatives types d gs of (suc h) ys) where
  pub joined_within : (c : ℕ) (k : Ctor) → slice_get types.ctors c ≡ Some k
      → joined_bits types (found c xs) (found c ys) ≤ 1 + field_bits types h k
  joined_within c k at = by (found c xs) (found c ys) refl refl
    where
      by : (o p : Option Alternative) → found c xs ≡ o → found c ys ≡ p
          → joined_bits types o p ≤ 1 + field_bits types h k
      by None None e f = omega arith
      by None (Some y) e f = omega arith
      by (Some x) None e f = omega arith
      by (Some x) (Some y) e f =
          let p = found_ctor types d gs of h xs c x left e in
          let q = found_ctor types d gs of h ys c y right f in
          let same : q.entry ≡ p.entry = same_entry types d gs of h c x y p q in
          let own : p.entry ≡ k = same_Some p.entry k (sym p.at ∙ at) in
          let w = fields_within types gs d.nodes (length d.nodes) h p.entry.fields x.fields y.fields p.fits
          (subst (λ (l : Ctor). FieldsFit gs d.nodes (length d.nodes) (suc h) l.fields y.fields) same q.fits) in
          let r = ap (field_bits types h) own in
          omega arith

  pub merged_within : (t : Datatype) → slice_get types.datatypes of.0 ≡ Some t → (n : ℕ)
      → n ≤ length (ctors_of types of)
      → merged_bits types xs ys t.first.0 n ≤ n + total (field_bits types h) (take n (ctors_of types of))
  merged_within t is zero le = omega arith
  merged_within t is (suc n) le =
      let before = merged_within t is n (omega arith) in
      let k = at_some (ctors_of types of) n (omega arith) in
      let own = joined_within (t.first.0 + n) k.0 (ctor_in_block types of t n k.0 is k.1).0 in
      let taken = total_taken (field_bits types h) (ctors_of types of) n k.0 k.1 in
      let e : suc n ≡ n + 1 = omega arith in
      let f = ap (λ m. total (field_bits types h) (take m (ctors_of types of))) e in
      omega arith

  -- ---- one constructor
  module _ (e : Trees) (g1 hs : List Gate) (m k : ℕ) (gate : Moves bounded_sense types d gs d g1 m)
      (moves : Moves bounded_sense types d g1 e hs k) (choice : Literal) (c : CtorId) where
    abbrev pub both_sorts : (x y : Alternative) → Some x ≡ found c.0 xs → Some y ≡ found c.0 ys
        → AreOfSorts d g1 x.fields y.fields
    both_sorts x y on_xs on_ys = record {
      sorts = (found_ctor types d gs of h xs c.0 x left (sym on_xs)).entry.fields;
      left =
          let p = found_ctor types d gs of h xs c.0 x left (sym on_xs) in
          AreSymbols_later bounded_sense types d d gs g1 m p.entry.fields x.fields gate p.symbols;
      right =
          let p = found_ctor types d gs of h xs c.0 x left (sym on_xs) in
          let q = found_ctor types d gs of h ys c.0 y right (sym on_ys) in
          AreSymbols_later bounded_sense types d d gs g1 m p.entry.fields y.fields gate
          (subst (λ (l : Ctor). AreSymbols bounded_sense d gs l.fields y.fields)
          (same_entry types d gs of h c.0 x y p q) q.symbols);
    }

    pub merged_both : (x y z : Alternative) → (on_xs : Some x ≡ found c.0 xs) → (on_ys : Some y ≡ found c.0 ys)
        → z.ctor ≡ c → StandsFor g1 z.lit (λ a. if lit_value a choice then lit_value a x.lit else lit_value a y.lit)
        → ((s : AreOfSorts d g1 x.fields y.fields) → AreChosen e hs choice s.sorts x.fields y.fields z.fields)
        → IsMergedCtor types e hs choice of h xs ys c (Some z)
    merged_both x y z on_xs on_ys ctor stands chosen = record {
      absent = λ none. cc;
      there = λ w some.
          let same : z ≡ w = same_Some z w some in
          subst (λ (v : Alternative). (v.ctor ≡ c) × IsMerged types e hs choice of h xs ys v) same (ctor, own);
    }
      where
        p : FoundCtor types d gs of h c.0 x
        p = found_ctor types d gs of h xs c.0 x left (sym on_xs)

        q : FoundCtor types d gs of h c.0 y
        q = found_ctor types d gs of h ys c.0 y right (sym on_ys)

        number : z.ctor.0 ≡ c.0
        number = ap (λ (b : CtorId). b.0) ctor

        on_left : Some x ≡ found z.ctor.0 xs
        on_left = on_xs ∙ ap (λ n. found n xs) (sym number)

        on_right : Some y ≡ found z.ctor.0 ys
        on_right = on_ys ∙ ap (λ n. found n ys) (sym number)

        later : (w : Alternative) (ss : List Sort) → AreSymbols bounded_sense d gs ss w.fields
            → AreSymbols bounded_sense e hs ss w.fields
        later w ss are =
            AreSymbols_later bounded_sense types d e g1 hs k ss w.fields moves
            (AreSymbols_later bounded_sense types d d gs g1 m ss w.fields gate are)

        sides : (b : Bool) (w : Alternative) → found z.ctor.0 (if b then xs else ys) ≡ Some w
            → AreSymbols bounded_sense e hs p.entry.fields w.fields
        sides true w is =
            subst (λ (v : Alternative). AreSymbols bounded_sense e hs p.entry.fields v.fields)
            (same_Some x w (on_left ∙ is)) (later x p.entry.fields p.symbols)
        sides false w is =
            subst (λ (v : Alternative). AreSymbols bounded_sense e hs p.entry.fields v.fields)
            (same_Some y w (on_right ∙ is))
            (later y p.entry.fields (subst (λ (l : Ctor). AreSymbols bounded_sense d gs l.fields y.fields)
            (same_entry types d gs of h c.0 x y p q) q.symbols))

        means : (a : ℕ → Bool) (b : Bool) (w : Alternative) (vs : List Value) → Gives a hs → lit_value a choice ≡ b
            → found z.ctor.0 (if b then xs else ys) ≡ Some w
            → field_values a (values_of a e.nodes) w.fields ≡ Some vs
            → field_values a (values_of a e.nodes) z.fields ≡ Some vs
        means a true w vs gives side is stand =
            (chosen (both_sorts x y on_xs on_ys)).means a true vs gives side
            (ap (λ (v : Alternative). field_values a (values_of a e.nodes) v.fields) (same_Some x w (on_left ∙ is))
            ∙ stand)
        means a false w vs gives side is stand =
            (chosen (both_sorts x y on_xs on_ys)).means a false vs gives side
            (ap (λ (v : Alternative). field_values a (values_of a e.nodes) v.fields) (same_Some y w (on_right ∙ is))
            ∙ stand)

        own : IsMerged types e hs choice of h xs ys z
        own = record {
          lit = record {
            of = IsOf_more g1 hs k z.lit moves.grows stands.of;
            value = λ a gives.
                stands.value a (Gives_old g1 hs k moves.grows a gives)
                ∙ (λ i. if lit_value a choice then is_true a (on_left i) else is_true a (on_right i));
          };
          entry = p.entry;
          at = ap (slice_get types.ctors) number ∙ p.at;
          data_of = p.data_of;
          symbols = (chosen (both_sorts x y on_xs on_ys)).of;
          low = (chosen (both_sorts x y on_xs on_ys)).heights h p.low q.low;
          sides = sides;
          means = means;
        }

  -- one side alone has it
  module _ (hs : List Gate) (m : ℕ) (gate : Moves bounded_sense types d gs d hs m) (choice : Literal) (c : CtorId)
      (z : Alternative) (ctor : z.ctor ≡ c) where
    abbrev number : z.ctor.0 ≡ c.0
    number = ap (λ (b : CtorId). b.0) ctor

    pub merged_left : (x : Alternative) → Some x ≡ found c.0 xs → None ≡ found c.0 ys
        → StandsFor hs z.lit (λ a. lit_value a choice && lit_value a x.lit) → z.fields ≡ x.fields
        → IsMergedCtor types d hs choice of h xs ys c (Some z)
    merged_left x on_xs none stands fields = record {
      absent = λ e. cc;
      there = λ w some.
          let same : z ≡ w = same_Some z w some in
          subst (λ (v : Alternative). (v.ctor ≡ c) × IsMerged types d hs choice of h xs ys v) same (ctor, own);
    }
      where
        p : FoundCtor types d gs of h c.0 x
        p = found_ctor types d gs of h xs c.0 x left (sym on_xs)

        on_left : Some x ≡ found z.ctor.0 xs
        on_left = on_xs ∙ ap (λ n. found n xs) (sym number)

        on_right : None ≡ found z.ctor.0 ys
        on_right = none ∙ ap (λ n. found n ys) (sym number)

        both : (b l : Bool) → (b && l) ≡ (if b then l else false)
        both true l = refl
        both false l = refl

        symbols : AreSymbols bounded_sense d hs p.entry.fields x.fields
        symbols = AreSymbols_later bounded_sense types d d gs hs m p.entry.fields x.fields gate p.symbols

        sides : (b : Bool) (w : Alternative) → found z.ctor.0 (if b then xs else ys) ≡ Some w
            → AreSymbols bounded_sense d hs p.entry.fields w.fields
        sides true w is =
            subst (λ (v : Alternative). AreSymbols bounded_sense d hs p.entry.fields v.fields)
            (same_Some x w (on_left ∙ is)) symbols
        sides false w is = let n : None ≡ Some w = on_right ∙ is in cc

        means : (a : ℕ → Bool) (b : Bool) (w : Alternative) (vs : List Value)
            → found z.ctor.0 (if b then xs else ys) ≡ Some w
            → field_values a (values_of a d.nodes) w.fields ≡ Some vs
            → field_values a (values_of a d.nodes) z.fields ≡ Some vs
        means a true w vs is stand =
            ap (field_values a (values_of a d.nodes)) fields
            ∙ ap (λ (v : Alternative). field_values a (values_of a d.nodes) v.fields) (same_Some x w (on_left ∙ is))
            ∙ stand
        means a false w vs is stand = let n : None ≡ Some w = on_right ∙ is in cc

        own : IsMerged types d hs choice of h xs ys z
        own = record {
          lit = record {
            of = stands.of;
            value = λ a gives.
                stands.value a gives ∙ both (lit_value a choice) (lit_value a x.lit)
                ∙ (λ i. if lit_value a choice then is_true a (on_left i) else is_true a (on_right i));
          };
          entry = p.entry;
          at = ap (slice_get types.ctors) number ∙ p.at;
          data_of = p.data_of;
          symbols = subst (λ ws. AreSymbols bounded_sense d hs p.entry.fields ws) (sym fields) symbols;
          low = subst (λ ws. AreLow h ws) (sym fields) p.low;
          sides = sides;
          means = λ a b w vs gives side is stand. means a b w vs is stand;
        }

    pub merged_right : (y : Alternative) (turned : Literal) → None ≡ found c.0 xs → Some y ≡ found c.0 ys
        → turned ≡ opposite choice
        → StandsFor hs z.lit (λ a. lit_value a turned && lit_value a y.lit) → z.fields ≡ y.fields
        → IsMergedCtor types d hs choice of h xs ys c (Some z)
    merged_right y turned none on_ys negated stands fields = record {
      absent = λ e. cc;
      there = λ w some.
          let same : z ≡ w = same_Some z w some in
          subst (λ (v : Alternative). (v.ctor ≡ c) × IsMerged types d hs choice of h xs ys v) same (ctor, own);
    }
      where
        q : FoundCtor types d gs of h c.0 y
        q = found_ctor types d gs of h ys c.0 y right (sym on_ys)

        on_left : None ≡ found z.ctor.0 xs
        on_left = none ∙ ap (λ n. found n xs) (sym number)

        on_right : Some y ≡ found z.ctor.0 ys
        on_right = on_ys ∙ ap (λ n. found n ys) (sym number)

        both : (b l : Bool) → (not b && l) ≡ (if b then false else l)
        both true l = refl
        both false l = refl

        symbols : AreSymbols bounded_sense d hs q.entry.fields y.fields
        symbols = AreSymbols_later bounded_sense types d d gs hs m q.entry.fields y.fields gate q.symbols

        sides : (b : Bool) (w : Alternative) → found z.ctor.0 (if b then xs else ys) ≡ Some w
            → AreSymbols bounded_sense d hs q.entry.fields w.fields
        sides true w is = let n : None ≡ Some w = on_left ∙ is in cc
        sides false w is =
            subst (λ (v : Alternative). AreSymbols bounded_sense d hs q.entry.fields v.fields)
            (same_Some y w (on_right ∙ is)) symbols

        means : (a : ℕ → Bool) (b : Bool) (w : Alternative) (vs : List Value)
            → found z.ctor.0 (if b then xs else ys) ≡ Some w
            → field_values a (values_of a d.nodes) w.fields ≡ Some vs
            → field_values a (values_of a d.nodes) z.fields ≡ Some vs
        means a true w vs is stand = let n : None ≡ Some w = on_left ∙ is in cc
        means a false w vs is stand =
            ap (field_values a (values_of a d.nodes)) fields
            ∙ ap (λ (v : Alternative). field_values a (values_of a d.nodes) v.fields) (same_Some y w (on_right ∙ is))
            ∙ stand

        own : IsMerged types d hs choice of h xs ys z
        own = record {
          lit = record {
            of = stands.of;
            value = λ a gives.
                stands.value a gives
                ∙ ap (λ (b : Bool). b && lit_value a y.lit) (lit_value_negated a turned choice negated)
                ∙ both (lit_value a choice) (lit_value a y.lit)
                ∙ (λ i. if lit_value a choice then is_true a (on_left i) else is_true a (on_right i));
          };
          entry = q.entry;
          at = ap (slice_get types.ctors) number ∙ q.at;
          data_of = q.data_of;
          symbols = subst (λ ws. AreSymbols bounded_sense d hs q.entry.fields ws) (sym fields) symbols;
          low = subst (λ ws. AreLow h ws) (sym fields) q.low;
          sides = sides;
          means = λ a b w vs gives side is stand. means a b w vs is stand;
        }
