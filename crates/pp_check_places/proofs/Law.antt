-- Two checks of one function differ in kind or in place.
use Rattle.std.proofs.Common.{◌≡◌, ◌<◌, ◌≤◌, ◌-◌, ℕ, suc, List, [], ◌∷◌, map, All, Some, option_map, IsCharBoundary}
use Rattle.std.proofs.Common.{IsUtf8, refl, sym, ap, ◌∙◌, subst, arith, inl, inr}
use Rattle.std.specs.Prelude.{slice_get}
use Rattle.std.proofs.lemmas.List.Elements.{All-contains}
use Rattle.std.proofs.lemmas.Option.{same_Some, slice_get-get_or, slice_get-map}
use Rattle.pp_check_places.proofs.Apart.{one_place}
use Rattle.pp_check_places.proofs.Offsets.{place_tells_offset}
use Rattle.pp_check_places.proofs.Rows.{AreRows, Kind, Rises, Row, entry_kind, placed, row_kind, rows_of}
use Rattle.pp_instances.specs.Order.{MemberOf, Precedes}
use Rattle.pp_instances.specs.declared.member.Decl.TheVariants.{Function}
use Rattle.pp_instances.specs.declared.member.Instance.{Instance}
use Rattle.pp_instances.specs.declared.member.Member.{Member}
use Rattle.pp_mono.specs.Concrete.{IsConcrete, function_members, place_of_check, root_members}
use Rattle.pp_mono.specs.Laws.{PlacesTellChecks}
use Rattle.pp_order.proofs.Laws.{mapped}
use Rattle.pp_order.proofs.Listing.{at_place}
use Rattle.pp_prog.proofs.Sure.{is_valid}
use Rattle.pp_prog.specs.Valid.{entry}
use Rattle.pp_prog.specs.declared.check.Check.{Check}
use Rattle.pp_prog.specs.declared.place.Place.{Place}
use Rattle.pp_prog.specs.declared.program.Program.{Program}
use Rattle.pp_text.specs.Place.{place_of}
use Rattle.pp_translation.specs.Functions.{place_at, place_in_text}
use Rattle.pp_typed.specs.Apart.{AreApart}
use Rattle.pp_typed.specs.Stand.{Offset, Stands, TypedStands}
use Rattle.pp_typed.specs.declared.typed.Typed.{Typed}

-- ---- places tell offsets

source_of : Place → ℕ
source_of z = z.source

spot_of : Place → ℕ × ℕ
spot_of z = (z.line, z.column)

place_is : (texts : List (List ℕ)) (o : Offset) (s : Stands texts o)
    → place_at texts o ≡ place_in_text o.0 o.1 (Some s.text)
place_is texts o s = ap (place_in_text o.0 o.1) s.of_source

pub same_offset : (texts : List (List ℕ)) (o q : Offset) → All IsUtf8 texts → Stands texts o → Stands texts q
    → place_at texts o ≡ place_at texts q → o ≡ q
unfolding source_of spot_of
same_offset texts o q utf8 s t same =
    let places = sym (place_is texts o s) ∙ same ∙ place_is texts q t in
    let sources : o.0 ≡ q.0 = ap source_of places in
    let text : s.text ≡ t.text =
    same_Some _ _ (sym s.of_source ∙ ap (λ n. slice_get texts (n - 1)) sources ∙ t.of_source) in
    let spots : place_of s.text o.1 ≡ place_of s.text q.1 = ap spot_of places ∙ ap (λ l. place_of l q.1) (sym text) in
    let at : o.1 ≡ q.1 =
    place_tells_offset s.text o.1 q.1
    (All-contains IsUtf8 texts s.text utf8 (at_place texts (o.0 - 1) s.text s.of_source))
    s.boundary (subst (λ l. IsCharBoundary l q.1) (sym text) t.boundary) spots in
    ap (λ n. (n, o.1)) sources ∙ ap (λ n. (q.0, n)) at

-- ---- numbers of declarations don't fall

rises : (is : List Instance)
    → ((i j : ℕ) (a b : Instance) → i < j → slice_get is i ≡ Some a → slice_get is j ≡ Some b → a.number ≤ b.number)
    → Rises is
rises [] up = tt
rises (i ∷ is) up = (
  λ j has. up 0 (suc has.0) i j (omega arith) refl (slice_get-get_or is has.0 j has.1 ∙ ap Some has.2),
  rises is (λ m n a b lt there here. up (suc m) (suc n) a b (omega arith) there here),
)

precedes_up : (typed : Typed) (kind : MemberOf) (a b : Instance) → Precedes typed kind a b → a.number ≤ b.number
precedes_up typed kind a b (inl less) = omega (arith, less)
precedes_up typed kind a b (inr same) = let e = same.0 in omega (arith, e)

-- ---- the row of a check

module _ (typed : Typed) (texts : List (List ℕ)) (p : Program) (roots functions : List Member) where
  record IsRowOf (rows : List Row) (i : ℕ) (c : Check) : Type 0 where
    pub row : Row
    pub there : slice_get rows i ≡ Some row
    pub kind : row_kind row ≡ (c.function.0, c.kind)
    pub place : place_at texts row.1.1 ≡ c.place

  row_of : (rows : List Row) → map row_kind rows ≡ map entry_kind (map entry p.checks)
      → map (placed typed texts p roots functions) rows ≡ map place_of_check p.checks → (i : ℕ) (c : Check)
      → slice_get p.checks i ≡ Some c → IsRowOf rows i c
  row_of rows kinds places i c at =
      let kind_there : option_map row_kind (slice_get rows i) ≡ Some (c.function.0, c.kind) =
      sym (slice_get-map row_kind rows i) ∙ ap (λ l. slice_get l i) kinds
      ∙ slice_get-map entry_kind (map entry p.checks) i
      ∙ ap (option_map entry_kind) (slice_get-map entry p.checks i ∙ ap (option_map entry) at) in
      let r = mapped row_kind (slice_get rows i) (c.function.0, c.kind) kind_there in
      let place_there : Some (placed typed texts p roots functions r.0) ≡ Some c.place =
      sym (slice_get-map (placed typed texts p roots functions) rows i
      ∙ ap (option_map (placed typed texts p roots functions)) r.1)
      ∙ ap (λ l. slice_get l i) places ∙ slice_get-map place_of_check p.checks i ∙ ap (option_map place_of_check) at in
      record { row = r.0; there = r.1; kind = r.2; place = same_Some _ _ place_there }

-- ---- the rows of a program

module _ (typed : Typed) (texts : List (List ℕ)) (p : Program) (stands : TypedStands texts typed)
    (apart : AreApart typed) (concrete : IsConcrete typed texts p) where
  abbrev roots_in : List Member
  roots_in = root_members concrete.roots

  abbrev functions_in : List Member
  functions_in = function_members concrete.functions

  all_rows : AreRows typed texts p roots_in functions_in 0 p.functions concrete.functions
  all_rows =
      rows_of typed texts p roots_in functions_in apart.apart stands 0 p.functions concrete.functions
      concrete.has_functions p.sorted
      (rises concrete.functions
      (λ m n x y lt one other. precedes_up typed Function x y
      (concrete.listed.functions.in_order m n x y lt one other)))

  own_row : (i : ℕ) (c : Check) → slice_get p.checks i ≡ Some c
      → IsRowOf typed texts p roots_in functions_in all_rows.rows i c
  own_row =
      row_of typed texts p roots_in functions_in all_rows.rows
      (all_rows.kinds ∙ ap (map entry_kind) (sym (is_valid p).listed)) (all_rows.places ∙ sym concrete.has_places)

  -- the offset of a row
  row_stands : (i : ℕ) (c : Check) (r : IsRowOf typed texts p roots_in functions_in all_rows.rows i c)
      → Stands texts r.row.1.1
  row_stands i c r = all_rows.stands r.row (at_place all_rows.rows i r.row r.there)

  -- each check is placed at an offset of a text
  pub checks_stand : (i : ℕ) (c : Check) → slice_get p.checks i ≡ Some c
      → (o : Offset) × Stands texts o × (place_at texts o ≡ c.place)
  checks_stand i c at = let r = own_row i c at in (r.row.1.1, row_stands i c r, r.place)

pub places_tell_checks : PlacesTellChecks
places_tell_checks typed texts p stands apart utf8 concrete i j a b there here same_function same_kind same_place =
    let all = all_rows typed texts p stands apart concrete in
    let r = own_row typed texts p stands apart concrete i a there in
    let q = own_row typed texts p stands apart concrete j b here in
    let numbers : r.row.0 ≡ q.row.0 =
    ap (λ (k : Kind). k.0) r.kind ∙ ap (λ f. f.0) same_function ∙ sym (ap (λ (k : Kind). k.0) q.kind) in
    let of : r.row.1.0 ≡ q.row.1.0 =
    ap (λ (k : Kind). k.1) r.kind ∙ same_kind ∙ sym (ap (λ (k : Kind). k.1) q.kind) in
    let offsets : r.row.1.1 ≡ q.row.1.1 =
    same_offset texts r.row.1.1 q.row.1.1 utf8 (row_stands typed texts p stands apart concrete i a r)
    (row_stands typed texts p stands apart concrete j b q) (r.place ∙ same_place ∙ sym q.place) in
    let rows : r.row ≡ q.row =
    ap (λ n. (n, r.row.1)) numbers ∙ ap (λ k. (q.row.0, (k, r.row.1.1))) of
    ∙ ap (λ o. (q.row.0, (q.row.1.0, o))) offsets in
    one_place all.rows i j q.row all.differ (r.there ∙ ap Some rows) q.there
