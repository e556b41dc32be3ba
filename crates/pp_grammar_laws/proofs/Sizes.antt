-- Sizes and offsets of a unit that is spelled.
use Rattle.pp_grammar.specs.Units.{IsClass, IsDef, IsImport, IsItem, IsItems, IsMember, IsMembers, IsMoreItems}
use Rattle.pp_grammar.specs.Units.{IsMoreMembers, IsObject, IsPackages, Piece, SpellsUnit, case_object, class_decl}
use Rattle.pp_grammar.specs.Units.{class_of, decl_piece, decls_of, import_piece, imports_of, item_class, item_import}
use Rattle.pp_grammar.specs.Units.{item_object, items, library, member_class, member_def, member_import, members}
use Rattle.pp_grammar.specs.Units.{no_items, no_members, no_more_items, no_more_members, no_package, object_of}
use Rattle.pp_grammar.specs.Units.{object_piece, of_object, one_more_item, one_more_member, one_package, root_or_other}
use Rattle.pp_grammar.specs.Units.{unit}
use Rattle.pp_grammar_laws.proofs.SizeDecls.{size_class, size_def}
use Rattle.pp_grammar_laws.proofs.SizeImports.{size_import_text, size_path}
use Rattle.pp_grammar_laws.proofs.SizeTypes.{size_break, size_gap, size_semis}
use Rattle.pp_grammar_laws.proofs.Sized.{OffsetsOf, Ok, tail}
use Rattle.pp_grammar_laws.specs.Laws.{BeginsToken}
use Rattle.pp_tokens.specs.declared.token.Token.{Token}
use Rattle.pp_tree.specs.Count.{DeclsFewCases, UnitFewCases, decl_nodes, decls_nodes, unit_nodes}
use Rattle.pp_tree.specs.Offsets.{DeclsOffsets, ImportsOffsets, UnitOffsets}
use Rattle.pp_tree.specs.Plain.{ClassTree, DeclTree, ParamTree, TypeTree, UnitTree, Word}
use Rattle.std.proofs.Common.{Bool, List, None, Option, Some, [], arith, false, inl, inr, length, refl, subst, suc, sym}
use Rattle.std.proofs.Common.{true, zero, ℕ, ◌++◌, ◌+◌, ◌<◌, ◌∙◌, ◌∷◌, ◌≡◌, ◌≤◌, ◌⊎◌}
use Rattle.std.proofs.lemmas.List.{append_assoc}
use Rattle.std.proofs.lemmas.List.{append_assoc}

root_no_nodes : (ps : List ParamTree) (q : Option TypeTree) (c : ClassTree) → decl_nodes (root_or_other ps q c) ≡ 0
root_no_nodes [] None c = refl
root_no_nodes [] (Some t) c = refl
root_no_nodes (p ∷ ps) q c = refl

class_no_nodes : (sealed case trait : Bool) (c : ClassTree) → decl_nodes (class_decl sealed case trait c) ≡ 0
class_no_nodes true true true c = refl
class_no_nodes true true false c = refl
class_no_nodes false true true c = refl
class_no_nodes false true false c = refl
class_no_nodes true false trait c = root_no_nodes c.fields c.parent c
class_no_nodes false false trait c = refl

module _ (text : Word) (n : ℕ) (P : ℕ → Type 0) where
  -- what holds of pieces
  abbrev PiecesGood : List Piece → Type 0
  PiecesGood ps = ImportsOffsets P (imports_of ps) × DeclsOffsets P (decls_of ps) × DeclsFewCases n (decls_of ps)

  abbrev piece_nodes : List Piece → ℕ
  piece_nodes ps = decls_nodes (decls_of ps)

  pieces_append : (ps qs : List Piece) → PiecesGood ps → PiecesGood qs → PiecesGood (ps ++ qs)
  pieces_append [] qs a b = b
  pieces_append (import_piece i ∷ ps) qs a b =
      let r = pieces_append ps qs (a.0.1, a.1, a.2) b in ((a.0.0, r.0), r.1, r.2)
  pieces_append (object_piece w ∷ ps) qs a b = pieces_append ps qs a b
  pieces_append (decl_piece d ∷ ps) qs a b =
      let r = pieces_append ps qs (a.0, a.1.1, a.2.1) b in (r.0, (a.1.0, r.1), (a.2.0, r.2))

  nodes_append : (ps qs : List Piece) → piece_nodes (ps ++ qs) ≡ piece_nodes ps + piece_nodes qs
  nodes_append [] qs = omega arith
  nodes_append (import_piece i ∷ ps) qs = nodes_append ps qs
  nodes_append (object_piece w ∷ ps) qs = nodes_append ps qs
  nodes_append (decl_piece d ∷ ps) qs = let h = nodes_append ps qs in omega arith

  -- pieces between ts and us: fewer nodes than tokens, or none
  record Pieces (ts us : List Token) (ps : List Piece) : Type 0 where
    good : PiecesGood ps
    left : Ok n P us
    short : length us ≤ length ts
    fewer : (piece_nodes ps ≡ 0) ⊎ (piece_nodes ps + length us < length ts)

  few_of_both : (a b x y z : ℕ) → y ≤ x → z ≤ y → (a ≡ 0) ⊎ (a + y < x) → (b ≡ 0) ⊎ (b + z < y)
      → (a + b ≡ 0) ⊎ ((a + b) + z < x)
  few_of_both a b x y z le lf (inl p) (inl q) = inl (omega arith)
  few_of_both a b x y z le lf (inl p) (inr q) = inr (omega arith)
  few_of_both a b x y z le lf (inr p) (inl q) = inr (omega arith)
  few_of_both a b x y z le lf (inr p) (inr q) = inr (omega arith)

  both : {ts us vs : List Token} (ps qs : List Piece) → Pieces ts us ps → Pieces us vs qs → Pieces ts vs (ps ++ qs)
  both {ts = ts} {us = us} {vs = vs} ps qs a b =
      let l = a.short in let m = b.short in
      let Q : ℕ → Type 0 = λ k. (k ≡ 0) ⊎ (k + length vs < length ts) in
      record {
        good = pieces_append ps qs a.good b.good;
        left = b.left;
        short = omega arith;
        fewer = subst Q (sym (nodes_append ps qs)) (few_of_both (piece_nodes ps) (piece_nodes qs) (length ts)
            (length us) (length vs) l m a.fewer b.fewer);
      }

  none : {ts us : List Token} → Ok n P us → length us ≤ length ts → Pieces ts us []
  none ok le = record { good = (tt, tt, tt); left = ok; short = le; fewer = inl refl }

  fewer_behind : (k x y z : ℕ) → y ≤ x → (k ≡ 0) ⊎ (k + z < y) → (k ≡ 0) ⊎ (k + z < x)
  fewer_behind k x y z le (inl p) = inl p
  fewer_behind k x y z le (inr p) = inr (omega arith)

  fewer_before : (k x y z : ℕ) → z ≤ y → (k ≡ 0) ⊎ (k + y < x) → (k ≡ 0) ⊎ (k + z < x)
  fewer_before k x y z le (inl p) = inl p
  fewer_before k x y z le (inr p) = inr (omega arith)

  -- pieces, with tokens before them
  behind : {ts us vs : List Token} (ps : List Piece) → length us ≤ length ts → Pieces us vs ps → Pieces ts vs ps
  behind {ts = ts} {us = us} {vs = vs} ps le a =
      let m = a.short in
      record {
        good = a.good;
        left = a.left;
        short = omega arith;
        fewer = fewer_behind (piece_nodes ps) (length ts)
            (length us) (length vs) le a.fewer;
      }

  -- .. and behind them
  before : {ts us vs : List Token} (ps : List Piece) → Ok n P vs → length vs ≤ length us → Pieces ts us ps
      → Pieces ts vs ps
  before {ts = ts} {us = us} {vs = vs} ps ok le a =
      let m = a.short in
      record {
        good = a.good;
        left = ok;
        short = omega arith;
        fewer = fewer_before (piece_nodes ps) (length ts)
            (length us) (length vs) le a.fewer;
      }

  def_pieces : {ts us : List Token} {d : DeclTree} → IsDef text ts us d → Ok n P ts → Pieces ts us (decl_piece d ∷ [])
  def_pieces {ts = ts} {us = us} {d = d} r ok =
      let s = size_def text n P r ok in let m = s.small in
      record {
        good = (tt, (s.good.0, tt), (s.good.1, tt));
        left = s.left;
        short = omega (arith, m);
        fewer = inr
            (omega (arith, m));
      }

  class_nodes : {ts us : List Token} {d : DeclTree} → IsClass text ts us d → decl_nodes d ≡ 0
  class_nodes (class_of {m = m} {trait = trait} k z an md is_k is_n tp pl pa) = class_no_nodes m.sealed m.case trait _
  class_nodes (case_object c k z x an is_c is_k is_n is_x r) = refl

  class_pieces : {ts us : List Token} {d : DeclTree} → IsClass text ts us d → Ok n P ts
      → Pieces ts us (decl_piece d ∷ [])
  class_pieces r ok =
      let s = size_class text n P r ok in let m = s.small in let z = class_nodes r in
      record {
        good = (tt, (s.good.0, tt), (s.good.1, tt));
        left = s.left;
        short = omega (arith, m);
        fewer = inl
            (omega (arith, z));
      }

  import_pieces : {ts us : List Token} {ps : List Piece} → IsImport text ts us ps → Ok n P ts → Pieces ts us ps
  import_pieces {ts = ts} {us = us} (library z r lib) ok =
      let s = size_import_text text n P r ok in let le : length us ≤ length ts = omega (arith, s.small) in
      none s.left le
  import_pieces {ts = ts} {us = us} (of_object z r lib) ok =
      let s = size_import_text text n P r ok in let le : length us ≤ length ts = omega (arith, s.small) in
      record { good = ((s.good, tt), tt, tt); left = s.left; short = le; fewer = inl refl }

  member_pieces : {ts us : List Token} {ps : List Piece} → IsMember text ts us ps → Ok n P ts → Pieces ts us ps
  member_pieces (member_import r) ok = import_pieces r ok
  member_pieces (member_class r) ok = class_pieces r ok
  member_pieces (member_def r) ok = def_pieces r ok

  more_members_pieces : {ts us : List Token} {ps : List Piece} → IsMoreMembers text ts us ps → Ok n P ts
      → Pieces ts us ps
  more_members_pieces no_more_members ok = none ok (omega arith)
  more_members_pieces {ts = ts} (one_more_member {us = us} {ps = ps} {qs = qs} sm r rs) ok =
      let s = size_semis text n P sm ok in let a = member_pieces r s.left in
      let le : length us ≤ length ts = omega (arith, s.small) in
      behind (ps ++ qs) le (both ps qs a (more_members_pieces rs a.left))

  members_pieces : {ts us : List Token} {ps : List Piece} → IsMembers text ts us ps → Ok n P ts → Pieces ts us ps
  members_pieces no_members ok = none ok (omega arith)
  members_pieces (members {ps = ps} {qs = qs} r rs) ok =
      let a = member_pieces r ok in both ps qs a (more_members_pieces rs a.left)

  object_pieces : {ts us : List Token} {ps : List Piece} → IsObject text ts us ps → Ok n P ts → Pieces ts us ps
  object_pieces {us = xs} (object_of {ts = ts} {us = us} {vs = vs} {ws = ws} {ps = ps} b z o c is is_n br is_o g ms
      h is_c) ok =
      let s1 = size_break text n P br (tail n P (tail n P ok)) in
      let s2 = size_gap text n P g (tail n P s1.left) in
      let a = members_pieces ms s2.left in
      let s3 = size_gap text n P h a.left in
      let k1 = s1.small in let k2 = s2.small in let k3 = s3.small in
      let le : length xs ≤ length ws = omega (arith, k3) in
      let lf : length vs ≤ length (b ∷ z ∷ ts) = omega (arith, k1, k2) in
      let r : Pieces (b ∷ z ∷ ts) xs ps = behind ps lf (before ps (tail n P s3.left) le a) in
      record { good = r.good; left = r.left; short = r.short; fewer = r.fewer }

  item_pieces : {ts us : List Token} {ps : List Piece} → IsItem text ts us ps → Ok n P ts → Pieces ts us ps
  item_pieces (item_import r) ok = import_pieces r ok
  item_pieces (item_object r) ok = object_pieces r ok
  item_pieces (item_class r) ok = class_pieces r ok

  more_items_pieces : {ts us : List Token} {ps : List Piece} → IsMoreItems text ts us ps → Ok n P ts → Pieces ts us ps
  more_items_pieces no_more_items ok = none ok (omega arith)
  more_items_pieces {ts = ts} (one_more_item {us = us} {ps = ps} {qs = qs} sm r rs) ok =
      let s = size_semis text n P sm ok in let a = item_pieces r s.left in
      let le : length us ≤ length ts = omega (arith, s.small) in
      behind (ps ++ qs) le (both ps qs a (more_items_pieces rs a.left))

  items_pieces : {ts us : List Token} {ps : List Piece} → IsItems text ts us ps → Ok n P ts → Pieces ts us ps
  items_pieces no_items ok = none ok (omega arith)
  items_pieces (items {ps = ps} {qs = qs} r rs) ok =
      let a = item_pieces r ok in both ps qs a (more_items_pieces rs a.left)

  packages_left : {ts us : List Token} → IsPackages text ts us → Ok n P ts → Ok n P us × (length us ≤ length ts)
  packages_left no_package ok = (ok, omega arith)
  packages_left (one_package p is r sm rs) ok =
      let s1 = size_path text n P r (tail n P ok) in let s2 = size_semis text n P sm s1.left in
      let h = packages_left rs s2.left in let k1 = s1.small in let k2 = s2.small in let k3 = h.1 in
      (h.0, omega arith)

  pub record UnitSize (ts : List Token) (u : UnitTree) : Type 0 where
    pub offsets : UnitOffsets P u
    pub cases : UnitFewCases n u
    pub fewer : (unit_nodes u ≡ 0) ⊎ (unit_nodes u + 1 < length ts)

  last_fewer : (k x y : ℕ) → y ≤ x → (k ≡ 0) ⊎ (k + suc zero < y) → (k ≡ 0) ⊎ (k + 1 < x)
  last_fewer k x y le (inl p) = inl p
  last_fewer k x y le (inr p) = inr (omega arith)

  pub unit_size : {ts : List Token} {u : UnitTree} → SpellsUnit text ts u → Ok n P ts → UnitSize ts u
  unit_size {ts = ts} (unit {us = us} {vs = vs} {ws = ws} {ps = ps} e g packages r h is) ok =
      let s1 = size_gap text n P g ok in let p = packages_left packages s1.left in
      let a = items_pieces r p.0 in let s2 = size_gap text n P h a.left in
      let k1 = s1.small in let k2 = p.1 in let k3 = s2.small in
      let le : length (e ∷ []) ≤ length ws = omega (arith, k3) in
      let lf : length vs ≤ length ts = omega (arith, k1, k2) in
      let b : Pieces vs (e ∷ []) ps = before ps s2.left le a in
      record {
        offsets = (b.good.0, b.good.1);
        cases = b.good.2;
        fewer = last_fewer (piece_nodes ps) (length ts)
            (length vs) lf b.fewer;
      }

-- each of the tokens begins where it begins
all_begin : (ts front us : List Token) → ts ≡ front ++ us → OffsetsOf (length ts) (BeginsToken ts) us
all_begin ts front [] e = tt
all_begin ts front (t ∷ us) e = (
  record { front = front; token = t; rest = us; whole = e; place = refl },
  all_begin ts (front ++ t ∷ []) us (e ∙ sym (append_assoc front (t ∷ []) us)),
)

fewer_of : (k n l : ℕ) → l ≡ n + 1 → (k ≡ 0) ⊎ (k + 1 < l) → (k ≡ 0) ⊎ (k < n)
fewer_of k n l is (inl p) = inl p
fewer_of k n l is (inr p) = inr (omega arith)

module _ (text : Word) (ts : List Token) (u : UnitTree) (spelled : SpellsUnit text ts u) where
  size_at : (n : ℕ) → length ts ≤ n + 1 → UnitSize text n (BeginsToken ts) ts u
  size_at n le = unit_size text n (BeginsToken ts) spelled (record { few = le; offsets = all_begin ts [] ts refl })

  -- each offset of a spelled unit begins a token
  pub offsets_begin : UnitOffsets (BeginsToken ts) u
  offsets_begin = (size_at (length ts) (omega arith)).offsets

  -- of n tokens without the end, a unit has fewer nodes of expression, or none
  pub few_nodes : (n : ℕ) → length ts ≡ n + 1 → (unit_nodes u ≡ 0) ⊎ (unit_nodes u < n)
  few_nodes n is = fewer_of (unit_nodes u) n (length ts) is (size_at n (omega arith)).fewer

  -- .. and each match has fewer cases than a quarter of n
  pub few_cases : (n : ℕ) → length ts ≡ n + 1 → UnitFewCases n u
  few_cases n is = (size_at n (omega arith)).cases
