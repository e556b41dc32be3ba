-- Sums that are cut at the greatest number.
use Rattle.std.proofs.Common.{◌≡◌, ◌<◌, ◌≤◌, ◌+◌, ℕ, zero, suc, List, [], ◌∷◌, ◌++◌, map, take, length, get_or}
use Rattle.std.proofs.Common.{slice_set, refl, sym, ap, ◌∙◌, arith, append_assoc}
use Rattle.std.specs.Prelude.{sum}
use Rattle.std.proofs.lemmas.List.{append-nil, map-append, take_more}
use Rattle.std.proofs.lemmas.List.Sums.{sum_by-append}
use Rattle.pp_list.specs.Joined.{joined}
use Rattle.pp_prog.specs.declared.sort.Sort.{Sort}
use Rattle.pp_prog.specs.declared.types.Ctor.{Ctor}
use Rattle.pp_prog.specs.declared.id.DataId.{DataId}
use Rattle.pp_prog.specs.declared.sort.Sort.TheVariants as sort
use Rattle.pp_prog.specs.declared.types.TypeTable.{TypeTable}
use Rattle.pp_prog.specs.Sizes.{bits, ctors_of, nodes, sorts_in_ctor, width}
use Rattle.pp_estimate.specs.declared.sizes.Size.{Size}
use Rattle.pp_estimate.specs.Bounds.{size, sizes}
use Rattle.pp_estimate.specs.Counted.{add_at, plus, plus_each}
use Rattle.pp_estimate.specs.Cut.{cut}

-- a size of so many bits and nodes
abbrev pub of : ℕ → ℕ → Size
of b n = record { bits = b; nodes = n }

pub cut_sum : (a b : ℕ) → cut (cut a + cut b) ≡ cut (a + b)
cut_sum a b = omega arith

sum_append : (f : Sort → ℕ) (xs ys : List Sort) → sum (map f (xs ++ ys)) ≡ sum (map f xs) + sum (map f ys)
sum_append f xs ys = ap sum (map-append f xs ys) ∙ sum_by-append (λ (x : ℕ). x) (map f xs) (map f ys)

joined_push : (cs : List Ctor) (c : Ctor) → joined (map sorts_in_ctor (cs ++ c ∷ []))
    ≡ joined (map sorts_in_ctor cs) ++ c.fields
joined_push [] c = append-nil c.fields
joined_push (d ∷ cs) c = ap (λ (l : List Sort). d.fields ++ l) (joined_push cs c)
    ∙ sym (append_assoc d.fields (joined (map sorts_in_ctor cs)) c.fields)

-- the fields of one constructor more
pub fields_more : (f : Sort → ℕ) (cs : List Ctor) (i : ℕ) (c : Ctor) → i < length cs → c ≡ get_or cs i c
    → sum (map f (joined (map sorts_in_ctor (take (i + 1) cs))))
    ≡ sum (map f (joined (map sorts_in_ctor (take i cs)))) + sum (map f c.fields)
fields_more f cs i c lt is =
    ap (λ (l : List Ctor). sum (map f (joined (map sorts_in_ctor l))))
    (take_more cs i c lt ∙ ap (λ (k : Ctor). take i cs ++ k ∷ []) (sym is))
    ∙ ap (λ (l : List Sort). sum (map f l)) (joined_push (take i cs) c)
    ∙ sum_append f (joined (map sorts_in_ctor (take i cs))) c.fields

pub set_add : (xs : List ℕ) (i x n : ℕ) → i < length xs → x ≡ plus (get_or xs i 0) n → slice_set xs i x ≡ add_at xs i n
set_add [] i x n lt is = absurd (omega arith)
set_add (y ∷ xs) zero x n lt is = ap (λ (z : ℕ). z ∷ xs) is
set_add (y ∷ xs) (suc i) x n lt is = ap (λ (l : List ℕ). y ∷ l) (set_add xs i x n (omega arith) is)

pub add_past : (xs : List ℕ) (i n : ℕ) → length xs ≤ i → xs ≡ add_at xs i n
add_past [] i n le = refl
add_past (y ∷ xs) zero n le = absurd (omega arith)
add_past (y ∷ xs) (suc i) n le = ap (λ (l : List ℕ). y ∷ l) (add_past xs i n (omega arith))

pub plus_each_none : (xs : List ℕ) → xs ≡ plus_each xs []
plus_each_none [] = refl
plus_each_none (x ∷ xs) = refl

each_more : (xs ys : List ℕ) (i : ℕ) → i < length ys
    → add_at (plus_each xs (take i ys)) i (get_or ys i 0) ≡ plus_each xs (take (suc i) ys)
each_more [] ys i lt = refl
each_more (x ∷ xs) [] i lt = absurd (omega arith)
each_more (x ∷ xs) (y ∷ ys) zero lt = ap (λ (l : List ℕ). plus x y ∷ l) (plus_each_none xs)
each_more (x ∷ xs) (y ∷ ys) (suc i) lt = ap (λ (l : List ℕ). plus x y ∷ l) (each_more xs ys i (omega arith))

pub plus_each_more : (xs ys : List ℕ) (i : ℕ) → i < length ys
    → add_at (plus_each xs (take i ys)) i (get_or ys i 0) ≡ plus_each xs (take (i + 1) ys)
plus_each_more xs ys i lt =
    let one : suc i ≡ i + 1 = omega arith in
    each_more xs ys i lt ∙ ap (λ (k : ℕ). plus_each xs (take k ys)) one

cut_more : (a b c : ℕ) → c ≡ a + b → cut (cut a + cut b) ≡ cut c
cut_more a b c e = omega (arith, e)

both_cut : (a b c d : ℕ) → a ≡ c → b ≡ d → of a b ≡ of c d
both_cut a b c d e f = ap (λ (n : ℕ). of n b) e ∙ ap (λ (n : ℕ). of c n) f

-- the size of one constructor more
pub size_more : (types : TypeTable) (h : ℕ) (cs : List Ctor) (i : ℕ) (c : Ctor) (total part next : Size) → i < length cs
    → c ≡ get_or cs i c → total ≡ sizes types h (joined (map sorts_in_ctor (take i cs))) → part ≡ sizes types h c.fields
    → next ≡ of (cut (total.bits + part.bits)) (cut (total.nodes + part.nodes))
    → next ≡ sizes types h (joined (map sorts_in_ctor (take (i + 1) cs)))
size_more types h cs i c total part next lt is t p e =
    e ∙ ap (λ (z : Size). of (cut (z.bits + part.bits)) (cut (z.nodes + part.nodes))) t
    ∙ ap (λ (z : Size). let a = sizes types h (joined (map sorts_in_ctor (take i cs))) in of (cut (a.bits + z.bits))
    (cut (a.nodes + z.nodes))) p
    ∙ both_cut _ _ _ _ (cut_more _ _ _ (fields_more (bits types h) cs i c lt is))
    (cut_more _ _ _ (fields_more (nodes types h) cs i c lt is))

-- the size of a datatype, of that of its fields one less high
pub size_tree : (types : TypeTable) (h : ℕ) (d : DataId) (cs : List Ctor) (inner next : Size) → cs ≡ ctors_of types d
    → inner ≡ sizes types h (joined (map sorts_in_ctor cs))
    → next ≡ of (cut (length cs + inner.bits)) (cut (1 + inner.nodes)) → next ≡ size types (h + 1) (sort.Tree d)
size_tree types h d cs inner next is i e =
    let one : suc h ≡ h + 1 = omega arith in
    e ∙ ap (λ (z : Size). of (cut (length cs + z.bits)) (cut (1 + z.nodes))) i
    ∙ both_cut _ _ _ _ (cut_right (length cs) (sum (map (bits types h) (joined (map sorts_in_ctor cs)))))
    (cut_right 1 (sum (map (nodes types h) (joined (map sorts_in_ctor cs)))))
    ∙ ap (λ (l : List Ctor). of (cut (length l + sum (map (bits types h) (joined (map sorts_in_ctor l)))))
    (cut (1 + sum (map (nodes types h) (joined (map sorts_in_ctor l)))))) is
    ∙ ap (λ (k : ℕ). size types k (sort.Tree d)) one
  where
    cut_right : (a b : ℕ) → cut (a + cut b) ≡ cut (a + b)
    cut_right a b = omega arith

-- a sum with the fields of one constructor more
pub flat_more : (n : ℕ) (cs : List Ctor) (i : ℕ) (c : Ctor) (total part next : ℕ) → i < length cs → c ≡ get_or cs i c
    → total ≡ cut (n + sum (map width (joined (map sorts_in_ctor (take i cs))))) → part ≡ cut (sum (map width c.fields))
    → next ≡ cut (total + part) → next ≡ cut (n + sum (map width (joined (map sorts_in_ctor (take (i + 1) cs)))))
flat_more n cs i c total part next lt is t p e = omega (arith, fields_more width cs i c lt is, t, p, e)
