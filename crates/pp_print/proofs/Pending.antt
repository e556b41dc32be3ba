-- Pieces that are pending: one more, the fields of a tree, and a piece that was printed.
use Rattle.std.proofs.Common.{◌≡◌, ◌∙◌, ℕ, ◌+◌, ◌*◌, ◌-◌, ◌<◌, ◌≤◌, List, [], ◌∷◌, ◌++◌, map, refl, sym, ap, subst}
use Rattle.std.proofs.Common.{arith, append-nil, Bool, false, Option, Some, None, append_assoc, drop, take, length}
use Rattle.std.proofs.Common.{get_or, codes}
use Rattle.std.specs.Prelude.{cond}
use Rattle.std.specs.List.{concat}
use Rattle.std.proofs.lemmas.List.{drop_more, take_all}
use Rattle.std.proofs.lemmas.List.Sums.{sum_by-cons, sum_by_push}
use Rattle.pp_prog.specs.declared.types.Ctor.{Ctor}
use Rattle.pp_prog.specs.declared.value.Value.{Value}
use Rattle.pp_store.specs.Sizes.{size}
use Rattle.pp_print.specs.declared.value.Piece.{Piece}
use Rattle.pp_print.specs.declared.value.Piece.TheVariants.{Close}
use Rattle.pp_print.specs.Pending.{AddsFields, Prints, piece_text, sizes, text_left, work, work_left}
use Rattle.pp_print.specs.Values.{Text, after_comma, in_brackets, joined, tree_text, value_text}

-- the texts behind a comma
abbrev pub after_commas : List Ctor → List Value → Text
after_commas ctors vs = concat (map after_comma (map (value_text ctors) vs))

-- a piece more comes first
pub text_push : (ctors : List Ctor) (ps : List Piece) (p : Piece)
    → text_left ctors (ps ++ p ∷ []) ≡ piece_text ctors p ++ text_left ctors ps
text_push ctors [] p = sym (append-nil (piece_text ctors p))
text_push ctors (q ∷ qs) p =
    ap (λ (t : Text). t ++ piece_text ctors q) (text_push ctors qs p)
    ∙ append_assoc (piece_text ctors p) (text_left ctors qs) (piece_text ctors q)

-- ---- the fields

-- the bracket and the fields from this one on are pending
pub record IsAdding (pending left : List Piece) (fields : List Value) : Type 0 where
  pub text : (ctors : List Ctor)
      → text_left ctors left ≡ after_commas ctors fields ++ (codes ")" ++ text_left ctors pending)
  pub work : work_left left ≡ work_left pending + (2 * sizes fields + 1)

pub adding_none : (pending left : List Piece) (fields : List Value) → fields ≡ [] → left ≡ pending ++ Close ∷ []
    → IsAdding pending left fields
adding_none pending left fields e grows =
    record {
      text = λ ctors. ap (text_left ctors) grows ∙ text_push ctors pending Close
          ∙ ap (λ (vs : List Value). after_commas ctors vs ++ (codes ")" ++ text_left ctors pending)) (sym e);
      work = omega (arith, ap work_left grows, sum_by_push work pending Close, ap sizes e);
    }

pub adding_more : (pending left more : List Piece) (fields rest : List Value) (p : Piece) (v : Value)
    → IsAdding pending left rest → more ≡ left ++ p ∷ [] → fields ≡ v ∷ rest
    → ((ctors : List Ctor) → piece_text ctors p ≡ after_comma (value_text ctors v)) → work p ≡ 2 * size v
    → IsAdding pending more fields
adding_more pending left more fields rest p v is grows e text n =
    record {
      text = λ ctors. ap (text_left ctors) grows ∙ text_push ctors left p
          ∙ ap (λ (t : Text). t ++ text_left ctors left) (text ctors)
          ∙ ap (λ (t : Text). after_comma (value_text ctors v) ++ t) (is.text ctors)
          ∙ sym (append_assoc (after_comma (value_text ctors v)) (after_commas ctors rest)
          (codes ")" ++ text_left ctors pending))
          ∙ ap (λ (vs : List Value). after_commas ctors vs ++ (codes ")" ++ text_left ctors pending)) (sym e);
      work = omega (
        arith,
        ap work_left grows,
        sum_by_push work left p,
        n,
        is.work,
        ap sizes e,
        sum_by-cons size v rest,
      );
    }

pub no_fields : (pending left : List Piece) (fields : List Value) → fields ≡ [] → left ≡ pending ++ Close ∷ []
    → AddsFields pending left fields
no_fields pending left fields e grows =
    record {
      text = λ ctors. ap (text_left ctors) grows ∙ text_push ctors pending Close
          ∙ ap (λ (vs : List Value). joined (map (value_text ctors) vs) ++ (codes ")" ++ text_left ctors pending))
          (sym e);
      work = omega (arith, ap work_left grows, sum_by_push work pending Close, ap sizes e);
    }

pub first_field : (pending left more : List Piece) (fields rest : List Value) (p : Piece) (v : Value)
    → IsAdding pending left rest → more ≡ left ++ p ∷ [] → fields ≡ v ∷ rest
    → ((ctors : List Ctor) → piece_text ctors p ≡ value_text ctors v) → work p ≡ 2 * size v
    → AddsFields pending more fields
first_field pending left more fields rest p v is grows e text n =
    record {
      text = λ ctors. ap (text_left ctors) grows ∙ text_push ctors left p
          ∙ ap (λ (t : Text). t ++ text_left ctors left) (text ctors)
          ∙ ap (λ (t : Text). value_text ctors v ++ t) (is.text ctors)
          ∙ sym (append_assoc (value_text ctors v) (after_commas ctors rest) (codes ")" ++ text_left ctors pending))
          ∙ ap (λ (vs : List Value). joined (map (value_text ctors) vs) ++ (codes ")" ++ text_left ctors pending))
          (sym e);
      work = omega (
        arith,
        ap work_left grows,
        sum_by_push work left p,
        n,
        is.work,
        ap sizes e,
        sum_by-cons size v rest,
      );
    }

-- ---- what was printed

-- a text in front
pub prints_behind : (ctors : List Ctor) (front text : Text) (n : ℕ) (pending left : List Piece) (old mid new : Text)
    → mid ≡ old ++ front → Prints ctors text n pending left mid new
    → Prints ctors (front ++ text) n pending left old new
prints_behind ctors front text n pending left old mid new e is =
    record {
      printed = is.printed ∙ ap (λ (t : Text). t ++ (text ++ text_left ctors pending)) e
          ∙ append_assoc old front (text ++ text_left ctors pending)
          ∙ ap (λ (t : Text). old ++ t) (sym (append_assoc front text (text_left ctors pending)));
      less = is.less;
    }

-- a constructor with a name in front of its fields, and one that isn't there
module _ (ctors : List Ctor) (o : Option Ctor) (fields : List Value) (pending left : List Piece) (old new : Text) where
  abbrev fields_text : Text
  fields_text = in_brackets (map (value_text ctors) fields)

  abbrev whole_text : Text
  whole_text = tree_text o (map (value_text ctors) fields)

  tree_as : (text : Text) → text ≡ whole_text → Prints ctors text (2 * sizes fields + 2) pending left old new
      → Prints ctors whole_text (2 * sizes fields + 2) pending left old new
  tree_as text e is = subst (λ (t : Text). Prints ctors t (2 * sizes fields + 2) pending left old new) e is

  pub prints_named : (ctor : Ctor) (mid : Text) → Some ctor ≡ o → ctor.object ≡ false → mid ≡ old ++ ctor.name
      → Prints ctors fields_text (2 * sizes fields + 2) pending left mid new
      → Prints ctors whole_text (2 * sizes fields + 2) pending left old new
  prints_named ctor mid there object e is =
      tree_as (ctor.name ++ fields_text)
      (sym (ap (λ (b : Bool). cond b ctor.name (ctor.name ++ fields_text)) object)
      ∙ ap (λ (p : Option Ctor). tree_text p (map (value_text ctors) fields)) there)
      (prints_behind ctors ctor.name fields_text (2 * sizes fields + 2) pending left old mid new e is)

  pub prints_unnamed : None ≡ o → Prints ctors fields_text (2 * sizes fields + 2) pending left old new
      → Prints ctors whole_text (2 * sizes fields + 2) pending left old new
  prints_unnamed none is =
      tree_as fields_text (ap (λ (p : Option Ctor). tree_text p (map (value_text ctors) fields)) none) is

-- ---- the loop

-- what was printed, with what is pending, is the text
pub record IsPrinting (ctors : List Ctor) (whole : Text) (pending : List Piece) (out : Text) : Type 0 where
  pub text : out ++ text_left ctors pending ≡ whole

pub printing_next : (ctors : List Ctor) (whole : Text) (pending rest left : List Piece) (p : Piece) (old new : Text)
    → IsPrinting ctors whole pending old → pending ≡ rest ++ p ∷ []
    → Prints ctors (piece_text ctors p) (work p) rest left old new → IsPrinting ctors whole left new
printing_next ctors whole pending rest left p old new is popped made =
    record {
      text = made.printed ∙ ap (λ (t : Text). old ++ t) (sym (ap (text_left ctors) popped ∙ text_push ctors rest p))
          ∙ is.text;
    }

pub printed : (ctors : List Ctor) (whole : Text) (pending : List Piece) (out : Text)
    → IsPrinting ctors whole pending out → pending ≡ [] → out ≡ whole
printed ctors whole pending out is e =
    sym (append-nil out) ∙ ap (λ (ps : List Piece). out ++ text_left ctors ps) (sym e) ∙ is.text

-- ---- parts of lists

pub no_element : {A : Type 0} (xs : List A) → length xs < 1 → xs ≡ []
no_element [] lt = refl
no_element (x ∷ xs) lt = absurd (omega (arith, lt))

pub first_of : (vs : List Value) (v : Value) → 1 ≤ length vs → v ≡ get_or vs 0 v
    → vs ≡ v ∷ take (length vs - 1) (drop 1 vs)
first_of [] v lt is = absurd (omega (arith, lt))
first_of (w ∷ ws) v lt is =
    let rest : take (length (w ∷ ws) - 1) ws ≡ ws = take_all (length (w ∷ ws) - 1) ws (omega arith) in
    let same : v ≡ w = is in cc

pub one_before : (vs : List Value) (i : ℕ) (v : Value) → 0 < i → i ≤ length vs → v ≡ get_or vs (i - 1) v
    → drop (i - 1) vs ≡ v ∷ drop i vs
one_before vs i v lt le is =
    let next : (i - 1) + 1 ≡ i = omega (arith, lt) in
    drop_more vs (i - 1) v (omega (arith, lt, le)) ∙ ap (λ j. get_or vs (i - 1) v ∷ drop j vs) next
    ∙ ap (λ (w : Value). w ∷ drop i vs) (sym is)
