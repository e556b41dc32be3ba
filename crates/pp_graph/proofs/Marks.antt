-- How a front grows.
use Rattle.std.proofs.Common.{◌≡◌, ◌⊎◌, ◌<◌, ◌≤◌, ◌+◌, ℕ, zero, suc, Bool, true, false, List, [], ◌∷◌, ◌++◌, length}
use Rattle.std.proofs.Common.{take, get_or, slice_set, Contains, refl, sym, ap, ◌∙◌, subst, arith, inl, inr, ⊎_elim}
use Rattle.std.proofs.Common.{length-append, append_assoc}
use Rattle.std.proofs.lemmas.List.{take_more, take_all, take-append-le}
use Rattle.std.proofs.lemmas.List.Elements.{Contains-append_left, Contains-append_right, Contains-push}
use Rattle.std.proofs.lemmas.List.Elements.{Contains-push_cases, Contains-append_cases, Contains-get_or}
use Rattle.pp_graph.specs.declared.Front.{Front}
use Rattle.pp_graph.specs.Reaches.{Reaches, by_call, by_more, calls_of}
use Rattle.pp_graph.specs.Rows.{IsRow, marked}
use Rattle.pp_graph.specs.Fronts.{left, unmarked_at, IsFront, Marked}
use Rattle.pp_graph.proofs.Paths.{further, nothing, source_within}

nothing_more : {A : Type 0} (xs : List A) → xs ++ [] ≡ xs
nothing_more [] = refl
nothing_more (x ∷ xs) = ap (λ l. x ∷ l) (nothing_more xs)

pub record Unset (n : ℕ) (marks : List Bool) : Type 0 where
  pub size : length marks ≡ n
  pub count : left marks ≡ n
  pub none : (g : ℕ) → marked marks g ≡ true → ⊥

pub unset_none : Unset 0 []
unset_none = record { size = refl; count = refl; none = λ g h. let x : false ≡ true = h in cc }

left_push : (ms : List Bool) → left (ms ++ false ∷ []) ≡ left ms + 1
left_push [] = refl
left_push (b ∷ ms) = omega (arith, left_push ms)

none_push : (ms : List Bool) → ((g : ℕ) → marked ms g ≡ true → ⊥) → (g : ℕ) → marked (ms ++ false ∷ []) g ≡ true → ⊥
none_push [] h zero e = cc
none_push [] h (suc g) e = let x : false ≡ true = e in cc
none_push (b ∷ ms) h zero e = h zero e
none_push (b ∷ ms) h (suc g) e = none_push ms (λ k. h (suc k)) g e

pub unset_push : (n : ℕ) (ms : List Bool) → Unset n ms → Unset (n + 1) (ms ++ false ∷ [])
unset_push n ms u = record {
  size = omega (arith, length-append ms (false ∷ []), u.size);
  count =
      left_push ms ∙ ap (λ k. k + 1) u.count;
  none = none_push ms u.none;
}

pub front_none : (n : ℕ) (ms : List Bool) → Unset n ms → IsFront n (record { marks = ms; found = [] })
front_none n ms u = record {
  size = u.size;
  count = omega (arith, u.count);
  found_is =
      λ g h. absurd (nothing g h);
  marked_is = λ g h. absurd (u.none g h);
}

pub unmarked_within : (ms : List Bool) (g : ℕ) → unmarked_at ms g ≡ true → (g < length ms) × (marked ms g ≡ false)
unmarked_within [] g h = let x : false ≡ true = h in cc
unmarked_within (false ∷ ms) zero h = (omega arith, refl)
unmarked_within (true ∷ ms) zero h = let x : false ≡ true = h in cc
unmarked_within (b ∷ ms) (suc g) h = let p = unmarked_within ms g h in (omega (arith, p.0), p.1)

pub marked_already : (ms : List Bool) (g : ℕ) → unmarked_at ms g ≡ false → g < length ms → marked ms g ≡ true
marked_already [] g h lt = absurd (omega arith)
marked_already (false ∷ ms) zero h lt = let x : true ≡ false = h in cc
marked_already (true ∷ ms) zero h lt = refl
marked_already (b ∷ ms) (suc g) h lt = marked_already ms g h (omega arith)

pub marked_within : (ms : List Bool) (g : ℕ) → marked ms g ≡ true → g < length ms
marked_within [] g h = let x : false ≡ true = h in cc
marked_within (b ∷ ms) zero h = omega arith
marked_within (b ∷ ms) (suc g) h = omega (arith, marked_within ms g h)

left_set : (ms : List Bool) (g : ℕ) → g < length ms → marked ms g ≡ false → left (slice_set ms g true) + 1 ≡ left ms
left_set [] g lt h = absurd (omega arith)
left_set (b ∷ ms) zero lt h = rw h (omega arith)
left_set (b ∷ ms) (suc g) lt h = omega (arith, left_set ms g (omega arith) h)

set_same : (ms : List Bool) (g : ℕ) → g < length ms → marked (slice_set ms g true) g ≡ true
set_same [] g lt = absurd (omega arith)
set_same (b ∷ ms) zero lt = refl
set_same (b ∷ ms) (suc g) lt = set_same ms g (omega arith)

set_keeps : (ms : List Bool) (g k : ℕ) → marked ms k ≡ true → marked (slice_set ms g true) k ≡ true
set_keeps [] g k h = h
set_keeps (b ∷ ms) zero zero h = refl
set_keeps (b ∷ ms) zero (suc k) h = h
set_keeps (b ∷ ms) (suc g) zero h = h
set_keeps (b ∷ ms) (suc g) (suc k) h = set_keeps ms g k h

set_only : (ms : List Bool) (g k : ℕ) → marked (slice_set ms g true) k ≡ true → (g ≡ k) ⊎ (marked ms k ≡ true)
set_only [] g k h = inr h
set_only (b ∷ ms) zero zero h = inl refl
set_only (b ∷ ms) zero (suc k) h = inr h
set_only (b ∷ ms) (suc g) zero h = inr h
set_only (b ∷ ms) (suc g) (suc k) h = ⊎_elim (λ e. inl (ap suc e)) (λ m. inr m) (set_only ms g k h)

length_set : (ms : List Bool) (g : ℕ) → length (slice_set ms g true) ≡ length ms
length_set [] g = refl
length_set (b ∷ ms) zero = refl
length_set (b ∷ ms) (suc g) = omega (arith, length_set ms g)

pub stays : (s : Front) (g : ℕ) → IsFront (length s.marks) s → unmarked_at s.marks g ≡ false → Marked s (g ∷ []) s
stays s g f h = record {
  more = [];
  is = sym (nothing_more s.found);
  front = f;
  all = λ k c lt. ⊎_elim (λ z. absurd (nothing k z))
      (λ e. subst (λ n. Contains s.found n) e
      (f.marked_is g (marked_already s.marks g h (subst (λ n. n < length s.marks) (sym e) lt))))
      (Contains-push_cases [] g k c);
  only = λ k c. inl c;
}

pub grows : (s : Front) (g : ℕ) → IsFront (length s.marks) s → unmarked_at s.marks g ≡ true
    → Marked s (g ∷ []) (record { marks = slice_set s.marks g true; found = s.found ++ g ∷ [] })
grows s g f u =
    let p = unmarked_within s.marks g u in
    record {
      more = g ∷ [];
      is = refl;
      front = record {
        size = length_set s.marks g;
        count = omega (arith, length-append s.found (g ∷ []), left_set s.marks g p.0 p.1, f.count);
        found_is = λ k c. ⊎_elim (λ o. set_keeps s.marks g k (f.found_is k o))
            (λ e. subst (λ n. marked (slice_set s.marks g true) n ≡ true) e (set_same s.marks g p.0))
            (Contains-push_cases s.found g k c);
        marked_is = λ k m. ⊎_elim (λ e. subst (λ n. Contains (s.found ++ g ∷ []) n) e (Contains-push s.found g))
            (λ o. Contains-append_left s.found (g ∷ []) k (f.marked_is k o)) (set_only s.marks g k m);
      };
      all = λ k c lt. Contains-append_right s.found (g ∷ []) k c;
      only = λ k c. Contains-append_cases s.found (g ∷ []) k c;
    }

pub marked_none : (s : Front) → IsFront (length s.marks) s → Marked s [] s
marked_none s f = record {
  more = [];
  is = sym (nothing_more s.found);
  front = f;
  all =
      λ k c lt. absurd (nothing k c);
  only = λ k c. inl c;
}

pub marked_then : (old s all : Front) (gs : List ℕ) (g : ℕ) → Marked old gs s → Marked s (g ∷ []) all
    → Marked old (gs ++ g ∷ []) all
marked_then old s all gs g a b = record {
  more = a.more ++ b.more;
  is = b.is ∙ ap (λ l. l ++ b.more) a.is ∙ append_assoc old.found a.more b.more;
  front = subst (λ n. IsFront n all) a.front.size b.front;
  all = λ k c lt. ⊎_elim (λ o. subst (λ l. Contains l k) (sym b.is)
      (Contains-append_left s.found b.more k (a.all k o lt)))
      (λ o. b.all k o (subst (λ n. k < n) (sym a.front.size) lt)) (Contains-append_cases gs (g ∷ []) k c);
  only = λ k c. ⊎_elim (λ o. ⊎_elim (λ p. inl p) (λ q. inr (Contains-append_left gs (g ∷ []) k q)) (a.only k o))
      (λ q. inr (Contains-append_right gs (g ∷ []) k q)) (b.only k c);
}

-- after next of the found ones have been looked at
pub record Stage (calls : List (List ℕ)) (f : ℕ) (next : ℕ) (s : Front) : Type 0 where
  pub front : IsFront (length calls) s
  pub looked : next ≤ length s.found
  pub reached : (g : ℕ) → Contains s.found g → Reaches calls f g
  pub started : (g : ℕ) → Contains (calls_of calls f) g → g < length calls → Contains s.found g
  pub closed : (g h : ℕ) → Contains (take next s.found) g → Contains (calls_of calls g) h → h < length calls
      → Contains s.found h

after_call : (calls : List (List ℕ)) (f g h : ℕ) → Reaches calls f g → Contains (calls_of calls g) h → Reaches calls f h
after_call calls f g h r c = further calls f g h r (by_call g h c)

module _ (calls : List (List ℕ)) (f : ℕ) where
  pub stage_start : (old s : Front) → old.found ≡ [] → length old.marks ≡ length calls → Marked old (calls_of calls f) s
      → Stage calls f 0 s
  stage_start old s none size m = record {
    front = subst (λ n. IsFront n s) size m.front;
    looked = omega arith;
    reached = λ g c. ⊎_elim (λ o. absurd (nothing g (subst (λ l. Contains l g) none o))) (by_call f g) (m.only g c);
    started = λ g c lt. m.all g c (subst (λ n. g < n) (sym size) lt);
    closed = λ g h c used_by lt. absurd (nothing g c);
  }

  pub stage_turn : (next : ℕ) (s all : Front) (g : ℕ) → Stage calls f next s → next < length s.found
      → g ≡ get_or s.found next g → Marked s (calls_of calls g) all → Stage calls f (next + 1) all
  stage_turn next s all g st lt is m = record {
    front = subst (λ n. IsFront n all) st.front.size m.front;
    looked = omega (arith, ap length m.is, length-append s.found m.more);
    reached = λ h c. ⊎_elim (st.reached h) (after_call calls f g h (st.reached g has_g)) (m.only h c);
    started = λ h c in_graph. wider h (st.started h c in_graph);
    closed = λ k h c used_by in_graph. ⊎_elim (λ o. wider h (st.closed k h o used_by in_graph))
        (λ e. m.all h (subst (λ z. Contains (calls_of calls z) h) (sym e) used_by)
        (subst (λ n. h < n) (sym st.front.size) in_graph))
        (Contains-push_cases (take next s.found) g k (subst (λ l. Contains l k) looked_at c));
  }
    where
      has_g : Contains s.found g
      has_g = subst (λ z. Contains s.found z) (sym is) (Contains-get_or s.found next g lt)

      looked_at : take (next + 1) all.found ≡ take next s.found ++ g ∷ []
      looked_at = ap (take (next + 1)) m.is ∙ take-append-le (next + 1) s.found m.more (omega arith)
          ∙ take_more s.found next g lt ∙ ap (λ z. take next s.found ++ z ∷ []) (sym is)

      wider : (n : ℕ) → Contains s.found n → Contains all.found n
      wider n has = subst (λ l. Contains l n) (sym m.is) (Contains-append_left s.found m.more n has)

  closed_on : (s : Front)
      → ((g h : ℕ) → Contains s.found g → Contains (calls_of calls g) h → h < length calls → Contains s.found h)
      → (g h : ℕ) → Contains s.found g → Reaches calls g h → h < length calls → Contains s.found h
  closed_on s closed _ _ has (by_call g h c) lt = closed g h has c lt
  closed_on s closed _ _ has (by_more g k h c r) lt =
      closed_on s closed k h (closed g k has c (source_within calls k h r)) r lt

  pub stage_end : (next : ℕ) (s : Front) → Stage calls f next s → length s.found ≤ next → IsRow calls f s.marks
  stage_end next s st over = record {
    size = st.front.size;
    tells = λ g lt. (λ m. st.reached g (st.front.marked_is g m), λ r. st.front.found_is g (all f g refl r lt));
  }
    where
      closed : (g h : ℕ) → Contains s.found g → Contains (calls_of calls g) h → h < length calls → Contains s.found h
      closed g h c used_by lt =
          st.closed g h (subst (λ l. Contains l g) (sym (take_all next s.found over)) c) used_by lt

      all : (k g : ℕ) → k ≡ f → Reaches calls k g → g < length calls → Contains s.found g
      all _ _ is (by_call k g c) lt = st.started g (subst (λ z. Contains (calls_of calls z) g) is c) lt
      all _ _ is (by_more k g h c r) lt =
          closed_on s closed g h (st.started g (subst (λ z. Contains (calls_of calls z) g) is c)
          (source_within calls g h r)) r lt

pub any_default : (xs : List ℕ) (i d e : ℕ) → i < length xs → get_or xs i d ≡ get_or xs i e
any_default [] i d e lt = absurd (omega arith)
any_default (x ∷ xs) zero d e lt = refl
any_default (x ∷ xs) (suc i) d e lt = any_default xs i d e (omega arith)

pub stage_within : (calls : List (List ℕ)) (f next g : ℕ) (s : Front) → Stage calls f next s → next < length s.found
    → g ≡ get_or s.found next 0 → g < length calls
stage_within calls f next g s st lt is =
    let has = subst (λ z. Contains s.found z) (sym is) (Contains-get_or s.found next 0 lt) in
    subst (λ n. g < n) st.front.size (marked_within s.marks g (st.front.found_is g has))
