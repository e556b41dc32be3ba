-- Marks that say which variables of a scope are inside a parameter.
use Rattle.std.proofs.Common.{◌≡◌, ◌↔◌, ◌⊎◌, ◌<◌, ◌≤◌, ◌+◌, ◌-◌, ℕ, zero, suc, Bool, true, false, List, [], ◌∷◌, ◌++◌}
use Rattle.std.proofs.Common.{map, Option, Some, None, length, replicate, slice_get, refl, sym, ap, ◌∙◌, subst}
use Rattle.std.proofs.Common.{arith, inl, inr, ⊎_elim, IsTrue, length-append, eq-eqb}
use Rattle.std.specs.Prelude.{nat_eq, ◌||◌}
use Rattle.std.proofs.lemmas.Bool.Decides.{eqb_tells}
use Rattle.std.proofs.lemmas.Bool.{or_right}
use Rattle.std.proofs.lemmas.Option.{same_Some, slice_get_within}
use Rattle.pp_list.proofs.With.{With, elements}
use Rattle.pp_prog.proofs.Induction.{each_pattern, pattern_under}
use Rattle.pp_list.specs.Joined.{joined}
use Rattle.pp_graph.specs.Rows.{is_set, marked}
use Rattle.pp_prog.specs.declared.expr.Pattern.{Pattern}
use Rattle.pp_prog.specs.declared.expr.Pattern.TheFolds.{fold-roll-Pattern, map-Pattern}
use Rattle.pp_prog.specs.declared.expr.Pattern.TheOpen as pattern
use Rattle.pp_prog.specs.declared.expr.Pattern.TheViews.{roll-Pattern}
use Rattle.pp_checks.specs.Marks.{Marking, is_live, marking_step, marks_of}
use Rattle.pp_checks.specs.Plain.{Binding, IsInside, Origin, Scope, apart, below, bound_by, bound_step}
use Rattle.pp_checks.specs.Plain.{directly, further}

-- ---- the items of two lists, one after another

get_left : {A : Type 0} (xs ys : List A) (i : ℕ) → i < length xs → slice_get (xs ++ ys) i ≡ slice_get xs i
get_left [] ys i lt = absurd (omega (arith, lt))
get_left (x ∷ xs) ys zero lt = refl
get_left (x ∷ xs) ys (suc i) lt = get_left xs ys i (omega (arith, lt))

get_right : {A : Type 0} (xs ys : List A) (j : ℕ) → slice_get (xs ++ ys) (length xs + j) ≡ slice_get ys j
get_right [] ys j = let e : 0 + j ≡ j = omega arith in ap (slice_get ys) e
get_right (x ∷ xs) ys j =
    let e : suc (length xs) + j ≡ suc (length xs + j) = omega arith in
    ap (slice_get (x ∷ xs ++ ys)) e ∙ get_right xs ys j

get_past : {A : Type 0} (xs ys : List A) (i : ℕ) → length xs ≤ i
    → slice_get (xs ++ ys) i ≡ slice_get ys (i - length xs)
get_past xs ys i le =
    let e : i ≡ length xs + (i - length xs) = omega (arith, le) in
    ap (slice_get (xs ++ ys)) e ∙ get_right xs ys (i - length xs)

below_or : (n i : ℕ) → (i < n) ⊎ (n ≤ i)
below_or zero i = inr (omega arith)
below_or (suc n) zero = inl (omega arith)
below_or (suc n) (suc i) =
    ⊎_elim (λ h. inl (omega (arith, h))) (λ h. inr (omega (arith, h))) (below_or n i)

-- ---- variables that are bound later change nothing

module _ (p : ℕ) where
  pub still_inside : (scope more : Scope) (i : ℕ) → IsInside scope p i → IsInside (scope ++ more) p i
  still_inside scope more i (directly is) =
      directly (get_left scope more i (slice_get_within scope i (below p) is) ∙ is)
  still_inside scope more i (further {j = j} is lt h) =
      further (get_left scope more i (slice_get_within scope i (below j) is) ∙ is) lt (still_inside scope more j h)

  inside_before : (scope more : Scope) (i : ℕ) → i < length scope → IsInside (scope ++ more) p i → IsInside scope p i
  inside_before scope more i less (directly is) = directly (sym (get_left scope more i less) ∙ is)
  inside_before scope more i less (further {j = j} is lt h) =
      further (sym (get_left scope more i less) ∙ is) lt
      (inside_before scope more j (omega (arith, lt, less)) h)

  inside_within : (scope : Scope) (i : ℕ) → IsInside scope p i → i < length scope
  inside_within scope i (directly is) = slice_get_within scope i (below p) is
  inside_within scope i (further {j = j} is lt h) = slice_get_within scope i (below j) is

-- ---- the marks of what a pattern binds

-- how a match on this variable binds what stands below a constructor pattern
abbrev pub below_match : Option ℕ → Origin
below_match None = apart
below_match (Some j) = below j

module _ (inner : Origin) (live : Bool) where
  -- a variable and its mark: it stands apart, and has none, or it is bound below a constructor pattern
  abbrev pub IsMark : Origin → Bool → Type 0
  IsMark b m = ((b ≡ apart) × (m ≡ false)) ⊎ ((b ≡ inner) × (m ≡ live))

  abbrev pub AreMarks : List Origin → List Bool → Type 0
  AreMarks [] [] = Unit {0}
  AreMarks [] (m ∷ ms) = ⊥
  AreMarks (b ∷ bs) [] = ⊥
  AreMarks (b ∷ bs) (m ∷ ms) = IsMark b m × AreMarks bs ms

  marks_joined : (bs cs : List Origin) (ms ns : List Bool) → AreMarks bs ms → AreMarks cs ns
      → AreMarks (bs ++ cs) (ms ++ ns)
  marks_joined [] cs [] ns h k = k
  marks_joined [] cs (m ∷ ms) ns h k = absurd h
  marks_joined (b ∷ bs) cs [] ns h k = absurd h
  marks_joined (b ∷ bs) cs (m ∷ ms) ns h k = (h.0, marks_joined bs cs ms ns h.1 k)

  pub marks_size : (bs : List Origin) (ms : List Bool) → AreMarks bs ms → length ms ≡ length bs
  marks_size [] [] h = refl
  marks_size [] (m ∷ ms) h = absurd h
  marks_size (b ∷ bs) [] h = absurd h
  marks_size (b ∷ bs) (m ∷ ms) h = ap suc (marks_size bs ms h.1)

  -- the mark at a place
  mark_at : (bs : List Origin) (ms : List Bool) (j : ℕ) (b : Origin) → AreMarks bs ms → slice_get bs j ≡ Some b
      → IsMark b (marked ms j)
  mark_at [] ms j b h is = absurd (let no : None ≡ Some b = is in cc)
  mark_at (b ∷ bs) [] j c h is = absurd h
  mark_at (b ∷ bs) (m ∷ ms) zero c h is = subst (λ x. IsMark x m) (same_Some _ _ is) h.0
  mark_at (b ∷ bs) (m ∷ ms) (suc j) c h is = mark_at bs ms j c h.1 is

  -- a marked variable is bound below a constructor pattern
  marked_at : (bs : List Origin) (ms : List Bool) (j : ℕ) → AreMarks bs ms → marked ms j ≡ true
      → (slice_get bs j ≡ Some inner) × (live ≡ true)
  marked_at [] [] j h t = let no : false ≡ true = t in cc
  marked_at [] (m ∷ ms) j h t = absurd h
  marked_at (b ∷ bs) [] j h t = absurd h
  marked_at (b ∷ bs) (m ∷ ms) zero h t =
      ⊎_elim (λ a. (let no : false ≡ true = sym a.1 ∙ t in cc)) (λ a. (ap Some a.0, sym a.1 ∙ t)) h.0
  marked_at (b ∷ bs) (m ∷ ms) (suc j) h t = marked_at bs ms j h.1 t

  abbrev AreAlike : Pattern → Type 0
  AreAlike q = (top : Origin) (t : Bool) → IsMark top t → AreMarks (bound_by inner q top) (marks_of q t live)

  fields_alike : (ys : List (With AreAlike))
      → AreMarks (joined (map (λ (b : Binding). b inner) (map (bound_by inner) (elements ys))))
      (joined (map (λ (m : Marking). m live live) (map marks_of (elements ys))))
  fields_alike [] = tt
  fields_alike (y ∷ ys) =
      marks_joined (bound_by inner y.0 inner)
      (joined (map (λ (b : Binding). b inner) (map (bound_by inner) (elements ys))))
      (marks_of y.0 live live)
      (joined (map (λ (m : Marking). m live live) (map marks_of (elements ys))))
      (y.1 inner live (inr (refl, refl))) (fields_alike ys)

  level : (y : pattern.Pattern-F (With AreAlike)) (top : Origin) (t : Bool) → IsMark top t
      → AreMarks (bound_step inner (map-Pattern Pattern Binding (bound_by inner) (pattern_under y))
      top) (marking_step (map-Pattern Pattern Marking marks_of (pattern_under y)) t live)
  level pattern.Any top t h = tt
  level (pattern.Bind q) top t h = (h, q.1 top t h)
  level (pattern.Int n) top t h = tt
  level (pattern.Bool b) top t h = tt
  level (pattern.Ctor c ys) top t h = fields_alike ys

  at_level : (y : pattern.Pattern-F (With AreAlike)) → AreAlike (roll-Pattern (pattern_under y))
  at_level y top t h =
      let z = pattern_under y in
      let one = fold-roll-Pattern Binding (bound_step inner) z in
      let two = fold-roll-Pattern Marking marking_step z in
      subst (λ (b : Binding). AreMarks (b top) (marks_of (roll-Pattern z) t live)) (sym one)
      (subst (λ (m : Marking). AreMarks (bound_step inner (map-Pattern Pattern Binding (bound_by inner) z) top)
      (m t live)) (sym two) (level y top t h))

  -- a pattern's variables and their marks
  pub pattern_marks : (q : Pattern) → AreMarks (bound_by inner q apart) (marks_of q false live)
  pattern_marks q =
      each_pattern AreAlike at_level q apart false
      (inl (refl, refl))

-- ---- the marks of a scope

module _ (p : ℕ) where
  -- exactly the variables inside parameter p are marked
  pub record MarksInside (scope : Scope) (marks : List Bool) : Type 0 where
    pub size : length marks ≡ length scope
    pub each : (i : ℕ) → IsTrue (marked marks i) ↔ IsInside scope p i

  none_inside : MarksInside [] []
  none_inside = record {
    size = refl;
    each = λ i. (λ t. (let no : false ≡ true = t in cc), λ h. absurd (omega (arith, inside_within p [] i h)));
  }

  -- what lies below a match on a live variable is inside, and nothing else of the match is
  module _ (o : Option ℕ) (scope : Scope) (marks : List Bool) (agree : MarksInside scope marks) (more : Scope)
      (ms : List Bool) (are : AreMarks (below_match o) (is_live p marks o) more ms) where
    new_inside : (i : ℕ) → length scope ≤ i → is_live p marks o ≡ true
        → slice_get (scope ++ more) i ≡ Some (below_match o) → IsInside (scope ++ more) p i
    new_inside i le live is = by o live is
      where
        by : (u : Option ℕ) → is_live p marks u ≡ true → slice_get (scope ++ more) i ≡ Some (below_match u)
            → IsInside (scope ++ more) p i
        by None live is = let no : false ≡ true = live in cc
        by (Some k) live is = elim (eqb_tells k p) [
          | inl h ↦ directly (is ∙ ap (λ n. Some (below n)) h.1)
          | inr h ↦ via (sym (ap (λ b. b || marked marks k) h.0) ∙ live)
        ]
          where
            via : marked marks k ≡ true → IsInside (scope ++ more) p i
            via m =
                let old = (agree.each k).0 m in
                further is (omega (arith, le, inside_within p scope k old)) (still_inside p scope more k old)

    -- a new variable that is bound below a match on a variable is bound below this one
    new_origin : (i k : ℕ) → length scope ≤ i → slice_get (scope ++ more) i ≡ Some (below k)
        → below k ≡ below_match o
    new_origin i k le is =
        ⊎_elim (λ a. (let no : below k ≡ apart = a.0 in cc)) (λ a. a.0)
        (mark_at (below_match o) (is_live p marks o) more ms (i - length scope) (below k) are
        (sym (get_past scope more i le) ∙ is))

    live_if : (k : ℕ) → below k ≡ below_match o → nat_eq k p || marked marks k ≡ true → is_live p marks o ≡ true
    live_if k = by o
      where
        by : (u : Option ℕ) → below k ≡ below_match u → nat_eq k p || marked marks k ≡ true
            → is_live p marks u ≡ true
        by None same h = cc
        by (Some j) same h =
            let one : k ≡ j = cc in ap (λ n. nat_eq n p || marked marks n) (sym one) ∙ h

    -- a new variable that is inside is bound below a match on a live one
    new_live : (i : ℕ) → length scope ≤ i → IsInside (scope ++ more) p i
        → (is_live p marks o ≡ true) × (slice_get (scope ++ more) i ≡ Some (below_match o))
    new_live i le (directly is) =
        let same = new_origin i p le is in
        (live_if p same (ap (λ b. b || marked marks p) (eq-eqb p p refl)), is ∙ ap Some same)
    new_live i le (further {j = j} is lt h) =
        let same = new_origin i j le is in (
          ⊎_elim (λ less. live_if j same (or_right (nat_eq j p) (marked marks j)
              ((agree.each j).1 (inside_before p scope more j less h)))) (λ past. (new_live j past h).0)
              (below_or (length scope) j),
          is ∙ ap Some same,
        )

    not_apart : is_live p marks o ≡ true → below_match o ≡ apart → ⊥
    not_apart = by o
      where
        by : (u : Option ℕ) → is_live p marks u ≡ true → below_match u ≡ apart → ⊥
        by None live same = let no : false ≡ true = live in cc
        by (Some k) live same = let no : below k ≡ apart = same in cc

    -- the marks of a scope with more variables
    pub more_marked : MarksInside (scope ++ more) (marks ++ ms)
    more_marked = record {
      size = omega (
        arith,
        length-append marks ms,
        length-append scope more,
        agree.size,
        marks_size (below_match o) (is_live p marks o) more ms are,
      );
      each = λ i. by i (below_or (length scope) i);
    }
      where
        by : (i : ℕ) → (i < length scope) ⊎ (length scope ≤ i)
            → IsTrue (marked (marks ++ ms) i) ↔ IsInside (scope ++ more) p i
        by i (inl less) =
            let e : marked (marks ++ ms) i ≡ marked marks i = ap is_set (get_left marks ms i (omega
            (arith, less, agree.size))) in (
              λ t. still_inside p scope more i ((agree.each i).0 (sym e ∙ t)),
              λ h. e ∙ (agree.each i).1 (inside_before p scope more i less h),
            )
        by i (inr le) =
            let e : marked (marks ++ ms) i ≡ marked ms (i - length scope) = ap is_set (get_past marks ms i (omega
            (arith, le, agree.size)) ∙ ap (λ n. slice_get ms (i - n)) agree.size) in (
              λ t.
                  let a = marked_at (below_match o) (is_live p marks o) more ms (i - length scope) are (sym e ∙ t) in
                  new_inside i le a.1 (get_past scope more i le ∙ a.0),
              λ h.
                  let l = new_live i le h in
                  e ∙ ⊎_elim (λ a. absurd (not_apart l.0 a.0)) (λ a. a.1 ∙ l.0)
                  (mark_at (below_match o) (is_live p marks o) more ms (i - length scope) (below_match o) are
                  (sym (get_past scope more i le) ∙ l.1)),
            )

  -- a variable that stands apart
  pub apart_marked : (scope : Scope) (marks : List Bool) → MarksInside scope marks
      → MarksInside (scope ++ apart ∷ []) (marks ++ false ∷ [])
  apart_marked scope marks agree =
      more_marked None scope marks agree (apart ∷ []) (false ∷ []) (inl (refl, refl), tt)

  params_are : (live : Bool) (n : ℕ) → AreMarks apart live (replicate n apart) (replicate n false)
  params_are live zero = tt
  params_are live (suc n) = (inl (refl, refl), params_are live n)

  -- no parameter is inside
  pub params_marked : (n : ℕ) → MarksInside (replicate n apart) (replicate n false)
  params_marked n =
      more_marked None [] [] none_inside (replicate n apart) (replicate n false) (params_are false n)
