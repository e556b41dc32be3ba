-- Variables that were met, and their marks.
use Rattle.std.proofs.Common.{ℕ, ◌+◌, ◌≡◌, ◌≢◌, ◌<◌, ◌≤◌, Bool, true, false, List, ◌∷◌, ◌++◌, [], Option, Some, None}
use Rattle.std.proofs.Common.{sym, refl, ap, ◌∙◌, subst, inl, inr, ◌⊎◌, arith, length, get_or, take, drop, set, eqb}
use Rattle.std.proofs.Common.{All, length-set}
use Rattle.std.specs.Prelude.{◌||◌, ◌&&◌}
use Rattle.std.proofs.lemmas.Bool.{and_parts, and_from, or_cases, or_left, or_right, ne_eqb, eqb-true, eq-eqb, cases_eq}
use Rattle.std.proofs.lemmas.Bool.{cases_lt, false_from_ne_true}
use Rattle.std.proofs.lemmas.List.{get_or-set_same, get_or-set_other, get_or_default, get_or_past, take_more, take_all}
use Rattle.std.proofs.lemmas.List.{drop_more}
use Rattle.std.proofs.lemmas.List.Elements.{All-push}
use Rattle.std.proofs.lemmas.List.Folds.{list_any-append}
use Rattle.pp_clause.specs.Literal.{Literal, opposite}
use Rattle.pp_clause.specs.Clause.{has}
use Rattle.pp_clause.proofs.Has.{has-append_left, has-push_cases, has-push_last, opposite_twice, same_bool}
use Rattle.pp_clause.proofs.Has.{same_var_cases, false_not_true}
use Rattle.pp_trail.specs.declared.step.Step.{Step}
use Rattle.pp_trail.specs.declared.marks.Mark.{Mark}
use Rattle.pp_trail.specs.Trail.{lits, StandsAt, IsTrail}
use Rattle.pp_trail.specs.Marks.{ArePlaces}
use Rattle.pp_trail.proofs.Marking.{place_shown, absent_from_mark}
use Rattle.pp_learn.specs.Seen.{is_marked, has_var, is_met, AreMet, AreBlank, MarksAll, MarkedAt, FollowsLast, Shows}
use Rattle.pp_learn.specs.Seen.{IsMarkedPlace, IsUnmarked}
use Rattle.pp_learn.proofs.Places.{has_step, literal_in, trail_consistent, one_place}

met_left : (xs : List ℕ) (v x : ℕ) → is_met xs x ≡ true → is_met (xs ++ v ∷ []) x ≡ true
met_left xs v x h = list_any-append (λ y. eqb y x) xs (v ∷ []) ∙ or_left (is_met xs x) (is_met (v ∷ []) x) h

met_last : (xs : List ℕ) (v x : ℕ) → x ≡ v → is_met (xs ++ v ∷ []) x ≡ true
met_last xs v x e =
    list_any-append (λ y. eqb y x) xs (v ∷ []) ∙ or_right (is_met xs x) (is_met (v ∷ []) x)
    (or_left (eqb v x) false (eq-eqb v x (sym e)))

met_cases : (xs : List ℕ) (v x : ℕ) → is_met (xs ++ v ∷ []) x ≡ true → (is_met xs x ≡ true) ⊎ (v ≡ x)
met_cases xs v x h =
    elim (or_cases (is_met xs x) (is_met (v ∷ []) x) (sym (list_any-append (λ y. eqb y x) xs (v ∷ [])) ∙ h)) [
      | inl a ↦ inl a
      | inr b ↦ elim (or_cases (eqb v x) false b) [ inl e ↦ inr (eqb-true v x e) | inr f ↦ absurd (false_not_true f) ]
    ]

marked_same : (seen : List Bool) (v x : ℕ) (b : Bool) → v < length seen → x ≡ v → is_marked (set seen v b) x ≡ b
marked_same seen v x b lt e = ap (λ (n : ℕ). get_or (set seen v b) n false) e ∙ get_or-set_same seen v b false lt

marked_far : (seen : List Bool) (v x : ℕ) (b : Bool) → x ≢ v → is_marked (set seen v b) x ≡ is_marked seen x
marked_far seen v x b ne = get_or-set_other seen v x b false ne

-- a variable is marked, and met
pub met_marked : (seen : List Bool) (xs : List ℕ) (v : ℕ) → v < length seen → AreMet seen xs
    → AreMet (set seen v true) (xs ++ v ∷ [])
met_marked seen xs v lt a = record {
  in_range = subst (λ (n : ℕ). All (λ x. x < n) (xs ++ v ∷ [])) (sym (length-set seen v true))
      (All-push (λ x. x < length seen) xs v a.in_range lt);
  all = λ x h. elim (cases_eq x v) [
    | inl e ↦ met_last xs v x e
    | inr ne ↦ met_left xs v x (a.all x (sym (marked_far seen v x true ne) ∙ h))
  ];
}

-- a mark goes
pub met_unmarked : (seen : List Bool) (xs : List ℕ) (v : ℕ) → v < length seen → AreMet seen xs
    → AreMet (set seen v false) xs
met_unmarked seen xs v lt a = record {
  in_range = subst (λ (n : ℕ). All (λ x. x < n) xs) (sym (length-set seen v false)) a.in_range;
  all = λ x h. elim (cases_eq x v) [
    | inl e ↦ absurd (false_not_true (sym (marked_same seen v x false lt e) ∙ h))
    | inr ne ↦ a.all x (sym (marked_far seen v x false ne) ∙ h)
  ];
}

-- nothing is met where nothing is marked
pub met_none : (seen : List Bool) → AreBlank seen → AreMet seen []
met_none seen b = record {
  in_range = Rattle.std.proofs.lemmas.List.Elements.All-nil (λ x. x < length seen);
  all = λ x h. absurd (false_not_true (sym (b.blank x) ∙ h));
}

or_nothing : (a : Bool) → a ≡ (a || (false || false))
or_nothing true = refl
or_nothing false = refl

or_later : (a b c : Bool) → ((a || b) || c) ≡ (a || (b || c))
or_later true b c = refl
or_later false b c = refl

-- the variable of one literal is marked
pub marks_one : (seen : List Bool) (l : Literal) (v : ℕ) → v ≡ l.var → v < length seen
    → MarksAll seen (set seen v true) (l ∷ [])
marks_one seen l v is lt = record {
  same = λ x. elim (cases_eq x v) [
    | inl e ↦ marked_same seen v x true lt e ∙ sym (or_right (is_marked seen x) (has_var (l ∷ []) x)
        (or_left (eqb l.var x) false (eq-eqb l.var x (sym is ∙ sym e))))
    | inr ne ↦ marked_far seen v x true ne ∙ or_nothing (is_marked seen x)
        ∙ ap (λ (b : Bool). is_marked seen x || (b || false)) (sym (ne_eqb l.var x (λ e. ne (sym e ∙ sym is))))
  ];
}

pub marks_already : (seen : List Bool) (l : Literal) (v : ℕ) → v ≡ l.var → is_marked seen v ≡ true
    → MarksAll seen seen (l ∷ [])
marks_already seen l v is h = record {
  same = λ x. elim (cases_eq x v) [
    | inl e ↦ (let here : is_marked seen x ≡ true = ap (is_marked seen) e ∙ h in
        here ∙ sym (or_left (is_marked seen x) (has_var (l ∷ []) x) here))
    | inr ne ↦ or_nothing (is_marked seen x) ∙ ap (λ (b : Bool). is_marked seen x || (b || false))
        (sym (ne_eqb l.var x (λ e. ne (sym e ∙ sym is))))
  ];
}

or_none : (a : Bool) → a ≡ (a || false)
or_none true = refl
or_none false = refl

-- the literals of a clause, one after another
pub marks_first : (old : List Bool) (c : List Literal) → MarksAll old old (take 0 c)
marks_first old c = record { same = λ x. or_none (is_marked old x) }

pub marks_more : (old mid new : List Bool) (c : List Literal) (i : ℕ) (l : Literal) → i < length c → l ≡ get_or c i l
    → MarksAll old mid (take i c) → MarksAll mid new (l ∷ []) → MarksAll old new (take (i + 1) c)
marks_more old mid new c i l lt is a b = record {
  same = λ x. b.same x ∙ ap (λ (z : Bool). z || has_var (l ∷ []) x) (a.same x)
      ∙ or_later (is_marked old x) (has_var (take i c) x) (has_var (l ∷ []) x)
      ∙ ap (λ (z : Bool). is_marked old x || z) (sym (ap (λ (z : List Literal). has_var z x)
      (take_more c i l lt ∙ ap (λ (z : Literal). take i c ++ z ∷ []) (sym is))
      ∙ list_any-append (λ z. eqb z.var x) (take i c) (l ∷ [])));
}

pub marks_whole : (old new : List Bool) (c : List Literal) (i : ℕ) → length c ≤ i → MarksAll old new (take i c)
    → MarksAll old new c
marks_whole old new c i le a = subst (λ (z : List Literal). MarksAll old new z) (take_all i c le) a

-- marks that are left are on variables that are still to come
pub record AreLeft (seen : List Bool) (xs : List ℕ) : Type 0 where
  pub left : (x : ℕ) → is_marked seen x ≡ true → is_met xs x ≡ true

pub left_first : (seen : List Bool) (xs : List ℕ) → AreMet seen xs → AreLeft seen (drop 0 xs)
left_first seen xs a = record { left = a.all }

pub left_more : (seen : List Bool) (xs : List ℕ) (i v : ℕ) → i < length xs → v ≡ get_or xs i v → v < length seen
    → AreLeft seen (drop i xs) → AreLeft (set seen v false) (drop (i + 1) xs)
left_more seen xs i v lt is in' a = record {
  left = λ x h. elim (cases_eq x v) [
    | inl e ↦ absurd (false_not_true (sym (marked_same seen v x false in' e) ∙ h))
    | inr ne ↦ (let there : is_met (v ∷ drop (i + 1) xs) x ≡ true =
        ap (λ (z : List ℕ). is_met z x) (sym (drop_more xs i v lt ∙ ap (λ (n : ℕ). n ∷ drop (i + 1) xs) (sym is)))
        ∙ a.left x (sym (marked_far seen v x false ne) ∙ h) in
        elim (or_cases (eqb v x) (is_met (drop (i + 1) xs) x) there)
        [ inl e ↦ absurd (ne (sym (eqb-true v x e))) | inr r ↦ r ])
  ];
}

pub left_next : (seen : List Bool) (xs : List ℕ) (i : ℕ) → i < length xs → get_or xs i 0 < length seen
    → AreLeft seen (drop i xs) → AreLeft (set seen (get_or xs i 0) false) (drop (i + 1) xs)
left_next seen xs i lt in' a = left_more seen xs i (get_or xs i 0) lt (get_or_default xs i 0 (get_or xs i 0) lt) in' a

drop_past : (xs : List ℕ) (i : ℕ) → length xs ≤ i → drop i xs ≡ []
drop_past xs i le = Rattle.std.proofs.lemmas.List.drop_all i xs le

pub left_none : (seen : List Bool) (xs : List ℕ) (i : ℕ) → length xs ≤ i → AreLeft seen (drop i xs) → AreBlank seen
left_none seen xs i le a = record {
  blank = λ x. false_from_ne_true (is_marked seen x) (λ h. false_not_true
      (ap (λ (z : List ℕ). is_met z x) (sym (drop_past xs i le)) ∙ a.left x h));
}

-- the first marks are gone
pub record AreBlankTo (seen : List Bool) (end : ℕ) : Type 0 where
  pub gone : (x : ℕ) → x < end → is_marked seen x ≡ false

pub gone_none : (seen : List Bool) → AreBlankTo seen 0
gone_none seen = record { gone = λ x lt. absurd (omega arith) }

pub gone_more : (seen : List Bool) (i : ℕ) → i < length seen → AreBlankTo seen i
    → AreBlankTo (set seen i false) (i + 1)
gone_more seen i lt a = record {
  gone = λ x in'. elim (cases_eq x i) [
    | inl e ↦ marked_same seen i x false lt e
    | inr ne ↦ marked_far seen i x false ne ∙ a.gone x (omega arith)
  ];
}

pub gone_all : (seen : List Bool) (i : ℕ) → length seen ≤ i → AreBlankTo seen i → AreBlank seen
gone_all seen i le a = record {
  blank = λ x. elim (cases_lt x i) [ inl lt ↦ a.gone x lt | inr ge ↦ get_or_past seen x false (omega arith) ];
}

-- what the places say of a variable
pub place_marked : (steps : List Step) (places : List (Option Mark)) (seen : List Bool) (v : ℕ) (m : Mark)
    → ArePlaces places steps → v < length places → get_or places v None ≡ Some m → is_marked seen v ≡ true
    → IsMarkedPlace steps seen v m.place
place_marked steps places seen v m shows lt some h =
    let p = place_shown steps v m (sym some ∙ shows.shown v lt) in
    record { step = p.step; at = p.stands; is = p.is; marked = h }

pub place_none : (steps : List Step) (places : List (Option Mark)) (seen : List Bool) (v : ℕ) → ArePlaces places steps
    → v < length places → get_or places v None ≡ None → IsUnmarked steps seen v
place_none steps places seen v shows lt none = record {
  unmarked = λ i s at e. absurd (absent_from_mark 0 steps v (sym (shows.shown v lt) ∙ none) i s at.within
      (ap (λ (z : Step). z.lit.var) (sym at.is) ∙ e));
}

pub not_marked : (steps : List Step) (seen : List Bool) (v : ℕ) → is_marked seen v ≡ false → IsUnmarked steps seen v
not_marked steps seen v h = record { unmarked = λ i s at e. h }

-- the literals that are collected from the first variables
pub record Gathers (seen : List Bool) (ls : List Literal) (xs : List ℕ) (found : List Literal) : Type 0 where
  pub same : (m : Literal) → has found m ≡ (is_met xs m.var && (is_marked seen m.var && has ls (opposite m)))

pub gathers_none : (seen : List Bool) (ls : List Literal) (xs : List ℕ) → Gathers seen ls (take 0 xs) []
gathers_none seen ls xs = record { same = λ m. refl }

take_push : (xs : List ℕ) (i v : ℕ) → i < length xs → v ≡ get_or xs i v → take (i + 1) xs ≡ take i xs ++ v ∷ []
take_push xs i v lt is = take_more xs i v lt ∙ ap (λ (n : ℕ). take i xs ++ n ∷ []) (sym is)

pub gathers_skip : (steps : List Step) (seen : List Bool) (xs : List ℕ) (i v : ℕ) (found : List Literal)
    → i < length xs → v ≡ get_or xs i v → IsUnmarked steps seen v → Gathers seen (lits steps) (take i xs) found
    → Gathers seen (lits steps) (take (i + 1) xs) found
gathers_skip steps seen xs i v found lt is un g = record {
  same = λ m. g.same m ∙ same_bool _ _
      (λ h. let p = and_parts (is_met (take i xs) m.var) (is_marked seen m.var && has (lits steps) (opposite m)) h in
      and_from (is_met (take (i + 1) xs) m.var) (is_marked seen m.var && has (lits steps) (opposite m))
      (subst (λ (z : List ℕ). is_met z m.var ≡ true) (sym (take_push xs i v lt is)) (met_left (take i xs) v m.var p.0))
      p.1)
      (λ h. let p = and_parts (is_met (take (i + 1) xs) m.var) (is_marked seen m.var && has (lits steps) (opposite m))
      h in
      let q = and_parts (is_marked seen m.var) (has (lits steps) (opposite m)) p.1 in
      elim (met_cases (take i xs) v m.var
      (subst (λ (z : List ℕ). is_met z m.var ≡ true) (take_push xs i v lt is) p.0)) [
        | inl a ↦ and_from (is_met (take i xs) m.var) (is_marked seen m.var && has (lits steps) (opposite m)) a p.1
        | inr e ↦ (let at = literal_in steps (opposite m) q.1 in
            absurd (false_not_true (sym (un.unmarked at.place at.step at.stands
            (ap (λ (z : Literal). z.var) at.is ∙ sym e)) ∙ ap (is_marked seen) e ∙ q.0)))
      ]);
}

pub gathers_more : (cs : List (List Literal)) (vars : ℕ) (steps : List Step) (seen : List Bool) (xs : List ℕ)
    (i v place : ℕ) (found : List Literal) (s : Step) (l : Literal) → IsTrail cs vars steps → i < length xs
    → v ≡ get_or xs i v → IsMarkedPlace steps seen v place → StandsAt steps place s → l ≡ opposite s.lit
    → Gathers seen (lits steps) (take i xs) found → Gathers seen (lits steps) (take (i + 1) xs) (found ++ l ∷ [])
gathers_more cs vars steps seen xs i v place found s l trail lt is at stands neg g = record {
  same = λ m. same_bool _ _
      (λ h. elim (has-push_cases found l m h) [
        | inl j ↦ (let p = and_parts (is_met (take i xs) m.var) (is_marked seen m.var && has (lits steps) (opposite m))
            (sym (g.same m) ∙ j) in
            and_from (is_met (take (i + 1) xs) m.var) (is_marked seen m.var && has (lits steps) (opposite m))
            (later m.var p.0) p.1)
        | inr e ↦ (let var : m.var ≡ v = ap (λ (z : Literal). z.var) (e ∙ neg) ∙ here in
            and_from (is_met (take (i + 1) xs) m.var) (is_marked seen m.var && has (lits steps) (opposite m))
            (subst (λ (z : List ℕ). is_met z m.var ≡ true) (sym (take_push xs i v lt is))
            (met_last (take i xs) v m.var var))
            (and_from (is_marked seen m.var) (has (lits steps) (opposite m)) (ap (is_marked seen) var ∙ at.marked)
            (subst (λ (z : Literal). has (lits steps) z ≡ true) (sym (ap opposite (e ∙ neg) ∙ opposite_twice s.lit))
            (has_step steps place s stands))))
      ])
      (λ h. let p = and_parts (is_met (take (i + 1) xs) m.var) (is_marked seen m.var && has (lits steps) (opposite m))
      h in
      let q = and_parts (is_marked seen m.var) (has (lits steps) (opposite m)) p.1 in
      elim (met_cases (take i xs) v m.var
      (subst (λ (z : List ℕ). is_met z m.var ≡ true) (take_push xs i v lt is) p.0)) [
        | inl a ↦ has-append_left found (l ∷ []) m (g.same m
            ∙ and_from (is_met (take i xs) m.var) (is_marked seen m.var && has (lits steps) (opposite m)) a p.1)
        | inr e ↦ has-push_last found l m (sym (neg ∙ theirs m e q.1))
      ]);
}
  where
    here : s.lit.var ≡ v
    here = ap (λ (z : Step). z.lit.var) (Rattle.pp_learn.proofs.Places.same_step steps place place s at.step stands
        at.at refl) ∙ at.is

    later : (x : ℕ) → is_met (take i xs) x ≡ true → is_met (take (i + 1) xs) x ≡ true
    later x a = subst (λ (z : List ℕ). is_met z x ≡ true) (sym (take_push xs i v lt is)) (met_left (take i xs) v x a)

    theirs : (m : Literal) → v ≡ m.var → has (lits steps) (opposite m) ≡ true → opposite s.lit ≡ m
    theirs m e h = elim (same_var_cases s.lit m (here ∙ e)) [
      | inl k ↦ absurd ((trail_consistent cs vars steps trail).apart m
          (subst (λ (z : Literal). has (lits steps) z ≡ true) k (has_step steps place s stands)) h)
      | inr k ↦ ap opposite k ∙ opposite_twice m
    ]

pub gathers_all : (seen : List Bool) (ls : List Literal) (xs : List ℕ) (i : ℕ) (found : List Literal) → length xs ≤ i
    → AreMet seen xs → Gathers seen ls (take i xs) found → Shows seen ls found
gathers_all seen ls xs i found le a g =
    let whole : Gathers seen ls xs found = subst (λ (z : List ℕ). Gathers seen ls z found) (take_all i xs le) g in
    record {
      same = λ m. whole.same m ∙ same_bool _ _
          (λ h. (and_parts (is_met xs m.var) (is_marked seen m.var && has ls (opposite m)) h).1)
          (λ h. and_from (is_met xs m.var) (is_marked seen m.var && has ls (opposite m))
          (a.all m.var (and_parts (is_marked seen m.var) (has ls (opposite m)) h).0) h);
    }

-- the last place of the first variables
pub record FollowsAmong (steps : List Step) (seen : List Bool) (end : ℕ) (xs : List ℕ) (back : ℕ) : Type 0 where
  pub within : back ≤ end
  pub rest : (i : ℕ) (s : Step) → StandsAt steps i s → i < end → is_marked seen s.lit.var ≡ true
      → is_met xs s.lit.var ≡ true → i < back
  pub last : (n : ℕ) → back ≡ n + 1 → MarkedAt steps seen n

pub marked_at : (steps : List Step) (seen : List Bool) (v place n : ℕ) → IsMarkedPlace steps seen v place → place ≡ n
    → MarkedAt steps seen n
marked_at steps seen v place n p e = record {
  step = p.step;
  at = subst (λ (k : ℕ). StandsAt steps k p.step) e p.at;
  marked = ap (is_marked seen) p.is ∙ p.marked;
}

pub follows_none : (steps : List Step) (seen : List Bool) (end : ℕ) (xs : List ℕ)
    → FollowsAmong steps seen end (take 0 xs) 0
follows_none steps seen end xs = record {
  within = omega arith;
  rest = λ i s at lt h k. absurd (false_not_true k);
  last = λ n e. absurd (omega arith);
}

pub follows_more : (cs : List (List Literal)) (vars : ℕ) (steps : List Step) (seen : List Bool) (end : ℕ) (xs : List ℕ)
    (i v place back new : ℕ) → IsTrail cs vars steps → i < length xs → v ≡ get_or xs i v
    → IsMarkedPlace steps seen v place → back ≤ new → new ≤ end → (place < end → place < new)
    → ((n : ℕ) → new ≡ n + 1 → MarkedAt steps seen n) → FollowsAmong steps seen end (take i xs) back
    → FollowsAmong steps seen end (take (i + 1) xs) new
follows_more cs vars steps seen end xs i v place back new trail lt is at le high own last f = record {
  within = high;
  rest = λ k s stands low h met. elim (met_cases (take i xs) v s.lit.var
      (subst (λ (z : List ℕ). is_met z s.lit.var ≡ true) (take_push xs i v lt is) met)) [
        | inl a ↦ (let b = f.rest k s stands low h a in omega arith)
        | inr e ↦ (let one : k ≡ place =
            one_place cs vars steps k place s at.step trail stands at.at (sym e ∙ sym at.is) in
            let b = own (omega arith) in omega arith)
      ];
  last = last;
}

pub follows_skip : (steps : List Step) (seen : List Bool) (end : ℕ) (xs : List ℕ) (i v back : ℕ) → i < length xs
    → v ≡ get_or xs i v → IsUnmarked steps seen v → FollowsAmong steps seen end (take i xs) back
    → FollowsAmong steps seen end (take (i + 1) xs) back
follows_skip steps seen end xs i v back lt is un f = record {
  within = f.within;
  rest = λ k s stands low h met. elim (met_cases (take i xs) v s.lit.var
      (subst (λ (z : List ℕ). is_met z s.lit.var ≡ true) (take_push xs i v lt is) met)) [
        | inl a ↦ f.rest k s stands low h a
        | inr e ↦ absurd (false_not_true (sym (un.unmarked k s stands (sym e)) ∙ ap (is_marked seen) e ∙ h))
      ];
  last = f.last;
}

pub follows_all : (steps : List Step) (seen : List Bool) (end : ℕ) (xs : List ℕ) (i back : ℕ) → length xs ≤ i
    → AreMet seen xs → FollowsAmong steps seen end (take i xs) back → FollowsLast steps seen end back
follows_all steps seen end xs i back le a f = record {
  within = f.within;
  rest = record {
    clear = λ k s low high at. false_from_ne_true (is_marked seen s.lit.var) (λ h.
        let b = f.rest k s at high h
        (subst (λ (z : List ℕ). is_met z s.lit.var ≡ true) (sym (take_all i xs le)) (a.all s.lit.var h)) in
        omega arith);
  };
  last = f.last;
}
