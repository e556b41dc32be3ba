-- One step of conflict analysis: what the marks show is resolved with the reason of a step.
use Rattle.std.proofs.Common.{ℕ, suc, ◌+◌, ◌-◌, ◌≡◌, ◌≢◌, ◌<◌, Bool, true, false, cond, List, [], ◌∷◌, ◌++◌, sym}
use Rattle.std.proofs.Common.{refl, ap, ◌∙◌, subst, inl, inr, arith, length, get_or, set, eqb, All}
use Rattle.std.specs.Prelude.{filter, ◌&&◌, ◌||◌, AllPairs}
use Rattle.std.proofs.lemmas.Bool.{and_parts, and_from, or_cases, or_left, or_right, eqb-true, eq-eqb}
use Rattle.std.proofs.lemmas.Bool.{false_from_ne_true}
use Rattle.std.proofs.lemmas.Bool.Decides.{eqb_tells}
use Rattle.std.proofs.lemmas.List.{get_or-set_same, get_or-set_other}
use Rattle.pp_clause.specs.Literal.{Literal, opposite}
use Rattle.pp_clause.specs.Clause.{has}
use Rattle.pp_clause.specs.Derivation.{clashes, without}
use Rattle.pp_clause.proofs.Resolving.{resolvent_of}
use Rattle.pp_clause.proofs.Has.{has-nil, has-cases, has-here, has-there, has-All, has-append_cases, has-append_left}
use Rattle.pp_clause.proofs.Has.{has-append_right, opposite_twice, same_var_cases, same_bool, false_not_true}
use Rattle.pp_clause.proofs.Resolving.{has-without, without-has}
use Rattle.pp_trail.specs.declared.step.Step.{Step}
use Rattle.pp_trail.specs.Trail.{lits, StandsAt, IsTrail}
use Rattle.pp_trail.proofs.Places.{literal_at}
use Rattle.pp_learn.specs.Seen.{is_marked, has_var, Shows, MarksAll, MarkedAt, KeepsFrom, Turns}
use Rattle.pp_learn.specs.Reached.{IsTrailFor, Reached, Forces}
use Rattle.pp_learn.proofs.Places.{has_step, has_more, one_place, literal_place, same_step, trail_consistent}
use Rattle.pp_learn.proofs.Chains.{derived_push}

-- a literal of the clause with the variable
pub record Bearer (c : List Literal) (x : ℕ) : Type 0 where
  pub literal : Literal
  pub held : has c literal ≡ true
  pub is : literal.var ≡ x

pub bearer : (c : List Literal) (x : ℕ) → has_var c x ≡ true → Bearer c x
bearer [] x h = absurd (false_not_true h)
bearer (l ∷ ls) x h =
    elim (or_cases (eqb l.var x) (has_var ls x) h) [
      | inl e ↦ record { literal = l; held = has-here l ls; is = eqb-true l.var x e }
      | inr k ↦ (let b = bearer ls x k in
          record { literal = b.literal; held = has-there l ls b.literal b.held; is = b.is })
    ]

pub has_var_from : (c : List Literal) (m : Literal) → has c m ≡ true → has_var c m.var ≡ true
has_var_from [] m h = absurd (has-nil m h)
has_var_from (l ∷ ls) m h =
    elim (has-cases l ls m h) [
      | inl e ↦ or_left (eqb l.var m.var) (has_var ls m.var) (eq-eqb l.var m.var (ap (λ (z : Literal). z.var) (sym e)))
      | inr k ↦ or_right (eqb l.var m.var) (has_var ls m.var) (has_var_from ls m k)
    ]

none_kept : (p : Literal → Bool) (ys : List Literal) → ((m : Literal) → has ys m ≡ true → p m ≡ false)
    → filter p ys ≡ []
none_kept p [] h = refl
none_kept p (y ∷ ys) h = ap (λ (b : Bool). cond b (y ∷ filter p ys) (filter p ys)) (h y (has-here y ys))
    ∙ none_kept p ys (λ m k. h m (has-there y ys m k))

abbrev Ascends : List Literal → Type 0
Ascends ls = AllPairs (λ l m. l.var < m.var) ls

tail_ascends : (y : Literal) (ys : List Literal) → Ascends (y ∷ ys) → Ascends ys
tail_ascends y ys h = λ i j d lt within. h (suc i) (suc j) d (omega arith) (omega arith)

head_apart : (y : Literal) (ys : List Literal) (m : Literal) → Ascends (y ∷ ys) → has ys m ≡ true → y.var < m.var
head_apart y ys m h k =
    let below : All (λ (l : Literal). y.var < l.var) ys = λ i d lt. h 0 (suc i) d (omega arith) (omega arith) in
    has-All (λ l. y.var < l.var) ys m below k

-- a test that one literal of a clause alone passes
filter_alone : (p : Literal → Bool) (ys : List Literal) (x : Literal) → Ascends ys → has ys x ≡ true → p x ≡ true
    → ((m : Literal) → has ys m ≡ true → m ≢ x → p m ≡ false) → filter p ys ≡ x ∷ []
filter_alone p [] x asc h t others = absurd (has-nil x h)
filter_alone p (y ∷ ys) x asc h t others =
    elim (has-cases y ys x h) [
      | inl e ↦ (let apart : (m : Literal) → has ys m ≡ true → m ≢ x = λ m k s.
          let lt : y.var < m.var = head_apart y ys m asc k in
          let same : m.var ≡ y.var = ap (λ (z : Literal). z.var) (s ∙ e) in omega arith in
          ap (λ (b : Bool). cond b (y ∷ filter p ys) (filter p ys)) (ap p (sym e) ∙ t)
          ∙ ap (λ (z : List Literal). y ∷ z) (none_kept p ys (λ m k. others m (has-there y ys m k) (apart m k)))
          ∙ ap (λ (z : Literal). z ∷ []) (sym e))
      | inr k ↦ (let apart : y ≢ x = λ s.
          let lt : y.var < x.var = head_apart y ys x asc k in
          let same : y.var ≡ x.var = ap (λ (z : Literal). z.var) s in omega arith in
          ap (λ (b : Bool). cond b (y ∷ filter p ys) (filter p ys)) (others y (has-here y ys) apart)
          ∙ filter_alone p ys x (tail_ascends y ys asc) k t (λ m j n. others m (has-there y ys m j) n))
    ]

-- the other literals of a reason are false under the trail
others_false : (cs : List (List Literal)) (steps : List Step) (place n : ℕ) (c : List Literal)
    (f : Forces cs steps place n c) (m : Literal) → has c m ≡ true → m ≢ f.step.lit
    → has (lits steps) (opposite m) ≡ true
others_false cs steps place n c f m h ne = has_more steps place (opposite m) (f.others.negated m h ne)

-- so exactly its own literal clashes
one_clash : (cs : List (List Literal)) (vars : ℕ) (steps : List Step) (seen : List Bool) (place n : ℕ)
    (c found : List Literal) (f : Forces cs steps place n c) → IsTrail cs vars steps → Shows seen (lits steps) found
    → is_marked seen f.step.lit.var ≡ true → clashes found c ≡ f.step.lit ∷ []
one_clash cs vars steps seen place n c found f trail shown marked =
    let x : Literal = f.step.lit in
    let twice : (m : Literal) → has (lits steps) m ≡ true → has (lits steps) (opposite (opposite m)) ≡ true =
    λ m h. subst (λ (z : Literal). has (lits steps) z ≡ true) (sym (opposite_twice m)) h in
    filter_alone (λ l. has found (opposite l)) c f.step.lit f.order.ascending f.held
    (shown.same (opposite f.step.lit) ∙ and_from (is_marked seen f.step.lit.var)
    (has (lits steps) (opposite (opposite f.step.lit))) marked
    (twice f.step.lit (has_step steps place f.step f.at)))
    (λ m h ne. false_from_ne_true (has found (opposite m)) (λ t.
    (trail_consistent cs vars steps trail).apart m
    (subst (λ (z : Literal). has (lits steps) z ≡ true) (opposite_twice m)
    (and_parts (is_marked seen m.var) (has (lits steps) (opposite (opposite m)))
    (sym (shown.same (opposite m)) ∙ t)).1)
    (others_false cs steps place n c f m h ne)))

marked_other : (mid : List Bool) (x y : ℕ) → y ≢ x → is_marked (set mid x false) y ≡ is_marked mid y
marked_other mid x y ne = get_or-set_other mid x y false false ne

marked_self : (mid : List Bool) (x y : ℕ) → x < length mid → y ≡ x → is_marked (set mid x false) y ≡ false
marked_self mid x y lt e = ap (λ (z : ℕ). get_or (set mid x false) z false) e ∙ get_or-set_same mid x false false lt

-- the marks show the resolvent
shown_after : (cs : List (List Literal)) (vars : ℕ) (steps : List Step) (seen mid : List Bool) (place n : ℕ)
    (c found : List Literal) (f : Forces cs steps place n c) → IsTrail cs vars steps → Shows seen (lits steps) found
    → MarksAll seen mid c → f.step.lit.var < length mid
    → Shows (set mid f.step.lit.var false) (lits steps) (without f.step.lit.var (found ++ c))
shown_after cs vars steps seen mid place n c found f trail shown all lt = record {
  same = λ m.
      elim (eqb_tells m.var f.step.lit.var) [
        | inl p ↦ false_from_ne_true (has (without f.step.lit.var (found ++ c)) m)
            (λ h. (without-has f.step.lit.var (found ++ c) m h).1 p.1)
            ∙ sym (ap (λ (b : Bool). b && has (lits steps) (opposite m)) (marked_self mid f.step.lit.var m.var lt p.1))
        | inr p ↦ same_bool _ _
            (λ h. and_from (is_marked (set mid f.step.lit.var false) m.var) (has (lits steps) (opposite m))
            (marked_other mid f.step.lit.var m.var p.1 ∙ all.same m.var
            ∙ elim (has-append_cases found c m (without-has f.step.lit.var (found ++ c) m h).0) [
              | inl k ↦ or_left (is_marked seen m.var) (has_var c m.var)
                  (and_parts (is_marked seen m.var) (has (lits steps) (opposite m)) (sym (shown.same m) ∙ k)).0
              | inr k ↦ or_right (is_marked seen m.var) (has_var c m.var) (has_var_from c m k)
            ])
            (elim (has-append_cases found c m (without-has f.step.lit.var (found ++ c) m h).0) [
              | inl k ↦ (and_parts (is_marked seen m.var) (has (lits steps) (opposite m)) (sym (shown.same m) ∙ k)).1
              | inr k ↦ others_false cs steps place n c f m k (λ e. p.1 (ap (λ (z : Literal). z.var) e))
            ]))
            (λ h.
            let both = and_parts (is_marked (set mid f.step.lit.var false) m.var) (has (lits steps) (opposite m)) h in
            has-without f.step.lit.var (found ++ c) m (elim
            (or_cases (is_marked seen m.var) (has_var c m.var)
            (sym (all.same m.var) ∙ sym (marked_other mid f.step.lit.var m.var p.1) ∙ both.0)) [
              | inl k ↦ has-append_left found c m (shown.same m
                  ∙ and_from (is_marked seen m.var) (has (lits steps) (opposite m)) k both.1)
              | inr k ↦ has-append_right found c m (borne m (bearer c m.var k) both.1 p.1)
            ]) p.1)
      ];
}
  where
    borne : (m : Literal) (b : Bearer c m.var) → has (lits steps) (opposite m) ≡ true → m.var ≢ f.step.lit.var
        → has c m ≡ true
    borne m b h ne = elim (same_var_cases b.literal m b.is) [
      | inl e ↦ subst (λ (z : Literal). has c z ≡ true) e b.held
      | inr e ↦ absurd ((trail_consistent cs vars steps trail).apart m
          (subst (λ (z : Literal). has (lits steps) z ≡ true) (ap opposite e ∙ opposite_twice m)
          (others_false cs steps place n c f b.literal b.held (λ s. ne (sym b.is ∙ ap (λ (z : Literal). z.var) s))))
          h)
    ]

-- the chain goes on by the reason
pub reached_turn : (cs : List (List Literal)) (vars : ℕ) (steps : List Step) (seen mid : List Bool) (chain : List ℕ)
    (place n : ℕ) (c : List Literal) (f : Forces cs steps place n c) → IsTrail cs vars steps
    → Reached cs steps seen chain → is_marked seen f.step.lit.var ≡ true → MarksAll seen mid c
    → f.step.lit.var < length mid → Reached cs steps (set mid f.step.lit.var false) (chain ++ n ∷ [])
reached_turn cs vars steps seen mid chain place n c f trail r marked all lt = record {
  found = without f.step.lit.var (r.found ++ c);
  by_chain = derived_push cs chain n r.found c (without f.step.lit.var (r.found ++ c)) r.by_chain f.number
      (resolvent_of r.found c f.step.lit (one_clash cs vars steps seen place n c r.found f trail r.shown marked));
  shown = shown_after cs vars steps seen mid place n c r.found f trail r.shown all lt;
}

or_false : (b : Bool) → (b || false) ≡ b
or_false true = refl
or_false false = refl

-- later steps are marked as before
pub keeps_turn : (cs : List (List Literal)) (vars : ℕ) (steps : List Step) (seen mid : List Bool) (place n : ℕ)
    (c : List Literal) (f : Forces cs steps place n c) → IsTrail cs vars steps → MarksAll seen mid c
    → KeepsFrom steps (place + 1) seen (set mid f.step.lit.var false)
keeps_turn cs vars steps seen mid place n c f trail all = record {
  same = λ i s le at.
      let apart : s.lit.var ≢ f.step.lit.var = λ e. let k : i ≡ place =
      one_place cs vars steps i place s f.step trail at f.at e in omega arith in
      let none : has_var c s.lit.var ≡ false = false_from_ne_true (has_var c s.lit.var) (λ h.
      let b = bearer c s.lit.var h in
      let p = literal_at steps place (opposite b.literal)
      (f.others.negated b.literal b.held (λ e. apart (sym b.is ∙ ap (λ (z : Literal). z.var) e))) in
      let k : p.place ≡ i = literal_place cs vars steps place i (opposite b.literal) s trail p at b.is in
      let before : p.place < place = p.before in
      omega arith) in
      marked_other mid f.step.lit.var s.lit.var apart ∙ all.same s.lit.var
      ∙ ap (λ (b : Bool). is_marked seen s.lit.var || b) none ∙ or_false (is_marked seen s.lit.var);
}

-- the step's own mark goes, and no other
pub turn_done : (cs : List (List Literal)) (vars : ℕ) (steps : List Step) (seen mid : List Bool) (place n : ℕ)
    (c : List Literal) (f : Forces cs steps place n c) → IsTrail cs vars steps → MarksAll seen mid c
    → f.step.lit.var < length mid → Turns steps place seen (set mid f.step.lit.var false)
turn_done cs vars steps seen mid place n c f trail all lt = record {
  keeps = keeps_turn cs vars steps seen mid place n c f trail all;
  still = λ i s ne at h. marked_other mid f.step.lit.var s.lit.var
      (λ e. ne (one_place cs vars steps i place s f.step trail at f.at e)) ∙ all.same s.lit.var
      ∙ or_left (is_marked seen s.lit.var) (has_var c s.lit.var) h;
  cleared = λ s at. marked_self mid f.step.lit.var s.lit.var lt
      (ap (λ (z : Step). z.lit.var) (same_step steps place place s f.step at f.at refl));
}

-- the same in the words of the calls
pub resolved_reaches : (cs : List (List Literal)) (steps : List Step) (seen mid : List Bool) (chain pushed : List ℕ)
    (place n x : ℕ) (c : List Literal) (s : Step) → (f : Forces cs steps place n c) → IsTrailFor cs steps seen
    → Reached cs steps seen chain → (k : MarkedAt steps seen place) → MarksAll seen mid c → length mid ≡ length seen
    → StandsAt steps place s → x ≡ s.lit.var → x < length seen → pushed ≡ chain ++ n ∷ []
    → Reached cs steps (set mid x false) pushed
resolved_reaches cs steps seen mid chain pushed place n x c s f trail r k all len at is lt push =
    let var : x ≡ f.step.lit.var =
    is ∙ ap (λ (z : Step). z.lit.var) (same_step steps place place s f.step at f.at refl) in
    let here : is_marked seen f.step.lit.var ≡ true =
    ap (λ (z : Step). is_marked seen z.lit.var) (same_step steps place place f.step k.step f.at k.at refl)
    ∙ k.marked in
    let fits : f.step.lit.var < length mid = omega arith in
    let done : Reached cs steps (set mid f.step.lit.var false) (chain ++ n ∷ []) =
    reached_turn cs (length seen - 1) steps seen mid chain place n c f trail r here all fits in
    subst (λ (z : ℕ). Reached cs steps (set mid z false) pushed) (sym var)
    (subst (λ (z : List ℕ). Reached cs steps (set mid f.step.lit.var false) z) (sym push) done)

pub resolved_turns : (cs : List (List Literal)) (steps : List Step) (seen mid : List Bool) (place n x : ℕ)
    (c : List Literal) (s : Step) → (f : Forces cs steps place n c) → IsTrailFor cs steps seen → MarksAll seen mid c
    → length mid ≡ length seen → StandsAt steps place s → x ≡ s.lit.var → x < length seen
    → Turns steps place seen (set mid x false)
resolved_turns cs steps seen mid place n x c s f trail all len at is lt =
    let var : x ≡ f.step.lit.var =
    is ∙ ap (λ (z : Step). z.lit.var) (same_step steps place place s f.step at f.at refl) in
    let fits : f.step.lit.var < length mid = omega arith in
    subst (λ (z : ℕ). Turns steps place seen (set mid z false)) (sym var)
    (turn_done cs (length seen - 1) steps seen mid place n c f trail all fits)
