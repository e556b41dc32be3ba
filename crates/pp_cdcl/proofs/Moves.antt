-- What each move of a turn comes to.
use Rattle.std.proofs.Common.{ℕ, ◌+◌, ◌-◌, ◌*◌, ◌^◌, ◌≡◌, ◌<◌, ◌≤◌, Bool, true, false, List, [], ◌∷◌, ◌++◌, Option}
use Rattle.std.proofs.Common.{Some, None, sym, refl, ap, ◌∙◌, subst, inl, inr, arith, length, get_or, take, All}
use Rattle.std.proofs.Common.{length-append}
use Rattle.std.specs.Prelude.{IsSome}
use Rattle.std.proofs.lemmas.Bool.{both_ways, cases_eq}
use Rattle.std.proofs.lemmas.List.{get_or_default, get_or_push, get_or_append_left, take_all, length_push}
use Rattle.std.proofs.lemmas.List.{length-take-le, get_or-take}
use Rattle.std.proofs.lemmas.List.Elements.{All-weaker}
use Rattle.pp_clause.specs.Literal.{Literal, opposite}
use Rattle.pp_clause.specs.Clause.{has, HasBoth, IsClause, clauses_value}
use Rattle.pp_clause.specs.Derivation.{Derives}
use Rattle.pp_clause.specs.Log.{all_negated, lemma_clauses, IsLemma}
use Rattle.pp_clause.specs.Laws.{IsOver}
use Rattle.pp_clause.specs.New.{IsClosed}
use Rattle.pp_clause.specs.Assignment.{assigned}
use Rattle.pp_clause.specs.declared.log.Lemma.{Lemma}
use Rattle.pp_clause.proofs.Has.{has-push_last, has-append_left, same_var_cases, opposite_twice, false_not_true}
use Rattle.pp_clause.proofs.Soundness.{All-numbered}
use Rattle.pp_trail.specs.declared.step.Step.{Step}
use Rattle.pp_clause.specs.Bound.{IsUpTo}
use Rattle.pp_trail.specs.Trail.{Trail, IsTrail, IsReason, IsFalse, IsPlaceOf, StandsAt, lits}
use Rattle.pp_trail.proofs.Places.{IsAbsent, has_at, absent_before}
use Rattle.pp_trail.proofs.Growing.{lits_push}
use Rattle.pp_trail.proofs.Negated.{all_negated_from}
use Rattle.pp_watch.specs.Watching.{Grows}
use Rattle.pp_learn.specs.Conflict.{decisions}
use Rattle.pp_cdcl.specs.Answer.{IsSpent, Satisfies, RefutesWithin}
use Rattle.pp_cdcl.specs.declared.answer.Answer.{Answer}
use Rattle.pp_cdcl.specs.declared.answer.Answer.TheVariants.{Sat, Unsat, Spent}
use Rattle.pp_cdcl.specs.Reading.{IsFull, Reads}
use Rattle.pp_cdcl.specs.Invariant.{NoDecision, AreAssumed, IsBase, Logged, Invariant, left}
use Rattle.pp_cdcl.specs.Step.{SpendsAll, IsRight, IsStep, GoesOn, IsOwnLemma, IsMissing, IsReasonOf, cut_base}
use Rattle.pp_cdcl.specs.declared.search.Search.{Search}
use Rattle.pp_cdcl.proofs.Closed.{same_or_not}
use Rattle.pp_cdcl.proofs.Learning.{all_assumed, has_whole, learnt_log, kept_learnt}
use Rattle.pp_cdcl.proofs.Logs.{log_refutes, log_spent}
use Rattle.pp_cdcl.proofs.Over.{spent_few}
use Rattle.pp_cdcl.proofs.Reading.{clauses_true, assumptions_true, first_true, step_up_to}
use Rattle.pp_cdcl.proofs.Kept.{kept_assumed, kept_decided}

-- the lemma that refutes
pub refutes : (cs : List (List Literal)) (assumed : List Literal) (lemmas : ℕ) (watch : Trail) (log new : List Lemma)
    (m : Lemma) → Logged cs assumed lemmas watch log → AreAssumed assumed watch.steps (length watch.steps)
    → Derives watch.clauses m.chain m.clause → all_negated (decisions watch.steps) m.clause ≡ true → new ≡ log ++ m ∷ []
    → RefutesWithin cs assumed lemmas new
refutes cs assumed lemmas watch log new m h a d n e =
    rw e (log_refutes cs assumed lemmas log m h.right h.some_left
    (subst (λ (z : List (List Literal)). Derives z m.chain m.clause) h.clauses d)
    (all_assumed assumed watch.steps m.clause a n))

-- an assumption that is false
stands_there : (steps : List Step) (place : ℕ) (s : Step) → StandsAt steps place s → has (lits steps) s.lit ≡ true
stands_there steps place s at =
    subst (λ (z : List Step). has (lits z) s.lit ≡ true) (take_all (length steps) steps (omega arith))
    (has_at steps place (length steps) s at at.within)

negated_there : (assumed : List Literal) (steps : List Step) (l : Literal) (place : ℕ)
    → IsMissing assumed (lits steps) l → (p : IsPlaceOf steps l.var place) → p.step.lit ≡ opposite l
negated_there assumed steps l place m p =
    elim (same_var_cases p.step.lit l p.is) [
      | inl e ↦ absurd (both_ways (has (lits steps) l) m.not_true
          (subst (λ (z : Literal). has (lits steps) z ≡ true) e (stands_there steps place p.step p.stands)))
      | inr e ↦ e
    ]

some_reason : (o : Option ℕ) → (o ≡ None → ⊥) → IsSome o
some_reason None h = absurd (h refl)
some_reason (Some n) h = refl

forced_there : (assumed : List Literal) (steps : List Step) (l : Literal) (place : ℕ) → (HasBoth assumed → ⊥)
    → AreAssumed assumed steps (length steps) → IsMissing assumed (lits steps) l → (p : IsPlaceOf steps l.var place)
    → IsSome p.step.reason
forced_there assumed steps l place apart a m p =
    some_reason p.step.reason (λ e. apart (record {
      literal = l;
      itself = m.held;
      negation = subst (λ (z : Literal). has assumed z ≡ true) (negated_there assumed steps l place m p)
          (a.each place p.step (record { stands = p.stands; free = e }) p.stands.within);
    }))

read_step : (steps : List Step) (place : ℕ) (s d : Step) → StandsAt steps place s → get_or steps place d ≡ s
read_step steps place s d at = get_or_default steps place d s at.within ∙ sym at.is

pub reason_some : (assumed : List Literal) (steps : List Step) (l : Literal) (place : ℕ) (d : Step)
    → (HasBoth assumed → ⊥) → AreAssumed assumed steps (length steps) → IsMissing assumed (lits steps) l
    → IsPlaceOf steps l.var place → IsSome (get_or steps place d).reason
reason_some assumed steps l place d apart a m p =
    subst (λ (z : Step). IsSome z.reason) (sym (read_step steps place p.step d p.stands))
    (forced_there assumed steps l place apart a m p)

pub reason_is : (assumed : List Literal) (steps : List Step) (l : Literal) (place n : ℕ) (d : Step)
    → IsMissing assumed (lits steps) l → IsPlaceOf steps l.var place → (get_or steps place d).reason ≡ Some n
    → IsReasonOf steps place (opposite l) n
reason_is assumed steps l place n d m p e = record {
  step = p.step;
  stands = p.stands;
  is = negated_there assumed steps l place m p;
  reason = ap (λ (z : Step). z.reason) (sym (read_step steps place p.step d p.stands)) ∙ e;
}

pub place_up_to : (cs : List (List Literal)) (vars : ℕ) (steps : List Step) (x place : ℕ) → IsTrail cs vars steps
    → IsPlaceOf steps x place → x ≤ vars
place_up_to cs vars steps x place t p =
    (let b = step_up_to cs vars steps place p.step t p.stands in let e = p.is in omega arith)

pub place_absent : (cs : List (List Literal)) (vars : ℕ) (steps : List Step) (x place : ℕ) → IsTrail cs vars steps
    → IsPlaceOf steps x place → IsAbsent x (take place steps)
place_absent cs vars steps x place t p = subst (λ (z : ℕ). IsAbsent z (take place steps)) p.is
    (absent_before steps place p.step t.distinct p.stands)

pub assumed_decided : (assumed : List Literal) (steps : List Step) (place : ℕ) (l : Literal)
    → AreAssumed assumed steps (length steps) → place ≤ length steps → has assumed l ≡ true
    → (let s : Step = record { lit = l; reason = None } in
    AreAssumed assumed (take place steps ++ s ∷ []) (length (take place steps ++ s ∷ [])))
assumed_decided assumed steps place l a le h =
    let s : Step = record { lit = l; reason = None } in
    record {
      each = λ i step d lt. (
          let cut : length (take place steps) ≡ place = length-take-le place steps le in
          elim (cases_eq i (length (take place steps))) [
            | inl e ↦ subst (λ (z : Step). has assumed z.lit ≡ true)
                (sym (d.stands.is ∙ get_or_push (take place steps) s step i (sym e))) h
            | inr ne ↦ (
                let w : i < place = (let k = length_push (take place steps) s in omega arith) in
                let is : step ≡ get_or steps i step =
                d.stands.is ∙ get_or_append_left (take place steps) (s ∷ []) step i (omega arith)
                ∙ get_or-take place steps i step w in
                a.each i step (record { stands = record { within = omega arith; is = is }; free = d.free })
                (omega arith))
          ]);
    }

pub false_decided : (cs : List (List Literal)) (vars : ℕ) (steps : List Step) (place n : ℕ) (l : Literal)
    → IsTrail cs vars steps → IsReasonOf steps place (opposite l) n
    → (let s : Step = record { lit = l; reason = None } in IsFalse cs (lits (take place steps ++ s ∷ [])) n)
false_decided cs vars steps place n l t h =
    let s : Step = record { lit = l; reason = None } in
    let r : IsReason cs (lits (take place steps)) h.step.lit n = t.reasons place h.step h.stands n h.reason in
    record {
      clause = r.clause;
      is = r.is;
      negated = rw (lits_push (take place steps) s) (all_negated_from (lits (take place steps) ++ l ∷ []) r.clause
          (λ m k.
          elim (same_or_not m h.step.lit) [
            | inr ne ↦ has-append_left (lits (take place steps)) (l ∷ []) (opposite m) (r.others.negated m k ne)
            | inl e ↦ has-push_last (lits (take place steps)) l (opposite m) (ap opposite (e ∙ h.is) ∙ opposite_twice l)
          ]));
    }

-- the solver goes on
pub goes_on : (cs : List (List Literal)) (assumed : List Literal) (lemmas before : ℕ) (next : Search) (watch : Trail)
    (log : List Lemma) (base : Option ℕ) → next.watch ≡ watch → next.log ≡ log → next.base ≡ base
    → next.analysis ≡ watch.vars + 1 → Invariant cs assumed lemmas watch log base → left lemmas watch log < before
    → GoesOn cs assumed lemmas before next
goes_on cs assumed lemmas before next watch log base e f g z s h = record {
  invariant = rw (e, f, g) s;
  sized = z ∙ ap (λ (t : Trail). t.vars + 1) (sym e);
  nearer = rw (e, f) h;
}

-- a step that is nearer to its end than a later bound
pub step_later : (cs : List (List Literal)) (assumed : List Literal) (lemmas mid before : ℕ) (o : Option Answer)
    (next : Search) → mid ≤ before → IsStep cs assumed lemmas mid o next → IsStep cs assumed lemmas before o next
step_later cs assumed lemmas mid before (Some a) next le h = h
step_later cs assumed lemmas mid before None next le h = record {
  invariant = h.invariant;
  sized = h.sized;
  nearer = (let n = h.nearer in omega arith);
}

fewer_steps : (a v x y : ℕ) → x ≤ y → a * (v + 1) + x ≤ a * (v + 1) + y
fewer_steps a v x y le = omega arith

pub left_grown : (lemmas : ℕ) (old new : Trail) (log : List Lemma) → Grows old new
    → left lemmas new log ≤ left lemmas old log
left_grown lemmas old new log g =
    let long : length new.steps ≡ length old.steps + length g.steps.added =
    ap length g.steps.is ∙ length-append old.steps g.steps.added in
    subst (λ (v : ℕ). (lemmas - length log) * (v + 1) + (v - length new.steps) ≤ left lemmas old log) (sym g.vars)
    (fewer_steps (lemmas - length log) old.vars (old.vars - length new.steps) (old.vars - length old.steps)
    (omega arith))

more_steps : (a v x y : ℕ) → x < y → a * (v + 1) + x < a * (v + 1) + y
more_steps a v x y lt = omega arith

left_decided : (lemmas : ℕ) (watch : Trail) (log : List Lemma) (s : Step) → length watch.steps < watch.vars
    → left lemmas (record watch { steps = watch.steps ++ s ∷ [] }) log < left lemmas watch log
left_decided lemmas watch log s lt =
    let k : length (watch.steps ++ s ∷ []) ≡ length watch.steps + 1 = length_push watch.steps s in
    more_steps (lemmas - length log) watch.vars (watch.vars - length (watch.steps ++ s ∷ []))
    (watch.vars - length watch.steps) (omega arith)

pub goes_decided : (cs : List (List Literal)) (assumed : List Literal) (lemmas : ℕ) (watch : Trail) (log : List Lemma)
    (base : Option ℕ) (s : Step) (next : Search) → Invariant cs assumed lemmas watch log base → IsSome base
    → IsClosed watch.clauses (lits watch.steps) → length watch.steps < watch.vars
    → next.watch ≡ record watch { steps = watch.steps ++ s ∷ [] } → next.log ≡ log → next.base ≡ base
    → next.analysis ≡ watch.vars + 1 → GoesOn cs assumed lemmas (left lemmas watch log) next
goes_decided cs assumed lemmas watch log None s next h some c room e f g z = absurd (false_not_true some)
goes_decided cs assumed lemmas watch log (Some end) s next h some c room e f g z =
    goes_on cs assumed lemmas (left lemmas watch log) next (record watch { steps = watch.steps ++ s ∷ [] }) log
    (Some end) e f g z (kept_decided cs assumed lemmas watch log end s h c) (left_decided lemmas watch log s room)

pub goes_assumed : (cs : List (List Literal)) (assumed : List Literal) (lemmas : ℕ) (watch : Trail) (log : List Lemma)
    (base : Option ℕ) (s : Step) (next : Search) → Invariant cs assumed lemmas watch log base → base ≡ None
    → IsClosed watch.clauses (lits watch.steps) → has assumed s.lit ≡ true → length watch.steps < watch.vars
    → next.watch ≡ record watch { steps = watch.steps ++ s ∷ [] } → next.log ≡ log → next.base ≡ base
    → next.analysis ≡ watch.vars + 1 → GoesOn cs assumed lemmas (left lemmas watch log) next
goes_assumed cs assumed lemmas watch log base s next h none c a room e f g z =
    goes_on cs assumed lemmas (left lemmas watch log) next (record watch { steps = watch.steps ++ s ∷ [] }) log None e f
    (g ∙ none) z
    (kept_assumed cs assumed lemmas watch log s (subst (λ (z : Option ℕ). Invariant cs assumed lemmas watch log z) none
    h) c a) (left_decided lemmas watch log s room)

fewer_lemmas : (a v x y : ℕ) → x ≤ v → a * (v + 1) + x < (a + 1) * (v + 1) + y
fewer_lemmas a v x y le = omega arith

pub goes_learnt : (cs : List (List Literal)) (assumed : List Literal) (lemmas : ℕ) (watch : Trail) (log : List Lemma)
    (base : Option ℕ) (m : Lemma) (back to : ℕ) (next : Search) →
    Invariant cs assumed lemmas watch log base → IsOwnLemma watch base m back → (length (log ++ m ∷ []) ≡ lemmas → ⊥)
    → to ≤ length watch.steps → NoDecision watch.steps back to →
    next.watch ≡ record { clauses = watch.clauses ++ m.clause ∷ []; steps = take to watch.steps; vars = watch.vars }
    → next.log ≡ log ++ m ∷ [] → next.base ≡ cut_base base to → next.analysis ≡ watch.vars + 1
    → GoesOn cs assumed lemmas (left lemmas watch log) next
goes_learnt cs assumed lemmas watch log base m back to next s k ne le none e f g z =
    let len : length (log ++ m ∷ []) ≡ length log + 1 = length_push log m in
    let some = s.logged.some_left in
    let few : length (log ++ m ∷ []) < lemmas = omega arith in
    let one : lemmas - length log ≡ (lemmas - length (log ++ m ∷ [])) + 1 = omega arith in
    goes_on cs assumed lemmas (left lemmas watch log) next
    (record { clauses = watch.clauses ++ m.clause ∷ []; steps = take to watch.steps; vars = watch.vars })
    (log ++ m ∷ []) (cut_base base to) e f g z
    (kept_learnt cs assumed lemmas watch log base to m back s k few le none)
    (subst (λ (z : ℕ). (lemmas - length (log ++ m ∷ [])) * (watch.vars + 1) +
    (watch.vars - length (take to watch.steps)) < z * (watch.vars + 1) + (watch.vars - length watch.steps))
    (sym one)
    (fewer_lemmas (lemmas - length (log ++ m ∷ [])) watch.vars (watch.vars - length (take to watch.steps))
    (watch.vars - length watch.steps) (omega arith)))

-- the trail is cut, and then the clause is added
pub cut_and_added : (old cut new : Trail) (to : ℕ) (c d : List Literal) → cut ≡ record old { steps = take to old.steps }
    → new ≡ record cut { clauses = cut.clauses ++ d ∷ [] } → d ≡ c
    → new ≡ record { clauses = old.clauses ++ c ∷ []; steps = take to old.steps; vars = old.vars }
cut_and_added old cut new to c d e f g =
    f ∙ ap (λ (t : Trail). record t { clauses = t.clauses ++ d ∷ [] }) e
    ∙ ap (λ (z : List Literal). record old { clauses = old.clauses ++ z ∷ []; steps = take to old.steps }) g

pub spends_all : (cs : List (List Literal)) (assumed : List Literal) (lemmas : ℕ) (watch : Trail) (log : List Lemma)
    (base : Option ℕ) (m : Lemma) (back : ℕ) (new : List Lemma) → Invariant cs assumed lemmas watch log base
    → IsOwnLemma watch base m back → new ≡ log ++ m ∷ [] → length new ≡ lemmas → All IsLemma new
    → SpendsAll cs assumed lemmas new
spends_all cs assumed lemmas watch log base m back new s k e len h = record {
  spent = log_spent cs assumed lemmas new (rw e (learnt_log cs assumed lemmas watch log base m back s k)) len;
  lemmas = h;
}

-- the trail is full and closed
held_whole : (assumed : List Literal) (steps : List Step) (base : Option ℕ) → IsBase assumed steps base → IsSome base
    → All (λ a. has (lits steps) a ≡ true) assumed
held_whole assumed steps None b some = absurd (false_not_true some)
held_whole assumed steps (Some end) b some = All-weaker (λ a. has (lits (take end steps)) a ≡ true)
    (λ a. has (lits steps) a ≡ true) (λ a h. has_whole steps end a b.within h) assumed b.held

pub satisfies : (cs : List (List Literal)) (assumed : List Literal) (lemmas : ℕ) (watch : Trail) (log : List Lemma)
    (base : Option ℕ) (values : List Bool) → Invariant cs assumed lemmas watch log base → IsSome base
    → IsClosed watch.clauses (lits watch.steps) → IsFull watch.vars watch.steps → Reads values (lits watch.steps)
    → All IsClause watch.clauses → All (IsUpTo watch.vars) watch.clauses → Satisfies cs assumed values
satisfies cs assumed lemmas watch log base values s some c full r order up = record {
  clauses = first_true (assigned values) cs (lemma_clauses log)
      (subst (λ (z : List (List Literal)). clauses_value (assigned values) z ≡ true) s.logged.clauses
      (clauses_true watch.vars watch.steps values watch.clauses full r order up c.none_false));
  assumptions = assumptions_true values (lits watch.steps) assumed r (held_whole assumed watch.steps base s.based some);
}

-- what learning at the last decision needs
pub not_false_before : (cs : List (List Literal)) (set : List Literal) (n : ℕ) → IsClosed cs set → IsFalse cs set n → ⊥
not_false_before cs set n c f =
    both_ways (all_negated set f.clause) (All-numbered (λ d. all_negated set d ≡ false) cs n f.clause c.none_false f.is)
    f.negated

-- where a right answer is that all lemmas are spent, these are few
pub right_never : (cs : List (List Literal)) (assumed : List Literal) (lemmas : ℕ) (a : Answer)
    → IsRight cs assumed lemmas a → (xs : List ℕ) → All (IsOver xs) cs → 3 ^ length xs ≤ lemmas → IsSpent a → ⊥
right_never cs assumed lemmas (Sat s) h xs over le n = n
right_never cs assumed lemmas (Unsat log) h xs over le n = n
right_never cs assumed lemmas (Spent log) h xs over le n =
    (let few = spent_few cs assumed lemmas log h.lemmas h.spent xs over in omega arith)
