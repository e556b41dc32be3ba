-- The state of the solver after a lemma is learnt.
use Rattle.std.proofs.Common.{cond, ℕ, ◌≡◌, ◌<◌, ◌≤◌, Bool, true, false, List, [], ◌∷◌, ◌++◌, Option, Some, None, sym}
use Rattle.std.proofs.Common.{refl, ap, ◌∙◌, subst, inl, inr, arith, length, get_or, take, All, append_assoc}
use Rattle.std.specs.Prelude.{nat_le, filter, is_none}
use Rattle.std.proofs.lemmas.Bool.{both_ways, cases_lt, false_from_ne_true, leb-true, leb-false}
use Rattle.std.proofs.lemmas.List.{take-take, get_or-take, length-take-le, take_all, get_or_default}
use Rattle.std.proofs.lemmas.List.Elements.{All-head, All-tail}
use Rattle.pp_clause.specs.Literal.{Literal, opposite}
use Rattle.pp_clause.specs.Clause.{has}
use Rattle.pp_clause.specs.Derivation.{Derives}
use Rattle.pp_clause.specs.Log.{all_negated, lemma_clauses}
use Rattle.pp_clause.specs.New.{IsNew}
use Rattle.pp_clause.specs.declared.log.Lemma.{Lemma}
use Rattle.pp_clause.proofs.Has.{has-nil, has-cases, has-All, All-from_has}
use Rattle.pp_trail.specs.declared.step.Step.{Step}
use Rattle.pp_clause.specs.Bound.{IsUpTo}
use Rattle.pp_trail.specs.Trail.{Trail, IsTrail, lits}
use Rattle.pp_trail.proofs.Places.{literal_at, has_at}
use Rattle.pp_trail.proofs.Negated.{negated_at, all_negated_from}
use Rattle.pp_learn.specs.Conflict.{decisions}
use Rattle.pp_cdcl.specs.Invariant.{IsDecision, NoDecision, AreAssumed, HoldsAll, IsBase, IsLayered, IsLog, Invariant}
use Rattle.pp_cdcl.specs.Step.{IsOwn, IsLearnt, IsOwnLemma, cut_base}
use Rattle.pp_cdcl.proofs.Closed.{others_or_not, closed_add}
use Rattle.pp_cdcl.proofs.Logs.{clauses_push, log_push}

-- what stands among fewer steps stands among more
has_more : (steps : List Step) (n k : ℕ) (m : Literal) → n ≤ k → has (lits (take n steps)) m ≡ true
    → has (lits (take k steps)) m ≡ true
has_more steps n k m le h =
    let p = literal_at steps n m h in
    subst (λ (z : Literal). has (lits (take k steps)) z ≡ true) p.is
    (has_at steps p.place k p.step p.stands (let b = p.before in omega arith))

pub has_whole : (steps : List Step) (n : ℕ) (m : Literal) → n ≤ length steps → has (lits (take n steps)) m ≡ true
    → has (lits steps) m ≡ true
has_whole steps n m le h =
    subst (λ (z : List Step). has (lits z) m ≡ true) (take_all (length steps) steps (omega arith))
    (has_more steps n (length steps) m le h)

learnt_refutes_not : (assumed : List Literal) (watch : Trail) (end start : ℕ) (m : Lemma) (back : ℕ)
    → HoldsAll assumed watch.steps end → end ≤ start → IsLearnt watch start m back
    → all_negated assumed m.clause ≡ false
learnt_refutes_not assumed watch end start m back a le h =
    false_from_ne_true (all_negated assumed m.clause) (λ n.
    let there : has (lits (take end watch.steps)) (opposite h.literal) ≡ true =
    has-All (λ z. has (lits (take end watch.steps)) z ≡ true) assumed (opposite h.literal) a.held
    (negated_at assumed m.clause h.literal n h.held) in
    both_ways (has (lits (take start watch.steps)) (opposite h.literal)) h.is_open.negation
    (has_more watch.steps end start (opposite h.literal) le there))

own_base : (assumed : List Literal) (steps : List Step) (base : Option ℕ) (start : ℕ) → IsBase assumed steps base
    → (o : IsOwn steps base start) → HoldsAll assumed steps o.end
own_base assumed steps base start b o = subst (λ (z : Option ℕ). IsBase assumed steps z) o.is b

-- the log with the lemma
pub learnt_log : (cs : List (List Literal)) (assumed : List Literal) (lemmas : ℕ) (watch : Trail) (log : List Lemma)
    (base : Option ℕ) (m : Lemma) (back : ℕ) →
    Invariant cs assumed lemmas watch log base → IsOwnLemma watch base m back → IsLog cs assumed (log ++ m ∷ [])
learnt_log cs assumed lemmas watch log base m back s k =
    log_push cs assumed log m s.logged.right
    (subst (λ (z : List (List Literal)). Derives z m.chain m.clause) s.logged.clauses k.learnt.derives)
    (subst (λ (z : List (List Literal)). IsNew z m.clause) s.logged.clauses
    (k.learnt.new (s.layered.closed k.start k.own.last.step k.own.last.decision)))
    (learnt_refutes_not assumed watch k.own.end k.start m back (own_base assumed watch.steps base k.start s.based k.own)
    k.own.after k.learnt)

stands_take : (steps : List Step) (n place : ℕ) (step : Step) → n ≤ length steps → IsDecision (take n steps) place step
    → IsDecision steps place step × (place < n)
stands_take steps n place step le d =
    let cut : length (take n steps) ≡ n = length-take-le n steps le in
    let w = d.stands.within in
    let lt : place < n = omega arith in (
      record {
        stands = record { within = omega arith; is = d.stands.is ∙ get_or-take n steps place step lt };
        free =
            d.free;
      },
      lt,
    )

learnt_layered : (watch : Trail) (start to : ℕ) (m : Lemma) (back : ℕ) → IsLayered watch → IsLearnt watch start m back
    → to ≤ length watch.steps → NoDecision watch.steps back to
    → IsLayered (record { clauses = watch.clauses ++ m.clause ∷ []; steps = take to watch.steps; vars = watch.vars })
learnt_layered watch start to m back y h le none = record {
  closed = λ place step d. (
      let p = stands_take watch.steps to place step le d in
      elim (cases_lt place back) [
        | inr ge ↦ absurd (none.none place step p.0 ge p.1)
        | inl lt ↦ (
            let before : take place (take to watch.steps) ≡ take place watch.steps =
            take-take place to watch.steps (let b = p.1 in omega arith) in
            let missing : has (lits (take place watch.steps)) (opposite h.literal) ≡ false =
            false_from_ne_true _ (λ k. both_ways (has (lits (take start watch.steps)) (opposite h.literal))
            h.is_open.negation (has_more watch.steps place start (opposite h.literal)
            (let w = h.within in omega arith) k)) in
            rw before (elim (others_or_not (lits (take place watch.steps)) m.clause h.literal) [
              | inl o ↦ absurd (let b = h.least place o in omega arith)
              | inr w ↦ closed_add watch.clauses (lits (take place watch.steps)) m.clause h.literal
                  (y.closed place step p.0) h.held missing w
            ]))
      ]);
}

assumed_take : (assumed : List Literal) (steps : List Step) (end n : ℕ) → n ≤ length steps
    → AreAssumed assumed steps end → n ≤ end → AreAssumed assumed (take n steps) (length (take n steps))
assumed_take assumed steps end n le a k = record {
  each = λ place step d lt.
      (let p = stands_take steps n place step le d in let b = p.1 in a.each place step p.0 (omega arith));
}

holds_take : (assumed : List Literal) (steps : List Step) (end n : ℕ) → n ≤ length steps → HoldsAll assumed steps end
    → end ≤ n → HoldsAll assumed (take n steps) end
holds_take assumed steps end n le a k = record {
  within = (let cut : length (take n steps) ≡ n = length-take-le n steps le in omega arith);
  decisions = record {
    each = λ place step d lt. a.decisions.each place step (stands_take steps n place step le d).0 lt;
  };
  held = subst (λ (z : List Step). All (λ b. has (lits z) b ≡ true) assumed) (sym (take-take end n steps k)) a.held;
}

base_cut : (assumed : List Literal) (steps : List Step) (end to : ℕ) → to ≤ length steps → HoldsAll assumed steps end
    → IsBase assumed (take to steps) (cut_base (Some end) to)
base_cut assumed steps end to le a = by_order (nat_le end to) refl
  where
    by_order : (b : Bool) → nat_le end to ≡ b → IsBase assumed (take to steps) (cond b (Some end) None)
    by_order true e = holds_take assumed steps end to le a (leb-true end to e)
    by_order false e = assumed_take assumed steps end to le a.decisions (let lt = leb-false end to e in omega arith)

base_after : (assumed : List Literal) (steps : List Step) (base : Option ℕ) (start to : ℕ) → to ≤ length steps
    → IsBase assumed steps base → IsOwn steps base start → IsBase assumed (take to steps) (cut_base base to)
base_after assumed steps base start to le b o =
    subst (λ (z : Option ℕ). IsBase assumed (take to steps) (cut_base z to)) (sym o.is)
    (base_cut assumed steps o.end to le (own_base assumed steps base start b o))

-- the state with the lemma, after the trail is cut
pub kept_learnt : (cs : List (List Literal)) (assumed : List Literal) (lemmas : ℕ) (watch : Trail) (log : List Lemma)
    (base : Option ℕ) (to : ℕ) (m : Lemma) (back : ℕ) →
    Invariant cs assumed lemmas watch log base → IsOwnLemma watch base m back → length (log ++ m ∷ []) < lemmas
    → to ≤ length watch.steps → NoDecision watch.steps back to →
    Invariant cs assumed lemmas (record {
      clauses = watch.clauses ++ m.clause ∷ [];
      steps = take to watch.steps;
      vars =
          watch.vars;
    }) (log ++ m ∷ []) (cut_base base to)
kept_learnt cs assumed lemmas watch log base to m back s k few le none = record {
  logged = record {
    clauses = ap (λ (z : List (List Literal)). z ++ m.clause ∷ []) s.logged.clauses
        ∙ append_assoc cs (lemma_clauses log) (m.clause ∷ [])
        ∙ sym (ap (λ (z : List (List Literal)). cs ++ z) (clauses_push log m));
    right = learnt_log cs assumed lemmas watch log base m back s k;
    some_left = few;
  };
  up_to = s.up_to;
  small = s.small;
  layered = learnt_layered watch k.start to m back s.layered k.learnt le none;
  based = base_after assumed watch.steps base k.start to le s.based k.own;
}

-- the literals of a clause that a trail negates are up to the greatest variable of the trail
pub learnt_up_to : (cs : List (List Literal)) (vars : ℕ) (steps : List Step) (c : List Literal) → IsTrail cs vars steps
    → all_negated (lits steps) c ≡ true → IsUpTo vars c
learnt_up_to cs vars steps c t h = All-from_has (λ l. l.var ≤ vars) c
    (λ m k. has-All (λ l. l.var ≤ vars) (lits steps) (opposite m) t.up_to (negated_at (lits steps) c m h k))

-- a clause of negated decisions, where all decisions are assumptions
decision_held : (assumed : List Literal) (steps : List Step)
    → All (λ s. s.reason ≡ None → has assumed s.lit ≡ true) steps → (m : Literal) → has (decisions steps) m ≡ true
    → has assumed m ≡ true
decision_held assumed [] h m k = absurd (has-nil m k)
decision_held assumed (s ∷ ss) h m k =
    by_reason (decision_held assumed ss (All-tail (λ t. t.reason ≡ None → has assumed t.lit ≡ true) s ss h) m) s.reason
    refl (All-head (λ t. t.reason ≡ None → has assumed t.lit ≡ true) s ss h) k
  where
    by_reason : (has (decisions ss) m ≡ true → has assumed m ≡ true) → (o : Option ℕ) → s.reason ≡ o
        → (s.reason ≡ None → has assumed s.lit ≡ true) → has
        (lits (cond (is_none s.reason) (s ∷ filter (λ t. is_none t.reason) ss) (filter (λ t. is_none t.reason) ss))) m ≡
        true → has assumed m ≡ true
    by_reason rest None e here j =
        elim (has-cases s.lit (decisions ss) m (subst (λ (o : Option ℕ). has
        (lits (cond (is_none o) (s ∷ filter (λ t. is_none t.reason) ss) (filter (λ t. is_none t.reason) ss))) m ≡
        true) e j)) [
          | inl f ↦ ap (has assumed) f ∙ here e
          | inr i ↦ rest i
        ]
    by_reason rest (Some n) e here j = rest (subst (λ (o : Option ℕ). has
        (lits (cond (is_none o) (s ∷ filter (λ t. is_none t.reason) ss) (filter (λ t. is_none t.reason) ss))) m ≡ true)
        e j)

pub all_assumed : (assumed : List Literal) (steps : List Step) (c : List Literal)
    → AreAssumed assumed steps (length steps) → all_negated (decisions steps) c ≡ true → all_negated assumed c ≡ true
all_assumed assumed steps c a h = all_negated_from assumed c (λ m k.
    decision_held assumed steps (λ i d lt free. a.each i (get_or steps i d)
    (record { stands = record { within = lt; is = get_or_default steps i d (get_or steps i d) lt }; free = free })
    lt)
    (opposite m) (negated_at (decisions steps) c m h k))
