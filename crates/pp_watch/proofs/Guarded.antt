-- Clauses go on to be guarded.
use Rattle.std.proofs.Common.{ℕ, zero, suc, ◌+◌, ◌-◌, ◌≡◌, ◌≢◌, ◌<◌, ◌≤◌, true, false, List, [], ◌∷◌, ◌++◌}
use Rattle.std.proofs.Common.{sym, refl, ap, ◌∙◌, subst, inl, inr, ◌⊎◌, arith, length, get_or, set, take, All}
use Rattle.std.proofs.Common.{length-set, Some}
use Rattle.std.specs.Prelude.{AllPairs, slice_get}
use Rattle.std.proofs.lemmas.Option.{get_or_from_slice_get}
use Rattle.std.proofs.lemmas.List.{get_or_append_left, get_or-take, length_push, take-append-le, take-take, take_all}
use Rattle.std.proofs.lemmas.List.{take_more, length-take-le}
use Rattle.std.proofs.lemmas.List.Elements.{All-push, All-weaker, All-take, All-nil}
use Rattle.std.proofs.lemmas.List.Quantifiers.{all_pairs_push}
use Rattle.pp_clause.specs.Literal.{Literal, opposite}
use Rattle.pp_clause.specs.Clause.{has}
use Rattle.pp_clause.proofs.Has.{has-nil, has-cases, has-at_head, has-there, has-append_left, has-push_cases}
use Rattle.pp_clause.proofs.Has.{opposite_twice, false_not_true}
use Rattle.pp_trail.specs.declared.step.Step.{Step}
use Rattle.pp_trail.specs.Trail.{lits}
use Rattle.pp_trail.proofs.Growing.{lits_push}
use Rattle.pp_trail.specs.Marks.{code}
use Rattle.pp_watch.specs.Watching.{clause_at, head_at, HasTrue, IsGuarded, AreGuarded, IsLevel, IsVisited}
use Rattle.pp_watch.specs.Looking.{Watches, IsCut}
use Rattle.pp_watch.specs.declared.head.Head.{Head}
use Rattle.pp_watch.proofs.Watched.{same_or_not, head_set_same, head_set_other, head_push_old, head_push_last}

-- literals of the first steps are literals of the steps
pub has_before : (ss : List Step) (n : ℕ) (m : Literal) → has (lits (take n ss)) m ≡ true → has (lits ss) m ≡ true
has_before [] zero m h = h
has_before [] (suc n) m h = h
has_before (s ∷ ss) zero m h = absurd (has-nil m h)
has_before (s ∷ ss) (suc n) m h =
    elim (has-cases s.lit (lits (take n ss)) m h) [
      | inl e ↦ has-at_head s.lit (lits ss) m e
      | inr k ↦ has-there s.lit (lits ss) m (has_before ss n m k)
    ]

pub has_after : (ss : List Step) (s : Step) (m : Literal) → has (lits ss) m ≡ true → has (lits (ss ++ s ∷ [])) m
    ≡ true
has_after ss s m h = ap (λ (z : List Literal). has z m) (lits_push ss s) ∙ has-append_left (lits ss) (s.lit ∷ []) m h

pub true_more : (set more c : List Literal) → ((m : Literal) → has set m ≡ true → has more m ≡ true) →
    HasTrue set c → HasTrue more c
true_more set more c f t = record { literal = t.literal; held = t.held; itself = f t.literal t.itself }

pub guarded_more : (below whole more c : List Literal) (h : Head) →
    ((m : Literal) → has whole m ≡ true → has more m ≡ true) → IsGuarded below whole c h → IsGuarded below more c h
guarded_more below whole more c h f g = record {
  first = λ k. true_more whole more c f (g.first k);
  second = λ k. true_more whole more c f (g.second k);
  single = λ e. true_more whole more c f (g.single e);
}

-- a clause with a true literal
pub guarded_true : (below whole c : List Literal) (h : Head) → HasTrue whole c → IsGuarded below whole c h
guarded_true below whole c h t = record { first = λ k. t; second = λ k. t; single = λ e. t }

-- one step more
level_push : (cs : List (List Literal)) (heads : List Head) (ss : List Step) (s : Step) (n : ℕ) →
    IsLevel cs heads ss n → IsLevel cs heads (ss ++ s ∷ []) n
level_push cs heads ss s n h =
    let w = h.within in
    record {
      within = omega (arith, length_push ss s);
      guarded = subst (λ (z : List Step). AreGuarded cs heads (lits z) (lits z))
          (sym (take-append-le n ss (s ∷ []) w)) h.guarded;
    }

pub visited_push : (cs : List (List Literal)) (heads : List Head) (ss : List Step) (visited : ℕ) (levels : List ℕ)
    (s : Step) → IsVisited cs heads ss visited levels → IsVisited cs heads (ss ++ s ∷ []) visited levels
visited_push cs heads ss visited levels s h =
    let w = h.within in
    record {
      within = omega (arith, length_push ss s);
      guarded = λ k lt. subst (λ (z : List Step). IsGuarded (lits z) (lits (ss ++ s ∷ [])) (clause_at cs k)
          (head_at heads k)) (sym (take-append-le visited ss (s ∷ []) w))
          (guarded_more (lits (take visited ss)) (lits ss) (lits (ss ++ s ∷ [])) (clause_at cs k) (head_at heads k)
          (has_after ss s) (h.guarded k lt));
      kept = All-weaker (IsLevel cs heads ss) (IsLevel cs heads (ss ++ s ∷ []))
          (λ n l. level_push cs heads ss s n l) levels h.kept;
      ascending = h.ascending;
    }

-- a clause watches another literal, which isn't false
set_one : (ss : List Step) (below whole c : List Literal) (g h : Head) →
    ((m : Literal) → has below m ≡ true → has (lits ss) m ≡ true) → has (lits ss) (opposite h.first) ≡ false →
    code h.first ≢ code h.second →
    (g.second ≡ h.second) ⊎ (g.first ≡ h.second) → IsGuarded below whole c g → IsGuarded below whole c h
set_one ss below whole c g h f nf ne old i = record {
  first = λ k. absurd (false_not_true (sym nf ∙ f (opposite h.first) k));
  second = λ k. elim old [
    | inl e ↦ i.second (ap (λ (z : Literal). has below (opposite z)) e ∙ k)
    | inr e ↦ i.first (ap (λ (z : Literal). has below (opposite z)) e ∙ k)
  ];
  single = λ e. absurd (ne e);
}

guarded_set : (cs : List (List Literal)) (heads : List Head) (ss : List Step) (below whole : List Literal) (k : ℕ)
    (h : Head) → ((m : Literal) → has below m ≡ true → has (lits ss) m ≡ true) → k < length heads →
    has (lits ss) (opposite h.first) ≡ false → code h.first ≢ code h.second →
    ((head_at heads k).second ≡ h.second) ⊎ ((head_at heads k).first ≡ h.second) →
    AreGuarded cs heads below whole → AreGuarded cs (set heads k h) below whole
guarded_set cs heads ss below whole k h f in' nf ne old g = λ j lt.
    elim (same_or_not j k) [
      | inl e ↦ subst (λ (n : ℕ). IsGuarded below whole (clause_at cs n) (head_at (set heads k h) n)) (sym e)
          (subst (λ (x : Head). IsGuarded below whole (clause_at cs k) x) (sym (head_set_same heads k h in'))
          (set_one ss below whole (clause_at cs k) (head_at heads k) h f nf ne old (g k in')))
      | inr far ↦ subst (λ (x : Head). IsGuarded below whole (clause_at cs j) x)
          (sym (head_set_other heads k j h far)) (g j (omega (arith, length-set heads k h)))
    ]

pub visited_set : (cs : List (List Literal)) (heads : List Head) (ss : List Step) (visited : ℕ) (levels : List ℕ)
    (k : ℕ) (h : Head) → IsVisited cs heads ss visited levels → k < length heads →
    has (lits ss) (opposite h.first) ≡ false → code h.first ≢ code h.second →
    ((head_at heads k).second ≡ h.second) ⊎ ((head_at heads k).first ≡ h.second) → IsVisited cs
    (set heads k h) ss visited levels
visited_set cs heads ss visited levels k h i in' nf ne old = record {
  within = i.within;
  guarded = guarded_set cs heads ss (lits (take visited ss)) (lits ss) k h
      (has_before ss visited) in' nf ne old i.guarded;
  kept = All-weaker (IsLevel cs heads ss) (IsLevel cs (set heads k h) ss)
      (λ n l. record {
        within = l.within;
        guarded = guarded_set cs heads ss (lits (take n ss))
            (lits (take n ss)) k h (has_before ss n) in' nf ne old l.guarded;
      }) levels i.kept;
  ascending = i.ascending;
}

-- one clause more watches
guarded_attach : (cs : List (List Literal)) (heads : List Head) (below whole : List Literal) (h : Head) →
    AreGuarded cs heads below whole → IsGuarded below whole (clause_at cs (length heads)) h → AreGuarded cs
    (heads ++ h ∷ []) below whole
guarded_attach cs heads below whole h g own = λ j lt.
    elim (same_or_not j (length heads)) [
      | inl e ↦ subst (λ (n : ℕ). IsGuarded below whole (clause_at cs n) (head_at (heads ++ h ∷ []) n)) (sym e)
          (subst (λ (x : Head). IsGuarded below whole (clause_at cs (length heads)) x)
          (sym (head_push_last heads h (length heads) refl)) own)
      | inr far ↦ (
          let b : j < length heads = omega (arith, length_push heads h) in
          subst (λ (x : Head). IsGuarded below whole (clause_at cs j) x) (sym (head_push_old heads h j b)) (g j b))
    ]

pub visited_attach : (cs : List (List Literal)) (heads : List Head) (ss : List Step) (visited : ℕ)
    (levels : List ℕ) (h : Head) → IsVisited cs heads ss visited levels →
    IsGuarded (lits (take visited ss)) (lits ss) (clause_at cs (length heads)) h → All
    (λ n. IsGuarded (lits (take n ss)) (lits (take n ss)) (clause_at cs (length heads)) h) levels →
    IsVisited cs (heads ++ h ∷ []) ss visited levels
visited_attach cs heads ss visited levels h i own all = record {
  within = i.within;
  guarded = guarded_attach cs heads (lits (take visited ss)) (lits ss) h i.guarded own;
  kept = λ k d lt. (let l = i.kept k d lt in
      record {
        within = l.within;
        guarded = guarded_attach cs heads (lits (take (get_or levels k d) ss))
            (lits (take (get_or levels k d) ss)) h l.guarded (all k d lt);
      });
  ascending = i.ascending;
}

-- one step more is visited
visited_one : (below whole c : List Literal) (p : Literal) (h : Head) →
    (Watches h (opposite p) → HasTrue whole c) → IsGuarded below whole c h → IsGuarded (below ++ p ∷ []) whole c h
visited_one below whole c p h f g =
    let turned : (l : Literal) → opposite l ≡ p → l ≡ opposite p = λ l e. sym (opposite_twice l) ∙ ap opposite e in
    record {
      first = λ k. elim (has-push_cases below p (opposite h.first) k) [
        | inl j ↦ g.first j
        | inr e ↦ f (inl (ap code (turned h.first e)))
      ];
      second = λ k. elim (has-push_cases below p (opposite h.second) k) [
        | inl j ↦ g.second j
        | inr e ↦ f (inr (ap code (turned h.second e)))
      ];
      single = g.single;
    }

pub visited_more : (cs : List (List Literal)) (heads : List Head) (ss : List Step) (visited : ℕ) (levels : List ℕ)
    (s : Step) → IsVisited cs heads ss visited levels → visited < length ss → s ≡ get_or ss visited s →
    ((k : ℕ) → k < length heads → Watches (head_at heads k) (opposite s.lit) → HasTrue (lits ss)
    (clause_at cs k)) → IsVisited cs heads ss (visited + 1) levels
visited_more cs heads ss visited levels s i lt is f =
    let next : take (visited + 1) ss ≡ take visited ss ++ s ∷ [] = take_more ss visited s lt ∙ ap
    (λ (x : Step). take visited ss ++ x ∷ []) (sym is) in
    record {
      within = omega arith;
      guarded = λ k b. subst (λ (z : List Literal). IsGuarded z (lits ss) (clause_at cs k) (head_at heads k))
          (sym (ap lits next ∙ lits_push (take visited ss) s))
          (visited_one (lits (take visited ss)) (lits ss) (clause_at cs k) s.lit (head_at heads k) (f k b)
          (i.guarded k b));
      kept = i.kept;
      ascending = i.ascending;
    }

-- levels
pub cut_kept : (P : ℕ → Type 0) (levels : List ℕ) (bound : ℕ) (new : List ℕ) → IsCut levels bound new →
    All P levels → All P new
cut_kept P levels bound new c h = subst (λ (z : List ℕ). All P z) (sym c.is) (All-take P c.count levels h)

pairs_cut : (levels : List ℕ) (bound : ℕ) (new : List ℕ) → IsCut levels bound new → AllPairs
    (λ m n. m ≤ n) levels → AllPairs (λ m n. m ≤ n) new
pairs_cut levels bound new c h =
    let len : length new ≡ c.count = ap length c.is ∙ length-take-le c.count levels c.few in
    λ i j d lt in'. (
    let far : get_or levels i d ≤ get_or levels j d = h i j d lt (let f = c.few in omega arith) in
    let a : get_or new i d ≡ get_or levels i d = ap (λ (z : List ℕ). get_or z i d) c.is
    ∙ get_or-take c.count levels i d (omega arith) in
    let b : get_or new j d ≡ get_or levels j d = ap (λ (z : List ℕ). get_or z j d) c.is
    ∙ get_or-take c.count levels j d (omega arith) in
    omega arith)

pub visited_cut : (cs : List (List Literal)) (heads : List Head) (ss : List Step) (visited : ℕ) (levels : List ℕ)
    (bound : ℕ) (new : List ℕ) → IsVisited cs heads ss visited levels → IsCut levels bound new →
    IsVisited cs heads ss visited new
visited_cut cs heads ss visited levels bound new i c = record {
  within = i.within;
  guarded = i.guarded;
  kept = cut_kept (IsLevel cs heads ss) levels bound new c i.kept;
  ascending = pairs_cut levels bound new c i.ascending;
}

pub level_more : (cs : List (List Literal)) (heads : List Head) (ss : List Step) (visited : ℕ) (levels : List ℕ) →
    IsVisited cs heads ss visited levels → visited ≡ length ss → IsVisited cs heads ss visited
    (levels ++ visited ∷ [])
level_more cs heads ss visited levels i end =
    let all : take visited ss ≡ ss = take_all visited ss (omega arith) in
    record {
      within = i.within;
      guarded = i.guarded;
      kept = All-push (IsLevel cs heads ss) levels visited i.kept
          (record {
            within = i.within;
            guarded = subst
                (λ (z : List Step). AreGuarded cs heads (lits (take visited ss)) (lits z)) (sym all) i.guarded;
          });
      ascending = all_pairs_push (λ m n. m ≤ n) levels visited i.ascending
          (λ k d lt. (let w = (i.kept k d lt).within in omega arith));
    }

-- fewer steps
level_take : (cs : List (List Literal)) (heads : List Head) (ss : List Step) (n m : ℕ) → n ≤ length ss → m ≤ n →
    IsLevel cs heads ss m → IsLevel cs heads (take n ss) m
level_take cs heads ss n m le low l = record {
  within = omega (arith, length-take-le n ss le);
  guarded = subst (λ (z : List Step). AreGuarded cs heads (lits z) (lits z)) (sym (take-take m n ss low)) l.guarded;
}

pub visited_undo : (cs : List (List Literal)) (heads : List Head) (ss : List Step) (visited : ℕ) (levels : List ℕ)
    (n : ℕ) (new : List ℕ) (last : ℕ) → IsVisited cs heads ss visited levels → n ≤ length ss → IsCut levels
    (n + 1) new →
    0 < length new → last ≡ get_or new (length new - 1) last → IsVisited cs heads (take n ss) last new
visited_undo cs heads ss visited levels n new last i le c some is =
    let all : All (IsLevel cs heads ss) new = cut_kept (IsLevel cs heads ss) levels (n + 1) new c i.kept in
    let kept : All (IsLevel cs heads (take n ss)) new = λ k d lt. level_take cs heads ss n (get_or new k d) le
    (let b = c.below k d lt in omega arith) (all k d lt) in
    let own : IsLevel cs heads (take n ss) last = subst (λ (m : ℕ). IsLevel cs heads (take n ss) m) (sym is)
    (kept (length new - 1) last (omega arith)) in
    record {
      within = own.within;
      guarded = λ k lt. guarded_more (lits (take last (take n ss))) (lits (take last (take n ss)))
          (lits (take n ss)) (clause_at cs k) (head_at heads k) (has_before (take n ss) last) (own.guarded k lt);
      kept = kept;
      ascending = pairs_cut levels (n + 1) new c i.ascending;
    }

-- no clause watches yet
pub visited_none : (cs : List (List Literal)) (ss : List Step) → IsVisited cs [] ss 0 []
visited_none cs ss = record {
  within = omega arith;
  guarded = λ k lt. absurd (omega arith);
  kept = All-nil (IsLevel cs [] ss);
  ascending = λ i j d lt in'. absurd (omega arith);
}

-- clauses are added
guarded_append : (cs ds : List (List Literal)) (heads : List Head) (below whole : List Literal) →
    length heads ≤ length cs → AreGuarded cs heads below whole → AreGuarded (cs ++ ds) heads below whole
guarded_append cs ds heads below whole few g = λ k lt.
    subst (λ (c : List Literal). IsGuarded below whole c (head_at heads k))
    (sym (get_or_append_left cs ds [] k (omega arith))) (g k lt)

pub visited_append : (cs ds : List (List Literal)) (heads : List Head) (ss : List Step) (visited : ℕ)
    (levels : List ℕ) → length heads ≤ length cs → IsVisited cs heads ss visited levels → IsVisited
    (cs ++ ds) heads ss visited levels
visited_append cs ds heads ss visited levels few i = record {
  within = i.within;
  guarded = guarded_append cs ds heads (lits (take visited ss)) (lits ss) few i.guarded;
  kept = All-weaker (IsLevel cs heads ss) (IsLevel (cs ++ ds) heads ss)
      (λ n l. record {
        within = l.within;
        guarded = guarded_append cs ds heads (lits (take n ss))
            (lits (take n ss)) few l.guarded;
      }) levels i.kept;
  ascending = i.ascending;
}

-- the last item of a list
pub last_is : (xs : List ℕ) (x : ℕ) → Some x ≡ slice_get xs (length xs - 1) → (0 < length xs) ×
    (x ≡ get_or xs (length xs - 1) x)
last_is [] x e = absurd (cc)
last_is (y ∷ ys) x e = (omega arith, sym (get_or_from_slice_get (y ∷ ys) (length (y ∷ ys) - 1) x x (sym e)))
