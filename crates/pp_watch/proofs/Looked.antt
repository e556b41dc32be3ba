-- Looks at the watchers of a false literal, one after another.
use Rattle.std.proofs.Common.{ℕ, ◌+◌, ◌-◌, ◌≡◌, ◌≢◌, ◌<◌, ◌≤◌, true, List, [], ◌∷◌, ◌++◌}
use Rattle.std.proofs.Common.{Vec, Global, sym, refl, ap, ◌∙◌, subst, inl, inr, ◌⊎◌, arith, length, get_or, set}
use Rattle.std.proofs.Common.{take, length-set, All}
use Rattle.std.specs.Prelude.{IsSome}
use Rattle.std.specs.List.{swap_remove}
use Rattle.std.proofs.lemmas.Bool.{cases_lt}
use Rattle.std.proofs.lemmas.List.{get_or_default, get_or_past, take-set-le, take_all, length-take-le}
use Rattle.pp_clause.specs.Literal.{Literal, opposite}
use Rattle.pp_clause.specs.Clause.{has}
use Rattle.pp_clause.specs.Bound.{IsUpTo}
use Rattle.pp_clause.proofs.Has.{false_not_true, has-push_last, has-All}
use Rattle.pp_trail.specs.declared.step.Step.{Step}
use Rattle.pp_trail.specs.Trail.{Trail, IsTrail, lits}
use Rattle.pp_trail.proofs.Growing.{lits_push}
use Rattle.pp_trail.specs.Marks.{code}
use Rattle.pp_watch.specs.Lists.{watchers_of, with_watchers, is_among}
use Rattle.pp_watch.specs.Watching.{clause_at, head_at, HasTrue, IsEntry, IsShort, IsGuarded, IsWatched, IsWatching}
use Rattle.pp_watch.specs.Watching.{IsVisited, IsSound}
use Rattle.pp_watch.specs.Looking.{Watches, AreLookedAt, Advances, IsBeside, IsNear, IsNumbered, IsOther}
use Rattle.pp_watch.specs.declared.head.Head.{Head}
use Rattle.pp_watch.specs.declared.watcher.Watcher.{Watcher}
use Rattle.pp_watch.specs.declared.state.State.{State}
use Rattle.pp_trail.proofs.Truths.{same_code, code_within}
use Rattle.pp_watch.proofs.Listed.{watchers_same, watchers_other, among_more_cases}
use Rattle.pp_watch.proofs.Listed.{take_removed}
use Rattle.pp_watch.proofs.Watched.{same_or_not, no_head, watching_push, watching_set, watching_remove}
use Rattle.pp_watch.proofs.Watched.{watching_write, listed_push}
use Rattle.pp_watch.proofs.Watched.{listed_last, head_set_same, head_set_other}
use Rattle.pp_watch.proofs.Guarded.{has_after, true_more, visited_set}
use Rattle.pp_watch.proofs.States.{clause_by_number, with_step, sound_step, grows_step, grows_none, grows_along}

-- the watcher at a place, whatever stands for it past the end
pub watcher_is : (ws : List Watcher) (i : ℕ) (d : Watcher) → i < length ws → get_or ws i d ≡ get_or ws i
    (get_or ws i d)
watcher_is ws i d lt = get_or_default ws i d (get_or ws i d) lt

-- a literal that has watchers has a list
pub code_from_watcher : (lists : List (List Watcher)) (l : Literal) (i : ℕ) → i < length (watchers_of lists l) →
    code l < length lists
code_from_watcher lists l i lt =
    elim (cases_lt (code l) (length lists)) [
      | inl in' ↦ in'
      | inr past ↦ absurd (let e = ap length (get_or_past lists (code l) [] past) in omega arith)
    ]

-- one look less is left: the clause of the watcher at this place has a true literal, or doesn't watch the literal now
pub looked_next : (s t : State) (l : Literal) (place : ℕ) (w : Watcher) → AreLookedAt s l (place + 1) →
    place < length (watchers_of s.lists l) → w ≡ get_or (watchers_of s.lists l) place w →
    t.trail.clauses ≡ s.trail.clauses → length t.heads.items ≡ length s.heads.items →
    ((m : Literal) → has (lits s.trail.steps) m ≡ true → has (lits t.trail.steps) m ≡ true) →
    take place (watchers_of t.lists l) ≡ take place (watchers_of s.lists l) →
    ((j : ℕ) → j + 1 ≢ w.number → head_at t.heads.items j ≡ head_at s.heads.items j) →
    (Watches (head_at t.heads.items (w.number - 1)) l → HasTrue (lits t.trail.steps)
    (clause_at t.trail.clauses (w.number - 1))) → AreLookedAt t l place
looked_next s t l place w h lt is clauses count more kept others own = record {
  each = λ j in' watches. elim (same_or_not (j + 1) w.number) [
    | inl e ↦ (
        let back : w.number - 1 ≡ j = omega arith in
        inl (subst (λ (n : ℕ). HasTrue (lits t.trail.steps) (clause_at t.trail.clauses n)) back
        (own (subst (λ (n : ℕ). Watches (head_at t.heads.items n) l) (sym back) watches))))
    | inr far ↦ elim (h.each j (omega arith) (subst (λ (g : Head). Watches g l) (others j far) watches)) [
      | inl t' ↦ inl (true_more (lits s.trail.steps) (lits t.trail.steps) (clause_at t.trail.clauses j) more
          (subst (λ (cs : List (List Literal)). HasTrue (lits s.trail.steps) (clause_at cs j)) (sym clauses) t'))
      | inr k ↦ elim (among_more_cases (j + 1) (watchers_of s.lists l) place w lt is k) [
        | inl a ↦ inr (ap (is_among (j + 1)) kept ∙ a)
        | inr e ↦ absurd (far (sym e))
      ]
    ]
  ];
}

pub advances_none : (s : State) → IsSound s → Advances s s
advances_none s h = record { grows = grows_none s.trail; heads = refl; visited = refl; sound = h }

pub advances_step : (s : State) (step : Step) → IsSound s → IsSome step.reason → Advances s (with_step s step)
advances_step s step h r = record {
  grows = grows_step s step r;
  heads = refl;
  visited = refl;
  sound =
      sound_step s step h;
}

-- the clause has a true literal already
pub looked_true : (s : State) (l : Literal) (place : ℕ) (w : Watcher) → AreLookedAt s l (place + 1) →
    place < length (watchers_of s.lists l) → w ≡ get_or (watchers_of s.lists l) place w →
    HasTrue (lits s.trail.steps) (clause_at s.trail.clauses (w.number - 1)) → AreLookedAt s l place
looked_true s l place w h lt is t = looked_next s s l place w h lt is refl refl (λ m k. k) refl (λ j ne. refl)
    (λ k. t)

-- the watcher is that of a number
beside_watcher : (s : State) (l : Literal) (place number : ℕ) (other : Literal) → IsBeside s l place number other →
    (w : Watcher) × ((w ≡ get_or (watchers_of s.lists l) place w) × (w.number ≡ number))
beside_watcher s l place number other b =
    let d : Watcher = record { number = number; blocker = other; third = other } in
    (get_or (watchers_of s.lists l) place d, (watcher_is (watchers_of s.lists l) place d b.within, b.watcher d))

pub beside_true : (s : State) (l : Literal) (place number : ℕ) (other : Literal) → AreLookedAt s l (place + 1) →
    IsBeside s l place number other → HasTrue (lits s.trail.steps) (clause_at s.trail.clauses (number - 1)) →
    AreLookedAt s l place
beside_true s l place number other h b t =
    let w = beside_watcher s l place number other b in
    looked_true s l place w.0 h b.within w.1.0
    (subst (λ (n : ℕ). HasTrue (lits s.trail.steps) (clause_at s.trail.clauses (n - 1))) (sym w.1.1) t)

-- what the clause of the number watches
pub beside_watched : (s : State) (l : Literal) (place number : ℕ) (other : Literal) → IsSound s →
    IsBeside s l place number other → IsWatched (clause_at s.trail.clauses (number - 1)) s.lists (number - 1)
    (head_at s.heads.items (number - 1))
beside_watched s l place number other h b = h.watching.watched (number - 1)
    (let x = b.low in let y = b.high in omega arith)

pub beside_held : (s : State) (l : Literal) (place number : ℕ) (other : Literal) → IsSound s →
    IsBeside s l place number other → has (clause_at s.trail.clauses (number - 1)) other ≡ true
beside_held s l place number other h b =
    let w = beside_watched s l place number other h b in
    elim b.heads [
      | inl p ↦ ap (has (clause_at s.trail.clauses (number - 1))) (sym p.1) ∙ w.second_held
      | inr p ↦ ap (has (clause_at s.trail.clauses (number - 1))) (sym p.1) ∙ w.first_held
    ]

beside_listed : (s : State) (l : Literal) (place number : ℕ) (other : Literal) → IsSound s →
    IsBeside s l place number other → is_among (number - 1 + 1) (watchers_of s.lists other) ≡ true
beside_listed s l place number other h b =
    let w = beside_watched s l place number other h b in
    elim b.heads [
      | inl p ↦ ap (λ (z : Literal). is_among (number - 1 + 1) (watchers_of s.lists z)) (sym p.1) ∙ w.second_listed
      | inr p ↦ ap (λ (z : Literal). is_among (number - 1 + 1) (watchers_of s.lists z)) (sym p.1) ∙ w.first_listed
    ]

-- a clause that watches one literal alone has a true one
pub beside_single : (s : State) (l : Literal) (place number : ℕ) (other : Literal) → IsSound s →
    IsBeside s l place number other → code other ≡ code l → HasTrue (lits s.trail.steps)
    (clause_at s.trail.clauses (number - 1))
beside_single s l place number other h b e =
    let g : IsGuarded (lits (take s.visited s.trail.steps)) (lits s.trail.steps)
    (clause_at s.trail.clauses (number - 1)) (head_at s.heads.items (number - 1)) =
    h.visited.guarded (number - 1) (let x = b.low in let y = b.high in omega arith) in
    elim b.heads [
      | inl p ↦ g.single (p.0 ∙ sym e ∙ ap code (sym p.1))
      | inr p ↦ g.single (ap code p.1 ∙ e ∙ sym p.0)
    ]

pub beside_near : (s : State) (l : Literal) (place number : ℕ) (other : Literal) → IsSound s →
    IsBeside s l place number other → IsNear s l place number other
beside_near s l place number other h b =
    record { within = b.within; watcher = b.watcher; held = beside_held s l place number other h b }

-- the other literal becomes true
pub looked_step : (s : State) (l : Literal) (place number : ℕ) (other : Literal) (step : Step) → AreLookedAt s l
    (place + 1) → IsNear s l place number other → step.lit ≡ other → AreLookedAt
    (with_step s step) l place
looked_step s l place number other step h b is =
    let d : Watcher = record { number = number; blocker = other; third = other } in
    let w : Watcher = get_or (watchers_of s.lists l) place d in
    let numbered : w.number ≡ number = b.watcher d in
    let now : has (lits (s.trail.steps ++ step ∷ [])) other ≡ true = ap (λ (z : List Literal). has z other)
    (lits_push s.trail.steps step) ∙ has-push_last (lits s.trail.steps) step.lit other (sym is) in
    let t : HasTrue (lits (s.trail.steps ++ step ∷ [])) (clause_at s.trail.clauses (number - 1)) =
    record { literal = other; held = b.held; itself = now } in
    looked_next s (with_step s step) l place w h b.within (watcher_is (watchers_of s.lists l) place d b.within)
    refl refl (has_after s.trail.steps step) refl
    (λ j ne. refl)
    (λ k. subst (λ (n : ℕ). HasTrue (lits (s.trail.steps ++ step ∷ [])) (clause_at s.trail.clauses (n - 1)))
    (sym numbered) t)

pub length_removed : (ws : List Watcher) (i : ℕ) (w : Watcher) → i < length ws → length (swap_remove ws i w)
    ≡ length ws - 1
length_removed ws i w lt = length-take-le (length ws - 1) (set ws i (get_or ws (length ws - 1) w))
    (let k = length-set ws i (get_or ws (length ws - 1) w) in omega arith)

-- the watcher goes, since its clause doesn't watch the literal
pub record IsDropped (s : State) (l : Literal) (place : ℕ) (t : State) : Type 0 where
  pub advances : Advances s t
  pub looked : AreLookedAt t l place
  pub within : place ≤ length (watchers_of t.lists l)

pub drop_watcher : (s t : State) (l : Literal) (place : ℕ) (w : Watcher) → IsSound s → AreLookedAt s l
    (place + 1) → place < length (watchers_of s.lists l) → code l < length s.lists → w ≡ get_or
    (watchers_of s.lists l) place w →
    (Watches (head_at s.heads.items (w.number - 1)) l → ⊥) → t.trail ≡ s.trail → t.heads ≡ s.heads → t.levels
    ≡ s.levels → t.visited ≡ s.visited →
    t.lists ≡ with_watchers s.lists l (swap_remove (watchers_of s.lists l) place w) → IsDropped s l place t
drop_watcher s t l place w h looked lt in' is far trail heads levels visited lists =
    let ws : watchers_of t.lists l ≡ swap_remove (watchers_of s.lists l) place w = ap
    (λ (z : List (List Watcher)). watchers_of z l) lists ∙ watchers_same s.lists l l
    (swap_remove (watchers_of s.lists l) place w) refl in' in
    record {
      advances = record {
        grows = rw trail (grows_none s.trail);
        heads = ap (λ (v : Vec Head Global). length v.items) heads;
        visited = visited;
        sound = record {
          watching = rw (trail, heads, lists) (watching_remove s.trail.clauses s.trail.vars s.heads.items s.lists l
              place w h.watching in' lt is far);
          visited = rw (trail, heads, levels, visited) h.visited;
        };
      };
      looked = looked_next s t l place w looked lt is (ap (λ (z : Trail). z.clauses) trail)
          (ap (λ (v : Vec Head Global). length v.items) heads)
          (λ m k. ap (λ (z : Trail). has (lits z.steps) m) trail ∙ k)
          (ap (take place) ws ∙ take_removed (watchers_of s.lists l) place w lt)
          (λ j ne. ap (λ (v : Vec Head Global). head_at v.items j) heads)
          (λ k. absurd (far (subst (λ (v : Vec Head Global). Watches (head_at v.items (w.number - 1)) l) heads
          k)));
      within = (let a = ap length ws ∙ length_removed (watchers_of s.lists l) place w lt in omega arith);
    }

-- the clause watches a literal that isn't false in place of the false one
pub move_watcher : (s t : State) (l : Literal) (place number : ℕ) (other new third : Literal) (look : ℕ)
    (mid : List (List Watcher)) (w : Watcher) → IsSound s → AreLookedAt s l (place + 1) →
    IsBeside s l place number other → has (lits s.trail.steps) (opposite l) ≡ true → code other ≢ code l →
    IsOther (lits s.trail.steps) (clause_at s.trail.clauses (number - 1)) other new →
    (code third ≢ code new → IsShort (clause_at s.trail.clauses (number - 1)) new other third) →
    code l < length s.lists → code new < length s.lists → t.trail ≡ s.trail → t.levels ≡ s.levels →
    t.visited ≡ s.visited →
    t.heads.items ≡ set s.heads.items (number - 1) (record { first = new; second = other; look = look }) →
    mid ≡ with_watchers s.lists new
    (watchers_of s.lists new ++ record { number = number; blocker = other; third = third } ∷ []) →
    w ≡ get_or (watchers_of mid l) place w →
    t.lists ≡ with_watchers mid l (swap_remove (watchers_of mid l) place w) → IsDropped s l place t
move_watcher s t l place number other new third look mid w h looked b neg ne o short in1 in2 trail levels visited
    heads first is second =
    let k : number - 1 < length s.heads.items = (let x = b.low in let y = b.high in omega arith) in
    let v : Watcher = record { number = number; blocker = other; third = third } in
    let g : Head = record { first = new; second = other; look = look } in
    let back : number - 1 + 1 ≡ number = (let x = b.low in omega arith) in
    let far : code l ≢ code new = λ e. false_not_true
    (sym o.not_false ∙ ap (λ (z : Literal). has (lits s.trail.steps) (opposite z)) (sym (same_code l new e))
    ∙ neg) in
    let held = beside_held s l place number other h b in
    let lists' : List (List Watcher) = with_watchers s.lists new (watchers_of s.lists new ++ v ∷ []) in
    let entry : IsEntry s.trail.clauses (length s.heads.items) new v =
    record { low = b.low; high = b.high; held = held; short = short } in
    let w1 : IsWatching s.trail.clauses s.trail.vars s.heads.items lists' =
    watching_push s.trail.clauses s.trail.vars s.heads.items s.lists new v h.watching in2 entry in
    let own : IsWatched (clause_at s.trail.clauses (number - 1)) lists' (number - 1) g = record {
      first_held = o.held;
      second_held = held;
      first_listed = listed_last s.lists new v (number - 1 + 1) in2 (sym back);
      second_listed = listed_push s.lists new other v (number - 1 + 1) in2
          (beside_listed s l place number other h b);
    } in
    let w2 : IsWatching s.trail.clauses s.trail.vars (set s.heads.items (number - 1) g) lists' =
    watching_set s.trail.clauses s.trail.vars s.heads.items lists' (number - 1) g w1 k own in
    let same : watchers_of lists' l ≡ watchers_of s.lists l = watchers_other s.lists new l
    (watchers_of s.lists new ++ v ∷ []) far in
    let same_mid : watchers_of mid l ≡ watchers_of s.lists l = ap
    (λ (z : List (List Watcher)). watchers_of z l) first ∙ same in
    let is_old : w ≡ get_or (watchers_of s.lists l) place w = is ∙ ap
    (λ (z : List Watcher). get_or z place w) same_mid in
    let is_new : w ≡ get_or (watchers_of lists' l) place w = is_old ∙ ap (λ (z : List Watcher). get_or z place w)
    (sym same) in
    let numbered : w.number ≡ number = ap (λ (z : Watcher). z.number) is_old ∙ b.watcher w in
    let watches_none : Watches g l → ⊥ = λ z. elim z [ inl e ↦ far (sym e) | inr e ↦ ne e ] in
    let own_head : head_at (set s.heads.items (number - 1) g) (w.number - 1) ≡ g = ap
    (λ (n : ℕ). head_at (set s.heads.items (number - 1) g) (n - 1)) numbered ∙ head_set_same s.heads.items
    (number - 1) g k in
    let apart : Watches (head_at (set s.heads.items (number - 1) g) (w.number - 1)) l → ⊥ = λ z. watches_none
    (subst (λ (x : Head). Watches x l) own_head z) in
    let long : length lists' ≡ length s.lists = length-set s.lists (code new) (watchers_of s.lists new ++ v ∷ []) in
    let in3 : code l < length lists' = omega arith in
    let lt : place < length (watchers_of lists' l) = (let x = b.within in let y = ap length same in omega arith) in
    let all : t.lists ≡ with_watchers lists' l (swap_remove (watchers_of lists' l) place w) = second ∙ ap
    (λ (z : List (List Watcher)). with_watchers z l (swap_remove (watchers_of z l) place w)) first in
    let w3 : IsWatching s.trail.clauses s.trail.vars (set s.heads.items (number - 1) g)
    (with_watchers lists' l (swap_remove (watchers_of lists' l) place w)) =
    watching_remove s.trail.clauses s.trail.vars
    (set s.heads.items (number - 1) g) lists' l place w w2 in3 lt is_new apart in
    let olds : ((head_at s.heads.items (number - 1)).second ≡ other) ⊎
    ((head_at s.heads.items (number - 1)).first ≡ other) = elim b.heads [ inl p ↦ inl p.1 | inr p ↦ inr p.1 ] in
    let v1 : IsVisited s.trail.clauses (set s.heads.items (number - 1) g) s.trail.steps s.visited s.levels.items =
    visited_set s.trail.clauses s.heads.items s.trail.steps s.visited s.levels.items
    (number - 1) g h.visited k o.not_false (λ e. o.differs e) olds in
    let ws : watchers_of t.lists l ≡ swap_remove (watchers_of lists' l) place w = ap
    (λ (z : List (List Watcher)). watchers_of z l) all ∙ watchers_same lists' l l
    (swap_remove (watchers_of lists' l) place w) refl in3 in
    let count : length t.heads.items ≡ length s.heads.items = ap length heads ∙ length-set s.heads.items
    (number - 1) g in
    record {
      advances = record {
        grows = rw trail (grows_none s.trail);
        heads = count;
        visited = visited;
        sound = record { watching = rw (trail, heads, all) w3; visited = rw (trail, heads, levels, visited) v1 };
      };
      looked = looked_next s t l place w looked b.within is_old (ap (λ (z : Trail). z.clauses) trail) count
          (λ m z. ap (λ (x : Trail). has (lits x.steps) m) trail ∙ z)
          (ap (take place) ws ∙ take_removed (watchers_of lists' l) place w lt ∙ ap (take place) same)
          (λ j far'. ap (λ (z : List Head). head_at z j) heads ∙ head_set_other s.heads.items (number - 1) j g
          (λ e. far' (let f : j + 1 ≡ w.number = omega arith in f)))
          (λ z. absurd (apart (subst (λ (x : List Head). Watches (head_at x (w.number - 1)) l) heads z)));
      within = (let a = ap length ws ∙ length_removed (watchers_of lists' l) place w lt in omega arith);
    }

-- before the first look, and after the last one
pub looked_all : (s : State) (l : Literal) (count : ℕ) → IsSound s → count ≡ length (watchers_of s.lists l) →
    AreLookedAt s l count
looked_all s l count h e = record {
  each = λ j lt watches.
      (let w = h.watching.watched j lt in
      let all : take count (watchers_of s.lists l) ≡ watchers_of s.lists l = take_all count
      (watchers_of s.lists l) (omega arith) in
      elim watches [
        | inl c ↦ inr (ap (is_among (j + 1)) all ∙ ap (λ (n : ℕ). is_among (j + 1) (get_or s.lists n [])) (sym c)
            ∙ w.first_listed)
        | inr c ↦ inr (ap (is_among (j + 1)) all ∙ ap (λ (n : ℕ). is_among (j + 1) (get_or s.lists n [])) (sym c)
            ∙ w.second_listed)
      ]);
}

pub looked_done : (s : State) (l : Literal) → AreLookedAt s l 0 → (k : ℕ) → k < length s.heads.items → Watches
    (head_at s.heads.items k) l → HasTrue (lits s.trail.steps) (clause_at s.trail.clauses k)
looked_done s l h k lt w = elim (h.each k lt w) [ inl t ↦ t | inr n ↦ absurd (false_not_true n) ]

-- what stands at a place of a literal's list
pub entry_at : (s : State) (l : Literal) (place : ℕ) (w : Watcher) → IsSound s → place < length
    (watchers_of s.lists l) → w ≡ get_or (watchers_of s.lists l) place w → IsEntry s.trail.clauses
    (length s.heads.items) l w
entry_at s l place w h lt is = subst (λ (z : Watcher). IsEntry s.trail.clauses (length s.heads.items) l z) (sym is)
    (h.watching.entries l place w lt)

-- its clause is one of the state's
pub numbered_watcher : (s : State) (l : Literal) (place : ℕ) (w : Watcher) → IsSound s → place < length
    (watchers_of s.lists l) → w ≡ get_or (watchers_of s.lists l) place w →
    All (IsUpTo s.trail.vars) s.trail.clauses → IsNumbered s w.number
numbered_watcher s l place w h lt is up =
    let entry = entry_at s l place w h lt is in
    clause_by_number s.trail.clauses s.trail.vars w.number entry.low
    (let a = entry.high in let b = h.watching.few in omega arith) up

-- the head of a watcher's clause
pub head_is : (s : State) (l : Literal) (w : Watcher) (h : Head) → IsEntry s.trail.clauses (length s.heads.items) l w
    → h ≡ get_or s.heads.items (w.number - 1) h → head_at s.heads.items (w.number - 1) ≡ h
head_is s l w h e is = sym (is ∙ get_or_default s.heads.items (w.number - 1) h no_head
    (let x = e.low in let y = e.high in omega arith))

pub advances_along : (r s t : State) → Advances r s → Advances s t → Advances r t
advances_along r s t a b = record {
  grows = grows_along r.trail s.trail t.trail a.grows b.grows;
  heads = b.heads ∙ a.heads;
  visited = b.visited ∙ a.visited;
  sound = b.sound;
}

-- a literal that is false has a list
pub trail_code : (s : State) (l : Literal) → IsTrail s.trail.clauses s.trail.vars s.trail.steps → IsSound s → has
    (lits s.trail.steps) (opposite l) ≡ true → code l < length s.lists
trail_code s l t h neg =
    let up : l.var ≤ s.trail.vars = has-All (λ m. m.var ≤ s.trail.vars) (lits s.trail.steps) (opposite l) t.up_to neg in
    let b = code_within l s.trail.vars up in
    let z = h.watching.sized in
    omega arith

-- the other literal is true: it becomes the watcher's blocker
pub write_blocker : (s t : State) (l : Literal) (place number : ℕ) (other m : Literal) → IsSound s →
    AreLookedAt s l (place + 1) → IsBeside s l place number other →
    has (clause_at s.trail.clauses (number - 1)) m ≡ true → has (lits s.trail.steps) m ≡ true →
    t.trail ≡ s.trail → t.heads ≡ s.heads → t.levels ≡ s.levels → t.visited ≡ s.visited →
    t.lists ≡ with_watchers s.lists l
    (set (watchers_of s.lists l) place (record { number = number; blocker = m; third = l })) → IsDropped s l place t
write_blocker s t l place number other m h looked b held now trail heads levels visited lists =
    let v : Watcher = record { number = number; blocker = m; third = l } in
    let entry : IsEntry s.trail.clauses (length s.heads.items) l v =
    record { low = b.low; high = b.high; held = held; short = λ ne. absurd (ne refl) } in
    let in' : code l < length s.lists = code_from_watcher s.lists l place b.within in
    let w = beside_watcher s l place number other b in
    let ws : watchers_of t.lists l ≡ set (watchers_of s.lists l) place v =
    ap (λ (z : List (List Watcher)). watchers_of z l) lists
    ∙ watchers_same s.lists l l (set (watchers_of s.lists l) place v) refl in' in
    let yes : HasTrue (lits s.trail.steps) (clause_at s.trail.clauses (number - 1)) =
    record { literal = m; held = held; itself = now } in
    let same : HasTrue (lits t.trail.steps) (clause_at t.trail.clauses (number - 1)) = rw trail yes in
    record {
      advances = record {
        grows = rw trail (grows_none s.trail);
        heads = ap (λ (v : Vec Head Global). length v.items) heads;
        visited = visited;
        sound = record {
          watching = rw (trail, heads, lists) (watching_write s.trail.clauses s.trail.vars s.heads.items s.lists l place
              v
              h.watching in' b.watcher entry);
          visited = rw (trail, heads, levels, visited) h.visited;
        };
      };
      looked = looked_next s t l place w.0 looked b.within w.1.0 (ap (λ (z : Trail). z.clauses) trail)
          (ap (λ (v : Vec Head Global). length v.items) heads)
          (λ m k. ap (λ (z : Trail). has (lits z.steps) m) trail ∙ k)
          (ap (take place) ws ∙ take-set-le place (watchers_of s.lists l) place v (omega arith))
          (λ j ne. ap (λ (v : Vec Head Global). head_at v.items j) heads)
          (λ k. subst (λ (n : ℕ). HasTrue (lits t.trail.steps) (clause_at t.trail.clauses (n - 1))) (sym w.1.1) same);
      within = (let a = ap length ws ∙ length-set (watchers_of s.lists l) place v in let c = b.within in omega arith);
    }
