-- The watched literals of clauses go on to be in lists.
use Rattle.std.proofs.Common.{ℕ, ◌+◌, ◌*◌, ◌-◌, ◌≡◌, ◌≢◌, ◌<◌, ◌≤◌, true, List, [], ◌∷◌, ◌++◌, sym}
use Rattle.std.proofs.Common.{refl, ap, ◌∙◌, subst, inl, inr, ◌⊎◌, arith, length, get_or, set, All, length-set}
use Rattle.std.proofs.Common.{length-append}
use Rattle.std.specs.List.{swap_remove}
use Rattle.std.proofs.lemmas.Bool.{cases_eq}
use Rattle.std.proofs.lemmas.List.{get_or-set_same, get_or-set_other, get_or_append_left, get_or_push, length_push}
use Rattle.std.proofs.lemmas.List.Elements.{All-push, All-set, All-weaker, All-nil}
use Rattle.pp_clause.specs.Literal.{Literal}
use Rattle.pp_clause.specs.Clause.{has}
use Rattle.pp_trail.specs.Marks.{code}
use Rattle.pp_watch.specs.Lists.{watchers_of, with_watchers, is_among}
use Rattle.pp_watch.specs.Watching.{clause_at, head_at, IsEntry, IsShort, IsWatched, IsWatching}
use Rattle.pp_watch.specs.Looking.{Watches}
use Rattle.pp_watch.specs.declared.watcher.Watcher.{Watcher}
use Rattle.pp_watch.specs.declared.head.Head.{Head}
use Rattle.pp_watch.proofs.Listed.{watchers_same, watchers_other, among_push, among_last, among_removed, among_set}
use Rattle.pp_trail.proofs.Truths.{same_code}
use Rattle.pp_watch.proofs.Listed.{All_removed}

abbrev pub no_head : Head
no_head = record {
  first = record { var = 0; positive = true };
  second = record { var = 0; positive = true };
  look = 0;
}

pub same_or_not : (a b : ℕ) → (a ≡ b) ⊎ (a ≢ b)
same_or_not a b = elim (cases_eq a b) [ inl e ↦ inl e | inr n ↦ inr n ]

-- all watchers are entries of the first clauses
abbrev pub AreEntries : List (List Literal) → ℕ → List (List Watcher) → Type 0
AreEntries cs count lists = (l : Literal) → All (IsEntry cs count l) (watchers_of lists l)

pub entries_higher : (cs : List (List Literal)) (a b : ℕ) (lists : List (List Watcher)) → a ≤ b →
    AreEntries cs a lists → AreEntries cs b lists
entries_higher cs a b lists le h = λ l. All-weaker (IsEntry cs a l) (IsEntry cs b l)
    (λ w k. record { low = k.low; high = (let x = k.high in omega arith); held = k.held; short = k.short })
    (watchers_of lists l) (h l)

pub entries_with : (cs : List (List Literal)) (count : ℕ) (lists : List (List Watcher)) (l : Literal)
    (ws : List Watcher) → code l < length lists → AreEntries cs count lists → All (IsEntry cs count l) ws →
    AreEntries cs count (with_watchers lists l ws)
entries_with cs count lists l ws lt h k = λ m.
    elim (same_or_not (code m) (code l)) [
      | inl e ↦ subst (λ (z : List Watcher). All (IsEntry cs count m) z) (sym (watchers_same lists l m ws e lt))
          (subst (λ (x : Literal). All (IsEntry cs count x) ws) (sym (same_code m l e)) k)
      | inr ne ↦ subst (λ (z : List Watcher). All (IsEntry cs count m) z) (sym (watchers_other lists l m ws ne)) (h m)
    ]

pub entries_push : (cs : List (List Literal)) (count : ℕ) (lists : List (List Watcher)) (l : Literal)
    (w : Watcher) → code l < length lists → AreEntries cs count lists → IsEntry cs count l w →
    AreEntries cs count (with_watchers lists l (watchers_of lists l ++ w ∷ []))
entries_push cs count lists l w lt h k = entries_with cs count lists l (watchers_of lists l ++ w ∷ []) lt h
    (All-push (IsEntry cs count l) (watchers_of lists l) w (h l) k)

-- which stands in a list stands there still
pub listed_push : (lists : List (List Watcher)) (l m : Literal) (w : Watcher) (n : ℕ) → code l < length lists →
    is_among n (watchers_of lists m) ≡ true →
    is_among n (watchers_of (with_watchers lists l (watchers_of lists l ++ w ∷ [])) m) ≡ true
listed_push lists l m w n lt h =
    elim (same_or_not (code m) (code l)) [
      | inl e ↦ ap (is_among n) (watchers_same lists l m (watchers_of lists l ++ w ∷ []) e lt) ∙ among_push n
          (watchers_of lists l) w (ap (λ (c : ℕ). is_among n (get_or lists c [])) (sym e) ∙ h)
      | inr ne ↦ ap (is_among n) (watchers_other lists l m (watchers_of lists l ++ w ∷ []) ne) ∙ h
    ]

pub listed_last : (lists : List (List Watcher)) (l : Literal) (w : Watcher) (n : ℕ) → code l < length lists →
    w.number ≡ n →
    is_among n (watchers_of (with_watchers lists l (watchers_of lists l ++ w ∷ [])) l) ≡ true
listed_last lists l w n lt e = ap (is_among n) (watchers_same lists l l (watchers_of lists l ++ w ∷ []) refl lt)
    ∙ among_last n (watchers_of lists l) w e

pub watched_push : (c : List Literal) (lists : List (List Watcher)) (k : ℕ) (h : Head) (l : Literal)
    (w : Watcher) → code l < length lists → IsWatched c lists k h →
    IsWatched c (with_watchers lists l (watchers_of lists l ++ w ∷ [])) k h
watched_push c lists k h l w lt i = record {
  first_held = i.first_held;
  second_held = i.second_held;
  first_listed = listed_push lists l h.first w (k + 1) lt i.first_listed;
  second_listed = listed_push lists l h.second w (k + 1) lt i.second_listed;
}

pub watching_push : (cs : List (List Literal)) (vars : ℕ) (heads : List Head) (lists : List (List Watcher))
    (l : Literal) (w : Watcher) → IsWatching cs vars heads lists → code l < length lists → IsEntry cs
    (length heads) l w →
    IsWatching cs vars heads (with_watchers lists l (watchers_of lists l ++ w ∷ []))
watching_push cs vars heads lists l w h lt e = record {
  sized = length-set lists (code l) (watchers_of lists l ++ w ∷ []) ∙ h.sized;
  few = h.few;
  entries = entries_push cs (length heads) lists l w lt h.entries e;
  watched = λ k in'. watched_push (clause_at cs k) lists k (head_at heads k) l w lt (h.watched k in');
}

-- a clause watches other literals
pub head_set_same : (heads : List Head) (k : ℕ) (h : Head) → k < length heads → head_at (set heads k h) k ≡ h
head_set_same heads k h lt = get_or-set_same heads k h no_head lt

pub head_set_other : (heads : List Head) (k j : ℕ) (h : Head) → j ≢ k → head_at (set heads k h) j ≡ head_at heads j
head_set_other heads k j h ne = get_or-set_other heads k j h no_head ne

pub watching_set : (cs : List (List Literal)) (vars : ℕ) (heads : List Head) (lists : List (List Watcher)) (k : ℕ)
    (h : Head) → IsWatching cs vars heads lists → k < length heads → IsWatched (clause_at cs k) lists k h →
    IsWatching cs vars (set heads k h) lists
watching_set cs vars heads lists k h i lt w =
    let len : length (set heads k h) ≡ length heads = length-set heads k h in
    record {
      sized = i.sized;
      few = (let f = i.few in omega arith);
      entries = entries_higher cs (length heads) (length (set heads k h)) lists (omega arith) i.entries;
      watched = λ j in'. elim (same_or_not j k) [
        | inl e ↦ subst (λ (n : ℕ). IsWatched (clause_at cs n) lists n (head_at (set heads k h) n)) (sym e)
            (subst (λ (g : Head). IsWatched (clause_at cs k) lists k g) (sym (head_set_same heads k h lt)) w)
        | inr ne ↦ subst (λ (g : Head). IsWatched (clause_at cs j) lists j g) (sym (head_set_other heads k j h ne))
            (i.watched j (omega arith))
      ];
    }

-- a watcher goes whose clause doesn't watch the literal
listed_removed : (lists : List (List Watcher)) (l m : Literal) (i : ℕ) (w : Watcher) (n : ℕ) →
    code l < length lists → i < length (watchers_of lists l) → w ≡ get_or (watchers_of lists l) i w →
    is_among n (watchers_of lists m) ≡ true → (w.number ≡ n → code m ≢ code l) → is_among n
    (watchers_of (with_watchers lists l (swap_remove (watchers_of lists l) i w)) m) ≡ true
listed_removed lists l m i w n lt in' is h far =
    elim (same_or_not (code m) (code l)) [
      | inl e ↦ ap (is_among n) (watchers_same lists l m (swap_remove (watchers_of lists l) i w) e lt)
          ∙ among_removed n (watchers_of lists l) i w in' is
          (ap (λ (c : ℕ). is_among n (get_or lists c [])) (sym e) ∙ h) (λ same. far same e)
      | inr ne ↦ ap (is_among n) (watchers_other lists l m (swap_remove (watchers_of lists l) i w) ne) ∙ h
    ]

pub watching_remove : (cs : List (List Literal)) (vars : ℕ) (heads : List Head) (lists : List (List Watcher))
    (l : Literal) (i : ℕ) (w : Watcher) → IsWatching cs vars heads lists → code l < length lists →
    i < length (watchers_of lists l) → w ≡ get_or (watchers_of lists l) i w →
    (Watches (head_at heads (w.number - 1)) l → ⊥) →
    IsWatching cs vars heads (with_watchers lists l (swap_remove (watchers_of lists l) i w))
watching_remove cs vars heads lists l i w h lt in' is far = record {
  sized = length-set lists (code l) (swap_remove (watchers_of lists l) i w) ∙ h.sized;
  few = h.few;
  entries = entries_with cs (length heads) lists l (swap_remove (watchers_of lists l) i w) lt h.entries
      (All_removed (IsEntry cs (length heads) l) (watchers_of lists l) i w in' (h.entries l));
  watched = λ k b.
      let own : w.number ≡ k + 1 → head_at heads (w.number - 1) ≡ head_at heads k = λ e. ap (head_at heads)
      (let f : w.number - 1 ≡ k = omega arith in f) in
      let old = h.watched k b in
      record {
        first_held = old.first_held;
        second_held = old.second_held;
        first_listed = listed_removed lists l (head_at heads k).first i w (k + 1) lt in' is old.first_listed
            (λ e f. far (inl (ap (λ (g : Head). code g.first) (own e) ∙ f)));
        second_listed = listed_removed lists l (head_at heads k).second i w (k + 1) lt in' is old.second_listed
            (λ e f. far (inr (ap (λ (g : Head). code g.second) (own e) ∙ f)));
      };
}

-- one clause more watches
pub head_push_old : (heads : List Head) (h : Head) (k : ℕ) → k < length heads → head_at (heads ++ h ∷ []) k
    ≡ head_at heads k
head_push_old heads h k lt = get_or_append_left heads (h ∷ []) no_head k lt

pub head_push_last : (heads : List Head) (h : Head) (k : ℕ) → k ≡ length heads → head_at (heads ++ h ∷ []) k ≡ h
head_push_last heads h k e = get_or_push heads h no_head k (sym e)

pub watching_attach : (cs : List (List Literal)) (vars : ℕ) (heads : List Head) (lists : List (List Watcher))
    (h : Head) (n : ℕ) (t u : Literal) → IsWatching cs vars heads lists → length heads < length cs → n
    ≡ length heads + 1 → has (clause_at cs (length heads)) h.first ≡ true →
    has (clause_at cs (length heads)) h.second ≡ true →
    (code t ≢ code h.first → IsShort (clause_at cs (length heads)) h.first h.second t) →
    (code u ≢ code h.second → IsShort (clause_at cs (length heads)) h.second h.first u) →
    code h.first < length lists → code h.second < length lists →
    IsWatching cs vars (heads ++ h ∷ [])
    (with_watchers (with_watchers lists h.first
    (watchers_of lists h.first ++ record { number = n; blocker = h.second; third = t } ∷ [])) h.second
    (watchers_of (with_watchers lists h.first
    (watchers_of lists h.first ++ record { number = n; blocker = h.second; third = t } ∷ []))
    h.second ++ record { number = n; blocker = h.first; third = u } ∷ []))
watching_attach cs vars heads lists h n t u i few is first second one other lt1 lt2 =
    let len : length (heads ++ h ∷ []) ≡ length heads + 1 = length_push heads h in
    let k : ℕ = length heads in
    let v : Watcher = record { number = n; blocker = h.second; third = t } in
    let w : Watcher = record { number = n; blocker = h.first; third = u } in
    let back : n - 1 ≡ length heads = omega arith in
    let entry_v : IsEntry cs (length (heads ++ h ∷ [])) h.first v =
    record {
      low = omega arith;
      high = omega arith;
      held = ap (λ (j : ℕ). has (clause_at cs j) h.second) back
          ∙ second;
      short = λ y. subst (λ (j : ℕ). IsShort (clause_at cs j) h.first h.second t) (sym back) (one y);
    } in
    let entry_w : IsEntry cs (length (heads ++ h ∷ [])) h.second w =
    record {
      low = omega arith;
      high = omega arith;
      held = ap (λ (j : ℕ). has (clause_at cs j) h.first) back
          ∙ first;
      short = λ y. subst (λ (j : ℕ). IsShort (clause_at cs j) h.second h.first u) (sym back) (other y);
    } in
    let mid : List (List Watcher) = with_watchers lists h.first (watchers_of lists h.first ++ v ∷ []) in
    let long : length mid ≡ length lists = length-set lists (code h.first) (watchers_of lists h.first ++ v ∷ []) in
    let lt3 : code h.second < length mid = omega arith in
    let entries_mid : AreEntries cs (length (heads ++ h ∷ [])) mid = entries_push cs
    (length (heads ++ h ∷ [])) lists h.first v lt1
    (entries_higher cs (length heads) (length (heads ++ h ∷ [])) lists (omega arith) i.entries) entry_v in
    record {
      sized = length-set mid (code h.second) (watchers_of mid h.second ++ w ∷ []) ∙ long ∙ i.sized;
      few = omega arith;
      entries = entries_push cs (length (heads ++ h ∷ [])) mid h.second w lt3 entries_mid entry_w;
      watched = λ j b. elim (same_or_not j (length heads)) [
        | inl e ↦ subst (λ (x : ℕ). IsWatched (clause_at cs x)
            (with_watchers mid h.second (watchers_of mid h.second ++ w ∷ [])) x (head_at (heads ++ h ∷ []) x))
            (sym e)
            (subst (λ (g : Head). IsWatched (clause_at cs (length heads))
            (with_watchers mid h.second (watchers_of mid h.second ++ w ∷ [])) (length heads) g)
            (sym (head_push_last heads h (length heads) refl))
            (record {
              first_held = first;
              second_held = second;
              first_listed = listed_push mid h.second h.first w (length heads + 1) lt3
                  (listed_last lists h.first v (length heads + 1) lt1 is);
              second_listed = listed_last mid h.second w (length heads + 1) lt3 is;
            }))
        | inr ne ↦ subst (λ (g : Head). IsWatched (clause_at cs j)
            (with_watchers mid h.second (watchers_of mid h.second ++ w ∷ [])) j g)
            (sym (head_push_old heads h j (omega arith)))
            (watched_push (clause_at cs j) mid j (head_at heads j) h.second w lt3
            (watched_push (clause_at cs j) lists j (head_at heads j) h.first v lt1 (i.watched j (omega arith))))
      ];
    }

-- no clause watches yet
pub watching_none : (cs : List (List Literal)) (vars : ℕ) (lists : List (List Watcher)) → length lists
    ≡ 2 * vars + 2 → ((l : Literal) → watchers_of lists l ≡ []) → IsWatching cs vars [] lists
watching_none cs vars lists len none = record {
  sized = len;
  few = omega arith;
  entries = λ l. subst (λ (z : List Watcher). All (IsEntry cs 0 l) z) (sym (none l)) (All-nil (IsEntry cs 0 l));
  watched = λ k lt. absurd (omega arith);
}

-- clauses are added
pub watching_append : (cs ds : List (List Literal)) (vars : ℕ) (heads : List Head) (lists : List (List Watcher)) →
    IsWatching cs vars heads lists → IsWatching (cs ++ ds) vars heads lists
watching_append cs ds vars heads lists h =
    let few = h.few in
    let same : (k : ℕ) → k < length heads → clause_at (cs ++ ds) k ≡ clause_at cs k =
    λ k lt. get_or_append_left cs ds [] k (omega arith) in
    record {
      sized = h.sized;
      few = omega (arith, length-append cs ds);
      entries = λ l. All-weaker (IsEntry cs (length heads) l) (IsEntry (cs ++ ds) (length heads) l)
          (λ w e. (let stays : clause_at (cs ++ ds) (w.number - 1) ≡ clause_at cs (w.number - 1) =
          same (w.number - 1) (let x = e.low in let y = e.high in omega arith) in
          record {
            low = e.low;
            high = e.high;
            held = ap (λ (c : List Literal). has c w.blocker) stays ∙ e.held;
            short = λ y. subst (λ (c : List Literal). IsShort c l w.blocker w.third) (sym stays) (e.short y);
          }))
          (watchers_of lists l) (h.entries l);
      watched = λ k lt. subst (λ (c : List Literal). IsWatched c lists k (head_at heads k)) (sym (same k lt))
          (h.watched k lt);
    }

-- a watcher gets another blocker
listed_set : (lists : List (List Watcher)) (l m : Literal) (i : ℕ) (w : Watcher) (n : ℕ) → code l < length lists →
    ((d : Watcher) → (get_or (watchers_of lists l) i d).number ≡ w.number) → is_among n (watchers_of lists m) ≡ true →
    is_among n (watchers_of (with_watchers lists l (set (watchers_of lists l) i w)) m) ≡ true
listed_set lists l m i w n lt same h =
    elim (same_or_not (code m) (code l)) [
      | inl e ↦ ap (is_among n) (watchers_same lists l m (set (watchers_of lists l) i w) e lt)
          ∙ among_set n (watchers_of lists l) i w same ∙ ap (λ (c : ℕ). is_among n (get_or lists c [])) (sym e) ∙ h
      | inr ne ↦ ap (is_among n) (watchers_other lists l m (set (watchers_of lists l) i w) ne) ∙ h
    ]

pub watching_write : (cs : List (List Literal)) (vars : ℕ) (heads : List Head) (lists : List (List Watcher))
    (l : Literal) (i : ℕ) (w : Watcher) → IsWatching cs vars heads lists → code l < length lists →
    ((d : Watcher) → (get_or (watchers_of lists l) i d).number ≡ w.number) → IsEntry cs (length heads) l w →
    IsWatching cs vars heads (with_watchers lists l (set (watchers_of lists l) i w))
watching_write cs vars heads lists l i w h lt same e = record {
  sized = length-set lists (code l) (set (watchers_of lists l) i w) ∙ h.sized;
  few = h.few;
  entries = entries_with cs (length heads) lists l (set (watchers_of lists l) i w) lt h.entries
      (All-set (IsEntry cs (length heads) l) (watchers_of lists l) i w e (h.entries l));
  watched = λ k b.
      (let old = h.watched k b in
      record {
        first_held = old.first_held;
        second_held = old.second_held;
        first_listed = listed_set lists l (head_at heads k).first i w (k + 1) lt same old.first_listed;
        second_listed = listed_set lists l (head_at heads k).second i w (k + 1) lt same old.second_listed;
      });
}
