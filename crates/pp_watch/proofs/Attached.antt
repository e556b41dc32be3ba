-- Clauses that begin to watch literals.
use Rattle.std.proofs.Common.{ℕ, ◌+◌, ◌≡◌, ◌≢◌, ◌<◌, true, false, List, [], ◌∷◌, ◌++◌, Vec, Global}
use Rattle.std.proofs.Common.{sym, refl, ap, ◌∙◌, subst, arith, length, get_or, take, length-set}
use Rattle.std.specs.Prelude.{IsSome}
use Rattle.std.proofs.lemmas.List.{take-append-le}
use Rattle.pp_clause.specs.Literal.{Literal, opposite}
use Rattle.pp_clause.specs.Clause.{has}
use Rattle.pp_clause.proofs.Has.{false_not_true, has-push_last}
use Rattle.pp_trail.specs.declared.step.Step.{Step}
use Rattle.pp_trail.specs.Trail.{lits}
use Rattle.pp_trail.proofs.Growing.{lits_push}
use Rattle.pp_trail.specs.Marks.{code}
use Rattle.pp_watch.specs.Lists.{watchers_of, with_watchers}
use Rattle.pp_watch.specs.Watching.{clause_at, HasTrue, IsShort, IsGuarded, IsLevel, IsSound}
use Rattle.pp_watch.specs.Looking.{IsChoice, IsBound, IsFree, IsCut}
use Rattle.pp_watch.specs.Attaching.{Attaches, CanWatch, Settles}
use Rattle.pp_watch.specs.declared.head.Head.{Head}
use Rattle.pp_watch.specs.declared.watcher.Watcher.{Watcher}
use Rattle.pp_watch.specs.declared.state.State.{State}
use Rattle.pp_watch.proofs.Guarded.{has_before, guarded_true, visited_attach}
use Rattle.pp_watch.proofs.Watched.{watching_attach}
use Rattle.pp_watch.proofs.States.{with_step, with_levels, sound_step, sound_levels, grows_step, grows_none}
use Rattle.pp_watch.proofs.States.{grows_along}

-- two watched literals that aren't false
free_guard : (below whole c : List Literal) (h : Head) → (has below (opposite h.first) ≡ true → ⊥) →
    (has below (opposite h.second) ≡ true → ⊥) → code h.first ≢ code h.second → IsGuarded below whole c h
free_guard below whole c h a b ne =
    record { first = λ k. absurd (a k); second = λ k. absurd (b k); single = λ e. absurd (ne e) }

not_before : (ss : List Step) (n : ℕ) (l : Literal) → has (lits ss) l ≡ false → has (lits (take n ss)) l ≡ true → ⊥
not_before ss n l f h = false_not_true (sym f ∙ has_before ss n l h)

-- before the bound the clause is guarded
bound_guard : (ss : List Step) (c : List Literal) (h : Head) (bound n : ℕ) → has (lits ss) (opposite h.first)
    ≡ false → IsBound ss h bound → n < bound → IsGuarded (lits (take n ss)) (lits (take n ss)) c h
bound_guard ss c h bound n nf b lt =
    free_guard (lits (take n ss)) (lits (take n ss)) c h (not_before ss n (opposite h.first) nf)
    (λ k. false_not_true (sym (b.before n lt) ∙ k)) (b.differ n lt)

-- both literals aren't false
pub settle_free : (s : State) (h : Head) → IsSound s → length s.heads.items < length s.trail.clauses → IsChoice
    (lits s.trail.steps) (clause_at s.trail.clauses (length s.heads.items)) h → IsFree s.trail.steps h → Settles s h s
settle_free s h i few c f =
    let own : (n : ℕ) → IsGuarded (lits (take n s.trail.steps)) (lits (take n s.trail.steps))
    (clause_at s.trail.clauses (length s.heads.items)) h = λ n.
    free_guard _ _ _ h (not_before s.trail.steps n (opposite h.first) c.not_false)
    (not_before s.trail.steps n (opposite h.second) f.not_false) f.differ in
    record {
      attaches = record { grows = grows_none s.trail; visited = refl; sound = i };
      heads = refl;
      next = record {
        few = few;
        first_held = c.first_held;
        second_held = c.second_held;
        guarded = free_guard _ _ _ h (not_before s.trail.steps s.visited (opposite h.first) c.not_false)
            (not_before s.trail.steps s.visited (opposite h.second) f.not_false) f.differ;
        kept = λ k d lt. own (get_or s.levels.items k d);
      };
    }

-- the first literal is true
pub settle_true : (s : State) (h : Head) (v : Vec ℕ Global) (bound : ℕ) → IsSound s →
    length s.heads.items < length s.trail.clauses → IsChoice (lits s.trail.steps)
    (clause_at s.trail.clauses (length s.heads.items)) h → IsBound s.trail.steps h bound →
    IsCut s.levels.items bound v.items → has (lits s.trail.steps) h.first ≡ true → Settles s h (with_levels s v)
settle_true s h v bound i few c b cut t =
    let held : HasTrue (lits s.trail.steps) (clause_at s.trail.clauses (length s.heads.items)) =
    record { literal = h.first; held = c.first_held; itself = t } in
    record {
      attaches = record { grows = grows_none s.trail; visited = refl; sound = sound_levels s v bound i cut };
      heads = refl;
      next = record {
        few = few;
        first_held = c.first_held;
        second_held = c.second_held;
        guarded = guarded_true _ _ _ h held;
        kept = λ k d lt. bound_guard s.trail.steps _ h bound (get_or v.items k d) c.not_false b (cut.below k d lt);
      };
    }

-- the first literal becomes true
pub settle_step : (s : State) (h : Head) (v : Vec ℕ Global) (bound : ℕ) (step : Step) → IsSound s →
    length s.heads.items < length s.trail.clauses → IsChoice (lits s.trail.steps)
    (clause_at s.trail.clauses (length s.heads.items)) h →
    IsBound s.trail.steps h bound → IsCut s.levels.items bound v.items → step.lit ≡ h.first → IsSome step.reason →
    Settles s h (with_step (with_levels s v) step)
settle_step s h v bound step i few c b cut is r =
    let steps : List Step = s.trail.steps in
    let cs : List (List Literal) = s.trail.clauses in
    let now : has (lits (s.trail.steps ++ step ∷ [])) h.first ≡ true = ap (λ (z : List Literal). has z h.first)
    (lits_push s.trail.steps step) ∙ has-push_last (lits s.trail.steps) step.lit h.first (sym is) in
    let held : HasTrue (lits (s.trail.steps ++ step ∷ [])) (clause_at s.trail.clauses (length s.heads.items)) =
    record { literal = h.first; held = c.first_held; itself = now } in
    let sound : IsSound (with_levels s v) = sound_levels s v bound i cut in
    record {
      attaches = record {
        grows = grows_step (with_levels s v) step r;
        visited = refl;
        sound = sound_step
            (with_levels s v) step sound;
      };
      heads = refl;
      next = record {
        few = few;
        first_held = c.first_held;
        second_held = c.second_held;
        guarded = guarded_true _ _ _ h held;
        kept = λ k d lt.
            (let l : IsLevel s.trail.clauses s.heads.items s.trail.steps (get_or v.items k d) =
            sound.visited.kept k d lt in
            let w = l.within in
            subst (λ (z : List Step). IsGuarded (lits z) (lits z)
            (clause_at s.trail.clauses (length s.heads.items)) h)
            (sym (take-append-le (get_or v.items k d) s.trail.steps (step ∷ []) w))
            (bound_guard s.trail.steps _ h bound (get_or v.items k d) c.not_false b (cut.below k d lt)));
      };
    }

-- the first clause without a head gets one
pub sound_watch : (s t : State) (h : Head) (n : ℕ) (u v : Literal) (mid : List (List Watcher)) → IsSound s →
    CanWatch s h → n ≡ length s.heads.items + 1 →
    (code u ≢ code h.first → IsShort (clause_at s.trail.clauses (length s.heads.items)) h.first h.second u) →
    (code v ≢ code h.second → IsShort (clause_at s.trail.clauses (length s.heads.items)) h.second h.first v) →
    code h.first < length s.lists → code h.second < length s.lists →
    t.trail ≡ s.trail → t.levels ≡ s.levels → t.visited ≡ s.visited → t.heads.items ≡ s.heads.items ++ h ∷ [] →
    mid ≡ with_watchers s.lists h.first
    (watchers_of s.lists h.first ++ record { number = n; blocker = h.second; third = u } ∷ []) →
    t.lists ≡ with_watchers mid h.second
    (watchers_of mid h.second ++ record { number = n; blocker = h.first; third = v } ∷ []) → IsSound t
sound_watch s t h n u v mid i can is one other lt1 lt2 trail levels visited heads first second = record {
  watching = rw (trail, heads, second, first)
      (watching_attach s.trail.clauses s.trail.vars s.heads.items s.lists h n u v i.watching can.few is can.first_held
      can.second_held one other lt1 lt2);
  visited = rw (trail, heads, levels, visited)
      (visited_attach s.trail.clauses s.heads.items s.trail.steps s.visited s.levels.items h i.visited can.guarded
      can.kept);
}

pub long_after : (lists mid : List (List Watcher)) (l m : Literal) (ws : List Watcher) → mid
    ≡ with_watchers lists l ws → code m < length lists → code m < length mid
long_after lists mid l m ws e lt = let k = ap length e ∙ length-set lists (code l) ws in omega arith

pub attaches_along : (r s t : State) → Attaches r s → Attaches s t → Attaches r t
attaches_along r s t a b = record {
  grows = grows_along r.trail s.trail t.trail a.grows b.grows;
  visited = b.visited
      ∙ a.visited;
  sound = b.sound;
}
