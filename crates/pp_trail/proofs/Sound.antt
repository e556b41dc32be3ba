-- What holds of the parts of a trail goes on to hold.
use Rattle.std.proofs.Common.{ℕ, ◌≡◌, ◌≤◌, List, [], ◌∷◌, ◌++◌, Option, Some, None, refl, ◌∙◌, subst}
use Rattle.std.proofs.Common.{arith, length, take, set, length-set}
use Rattle.std.specs.Prelude.{IfSome}
use Rattle.std.proofs.lemmas.List.{take_at, length_push}
use Rattle.std.proofs.lemmas.List.Elements.{All-push, All-tail}
use Rattle.pp_clause.specs.Literal.{Literal, opposite}
use Rattle.pp_trail.specs.declared.step.Step.{Step}
use Rattle.pp_trail.specs.declared.marks.Mark.{Mark}
use Rattle.pp_clause.specs.Bound.{IsUpTo}
use Rattle.pp_trail.specs.Trail.{lits, IsReason, IsTrail}
use Rattle.pp_trail.specs.declared.truth.Truth.{Truth}
use Rattle.pp_trail.specs.declared.truth.Truth.TheVariants.{Open, True, False}
use Rattle.pp_trail.specs.Marks.{code, ArePlaces, AreTruths, IsSound}
use Rattle.pp_trail.proofs.Places.{IsAbsent}
use Rattle.pp_trail.proofs.Growing.{trail_push, shows_push, trail_take, shows_pop, absent_in_front, trail_append}
use Rattle.pp_trail.proofs.Truths.{code_within, length_written, truths_push, truths_pop}

pub sound_add : (cs : List (List Literal)) (ss : List Step) (marks : List (Option Mark)) (truths : List Truth)
    (vars cap : ℕ) (c : List Literal) → IsSound cs ss marks truths vars cap → IsUpTo vars c
    → IsSound (cs ++ c ∷ []) ss marks truths vars cap
sound_add cs ss marks truths vars cap c s u = record {
  clauses = All-push (IsUpTo vars) cs c s.clauses u;
  trail = trail_append cs (c ∷ []) vars ss s.trail;
  shows = s.shows;
  told = s.told;
  every = s.every;
  every_truth = s.every_truth;
  room = s.room;
}

reason_at : (cs : List (List Literal)) (before : List Literal) (l : Literal) (o : Option ℕ)
    → IfSome o (IsReason cs before l) → (n : ℕ) → o ≡ Some n → IsReason cs before l n
reason_at cs before l None h n e = absurd (let f : None ≡ Some n = e in cc)
reason_at cs before l (Some m) h n e = let f : Some m ≡ Some n = e in let g : m ≡ n = cc in
    subst (λ (k : ℕ). IsReason cs before l k) g h

pub sound_push : (cs : List (List Literal)) (ss : List Step) (marks : List (Option Mark)) (truths : List Truth)
    (vars cap new : ℕ) (s : Step) (place : ℕ) → IsSound cs ss marks truths vars cap → cap ≤ new →
    1 ≤ s.lit.var → s.lit.var ≤ vars → IsAbsent s.lit.var ss → IfSome s.reason (IsReason cs (lits ss) s.lit)
    → place ≡ length ss →
    IsSound cs (ss ++ s ∷ []) (set marks s.lit.var (Some (record { positive = s.lit.positive; place = place })))
    (set (set truths (code s.lit) True) (code (opposite s.lit)) False) vars new
sound_push cs ss marks truths vars cap new s place h le low high absent reason at = record {
  clauses = h.clauses;
  trail = trail_push cs vars ss s h.trail low high absent (reason_at cs (lits ss) s.lit s.reason reason);
  shows = shows_push marks ss s place h.shows (let e = h.every in omega arith) absent at;
  told = truths_push truths ss s h.told (let e = h.every_truth in let b = code_within s.lit vars high in omega arith)
      (let e = h.every_truth in let b = code_within (opposite s.lit) vars high in omega arith) absent;
  every = length-set marks s.lit.var (Some (record { positive = s.lit.positive; place = place })) ∙ h.every;
  every_truth = length_written truths (code s.lit) (code (opposite s.lit)) True False ∙ h.every_truth;
  room = (let r = h.room in omega arith);
}

pub sound_pop : (cs : List (List Literal)) (ss front : List Step) (marks : List (Option Mark))
    (truths : List Truth) (vars cap new : ℕ) (s : Step) → IsSound cs ss marks truths vars cap
    → ss ≡ front ++ s ∷ [] → new ≡ cap → s.lit.var ≤ vars →
    IsSound cs front (set marks s.lit.var None) (set (set truths (code s.lit) Open) (code (opposite s.lit)) Open) vars
    new
sound_pop cs ss front marks truths vars cap new s h e same high =
    let t : IsTrail cs vars (front ++ s ∷ []) = subst (λ (z : List Step). IsTrail cs vars z) e h.trail in
    let w : ArePlaces marks (front ++ s ∷ []) = subst (λ (z : List Step). ArePlaces marks z) e h.shows in
    let v : AreTruths truths (front ++ s ∷ []) = subst (λ (z : List Step). AreTruths truths z) e h.told in
    let cut : take (length front) (front ++ s ∷ []) ≡ front = take_at front (s ∷ []) (length front) refl in
    record {
      clauses = h.clauses;
      trail = subst (λ (z : List Step). IsTrail cs vars z) cut
          (trail_take cs vars (front ++ s ∷ []) (length front) (let k = length_push front s in omega arith) t);
      shows = shows_pop marks front s w (let k = h.every in omega arith) (absent_in_front front s t.distinct);
      told = truths_pop truths front s v (let k = h.every_truth in let b = code_within s.lit vars high in omega arith)
          (let k = h.every_truth in let b = code_within (opposite s.lit) vars high in omega arith)
          (absent_in_front front s t.distinct);
      every = length-set marks s.lit.var None ∙ h.every;
      every_truth = length_written truths (code s.lit) (code (opposite s.lit)) Open Open ∙ h.every_truth;
      room = (let r = h.room in omega arith);
    }

-- the variable of the last step of a trail
last_within : (vars : ℕ) (front : List Step) (s : Step) → IsUpTo vars (lits (front ++ s ∷ [])) → s.lit.var ≤ vars
last_within vars [] s h = h 0 s.lit (omega arith)
last_within vars (f ∷ fs) s h = last_within vars fs s (All-tail (λ l. l.var ≤ vars) f.lit (lits (fs ++ s ∷ [])) h)

pub last_up_to : (cs : List (List Literal)) (vars : ℕ) (ss front : List Step) (s : Step) → IsTrail cs vars ss
    → ss ≡ front ++ s ∷ [] → s.lit.var ≤ vars
last_up_to cs vars ss front s t e = last_within vars front s (subst (λ (z : List Step). IsTrail cs vars z) e t).up_to
