-- Parts that don't fail the check, and variables in scope that lie inside a parameter.
use Rattle.std.proofs.Common.{◌≡◌, ℕ, zero, suc, Bool, true, false, List, [], ◌∷◌, ◌++◌, Option, Some, None, Ok, Err}
use Rattle.std.proofs.Common.{length, slice_get, refl, sym, ap, ◌∙◌, subst, arith, ⊎_elim, append-nil, append_assoc}
use Rattle.std.proofs.Common.{length-append}
use Rattle.pp_graph.specs.Rows.{marked}
use Rattle.pp_prog.specs.declared.id.CheckId.{CheckId}
use Rattle.pp_prog.specs.declared.value.Value.{Value}
use Rattle.pp_prog.specs.Values.{IsBelow}
use Rattle.pp_eval.specs.declared.outcome.Stop.{Stop}
use Rattle.pp_eval.specs.declared.outcome.Stop.TheVariants.{Deep, Fails, Stuck}
use Rattle.pp_eval.specs.Meaning.{Frame, Meaning, all_from}
use Rattle.pp_eval.specs.Part.{Part, and_then, either, found}
use Rattle.pp_eval.specs.Operators.{truth}
use Rattle.pp_run_laws.proofs.Follows.{Stops}
use Rattle.pp_run_laws.proofs.Stops.{truth_stops}
use Rattle.pp_guess_runs.proofs.Truth.{then_value}
use Rattle.pp_plain_laws.proofs.Patterns.{split_at}

-- ---- parts that don't fail the check

module _ (c : CheckId) where
  abbrev pub IsOther : Stop → Type 0
  IsOther x = x ≡ Fails c → ⊥

  -- the part doesn't stop at the check
  pub record IsClean {A : Type 0} (part : Part A) : Type 0 where
    pub told : Stops IsOther part

  pub other_deep : IsOther Deep
  other_deep e = cc

  pub other_stuck : IsOther Stuck
  other_stuck e = cc

-- a value that is taken for a truth doesn't stop at the check
pub truth_clean : (c : CheckId) (v : Value) → IsClean c (truth v)
truth_clean c v = record { told = truth_stops (IsOther c) (other_stuck c) v }

pub clean_value : {c : CheckId} {A : Type 0} {a : A} → IsClean c (Ok a)
clean_value = record { told = tt }

pub clean_stop : {c : CheckId} {A : Type 0} {x : Stop} → IsOther c x → IsClean c {A = A} (Err x)
clean_stop h = record { told = h }

pub clean_then : {c : CheckId} {A B : Type 0} {part : Part A} (go : A → Part B) → IsClean c part
    → ((a : A) → part ≡ Ok a → IsClean c (go a)) → IsClean c (and_then part go)
clean_then {part = Ok a} go h k = k a refl
clean_then {part = Err x} go h k = record { told = h.told }

pub clean_either : {c : CheckId} {A : Type 0} {a b : Part A} (t : Bool) → IsClean c a → IsClean c b
    → IsClean c (either t a b)
clean_either true h k = h
clean_either false h k = k

pub never_fails : {c : CheckId} {A : Type 0} {part : Part A} → IsClean c part → part ≡ Err (Fails c) → ⊥
never_fails {c = c} {A = A} h e =
    let told : Stops {A = A} (IsOther c) (Err (Fails c)) = subst (Stops {A = A} (IsOther c)) e h.told in told refl

pub found_some : (o : Option Value) (v : Value) → found o ≡ Ok v → o ≡ Some v
found_some None v e = cc
found_some (Some w) v e = let same : w ≡ v = cc in ap Some same

-- ---- lists of values

pub values_behind : (ms : List Meaning) (done : List Value) (frame : Frame) (env vs : List Value)
    → all_from done ms frame env ≡ Ok vs → (more : List Value) × (vs ≡ done ++ more)
values_behind [] done frame env vs e = let same : done ≡ vs = cc in ([], sym same ∙ sym (append-nil done))
values_behind (m ∷ ms) done frame env vs e =
    let v = then_value (m frame env) (λ v. all_from (done ++ v ∷ []) ms frame env) vs e in
    let r = values_behind ms (done ++ v.0 ∷ []) frame env vs v.2 in
    (v.0 ∷ r.0, r.1 ∙ append_assoc done (v.0 ∷ []) r.0)

pub get_behind : (done : List Value) (v : Value) (more : List Value)
    → slice_get (done ++ v ∷ more) (length done) ≡ Some v
get_behind [] v more = refl
get_behind (d ∷ ds) v more = get_behind ds v more

-- ---- variables in scope

-- the parameter number pp has the value v0, and the variables that are marked lie below it
pub record AreInScope (pp : ℕ) (v0 : Value) (marks : List Bool) (env : List Value) : Type 0 where
  pub size : length marks ≡ length env
  pub param : slice_get env pp ≡ Some v0
  pub below : (k : ℕ) (w : Value) → marked marks k ≡ true → slice_get env k ≡ Some w → IsBelow w v0

get_left : (xs ys : List Value) (k : ℕ) (v : Value) → slice_get xs k ≡ Some v → slice_get (xs ++ ys) k ≡ Some v
get_left [] ys k v e = cc
get_left (x ∷ xs) ys zero v e = e
get_left (x ∷ xs) ys (suc k) v e = get_left xs ys k v e

module _ (pp : ℕ) (v0 : Value) where
  pub more_in_scope : (marks ms : List Bool) (env vs : List Value) → AreInScope pp v0 marks env → length ms ≡ length vs
      → ((j : ℕ) (w : Value) → marked ms j ≡ true → slice_get vs j ≡ Some w → IsBelow w v0)
      → AreInScope pp v0 (marks ++ ms) (env ++ vs)
  more_in_scope marks ms env vs h size below = record {
    size = omega (arith, length-append marks ms, length-append env vs, h.size, size);
    param = get_left env vs pp v0 h.param;
    below =
        λ k w m is. ⊎_elim (λ a. h.below k w a.0 a.1) (λ b. below b.0 w b.1 b.2)
        (split_at marks ms env vs h.size k w m is);
  }

  -- a value that isn't marked
  pub one_in_scope : (marks : List Bool) (env : List Value) (v : Value) → AreInScope pp v0 marks env
      → AreInScope pp v0 (marks ++ false ∷ []) (env ++ v ∷ [])
  one_in_scope marks env v h = more_in_scope marks (false ∷ []) env (v ∷ []) h refl by
    where
      by : (j : ℕ) (w : Value) → marked (false ∷ []) j ≡ true → slice_get (v ∷ []) j ≡ Some w → IsBelow w v0
      by zero w m is = cc
      by (suc j) w m is = cc
