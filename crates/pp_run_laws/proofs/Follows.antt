-- Parts that come, from some number on, to what another part comes to.
use Rattle.std.proofs.Common.{◌≡◌, ℕ, zero, suc, ◌+◌, ◌≤◌, Bool, true, false, Ok, Err, refl, sym, ap, subst, arith}
use Rattle.pp_prog.specs.declared.id.FunctionId.{FunctionId}
use Rattle.pp_eval.specs.declared.outcome.Stop.{Stop}
use Rattle.pp_eval.specs.Part.{Part, and_then, either, inside}
use Rattle.pp_run_laws.proofs.Eventually.{Eventually, mapped}

-- the second part has the first one's value. The first stops only as T allows, and the second so too where S asks it.
abbrev pub Kept : {A : Type 0} → (Stop → Type 0) → (Stop → Type 0) → Part A → Part A → Type 0
Kept T S (Ok a) other = other ≡ Ok a
Kept T S (Err x) other = T x × (S x → other ≡ Err x)

-- from some number on the parts keep this one
pub record Follows {A : Type 0} (T S : Stop → Type 0) (part : Part A) (parts : ℕ → Part A) : Type 0 where
  pub from : ℕ
  pub kept : (m : ℕ) → from ≤ m → Kept T S part (parts m)

-- from some number on the parts come to this value
abbrev pub Comes : {A : Type 0} → (ℕ → Part A) → A → Type 0
Comes parts a = Eventually (λ m. parts m ≡ Ok a)

pub follows_value : {A : Type 0} {T S : Stop → Type 0} {a : A} → Follows T S (Ok a) (λ m. Ok a)
follows_value = record { from = 0; kept = λ m le. refl }

-- where nothing is asked of the stop
pub follows_lost : {A : Type 0} {T S : Stop → Type 0} {x : Stop} {parts : ℕ → Part A} → T x → (S x → ⊥)
    → Follows T S (Err x) parts
follows_lost t never = record { from = 0; kept = λ m le. (t, λ s. absurd (never s)) }

pub follows_comes : {A : Type 0} {T S : Stop → Type 0} {a : A} {parts : ℕ → Part A} → Comes parts a
    → Follows T S (Ok a) parts
follows_comes h = record { from = h.from; kept = λ m le. h.holds m le }

-- what the parts come to, where this one has a value
pub value_comes : {A : Type 0} {T S : Stop → Type 0} {a : A} {parts : ℕ → Part A} → Follows T S (Ok a) parts
    → Comes parts a
value_comes h = record { from = h.from; holds = λ m le. h.kept m le }

-- how the parts stop, where this one stops
pub stop_comes : {A : Type 0} {T S : Stop → Type 0} {x : Stop} {parts : ℕ → Part A} → S x → Follows T S (Err x) parts
    → Eventually (λ m. parts m ≡ Err x)
stop_comes s h = record { from = h.from; holds = λ m le. (h.kept m le).1 s }

pub follows_along : {A : Type 0} {T S : Stop → Type 0} {part : Part A} {parts others : ℕ → Part A}
    → ((m : ℕ) → others m ≡ parts m) → Follows T S part parts → Follows T S part others
follows_along {T = T} {S = S} {part = part} e h = record {
  from = h.from;
  kept = λ m le. subst (λ q. Kept T S part q) (sym (e m)) (h.kept m le);
}

pub follows_eventually : {A : Type 0} {T S : Stop → Type 0} {part : Part A} {parts others : ℕ → Part A}
    → Follows T S part parts → Eventually (λ m. others m ≡ parts m) → Follows T S part others
follows_eventually {T = T} {S = S} {part = part} h e = record {
  from = h.from + e.from;
  kept = λ m le. subst (λ q. Kept T S part q) (sym (e.holds m (omega (arith, le)))) (h.kept m (omega (arith, le)));
}

-- from the next number on
pub follows_later : {A : Type 0} {T S : Stop → Type 0} {part : Part A} {parts : ℕ → Part A}
    → Follows T S part (λ m. parts (suc m)) → Follows T S part parts
follows_later {T = T} {S = S} {part = part} {parts = parts} h = record { from = suc h.from; kept = by }
  where
    by : (m : ℕ) → suc h.from ≤ m → Kept T S part (parts m)
    by zero le = absurd (omega (arith, le))
    by (suc m) le = h.kept m (omega (arith, le))

-- where the parts come to a value, what goes on from it counts
pub comes_then : {A B : Type 0} {T S : Stop → Type 0} {a : A} {parts : ℕ → Part A} {part : Part B}
    (goes : ℕ → A → Part B) → Comes parts a → Follows T S part (λ m. goes m a)
    → Follows T S part (λ m. and_then (parts m) (goes m))
comes_then {T = T} {S = S} {a = a} {parts = parts} {part = part} goes h k = record {
  from = h.from + k.from;
  kept =
      λ m le. subst (λ q. Kept T S part (and_then q (goes m))) (sym (h.holds m (omega (arith, le))))
      (k.kept m (omega (arith, le)));
}

-- what goes on from a part
pub follows_then : {A B : Type 0} {T S : Stop → Type 0} {part : Part A} {parts : ℕ → Part A} {go : A
    → Part B} {goes : ℕ → A → Part B} → Follows T S part parts → ((a : A) → Follows T S (go a) (λ m. goes m a))
    → Follows T S (and_then part go) (λ m. and_then (parts m) (goes m))
follows_then {part = Ok a} {goes = goes} h k = comes_then goes (value_comes h) (k a)
follows_then {T = T} {S = S} {part = Err x} {goes = goes} h k = record {
  from = h.from;
  kept = λ m le. ((h.kept m le).0, λ s. ap (λ q. and_then q (goes m)) ((h.kept m le).1 s));
}

pub follows_either : {A : Type 0} {T S : Stop → Type 0} {a b : Part A} {xs ys : ℕ → Part A} (t : Bool)
    → Follows T S a xs → Follows T S b ys
    → Follows T S (either t a b) (λ m. either t (xs m) (ys m))
follows_either true h k = h
follows_either false h k = k

-- each stop of the part is allowed
abbrev pub Stops : {A : Type 0} → (Stop → Type 0) → Part A → Type 0
Stops T (Ok a) = Unit {0}
Stops T (Err x) = T x

-- a part that doesn't depend on the number
pub follows_same : {A : Type 0} {T S : Stop → Type 0} (part : Part A) → Stops T part → Follows T S part (λ m. part)
follows_same (Ok a) h = follows_value
follows_same (Err x) h = record { from = 0; kept = λ m le. (h, λ s. refl) }

-- ---- the value of parts

pub comes_inside : {A : Type 0} {a : A} {parts : ℕ → Part A} (g : FunctionId) → Comes parts a
    → Comes (λ m. inside g (parts m)) a
comes_inside g h = mapped h (λ m e. ap (inside g) e)
