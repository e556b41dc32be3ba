-- The arguments as the first registers: their sorts, their heights, and what is known of them.
use Rattle.std.proofs.Common.{◌≡◌, ℕ, zero, suc, ◌+◌, List, [], ◌∷◌, ◌++◌, length, map, drop, take, Bool}
use Rattle.std.proofs.Common.{Some, refl, sym, ap, ◌∙◌, subst}
use Rattle.std.specs.Prelude.{slice_get, All, IsTrue}
use Rattle.std.proofs.lemmas.Bool.{and_parts}
use Rattle.std.proofs.lemmas.List.{take-append-drop}
use Rattle.std.proofs.lemmas.List.Elements.{All-cons, All-nil}
use Rattle.std.proofs.lemmas.Option.{same_Some}
use Rattle.pp_prog.specs.declared.sort.Sort.{Sort}
use Rattle.pp_prog.specs.declared.types.TypeTable.{TypeTable}
use Rattle.pp_prog.specs.declared.value.Value.{Value}
use Rattle.pp_prog.specs.Sizes.{height_at}
use Rattle.pp_prog.specs.Sorts.{has_sort, have_sorts}
use Rattle.pp_gate.specs.declared.gate.Gate.{Gate}
use Rattle.pp_domain.specs.declared.symbol.Symbol.{Symbol}
use Rattle.pp_domain.specs.Naming.{Naming}
use Rattle.pp_domain.specs.Sense.{Sense}
use Rattle.pp_domain.specs.Symbols.{AreSymbols, IsSymbol, SymbolStands, SymbolsStand, symbol_height}
use Rattle.pp_steps.proofs.Counting.{add_suc, plus_zero}
use Rattle.pp_steps.specs.declared.step.Step.{Step}
use Rattle.pp_steps.specs.Frames.{numbers, open_step}
use Rattle.pp_steps.specs.Known.{AllTell}
use Rattle.pp_steps.specs.Meaning.{Values}
use Rattle.pp_steps.specs.Sorted.{Sorts}
use Rattle.pp_steps_run.specs.Told.{AreValues}
use Rattle.pp_build.specs.Registers.{IsKnown}

-- ---- lists from a number on

-- the sorts from number k on are these
abbrev pub SortsFrom : Sorts → ℕ → List Sort → Type 0
SortsFrom σ k [] = Unit {0}
SortsFrom σ k (s ∷ ss) = (σ k ≡ s) × SortsFrom σ (suc k) ss

-- the registers from number k on are these
abbrev pub RegistersFrom : {T : Type 0} → List (Symbol T) → ℕ → List (Symbol T) → Type 0
RegistersFrom rs k [] = Unit {0}
RegistersFrom rs k (x ∷ xs) = (slice_get rs k ≡ Some x) × RegistersFrom rs (suc k) xs

head_same : {X : Type 0} (x y : X) (xs ys : List X) → x ∷ xs ≡ y ∷ ys → x ≡ y
head_same x y xs ys e = cc

tail_same : {X : Type 0} (x y : X) (xs ys : List X) → x ∷ xs ≡ y ∷ ys → xs ≡ ys
tail_same x y xs ys e = cc

pub sorts_from : (σ : Sorts) (k : ℕ) (ss : List Sort) → map σ (numbers k ss) ≡ ss → SortsFrom σ k ss
sorts_from σ k [] e = tt
sorts_from σ k (s ∷ ss) e = (
  head_same (σ k) s (map σ (numbers (suc k) ss)) ss e,
  sorts_from σ (suc k) ss (tail_same (σ k) s (map σ (numbers (suc k) ss)) ss e),
)

pub sort_at : (σ : Sorts) (k : ℕ) (ss : List Sort) (j : ℕ) (s : Sort) → SortsFrom σ k ss → slice_get ss j ≡ Some s
    → σ (k + j) ≡ s
sort_at σ k [] j s h e = absurd (cc)
sort_at σ k (t ∷ ss) zero s h e = rw (plus_zero k) (h.0 ∙ same_Some t s e)
sort_at σ k (t ∷ ss) (suc j) s h e = rw (add_suc k j) (sort_at σ (suc k) ss j s h.1 e)

seam : {X : Type 0} (pre : List X) (x : X) (xs : List X) → slice_get (pre ++ x ∷ xs) (length pre) ≡ Some x
seam [] x xs = refl
seam (p ∷ pre) x xs = seam pre x xs

push_front : {X : Type 0} (pre : List X) (x : X) (xs : List X) → (pre ++ x ∷ []) ++ xs ≡ pre ++ x ∷ xs
push_front [] x xs = refl
push_front (p ∷ pre) x xs = ap (λ l. p ∷ l) (push_front pre x xs)

length_push : {X : Type 0} (pre : List X) (x : X) → length (pre ++ x ∷ []) ≡ suc (length pre)
length_push [] x = refl
length_push (p ∷ pre) x = ap suc (length_push pre x)

registers_after : {T : Type 0} (pre qs more : List (Symbol T)) → RegistersFrom (pre ++ (qs ++ more)) (length pre) qs
registers_after pre [] more = tt
registers_after pre (q ∷ qs) more = (
  seam pre q (qs ++ more),
  subst (λ l. RegistersFrom l (suc (length pre)) qs) (push_front pre q (qs ++ more))
      (subst (λ n. RegistersFrom ((pre ++ q ∷ []) ++ (qs ++ more)) n qs) (length_push pre q)
      (registers_after (pre ++ q ∷ []) qs more)),
)

-- the first registers stand first
pub registers_first : {T : Type 0} (qs rs : List (Symbol T)) → take (length qs) rs ≡ qs → RegistersFrom rs 0 qs
registers_first qs rs front =
    let all = sym (take-append-drop (length qs) rs) ∙ ap (λ l. l ++ drop (length qs) rs) front in
    subst (λ l. RegistersFrom l 0 qs) (sym all) (registers_after [] qs (drop (length qs) rs))

-- ---- what is known of the arguments

module _ {D T : Type 0} (m : Sense D T) (types : TypeTable) (e : D) (a : ℕ → Bool) (n : Naming) (σ : Sorts) (ρ : Values)
    (rs : List (Symbol T))
  where
    pub known_from : (k : ℕ) (ss : List Sort) (xs : List (Symbol T)) (vs : List Value) → RegistersFrom rs k xs
        → SortsFrom σ k ss → SymbolsStand m e a n xs vs → IsTrue (have_sorts types.ctors vs ss)
        → AreValues ρ (numbers k ss) vs → All (IsKnown m types e a n σ ρ rs) (numbers k ss)
    known_from k [] xs vs at sorts stand have are = All-nil (IsKnown m types e a n σ ρ rs)
    known_from k (s ∷ ss) [] [] at sorts stand have are = absurd (cc)
    known_from k (s ∷ ss) [] (v ∷ vs) at sorts stand have are = absurd stand
    known_from k (s ∷ ss) (x ∷ xs) [] at sorts stand have are = absurd stand
    known_from k (s ∷ ss) (x ∷ xs) (v ∷ vs) at sorts stand have are =
        let parts = and_parts (has_sort types.ctors v s) (have_sorts types.ctors vs ss) have in
        All-cons (IsKnown m types e a n σ ρ rs) k (numbers (suc k) ss)
        (record {
          register = x;
          at = at.0;
          stands = subst (λ u. SymbolStands m e a n x u) (sym are.0) stand.0;
          sorted = subst (λ u. IsTrue (has_sort types.ctors u (σ k))) (sym are.0)
              (subst (λ t. IsTrue (has_sort types.ctors v t)) (sym sorts.0) parts.0);
        })
        (known_from (suc k) ss xs vs at.1 sorts.1 stand.1 parts.1 are.1)

-- the steps of the arguments tell nothing
pub opens_tell : (ρ : Values) (K : ℕ → Type 0) (k : ℕ) (ss : List Sort) (rest : List Step)
    → AllTell ρ K (k + length ss) rest → AllTell ρ K k (map open_step ss ++ rest)
opens_tell ρ K k [] rest h = subst (λ j. AllTell ρ K j rest) (plus_zero k) h
opens_tell ρ K k (s ∷ ss) rest h =
    (tt, opens_tell ρ K (suc k) ss rest (subst (λ j. AllTell ρ K j rest) (add_suc k (length ss)) h))

-- ---- sorts and heights of the arguments' symbols

module _ {D T : Type 0} (m : Sense D T) (e : D) (gs : List Gate) where
  pub as_many : (ss : List Sort) (xs : List (Symbol T)) → AreSymbols m e gs ss xs → length xs ≡ length ss
  as_many [] [] are = refl
  as_many (s ∷ ss) (x ∷ xs) are = ap suc (as_many ss xs are.1)
  as_many [] (x ∷ xs) are = absurd are
  as_many (s ∷ ss) [] are = absurd are

  pub symbol_of : (k : ℕ) (ss : List Sort) (xs : List (Symbol T)) (σ : Sorts) → AreSymbols m e gs ss xs
      → SortsFrom σ k ss → (j : ℕ) (x : Symbol T) → slice_get xs j ≡ Some x → IsSymbol m e gs (σ (k + j)) x
  symbol_of k ss [] σ are sorts j x at = absurd (cc)
  symbol_of k [] (y ∷ xs) σ are sorts j x at = absurd are
  symbol_of k (s ∷ ss) (y ∷ xs) σ are sorts zero x at =
      subst (λ i. IsSymbol m e gs (σ i) x) (sym (plus_zero k))
      (subst (λ t. IsSymbol m e gs t x) (sym sorts.0) (subst (λ z. IsSymbol m e gs s z) (same y x at) are.0))
    where
      same : (y x : Symbol T) → Some y ≡ Some x → y ≡ x
      same y x q = cc
  symbol_of k (s ∷ ss) (y ∷ xs) σ are sorts (suc j) x at =
      subst (λ i. IsSymbol m e gs (σ i) x) (sym (add_suc k j)) (symbol_of (suc k) ss xs σ are.1 sorts.1 j x at)

  pub height_of : (h : ℕ) (ss : List Sort) (xs : List (Symbol T)) → map (symbol_height m e) xs ≡ map (height_at h) ss
      → (j : ℕ) (x : Symbol T) → slice_get xs j ≡ Some x
      → (s : Sort) × (slice_get ss j ≡ Some s) × (symbol_height m e x ≡ height_at h s)
  height_of h ss [] same j x at = absurd (cc)
  height_of h [] (y ∷ xs) same j x at = absurd (cc)
  height_of h (s ∷ ss) (y ∷ xs) same zero x at = (
    s,
    refl,
    subst (λ z. symbol_height m e z ≡ height_at h s) (is y x at)
        (head_same (symbol_height m e y) (height_at h s) (map (symbol_height m e) xs) (map (height_at h) ss) same),
  )
    where
      is : (y x : Symbol T) → Some y ≡ Some x → y ≡ x
      is y x q = cc
  height_of h (s ∷ ss) (y ∷ xs) same (suc j) x at =
      height_of h ss xs
      (tail_same (symbol_height m e y) (height_at h s) (map (symbol_height m e) xs) (map (height_at h) ss) same) j x at
