-- Circuits that grow by several calls, and the lists of literals that are made on the way.
use Rattle.std.proofs.Common.{◌≡◌, ℕ, ◌+◌, ◌<◌, Bool, List, [], ◌∷◌, ◌++◌, length, All, get_or, sym, ap, ◌∙◌, subst}
use Rattle.std.proofs.Common.{length-append}
use Rattle.std.proofs.lemmas.List.Elements.{All-push, All-nil}
use Rattle.pp_clause.specs.Literal.{Literal, opposite}
use Rattle.pp_gate.specs.declared.gate.Gate.{Gate}
use Rattle.pp_gate.specs.Circuit.{IsOf, Gives}
use Rattle.pp_gate.specs.Growth.{Grows, AddsGates}
pub use Rattle.pp_gate.proofs.Agreement.{Gives_old}
pub use Rattle.pp_gate.proofs.Growing.{Grows_none, Grows_more, Grows_weaker, length-Grows, IsOf_more}
pub use Rattle.pp_gate.proofs.Growing.{AddsGates_none, AddsGates_more, AddsGates_weaker}

pub Gives_before : (old new : List Gate) (n : ℕ) → AddsGates old new n → (s : ℕ → Bool) → Gives s new → Gives s old
Gives_before old new n adds s gives = Gives_old old new n adds.grows s gives

pub AreOf_more : (old new : List Gate) (n : ℕ) (ls : List Literal) → Grows old new n → All (IsOf old) ls
    → All (IsOf new) ls
AreOf_more old new n ls g all = λ k x h. IsOf_more old new n (get_or ls k x) g (all k x h)

pub IsOf_opposite : (gs : List Gate) (l : Literal) → IsOf gs l → IsOf gs (opposite l)
IsOf_opposite gs l of = record { least = of.least; most = of.most }

-- n literals of the circuit
pub record Digits (gs : List Gate) (n : ℕ) (ls : List Literal) : Type 0 where
  pub len : length ls ≡ n
  pub of : All (IsOf gs) ls

pub Digits_none : {gs : List Gate} {ls : List Literal} → ls ≡ [] → Digits gs 0 ls
Digits_none {gs} e = record { len = ap length e; of = subst (All (IsOf gs)) (sym e) (All-nil (IsOf gs)) }

-- one more, in a circuit that has grown
pub Digits_push : {old new : List Gate} {m n : ℕ} {ls all : List Literal} {l : Literal} → Digits old n ls
    → Grows old new m → IsOf new l → all ≡ ls ++ l ∷ [] → Digits new (n + 1) all
Digits_push {old} {new} {m} {n} {ls} {all} {l} d g of e = record {
  len = ap length e ∙ length-append ls (l ∷ []) ∙ ap (λ (k : ℕ). k + 1) d.len;
  of = subst (All (IsOf new)) (sym e) (All-push (IsOf new) ls l (AreOf_more old new m ls g d.of) of);
}

pub IsOf_negated : (gs : List Gate) (l m : Literal) → l ≡ opposite m → IsOf gs m → IsOf gs l
IsOf_negated gs l m e of = subst (IsOf gs) (sym e) (IsOf_opposite gs m of)

pub IsOf_at : (gs : List Gate) (ls : List Literal) (i : ℕ) (l : Literal) → All (IsOf gs) ls → i < length ls
    → l ≡ get_or ls i l → IsOf gs l
IsOf_at gs ls i l all h e = subst (IsOf gs) (sym e) (all i l h)
