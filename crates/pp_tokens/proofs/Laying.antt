-- The parts of characters are a layout of them.
use Rattle.std.proofs.Common.{ℕ, zero, suc, ◌≡◌, ◌≤◌, List, [], ◌∷◌, ◌++◌, append_assoc, take, drop, length}
use Rattle.std.proofs.Common.{length-drop, take-append-drop, refl, sym, ap, ◌∙◌, subst, arith, Option, Some, None}
use Rattle.std.proofs.Common.{MatchOption}
use Rattle.pp_tokens.specs.declared.token.LexFault.{LexFault}
use Rattle.pp_tokens.specs.declared.token.Token.{Token}
use Rattle.pp_tokens.specs.declared.front.Fault.{Fault}
use Rattle.pp_tokens.specs.declared.front.Front.{Front}
use Rattle.pp_tokens.specs.declared.front.Front.TheVariants.{Takes, Bad}
use Rattle.pp_tokens.specs.Characters.{width}
use Rattle.pp_tokens.specs.Cutting.{Part, Parts, parts_of, written, fault_at}
use Rattle.pp_tokens.specs.Front.{front_of}
use Rattle.pp_tokens.specs.Layout.{IsPart, IsLaidOut}
use Rattle.pp_tokens.specs.Tokens.{spelled, refused, lexed, answer, IsLayout, IsFaultBehind}
use Rattle.pp_tokens.proofs.PartsOf.{part_first, fault_first, taken}

-- parts and the rest that they leave: nothing, or characters with the fault at their front
pub record IsCutOf (cs : List ℕ) (k : Parts) : Type 0 where
  pub rest : List ℕ
  pub laid_out : IsLaidOut cs k.parts rest
  pub ends : MatchOption k.fault (rest ≡ []) (λ f. front_of rest ≡ Bad f)
  pub some : MatchOption k.fault (Unit {0}) (λ f. 1 ≤ length rest)

by_front : (cs : List ℕ) (c : ℕ) (ds : List ℕ) → cs ≡ c ∷ ds
    → ((n : ℕ) → 1 ≤ n → IsCutOf (drop n cs) (parts_of 0 (drop n cs))) → (f : Front) → front_of cs ≡ f
    → IsCutOf cs (parts_of 0 cs)
by_front cs c ds is ih (Takes kind n) e =
    let t = taken cs kind n e in
    let i = ih n t.some in
    let more = parts_of 0 (drop n cs) in
    let P : Parts → Type 0 = λ k. IsCutOf cs k in
    let together : written more.parts ++ i.rest ≡ drop n cs = i.laid_out.whole in
    let Q : List ℕ → Type 0 = λ l. IsPart kind (take n cs) l in
    subst P (sym (part_first cs kind n e)) (record {
      rest = i.rest;
      laid_out = record {
        whole = append_assoc (take n cs) (written more.parts) i.rest ∙ ap (λ (l : List ℕ). take n cs ++ l) together
            ∙ take-append-drop n cs;
        right = (subst Q (sym together) t.right, i.laid_out.right);
      };
      ends = i.ends;
      some = i.some;
    })
by_front cs c ds is ih (Bad f) e =
    let P : Parts → Type 0 = λ k. IsCutOf cs k in
    let len = ap length is in
    subst P (sym (fault_first cs f (omega arith) e))
    (record { rest = cs; laid_out = record { whole = refl; right = tt }; ends = e; some = omega arith })

cut_within : (k : ℕ) (cs : List ℕ) → length cs ≤ k → IsCutOf cs (parts_of 0 cs)
cut_within k [] le = record { rest = []; laid_out = record { whole = refl; right = tt }; ends = refl; some = tt }
cut_within zero (c ∷ cs) le = absurd (omega arith)
cut_within (suc k) (c ∷ cs) le =
    by_front (c ∷ cs) c cs refl (λ n some. cut_within k (drop n (c ∷ cs)) (omega (arith, length-drop n (c ∷ cs))))
    (front_of (c ∷ cs)) refl

pub cut_of : (cs : List ℕ) → IsCutOf cs (parts_of 0 cs)
cut_of cs = cut_within (length cs) cs (omega arith)

module _ (cs : List ℕ) (ts : List Token) where
  by_none : (ps : List Part) (rest : List ℕ) (o : Option Fault) → IsLaidOut cs ps rest
      → MatchOption o (rest ≡ []) (λ f. front_of rest ≡ Bad f) → answer ps o ≡ spelled ts → IsLayout cs ts
  by_none ps rest None laid ends e =
      let P : List ℕ → Type 0 = λ l. IsLaidOut cs ps l in
      record { parts = ps; laid_out = subst P ends laid; tokens = cc }
  by_none ps rest (Some f) laid ends e = cc

  pub layout : lexed (parts_of 0 cs) ≡ spelled ts → IsLayout cs ts
  layout e = let k = cut_of cs in by_none (parts_of 0 cs).parts k.rest (parts_of 0 cs).fault k.laid_out k.ends e

behind : (cs : List ℕ) (ps : List Part) (rest : List ℕ) (o : Option Fault) (f : LexFault) → IsLaidOut cs ps rest
    → MatchOption o (rest ≡ []) (λ g. front_of rest ≡ Bad g) → answer ps o ≡ refused f → IsFaultBehind cs f
behind cs ps rest None f laid ends e = cc
behind cs ps rest (Some g) f laid ends e =
    record { parts = ps; rest = rest; kind = g; laid_out = laid; bad = ends; named = cc }

pub behind_parts : (cs : List ℕ) (f : LexFault) → lexed (parts_of 0 cs) ≡ refused f → IsFaultBehind cs f
behind_parts cs f e = let k = cut_of cs in
    behind cs (parts_of 0 cs).parts k.rest (parts_of 0 cs).fault f k.laid_out k.ends e

-- A fault stands behind parts, before a rest that isn't empty.
pub record IsFaultBefore (cs : List ℕ) (fault : LexFault) : Type 0 where
  pub parts : List Part
  pub rest : List ℕ
  pub kind : Fault
  pub whole : written parts ++ rest ≡ cs
  pub some : 1 ≤ length rest
  pub named : fault ≡ fault_at kind (width (written parts))

before : (cs : List ℕ) (ps : List Part) (rest : List ℕ) (o : Option Fault) (f : LexFault) → IsLaidOut cs ps rest
    → MatchOption o (Unit {0}) (λ g. 1 ≤ length rest) → answer ps o ≡ refused f → IsFaultBefore cs f
before cs ps rest None f laid some e = cc
before cs ps rest (Some g) f laid some e =
    record { parts = ps; rest = rest; kind = g; whole = laid.whole; some = some; named = cc }

pub before_rest : (cs : List ℕ) (f : LexFault) → lexed (parts_of 0 cs) ≡ refused f → IsFaultBefore cs f
before_rest cs f e = let k = cut_of cs in
    before cs (parts_of 0 cs).parts k.rest (parts_of 0 cs).fault f k.laid_out k.some e
