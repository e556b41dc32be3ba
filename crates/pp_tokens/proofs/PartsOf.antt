-- One part after another.
use Rattle.std.proofs.Common.{ℕ, zero, suc, ◌≡◌, ◌+◌, ◌-◌, ◌<◌, ◌≤◌, List, [], ◌∷◌, ◌++◌, append_assoc, take, drop}
use Rattle.std.proofs.Common.{length, refl, sym, ap, ◌∙◌, subst, arith, Option, Some}
use Rattle.std.specs.Char.{len_utf8}
use Rattle.std.proofs.lemmas.List.Sums.{sum_by-append, sum_by-take-drop}
use Rattle.pp_tokens.specs.declared.token.Token.{Token}
use Rattle.pp_tokens.specs.declared.token.TokenKind.{TokenKind}
use Rattle.pp_tokens.specs.declared.front.Fault.{Fault}
use Rattle.pp_tokens.specs.declared.front.Front.{Front}
use Rattle.pp_tokens.specs.declared.front.Front.TheVariants.{Takes, Bad}
use Rattle.pp_tokens.specs.Characters.{width}
use Rattle.pp_tokens.specs.Front.{front_of}
use Rattle.pp_tokens.specs.Cutting.{Part, Parts, follow, parts_of, written, placed, laid}
use Rattle.pp_tokens.proofs.Right.{IsRight, Takes_part}
use Rattle.pp_tokens.proofs.RightFront.{front_right}

abbrev pub part : Option TokenKind → List ℕ → Part
part kind text = record { kind = kind; text = text }

-- parts behind one
abbrev pub behind : Part → Parts → Parts
behind p k = record { parts = p ∷ k.parts; fault = k.fault }

-- characters that belong to the part before are passed over
skipped : (n : ℕ) (cs : List ℕ) → n ≤ length cs → parts_of n cs ≡ parts_of 0 (drop n cs)
skipped zero cs le = refl
skipped (suc n) [] le = absurd (omega arith)
skipped (suc n) (c ∷ cs) le = skipped n cs (omega arith)

past : (kind : Option TokenKind) (n c : ℕ) (cs : List ℕ) → 1 ≤ n → n ≤ length (c ∷ cs)
    → follow (c ∷ cs) (Takes kind n) (λ (k : ℕ). parts_of k cs) ≡ behind (part kind (take n (c ∷ cs)))
    (parts_of 0 (drop n (c ∷ cs)))
past kind zero c cs some le = absurd (omega arith)
past kind (suc n) c cs some le =
    ap (λ (k : ℕ). behind (part kind (take (suc n) (c ∷ cs))) (parts_of k cs))
    (let e : suc n - 1 ≡ n = omega arith in e)
    ∙ ap (behind (part kind (take (suc n) (c ∷ cs)))) (skipped n cs (omega arith))

pub taken : (cs : List ℕ) (kind : Option TokenKind) (n : ℕ) → front_of cs ≡ Takes kind n → Takes_part kind n cs
taken cs kind n e = let P : Front → Type 0 = λ f. IsRight f cs in subst P e (front_right cs)

pub part_first : (cs : List ℕ) (kind : Option TokenKind) (n : ℕ) → front_of cs ≡ Takes kind n
    → parts_of 0 cs ≡ behind (part kind (take n cs)) (parts_of 0 (drop n cs))
part_first [] kind n e = cc
part_first (c ∷ cs) kind n e =
    let t = taken (c ∷ cs) kind n e in
    ap (λ (f : Front). follow (c ∷ cs) f (λ (k : ℕ). parts_of k cs)) e ∙ past kind n c cs t.some t.within

pub fault_first : (cs : List ℕ) (f : Fault) → 0 < length cs → front_of cs ≡ Bad f
    → parts_of 0 cs ≡ record { parts = []; fault = Some f }
fault_first [] f lt e = absurd (omega arith)
fault_first (c ∷ cs) f lt e = ap (λ (g : Front). follow (c ∷ cs) g (λ (k : ℕ). parts_of k cs)) e

-- what a loop has found before the rest
pub record IsSoFar (cs rest : List ℕ) (at : ℕ) (out : List Token) : Type 0 where
  pub tokens : out ++ laid at (parts_of 0 rest).parts ≡ laid 0 (parts_of 0 cs).parts
  pub offset : at + width (written (parts_of 0 rest).parts) ≡ width (written (parts_of 0 cs).parts)
  pub fault : (parts_of 0 rest).fault ≡ (parts_of 0 cs).fault
  pub bytes : at + width rest ≡ width cs

module _ (cs rest : List ℕ) (at : ℕ) (out : List Token) (so_far : IsSoFar cs rest at out) where
  one_part : (kind : Option TokenKind) (n : ℕ) → front_of rest ≡ Takes kind n
      → IsSoFar cs (drop n rest) (at + width (take n rest)) (out ++ placed kind at (at + width (take n rest)))
  one_part kind n e =
      let first = part_first rest kind n e in
      let w = width (take n rest) in
      let more = parts_of 0 (drop n rest) in
      record {
        tokens = append_assoc out (placed kind at (at + w)) (laid (at + w) more.parts)
            ∙ ap (λ (k : Parts). out ++ laid at k.parts) (sym first) ∙ so_far.tokens;
        offset =
            let s = sum_by-append len_utf8 (take n rest) (written more.parts) in
            let o = ap (λ (k : Parts). width (written k.parts)) first in
            omega (arith, s, o, so_far.offset);
        fault = ap (λ (k : Parts). k.fault) (sym first) ∙ so_far.fault;
        bytes = omega (arith, sum_by-take-drop len_utf8 rest n, so_far.bytes);
      }

  pub next_part : (kind : Option TokenKind) (n w : ℕ) (text more : List ℕ) (put : List Token)
      → front_of rest ≡ Takes kind n → text ≡ take n rest → more ≡ drop n rest → w ≡ width text
      → put ≡ out ++ placed kind at (at + w) → IsSoFar cs more (at + w) put
  next_part kind n w text more put e text_is more_is w_is put_is =
      let P : List ℕ → Type 0 =
      λ l. IsSoFar cs l (at + width (take n rest)) (out ++ placed kind at (at + width (take n rest))) in
      let Q : ℕ → Type 0 = λ k. IsSoFar cs more (at + k) (out ++ placed kind at (at + k)) in
      let R : List Token → Type 0 = λ l. IsSoFar cs more (at + w) l in
      subst R (sym put_is) (subst Q (sym (w_is ∙ ap width text_is)) (subst P (sym more_is) (one_part kind n e)))
