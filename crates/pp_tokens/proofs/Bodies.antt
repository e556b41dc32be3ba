-- A block comment that has an end is one: its length counts the rest of each comment that is open.
use Rattle.std.proofs.Common.{ℕ, zero, suc, ◌≡◌, ◌+◌, ◌-◌, ◌≤◌, ◌⊎◌, inl, inr, List, [], ◌∷◌, drop, length, refl, sym}
use Rattle.std.proofs.Common.{ap, ◌∙◌, subst, arith, Bool, true, false, cond, Option, Some, None}
use Rattle.std.specs.Prelude.{◌==◌}
use Rattle.std.proofs.lemmas.Bool.Decides.{nat_tests}
use Rattle.pp_tokens.specs.Characters.{opens_block, closes_block}
use Rattle.pp_tokens.specs.Comments.{block_len, more_by}
use Rattle.pp_tokens.specs.Layout.{IsBody, closing, nested, other}
use Rattle.pp_tokens.proofs.Booleans.{two_first, same_number}

-- the rests of so many comments, one after another
abbrev pub Nest : ℕ → List ℕ → List ℕ → Type 0
Nest zero ts us = ts ≡ us
Nest (suc d) ts us = (vs : List ℕ) × IsBody ts vs × Nest d vs us

-- without the second character of a mark, where it is passed over
abbrev skipped : Bool → List ℕ → List ℕ
skipped false cs = cs
skipped true [] = []
skipped true (c ∷ cs) = cs

more_some : (o : Option ℕ) (n : ℕ) → more_by 1 o ≡ Some n → (m : ℕ) × (o ≡ Some m) × (n ≡ suc m)
more_some None n h = cc
more_some (Some m) n h = let e : 1 + m ≡ n = cc in (m, refl, omega arith)

split_cond : (b : Bool) (x y : Option ℕ) (n : ℕ) → cond b x y ≡ Some n → ((b ≡ true) × (x ≡ Some n))
    ⊎ ((b ≡ false) × (y ≡ Some n))
split_cond true x y n h = inl (refl, h)
split_cond false x y n h = inr (refl, h)

abbrev IsNest : ℕ → Bool → List ℕ → ℕ → Type 0
IsNest d p cs n = Nest d (skipped p cs) (drop n cs) × (n ≤ length cs)

moved : (c : ℕ) (cs ts : List ℕ) (d n m : ℕ) → n ≡ suc m → Nest d ts (drop m cs) → m ≤ length cs
    → Nest d ts (drop n (c ∷ cs)) × (n ≤ length (c ∷ cs))
moved c cs ts d n m e h le = let P : ℕ → Type 0 = λ k. Nest d ts (drop k (c ∷ cs)) in (subst P (sym e) h, omega arith)

-- after `/*`
opened : (d c n : ℕ) (cs : List ℕ) → opens_block c cs ≡ true
    → ((m : ℕ) → block_len (suc d + 1) true cs ≡ Some m → IsNest (suc d + 1) true cs m)
    → more_by 1 (block_len (suc d + 1) true cs) ≡ Some n → IsNest (suc d) false (c ∷ cs) n
opened d c n cs h ih e =
    let m = more_some (block_len (suc d + 1) true cs) n e in
    let s = two_first 47 42 c cs h in
    let tail : cs ≡ 42 ∷ s.0 = cc in
    let i = ih m.0 m.1 in
    let P : ℕ → Type 0 = λ k. Nest k (skipped true cs) (drop m.0 cs) in
    let two : suc d + 1 ≡ suc (suc d) = omega arith in
    let Q : List ℕ → Type 0 = λ l. Nest (suc (suc d)) (skipped true l) (drop m.0 cs) in
    let g = subst Q tail (subst P two i.0) in
    let R : List ℕ → Type 0 = λ l. IsBody l g.2.0 in
    moved c cs (c ∷ cs) (suc d) n m.0 m.2 (g.2.0, subst R (sym s.1) (nested s.0 g.0 g.2.0 g.1 g.2.1), g.2.2) i.1

-- after the outermost `*/`
closed_last : (d c n : ℕ) (cs : List ℕ) → closes_block c cs ≡ true → (suc d == 1) ≡ true → Some 2 ≡ Some n
    → IsNest (suc d) false (c ∷ cs) n
closed_last (suc d) c n cs h one e = let f = same_number (suc (suc d)) 1 one in absurd (omega arith)
closed_last zero c n cs h one e =
    let s = two_first 42 47 c cs h in
    let two : 2 ≡ n = cc in
    let R : List ℕ → Type 0 = λ l. IsBody l s.0 in
    let len = ap length s.1 in
    ((s.0, subst R (sym s.1) (closing s.0), ap (drop 2) (sym s.1) ∙ ap (λ (k : ℕ). drop k (c ∷ cs)) two), omega arith)

-- after another `*/`
closed : (d c n : ℕ) (cs : List ℕ) → closes_block c cs ≡ true
    → ((m : ℕ) → block_len (suc d - 1) true cs ≡ Some m → IsNest (suc d - 1) true cs m)
    → more_by 1 (block_len (suc d - 1) true cs) ≡ Some n → IsNest (suc d) false (c ∷ cs) n
closed d c n cs h ih e =
    let m = more_some (block_len (suc d - 1) true cs) n e in
    let s = two_first 42 47 c cs h in
    let tail : cs ≡ 47 ∷ s.0 = cc in
    let i = ih m.0 m.1 in
    let P : ℕ → Type 0 = λ k. Nest k (skipped true cs) (drop m.0 cs) in
    let less : suc d - 1 ≡ d = omega arith in
    let Q : List ℕ → Type 0 = λ l. Nest d (skipped true l) (drop m.0 cs) in
    let R : List ℕ → Type 0 = λ l. IsBody l s.0 in
    moved c cs (c ∷ cs) (suc d) n m.0 m.2 (s.0, subst R (sym s.1) (closing s.0), subst Q tail (subst P less i.0)) i.1

-- after another character
plain : (d c n : ℕ) (cs : List ℕ) → opens_block c cs ≡ false → closes_block c cs ≡ false
    → ((m : ℕ) → block_len (suc d) false cs ≡ Some m → IsNest (suc d) false cs m)
    → more_by 1 (block_len (suc d) false cs) ≡ Some n → IsNest (suc d) false (c ∷ cs) n
plain d c n cs g h ih e =
    let m = more_some (block_len (suc d) false cs) n e in
    let i = ih m.0 m.1 in
    moved c cs (c ∷ cs) (suc d) n m.0 m.2 (i.0.0, other c cs i.0.0 g h i.0.1, i.0.2) i.1

pub nests : (cs : List ℕ) (d : ℕ) (p : Bool) (n : ℕ) → 1 ≤ d → block_len d p cs ≡ Some n → IsNest d p cs n
nests [] d true n some h = cc
nests [] d false n some h = cc
nests (c ∷ cs) zero p n some h = absurd (omega arith)
nests (c ∷ cs) (suc d) true n some h =
    let m = more_some (block_len (suc d) false cs) n h in
    let i = nests cs (suc d) false m.0 some m.1 in
    moved c cs cs (suc d) n m.0 m.2 i.0 i.1
nests (c ∷ cs) (suc d) false n some h =
    let opening = split_cond (opens_block c cs) _ _ n h in
    elim opening [
      | inl a ↦ opened d c n cs a.0 (λ m e. nests cs (suc d + 1) true m (omega arith) e) a.1
      | inr b ↦ (
          let ending = split_cond (closes_block c cs) _ _ n b.1 in
          elim ending [
            | inl k ↦ (
                let last = split_cond (suc d == 1) _ _ n k.1 in
                elim last [
                  | inl l ↦ closed_last d c n cs k.0 l.0 l.1
                  | inr l ↦ closed d c n cs k.0
                      (λ m e. nests cs (suc d - 1) true m
                      (let ne : (suc d ≡ 1) → ⊥ = λ q. let t : (suc d == 1) ≡ true = grind (arith, nat_tests) in cc in
                      omega arith) e) l.1
                ])
            | inr k ↦ plain d c n cs b.0 k.0 (λ m e. nests cs (suc d) false m some e) k.1
          ])
    ]
