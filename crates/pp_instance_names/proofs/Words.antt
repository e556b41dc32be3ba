-- A plain word ends where a mark stands, so texts that begin with plain words tell these.
use Rattle.std.proofs.Common.{◌≡◌, ◌≢◌, ◌<◌, ℕ, List, [], ◌∷◌, ◌++◌, refl, sym, ap, ◌∙◌, subst, arith}
use Rattle.std.specs.List.{AllByRecursion}
use Rattle.std.proofs.lemmas.List.Elements.{All-contains, All-from_recursion}
use Rattle.std.proofs.lemmas.List.Elements.{Contains-append_left, Contains-append_right, Contains-push}
use Rattle.pp_typed.specs.WellSorted.{IsPlain, int_name, boolean_name}

-- a comma or a closing bracket
pub data IsClose : ℕ → Type 0 where
  comma : {b : ℕ} → b ≡ 44 → IsClose b
  closing : {b : ℕ} → b ≡ 93 → IsClose b

-- what stands after a printed sort: nothing, a comma or a closing bracket
pub data IsAfterSort : List ℕ → Type 0 where
  nothing_after : IsAfterSort []
  close_after : (b : ℕ) (xs : List ℕ) → IsClose b → IsAfterSort (b ∷ xs)

-- what stands after a name: an opening bracket, or what stands after a sort
pub data IsAfterName : List ℕ → Type 0 where
  opening : (xs : List ℕ) → IsAfterName (91 ∷ xs)
  no_args : (xs : List ℕ) → IsAfterSort xs → IsAfterName xs

plain_head : (b : ℕ) (w : List ℕ) → IsPlain (b ∷ w) → (b ≢ 44) × (b ≢ 91) × (b ≢ 93)
plain_head b w plain = plain b (Contains-append_left (b ∷ []) w b (Contains-push [] b))

plain_tail : (b : ℕ) (w : List ℕ) → IsPlain (b ∷ w) → IsPlain w
plain_tail b w plain c has = plain c (Contains-append_right (b ∷ []) w c has)

no_close : (b : ℕ) → (b ≢ 44) × (b ≢ 91) × (b ≢ 93) → IsClose b → ⊥
no_close b plain (comma is) = plain.0 is
no_close b plain (closing is) = plain.2 is

-- no name goes on where one ends
ends : (x : List ℕ) (b : ℕ) (rest : List ℕ) → IsAfterName x → (b ≢ 44) × (b ≢ 91) × (b ≢ 93) → x ≡ b ∷ rest → ⊥
ends x b rest (opening xs) plain is = let same : b ≡ 91 = cc in plain.1 same
ends x b rest (no_args _ nothing_after) plain is = cc
ends x b rest (no_args _ (close_after c xs close)) plain is =
    let same : c ≡ b = cc in no_close b plain (subst IsClose same close)

pub heads : (a b : ℕ) (x y : List ℕ) → a ∷ x ≡ b ∷ y → a ≡ b
heads a b x y same = cc

pub tails : (a b : ℕ) (x y : List ℕ) → a ∷ x ≡ b ∷ y → x ≡ y
tails a b x y same = cc

-- texts that begin with plain words, and go on with what stands after a name, tell the words and the rest
pub words_read : (w v x y : List ℕ) → IsPlain w → IsPlain v → IsAfterName x → IsAfterName y → w ++ x ≡ v ++ y
    → (w ≡ v) × (x ≡ y)
words_read [] [] x y pw pv ax ay is = (refl, is)
words_read [] (b ∷ v) x y pw pv ax ay is = absurd (ends x b (v ++ y) ax (plain_head b v pv) is)
words_read (b ∷ w) [] x y pw pv ax ay is = absurd (ends y b (w ++ x) ay (plain_head b w pw) (sym is))
words_read (b ∷ w) (c ∷ v) x y pw pv ax ay is =
    let more = words_read w v x y (plain_tail b w pw) (plain_tail c v pv) ax ay (tails b c _ _ is) in
    (ap (λ z. z ∷ w) (heads b c _ _ is) ∙ ap (λ l. c ∷ l) more.0, more.1)

-- no argument begins after a sort
pub no_opening : (x rest : List ℕ) → IsAfterSort x → x ≡ 91 ∷ rest → ⊥
no_opening _ rest nothing_after is = cc
no_opening _ rest (close_after b xs (comma e)) is = let same : b ≡ 91 = cc in absurd (omega arith)
no_opening _ rest (close_after b xs (closing e)) is = let same : b ≡ 91 = cc in absurd (omega arith)

-- a letter isn't a mark
capital : (b : ℕ) → 64 < b → b < 91 → (b ≢ 44) × (b ≢ 91) × (b ≢ 93)
capital b low high = ((λ e. absurd (omega arith)), (λ e. absurd (omega arith)), (λ e. absurd (omega arith)))

small : (b : ℕ) → 96 < b → (b ≢ 44) × (b ≢ 91) × (b ≢ 93)
small b low = ((λ e. absurd (omega arith)), (λ e. absurd (omega arith)), (λ e. absurd (omega arith)))

abbrev IsFree : ℕ → Type 0
IsFree b = (b ≢ 44) × (b ≢ 91) × (b ≢ 93)

free_word : (w : List ℕ) → AllByRecursion IsFree w → IsPlain w
free_word w free b has = All-contains IsFree w b (All-from_recursion IsFree w free) has

pub int_plain : IsPlain int_name
int_plain =
    free_word int_name
    (capital 73 (omega arith) (omega arith), (small 110 (omega arith), (small 116 (omega arith), tt)))

pub boolean_plain : IsPlain boolean_name
boolean_plain =
    free_word boolean_name (
      capital 66 (omega arith) (omega arith),
      (
        small 111 (omega arith),
        (
          small 111 (omega arith),
          (
            small 108 (omega arith),
            (small 101 (omega arith), (small 97 (omega arith), (small 110 (omega arith), tt))),
          ),
        ),
      ),
    )

pub int_no_boolean : int_name ≡ boolean_name → ⊥
int_no_boolean is = absurd (omega (arith, heads 73 66 _ _ is))
