-- The bytes of a name: those of ASCII are letters, digits and underscores.
use lib.Utf8.{encode, encodes, next}
use lib.Dec.{ltb}
use Rattle.std.proofs.Common.{◌≡◌, ◌∙◌, ◌<◌, ◌≤◌, ◌+◌, ◌/◌, ◌==◌, ◌||◌, ℕ, Bool, true, false, cond, List}
use Rattle.std.proofs.Common.{[], ◌∷◌, ◌++◌, drop, refl, subst, sym, arith, inl, inr}
use Rattle.std.specs.Char.{is_ascii_alphanumeric}
use Rattle.std.specs.List.{list_all}
use Rattle.unicode_ident.specs.Ident.{is_xid_continue, is_xid_start}
use Rattle.unicode_ident.proofs.IdentLemmas.{is_xid_continue-ascii, is_xid_start-is_xid_continue}
use Rattle.pp_tokens.specs.Characters.{goes_on_with, starts_name}
use Rattle.pp_tokens.proofs.Booleans.{and_left, and_right, one_of, same_number}
use Rattle.pp_tokens.proofs.Every.{Every}

-- a letter, a digit or an underscore, if it is one of ASCII
abbrev pub IsFree : ℕ → Type 0
IsFree b = b < 128 → (is_ascii_alphanumeric b || (b == 95)) ≡ true

-- ---- characters

continue_free : (c : ℕ) → is_xid_continue c ≡ true → IsFree c
continue_free c goes low = sym (is_xid_continue-ascii c low) ∙ goes

underscore_free : (c : ℕ) → c ≡ 95 → IsFree c
underscore_free c is low = subst (λ x. (is_ascii_alphanumeric x || (x == 95)) ≡ true) (sym is) refl

start_free : (c : ℕ) → starts_name c ≡ true → IsFree c
start_free c starts = elim (one_of (is_xid_start c) (c == 95) starts) [
  | inl start ↦ continue_free c (is_xid_start-is_xid_continue c start)
  | inr is ↦ underscore_free c (same_number c 95 is)
]

all_continue : (cs : List ℕ) → list_all is_xid_continue cs ≡ true → Every IsFree cs
all_continue [] h = tt
all_continue (c ∷ cs) h = (
  continue_free c (and_left (is_xid_continue c) (list_all is_xid_continue cs) h),
  all_continue cs (and_right (is_xid_continue c) (list_all is_xid_continue cs) h),
)

-- the characters of a name
pub name_free : (cs : List ℕ) → goes_on_with starts_name cs ≡ true → list_all is_xid_continue (drop 1 cs) ≡ true
    → Every IsFree cs
name_free [] starts goes = tt
name_free (c ∷ cs) starts goes = (start_free c starts, all_continue cs goes)

-- ---- bytes

high_free : (b : ℕ) → 128 ≤ b → IsFree b
high_free b high low = absurd (omega arith)

next_free : (bits : ℕ) → IsFree (next bits)
next_free bits = high_free (next bits) (omega arith)

either_free : (b : Bool) (xs ys : List ℕ) → Every IsFree xs → Every IsFree ys → Every IsFree (cond b xs ys)
either_free true xs ys h k = h
either_free false xs ys h k = k

char_free : (c : ℕ) → IsFree c → Every IsFree (encode c)
unfolding encode
char_free c free =
    either_free (ltb c 128) (c ∷ []) _ (free, tt)
    (either_free (ltb c 2048) ((192 + c / 64) ∷ next c ∷ []) _
    (high_free (192 + c / 64) (omega arith), (next_free c, tt))
    (either_free (ltb c 65536) ((224 + c / 4096) ∷ next (c / 64) ∷ next c ∷ []) _
    (high_free (224 + c / 4096) (omega arith), (next_free (c / 64), (next_free c, tt)))
    (high_free (240 + c / 262144) (omega arith), (next_free (c / 4096), (next_free (c / 64), (next_free c, tt))))))

both_free : (xs ys : List ℕ) → Every IsFree xs → Every IsFree ys → Every IsFree (xs ++ ys)
both_free [] ys h k = k
both_free (x ∷ xs) ys h k = (h.0, both_free xs ys h.1 k)

pub chars_free : (cs : List ℕ) → Every IsFree cs → Every IsFree (encodes cs)
chars_free [] h = tt
chars_free (c ∷ cs) h = both_free (encode c) (encodes cs) (char_free c h.0) (chars_free cs h.1)
