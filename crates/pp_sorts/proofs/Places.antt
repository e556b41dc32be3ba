-- The search for a name among texts.
use Rattle.std.proofs.Common.{◌≡◌, ◌∙◌, ℕ, ◌+◌, ◌<◌, ◌≤◌, Bool, true, false, List, ◌∷◌, length, Some, None, sym, ap}
use Rattle.std.proofs.Common.{get_or, drop, drop-cons, add-one, if◌then◌else◌}
use Rattle.std.proofs.lemmas.List.{drop_all}
use Rattle.std.proofs.lemmas.Iterator.Adapters.{position_from-zero}
use Rattle.std.specs.Borrow.{Bor}
use Rattle.std.specs.List.{position_from}
use Rattle.std.specs.Str.{bytes_eq}
use Rattle.pp_names.specs.Places.{Word, place_of}
use Rattle.pp_sorts.specs.Words.{words_of}

abbrev Text : Type 0
Text = Bor (List ℕ)

-- none of the first i texts is the name
abbrev pub NoneBefore : Word → List Text → ℕ → Type 0
NoneBefore w ts i = position_from (bytes_eq w) 0 (words_of ts) ≡ position_from (bytes_eq w) i (words_of (drop i ts))

rest : (ts : List Text) (i : ℕ) (d : Text) → i < length ts
    → words_of (drop i ts) ≡ (get_or ts i d).now ∷ words_of (drop (i + 1) ts)
rest ts i d lt = ap words_of (drop-cons ts i d lt)
    ∙ ap (λ k. (get_or ts i d).now ∷ words_of (drop k ts)) (sym (add-one i))

step : (w : Word) (ts : List Text) (i : ℕ) (d : Text) (b : Bool) → i < length ts
    → bytes_eq w (get_or ts i d).now ≡ b → NoneBefore w ts i
    → position_from (bytes_eq w) 0 (words_of ts)
    ≡ (if b then Some i else position_from (bytes_eq w) (i + 1) (words_of (drop (i + 1) ts)))
step w ts i d b lt is none =
    none ∙ ap (position_from (bytes_eq w) i) (rest ts i d lt)
    ∙ ap (λ c. if c then Some i else position_from (bytes_eq w) (i + 1) (words_of (drop (i + 1) ts))) is

pub found_place : (w : Word) (ts : List Text) (i : ℕ) (d : Text) → i < length ts
    → bytes_eq w (get_or ts i d).now ≡ true → NoneBefore w ts i → Some i ≡ place_of w (words_of ts)
found_place w ts i d lt is none = sym (position_from-zero (bytes_eq w) (words_of ts) ∙ step w ts i d true lt is none)

pub none_at : (w : Word) (ts : List Text) (i : ℕ) (d : Text) → i < length ts
    → bytes_eq w (get_or ts i d).now ≡ false → NoneBefore w ts i → NoneBefore w ts (i + 1)
none_at w ts i d lt is none = step w ts i d false lt is none

pub no_place : (w : Word) (ts : List Text) (i : ℕ) → length ts ≤ i → NoneBefore w ts i → None ≡ place_of w (words_of ts)
no_place w ts i le none =
    sym (position_from-zero (bytes_eq w) (words_of ts) ∙ none
    ∙ ap (λ l. position_from (bytes_eq w) i (words_of l)) (drop_all i ts le))
