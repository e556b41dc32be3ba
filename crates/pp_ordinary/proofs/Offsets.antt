-- The offsets of units that texts spell stand in them, and the units are small.
use Rattle.std.proofs.Common.{◌≡◌, ◌+◌, ◌-◌, ◌*◌, ◌^◌, ◌<◌, ◌≤◌, ◌⊎◌, inl, inr, ℕ, suc, List, [], ◌∷◌, All, Some}
use Rattle.std.proofs.Common.{arith, length, refl, slice_get, subst}
use Rattle.std.specs.Str.{IsCharBoundary}
use Rattle.pp_declared.proofs.Steps.{all_first, all_rest}
use Rattle.pp_grammar_laws.proofs.Sized.{OffsetsOf}
use Rattle.pp_grammar_laws.proofs.Sizes.{UnitSize, unit_size}
use Rattle.pp_text.specs.Limits.{most_bytes}
use Rattle.pp_tokens.specs.Spans.{IsSpan}
use Rattle.pp_tokens.specs.declared.token.Token.{Token}
use Rattle.pp_tokens.proofs.Counts.{few_tokens}
use Rattle.pp_tokens.proofs.TokensOf.{are_spans, is_layout}
use Rattle.pp_tree.specs.Count.{unit_nodes}
use Rattle.pp_tree.specs.Plain.{UnitTree}
use Rattle.pp_typed.specs.Stand.{Stands}
use Rattle.pp_types_laws.specs.Offsets.{OffsetsFrom, UnitsHave}
use Rattle.pp_types_laws.specs.Sizes.{HaveFewCases, nodes_of_units}
use Rattle.pp_ordinary.specs.Spelled.{EachSpells, Spells, more_texts, no_texts}

-- what holds of each offset where a character begins holds of those of tokens
of_spans : (n : ℕ) (P : ℕ → Type 0) (text : List ℕ) → ((at : ℕ) → IsCharBoundary text at → P at) → (ts : List Token)
    → All (IsSpan text) ts → OffsetsOf n P ts
of_spans n P text holds [] h = tt
of_spans n P text holds (t ∷ ts) h = (
  holds t.from (all_first (IsSpan text) t ts h).from_boundary,
  of_spans n P text holds ts (all_rest (IsSpan text) t ts h),
)

-- the size of a unit, and what holds of its offsets
size : (n : ℕ) (P : ℕ → Type 0) (text : List ℕ) (u : UnitTree) (s : Spells text u) → length text ≤ n
    → ((at : ℕ) → IsCharBoundary text at → P at) → UnitSize text n P s.tokens u
size n P text u s within holds =
    let few = few_tokens text s.tokens s.utf8 (is_layout text s.tokens s.cut) in
    unit_size text n P s.spells (record {
      few = omega (arith, few);
      offsets = of_spans n P text holds s.tokens (are_spans text s.tokens s.cut s.utf8);
    })

-- ---- offsets

module _ (all : List (List ℕ)) where
  -- the texts are those of the sources from this number on
  abbrev AreFrom : ℕ → List (List ℕ) → Type 0
  AreFrom m texts = (k : ℕ) (text : List ℕ) → slice_get texts k ≡ Some text → slice_get all (m + k) ≡ Some text

  stands_at : (m : ℕ) (text : List ℕ) → slice_get all (m + 0) ≡ Some text → (at : ℕ) → IsCharBoundary text at
      → Stands all (m + 1, at)
  stands_at m text there at boundary =
      let place : m + 0 ≡ m + 1 - 1 = omega arith in
      record {
        text = text;
        numbered = omega arith;
        of_source = subst (λ (i : ℕ). slice_get all i ≡ Some text) place there;
        boundary = boundary;
      }

  from_next : (m : ℕ) (text : List ℕ) (texts : List (List ℕ)) → AreFrom m (text ∷ texts) → AreFrom (m + 1) texts
  from_next m text texts h k t there =
      let place : m + suc k ≡ m + 1 + k = omega arith in
      subst (λ (i : ℕ). slice_get all i ≡ Some t) place (h (suc k) t there)

  stand_from : {texts : List (List ℕ)} {units : List UnitTree} (m : ℕ) → AreFrom m texts → EachSpells texts units
      → OffsetsFrom (Stands all) (m + 1) units
  stand_from m are no_texts = tt
  stand_from m are (more_texts {text = text} {texts = texts} {unit = u} s rest) = (
    (size (length text) (λ at. Stands all (m + 1, at)) text u s (omega arith)
        (stands_at m text (are 0 text refl))).offsets,
    stand_from (m + 1) (from_next m text texts are) rest,
  )

pub offsets_stand : (texts : List (List ℕ)) (units : List UnitTree) → EachSpells texts units
    → UnitsHave (Stands texts) units
offsets_stand texts units spells = stand_from texts 0 itself spells
  where
    itself : (k : ℕ) (text : List ℕ) → slice_get texts k ≡ Some text → slice_get texts (0 + k) ≡ Some text
    itself k text there =
        let place : k ≡ 0 + k = omega arith in subst (λ (i : ℕ). slice_get texts i ≡ Some text) place there

-- ---- sizes

abbrev IsShort : List ℕ → Type 0
IsShort text = length text ≤ most_bytes

-- nothing is asked of offsets
abbrev AnyOffset : ℕ → Type 0
AnyOffset at = Unit {0}

size_of : (text : List ℕ) (u : UnitTree) (s : Spells text u) → IsShort text
    → UnitSize text most_bytes AnyOffset s.tokens u
size_of text u s short = size most_bytes AnyOffset text u s short (λ at boundary. tt)

fewer : (k l : ℕ) → l ≤ 262145 → (k ≡ 0) ⊎ (k + 1 < l) → k ≤ 262143
fewer k l le (inl is) = omega arith
fewer k l le (inr lt) = omega arith

few_nodes : (text : List ℕ) (u : UnitTree) → Spells text u → IsShort text → unit_nodes u ≤ 262143
few_nodes text u s short =
    let few = few_tokens text s.tokens s.utf8 (is_layout text s.tokens s.cut) in
    fewer (unit_nodes u) (length s.tokens) (omega (arith, few, short)) (size_of text u s short).fewer

nodes_together : {texts : List (List ℕ)} {units : List UnitTree} → EachSpells texts units → All IsShort texts
    → nodes_of_units units ≤ 262143 * length texts
nodes_together no_texts short = omega arith
nodes_together (more_texts {text = text} {texts = texts} {unit = u} s rest) short =
    omega (
      arith,
      few_nodes text u s (all_first IsShort text texts short),
      nodes_together rest (all_rest IsShort text texts short),
    )

pub nodes_few : (texts : List (List ℕ)) (units : List UnitTree) → length texts ≤ 16 → All IsShort texts
    → EachSpells texts units → nodes_of_units units < 2 ^ 22
nodes_few texts units few short spells = omega (arith, nodes_together spells short)

pub cases_few : (texts : List (List ℕ)) (units : List UnitTree) → All IsShort texts → EachSpells texts units
    → HaveFewCases most_bytes units
cases_few texts units short spells = by spells short
  where
    by : {ts : List (List ℕ)} {us : List UnitTree} → EachSpells ts us → All IsShort ts → HaveFewCases most_bytes us
    by no_texts h = tt
    by (more_texts {text = text} {texts = ts} {unit = u} s rest) h =
        ((size_of text u s (all_first IsShort text ts h)).cases, by rest (all_rest IsShort text ts h))
