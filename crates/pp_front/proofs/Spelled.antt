-- Sources that spell units, one more at a time.
use Rattle.std.proofs.Common.{◌≡◌, ◌<◌, ◌≤◌, ◌+◌, ℕ, zero, suc, List, [], ◌∷◌, ◌++◌, map, take, drop, length, get_or}
use Rattle.std.proofs.Common.{All, sym, ap, ◌∙◌, refl, subst, arith}
use Rattle.std.proofs.lemmas.List.{length-map, map-append, take_more}
use Rattle.std.specs.Prelude.{Vec}
use Rattle.pp_front.specs.Programs.{IsShort, SpellUnits, SpellsNext, bytes_of, no_sources, one_source}
use Rattle.pp_front.specs.Refuses.{SpellsNone}
use Rattle.pp_ordinary.specs.Laws.{AreShort}
use Rattle.pp_ordinary.specs.Spelled.{EachSpells, more_texts, no_texts}
use Rattle.pp_source.specs.Refuses as refusing
use Rattle.pp_source.specs.Units.{IsUnitOf}
use Rattle.pp_text.specs.Limits.{most_bytes}
use Rattle.pp_tree.specs.Plain.{UnitTree}

spell_push : {xs : List (List ℕ)} {us : List UnitTree} {bytes : List ℕ} {unit : UnitTree} → SpellUnits xs us
    → IsUnitOf bytes unit → SpellUnits (xs ++ bytes ∷ []) (us ++ unit ∷ [])
spell_push no_sources one = one_source one no_sources
spell_push (one_source first rest) one = one_source first (spell_push rest one)

-- what the units of sources are asked to be
pub each_spells : {xs : List (List ℕ)} {us : List UnitTree} → SpellUnits xs us → EachSpells xs us
each_spells no_sources = no_texts
each_spells (one_source one rest) =
    more_texts (record { utf8 = one.utf8; tokens = one.tokens; cut = one.cut; spells = one.spells }) (each_spells rest)

-- the sources with the next one
pub read_more : {Z : Type 0} (sources : List (Vec ℕ Z)) (i : ℕ) (source : Vec ℕ Z) (bytes : List ℕ)
    {texts more : List (List ℕ)}
    {units after : List UnitTree} → i < length sources → bytes ≡ (get_or sources i source).items
    → texts ≡ map bytes_of (take i sources) → SpellUnits (map bytes_of (take i sources)) units
    → more ≡ texts ++ bytes ∷ [] → SpellsNext bytes units after
    → (more ≡ map bytes_of (take (i + 1) sources)) × SpellUnits (map bytes_of (take (i + 1) sources)) after
read_more sources i source bytes {texts} {more} {units} {after} lt is was spelled grew next =
    let here = get_or sources i source in
    let taken : map bytes_of (take (i + 1) sources) ≡ map bytes_of (take i sources) ++ bytes ∷ [] =
    ap (map bytes_of) (take_more sources i source lt) ∙ map-append bytes_of (take i sources) (here ∷ [])
    ∙ ap (λ b. map bytes_of (take i sources) ++ b ∷ []) (sym is) in (
      grew ∙ ap (λ l. l ++ bytes ∷ []) was ∙ sym taken,
      subst (λ l. SpellUnits l after) (sym taken) (subst (SpellUnits (map bytes_of (take i sources) ++ bytes ∷ []))
          (sym next.added)
          (spell_push spelled next.spelled)),
    )

split_at : {Z : Type 0} (sources : List (Vec ℕ Z)) (i : ℕ) (source : Vec ℕ Z) → i < length sources
    → map bytes_of sources ≡ map bytes_of (take i sources) ++ (get_or sources i source).items ∷ map bytes_of
    (drop (i + 1) sources)
split_at [] i source lt = absurd (omega (arith, lt))
split_at (s ∷ sources) zero source lt = refl
split_at (s ∷ sources) (suc i) source lt =
    let next : suc i + 1 ≡ suc (i + 1) = omega arith in
    ap (λ l. s.items ∷ l) (split_at sources i source (omega arith))
    ∙ ap (λ k. s.items ∷ map bytes_of (take i sources) ++ (get_or sources i source).items ∷ map bytes_of
    (drop k (s ∷ sources))) (sym next)

-- the next source spells none
pub refused_next : {Z : Type 0} (sources : List (Vec ℕ Z)) (i : ℕ) (source : Vec ℕ Z) (bytes line : List ℕ)
    (texts : List (List ℕ))
    {units : List UnitTree} → i < length sources → bytes ≡ (get_or sources i source).items
    → texts ≡ map bytes_of (take i sources) → SpellUnits (map bytes_of (take i sources)) units
    → refusing.Refuses (length texts + 1) bytes line → SpellsNone (map bytes_of sources) line
refused_next sources i source bytes line texts {units} lt is was spelled refused = record {
  before = map bytes_of (take i sources);
  bytes = bytes;
  after = map bytes_of (drop (i + 1) sources);
  split = split_at sources i source lt ∙ ap (λ b. map bytes_of (take i sources) ++ b ∷ map bytes_of
      (drop (i + 1) sources)) (sym is);
  units = units;
  spelled = spelled;
  refused = subst (λ l. refusing.Refuses (length l + 1) bytes line) was refused;
}

-- there are as many units as sources
pub as_many : {xs : List (List ℕ)} {us : List UnitTree} → SpellUnits xs us → length us ≡ length xs
as_many no_sources = refl
as_many (one_source one rest) = ap suc (as_many rest)

pub are_short : {Z : Type 0} (sources : List (Vec ℕ Z)) → length sources ≤ 16 → All IsShort sources
    → AreShort (map bytes_of sources)
are_short sources few short = record {
  few = (let same = length-map sources bytes_of in omega arith);
  short = each sources short;
}
  where
    each : {Z : Type 0} (sources : List (Vec ℕ Z)) → All IsShort sources → (k : ℕ) (d : List ℕ)
        → k < length (map bytes_of sources)
        → length (get_or (map bytes_of sources) k d) ≤ most_bytes
    each [] h k d lt = absurd (omega (arith, lt))
    each (s ∷ sources) h zero d lt = h 0 s (omega arith)
    each (s ∷ sources) h (suc k) d lt = each sources (λ i e less. h (suc i) e (omega arith)) k d (omega arith)
