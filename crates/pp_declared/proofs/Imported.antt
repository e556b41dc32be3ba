-- Imports, and the names of objects.
use Rattle.std.proofs.Common.{◌≡◌, ◌∙◌, ℕ, ◌+◌, ◌<◌, length, drop, drop-cons, get_or, map, add-one, Bool, true, false}
use Rattle.std.proofs.Common.{◌||◌, List, [], ◌∷◌, ◌++◌, refl, sym, ap, if◌then◌else◌}
use Rattle.std.proofs.lemmas.List.Folds.{list_any-append}
use Rattle.std.proofs.lemmas.Slice.Eq.{bytes_eq-Decides}
use Rattle.std.specs.Borrow.{Bor}
use Rattle.std.specs.Str.{bytes_eq}
use Rattle.pp_declared.specs.Declare.{imports_checked}
use Rattle.pp_declared.specs.Listed.{ImportIn, import_in, imports_from}
use Rattle.pp_declared.specs.Shown.{SameNames, units_of}
use Rattle.pp_fault.specs.Part.{Part, and_then, fault}
use Rattle.pp_fault.specs.declared.Rule.TheVariants.{Unknown}
use Rattle.pp_names.specs.Places.{Word, has, with_name}
use Rattle.pp_sorts.specs.Words.{words_of}
use Rattle.pp_tree.specs.Shown.{import_of}
use Rattle.pp_tree.specs.declared.unit.Unit as unit_type

-- imports are checked alike against lists that have the same names
pub imports_same : (vs ws : List Word) (is : List ImportIn) → SameNames vs ws
    → imports_checked vs is ≡ imports_checked ws is
imports_same vs ws [] same = refl
imports_same vs ws (i ∷ is) same =
    ap (λ (b : Bool). if b then imports_checked vs is else fault Unknown i.path.name i.source i.path.at)
    (same i.path.name)
    ∙ ap (λ (p : Part (Unit {0})). if has i.path.name ws then p else fault Unknown i.path.name i.source i.path.at)
    (imports_same vs ws is same)

pub imports_append : (ws : List Word) (is js : List ImportIn)
    → imports_checked ws (is ++ js) ≡ and_then (imports_checked ws is) (λ done. imports_checked ws js)
imports_append ws [] js = refl
imports_append ws (i ∷ is) js = by (has i.path.name ws) (imports_append ws is js)
  where
    by : (b : Bool) → imports_checked ws (is ++ js) ≡ and_then (imports_checked ws is) (λ done. imports_checked ws js)
        → (if b then imports_checked ws (is ++ js) else fault Unknown i.path.name i.source i.path.at)
        ≡ and_then (if b then imports_checked ws is else fault Unknown i.path.name i.source i.path.at)
        (λ done. imports_checked ws js)
    by true e = e
    by false e = refl

-- the first unit that is left, and the units after it
pub imports_step : (ws : List Word) (us : List unit_type.Unit) (i : ℕ) (u : unit_type.Unit) → i < length us
    → imports_checked ws (imports_from (i + 1) (units_of (drop i us)))
    ≡ and_then (imports_checked ws (map (import_in (i + 1)) (map import_of (get_or us i u).imports.now)))
    (λ done. imports_checked ws (imports_from (i + 1 + 1) (units_of (drop (i + 1) us))))
imports_step ws us i u lt =
    ap (λ l. imports_checked ws (imports_from (i + 1) (units_of l))) (drop-cons us i u lt
    ∙ ap (λ k. get_or us i u ∷ drop k us) (sym (add-one i)))
    ∙ imports_append ws (map (import_in (i + 1)) (map import_of (get_or us i u).imports.now)) (imports_from
    (i + 1 + 1) (units_of (drop (i + 1) us)))

by_had : (w x : Word) (vs : List Word) (b : Bool) → has x vs ≡ b
    → has w (if b then vs else vs ++ x ∷ []) ≡ (has w vs || (bytes_eq w x || false))
by_had w x vs false e = list_any-append (bytes_eq w) vs (x ∷ [])
by_had w x vs true e = by (bytes_eq w x) (has w vs) (λ same. ap (λ v. has v vs) ((bytes_eq-Decides w x).0 same) ∙ e)
  where
    by : (c d : Bool) → (c ≡ true → d ≡ true) → d ≡ (d || (c || false))
    by true d h = h refl ∙ ap (λ b. b || true) (sym (h refl))
    by false true h = refl
    by false false h = refl

-- a name that was added, or was there before, is one of the names
pub names_step : (vs : List Word) (x : Word) (rest : List Word) → SameNames (with_name vs x ++ rest) (vs ++ x ∷ rest)
names_step vs x rest w =
    list_any-append (bytes_eq w) (with_name vs x) rest ∙ ap (λ b. b || has w rest) (by_had w x vs (has x vs) refl)
    ∙ both (has w vs) (bytes_eq w x) (has w rest) ∙ sym (list_any-append (bytes_eq w) vs (x ∷ rest))
  where
    both : (a b c : Bool) → ((a || (b || false)) || c) ≡ (a || (b || c))
    both true b c = refl
    both false true c = refl
    both false false c = refl

pub names_turn : (vs after : List Word) (xs : List (Bor (List ℕ))) (i : ℕ) (x : Bor (List ℕ)) (all : List Word)
    → i < length xs → after ≡ with_name vs (get_or xs i x).now
    → SameNames (vs ++ words_of (drop i xs)) all → SameNames (after ++ words_of (drop (i + 1) xs)) all
names_turn vs after xs i x all lt adds before w =
    ap (λ l. has w (l ++ words_of (drop (i + 1) xs))) adds
    ∙ names_step vs (get_or xs i x).now (words_of (drop (i + 1) xs)) w
    ∙ ap (λ l. has w (vs ++ words_of l)) (sym (drop-cons xs i x lt
    ∙ ap (λ k. get_or xs i x ∷ drop k xs) (sym (add-one i)))) ∙ before w
