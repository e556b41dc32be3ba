-- The root of a constructor.
use Rattle.std.proofs.Common.{◌≡◌, ◌≢◌, ◌∙◌, ℕ, suc, ◌+◌, ◌<◌, Bool, true, false, ◌&&◌, List, [], ◌∷◌, Some, map}
use Rattle.std.proofs.Common.{length, refl, sym, ap, arith, slice_get, drop, drop-cons, get_or, add-one, ◌==◌, nat_eq}
use Rattle.std.proofs.Common.{◌⊎◌, inl, inr}
use Rattle.std.proofs.lemmas.Bool.Decides.{eqb_tells}
use Rattle.std.proofs.lemmas.List.{length-map}
use Rattle.std.proofs.lemmas.Option.{slice_get-map}
use Rattle.std.proofs.lemmas.List.Quantifiers.{position-Some}
use Rattle.std.specs.Borrow.{Bor}
use Rattle.std.specs.Option.{option_map}
use Rattle.std.specs.Str.{bytes_eq}
use Rattle.pp_declared.specs.Declares.{are_params, class_names, is_bare, is_param, typed_root}
use Rattle.pp_declared.specs.Listed.{ClassIn}
use Rattle.pp_declared.specs.Shown.{class_in, class_ins}
use Rattle.pp_declared.specs.declared.listed.ClassAt.{ClassAt}
use Rattle.pp_names.specs.Find.{names_of}
use Rattle.pp_names.specs.Places.{Word, place_of}
use Rattle.pp_sorts.specs.Words.{words_of}
use Rattle.pp_tree.specs.Shown.{type_of, type_trees}
use Rattle.pp_tree.specs.declared.type_text.TypeText.{TypeText}

abbrev Text : Type 0
Text = Bor (List ℕ)

pub class_at : (cs : List ClassAt) (i : ℕ) → slice_get (class_ins cs) i ≡ option_map class_in (slice_get cs i)
class_at cs i = slice_get-map class_in cs i

pub found_within : (w : Word) (cs : List ClassAt) (r : ℕ) → place_of w (class_names (class_ins cs)) ≡ Some r
    → r < length cs
found_within w cs r e =
    let within = (position-Some (bytes_eq w) (class_names (class_ins cs)) r [] e).0 in
    omega (arith, within, length-map (class_ins cs) (λ (c : ClassIn). c.class.name), length-map cs class_in)

pub params_count : (ps : List Text) (ts : List TypeText) → length ps ≢ length ts
    → false ≡ are_params (words_of ps) (type_trees (map type_of ts))
params_count [] [] other = absurd (other refl)
params_count [] (t ∷ ts) other = refl
params_count (p ∷ ps) [] other = refl
params_count (p ∷ ps) (t ∷ ts) other =
    sym (either (is_param p.now (type_of t)) (are_params (words_of ps) (type_trees (map type_of ts)))
    (params_count ps ts (λ e. other (ap suc e))))
  where
    either : (a b : Bool) → false ≡ b → (a && b) ≡ false
    either true b e = sym e
    either false b e = refl

pub params_step : (ps : List Text) (ts : List TypeText) (i : ℕ) (p : Text) (t : TypeText) → i < length ps
    → length ps ≡ length ts
    → are_params (words_of (drop i ps)) (type_trees (map type_of (drop i ts)))
    ≡ (is_param (get_or ps i p).now (type_of (get_or ts i t)) && are_params (words_of (drop (i + 1) ps)) (type_trees
    (map type_of (drop (i + 1) ts))))
params_step ps ts i p t lt same =
    ap (λ l. are_params (words_of l) (type_trees (map type_of (drop i ts)))) (drop-cons ps i p lt
    ∙ ap (λ k. get_or ps i p ∷ drop k ps) (sym (add-one i)))
    ∙ ap (λ l. are_params ((get_or ps i p).now ∷ words_of (drop (i + 1) ps)) (type_trees (map type_of l)))
    (drop-cons ts i t (omega arith) ∙ ap (λ k. get_or ts i t ∷ drop k ts) (sym (add-one i)))

pub bare : (ts : List TypeText) → (length ts == 0) ≡ is_bare (type_trees (map type_of ts))
bare [] = refl
bare (t ∷ ts) = by (eqb_tells (suc (length ts)) 0)
  where
    by : ((nat_eq (suc (length ts)) 0 ≡ true) × (suc (length ts) ≡ 0))
        ⊎ ((nat_eq (suc (length ts)) 0 ≡ false) × (suc (length ts) ≢ 0)) → nat_eq (suc (length ts)) 0 ≡ false
    by (inl h) = absurd (omega (arith, h.1))
    by (inr h) = h.0

pub names_of_roots : (cs : List ClassIn) → names_of (map typed_root cs) ≡ class_names cs
names_of_roots [] = refl
names_of_roots (c ∷ cs) = ap (λ l. c.class.name ∷ l) (names_of_roots cs)
