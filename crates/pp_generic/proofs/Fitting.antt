-- Two roots fit exactly where their arguments fit, one by one.
use Rattle.std.proofs.Common.{◌≡◌, ℕ, ◌+◌, ◌<◌, ◌≤◌, List, [], ◌∷◌, length, get_or, drop, map, refl, ap, sym, ◌∙◌}
use Rattle.std.proofs.Common.{arith}
use Rattle.std.proofs.Math.Bool.{and-false}
use Rattle.std.proofs.lemmas.List.{drop_all}
use Rattle.std.specs.Prelude.{nat_eq, Bool, true, false, ◌&&◌}
use Rattle.pp_generic.specs.declared.expected.Expected.{Expected}
use Rattle.pp_generic.specs.declared.expected.Expected.TheFolds.{fold-roll-Expected}
use Rattle.pp_generic.specs.declared.expected.Expected.TheOpen as layer
use Rattle.pp_generic.specs.declared.expected.Expected.TheVariants as expected
use Rattle.pp_typed.specs.Equal.{pass_all}
use Rattle.pp_generic.specs.Expected.{fits, fits_step, fits_root}
use Rattle.pp_list.proofs.Lists.{rest_at}
use Rattle.pp_typed.specs.declared.sort.GenericSort.{GenericSort}
use Rattle.pp_typed.specs.declared.sort.GenericSort.TheVariants.{Root, outs-Root}

pub fits_roots : (e : Expected) (s : GenericSort) (r q : ℕ) (xs : List Expected) (ys : List GenericSort)
    → e ≡ expected.Root r xs → s ≡ Root q ys → fits e s ≡ (nat_eq r q && pass_all (map fits xs) ys)
fits_roots e s r q xs ys is_e is_s =
    ap (λ v. fits v s) is_e ∙ ap (λ v. fits (expected.Root r xs) v) is_s
    ∙ ap (λ v. fits v (Root q ys)) (sym (expected.rolls-Root r xs))
    ∙ ap (λ l. l (Root q ys)) (fold-roll-Expected (GenericSort → Bool) fits_step (layer.Root r xs))
    ∙ ap (λ o. fits_root r (map fits xs) o) (outs-Root q ys)

-- roots that differ don't fit
pub differ : (r q : ℕ) (b : Bool) → nat_eq r q ≡ false → (nat_eq r q && b) ≡ false
differ r q b h = ap (λ t. t && b) h

pub alike : (r q : ℕ) (b : Bool) → nat_eq r q ≡ true → (nat_eq r q && b) ≡ b
alike r q b h = ap (λ t. t && b) h

-- lists of two lengths don't fit
pub uneven : (xs : List Expected) (ys : List GenericSort) → (length xs ≡ length ys → ⊥)
    → pass_all (map fits xs) ys ≡ false
uneven [] [] h = absurd (h refl)
uneven [] (y ∷ ys) h = refl
uneven (x ∷ xs) [] h = refl
uneven (x ∷ xs) (y ∷ ys) h = ap (λ b. fits x y && b) (uneven xs ys (λ e. h (omega (arith, e)))) ∙ and-false (fits x y)

-- where two don't fit, the lists from there on don't
pub stops : (xs : List Expected) (ys : List GenericSort) (i : ℕ) (x : Expected) (y : GenericSort)
    → i < length xs → x ≡ get_or xs i x → i < length ys → y ≡ get_or ys i y → fits x y ≡ false
    → pass_all (map fits (drop i xs)) (drop i ys) ≡ false
stops xs ys i x y lx ix ly iy stop =
    ap (λ l. pass_all (map fits l) (drop i ys)) (rest_at xs i x lx ix)
    ∙ ap (λ l. pass_all (map fits (x ∷ drop (i + 1) xs)) l) (rest_at ys i y ly iy)
    ∙ ap (λ b. b && pass_all (map fits (drop (i + 1) xs)) (drop (i + 1) ys)) stop

-- at the ends of lists of one length nothing is left
pub ends : (xs : List Expected) (ys : List GenericSort) (i : ℕ) → length xs ≤ i → length xs ≡ length ys
    → pass_all (map fits (drop i xs)) (drop i ys) ≡ true
ends xs ys i h e =
    ap (λ l. pass_all (map fits l) (drop i ys)) (drop_all i xs h)
    ∙ ap (λ l. pass_all [] l) (drop_all i ys (omega arith))
