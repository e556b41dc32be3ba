-- Where the hole may stand, one frame at a time.
use Rattle.std.proofs.Common.{◌≡◌, ℕ, ◌+◌, ◌-◌, ◌<◌, ◌≤◌, length, get_or, take, arith, List, [], ◌∷◌, refl, ap, sym}
use Rattle.std.proofs.Common.{◌∙◌, true, false, Bool, cond, take_all}
use Rattle.std.proofs.lemmas.List.{take_more}
use Rattle.pp_grammar.specs.Joining.{takes_hole}
use Rattle.pp_parse_state.specs.declared.frame.Frame.{Frame}
use Rattle.pp_parse_state.specs.declared.frame.Frame.TheVariants.{Prefixing, Left, ClaimingHole}
use Rattle.pp_parse_state.specs.Joining.{lets_hole, is_claim, hole_in}
use Rattle.pp_parse_state.specs.Parts.{Parts}
use Rattle.pp_parse_state.specs.Shown.{below, over}
use Rattle.pp_parse_state.specs.Values.{stacked}
use Rattle.pp_parse_state.proofs.Stacked.{stacked_push}

hole_of_kinds : (fs : List Frame) (p : Parts) → takes_hole (over fs p) ≡ hole_in fs
hole_of_kinds [] p = refl
hole_of_kinds (Prefixing at op ∷ fs) p = hole_of_kinds fs p
hole_of_kinds (Left at op true ∷ fs) p = refl
hole_of_kinds (Left at op false ∷ fs) p = hole_of_kinds fs (below (Left at op false) p)
hole_of_kinds (ClaimingHole ∷ fs) p = refl
hole_of_kinds (_ ∷ fs) p = refl

hole_goes_on : (f : Frame) (fs : List Frame) → lets_hole f ≡ true → hole_in (f ∷ fs) ≡ hole_in fs
hole_goes_on f fs h = ap (λ (b : Bool). cond b (hole_in fs) (is_claim f)) h

hole_ends : (f : Frame) (fs : List Frame) → lets_hole f ≡ false → hole_in (f ∷ fs) ≡ is_claim f
hole_ends f fs h = ap (λ (b : Bool). cond b (hole_in fs) (is_claim f)) h

-- the frame at depth d - 1 is the top of the first d
top_of_first : (fs : List Frame) (d : ℕ) (f : Frame) → 0 < d → d ≤ length fs → f ≡ get_or fs (d - 1) f
    → hole_in (stacked (λ g. g) (take d fs) []) ≡ hole_in (f ∷ stacked (λ g. g) (take (d - 1) fs) [])
top_of_first fs d f some within is =
    let n : (d - 1) + 1 ≡ d = omega arith in
    ap (λ k. hole_in (stacked (λ g. g) (take k fs) [])) (sym n)
    ∙ ap (λ l. hole_in (stacked (λ g. g) l [])) (take_more fs (d - 1) f (omega arith))
    ∙ ap hole_in (stacked_push (λ g. g) (take (d - 1) fs) (get_or fs (d - 1) f) [])
    ∙ ap (λ g. hole_in (g ∷ stacked (λ h. h) (take (d - 1) fs) [])) (sym is)

-- above the first d frames it may stand where it may above the first d - 1, if the one between lets it
pub lets_first : (fs : List Frame) (d : ℕ) (f : Frame) → 0 < d → d ≤ length fs → f ≡ get_or fs (d - 1) f
    → lets_hole f ≡ true
    → hole_in (stacked (λ g. g) (take d fs) []) ≡ hole_in (stacked (λ g. g) (take (d - 1) fs) [])
lets_first fs d f some within is lets =
    top_of_first fs d f some within is ∙ hole_goes_on f (stacked (λ g. g) (take (d - 1) fs) []) lets

-- .. and else that one decides
pub ends_first : (fs : List Frame) (d : ℕ) (f : Frame) → 0 < d → d ≤ length fs → f ≡ get_or fs (d - 1) f
    → lets_hole f ≡ false → hole_in (stacked (λ g. g) (take d fs) []) ≡ is_claim f
ends_first fs d f some within is lets =
    top_of_first fs d f some within is ∙ hole_ends f (stacked (λ g. g) (take (d - 1) fs) []) lets

pub hole_of_all : (fs : List Frame) (n : ℕ) (p : Parts) → n ≡ length fs
    → takes_hole (over (stacked (λ g. g) fs []) p) ≡ hole_in (stacked (λ g. g) (take n fs) [])
hole_of_all fs n p is =
    hole_of_kinds (stacked (λ g. g) fs []) p
    ∙ ap (λ l. hole_in (stacked (λ g. g) l [])) (sym (take_all n fs (omega arith)))
