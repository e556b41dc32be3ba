-- The search for a name.
use Rattle.std.proofs.Common.{◌≡◌, ◌≢◌, nat_eq, true, false, ℕ, ◌+◌, ◌<◌, ◌≤◌, ◌⊎◌, List, Some, length, get_or}
use Rattle.std.proofs.Common.{slice_get, refl, sym, ap, ◌∙◌, subst, arith, inl, inr}
use Rattle.std.proofs.lemmas.Option.{slice_get_read, slice_get_within}
use Rattle.std.proofs.lemmas.Bool.Decides.{eqb_tells}
use Rattle.pp_prog.specs.declared.expr.Function.{Function}
use Rattle.pp_prog.specs.Names.{IsNamed, NoneNamed, IsFirstNamed}

-- none of the first i has the name
abbrev pub NoneBelow : List Function → List ℕ → ℕ → Type 0
NoneBelow functions name i = (g : ℕ) → g < i → IsNamed functions name g → ⊥

pub none_at_start : (functions : List Function) (name : List ℕ) → NoneBelow functions name 0
none_at_start functions name g lt named = absurd (omega arith)

name_there : (functions : List Function) (name : List ℕ) (i : ℕ) (x : Function) → slice_get functions i ≡ Some x
    → IsNamed functions name i → x.name ≡ name
name_there functions name i x there named =
    let e : named.0 ≡ x = (let both : Some named.0 ≡ Some x = sym named.1 ∙ there in cc) in
    ap (λ (f : Function). f.name) (sym e) ∙ named.2

pub none_more : (functions : List Function) (name : List ℕ) (i : ℕ) (x : Function) → i < length functions
    → x ≡ get_or functions i x → (x.name ≡ name → ⊥) → NoneBelow functions name i → NoneBelow functions name (i + 1)
none_more functions name i x lt is other none g less named = by (eqb_tells g i)
  where
    by : ((nat_eq g i ≡ true) × (g ≡ i)) ⊎ ((nat_eq g i ≡ false) × (g ≢ i)) → ⊥
    by (inl e) =
        other (name_there functions name i x (slice_get_read functions (length functions) i x refl lt is)
        (subst (λ n. IsNamed functions name n) e.1 named))
    by (inr e) = none g (omega (arith, e.1)) named

pub found_first : (functions : List Function) (name : List ℕ) (i : ℕ) (x : Function) → i < length functions
    → x ≡ get_or functions i x → x.name ≡ name → NoneBelow functions name i → IsFirstNamed functions name i
found_first functions name i x lt is same none = record {
  named = (x, slice_get_read functions (length functions) i x refl lt is, same);
  first = none;
}

pub none_at_all : (functions : List Function) (name : List ℕ) (i : ℕ) → length functions ≤ i
    → NoneBelow functions name i → NoneNamed functions name
none_at_all functions name i over none f named =
    let within = slice_get_within functions f named.0 named.1 in none f (omega (arith, within)) named
