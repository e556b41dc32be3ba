-- Members stay distinct where one is added that isn't among them.
use Rattle.std.proofs.Common.{◌≡◌, Bool, true, false, List, [], ◌∷◌, ◌++◌, Contains, refl, sym, ◌∙◌, subst, arith}
use Rattle.std.proofs.Common.{⊎_elim}
use Rattle.std.specs.Prelude.{if◌then◌else◌}
use Rattle.std.specs.List.{list_any}
use Rattle.std.proofs.lemmas.List.Elements.{Contains-append_left, Contains-append_right, Contains-push}
use Rattle.std.proofs.lemmas.List.Elements.{Contains-push_cases}
use Rattle.std.proofs.lemmas.Map.Views.{list_any-from_Contains}
use Rattle.pp_instances.specs.Closure.{Distinct}
use Rattle.pp_instances.specs.Decides.{same_laws}
use Rattle.pp_instances.specs.Same.{same, with_member}
use Rattle.pp_instances.specs.declared.member.Member.{Member}

pub nothing_in : {A : Type 0} (x : A) → Contains [] x → ⊥
nothing_in x h = let lt = h.1 in absurd (omega arith)

pub distinct_push : (ms : List Member) (m : Member) → Distinct ms → (Contains ms m → ⊥) → Distinct (ms ++ m ∷ [])
distinct_push [] m d n = (nothing_in m, tt)
distinct_push (k ∷ ms) m d n = (
  λ h. ⊎_elim d.0 (λ e. n
      (subst (λ z. Contains (k ∷ ms) z) (sym e) (Contains-append_left (k ∷ []) ms k (Contains-push [] k))))
      (Contains-push_cases ms m k h),
  distinct_push ms m d.1 (λ h. n (Contains-append_right (k ∷ []) ms m h)),
)

kept : (b : Bool) (ms : List Member) (m : Member) → list_any (same m) ms ≡ b → Distinct ms
    → Distinct (if b then ms else ms ++ m ∷ [])
kept true ms m h d = d
kept false ms m h d = distinct_push ms m d
    (λ c. let p = list_any-from_Contains same_laws m ms c in let q : false ≡ true = sym h ∙ p in cc)

pub distinct_with : (ms : List Member) (m : Member) → Distinct ms → Distinct (with_member ms m)
distinct_with ms m d = kept (list_any (same m) ms) ms m refl d
