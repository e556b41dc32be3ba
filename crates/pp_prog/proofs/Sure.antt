-- What a program's type holds of it, at hand.
use Rattle.std.proofs.Common.{◌≡◌, ℕ, zero, suc, Bool, List, refl, inl, inr, IsTrue}
use Rattle.std.proofs.Math.Logic.{∥∥₁_elim}
use Rattle.std.proofs.Props.{props}
use Rattle.std.specs.Coded.{Coded, Coded-set, code_by, coded×, coded_list, coded_ℕ}
use Rattle.pp_graph.proofs.Decided.{group_or_not}
use Rattle.pp_prog.specs.declared.check.CheckKind.{CheckKind}
use Rattle.pp_prog.specs.declared.check.CheckKind.TheVariants.{Precondition, Postcondition, Match, Division, Measure}
use Rattle.pp_prog.specs.declared.check.CheckKind.TheVariants.{Assertion}
use Rattle.pp_prog.specs.declared.expr.Function.{Function}
use Rattle.pp_prog.specs.declared.program.Program.{Program}
use Rattle.pp_prog.specs.declared.types.TypeTable.{TypeTable}
use Rattle.pp_prog.specs.Calls.{call_table}
use Rattle.pp_prog.specs.Listing.{Site, plain, division, assertion, precondition, measure, matching, postcondition}
use Rattle.pp_prog.specs.Valid.{Carries, Entry, IsValid}

-- that a test is true holds in one way
pub true_prop : {b : Bool} → IsProp (IsTrue b)
true_prop = hlevel props

-- what never holds holds in one way
pub ⊥_prop : IsProp ⊥
⊥_prop = hlevel

nat_prop : {n m : ℕ} → IsProp (n ≡ m)
nat_prop = hlevel props

-- two truths are equal in one way
pub bool_prop : {a b : Bool} → IsProp (a ≡ b)
bool_prop = hlevel props

module _ (types : TypeTable) (functions : List Function) where
  -- what follows for a site from a fact that there is
  carries_sure : (V : Type 0) → ∥ V ∥₁ → (f : ℕ) (site : Site) → (V → Carries types functions f site)
      → Carries types functions f site
  carries_sure V known f (plain check) told = ∥∥₁_elim known true_prop told
  carries_sure V known f (division check) told = ∥∥₁_elim known true_prop told
  carries_sure V known f (assertion check) told = tt
  carries_sure V known f (precondition g check) told = ∥∥₁_elim known bool_prop told
  carries_sure V known f (measure g check) told = (
    λ some. (
      elim (group_or_not (call_table functions) f g.0) [
        | inl same ↦ same
        | inr never ↦ absurd
            (∥∥₁_elim known ⊥_prop (λ v. never ((told v).0 some).0))
      ],
      ∥∥₁_elim known true_prop (λ v. ((told v).0 some).1),
      ∥∥₁_elim known true_prop (λ v. ((told v).0 some).2),
    ),
    λ all. ∥∥₁_elim known true_prop (λ v. (told v).1 all),
  )
  carries_sure V known f (matching s patterns check) told = (
    λ none v has. ∥∥₁_elim known true_prop (λ w. (told w).0 none v has),
    λ covers. ∥∥₁_elim known true_prop (λ w. (told w).1 covers),
  )
  carries_sure V known f (postcondition check) told = tt

abbrev number_of_kind : CheckKind → ℕ
number_of_kind Precondition = 0
number_of_kind Postcondition = 1
number_of_kind Match = 2
number_of_kind Division = 3
number_of_kind Measure = 4
number_of_kind Assertion = 5

abbrev kind_of_number : ℕ → CheckKind
kind_of_number zero = Precondition
kind_of_number (suc zero) = Postcondition
kind_of_number (suc (suc zero)) = Match
kind_of_number (suc (suc (suc zero))) = Division
kind_of_number (suc (suc (suc (suc zero)))) = Measure
kind_of_number (suc (suc (suc (suc (suc n))))) = Assertion

kind_back : (k : CheckKind) → kind_of_number (number_of_kind k) ≡ k
kind_back Precondition = refl
kind_back Postcondition = refl
kind_back Match = refl
kind_back Division = refl
kind_back Measure = refl
kind_back Assertion = refl

entry_coded : Coded Entry
entry_coded =
    code_by (ℕ × (ℕ × CheckKind)) (coded× coded_ℕ (coded× coded_ℕ
    (code_by ℕ coded_ℕ number_of_kind kind_of_number kind_back))) (λ e. (e.0, (e.1, e.2)))
    (λ p. (p.0, p.1.0, p.1.1)) (λ _. refl)

listing_prop : {xs ys : List Entry} → IsProp (xs ≡ ys)
listing_prop {xs = xs} {ys = ys} = Coded-set (coded_list entry_coded) xs ys

-- a program is valid
pub is_valid : (p : Program) → IsValid p.types p.functions p.checks
is_valid p = record {
  few_functions = p.few_functions;
  few_checks = p.few_checks;
  in_range = ∥∥₁_elim p.valid true_prop (λ v. v.in_range);
  sorted = p.sorted;
  carried = λ f function is site has. carries_sure p.types p.functions (IsValid p.types p.functions p.checks) p.valid f
      site (λ v. v.carried f function is site has);
  listed = ∥∥₁_elim p.valid listing_prop (λ v. v.listed);
  numbered = λ i c is. ∥∥₁_elim p.valid nat_prop (λ v. v.numbered i c is);
}
