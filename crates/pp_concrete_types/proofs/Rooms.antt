-- Roots have few constructors, so the datatypes of a program have few.
use Rattle.std.proofs.Common.{◌≡◌, ℕ, suc, ◌*◌, ◌≤◌, nat_eq, List, [], ◌∷◌, take, length, get_or, refl, sym, ap, ◌∙◌}
use Rattle.std.proofs.Common.{subst, arith, length-append}
use Rattle.std.specs.Prelude.{Option, Some, None, slice_get, All, Contains}
use Rattle.std.specs.List.{sum_by}
use Rattle.std.proofs.lemmas.Bool.{eqb-true}
use Rattle.std.proofs.lemmas.List.{length-map}
use Rattle.std.proofs.lemmas.List.Sums.{sum_by-cons, sum_by-le, sum_by-take-le}
use Rattle.std.proofs.lemmas.Option.{none-some, slice_get_within}
use Rattle.pp_concrete_types.proofs.Lists.{contained, unfiltered}
use Rattle.pp_instances.specs.declared.member.Member.{Member}
use Rattle.pp_numbers.specs.Tables.{HasRoom, IsOneOf}
use Rattle.pp_translation.specs.Numbers.{count_of, ctor_at, ctors, ctors_at, ctors_from, decl_number}
use Rattle.pp_typed.specs.Sorted.{ctors_of}
use Rattle.pp_typed.specs.WellSorted.{IsCtor, IsWellSorted}
use Rattle.pp_typed.specs.declared.typed.Typed.{Typed}
use Rattle.pp_typed.specs.declared.typed.TypedCtor.{TypedCtor}
use Rattle.pp_typed.specs.declared.typed.TypedRoot.{TypedRoot}

-- a constructor of a root stands among the constructors of all
pub record IsOwn (all : List TypedCtor) (r j : ℕ) (k : TypedCtor) : Type 0 where
  pub place : ℕ
  pub at : slice_get all place ≡ Some k
  pub rank : length (ctors_of (take place all) r) ≡ j
  pub root : k.root ≡ r

pub own_ctor : (all : List TypedCtor) (r j : ℕ) (k : TypedCtor) → slice_get (ctors_of all r) j ≡ Some k
    → IsOwn all r j k
own_ctor all r j k h =
    let passed = unfiltered (λ (c : TypedCtor). nat_eq c.root r) all j k h in
    record { place = passed.place; at = passed.at; rank = passed.before; root = eqb-true k.root r passed.passes }

module _ (typed : Typed) (sorted : IsWellSorted typed) where
  pub ctor_is : (c : TypedCtor) → Contains typed.ctors c → IsCtor typed c
  ctor_is c has = subst (IsCtor typed) has.2 (sorted.ctors has.0 c has.1)

  -- each constructor is one of the roots
  pub owned : All (IsOneOf (length typed.roots)) typed.ctors
  owned k d lt =
      let c = get_or typed.ctors k d in
      let is = sorted.ctors k d lt in
      slice_get_within typed.roots c.root is.owner is.declared

  few_at : (r : ℕ) (o : Option TypedRoot) → slice_get typed.roots r ≡ o → length (ctors_of typed.ctors r) ≤ 64
  few_at r (Some root) at = (sorted.roots r root at).few_ctors
  few_at r None at = by (ctors_of typed.ctors r) refl
    where
      by : (cs : List TypedCtor) → ctors_of typed.ctors r ≡ cs → length (ctors_of typed.ctors r) ≤ 64
      by [] e = let none = ap length e in omega arith
      by (k ∷ cs) e =
          let own = own_ctor typed.ctors r 0 k (ap (λ (l : List TypedCtor). slice_get l 0) e) in
          let is = ctor_is k (contained typed.ctors own.place k own.at) in
          absurd (none-some _ (sym at ∙ ap (slice_get typed.roots) (sym own.root) ∙ is.declared))

  -- a root has at most 64 constructors
  pub few_of : (r : ℕ) → length (ctors_of typed.ctors r) ≤ 64
  few_of r = few_at r (slice_get typed.roots r) refl

  few_counted : (roots : List Member) → sum_by (count_of typed.ctors) roots ≤ length roots * 64
  few_counted roots = sum_by-le (count_of typed.ctors) 64 roots (λ k d lt. few_of (decl_number (get_or roots k d).of))

  -- numbers of 32 bits hold the constructors of at most 512 datatypes
  pub has_room : (roots : List Member) → length roots ≤ 512 → HasRoom typed.ctors roots
  has_room roots few = record {
    few_firsts = λ d. (
        let part = sum_by-take-le (count_of typed.ctors) roots d in
        let whole = few_counted roots in omega arith
        );
    few_ctors = λ r. (let own = few_of r in omega arith);
  }

  length_ctors : (all roots : List Member) (d : ℕ)
      → length (ctors_from typed all d roots) ≡ sum_by (count_of typed.ctors) roots
  length_ctors all [] d = refl
  length_ctors all (m ∷ ms) d =
      let here = length-map (ctors_of typed.ctors (decl_number m.of)) (ctor_at typed all d m.args) in
      let more = length_ctors all ms (suc d) in
      let both = length-append (ctors_at typed all d m) (ctors_from typed all (suc d) ms) in
      let sum = sum_by-cons (count_of typed.ctors) m ms in
      omega arith

  pub few_ctors : (roots : List Member) → length roots ≤ 512 → length (ctors typed roots) ≤ 32768
  few_ctors roots few =
      let size = length_ctors roots roots 0 in
      let whole = few_counted roots in
      omega arith
