-- Printed names tell instances.
use Rattle.std.proofs.Common.{◌≡◌, ℕ, List, [], ◌++◌, Some, get_or, sym, ap, ◌∙◌, subst}
use Rattle.std.specs.Prelude.{slice_get}
use Rattle.std.proofs.lemmas.List.{append-nil}
use Rattle.std.proofs.lemmas.Option.{get_or_from_slice_get, slice_get_within}
use Rattle.pp_instance_names.proofs.Sorts.{after_brackets, brackets, brackets_read}
use Rattle.pp_instance_names.proofs.Words.{nothing_after, words_read}
use Rattle.pp_instance_names.specs.Laws.{AreOneKind, NamesTellMembers, both_functions, both_roots}
use Rattle.pp_instances.specs.Names.{def_name, printed, root_name}
use Rattle.pp_instances.specs.Uses.{function_at, root_at}
use Rattle.pp_instances.specs.declared.member.Decl.{Decl}
use Rattle.pp_instances.specs.declared.member.Decl.TheVariants.{Function, Root}
use Rattle.pp_instances.specs.declared.member.Member.{Member}
use Rattle.pp_members.specs.Proper.{of_function, of_root}
use Rattle.pp_typed.specs.InRange.{AreInRange}
use Rattle.pp_typed.specs.WellSorted.{IsDef, IsPlain, IsWellSorted}
use Rattle.pp_typed.specs.declared.sort.GenericSort.{GenericSort}
use Rattle.pp_typed.specs.declared.typed.Typed.{Typed}
use Rattle.pp_typed.specs.declared.typed.TypedDef.{TypedDef}
use Rattle.pp_typed.specs.declared.typed.TypedRoot.{TypedRoot}

module _ (typed : Typed) (sorted : IsWellSorted typed) where
  plain_def : (f : ℕ) (d : TypedDef) → slice_get typed.defs f ≡ Some d → IsPlain d.name
  plain_def f d declared =
      let at : get_or typed.defs f d ≡ d = get_or_from_slice_get typed.defs f d d declared in
      (subst (IsDef typed) at (sorted.defs f d (slice_get_within typed.defs f d declared))).plain

  -- names in front of arguments tell both
  read : (w v : List ℕ) (ss ts : List GenericSort) → IsPlain w → IsPlain v → AreInRange typed.roots 0 ss
      → AreInRange typed.roots 0 ts → w ++ brackets typed ss ≡ v ++ brackets typed ts → (w ≡ v) × (ss ≡ ts)
  read w v ss ts pw pv good fine same =
      let bare = λ (l : List GenericSort). append-nil (brackets typed l) in
      let both = words_read w v (brackets typed ss ++ []) (brackets typed ts ++ []) pw pv
      (after_brackets typed ss [] nothing_after) (after_brackets typed ts [] nothing_after)
      (ap (λ l. w ++ l) (bare ss) ∙ same ∙ ap (λ l. v ++ l) (sym (bare ts))) in
      (both.0, (brackets_read typed sorted good fine [] [] nothing_after nothing_after both.1).0)

  functions_differ : (f g : ℕ) (d e : TypedDef) (ss ts : List GenericSort) → slice_get typed.defs f ≡ Some d
      → slice_get typed.defs g ≡ Some e → AreInRange typed.roots 0 ss → AreInRange typed.roots 0 ts
      → printed typed (function_at f ss) ≡ printed typed (function_at g ts) → function_at f ss ≡ function_at g ts
  functions_differ f g d e ss ts there here good fine same =
      let both = read d.name e.name ss ts (plain_def f d there) (plain_def g e here) good fine
      (sym (ap (λ o. def_name o ++ brackets typed ss) there) ∙ same ∙ ap (λ o. def_name o ++ brackets typed ts) here) in
      ap (λ n. function_at n ss) (sorted.defs_differ f g d e there here both.0) ∙ ap (function_at g) both.1

  roots_differ : (r q : ℕ) (root other : TypedRoot) (ss ts : List GenericSort) → slice_get typed.roots r ≡ Some root
      → slice_get typed.roots q ≡ Some other → AreInRange typed.roots 0 ss → AreInRange typed.roots 0 ts
      → printed typed (root_at r ss) ≡ printed typed (root_at q ts) → root_at r ss ≡ root_at q ts
  roots_differ r q root other ss ts there here good fine same =
      let plain = λ (n : ℕ) (c : TypedRoot) (h : slice_get typed.roots n ≡ Some c). (sorted.roots n c h).plain in
      let both = read root.name other.name ss ts (plain r root there) (plain q other here) good fine
      (sym (ap (λ o. root_name o ++ brackets typed ss) there) ∙ same
      ∙ ap (λ o. root_name o ++ brackets typed ts) here) in
      ap (λ n. root_at n ss) (sorted.roots_differ r q root other there here both.0) ∙ ap (root_at q) both.1

-- a function is no root
mixed : (f r : ℕ) (a b : Decl) → AreOneKind a b → a ≡ Function f → b ≡ Root r → ⊥
mixed f r _ _ (both_functions g h) is_a is_b = cc
mixed f r _ _ (both_roots q p) is_a is_b = cc

mixed_back : (f r : ℕ) (a b : Decl) → AreOneKind a b → a ≡ Root r → b ≡ Function f → ⊥
mixed_back f r _ _ (both_functions g h) is_a is_b = cc
mixed_back f r _ _ (both_roots q p) is_a is_b = cc

-- two members are the same if what they stand for is
told : (typed : Typed) {a b m n : Member} → printed typed a ≡ printed typed b → a ≡ m → b ≡ n
    → (printed typed m ≡ printed typed n → m ≡ n) → a ≡ b
told typed same is_a is_b tell =
    is_a ∙ tell (sym (ap (printed typed) is_a) ∙ same ∙ ap (printed typed) is_b) ∙ sym is_b

pub names_tell_members : NamesTellMembers
names_tell_members typed a b sorted (of_function f d ss m there _ good) (of_function g e ts n here _ fine) kind same =
    told typed same m n (functions_differ typed sorted f g d e ss ts there here good fine)
names_tell_members typed a b sorted (of_root r root ss m there _ good) (of_root q other ts n here _ fine) kind same =
    told typed same m n (roots_differ typed sorted r q root other ss ts there here good fine)
names_tell_members typed a b sorted (of_function f d ss m there _ good) (of_root q other ts n here _ fine) kind same =
    absurd (mixed f q a.of b.of kind (ap (λ (m : Member). m.of) m) (ap (λ (m : Member). m.of) n))
names_tell_members typed a b sorted (of_root r root ss m there _ good) (of_function g e ts n here _ fine) kind same =
    absurd (mixed_back g r a.of b.of kind (ap (λ (m : Member). m.of) m) (ap (λ (m : Member). m.of) n))
