-- A fault of a pattern that is computed stands there.
use Rattle.std.proofs.Common.{◌≡◌, ◌∙◌, ℕ, List, [], ◌∷◌, ◌++◌, Ok, Err, Option, Some, None}
use Rattle.std.proofs.Common.{refl, sym, subst, nat_eq, length, map}
use Rattle.std.specs.Prelude.{◌≢◌, slice_get}
use Rattle.pp_fault.specs.declared.Fault.{Fault}
use Rattle.pp_fault.specs.declared.Rule.TheVariants.{Duplicate, Mismatch, Arity}
use Rattle.pp_fault.specs.Part.{Part}
use Rattle.pp_fault.proofs.Parts.{same_err}
use Rattle.pp_typed.specs.Equal.{equal}
use Rattle.pp_typed.specs.Put.{put}
use Rattle.pp_names.specs.Find.{find_ctor}
use Rattle.pp_rules.specs.Elab.{AllBound, Bound, arguments, bind}
use Rattle.pp_rules.specs.Elab.{count_patterns, ctor_bound, ctor_found}
use Rattle.pp_rules.specs.Elab.{elab_pattern, elab_patterns}
use Rattle.pp_rules.specs.Elab.{leaf}
use Rattle.pp_rules.specs.Elab.{pattern_name}
use Rattle.pp_rules.specs.Elab.{with_ctor}
use Rattle.pp_rules.specs.Scope.{Env, Scope, clashes}
use Rattle.pp_tree.specs.Plain.{Word, PatternTree, any, int_pattern}
use Rattle.pp_tree.specs.Plain.{bool_pattern, ctor_pattern, PatternTrees, no_patterns, more_patterns}
use Rattle.pp_typed.specs.declared.pattern.TypedPattern.{TypedPattern}
use Rattle.pp_typed.specs.declared.pattern.TypedPatternKind.{TypedPatternKind}
use Rattle.pp_typed.specs.declared.pattern.TypedPatternKind.TheVariants as pattern_kind
use Rattle.pp_typed.specs.declared.sort.GenericSort.{GenericSort}
use Rattle.pp_typed.specs.declared.sort.GenericSort.TheOpen as layer
use Rattle.pp_typed.specs.declared.sort.GenericSort.TheVariants as sort
use Rattle.pp_typed.specs.declared.sort.GenericSort.TheViews.{out-GenericSort}
use Rattle.pp_typed.specs.declared.typed.TypedCtor.{TypedCtor}
use Rattle.pp_typing_laws.proofs.Faulty.{then_err, uneven, differs, unless_err, fresh_err}
use Rattle.pp_typing_laws.proofs.Patterns.{root_of, shows_root, bind_ok, arguments_ok, sound_pattern}
use Rattle.pp_typing_laws.specs.Faults.{flawed, BreaksBinding, bound_again, BreaksPattern, any_bound}
use Rattle.pp_typing_laws.specs.Faults.{int_bound, int_unfit, bool_bound, bool_unfit, ctor_unknown, ctor_absent}
use Rattle.pp_typing_laws.specs.Faults.{ctor_of_other, ctor_arity, ctor_bound as binder_of_ctor, ctor_parts}
use Rattle.pp_typing_laws.specs.Faults.{BreaksPatterns, this_pattern, later_pattern}

module _ (env : Env) where
  binding : (at : ℕ) (n : Option Word) (s : GenericSort) (k : ℕ) (sc : Scope) (f : Fault)
      → bind env at n s k sc ≡ Err f → BreaksBinding env at k sc n f
  binding at None s k sc f h = cc
  binding at (Some w) s k sc f h =
      fresh_err env (clashes w k sc) Duplicate w at (Ok (sc ++ (w, s) ∷ [])) f h
      (λ b is. subst (BreaksBinding env at k sc (Some w)) is (bound_again at w b)) (λ b is. cc)

  leaf_err : {C : Type 0} (at : ℕ) (n : Option Word) (kind : TypedPatternKind) (of s : GenericSort) (k : ℕ)
      (sc : Scope) (f : Fault)
      → leaf env at n kind of s k sc ≡ Err f → (s ≢ of → flawed env Mismatch (pattern_name env n) at ≡ f → C)
      → (BreaksBinding env at k sc n f → C) → C
  leaf_err at n kind of s k sc f h first later =
      unless_err env (equal of s) Mismatch (pattern_name env n) at _ f h
      (λ b is. first (differs env of s b) is)
      (λ b rest. then_err (bind env at n s k sc) _ f rest (λ e. later (binding at n s k sc f e)) (λ a is more. cc))

  arguments_err : (at : ℕ) (c : Word) (r : ℕ) (s : GenericSort) (o : layer.GenericSort-F GenericSort) (f : Fault)
      → out-GenericSort s ≡ o
      → arguments env at c r o ≡ Err f → ((args : List GenericSort)
      → s ≢ sort.Root r args) × (flawed env Mismatch c at ≡ f)
  arguments_err at c r s (layer.Root q ss) f o h =
      unless_err env (nat_eq r q) Mismatch c at (Ok ss) f h
      (λ b is. (λ args e. uneven r q b (let same = sym (shows_root s r args e) ∙ o in cc), is)) (λ b is. cc)
  arguments_err at c r s layer.Int f o h = (
    λ args e. (let same = sym (shows_root s r args e)
        ∙ o in cc),
    same_err {A = List GenericSort} _ f h,
  )
  arguments_err at c r s layer.Bool f o h = (
    λ args e. (let same = sym (shows_root s r args e)
        ∙ o in cc),
    same_err {A = List GenericSort} _ f h,
  )
  arguments_err at c r s (layer.Param i) f o h = (
    λ args e. (let same = sym (shows_root s r args e)
        ∙ o in cc),
    same_err {A = List GenericSort} _ f h,
  )

  with_ctor_err : (at : ℕ) (n : Option Word) (w : Word) (ps : PatternTrees) (parts : List GenericSort → Scope
      → Part AllBound) (s : GenericSort) (k : ℕ) (sc : Scope) (i : ℕ) (o : Option TypedCtor) (f : Fault)
      → ((ss : List GenericSort) (mid : Scope) → parts ss mid ≡ Err f → BreaksPatterns env k mid ss ps f)
      → find_ctor env.declared w ≡ Some i → slice_get env.declared.ctors i ≡ o
      → with_ctor env at n w (count_patterns ps) parts s k sc i o ≡ Err f
      → BreaksPattern env k sc s (ctor_pattern at n w ps) f
  with_ctor_err at n w ps parts s k sc i None f ih p g h =
      subst (BreaksPattern env k sc s (ctor_pattern at n w ps)) (same_err {A = Bound} _ f h) (ctor_absent at w i p g)
  with_ctor_err at n w ps parts s k sc i (Some c) f ih p g h =
      then_err (arguments env at w c.root (out-GenericSort s)) _ f h
      (λ e. let q = arguments_err at w c.root s (out-GenericSort s) f refl e in
      subst (BreaksPattern env k sc s (ctor_pattern at n w ps)) q.1 (ctor_of_other at w i c p g q.0))
      (λ args is rest. unless_err env (nat_eq (count_patterns ps) (length c.fields)) Arity w at _ f rest
      (λ b e. subst (BreaksPattern env k sc s (ctor_pattern at n w ps)) e (ctor_arity at w i c p g (uneven _ _ b)))
      (λ b rest2. then_err (bind env at n s k sc) _ f rest2
      (λ e. binder_of_ctor at w (binding at n s k sc f e))
      (λ mid bound rest3. then_err (parts (map (put args) c.fields) mid) (ctor_bound env at n i) f rest3
      (λ e. ctor_parts at w i c args p g (root_of s c.root args (arguments_ok env at w c.root
      (out-GenericSort s) args is))
      (bind_ok env at n s k sc mid bound) (ih (map (put args) c.fields) mid e))
      (λ all is2 more. cc))))

  ctor_err : (at : ℕ) (n : Option Word) (w : Word) (ps : PatternTrees) (s : GenericSort) (k : ℕ) (sc : Scope)
      (f : Fault) (o : Option ℕ)
      → find_ctor env.declared w ≡ o
      → ((ss : List GenericSort) (mid : Scope) → elab_patterns env [] ps ss k mid ≡ Err f
      → BreaksPatterns env k mid ss ps f)
      → ctor_found env at n w (count_patterns ps) (λ ss after. elab_patterns env [] ps ss k after) s k sc o ≡ Err f
      → BreaksPattern env k sc s (ctor_pattern at n w ps) f
  ctor_err at n w ps s k sc f None p ih h =
      subst (BreaksPattern env k sc s (ctor_pattern at n w ps)) (same_err {A = Bound} _ f h) (ctor_unknown at w p)
  ctor_err at n w ps s k sc f (Some i) p ih h =
      with_ctor_err at n w ps (λ ss after. elab_patterns env [] ps ss k after) s k sc i
      (slice_get env.declared.ctors i) f ih p refl h

  mutual
    pub stands_pattern : (p : PatternTree) (s : GenericSort) (k : ℕ) (sc : Scope) (f : Fault)
        → elab_pattern env p s k sc ≡ Err f → BreaksPattern env k sc s p f
    stands_pattern (any at n) s k sc f h =
        then_err (bind env at n s k sc) _ f h (λ e. any_bound at (binding at n s k sc f e)) (λ a is more. cc)
    stands_pattern (int_pattern at n v) s k sc f h =
        leaf_err at n (pattern_kind.Int v) sort.Int s k sc f h
        (λ d is. subst (BreaksPattern env k sc s (int_pattern at n v)) is (int_unfit at v d)) (λ b. int_bound at v b)
    stands_pattern (bool_pattern at n v) s k sc f h =
        leaf_err at n (pattern_kind.Bool v) sort.Bool s k sc f h
        (λ d is. subst (BreaksPattern env k sc s (bool_pattern at n v)) is (bool_unfit at v d))
        (λ b. bool_bound at v b)
    stands_pattern (ctor_pattern at n w ps) s k sc f h =
        ctor_err at n w ps s k sc f (find_ctor env.declared w) refl (λ ss mid e. stands_patterns ps ss k mid [] f e) h

    stands_patterns : (ps : PatternTrees) (ss : List GenericSort) (k : ℕ) (sc : Scope) (done : List TypedPattern)
        (f : Fault)
        → elab_patterns env done ps ss k sc ≡ Err f → BreaksPatterns env k sc ss ps f
    stands_patterns no_patterns ss k sc done f h = cc
    stands_patterns (more_patterns p ps) [] k sc done f h = cc
    stands_patterns (more_patterns p ps) (s ∷ ss) k sc done f h =
        then_err (elab_pattern env p s k sc) _ f h
        (λ e. this_pattern (stands_pattern p s k sc f e))
        (λ r is rest. later_pattern (sound_pattern env p s k sc r is) (stands_patterns ps ss k r.1
        (done ++ r.0 ∷ []) f rest))
