-- A pattern is given a typing exactly where the rules give it that one.
use Rattle.std.proofs.Common.{◌≡◌, ◌∙◌, ℕ, suc, List, [], ◌∷◌, ◌++◌, Ok, Option, Some, None}
use Rattle.std.proofs.Common.{refl, sym, ap, subst, nat_eq, length, map, eq-eqb, append_assoc}
use Rattle.std.specs.Prelude.{slice_get}
use Rattle.std.proofs.lemmas.Bool.{eqb-true}
use Rattle.std.proofs.lemmas.List.{append-nil, length-map}
use Rattle.pp_fault.specs.declared.Rule.TheVariants.{Mismatch, Arity}
use Rattle.pp_fault.specs.Part.{Part}
use Rattle.pp_fault.proofs.Parts.{goes, same_ok}
use Rattle.pp_generic.proofs.Equal.{equal_same}
use Rattle.pp_typed.specs.Equal.{equal}
use Rattle.pp_typed.specs.Put.{put}
use Rattle.pp_names.specs.Find.{find_ctor}
use Rattle.pp_rules.specs.Elab.{AllBound, Bound, arguments, bind, count_patterns, ctor_bound, ctor_found, elab_pattern}
use Rattle.pp_rules.specs.Elab.{elab_patterns, leaf, pattern, with_ctor}
use Rattle.pp_rules.specs.Scope.{Env, Scope, clashes}
use Rattle.pp_rules.specs.Typing.{Binds, binds_nothing, binds_a_name, TypesPattern, a_wildcard, a_number, a_truth}
use Rattle.pp_rules.specs.Typing.{a_ctor, TypesPatterns, no_pattern, one_pattern}
use Rattle.pp_tree.specs.Plain.{Word, PatternTree, any, int_pattern, bool_pattern, ctor_pattern, PatternTrees}
use Rattle.pp_tree.specs.Plain.{no_patterns, more_patterns}
use Rattle.pp_typed.specs.declared.pattern.TypedPattern.{TypedPattern}
use Rattle.pp_typed.specs.declared.pattern.TypedPatternKind.{TypedPatternKind}
use Rattle.pp_typed.specs.declared.pattern.TypedPatternKind.TheVariants as pattern_kind
use Rattle.pp_typed.specs.declared.sort.GenericSort.{GenericSort}
use Rattle.pp_typed.specs.declared.sort.GenericSort.TheOpen as layer
use Rattle.pp_typed.specs.declared.sort.GenericSort.TheVariants as sort
use Rattle.pp_typed.specs.declared.sort.GenericSort.TheViews.{out-GenericSort, roll-GenericSort, roll-out-GenericSort}
use Rattle.pp_typed.specs.declared.typed.TypedCtor.{TypedCtor}
use Rattle.pp_typing_laws.proofs.Steps.{then_ok, unless_ok, unless_true, fresh_ok, fresh_false, equal_of}

-- a sort that shows a root is that root
pub root_of : (s : GenericSort) (r : ℕ) (args : List GenericSort) → out-GenericSort s ≡ layer.Root r args
    → s ≡ sort.Root r args
root_of s r args e = sym (roll-out-GenericSort s) ∙ ap roll-GenericSort e ∙ sort.rolls-Root r args

pub shows_root : (s : GenericSort) (r : ℕ) (args : List GenericSort) → s ≡ sort.Root r args
    → out-GenericSort s ≡ layer.Root r args
shows_root s r args e = ap out-GenericSort e ∙ sort.outs-Root r args

module _ (env : Env) where
  pub bind_ok : (at : ℕ) (n : Option Word) (s : GenericSort) (k : ℕ) (sc after : Scope)
      → bind env at n s k sc ≡ Ok after → Binds k sc s n after
  bind_ok at None s k sc after h = subst (Binds k sc s None) (same_ok sc after h) binds_nothing
  bind_ok at (Some w) s k sc after h =
      let q = fresh_ok env (clashes w k sc) _ w at _ after h in
      subst (Binds k sc s (Some w)) (same_ok _ after q.1) (binds_a_name w q.0)

  binds : (at : ℕ) {n : Option Word} {s : GenericSort} {k : ℕ} {sc after : Scope} → Binds k sc s n after
      → bind env at n s k sc ≡ Ok after
  binds at binds_nothing = refl
  binds at (binds_a_name {k = k} {sc = sc} w h) = fresh_false env (clashes w k sc) _ _ h

  leaf_ok : (at : ℕ) (n : Option Word) (kind : TypedPatternKind) (of s : GenericSort) (k : ℕ) (sc : Scope) (r : Bound)
      → leaf env at n kind of s k sc ≡ Ok r → (s ≡ of) × ((after : Scope) × Binds k sc s n after ×
      ((pattern env at n kind, after) ≡ r))
  leaf_ok at n kind of s k sc r h =
      let q = unless_ok env (equal of s) _ _ at _ r h in
      let b = then_ok (bind env at n s k sc) _ r q.1 in
      (sym (equal_same of s q.0), (b.0, bind_ok at n s k sc b.0 b.1, same_ok _ r b.2))

  leaf_is : (at : ℕ) {n : Option Word} (kind : TypedPatternKind)
      (of : GenericSort) {s : GenericSort} {k : ℕ} {sc after : Scope}
      → s ≡ of → Binds k sc s n after → leaf env at n kind of s k sc ≡ Ok (pattern env at n kind, after)
  leaf_is at kind of {s} e b = unless_true env (equal of s) _ _ at _ (equal_of env of s (sym e))
      ∙ goes _ _ _ (binds at b)

  pub arguments_ok : (at : ℕ) (c : Word) (r : ℕ) (o : layer.GenericSort-F GenericSort) (args : List GenericSort)
      → arguments env at c r o ≡ Ok args → o ≡ layer.Root r args
  arguments_ok at c r (layer.Root q ss) args h =
      let p = unless_ok env (nat_eq r q) Mismatch c at (Ok ss) args h in
      let same = eqb-true r q p.0 in let is = same_ok ss args p.1 in cc
  arguments_ok at c r layer.Int args h = cc
  arguments_ok at c r layer.Bool args h = cc
  arguments_ok at c r (layer.Param i) args h = cc

  arguments_is : (at : ℕ) (c : Word) (r : ℕ) (o : layer.GenericSort-F GenericSort) (args : List GenericSort)
      → o ≡ layer.Root r args → arguments env at c r o ≡ Ok args
  arguments_is at c r o args e = ap (arguments env at c r) e
      ∙ unless_true env (nat_eq r r) Mismatch c at _ (eq-eqb r r refl)

  -- what a constructor's pattern that is given a typing consists of
  record CtorParts (at : ℕ) (n : Option Word) (c : Word) (m : ℕ) (parts : List GenericSort → Scope
      → Part AllBound) (s : GenericSort) (k : ℕ) (sc : Scope) (o : Option ℕ) (r : Bound) : Type 0 where
    place : ℕ
    is_place : o ≡ Some place
    the_ctor : TypedCtor
    is_ctor : slice_get env.declared.ctors place ≡ Some the_ctor
    args : List GenericSort
    is_root : s ≡ sort.Root the_ctor.root args
    arity : m ≡ length the_ctor.fields
    mid : Scope
    bound : Binds k sc s n mid
    all : AllBound
    is_all : parts (map (put args) the_ctor.fields) mid ≡ Ok all
    is_pattern : (pattern env at n (pattern_kind.Ctor place all.0), all.1) ≡ r

  with_ctor_ok : (at : ℕ) (n : Option Word) (c : Word) (m : ℕ) (parts : List GenericSort → Scope
      → Part AllBound) (s : GenericSort) (k : ℕ) (sc : Scope) (i : ℕ) (o : Option TypedCtor) (r : Bound)
      → slice_get env.declared.ctors i ≡ o → with_ctor env at n c m parts s k sc i o ≡ Ok r
      → CtorParts at n c m parts s k sc (Some i) r
  with_ctor_ok at n c m parts s k sc i None r g h = cc
  with_ctor_ok at n c m parts s k sc i (Some the_ctor) r g h =
      let a = then_ok (arguments env at c the_ctor.root (out-GenericSort s)) _ r h in
      let q = unless_ok env (nat_eq m (length the_ctor.fields)) Arity c at _ r a.2 in
      let b = then_ok (bind env at n s k sc) _ r q.1 in
      let p = then_ok (parts (map (put a.0) the_ctor.fields) b.0) (ctor_bound env at n i) r b.2 in record {
        place = i;
        is_place = refl;
        the_ctor = the_ctor;
        is_ctor = g;
        args = a.0;
        is_root = root_of s the_ctor.root a.0 (arguments_ok at c the_ctor.root (out-GenericSort s) a.0 a.1);
        arity = eqb-true m (length the_ctor.fields) q.0;
        mid = b.0;
        bound = bind_ok at n s k sc b.0 b.1;
        all = p.0;
        is_all = p.1;
        is_pattern = same_ok _ r p.2;
      }

  ctor_found_ok : (at : ℕ) (n : Option Word) (c : Word) (m : ℕ) (parts : List GenericSort → Scope
      → Part AllBound) (s : GenericSort) (k : ℕ) (sc : Scope) (o : Option ℕ) (r : Bound)
      → ctor_found env at n c m parts s k sc o ≡ Ok r → CtorParts at n c m parts s k sc o r
  ctor_found_ok at n c m parts s k sc None r h = cc
  ctor_found_ok at n c m parts s k sc (Some i) r h = with_ctor_ok at n c m parts s k sc i
      (slice_get env.declared.ctors i) r refl h

  abbrev Parts : PatternTrees → ℕ → List GenericSort → Scope → Part AllBound
  Parts ps k ss after = elab_patterns env [] ps ss k after

  mutual
    pub sound_pattern : (p : PatternTree) (s : GenericSort) (k : ℕ) (sc : Scope) (r : Bound)
        → elab_pattern env p s k sc ≡ Ok r → TypesPattern env k sc s p r.0 r.1
    sound_pattern (any at n) s k sc r h =
        let b = then_ok (bind env at n s k sc) _ r h in
        subst (λ z. TypesPattern env k sc s (any at n) z.0 z.1) (same_ok _ r b.2) (a_wildcard at
        (bind_ok at n s k sc b.0 b.1))
    sound_pattern (int_pattern at n v) s k sc r h =
        let q = leaf_ok at n (pattern_kind.Int v) sort.Int s k sc r h in
        subst (λ z. TypesPattern env k sc s (int_pattern at n v) z.0 z.1) q.1.2 (a_number at v q.0 q.1.1)
    sound_pattern (bool_pattern at n b) s k sc r h =
        let q = leaf_ok at n (pattern_kind.Bool b) sort.Bool s k sc r h in
        subst (λ z. TypesPattern env k sc s (bool_pattern at n b) z.0 z.1) q.1.2 (a_truth at b q.0 q.1.1)
    sound_pattern (ctor_pattern at n c ps) s k sc r h =
        let q = ctor_found_ok at n c (count_patterns ps) (Parts ps k) s k sc (find_ctor env.declared c) r h in
        let even = length-map q.the_ctor.fields (put q.args) ∙ sym q.arity in
        let all = sound_patterns ps (map (put q.args) q.the_ctor.fields) k q.mid [] q.all even q.is_all in
        let ts = subst (λ ts. TypesPatterns env k q.mid (map
        (put q.args) q.the_ctor.fields) ps ts q.all.1) all.1 all.2 in
        subst (λ z. TypesPattern env k sc s (ctor_pattern at n c ps) z.0 z.1) q.is_pattern
        (a_ctor at c q.place q.the_ctor q.args q.is_place q.is_ctor q.is_root q.bound ts)

    -- the patterns are these after the earlier ones
    sound_patterns : (ps : PatternTrees) (ss : List GenericSort) (k : ℕ) (sc : Scope) (done : List TypedPattern)
        (r : AllBound)
        → length ss ≡ count_patterns ps → elab_patterns env done ps ss k sc ≡ Ok r
        → (ts : List TypedPattern) × (done ++ ts ≡ r.0) × TypesPatterns env k sc ss ps ts r.1
    sound_patterns no_patterns [] k sc done r e h =
        let q = same_ok (done, sc) r h in (
          [],
          append-nil done ∙ ap (λ z. z.0) q,
          subst (λ z. TypesPatterns env k sc [] no_patterns [] z) (ap
              (λ z. z.1) q) no_pattern,
        )
    sound_patterns no_patterns (s ∷ ss) k sc done r e h = cc
    sound_patterns (more_patterns p ps) [] k sc done r e h = cc
    sound_patterns (more_patterns p ps) (s ∷ ss) k sc done r e h =
        let a = then_ok (elab_pattern env p s k sc) _ r h in
        let rest = sound_patterns ps ss k a.0.1 (done ++ a.0.0 ∷ []) r (cc) a.2 in (
          a.0.0 ∷ rest.0,
          sym (append_assoc done (a.0.0 ∷ []) rest.0)
              ∙ rest.1,
          one_pattern (sound_pattern p s k sc a.0 a.1) rest.2,
        )

  pub even_patterns : {k : ℕ} {sc after : Scope} {ss : List GenericSort} {ps : PatternTrees} {ts : List TypedPattern}
      → TypesPatterns env k sc ss ps ts after → count_patterns ps ≡ length ss
  even_patterns no_pattern = refl
  even_patterns (one_pattern p ps) = ap suc (even_patterns ps)

  mutual
    pub complete_pattern : {k : ℕ} {sc after : Scope} {s : GenericSort} {p : PatternTree} {t : TypedPattern}
        → TypesPattern env k sc s p t after → elab_pattern env p s k sc ≡ Ok (t, after)
    complete_pattern (a_wildcard at b) = goes _ _ _ (binds at b)
    complete_pattern (a_number at v e b) = leaf_is at (pattern_kind.Int v) sort.Int e b
    complete_pattern (a_truth at v e b) = leaf_is at (pattern_kind.Bool v) sort.Bool e b
    complete_pattern
        (a_ctor {k = k} {sc = sc} {after = after} {s = s} {n = n} {ps = ps} {ts = ts} at w i c args f g e b all) =
        ap (ctor_found env at n w (count_patterns ps) (Parts ps k) s k sc) f
        ∙ ap (with_ctor env at n w (count_patterns ps) (Parts ps k) s k sc i) g
        ∙ goes _ _ _ (arguments_is at w c.root (out-GenericSort s) args (shows_root s c.root args e))
        ∙ unless_true env (nat_eq (count_patterns ps) (length c.fields)) Arity w at _
        (eq-eqb _ _ (even_patterns all ∙ length-map c.fields (put args)))
        ∙ goes _ _ _ (binds at b)
        ∙ goes _ (ctor_bound env at n i) (ts, after) (complete_patterns [] all)

    complete_patterns : {k : ℕ} {sc after : Scope} {ss : List GenericSort} {ps : PatternTrees}
        {ts : List TypedPattern} (done : List TypedPattern)
        → TypesPatterns env k sc ss ps ts after → elab_patterns env done ps ss k sc ≡ Ok (done ++ ts, after)
    complete_patterns {sc = sc} done no_pattern = ap (λ l. Ok (l, sc)) (sym (append-nil done))
    complete_patterns {after = after} done (one_pattern {t = t} {ts = ts} p ps) =
        goes _ _ _ (complete_pattern p) ∙ complete_patterns (done ++ t ∷ []) ps
        ∙ ap (λ l. Ok (l, after)) (append_assoc done (t ∷ []) ts)
