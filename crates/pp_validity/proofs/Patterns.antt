-- A translated pattern binds the sorts that the typed pattern binds.
use Rattle.std.proofs.Common.{◌≡◌, ⊎_elim, ℕ, ℤ, if◌then◌else◌, Bool, true, false, ◌&&◌, List, [], ◌∷◌, ◌++◌, map, refl}
use Rattle.std.proofs.Common.{sym, ap, ◌∙◌, subst}
use Rattle.std.specs.Prelude.{Option, Some, None, slice_get, Contains}
use Rattle.std.proofs.lemmas.List.{append-nil, length-map, map-append}
use Rattle.std.proofs.lemmas.List.Elements.{Contains-push, Contains-push_cases, Contains-append_cases}
use Rattle.std.proofs.lemmas.List.Elements.{Contains-append_left, Contains-append_right}
use Rattle.pp_generic.proofs.Putting.{put_root}
use Rattle.pp_instances.proofs.Kept.{nothing_in}
use Rattle.pp_instances.proofs.Mentioned.{types_root}
use Rattle.pp_instances.specs.Same.{place_of}
use Rattle.pp_instances.specs.Uses.{root_at, types_in, types_of}
use Rattle.pp_instances.specs.declared.member.Member.{Member}
use Rattle.pp_prog.specs.PatternSorts.{Binding, bind_fields, bind_step, bind_tree, binds_none, bound_sorts, then_bind}
use Rattle.pp_prog.specs.Sorts.{is_int, same_sort}
use Rattle.pp_prog.specs.declared.expr.Function.{Function}
use Rattle.pp_prog.specs.declared.expr.Pattern.{Pattern}
use Rattle.pp_prog.specs.declared.expr.Pattern.TheFolds.{fold-roll-Pattern}
use Rattle.pp_prog.specs.declared.expr.Pattern.TheOpen as layer
use Rattle.pp_prog.specs.declared.expr.Pattern.TheVariants as prog
use Rattle.pp_prog.specs.declared.id.CtorId.{CtorId}
use Rattle.pp_prog.specs.declared.sort.Sort.{Sort}
use Rattle.pp_prog.specs.declared.sort.Sort.TheVariants as of_prog
use Rattle.pp_prog.specs.declared.types.Ctor.{Ctor}
use Rattle.pp_translation.specs.Numbers.{args_of, ctor_at, ctor_number, data_number, fields_of, program_sort, sort_at}
use Rattle.pp_translation.specs.Patterns.{AtSort, bound_if, each_at, kind_at, pattern_at, pattern_kind_step}
use Rattle.pp_translation.specs.Patterns.{pattern_step}
use Rattle.pp_translation.specs.Setting.{Setting}
use Rattle.pp_typed.specs.Put.{put}
use Rattle.pp_typed.specs.Sorted.{Binds, BindEach, binds_any, binds_int, binds_bool, binds_ctor, bind_none, bind_more}
use Rattle.pp_typed.specs.Sorted.{own_value}
use Rattle.pp_typed.specs.declared.pattern.TypedPattern.{TypedPattern}
use Rattle.pp_typed.specs.declared.pattern.TypedPatternKind.TheFolds.{fold_out-TypedPattern, fold-roll-TypedPatternKind}
use Rattle.pp_typed.specs.declared.pattern.TypedPatternKind.TheOpen as kind_layer
use Rattle.pp_typed.specs.declared.pattern.TypedPatternKind.TheVariants as kind
use Rattle.pp_typed.specs.declared.sort.GenericSort.{GenericSort}
use Rattle.pp_typed.specs.declared.sort.GenericSort.TheVariants as sort
use Rattle.pp_typed.specs.declared.typed.Typed.{Typed}
use Rattle.pp_typed.specs.declared.typed.TypedCtor.{TypedCtor}
use Rattle.pp_validity.proofs.Ground.{args_of_root, each_put, puts_puts, sort_at_bool, sort_at_int}
use Rattle.pp_validity.proofs.Ground.{sort_at_root}
use Rattle.pp_validity.proofs.Known.{HasTypes, IsKnown}
use Rattle.pp_prog.proofs.ValueSorts.{its_sort}

-- the sorts that each form of a pattern binds
module _ (ctors : List Ctor) where
  pub bound_any : (s : Sort) → bound_sorts ctors prog.Any s ≡ Some []
  bound_any s = ap (λ p. bound_sorts ctors p s) (sym prog.rolls-Any)
      ∙ ap (λ (b : Binding). b s) (fold-roll-Pattern Binding (bind_step ctors) layer.Any)

  pub bound_bind : (p : Pattern) (s : Sort) → bound_sorts ctors (prog.Bind p) s ≡ then_bind (bound_sorts ctors p s)
      (λ more. Some (s ∷ more))
  bound_bind p s = ap (λ p. bound_sorts ctors p s) (sym (prog.rolls-Bind p))
      ∙ ap (λ (b : Binding). b s) (fold-roll-Pattern Binding (bind_step ctors) (layer.Bind p))

  pub bound_int : (n : ℤ) (s : Sort) → bound_sorts ctors (prog.Int n) s ≡ binds_none
      (same_sort of_prog.Int s && is_int n)
  bound_int n s = ap (λ p. bound_sorts ctors p s) (sym (prog.rolls-Int n))
      ∙ ap (λ (b : Binding). b s) (fold-roll-Pattern Binding (bind_step ctors) (layer.Int n))

  pub bound_bool : (t : Bool) (s : Sort) → bound_sorts ctors (prog.Bool t) s ≡ binds_none (same_sort of_prog.Bool s)
  bound_bool t s = ap (λ p. bound_sorts ctors p s) (sym (prog.rolls-Bool t))
      ∙ ap (λ (b : Binding). b s) (fold-roll-Pattern Binding (bind_step ctors) (layer.Bool t))

  pub bound_ctor : (c : CtorId) (ps : List Pattern) (s : Sort)
      → bound_sorts ctors (prog.Ctor c ps) s ≡ bind_tree (slice_get ctors c.0) (map (bound_sorts ctors) ps) s
  bound_ctor c ps s = ap (λ p. bound_sorts ctors p s) (sym (prog.rolls-Ctor c ps))
      ∙ ap (λ (b : Binding). b s) (fold-roll-Pattern Binding (bind_step ctors) (layer.Ctor c ps))

-- each form of a typed pattern, translated
module _ (typed : Typed) (roots : List Member) where
  opened : (p : TypedPattern) (s : GenericSort) → pattern_at typed roots p s ≡ bound_if p.binds
      (kind_at typed roots p.kind s)
  opened p s = ap (λ (f : AtSort). f s) (fold_out-TypedPattern AtSort AtSort (pattern_kind_step typed roots)
      (pattern_step typed roots) p)

  kind_any : (s : GenericSort) → kind_at typed roots kind.Any s ≡ prog.Any
  kind_any s = ap (λ k. kind_at typed roots k s) (sym kind.rolls-Any)
      ∙ ap (λ (f : AtSort). f s) (fold-roll-TypedPatternKind AtSort AtSort (pattern_kind_step typed roots)
      (pattern_step typed roots) kind_layer.Any)

  kind_int : (n : ℤ) (s : GenericSort) → kind_at typed roots (kind.Int n) s ≡ prog.Int n
  kind_int n s = ap (λ k. kind_at typed roots k s) (sym (kind.rolls-Int n))
      ∙ ap (λ (f : AtSort). f s) (fold-roll-TypedPatternKind AtSort AtSort (pattern_kind_step typed roots)
      (pattern_step typed roots) (kind_layer.Int n))

  kind_bool : (t : Bool) (s : GenericSort) → kind_at typed roots (kind.Bool t) s ≡ prog.Bool t
  kind_bool t s = ap (λ k. kind_at typed roots k s) (sym (kind.rolls-Bool t))
      ∙ ap (λ (f : AtSort). f s) (fold-roll-TypedPatternKind AtSort AtSort (pattern_kind_step typed roots)
      (pattern_step typed roots) (kind_layer.Bool t))

  kind_ctor : (c : ℕ) (parts : List TypedPattern) (s : GenericSort) → kind_at typed roots (kind.Ctor c parts) s
      ≡ prog.Ctor (ctor_number typed.ctors roots c (args_of s))
      (each_at (map (pattern_at typed roots) parts) (map (put (args_of s)) (fields_of (slice_get typed.ctors c))))
  kind_ctor c parts s = ap (λ k. kind_at typed roots k s) (sym (kind.rolls-Ctor c parts))
      ∙ ap (λ (f : AtSort). f s) (fold-roll-TypedPatternKind AtSort AtSort (pattern_kind_step typed roots)
      (pattern_step typed roots) (kind_layer.Ctor c parts))

pub mapped : {A B : Type 0} (f : A → B) (xs : List A) (P : B → Type 0) → ((x : A) → Contains xs x → P (f x)) → (y : B)
    → Contains (map f xs) y → P y
mapped f [] P h y c = absurd (nothing_in y c)
mapped f (x ∷ xs) P h y c =
    ⊎_elim (λ (first : Contains (f x ∷ []) y). ⊎_elim (λ (no : Contains [] y). absurd (nothing_in y no))
    (λ (e : f x ≡ y). subst P e (h x (Contains-append_left (x ∷ []) xs x (Contains-push [] x))))
    (Contains-push_cases [] (f x) y first))
    (λ (later : Contains (map f xs) y). mapped f xs P (λ z d. h z (Contains-append_right (x ∷ []) xs z d)) y later)
    (Contains-append_cases (f x ∷ []) (map f xs) y c)

pub map_map : {A B C : Type 0} (f : B → C) (g : A → B) (xs : List A) → map (λ x. f (g x)) xs ≡ map f (map g xs)
map_map f g [] = refl
map_map f g (x ∷ xs) = ap (λ l. f (g x) ∷ l) (map_map f g xs)

module _ (typed : Typed) (set : Setting) (ms : List Member) (fs : List Function) (known : IsKnown typed set ms fs)
    (args : List GenericSort) where
  abbrev G : GenericSort → Sort
  G s = sort_at set.roots args s

  abbrev bound : TypedPattern → GenericSort → Option (List Sort)
  bound p s = bound_sorts set.types.ctors (pattern_at typed set.roots p (put args s)) (G s)

  -- with the value itself, where it is bound
  with_own : (b : Bool) (p : Pattern) (s : GenericSort) (inner : List GenericSort)
      → bound_sorts set.types.ctors p (G s) ≡ Some (map G inner)
      → bound_sorts set.types.ctors (bound_if b p) (G s) ≡ Some (map G (own_value b s ++ inner))
  with_own true p s inner h = bound_bind set.types.ctors p (G s) ∙ ap (λ o. then_bind o (λ more. Some (G s ∷ more))) h
  with_own false p s inner h = h

  whole : (p : TypedPattern) (s : GenericSort) (q : Pattern) (inner : List GenericSort)
      → kind_at typed set.roots p.kind (put args s) ≡ q
      → bound_sorts set.types.ctors q (G s) ≡ Some (map G inner)
      → bound p s ≡ Some (map G (own_value p.binds s ++ inner))
  whole p s q inner is h =
      ap (λ z. bound_sorts set.types.ctors z (G s)) (opened typed set.roots p (put args s) ∙ ap (bound_if p.binds) is)
      ∙ with_own p.binds q s inner h

  alone : (p : TypedPattern) (s : GenericSort) (q : Pattern) → kind_at typed set.roots p.kind (put args s) ≡ q
      → bound_sorts set.types.ctors q (G s) ≡ Some [] → bound p s ≡ Some (map G (own_value p.binds s))
  alone p s q is h = whole p s q [] is h ∙ ap (λ l. Some (map G l)) (append-nil (own_value p.binds s))

  some_tree : (k : Ctor) (o : Option Ctor) (ps : List Binding) (t : Sort) (l : List Sort) → o ≡ Some k
      → of_prog.Tree k.of ≡ t
      → bind_fields ps k.fields ≡ Some l → bind_tree o ps t ≡ Some l
  some_tree k o ps t l p q h =
      ap (λ z. bind_tree z ps t) p ∙ ap (λ (z : Sort). bind_tree (Some k) ps z) (sym q)
      ∙ ap (λ b. if b then bind_fields ps k.fields else None) (its_sort (of_prog.Tree k.of)) ∙ h

  both_bound : (a b : Option (List Sort)) (x y : List Sort) → a ≡ Some x → b ≡ Some y
      → then_bind a (λ here. then_bind b (λ more. Some (here ++ more))) ≡ Some (x ++ y)
  both_bound a b x y p q =
      ap (λ o. then_bind o (λ here. then_bind b (λ more. Some (here ++ more)))) p
      ∙ ap (λ o. then_bind o (λ more. Some (x ++ more))) q

  abbrev Types : GenericSort → Type 0
  Types s = HasTypes ms (put args s)

  abbrev EachTypes : List GenericSort → Type 0
  EachTypes ss = (s : GenericSort) → Contains ss s → Types s

  -- the arguments of the constructor's root, and its fields there
  fields_twice : (c : ℕ) (k : TypedCtor) (sorts : List GenericSort) → slice_get typed.ctors c ≡ Some k
      → Contains ms (root_at k.root (map (put args) sorts))
      → map (put args) (map (put sorts) k.fields) ≡ map (put (map (put args) sorts)) k.fields
  fields_twice c k sorts at there =
      let own = known.owner c k at in
      let all = known.whole k.root own.0 (map (put args) sorts) own.1 there in
      puts_puts args sorts k.fields own.2 (sym all ∙ length-map sorts (put args))

  pub root_there : (s : GenericSort) (r : ℕ) (sorts : List GenericSort) → s ≡ sort.Root r sorts → Types s
      → Contains ms (root_at r (map (put args) sorts))
  root_there s r sorts is h =
      h (root_at r (map (put args) sorts)) (subst (λ (z : GenericSort). Contains (types_in z)
      (root_at r (map (put args) sorts))) (sym (ap (put args) is ∙ put_root args r sorts))
      (subst (λ (l : List Member). Contains l (root_at r (map (put args) sorts)))
      (sym (types_root r (map (put args) sorts))) (Contains-append_left (root_at r (map (put args) sorts) ∷ [])
      (types_of (map (put args) sorts)) (root_at r (map (put args) sorts))
      (Contains-push [] (root_at r (map (put args) sorts))))))

  pub put_twice : (c : ℕ) (k : TypedCtor) (sorts : List GenericSort) → slice_get typed.ctors c ≡ Some k
      → Contains ms (root_at k.root (map (put args) sorts))
      → (f : GenericSort) → Contains k.fields f → put args (put sorts f) ≡ put (map (put args) sorts) f
  put_twice c k sorts at there f has =
      let own = known.owner c k at in
      let all = known.whole k.root own.0 (map (put args) sorts) own.1 there in
      each_put args sorts k.fields own.2 (sym all ∙ length-map sorts (put args)) f has

  -- the sorts of the fields in the program
  pub grounds : (fields sorts : List GenericSort) → map (put args) (map (put sorts) fields) ≡ map
      (put (map (put args) sorts)) fields
      → map (sort_at set.roots (map (put args) sorts)) fields ≡ map G (map (put sorts) fields)
  grounds fields sorts same =
      map_map (program_sort set.roots) (put (map (put args) sorts)) fields
      ∙ ap (map (program_sort set.roots)) (sym same)
      ∙ sym (map_map (program_sort set.roots) (put args) (map (put sorts) fields))

  mutual
    -- a pattern binds, in the program, the sorts that it binds in the typed units
    pub pattern_binds : {s : GenericSort} {p : TypedPattern} {inner : List GenericSort} → Binds typed s p inner
        → Types s → bound p s ≡ Some (map G inner)
    pattern_binds {s} {p} (binds_any is) h =
        alone p s prog.Any (ap (λ k. kind_at typed set.roots k (put args s)) is ∙ kind_any typed set.roots (put args s))
        (bound_any set.types.ctors (G s))
    pattern_binds {s} {p} (binds_int n is of range) h =
        alone p s (prog.Int n) (ap (λ k. kind_at typed set.roots k (put args s)) is
        ∙ kind_int typed set.roots n (put args s))
        (bound_int set.types.ctors n (G s)
        ∙ ap (λ z. binds_none (same_sort of_prog.Int z && is_int n)) (ap G of ∙ sort_at_int set.roots args)
        ∙ ap binds_none range)
    pattern_binds {s} {p} (binds_bool b is of) h =
        alone p s (prog.Bool b) (ap (λ k. kind_at typed set.roots k (put args s)) is
        ∙ kind_bool typed set.roots b (put args s))
        (bound_bool set.types.ctors b (G s)
        ∙ ap (λ z. binds_none (same_sort of_prog.Bool z)) (ap G of ∙ sort_at_bool set.roots args))
    pattern_binds {s} {p} (binds_ctor {inner = inner} c k sorts parts is declared of each) h =
        let outer = map (put args) sorts in
        let there = root_there s k.root sorts of h in
        let ctor = known.ctors c k outer declared there in
        let of_args : args_of (put args s) ≡ outer =
        ap args_of (ap (put args) of ∙ put_root args k.root sorts) ∙ args_of_root set.roots args k.root outer in
        let sorted : of_prog.Tree (data_number set.roots k.root outer) ≡ G s =
        sym (ap G of ∙ sort_at_root set.roots args k.root sorts) in
        let same = fields_twice c k sorts declared there in
        let types : EachTypes (map (put sorts) k.fields) =
        mapped (put sorts) k.fields Types
        (λ f has. subst (HasTypes ms) (sym (put_twice c k sorts declared there f has))
        (known.fields c k outer declared there f has)) in
        let inside = patterns_bind each types in
        let number = ctor_number typed.ctors set.roots c in
        let q = prog.Ctor (number outer)
        (each_at (map (pattern_at typed set.roots) parts) (map (put args) (map (put sorts) k.fields))) in
        let made : kind_at typed set.roots p.kind (put args s) ≡ q =
        ap (λ z. kind_at typed set.roots z (put args s)) is ∙ kind_ctor typed set.roots c parts (put args s)
        ∙ ap (λ l. prog.Ctor (number l) (each_at (map (pattern_at typed set.roots) parts)
        (map (put l) (fields_of (slice_get typed.ctors c))))) of_args
        ∙ ap (λ o. prog.Ctor (number outer) (each_at (map (pattern_at typed set.roots) parts)
        (map (put outer) (fields_of o)))) declared
        ∙ ap (λ l. prog.Ctor (number outer) (each_at (map (pattern_at typed set.roots) parts) l)) (sym same) in
        whole p s q inner made
        (bound_ctor set.types.ctors (number outer) (each_at (map (pattern_at typed set.roots) parts)
        (map (put args) (map (put sorts) k.fields))) (G s)
        ∙ some_tree (ctor_at typed set.roots (place_of set.roots (root_at k.root outer)) outer k) _ _ (G s)
        (map G inner) ctor sorted
        (ap (bind_fields (map (bound_sorts set.types.ctors)
        (each_at (map (pattern_at typed set.roots) parts) (map (put args) (map (put sorts) k.fields)))))
        (grounds k.fields sorts same) ∙ inside))

    pub patterns_bind : {ss : List GenericSort} {ps : List TypedPattern} {inner : List GenericSort}
        → BindEach typed ss ps inner → EachTypes ss
        → bind_fields (map (bound_sorts set.types.ctors)
        (each_at (map (pattern_at typed set.roots) ps) (map (put args) ss))) (map G ss) ≡ Some (map G inner)
    patterns_bind bind_none h = refl
    patterns_bind (bind_more {s = s} {ss = ss} {here = here} {more = more} one rest) h =
        both_bound _ _ (map G here) (map G more)
        (pattern_binds one (h s (Contains-append_left (s ∷ []) ss s (Contains-push [] s))))
        (patterns_bind rest (λ t c. h t (Contains-append_right (s ∷ []) ss t c)))
        ∙ ap Some (sym (map-append G here more))
