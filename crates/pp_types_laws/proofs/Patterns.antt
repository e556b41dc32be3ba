-- A pattern that has a typing binds values of the sorts of its parts, and these are in range.
use Rattle.std.proofs.Common.{◌≡◌, ◌∙◌, ℕ, List, [], ◌∷◌, ◌++◌, Option, Some, length, map, slice_get, is_some, refl}
use Rattle.std.proofs.Common.{sym, ap, subst, append_assoc}
use Rattle.std.proofs.lemmas.List.{append-nil, map-append}
use Rattle.std.proofs.lemmas.Option.{same_Some}
use Rattle.pp_names.specs.Places.{Word}
use Rattle.pp_rules.specs.Scope.{Env, Scope}
use Rattle.pp_rules.specs.Typing.{Binds, binds_nothing, binds_a_name, TypesPattern, a_wildcard, a_number, a_truth}
use Rattle.pp_rules.specs.Typing.{a_ctor, TypesPatterns, no_pattern, one_pattern}
use Rattle.pp_tree.specs.Plain.{PatternTree, PatternTrees}
use Rattle.pp_typed.specs.InRange.{IsInRange, int_in_range, bool_in_range, param_in_range, root_in_range, AreInRange}
use Rattle.pp_typed.specs.InRange.{none_in_range, more_in_range}
use Rattle.pp_typed.specs.Sorted.{BindEach, bind_none, bind_more, binds_any, binds_int, binds_bool, binds_ctor}
use Rattle.pp_typed.specs.Sorted.{own_value}
use Rattle.pp_typed.specs.Sorted as sorted
use Rattle.pp_typed.specs.declared.declared.Declared.{Declared}
use Rattle.pp_typed.specs.declared.pattern.TypedPattern.{TypedPattern}
use Rattle.pp_typed.specs.declared.sort.GenericSort.{GenericSort}
use Rattle.pp_typed.specs.declared.sort.GenericSort.TheOpen as layer
use Rattle.pp_typed.specs.declared.sort.GenericSort.TheVariants as sort
use Rattle.pp_typed.specs.declared.sort.GenericSort.TheViews.{out-GenericSort}
use Rattle.pp_typed.specs.declared.typed.Typed.{Typed}
use Rattle.pp_typed.specs.declared.typed.TypedCtor.{TypedCtor}
use Rattle.pp_typed.specs.declared.typed.TypedDef.{TypedDef}
use Rattle.pp_typed.specs.declared.typed.TypedRoot.{TypedRoot}
use Rattle.pp_types_laws.proofs.Ranges.{append_in_range, puts_in_range}
use Rattle.pp_types_laws.specs.Literals.{PatternInts, PatternsInts}

-- the sorts of the values in scope
abbrev pub sorts_in : Scope → List GenericSort
sorts_in = map (λ (l : Word × GenericSort). l.1)

pub sorts_append : (sc : Scope) (w : Word) (s : GenericSort) → sorts_in (sc ++ (w, s) ∷ []) ≡ sorts_in sc ++ s ∷ []
sorts_append sc w s = map-append (λ (l : Word × GenericSort). l.1) sc ((w, s) ∷ [])

-- two roots that are the same have the same arguments
pub record IsSameRoot (r q : ℕ) (args others : List GenericSort) : Type 0 where
  pub same_root : r ≡ q
  pub same_args : args ≡ others

pub same_root_of : (r q : ℕ) (args others : List GenericSort) → sort.Root r args ≡ sort.Root q others
    → IsSameRoot r q args others
same_root_of r q args others e =
    let f : layer.Root r args ≡ layer.Root q others = sym (sort.outs-Root r args) ∙ ap out-GenericSort e
    ∙ sort.outs-Root q others in
    record { same_root = cc; same_args = cc }

-- what is known of a root in range
pub record IsRootInRange (roots : List TypedRoot) (m r : ℕ) (args : List GenericSort) : Type 0 where
  pub root : TypedRoot
  pub there : slice_get roots r ≡ Some root
  pub count : length args ≡ root.type_params
  pub all : AreInRange roots m args

pub root_parts : (roots : List TypedRoot) (m r : ℕ) (args : List GenericSort) {s : GenericSort} → IsInRange roots m s
    → s ≡ sort.Root r args → IsRootInRange roots m r args
root_parts roots m r args (int_in_range e) is =
    let f : layer.Int ≡ layer.Root r args = sym (ap out-GenericSort e ∙ sort.outs-Int) ∙ ap out-GenericSort is
    ∙ sort.outs-Root r args in cc
root_parts roots m r args (bool_in_range e) is =
    let f : layer.Bool ≡ layer.Root r args = sym (ap out-GenericSort e ∙ sort.outs-Bool) ∙ ap out-GenericSort is
    ∙ sort.outs-Root r args in cc
root_parts roots m r args (param_in_range i e lt) is =
    let f : layer.Param i ≡ layer.Root r args = sym (ap out-GenericSort e ∙ sort.outs-Param i)
    ∙ ap out-GenericSort is ∙ sort.outs-Root r args in cc
root_parts roots m r args (root_in_range q root others e there count all) is =
    let same = same_root_of q r others args (sym e ∙ is) in
    record {
      root = root;
      there = ap (slice_get roots) (sym same.same_root) ∙ there;
      count = ap length (sym same.same_args) ∙ count;
      all = subst (AreInRange roots m) same.same_args all;
    }

-- the fields of each constructor speak of the type parameters of its root
pub record HasFields (roots : List TypedRoot) (c : TypedCtor) : Type 0 where
  pub owner : TypedRoot
  pub there : slice_get roots c.root ≡ Some owner
  pub fields : AreInRange roots owner.type_params c.fields

-- the typed units with the roots and constructors of declarations
abbrev pub typed_of : Declared → List TypedDef → Typed
typed_of d defs = record { roots = d.roots; ctors = d.ctors; defs = defs }

module _ (env : Env) (defs : List TypedDef) (m : ℕ)
    (ctors : (i : ℕ) (c : TypedCtor) → slice_get env.declared.ctors i ≡ Some c → HasFields env.declared.roots c) where
  abbrev t : Typed
  t = typed_of env.declared defs

  abbrev pub Ranges : Scope → Type 0
  Ranges sc = AreInRange env.declared.roots m (sorts_in sc)

  -- what a pattern binds, and the scope after it
  pub record IsBound (s : GenericSort) (q : TypedPattern) (sc after : Scope) : Type 0 where
    pub bound : List GenericSort
    pub sorts : sorts_in after ≡ sorts_in sc ++ bound
    pub binds : sorted.Binds t s q bound
    pub in_range : Ranges after

  pub record AreBound (ss : List GenericSort) (qs : List TypedPattern) (sc after : Scope) : Type 0 where
    pub bound : List GenericSort
    pub sorts : sorts_in after ≡ sorts_in sc ++ bound
    pub binds : BindEach t ss qs bound
    pub in_range : Ranges after

  -- what the name of a pattern binds
  own_sorts : {k : ℕ} {sc after : Scope} {s : GenericSort} {n : Option Word} → Binds k sc s n after
      → sorts_in after ≡ sorts_in sc ++ own_value (is_some n) s
  own_sorts {k} {sc} binds_nothing = sym (append-nil (sorts_in sc))
  own_sorts {k} {sc} {after} {s} (binds_a_name w new) = sorts_append sc w s

  own_ranges : {k : ℕ} {sc after : Scope} {s : GenericSort} {n : Option Word} → Binds k sc s n after
      → IsInRange env.declared.roots m s → Ranges sc → Ranges after
  own_ranges binds_nothing h ok = ok
  own_ranges {k} {sc} {after} {s} (binds_a_name w new) h ok =
      subst (AreInRange env.declared.roots m) (sym (sorts_append sc w s))
      (append_in_range env.declared.roots m ok (more_in_range h none_in_range))

  mutual
    pub pattern_bound : {k : ℕ} {sc after : Scope} {s : GenericSort} {p : PatternTree} {q : TypedPattern}
        → TypesPattern env k sc s p q after → IsInRange env.declared.roots m s → Ranges sc → PatternInts p
        → IsBound s q sc after
    pattern_bound {k} {sc} {after} {s} (a_wildcard {n = n} at b) h ok ints = record {
      bound = own_value (is_some n) s;
      sorts = own_sorts b;
      binds = binds_any refl;
      in_range = own_ranges b h ok;
    }
    pattern_bound {k} {sc} {after} {s} (a_number {n = n} at v is b) h ok ints = record {
      bound = own_value (is_some n) s;
      sorts = own_sorts b;
      binds = binds_int v refl is ints;
      in_range = own_ranges b h ok;
    }
    pattern_bound {k} {sc} {after} {s} (a_truth {n = n} at v is b) h ok ints = record {
      bound = own_value (is_some n) s;
      sorts = own_sorts b;
      binds = binds_bool v refl is;
      in_range = own_ranges b h ok;
    }
    pattern_bound {k} {sc} {after} {s}
        (a_ctor {mid = mid} {n = n} {ts = ts} at w i c args found there is b rest) h ok ints =
        let own = ctors i c there in
        let parts = root_parts env.declared.roots m c.root args h is in
        let same = same_Some own.owner parts.root (sym own.there ∙ parts.there) in
        let count = parts.count ∙ ap (λ (r : TypedRoot). r.type_params) (sym same) in
        let all = patterns_bound rest
        (puts_in_range env.declared.roots own.owner.type_params m args parts.all count own.fields)
        (own_ranges b h ok) ints in
        record {
          bound = own_value (is_some n) s ++ all.bound;
          sorts = all.sorts ∙ ap (λ l. l ++ all.bound) (own_sorts b)
              ∙ append_assoc (sorts_in sc) (own_value (is_some n) s) all.bound;
          binds = binds_ctor i c args ts refl there is all.binds;
          in_range = all.in_range;
        }

    pub patterns_bound : {k : ℕ} {sc after : Scope} {ss : List GenericSort} {ps : PatternTrees} {qs : List TypedPattern}
        → TypesPatterns env k sc ss ps qs after → AreInRange env.declared.roots m ss → Ranges sc → PatternsInts ps
        → AreBound ss qs sc after
    patterns_bound {k} {sc} no_pattern h ok ints =
        record { bound = []; sorts = sym (append-nil (sorts_in sc)); binds = bind_none; in_range = ok }
    patterns_bound {k} {sc} (one_pattern {mid = mid} first rest) (more_in_range h hs) ok ints =
        let a = pattern_bound first h ok ints.0 in
        let b = patterns_bound rest hs a.in_range ints.1 in
        record {
          bound = a.bound ++ b.bound;
          sorts = b.sorts ∙ ap (λ l. l ++ b.bound) a.sorts ∙ append_assoc (sorts_in sc) a.bound b.bound;
          binds = bind_more a.binds b.binds;
          in_range = b.in_range;
        }
