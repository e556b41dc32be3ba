-- What a pattern binds below its top lies below the matched value.
use Rattle.std.proofs.Common.{◌≡◌, ◌⊎◌, ℕ, zero, suc, Bool, true, List, [], ◌∷◌, ◌++◌, map, Some}
use Rattle.std.proofs.Common.{length, slice_get, refl, sym, ap, ◌∙◌, subst, arith, inl, inr, ⊎_elim, Contains}
use Rattle.std.proofs.Common.{length-append}
use Rattle.std.specs.Prelude.{nat_eq}
use Rattle.pp_list.proofs.With.{With, elements}
use Rattle.pp_prog.proofs.Induction.{each_pattern, pattern_under}
use Rattle.pp_list.specs.Joined.{joined}
use Rattle.pp_graph.specs.Rows.{marked}
use Rattle.pp_prog.specs.declared.expr.Pattern.{Pattern}
use Rattle.pp_prog.specs.declared.expr.Pattern.TheFolds.{fold-roll-Pattern, map-Pattern}
use Rattle.pp_prog.specs.declared.expr.Pattern.TheOpen as pattern
use Rattle.pp_prog.specs.declared.expr.Pattern.TheViews.{roll-Pattern}
use Rattle.pp_prog.specs.declared.id.CtorId.{CtorId}
use Rattle.pp_prog.specs.declared.value.Value.{Value}
use Rattle.pp_prog.specs.declared.value.Value.TheOpen as value
use Rattle.pp_prog.specs.declared.value.Value.TheVariants.{Tree, rolls-Tree}
use Rattle.pp_prog.specs.declared.value.Value.TheViews.{out-Value, roll-Value, roll-out-Value}
use Rattle.pp_prog.specs.Fits.{Fitting, fit, fit_fields, fit_step, fit_tree}
use Rattle.pp_prog.proofs.PatternFits.{before_is, both_are, if_some, int_binds, truth_binds}
use Rattle.pp_prog.specs.Values.{IsBelow, is_deeper, is_field}
use Rattle.pp_checks.specs.Marks.{Marking, marking_step, marks_of}

-- a place in two lists, one after another, is one in the first or one in the second
pub split_at : (ms ns : List Bool) (vs ws : List Value) → length ms ≡ length vs → (j : ℕ) (w : Value)
    → marked (ms ++ ns) j ≡ true → slice_get (vs ++ ws) j ≡ Some w
    → ((marked ms j ≡ true) × (slice_get vs j ≡ Some w))
    ⊎ ((k : ℕ) × (marked ns k ≡ true) × (slice_get ws k ≡ Some w))
split_at [] ns [] ws e j w m is = inr (j, m, is)
split_at [] ns (v ∷ vs) ws e j w m is = absurd (omega (arith, e))
split_at (m ∷ ms) ns [] ws e j w h is = absurd (omega (arith, e))
split_at (m ∷ ms) ns (v ∷ vs) ws e zero w h is = inl (h, is)
split_at (m ∷ ms) ns (v ∷ vs) ws e (suc j) w h is = split_at ms ns vs ws (omega (arith, e)) j w h is

-- the marked values are the value itself, where its top is marked, or below it
pub record AreMarked (v : Value) (marks : List Bool) (vs : List Value) (top below : Bool) : Type 0 where
  pub size : length marks ≡ length vs
  pub each : (j : ℕ) (w : Value) → marked marks j ≡ true → slice_get vs j ≡ Some w
      → ((top ≡ true) × (w ≡ v)) ⊎ ((below ≡ true) × IsBelow w v)

-- the marked values are fields, or below one
record AreInside (fields : List Value) (marks : List Bool) (vs : List Value) (below : Bool) : Type 0 where
  size : length marks ≡ length vs
  each : (j : ℕ) (w : Value) → marked marks j ≡ true → slice_get vs j ≡ Some w
      → (below ≡ true) × ((u : Value) × Contains fields u × ((w ≡ u) ⊎ IsBelow w u))

abbrev Fine : Fitting → Marking → Type 0
Fine f m = (v : Value) (vs : List Value) → f v ≡ Some vs → (top below : Bool) → AreMarked v (m top below) vs top below

abbrev FineAt : Pattern → Type 0
FineAt p = Fine (fit p) (marks_of p)

none_marked : (v : Value) (vs : List Value) (top below : Bool) → [] ≡ vs → AreMarked v [] vs top below
none_marked v vs top below e = subst (λ l. AreMarked v [] l top below) e (record { size = refl; each = λ j w m is. cc })

at_head : (x : Value) (xs : List Value) → Contains (x ∷ xs) x
at_head x xs = (0, omega arith, refl)

in_tail : (x y : Value) (xs : List Value) → Contains xs y → Contains (x ∷ xs) y
in_tail x y xs c = (suc c.0, omega (arith, c.1), c.2)

fields_marked : (ys : List (With FineAt)) (fields vs : List Value) → fit_fields (map fit (elements ys)) fields ≡ Some vs
    → (below : Bool) → AreInside fields (joined (map (λ (m : Marking). m below below)
    (map marks_of (elements ys)))) vs below
fields_marked [] [] vs e below =
    let same : [] ≡ vs = cc in
    subst (λ l. AreInside [] [] l below) same (record { size = refl; each = λ j w m is. cc })
fields_marked [] (f ∷ fs) vs e below = cc
fields_marked (y ∷ ys) [] vs e below = cc
fields_marked (y ∷ ys) (f ∷ fs) vs e below =
    let q = both_are (fit y.0 f) (fit_fields (map fit (elements ys)) fs) vs e in
    let here = y.1 f q.0 q.2 below below in
    let rest = fields_marked ys fs q.1 q.3 below in
    subst (λ l. AreInside (f ∷ fs) (marks_of y.0 below below ++ joined
    (map (λ (m : Marking). m below below) (map marks_of (elements ys)))) l below) q.4
    (joins y.0 (joined (map (λ (m : Marking). m below below) (map marks_of (elements ys)))) q.0 q.1 here
    rest)
  where
    joins : (p : Pattern) (ms : List Bool) (xs zs : List Value) → AreMarked f (marks_of p below below) xs below below
        → AreInside fs ms zs below
        → AreInside (f ∷ fs) (marks_of p below below ++ ms) (xs ++ zs) below
    joins p ms xs zs here rest = record {
      size = omega (arith, length-append (marks_of p below below) ms, length-append xs zs, here.size, rest.size);
      each = λ j w m is. ⊎_elim
          (λ a. ⊎_elim (λ t. (t.0, (f, at_head f fs, inl t.1))) (λ b. (b.0, (f, at_head f fs, inr b.1)))
          (here.each j w a.0 a.1))
          (λ b. let r = rest.each b.0 w b.1 b.2 in (r.0, (r.1.0, in_tail f r.1.0 fs r.1.1, r.1.2)))
          (split_at (marks_of p below below) ms xs zs here.size j w m is);
    }

tree_marked : (c : CtorId) (ys : List (With FineAt)) (v : Value) (o : value.Value-F Value) → out-Value v ≡ o
    → (vs : List Value)
    → fit_tree c (map fit (elements ys)) o ≡ Some vs → (top below : Bool)
    → AreMarked v (joined (map (λ (m : Marking). m below below) (map marks_of (elements ys)))) vs top below
tree_marked c ys v (value.Int n) is vs e top below = cc
tree_marked c ys v (value.Bool b) is vs e top below = cc
tree_marked c ys v (value.Tree d fields) is vs e top below =
    let m = if_some (nat_eq c.0 d.0) _ vs e in
    let r = fields_marked ys fields vs m.1 below in
    let tree : v ≡ Tree d fields = sym (roll-out-Value v) ∙ ap roll-Value is ∙ rolls-Tree d fields in
    record {
      size = r.size;
      each = λ j w h at.
          let k = r.each j w h at in
          inr (
            k.0,
            ⊎_elim (λ same. is_field d fields tree (subst (Contains fields) (sym same) k.1.1))
                (λ b. is_deeper d fields tree k.1.1 b) k.1.2,
          );
    }

level : (y : pattern.Pattern-F (With FineAt))
    → Fine (fit_step (map-Pattern Pattern Fitting fit (pattern_under y)))
    (marking_step (map-Pattern Pattern Marking marks_of (pattern_under y)))
level pattern.Any v vs e top below = none_marked v vs top below (cc)
level (pattern.Bind q) v vs e top below =
    let n = before_is (v ∷ []) (fit q.0 v) vs e in
    subst (λ l. AreMarked v (top ∷ marks_of q.0 top below) l top below) n.2 (behind q.0 n.0 (q.1 v n.0 n.1 top below))
  where
    behind : (p : Pattern) (more : List Value) → AreMarked v (marks_of p top below) more top below
        → AreMarked v (top ∷ marks_of p top below) (v ∷ more) top below
    behind p more h = record { size = omega (arith, h.size); each = by }
      where
        by : (j : ℕ) (w : Value) → marked (top ∷ marks_of p top below) j ≡ true → slice_get (v ∷ more) j ≡ Some w
            → ((top ≡ true) × (w ≡ v)) ⊎ ((below ≡ true) × IsBelow w v)
        by zero w m is = inl (m, cc)
        by (suc j) w m is = h.each j w m is
level (pattern.Int n) v vs e top below = none_marked v vs top below (int_binds n (out-Value v) vs e)
level (pattern.Bool a) v vs e top below = none_marked v vs top below (truth_binds a (out-Value v) vs e)
level (pattern.Ctor c ys) v vs e top below = tree_marked c ys v (out-Value v) refl vs e top below

at_level : (y : pattern.Pattern-F (With FineAt)) → FineAt (roll-Pattern (pattern_under y))
at_level y =
    let z = pattern_under y in
    let one = fold-roll-Pattern Fitting fit_step z in
    let two = fold-roll-Pattern Marking marking_step z in
    subst (λ f. Fine f (marks_of (roll-Pattern z))) (sym one)
    (subst (λ m. Fine (fit_step (map-Pattern Pattern Fitting fit z)) m) (sym two) (level y))

-- what a pattern binds is marked as it lies
pub pattern_marked : (p : Pattern) → FineAt p
pattern_marked = each_pattern FineAt at_level
