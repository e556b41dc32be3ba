-- What patterns bind at values that are held.
use Rattle.std.proofs.Common.{◌≡◌, ◌∙◌, ◌↔◌, ℕ, ℤ, Bool, true, false, List, [], ◌∷◌, ◌++◌, Option, Some, None, length}
use Rattle.std.proofs.Common.{map, drop, get_or, ◌+◌, ◌<◌, refl, sym, ap, subst, append-nil, append_assoc, nat_eq}
use Rattle.std.proofs.Common.{IsTrue, eq-eqb}
use Rattle.std.specs.Prelude.{if◌then◌else◌}
use Rattle.std.proofs.lemmas.List.{drop_more, length-map, map-append}
use Rattle.std.proofs.lemmas.List.Elements.{All-append, All-cons, All-nil}
use Rattle.std.proofs.lemmas.Bool.{eqb-true}
use Rattle.pp_prog.specs.declared.expr.Pattern.{Pattern}
use Rattle.pp_prog.specs.declared.expr.Pattern.TheFolds.{fold-roll-Pattern, map-Pattern}
use Rattle.pp_prog.specs.declared.expr.Pattern.TheOpen as pattern
use Rattle.pp_prog.specs.declared.expr.Pattern.TheViews.{roll-Pattern}
use Rattle.pp_prog.specs.declared.expr.Pattern.TheVariants.{Bind, Int, Bool as Truth, Ctor, rolls-Bind, rolls-Int}
use Rattle.pp_prog.specs.declared.expr.Pattern.TheVariants.{rolls-Bool, rolls-Ctor}
use Rattle.pp_prog.specs.declared.id.CtorId.{CtorId}
use Rattle.pp_prog.specs.declared.value.Value.{Value}
use Rattle.pp_prog.specs.declared.value.Value.TheOpen as layer
use Rattle.pp_prog.specs.declared.value.Value.TheVariants as value
use Rattle.pp_prog.specs.declared.value.Value.TheFolds.{fold-roll-Value}
use Rattle.pp_prog.specs.declared.value.Value.TheViews.{out-Value}
use Rattle.pp_prog.specs.Fits.{Fitting, bound_before, bound_both, fit, fit_bool, fit_fields, fit_int, fit_step}
use Rattle.pp_prog.specs.Fits.{fit_tree, fits_if}
use Rattle.pp_store.specs.declared.held.Held.{Held}
use Rattle.pp_store.specs.Values.{AreHeld, IsBefore, IsHeld, value_of, values_of}
use Rattle.pp_store.specs.declared.store.Parts.{Parts}
use Rattle.pp_eval.specs.Equality.{equal, equal_layer, equal_step}
use Rattle.pp_eval.proofs.Uneven.{uneven}
use Rattle.pp_stack.specs.declared.head.Look.{Look}
use Rattle.pp_stack.specs.declared.head.Look.TheVariants as look
use Rattle.pp_stack.specs.Heads.{IsLook}
use Rattle.pp_stack.specs.Moves.{Adds, AddsValues}
use Rattle.pp_stack.proofs.Heading.{equal_is, looked, looked_at}

-- ---- lists that grow

module _ (trees : List Value) where
  pub added_none : (old : List Held) → AddsValues trees old old []
  added_none old =
      record { more = []; added = sym (append-nil old); held = All-nil (IsBefore (length trees)); values = refl }

  pub added_one : (old new : List Held) (h : Held) → IsHeld trees h → new ≡ old ++ h ∷ []
      → AddsValues trees old new (value_of trees h ∷ [])
  added_one old new h is e =
      let P : Held → Type 0 = IsBefore (length trees) in
      record { more = h ∷ []; added = e; held = All-cons P h [] is (All-nil P); values = refl }

  added_both : (a b c : List Held) (vs ws : List Value) → AddsValues trees a b vs → AddsValues trees b c ws
      → AddsValues trees a c (vs ++ ws)
  added_both a b c vs ws x y =
      record {
        more = x.more ++ y.more;
        added = y.added ∙ ap (λ (l : List Held). l ++ y.more) x.added ∙ append_assoc a x.more y.more;
        held = All-append (IsBefore (length trees)) x.more y.more x.held y.held;
        values = map-append (value_of trees) x.more y.more
            ∙ ap (λ (l : List Value). l ++ values_of trees y.more) x.values
            ∙ ap (λ (l : List Value). vs ++ l) y.values;
      }

  -- what one pattern binds and what the next ones do
  pub adds_both : (a b c : List Held) (fits : Bool) (here more : Option (List Value)) → Adds trees a b true here
      → Adds trees b c fits more → Adds trees a c fits (bound_both here more)
  adds_both a b c true here more (vs, e, x) (ws, f, y) = (
    vs ++ ws,
    ap (λ (o : Option (List Value)). bound_both o more) e
        ∙ ap (λ (o : Option (List Value)). bound_before vs o) f,
    added_both a b c vs ws x y,
  )
  adds_both a b c false here more (vs, e, x) (f, (ws, y)) = (
    ap (λ (o : Option (List Value)). bound_both o more) e
        ∙ ap (λ (o : Option (List Value)). bound_before vs o) f,
    (vs ++ ws, added_both a b c vs ws x y),
  )

  -- nothing is bound where the test holds, and otherwise the value doesn't fit
  adds_if : (old : List Held) (b : Bool) (bound : Option (List Value)) → bound ≡ fits_if b → Adds trees old old b bound
  adds_if old true bound e = ([], e, added_none old)
  adds_if old false bound e = (e, ([], added_none old))

-- ---- a pattern by its form

module _ (v : Value) where
  fit_at : (y : pattern.Pattern-F Pattern) (p : Pattern) → p ≡ roll-Pattern y
      → fit p v ≡ fit_step (map-Pattern Pattern Fitting fit y) v
  fit_at y p e = ap (λ (q : Pattern). fit q v) e ∙ ap (λ (f : Fitting). f v) (fold-roll-Pattern Fitting fit_step y)

  fit_of_bind : (p q : Pattern) → p ≡ Bind q → fit p v ≡ bound_before (v ∷ []) (fit q v)
  fit_of_bind p q e = fit_at (pattern.Bind q) p (e ∙ sym (rolls-Bind q))

  fit_of_int : (p : Pattern) (n : ℤ) → p ≡ Int n → fit p v ≡ fit_int n (out-Value v)
  fit_of_int p n e = fit_at (pattern.Int n) p (e ∙ sym (rolls-Int n))

  fit_of_bool : (p : Pattern) (a : Bool) → p ≡ Truth a → fit p v ≡ fit_bool a (out-Value v)
  fit_of_bool p a e = fit_at (pattern.Bool a) p (e ∙ sym (rolls-Bool a))

  fit_of_ctor : (p : Pattern) (c : CtorId) (ps : List Pattern) → p ≡ Ctor c ps
      → fit p v ≡ fit_tree c (map fit ps) (out-Value v)
  fit_of_ctor p c ps e = fit_at (pattern.Ctor c ps) p (e ∙ sym (rolls-Ctor c ps))

-- a number or a truth value fits where the value is the same
int_by_equal : (n : ℤ) (y : layer.Value-F Value) → fit_int n y ≡ fits_if (equal_layer (layer.Int n) y)
int_by_equal n (layer.Int m) = refl
int_by_equal n (layer.Bool b) = refl
int_by_equal n (layer.Tree c fields) = refl

bool_by_equal : (a : Bool) (y : layer.Value-F Value) → fit_bool a y ≡ fits_if (equal_layer (layer.Bool a) y)
bool_by_equal a (layer.Int m) = refl
bool_by_equal a (layer.Bool b) = refl
bool_by_equal a (layer.Tree c fields) = refl

equal_of_int : (n : ℤ) (v : Value) → equal (value.Int n) v ≡ equal_layer (layer.Int n) (out-Value v)
equal_of_int n v =
    ap (λ (u : Value). equal u v) (sym (value.rolls-Int n))
    ∙ ap (λ (f : Value → Bool). f v) (fold-roll-Value (Value → Bool) equal_step (layer.Int n))

equal_of_bool : (a : Bool) (v : Value) → equal (value.Bool a) v ≡ equal_layer (layer.Bool a) (out-Value v)
equal_of_bool a v =
    ap (λ (u : Value). equal u v) (sym (value.rolls-Bool a))
    ∙ ap (λ (f : Value → Bool). f v) (fold-roll-Value (Value → Bool) equal_step (layer.Bool a))

not_true : (b : Bool) → (b ≡ true → ⊥) → b ≡ false
not_true true other = absurd (other refl)
not_true false other = refl

-- ---- what a pattern adds at a value, by its form

module _ (trees : List Value) (old : List Held) (p : Pattern) (v : Value) where
  pub adds_int : (n : ℤ) (b : Bool) → p ≡ Int n → IsTrue b ↔ (value.Int n ≡ v) → Adds trees old old b (fit p v)
  adds_int n b e is =
      adds_if trees old b (fit p v)
      (fit_of_int v p n e ∙ int_by_equal n (out-Value v)
      ∙ ap fits_if (sym (equal_of_int n v) ∙ equal_is (value.Int n) v b is))

  pub adds_bool : (a b : Bool) → p ≡ Truth a → IsTrue b ↔ (value.Bool a ≡ v) → Adds trees old old b (fit p v)
  adds_bool a b e is =
      adds_if trees old b (fit p v)
      (fit_of_bool v p a e ∙ bool_by_equal a (out-Value v)
      ∙ ap fits_if (sym (equal_of_bool a v) ∙ equal_is (value.Bool a) v b is))

  -- the value itself, and what the inner pattern adds
  pub adds_bind : (q : Pattern) (h : Held) (mid new : List Held) (fits : Bool) → p ≡ Bind q → IsHeld trees h
      → value_of trees h ≡ v → mid ≡ old ++ h ∷ [] → Adds trees mid new fits (fit q v)
      → Adds trees old new fits (fit p v)
  adds_bind q h mid new fits e is same grows adds =
      let first : Adds trees old mid true (Some (v ∷ [])) =
      (v ∷ [], refl, subst (λ (w : Value). AddsValues trees old mid (w ∷ [])) same (added_one trees old mid h is grows))
      in
      subst (λ (o : Option (List Value)). Adds trees old new fits o) (sym (fit_of_bind v p q e))
      (adds_both trees old mid new fits (Some (v ∷ [])) (fit q v) first adds)

  module _ (c : CtorId) (ps : List Pattern) (is : p ≡ Ctor c ps) where
    adds_nothing : fit_tree c (map fit ps) (out-Value v) ≡ None → Adds trees old old false (fit p v)
    adds_nothing e = (fit_of_ctor v p c ps is ∙ e, ([], added_none trees old))

    -- a tree of the constructor: what its fields add
    pub adds_fields : (d : CtorId) (fields : List Held) (new : List Held) (fits : Bool)
        → v ≡ value.Tree d (values_of trees fields) → c.0 ≡ d.0
        → Adds trees old new fits (fit_fields (map fit ps) (values_of trees fields)) → Adds trees old new fits (fit p v)
    adds_fields d fields new fits e same adds =
        let vs = values_of trees fields in
        subst (λ (o : Option (List Value)). Adds trees old new fits o)
        (sym (fit_of_ctor v p c ps is
        ∙ ap (λ (y : layer.Value-F Value). fit_tree c (map fit ps) y) (ap out-Value e ∙ value.outs-Tree d vs)
        ∙ ap (λ (b : Bool). let r : Option (List Value) = if b then fit_fields (map fit ps) vs else None in r)
        (eq-eqb c.0 d.0 same)))
        adds

    -- a tree of another constructor
    pub adds_no_fields : (d : CtorId) (fields : List Held) → v ≡ value.Tree d (values_of trees fields)
        → (c.0 ≡ d.0 → ⊥) → Adds trees old old false (fit p v)
    adds_no_fields d fields e other =
        let vs = values_of trees fields in
        adds_nothing
        (ap (λ (y : layer.Value-F Value). fit_tree c (map fit ps) y) (ap out-Value e ∙ value.outs-Tree d vs)
        ∙ ap (λ (b : Bool). let r : Option (List Value) = if b then fit_fields (map fit ps) vs else None in r)
        (not_true (nat_eq c.0 d.0) (λ same. other (eqb-true c.0 d.0 same))))

    leaf_fits : (x : Look) → ((q : Parts) → x ≡ look.Tree q → ⊥) → fit_tree c (map fit ps) (looked trees x) ≡ None
    leaf_fits (look.Int n) other = refl
    leaf_fits (look.Bool b) other = refl
    leaf_fits (look.Tree q) other = absurd (other q refl)

    -- no tree
    pub adds_no_tree : (x : Look) → IsLook trees x v → ((q : Parts) → x ≡ look.Tree q → ⊥)
        → Adds trees old old false (fit p v)
    adds_no_tree x at other =
        adds_nothing (ap (λ (y : layer.Value-F Value). fit_tree c (map fit ps) y) (looked_at trees x v at)
        ∙ leaf_fits x other)

-- ---- several patterns, one after another

before_twice : (vs ws : List Value) (more : Option (List Value))
    → bound_before vs (bound_before ws more) ≡ bound_before (vs ++ ws) more
before_twice vs ws None = refl
before_twice vs ws (Some us) =
    ap (λ (l : List Value). let r : Option (List Value) = Some l in r) (sym (append_assoc vs ws us))

module _ (trees : List Value) (ps : List Pattern) (hs : List Held) where
  -- what the patterns from this place on bind
  abbrev fit_from : ℕ → Option (List Value)
  fit_from i = fit_fields (map fit (drop i ps)) (values_of trees (drop i hs))

  abbrev whole : Option (List Value)
  whole = fit_fields (map fit ps) (values_of trees hs)

  -- these were added for the patterns before this place, and what the others bind comes behind them
  pub record IsFitting (i : ℕ) (old now : List Held) : Type 0 where
    pub held : AreHeld trees now
    pub values : List Value
    pub added : AddsValues trees old now values
    pub left : whole ≡ bound_before values (fit_from i)

  module _ (i : ℕ) (old now new : List Held) (is : IsFitting i old now) (p : Pattern) (h : Held) (lt : i < length ps)
      (also : i < length hs) (at : p ≡ get_or ps i p) (there : h ≡ get_or hs i h)
    where
      fit_next : fit_from i ≡ bound_both (fit p (value_of trees h)) (fit_from (i + 1))
      fit_next =
          ap (λ (l : List Pattern). fit_fields (map fit l) (values_of trees (drop i hs)))
          (drop_more ps i p lt ∙ ap (λ (q : Pattern). q ∷ drop (i + 1) ps) (sym at))
          ∙ ap (λ (l : List Held). fit_fields (map fit (p ∷ drop (i + 1) ps)) (values_of trees l))
          (drop_more hs i h also ∙ ap (λ (g : Held). g ∷ drop (i + 1) hs) (sym there))

      left_next : whole ≡ bound_before is.values (bound_both (fit p (value_of trees h)) (fit_from (i + 1)))
      left_next = is.left ∙ ap (bound_before is.values) fit_next

      more_fits : AreHeld trees new → Adds trees now new true (fit p (value_of trees h)) → IsFitting (i + 1) old new
      more_fits held (ws, e, x) =
          record {
            held = held;
            values = is.values ++ ws;
            added = added_both trees old now new is.values ws is.added x;
            left = left_next
                ∙ ap (λ (o : Option (List Value)). bound_before is.values (bound_both o (fit_from (i + 1)))) e
                ∙ before_twice is.values ws (fit_from (i + 1));
          }

      none_fits : Adds trees now new false (fit p (value_of trees h)) → Adds trees old new false whole
      none_fits (e, (ws, x)) = (
        left_next ∙ ap (λ (o : Option (List Value)). bound_before is.values (bound_both o (fit_from (i + 1)))) e,
        (is.values ++ ws, added_both trees old now new is.values ws is.added x),
      )

      module _ (fits : Bool) (adds : Adds trees now new fits (fit p (value_of trees h))) where
        adds_as : (b : Bool) → fits ≡ b → Adds trees now new b (fit p (value_of trees h))
        adds_as b e = subst (λ (c : Bool). Adds trees now new c (fit p (value_of trees h))) e adds

        pub fitting_more : AreHeld trees new → fits ≡ true → IsFitting (i + 1) old new
        fitting_more held e = more_fits held (adds_as true e)

        pub fitting_fails : fits ≡ false → Adds trees old new false whole
        fitting_fails e = none_fits (adds_as false e)

  -- lists of different length
  pub fitting_uneven : (old : List Held) → (length ps ≡ length hs → ⊥) → Adds trees old old false whole
  fitting_uneven old other = (
    uneven (map fit ps) (values_of trees hs)
        (λ e. other (sym (length-map ps fit) ∙ e ∙ length-map hs (value_of trees))),
    ([], added_none trees old),
  )
