-- What is known of the steps of a pattern: each test where those before it are true, and what is bound where all are.
use Rattle.std.proofs.Common.{◌≡◌, ℕ, suc, ◌+◌, true, List, [], ◌∷◌, ◌++◌, length, map, refl, sym, ap, ◌∙◌, subst}
use Rattle.std.specs.Prelude.{All, nat_eq}
use Rattle.std.proofs.lemmas.Bool.{and_parts, eqb-true}
use Rattle.std.proofs.lemmas.List.Elements.{All-append, All-cons, All-nil}
use Rattle.pp_list.proofs.With.{With, elements}
use Rattle.pp_prog.proofs.Induction.{each_pattern, pattern_under}
use Rattle.pp_prog.specs.declared.expr.Pattern.{Pattern}
use Rattle.pp_prog.specs.declared.expr.Pattern.TheFolds.{fold-roll-Pattern, map-Pattern}
use Rattle.pp_prog.specs.declared.expr.Pattern.TheOpen as pattern
use Rattle.pp_prog.specs.declared.expr.Pattern.TheViews.{roll-Pattern}
use Rattle.pp_prog.specs.declared.id.CtorId.{CtorId}
use Rattle.pp_prog.specs.declared.types.Ctor.{Ctor}
use Rattle.pp_prog.specs.declared.value.Value.{Value}
use Rattle.pp_prog.specs.declared.value.Value.TheOpen as layer
use Rattle.pp_prog.specs.declared.value.Value.TheVariants.{Tree, rolls-Tree}
use Rattle.pp_prog.specs.declared.value.Value.TheViews.{out-Value, roll-Value, roll-out-Value}
use Rattle.pp_steps.specs.declared.step.Step.{Step}
use Rattle.pp_steps.specs.declared.step.Step.TheVariants as steps
use Rattle.pp_steps.specs.Compile.{all_of, when}
use Rattle.pp_steps.specs.Meaning.{Missing, Values, has_ctor, has_ctor_in}
use Rattle.pp_steps.specs.Patterns.{Fitting, Matching, equals, fit_fields, fitting, fitting_step}
use Rattle.pp_steps.specs.Piece.{Piece, after}
use Rattle.pp_steps_run.specs.Told.{On}
use Rattle.pp_steps_known.proofs.Given.{IsGiven, bit_is, given_left, given_right, when_known}

-- ---- constructors

-- the value is a tree of the constructor
record IsTree (c : CtorId) (v : Value) : Type 0 where
  fields : List Value
  is : v ≡ Tree c fields

same_ctor : (c d : CtorId) → nat_eq c.0 d.0 ≡ true → d ≡ c
same_ctor c d h = let mk : ℕ → CtorId = λ n. record { 0 = n } in sym (ap mk (eqb-true c.0 d.0 h))

tree_in : (c : CtorId) (n : ℕ) (v : Value) (o : layer.Value-F Value) → out-Value v ≡ o → has_ctor_in c n o ≡ true
    → IsTree c v
tree_in c n v (layer.Int m) e h = absurd (cc)
tree_in c n v (layer.Bool b) e h = absurd (cc)
tree_in c n v (layer.Tree d fields) e h = record {
  fields = fields;
  is = sym (roll-out-Value v) ∙ ap roll-Value e ∙ rolls-Tree d fields
      ∙ ap (λ (a : CtorId). Tree a fields) (same_ctor c d (and_parts (nat_eq c.0 d.0) _ h).0);
}

-- a value with the constructor is a tree of it
tree_of : (c : CtorId) (n : ℕ) (v : Value) → has_ctor c n v ≡ true → IsTree c v
tree_of c n v h = tree_in c n v (out-Value v) refl h

-- ---- tests in order

module _ (ρ : Values) (K : ℕ → Type 0) where
  -- each test is known where those before it are true, and where all are true Q holds
  abbrev pub Chain : List ℕ → Type 0 → Type 0
  Chain [] Q = Q
  Chain (t ∷ ts) Q = K t × (On ρ t → Chain ts Q)

  chain_then : (ts : List ℕ) (P Q : Type 0) → (P → Q) → Chain ts P → Chain ts Q
  chain_then [] P Q f h = f h
  chain_then (t ∷ ts) P Q f h = (h.0, λ on. chain_then ts P Q f (h.1 on))

  chain_join : (ts us ms ns : List ℕ) → Chain ts (All K ms) → Chain us (All K ns) → Chain (ts ++ us) (All K (ms ++ ns))
  chain_join [] us ms ns h g = chain_then us (All K ns) (All K (ms ++ ns)) (λ all. All-append K ms ns h all) g
  chain_join (t ∷ ts) us ms ns h g = (h.0, λ on. chain_join ts us ms ns (h.1 on) g)

  -- what is known of a pattern's numbers, where the matched value is
  pub record IsFittingKnown (x : Fitting) : Type 0 where
    pub chain : Chain x.tests (All K x.bound)

module _ (ctors : List Ctor) (missing : Missing) (ρ : Values) (K : ℕ → Type 0) where
  abbrev Given : ℕ → List Step → Type 0
  Given k ss = IsGiven ρ K ctors missing k ss

  abbrev pub FitsKnown : Pattern → Type 0
  FitsKnown p = (k t : ℕ) → Given k (fitting p k t).steps → K t → IsFittingKnown ρ K (fitting p k t)

  equals_known : (s : Step) (k t : ℕ) → Given k (equals s k t).steps → K k → K t → IsFittingKnown ρ K (equals s k t)
  equals_known s k t h here known = record { chain = (h.tells.1.0 here known, λ on. All-nil K) }

  abbrev inner_of : List (With FitsKnown) → List Matching
  inner_of ps = map fitting (elements ps)

  fields_known : (c : CtorId) (ps : List (With FitsKnown)) (j k t : ℕ)
      → Given k (fit_fields c j (inner_of ps) k t).steps → K t
      → IsTree c (ρ t) → IsFittingKnown ρ K (fit_fields c j (inner_of ps) k t)
  fields_known c [] j k t h known tree = record { chain = All-nil K }
  fields_known c (p ∷ ps) j k t h known tree =
      let x = fitting p.0 (suc k) k in
      let n = suc k + length x.steps in
      let y = fit_fields c (suc j) (inner_of ps) n t in
      let rest : Given (suc k) (x.steps ++ y.steps) = record { obeys = h.obeys.1; tells = h.tells.1 } in
      let hx = p.1 (suc k) k (given_left (suc k) x.steps y.steps rest) (h.tells.0 known tree.fields tree.is) in
      let hy = fields_known c ps (suc j) n t (given_right (suc k) x.steps y.steps rest) known tree in
      record { chain = chain_join ρ K x.tests y.tests x.bound y.bound hx.chain hy.chain }

  level : (y : pattern.Pattern-F (With FitsKnown)) (k t : ℕ)
      → Given k (fitting_step (map-Pattern Pattern Matching fitting (pattern_under y)) k t).steps → K t
      → IsFittingKnown ρ K (fitting_step (map-Pattern Pattern Matching fitting (pattern_under y)) k t)
  level pattern.Any k t h known = record { chain = All-nil K }
  level (pattern.Bind inner) k t h known =
      let x = fitting inner.0 k t in
      record {
        chain = chain_then ρ K x.tests (All K x.bound) (All K (t ∷ x.bound))
            (λ all. All-cons K t x.bound known all) (inner.1 k t h known).chain;
      }
  level (pattern.Int n) k t h known = equals_known (steps.Int n) k t h h.tells.0 known
  level (pattern.Bool b) k t h known = equals_known (steps.Bool b) k t h h.tells.0 known
  level (pattern.Ctor c ps) k t h known =
      let rest : Given (suc k) (fit_fields c 0 (inner_of ps) (suc k) t).steps =
      record { obeys = h.obeys.1; tells = h.tells.1 } in
      record {
        chain = (
          h.tells.0 known,
          λ on. (fields_known c ps 0 (suc k) t rest known
              (tree_of c _ (ρ t) (sym (bit_is _ _ h.obeys.0) ∙ on))).chain,
        );
      }

  at_level : (y : pattern.Pattern-F (With FitsKnown)) → FitsKnown (roll-Pattern (pattern_under y))
  at_level y = subst (λ (f : Matching). (k t : ℕ) → Given k (f k t).steps → K t → IsFittingKnown ρ K (f k t))
      (sym (fold-roll-Pattern Matching fitting_step (pattern_under y))) (level y)

  pub pattern_known : (p : Pattern) → FitsKnown p
  pattern_known = each_pattern FitsKnown at_level

-- ---- whether all tests are true

module _ (ρ : Values) (K : ℕ → Type 0) where
  -- the number is known, and true only where the piece is reached and Q holds
  pub record IsAllKnown (Q : Type 0) (alive : ℕ) (x : Piece ℕ) : Type 0 where
    pub known : K x.out
    pub reached : On ρ x.out → On ρ alive
    pub holds : On ρ x.out → Q
    pub fails : All K x.fails

module _ {ctors : List Ctor} {missing : Missing} {ρ : Values} {K : ℕ → Type 0} where
  pub all_of_known : (Q : Type 0) (ts : List ℕ) (k alive : ℕ)
      → IsGiven ρ K ctors missing k (all_of k ts alive).steps → K alive → (On ρ alive → Chain ρ K ts Q)
      → IsAllKnown ρ K Q alive (all_of k ts alive)
  all_of_known Q [] k alive h a chain = record { known = a; reached = λ on. on; holds = chain; fails = All-nil K }
  all_of_known Q (t ∷ ts) k alive h a chain =
      let w = when k alive t in
      let y = all_of (after k w) ts k in
      let both = when_known k alive t (given_left k w.steps y.steps h) a (λ on. (chain on).0) in
      let rest = all_of_known Q ts (after k w) k (given_right k w.steps y.steps h) both.known
      (λ on. (chain (both.first on)).1 (both.second on)) in
      record {
        known = rest.known;
        reached = λ on. both.first (rest.reached on);
        holds = rest.holds;
        fails = rest.fails;
      }
