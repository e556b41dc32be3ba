-- What a match reaches is known, where it is of its parts.
use Rattle.std.proofs.Common.{ℕ, suc, ◌∙◌, sym, Bool, true, false, List, [], ◌∷◌, ◌++◌, Option, Some, None, refl}
use Rattle.std.specs.Prelude.{All}
use Rattle.std.proofs.lemmas.Bool.{false≢true}
use Rattle.std.proofs.lemmas.List.Elements.{All-append, All-cons, All-nil}
use Rattle.pp_prog.specs.declared.id.CheckId.{CheckId}
use Rattle.pp_prog.specs.declared.types.Ctor.{Ctor}
use Rattle.pp_steps.specs.declared.step.Step.TheVariants as steps
use Rattle.pp_steps.specs.Compile.{Arm, Compiling, all_of, cases, deciding, matched, number_or, unless, when}
use Rattle.pp_steps.specs.Meaning.{Missing, Values}
use Rattle.pp_steps.specs.Patterns.{fitting}
use Rattle.pp_steps.specs.Piece.{Piece, after, asks, bind, choice, failing, joined, plain}
use Rattle.pp_steps_run.specs.Told.{On}
use Rattle.pp_steps_known.proofs.Given.{IsGiven, IsKnown, IsKnownSome, bit_is, choice_known, chosen_on, given_left}
use Rattle.pp_steps_known.proofs.Given.{given_right, known_behind, known_joined, known_within, possible_known}
use Rattle.pp_steps_known.proofs.Given.{unless_known, when_known}
use Rattle.pp_steps_known.proofs.Fitting.{all_of_known, pattern_known}
use Rattle.pp_steps_known.proofs.Forms.{IsScope, Knows, scope_join, scope_on}

-- ---- whether a case is taken

module _ (ρ : Values) (K : ℕ → Type 0) where
  -- Where the case is taken and where the next one is tried are known: where the pattern fits, and where the match is
  -- reached.
  pub record IsDecided (reach fits : ℕ) (x : Piece (ℕ × ℕ)) : Type 0 where
    pub goes : K x.out.0
    pub missed : K x.out.1
    pub taken : On ρ x.out.0 → On ρ fits
    pub tried : On ρ x.out.1 → On ρ reach
    pub fails : All K x.fails

module _ (ctors : List Ctor) (missing : Missing) (ρ : Values) (K : ℕ → Type 0) (C : Type 0) where
  abbrev pub GuardKnows : Option Compiling → Type 0
  GuardKnows None = Unit {0}
  GuardKnows (Some g) = Knows ctors missing ρ K C g

  pub record ArmKnows (x : Arm) : Type 0 where
    pub guard : GuardKnows x.guard
    pub body : Knows ctors missing ρ K C x.body

  abbrev pub AllArmsKnow : List Arm → Type 0
  AllArmsKnow [] = Unit {0}
  AllArmsKnow (x ∷ xs) = ArmKnows x × AllArmsKnow xs

  deciding_known : (o : Option Compiling) → GuardKnows o → (k : ℕ) (env : List ℕ) (reach fits : ℕ)
      → IsGiven ρ K ctors missing k (deciding o k env reach fits).steps → K reach → IsScope ρ K C env fits
      → (On ρ fits → On ρ reach) → IsDecided ρ K reach fits (deciding o k env reach fits)
  deciding_known None guard k env reach fits h a scope r =
      let u = unless k reach fits in
      let hu = unless_known k reach fits (given_left k u.steps [] h) a (λ on. scope.known) in
      record { goes = scope.known; missed = hu.known; taken = λ on. on; tried = hu.first; fails = All-nil K }
  deciding_known (Some g) guard k env reach fits h a scope r =
      let x = g k env fits in
      let n = after k x in
      let w = when n x.alive x.out in
      let m = after n w in
      let u = unless m x.alive x.out in
      let l = after m u in
      let z = steps.Choose fits (suc m) reach ∷ [] in
      let hx = guard k env fits (given_left k x.steps (w.steps ++ (u.steps ++ z)) h) scope in
      let hwuz = given_right k x.steps (w.steps ++ (u.steps ++ z)) h in
      let huz = given_right n w.steps (u.steps ++ z) hwuz in
      let hw = when_known n x.alive x.out (given_left n w.steps (u.steps ++ z) hwuz) hx.alive hx.out in
      let hu = unless_known m x.alive x.out (given_left m u.steps z huz) hx.alive hx.out in
      let hz = given_right m u.steps z huz in
      record {
        goes = hw.known;
        missed = hz.tells.0 scope.known (λ on. hu.known) (λ off. a);
        taken = λ on. hx.reached (hw.first on);
        tried = λ on. chosen_on ρ fits (suc m) reach l hz.obeys.0 on (λ o. r (hx.reached (hu.first o))) (λ o. o);
        fails = All-append K x.fails [] hx.fails (All-nil K);
      }

  -- ---- the cases

  module _ (asked : Option CheckId) where
    failing_known : (b : Bool) (reach : ℕ) → K reach → All K (failing b reach)
    failing_known true reach h = All-cons K reach [] h (All-nil K)
    failing_known false reach h = All-nil K

    cases_known : (xs : List Arm) → AllArmsKnow xs → (check : Option CheckId) (t k : ℕ) (env : List ℕ) (reach : ℕ)
        → IsGiven ρ K ctors missing k (cases asked xs check t k env reach).steps → IsScope ρ K C env reach
        → (On ρ reach → K t) → IsKnown ρ K (IsKnownSome K) reach (cases asked xs check t k env reach)
    cases_known [] hs check t k env reach h scope ht = record {
      alive = h.tells.0;
      fails = failing_known (asks asked check) reach scope.known;
      reached = λ on. absurd (never on);
      out = never;
    }
      where
        never : On ρ k → ⊥
        never on = false≢true (sym (bit_is _ false h.obeys.0) ∙ on)
    cases_known (x ∷ xs) hs check t k env reach h scope ht =
        let f = fitting x.pattern k t in
        let inner = env ++ f.bound in
        let p : Piece ℕ = plain f.steps t reach in
        let kt = after k p in
        let y = all_of kt f.tests reach in
        let kg = after kt y in
        let g = deciding x.guard kg inner reach y.out in
        let l = after kg g in
        let b = x.body l inner g.out.0 in
        let rest = cases asked xs check t (after l b) env g.out.1 in
        let c = choice (after (after l b) rest) g.out.0 b rest in
        let hp = given_left k f.steps (y.steps ++ (g.steps ++ c.steps)) h in
        let hygc = given_right k f.steps (y.steps ++ (g.steps ++ c.steps)) h in
        let hgc = given_right kt y.steps (g.steps ++ c.steps) hygc in
        let hc = given_right kg g.steps c.steps hgc in
        let hy = all_of_known (All K f.bound) f.tests kt reach (given_left kt y.steps (g.steps ++ c.steps) hygc)
        scope.known (λ on. (pattern_known ctors missing ρ K x.pattern k t hp (ht on)).chain) in
        let fits = scope_join f.bound hy.holds (scope_on y.out hy.known hy.reached scope) in
        let hg = deciding_known x.guard hs.0.guard kg inner reach y.out (given_left kg g.steps c.steps hgc)
        scope.known fits hy.reached in
        let hb = hs.0.body l inner g.out.0 (given_left l b.steps _ hc) (scope_on g.out.0 hg.goes hg.taken fits) in
        let hr = cases_known xs hs.1 check t (after l b) env g.out.1
        (given_left (after l b) rest.steps _ (given_right l b.steps _ hc))
        (scope_on g.out.1 hg.missed hg.tried scope) (λ on. ht (hg.tried on)) in
        possible_known (joined p (joined y (joined g c)))
        (known_behind p (joined y (joined g c)) (All-nil K)
        (known_behind y (joined g c) hy.fails
        (known_behind g c hg.fails
        (choice_known l g.out.0 (after (after l b) rest) b rest refl hc hg.goes
        (known_within b (λ on. hy.reached (hg.taken on)) hb) (known_within rest hg.tried hr)))))

    number_known : (t : ℕ) (o : Option ℕ) → IsKnownSome K o → K (number_or t o)
    number_known t None h = absurd h
    number_known t (Some n) h = h

    pub match_knows : (m : Compiling) → Knows ctors missing ρ K C m → (xs : List Arm) → AllArmsKnow xs
        → (check : Option CheckId)
        → Knows ctors missing ρ K C
        (λ k env reach. bind k (m k env reach) (λ n t alive. matched t (cases asked xs check t n env alive)))
    match_knows m hm xs hs check k env reach h scope =
        let x = m k env reach in
        let n = after k x in
        let y = cases asked xs check x.out n env x.alive in
        let hx = hm k env reach (given_left k x.steps y.steps h) scope in
        let hy = cases_known xs hs check x.out n env x.alive (given_right k x.steps y.steps h)
        (scope_on x.alive hx.alive hx.reached scope) hx.out in
        known_joined x (matched x.out y) hx
        (record {
          alive = hy.alive;
          fails = hy.fails;
          reached = hy.reached;
          out = λ on. number_known x.out y.out (hy.out on);
        })
