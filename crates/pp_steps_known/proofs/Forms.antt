-- The forms of expressions: what they reach is known, where it is of their parts.
use Rattle.std.proofs.Common.{ℕ, zero, suc, List, [], ◌∷◌, ◌++◌, Option, Some, refl}
use Rattle.std.specs.Prelude.{All, pos, slice_index_or}
use Rattle.std.proofs.Math.Nat.{add-zero}
use Rattle.std.proofs.lemmas.List.Elements.{All-append, All-head, All-nil, All-push, All-tail}
use Rattle.pp_tree.specs.declared.operator.BinaryOp.{BinaryOp}
use Rattle.pp_tree.specs.declared.operator.BinaryOp.TheVariants.{AndAlso, OrElse, Div, Rem, Equal}
use Rattle.pp_prog.specs.declared.id.CheckId.{CheckId}
use Rattle.pp_prog.specs.declared.id.CtorId.{CtorId}
use Rattle.pp_prog.specs.declared.id.FunctionId.{FunctionId}
use Rattle.pp_prog.specs.declared.types.Ctor.{Ctor}
use Rattle.pp_steps.specs.declared.step.Step.{Step}
use Rattle.pp_steps.specs.declared.step.Step.TheVariants as steps
use Rattle.pp_steps.specs.Compile.{Compiling, Site, all, all_from, binary, branches, one, operating, quotient, skipping}
use Rattle.pp_steps.specs.Compile.{unless, when}
use Rattle.pp_steps.specs.Known.{Tells}
use Rattle.pp_steps.specs.Meaning.{Missing, Values}
use Rattle.pp_steps.specs.Piece.{Piece, after, asks, bind, demand, joined, plain, possible}
use Rattle.pp_steps_run.specs.Told.{On}
use Rattle.pp_steps_known.proofs.Given.{IsGiven, IsKnown, choice_known, demand_known, given_left, given_right}
use Rattle.pp_steps_known.proofs.Given.{known_behind, known_joined, known_plain, known_within, possible_known}
use Rattle.pp_steps_known.proofs.Given.{unless_known, when_known}

-- ---- what is known where an expression begins

module _ (ρ : Values) (K : ℕ → Type 0) where
  -- Whether an expression is reached is known. Where it is, the variables in scope are known, and C holds, which says
  -- what is known of its frame.
  pub record IsScope (C : Type 0) (env : List ℕ) (reach : ℕ) : Type 0 where
    pub known : K reach
    pub variables : On ρ reach → All K env
    pub frame : On ρ reach → C

module _ {ρ : Values} {K : ℕ → Type 0} {C : Type 0} where
  -- the scope further on
  pub scope_on : {env : List ℕ} {a : ℕ} (b : ℕ) → K b → (On ρ b → On ρ a) → IsScope ρ K C env a → IsScope ρ K C env b
  scope_on b h r s = record {
    known = h;
    variables = λ on. s.variables (r on);
    frame = λ on. s.frame (r on);
  }

  pub scope_push : {env : List ℕ} {a : ℕ} (x : ℕ) → (On ρ a → K x) → IsScope ρ K C env a
      → IsScope ρ K C (env ++ x ∷ []) a
  scope_push {env = env} x h s = record {
    known = s.known;
    variables = λ on. All-push K env x (s.variables on) (h on);
    frame = s.frame;
  }

  pub scope_join : {env : List ℕ} {a : ℕ} (ns : List ℕ) → (On ρ a → All K ns) → IsScope ρ K C env a
      → IsScope ρ K C (env ++ ns) a
  scope_join {env = env} ns h s = record {
    known = s.known;
    variables = λ on. All-append K env ns (s.variables on) (h on);
    frame = s.frame;
  }

-- a variable of the scope, in a run whose first number is known
variable_in : (K : ℕ → Type 0) → K 0 → (env : List ℕ) (i : ℕ) → All K env → K (slice_index_or env i 0)
variable_in K first [] i h = first
variable_in K first (n ∷ env) zero h = All-head K n env h
variable_in K first (n ∷ env) (suc i) h = variable_in K first env i (All-tail K n env h)

module _ (ctors : List Ctor) (missing : Missing) (ρ : Values) (K : ℕ → Type 0) where
  abbrev pub Given : ℕ → List Step → Type 0
  Given k ss = IsGiven ρ K ctors missing k ss

  quotient_known : (asked : Option CheckId) (op : BinaryOp) (check : Option CheckId) (k alive x y : ℕ)
      → Given k (quotient asked op check k alive x y).steps → K alive
      → (On ρ alive → K x) → (On ρ alive → K y) → IsKnown ρ K K alive (quotient asked op check k alive x y)
  quotient_known asked op check k alive x y h a hx hy =
      let z : Piece ℕ = plain (steps.Int (pos 0) ∷ steps.Binary Equal y k ∷ steps.Not (suc k) ∷ [])
      (suc (suc k)) alive in
      let n = after k z in
      let d = demand (asks asked check) n alive (suc (suc k)) in
      let q = one (steps.Binary op x y) (after n d) d.alive in
      let hz = given_left k z.steps (d.steps ++ q.steps) h in
      let hdq = given_right k z.steps (d.steps ++ q.steps) h in
      let test = λ (on : On ρ alive). hz.tells.1.1.0 (hz.tells.1.0 (hy on) hz.tells.0) in
      let kd = demand_known (asks asked check) n alive (suc (suc k)) (given_left n d.steps q.steps hdq) a test in
      let hq = given_right n d.steps q.steps hdq in
      known_behind z (joined d q) (All-nil K)
      (known_joined d q kd (known_plain q.steps (after n d) d.alive kd.alive
      (λ on. hq.tells.0 (hx (kd.reached on)) (hy (kd.reached on)))))

  operating_known : (asked : Option CheckId) (op : BinaryOp) (check : Option CheckId) (k alive x y : ℕ)
      → Given k (operating asked op check k alive x y).steps → K alive
      → (On ρ alive → K x) → (On ρ alive → K y) → IsKnown ρ K K alive (operating asked op check k alive x y)
  operating_known asked Div check k alive x y h a hx hy = quotient_known asked Div check k alive x y h a hx hy
  operating_known asked Rem check k alive x y h a hx hy = quotient_known asked Rem check k alive x y h a hx hy
  operating_known asked op check k alive x y h a hx hy =
      known_plain (steps.Binary op x y ∷ []) k alive a (λ on. h.tells.0 (hx on) (hy on))

module _ (ctors : List Ctor) (missing : Missing) (ρ : Values) (K : ℕ → Type 0) (C : Type 0) where
  -- what the expression reaches is known, in a scope that is known
  abbrev pub Knows : Compiling → Type 0
  Knows m = (k : ℕ) (env : List ℕ) (reach : ℕ) → IsGiven ρ K ctors missing k (m k env reach).steps
      → IsScope ρ K C env reach → IsKnown ρ K K reach (m k env reach)

  pub literal_knows : (s : Step) → ((k : ℕ) → Tells ρ K s k → K k) → Knows (λ k env reach. one s k reach)
  literal_knows s tells k env reach h scope = known_plain (s ∷ []) k reach scope.known (λ on. tells k h.tells.0)

  pub variable_knows : K 0 → (i : ℕ) → Knows (λ k env reach. plain [] (slice_index_or env i 0) reach)
  variable_knows first i k env reach h scope =
      known_plain [] (slice_index_or env i 0) reach scope.known (λ on. variable_in K first env i (scope.variables on))

  -- a step of the outcome
  pub map_knows : (m : Compiling) (s : ℕ → Step) → Knows m → ((n a : ℕ) → Tells ρ K (s a) n → K a → K n)
      → Knows (λ k env reach. bind k (m k env reach) (λ n x alive. one (s x) n alive))
  map_knows m s hm tells k env reach h scope =
      let x = m k env reach in
      let n = after k x in
      let y = one (s x.out) n x.alive in
      let hx = hm k env reach (given_left k x.steps y.steps h) scope in
      known_joined x y hx (known_plain y.steps n x.alive hx.alive
      (λ on. tells n x.out (given_right k x.steps y.steps h).tells.0 (hx.out on)))

  pub val_knows : (m n : Compiling) → Knows m → Knows n
      → Knows (λ k env reach. bind k (m k env reach) (λ i x alive. n i (env ++ x ∷ []) alive))
  val_knows m n hm hn k env reach h scope =
      let x = m k env reach in
      let y = n (after k x) (env ++ x.out ∷ []) x.alive in
      let hx = hm k env reach (given_left k x.steps y.steps h) scope in
      known_joined x y hx (hn (after k x) (env ++ x.out ∷ []) x.alive (given_right k x.steps y.steps h)
      (scope_push x.out hx.out (scope_on x.alive hx.alive hx.reached scope)))

  -- ---- operators

  skip_known : (b : Compiling) → Knows b → (k : ℕ) (env : List ℕ) (taken out alive : ℕ)
      → IsGiven ρ K ctors missing k (skipping b k env taken out alive).steps → IsScope ρ K C env taken
      → (On ρ taken → On ρ alive) → K alive → (On ρ alive → K out)
      → IsKnown ρ K K alive (skipping b k env taken out alive)
  skip_known b hb k env taken out alive h scope r a ho =
      let y = b k env taken in
      let z : Piece (Option ℕ) = plain [] (Some out) alive in
      let hy = hb k env taken (given_left k y.steps _ h) scope in
      choice_known k taken (after k y) y z (add-zero (after k y)) h scope.known (known_within y r hy)
      (known_plain [] (Some out) alive a ho)

  pub binary_knows : (asked : Option CheckId) (op : BinaryOp) (check : Option CheckId) (a b : Compiling) → Knows a
      → Knows b → Knows (binary asked op a b check)
  binary_knows asked AndAlso check a b ha hb k env reach h scope =
      let x = a k env reach in
      let n = after k x in
      let w = when n x.alive x.out in
      let s = skipping b (after n w) env n x.out x.alive in
      let hx = ha k env reach (given_left k x.steps (w.steps ++ s.steps) h) scope in
      let hws = given_right k x.steps (w.steps ++ s.steps) h in
      let hw = when_known n x.alive x.out (given_left n w.steps s.steps hws) hx.alive hx.out in
      known_joined x (joined w s) hx (known_behind w s (All-nil K)
      (skip_known b hb (after n w) env n x.out x.alive (given_right n w.steps s.steps hws)
      (scope_on n hw.known (λ on. hx.reached (hw.first on)) scope) hw.first hx.alive hx.out))
  binary_knows asked OrElse check a b ha hb k env reach h scope =
      let x = a k env reach in
      let n = after k x in
      let w = unless n x.alive x.out in
      let s = skipping b (after n w) env (suc n) x.out x.alive in
      let hx = ha k env reach (given_left k x.steps (w.steps ++ s.steps) h) scope in
      let hws = given_right k x.steps (w.steps ++ s.steps) h in
      let hw = unless_known n x.alive x.out (given_left n w.steps s.steps hws) hx.alive hx.out in
      known_joined x (joined w s) hx (known_behind w s (All-nil K)
      (skip_known b hb (after n w) env (suc n) x.out x.alive (given_right n w.steps s.steps hws)
      (scope_on (suc n) hw.known (λ on. hx.reached (hw.first on)) scope) hw.first hx.alive hx.out))
  binary_knows asked op check a b ha hb k env reach h scope =
      let x = a k env reach in
      let n = after k x in
      let y = b n env x.alive in
      let z = operating asked op check (after n y) y.alive x.out y.out in
      let hx = ha k env reach (given_left k x.steps (y.steps ++ z.steps) h) scope in
      let hyz = given_right k x.steps (y.steps ++ z.steps) h in
      let hy = hb n env x.alive (given_left n y.steps z.steps hyz) (scope_on x.alive hx.alive hx.reached scope) in
      known_joined x (joined y z) hx (known_joined y z hy
      (operating_known ctors missing ρ K asked op check (after n y) y.alive x.out y.out
      (given_right n y.steps z.steps hyz) hy.alive (λ on. hx.out (hy.reached on)) hy.out))

  -- ---- conditions

  branches_known : (a b : Compiling) → Knows a → Knows b → (k : ℕ) (env : List ℕ) (reach taken missed : ℕ)
      → IsGiven ρ K ctors missing k (branches a b k env taken missed).steps
      → IsScope ρ K C env taken → (On ρ taken → On ρ reach) → IsScope ρ K C env missed → (On ρ missed → On ρ reach)
      → IsKnown ρ K K reach (branches a b k env taken missed)
  branches_known a b ha hb k env reach taken missed h t rt m rm =
      let x = a k env taken in
      let n = after k x in
      let y = b n env missed in
      let hx = ha k env taken (given_left k x.steps _ h) t in
      let hy = hb n env missed (given_left n y.steps _ (given_right k x.steps _ h)) m in
      choice_known k taken (after n y) x (possible y) refl h t.known (known_within x rt hx)
      (possible_known y (known_within y rm hy))

  pub if_knows : (c a b : Compiling) → Knows c → Knows a → Knows b
      → Knows (λ k env reach. bind k (c k env reach)
      (λ n x alive. bind n (when n alive x)
      (λ m taken _. bind m (unless m alive x) (λ l missed _. branches a b l env taken missed))))
  if_knows c a b hc ha hb k env reach h scope =
      let x = c k env reach in
      let n = after k x in
      let w = when n x.alive x.out in
      let m = after n w in
      let u = unless m x.alive x.out in
      let l = after m u in
      let y = branches a b l env n (suc m) in
      let hx = hc k env reach (given_left k x.steps (w.steps ++ (u.steps ++ y.steps)) h) scope in
      let hwuy = given_right k x.steps (w.steps ++ (u.steps ++ y.steps)) h in
      let huy = given_right n w.steps (u.steps ++ y.steps) hwuy in
      let hw = when_known n x.alive x.out (given_left n w.steps (u.steps ++ y.steps) hwuy) hx.alive hx.out in
      let hu = unless_known m x.alive x.out (given_left m u.steps y.steps huy) hx.alive hx.out in
      let further = scope_on x.alive hx.alive hx.reached scope in
      known_joined x (joined w (joined u y)) hx (known_behind w (joined u y) (All-nil K)
      (known_behind u y (All-nil K)
      (branches_known a b ha hb l env x.alive n (suc m) (given_right m u.steps y.steps huy)
      (scope_on n hw.known hw.first further) hw.first (scope_on (suc m) hu.known hu.first further) hu.first)))

  pub assert_knows : (asked check : Option CheckId) (c rest : Compiling) → Knows c → Knows rest
      → Knows (λ k env reach. bind k (c k env reach)
      (λ n x alive. bind n (demand (asks asked check) n alive x) (λ m _ going. rest m env going)))
  assert_knows asked check c rest hc hr k env reach h scope =
      let x = c k env reach in
      let n = after k x in
      let d = demand (asks asked check) n x.alive x.out in
      let y = rest (after n d) env d.alive in
      let hx = hc k env reach (given_left k x.steps (d.steps ++ y.steps) h) scope in
      let hdy = given_right k x.steps (d.steps ++ y.steps) h in
      let hd = demand_known (asks asked check) n x.alive x.out (given_left n d.steps y.steps hdy) hx.alive hx.out in
      known_joined x (joined d y) hx (known_joined d y hd
      (hr (after n d) env d.alive (given_right n d.steps y.steps hdy)
      (scope_on d.alive hd.alive (λ on. hx.reached (hd.reached on)) scope)))

  -- ---- lists

  abbrev pub AllKnow : List Compiling → Type 0
  AllKnow [] = Unit {0}
  AllKnow (m ∷ ms) = Knows m × AllKnow ms

  all_from_known : (ms : List Compiling) → AllKnow ms → (done : List ℕ) (k : ℕ) (env : List ℕ) (reach : ℕ)
      → IsGiven ρ K ctors missing k (all_from done ms k env reach).steps → IsScope ρ K C env reach
      → (On ρ reach → All K done) → IsKnown ρ K (All K) reach (all_from done ms k env reach)
  all_from_known [] hs done k env reach h scope before = known_plain [] done reach scope.known before
  all_from_known (m ∷ ms) hs done k env reach h scope before =
      let x = m k env reach in
      let y = all_from (done ++ x.out ∷ []) ms (after k x) env x.alive in
      let hx = hs.0 k env reach (given_left k x.steps y.steps h) scope in
      known_joined x y hx (all_from_known ms hs.1 (done ++ x.out ∷ []) (after k x) env x.alive
      (given_right k x.steps y.steps h) (scope_on x.alive hx.alive hx.reached scope)
      (λ on. All-push K done x.out (before (hx.reached on)) (hx.out on)))

  pub all_known : (ms : List Compiling) → AllKnow ms → (k : ℕ) (env : List ℕ) (reach : ℕ)
      → IsGiven ρ K ctors missing k (all ms k env reach).steps → IsScope ρ K C env reach
      → IsKnown ρ K (All K) reach (all ms k env reach)
  all_known ms hs k env reach h scope = all_from_known ms hs [] k env reach h scope (λ on. All-nil K)

  -- what a call reaches is known, where its arguments are
  abbrev pub SiteKnows : Site → Type 0
  SiteKnows site = (k reach : ℕ) (g : FunctionId) (pre down : Option CheckId) (args : List ℕ)
      → IsGiven ρ K ctors missing k (site k reach g pre down args).steps → IsScope ρ K C args reach
      → IsKnown ρ K K reach (site k reach g pre down args)

  pub construct_knows : (ms : List Compiling) → AllKnow ms → (c : CtorId)
      → Knows (λ k env reach. bind k (all ms k env reach) (λ n xs alive. one (steps.Construct c xs) n alive))
  construct_knows ms hs c k env reach h scope =
      let x = all ms k env reach in
      let n = after k x in
      let y = one (steps.Construct c x.out) n x.alive in
      let hx = all_known ms hs k env reach (given_left k x.steps y.steps h) scope in
      known_joined x y hx (known_plain y.steps n x.alive hx.alive
      (λ on. (given_right k x.steps y.steps h).tells.0 (hx.out on)))

  pub call_knows : (ms : List Compiling) → AllKnow ms → (site : Site) → SiteKnows site
      → (g : FunctionId) (pre down : Option CheckId)
      → Knows (λ k env reach. bind k (all ms k env reach) (λ n xs alive. site n alive g pre down xs))
  call_knows ms hs site its g pre down k env reach h scope =
      let x = all ms k env reach in
      let n = after k x in
      let y = site n x.alive g pre down x.out in
      let hx = all_known ms hs k env reach (given_left k x.steps y.steps h) scope in
      known_joined x y hx (its n x.alive g pre down x.out (given_right k x.steps y.steps h)
      (record { known = hx.alive; variables = hx.out; frame = λ on. scope.frame (hx.reached on) }))
