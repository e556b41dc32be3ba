-- The forms of expressions but `match`: their steps look at earlier ones alone.
use Rattle.std.proofs.Common.{ℕ, zero, suc, ◌+◌, ◌<◌, ◌≤◌, List, [], ◌∷◌, ◌++◌, length, Option, Some, sym, subst}
use Rattle.std.proofs.Common.{arith}
use Rattle.std.specs.Prelude.{pos, slice_index_or}
use Rattle.pp_tree.specs.declared.operator.BinaryOp.{BinaryOp}
use Rattle.pp_tree.specs.declared.operator.BinaryOp.TheVariants.{AndAlso, OrElse, Div, Rem, Equal}
use Rattle.pp_prog.specs.declared.id.CheckId.{CheckId}
use Rattle.pp_prog.specs.declared.id.CtorId.{CtorId}
use Rattle.pp_prog.specs.declared.id.FunctionId.{FunctionId}
use Rattle.pp_steps.proofs.Counting.{plus_zero}
use Rattle.pp_steps.specs.declared.step.Step.{Step}
use Rattle.pp_steps.specs.declared.step.Step.TheVariants as steps
use Rattle.pp_steps.specs.Compile.{Compiling, Site, all, all_from, binary, branches, one, operating, quotient}
use Rattle.pp_steps.specs.Compile.{skipping, unless, when}
use Rattle.pp_steps.specs.Piece.{Piece, after, asks, bind, choice, demand, joined, plain, possible}
use Rattle.pp_steps.specs.Reads.{Below, Reads}
use Rattle.pp_steps_exist.proofs.Within.{IsWithin, LessMaybe, LessOne, at_most, below_join, below_later, choice_within}
use Rattle.pp_steps_exist.proofs.Within.{demand_within, joined_within, one_within, plain_within, possible_within}
use Rattle.pp_steps_exist.proofs.Within.{unless_within, up, when_within}

pub below_end : (k n : ℕ) (env : List ℕ) → Below k env → Below (k + n) env
below_end k n env h = below_later k (k + n) env (at_most k n) h

pub below_more : (k : ℕ) (env : List ℕ) (x : ℕ) → Below k env → x < k → Below k (env ++ x ∷ [])
below_more k env x h g = below_join k env (x ∷ []) h (g, tt)

pub variable_below : (k : ℕ) (env : List ℕ) (i reach : ℕ) → Below k env → reach < k → slice_index_or env i 0 < k
variable_below k [] i reach h g = positive reach k g
  where
    positive : (a b : ℕ) → a < b → 0 < b
    positive a b h = omega arith
variable_below k (n ∷ env) zero reach h g = h.0
variable_below k (n ∷ env) (suc i) reach h g = variable_below k env i reach h.1 g

up_to : (a b n : ℕ) → a ≤ b → a ≤ b + n
up_to a b n h = omega arith

pub suc_up : (a k : ℕ) → a < k → a < suc k
suc_up a k h = omega arith

pub suc_self : (k : ℕ) → k < suc k
suc_self k = omega arith

module _ (base : ℕ) where
  -- numbers in scope, from number `base` on
  abbrev pub Scope : ℕ → List ℕ → Type 0
  Scope k env = (base ≤ k) × Below k env

  pub scope_end : (k n : ℕ) (env : List ℕ) → Scope k env → Scope (k + n) env
  scope_end k n env h = (up_to base k n h.0, below_end k n env h.1)

  scope_more : (k : ℕ) (env : List ℕ) (x : ℕ) → Scope k env → x < k → Scope k (env ++ x ∷ [])
  scope_more k env x h g = (h.0, below_more k env x h.1 g)

  pub scope_join : (k : ℕ) (env ns : List ℕ) → Scope k env → Below k ns → Scope k (env ++ ns)
  scope_join k env ns h g = (h.0, below_join k env ns h.1 g)

  -- in a scope of earlier numbers, reached at an earlier one
  abbrev pub Stays : Compiling → Type 0
  Stays m = (k : ℕ) (env : List ℕ) (reach : ℕ) → Scope k env → reach < k → IsWithin LessOne k (m k env reach)

  pub val_stays : (m n : Compiling) → Stays m → Stays n
      → Stays (λ k env reach. bind k (m k env reach) (λ i x alive. n i (env ++ x ∷ []) alive))
  val_stays m n hm hn k env reach e r =
      let x = m k env reach in
      let w = hm k env reach e r in
      joined_within k x (n (after k x) (env ++ x.out ∷ []) x.alive) w
      (hn (after k x) (env ++ x.out ∷ []) x.alive
      (scope_more (after k x) env x.out (scope_end k (length x.steps) env e) w.out) w.alive)

  -- a step of the outcome
  pub map_stays : (m : Compiling) (s : ℕ → Step) → Stays m → ((k a : ℕ) → a < k → Reads k (s a))
      → Stays (λ k env reach. bind k (m k env reach) (λ n x alive. one (s x) n alive))
  map_stays m s hm r k env reach e g =
      let x = m k env reach in
      let w = hm k env reach e g in
      joined_within k x (one (s x.out) (after k x) x.alive) w
      (one_within (s x.out) (after k x) x.alive (r (after k x) x.out w.out) w.alive)

  -- ---- operators

  two_end : (k : ℕ) → suc (suc k) < k + 3
  two_end k = omega arith

  quotient_within : (asked : Option CheckId) (op : BinaryOp) (check : Option CheckId) (k alive x y : ℕ) → alive < k
      → x < k → y < k → IsWithin LessOne k (quotient asked op check k alive x y)
  quotient_within asked op check k alive x y a p q =
      let z : Piece ℕ = plain (steps.Int (pos 0) ∷ steps.Binary Equal y k ∷ steps.Not (suc k) ∷ [])
      (suc (suc k)) alive in
      let n = after k z in
      let d = demand (asks asked check) n alive (suc (suc k)) in
      let wz = plain_within {R = LessOne} k z.steps (suc (suc k)) alive
      (tt, ((suc_up y k q, suc_self k), (suc_self (suc k), tt))) (two_end k) a in
      let wd = demand_within (asks asked check) n alive (suc (suc k)) (up alive k 3 a) (two_end k) in
      joined_within k z (joined d (one (steps.Binary op x y) (after n d) d.alive)) wz
      (joined_within n d (one (steps.Binary op x y) (after n d) d.alive) wd
      (one_within (steps.Binary op x y) (after n d) d.alive
      (up x n (length d.steps) (up x k 3 p), up y n (length d.steps) (up y k 3 q)) wd.alive))

  operating_within : (asked : Option CheckId) (op : BinaryOp) (check : Option CheckId) (k alive x y : ℕ) → alive < k
      → x < k → y < k → IsWithin LessOne k (operating asked op check k alive x y)
  operating_within asked Div check k alive x y a p q = quotient_within asked Div check k alive x y a p q
  operating_within asked Rem check k alive x y a p q = quotient_within asked Rem check k alive x y a p q
  operating_within asked op check k alive x y a p q = one_within (steps.Binary op x y) k alive (p, q) a

  skip_within : (b : Compiling) → Stays b → (k : ℕ) (env : List ℕ) (taken x alive : ℕ) → Scope k env → taken < k
      → x < k → alive < k → IsWithin LessOne k (skipping b k env taken x alive)
  skip_within b hb k env taken x alive e t o a =
      let y = b k env taken in
      let z : Piece (Option ℕ) = plain [] (Some x) alive in
      let up_x : x < after (after k y) z = up x (after k y) 0 (up x k (length y.steps) o) in
      subst (λ (n : ℕ). IsWithin LessOne k (choice n taken y z)) (plus_zero (after k y))
      (choice_within k taken y z t (hb k env taken e t)
      (plain_within {R = LessMaybe} (after k y) [] (Some x) alive tt up_x (up alive k (length y.steps) a)))

  pub binary_stays : (asked : Option CheckId) (op : BinaryOp) (check : Option CheckId) (a b : Compiling) → Stays a
      → Stays b → Stays (binary asked op a b check)
  binary_stays asked AndAlso check a b ha hb k env reach e r =
      let x = a k env reach in
      let n = after k x in
      let w = when n x.alive x.out in
      let hx = ha k env reach e r in
      let hw = when_within n x.alive x.out hx.alive hx.out in
      joined_within k x (joined w (skipping b (after n w) env n x.out x.alive)) hx
      (joined_within n w (skipping b (after n w) env n x.out x.alive) hw
      (skip_within b hb (after n w) env n x.out x.alive
      (scope_end n 1 env (scope_end k (length x.steps) env e)) hw.out (up x.out n 1 hx.out) (up x.alive n 1 hx.alive)))
  binary_stays asked OrElse check a b ha hb k env reach e r =
      let x = a k env reach in
      let n = after k x in
      let w = unless n x.alive x.out in
      let hx = ha k env reach e r in
      let hw = unless_within n x.alive x.out hx.alive hx.out in
      joined_within k x (joined w (skipping b (after n w) env (suc n) x.out x.alive)) hx
      (joined_within n w (skipping b (after n w) env (suc n) x.out x.alive) hw
      (skip_within b hb (after n w) env (suc n) x.out x.alive
      (scope_end n 2 env (scope_end k (length x.steps) env e)) hw.out (up x.out n 2 hx.out) (up x.alive n 2 hx.alive)))
  binary_stays asked op check a b ha hb k env reach e r =
      let x = a k env reach in
      let n = after k x in
      let y = b n env x.alive in
      let hx = ha k env reach e r in
      let hy = hb n env x.alive (scope_end k (length x.steps) env e) hx.alive in
      joined_within k x (joined y (operating asked op check (after n y) y.alive x.out y.out)) hx
      (joined_within n y (operating asked op check (after n y) y.alive x.out y.out) hy
      (operating_within asked op check (after n y) y.alive x.out y.out hy.alive
      (up x.out n (length y.steps) hx.out) hy.out))

  -- ---- conditions

  branches_within : (a b : Compiling) → Stays a → Stays b → (k : ℕ) (env : List ℕ) (taken missed : ℕ) → Scope k env
      → taken < k → missed < k → IsWithin LessOne k (branches a b k env taken missed)
  branches_within a b ha hb k env taken missed e t m =
      let x = a k env taken in
      let y = b (after k x) env missed in
      choice_within k taken x (possible y) t (ha k env taken e t)
      (possible_within (after k x) y
      (hb (after k x) env missed (scope_end k (length x.steps) env e) (up missed k (length x.steps) m)))

  pub if_stays : (c a b : Compiling) → Stays c → Stays a → Stays b
      → Stays (λ k env reach. bind k (c k env reach)
      (λ n x alive. bind n (when n alive x)
      (λ m taken _. bind m (unless m alive x) (λ l missed _. branches a b l env taken missed))))
  if_stays c a b hc ha hb k env reach e r =
      let x = c k env reach in
      let n = after k x in
      let w = when n x.alive x.out in
      let m = after n w in
      let u = unless m x.alive x.out in
      let l = after m u in
      let hx = hc k env reach e r in
      let hw = when_within n x.alive x.out hx.alive hx.out in
      let hu = unless_within m x.alive x.out (up x.alive n 1 hx.alive) (up x.out n 1 hx.out) in
      joined_within k x (joined w (joined u (branches a b l env n (suc m)))) hx
      (joined_within n w (joined u (branches a b l env n (suc m))) hw
      (joined_within m u (branches a b l env n (suc m)) hu
      (branches_within a b ha hb l env n (suc m)
      (scope_end m 2 env (scope_end n 1 env (scope_end k (length x.steps) env e))) (up n m 2 hw.out) hu.out)))

  pub assert_stays : (asked check : Option CheckId) (c rest : Compiling) → Stays c → Stays rest
      → Stays (λ k env reach. bind k (c k env reach)
      (λ n x alive. bind n (demand (asks asked check) n alive x) (λ m _ going. rest m env going)))
  assert_stays asked check c rest hc hr k env reach e r =
      let x = c k env reach in
      let n = after k x in
      let d = demand (asks asked check) n x.alive x.out in
      let hx = hc k env reach e r in
      let hd = demand_within (asks asked check) n x.alive x.out hx.alive hx.out in
      joined_within k x (joined d (rest (after n d) env d.alive)) hx
      (joined_within n d (rest (after n d) env d.alive) hd
      (hr (after n d) env d.alive (scope_end n (length d.steps) env (scope_end k (length x.steps) env e)) hd.alive))

  -- ---- lists

  abbrev pub AllStay : List Compiling → Type 0
  AllStay [] = Unit {0}
  AllStay (m ∷ ms) = Stays m × AllStay ms

  pub all_within : (ms : List Compiling) → AllStay ms → (done : List ℕ) (k : ℕ) (env : List ℕ) (reach : ℕ)
      → Below k done → Scope k env → reach < k → IsWithin Below k (all_from done ms k env reach)
  all_within [] h done k env reach d e r =
      plain_within {R = Below} k [] done reach tt (subst (λ n. Below n done) (sym (plus_zero k)) d) r
  all_within (m ∷ ms) h done k env reach d e r =
      let x = m k env reach in
      let w = h.0 k env reach e r in
      joined_within k x (all_from (done ++ x.out ∷ []) ms (after k x) env x.alive) w
      (all_within ms h.1 (done ++ x.out ∷ []) (after k x) env x.alive
      (below_more (after k x) done x.out (below_end k (length x.steps) done d) w.out)
      (scope_end k (length x.steps) env e) w.alive)

  -- the steps of a call look at earlier ones
  abbrev pub SiteStays : Site → Type 0
  SiteStays site = (k reach : ℕ) (g : FunctionId) (pre down : Option CheckId) (args : List ℕ) → base ≤ k → reach < k
      → Below k args → IsWithin LessOne k (site k reach g pre down args)

  pub construct_stays : (ms : List Compiling) → AllStay ms → (c : CtorId)
      → Stays (λ k env reach. bind k (all ms k env reach) (λ n xs alive. one (steps.Construct c xs) n alive))
  construct_stays ms h c k env reach e r =
      let x = all ms k env reach in
      let w = all_within ms h [] k env reach tt e r in
      joined_within k x (one (steps.Construct c x.out) (after k x) x.alive) w
      (one_within (steps.Construct c x.out) (after k x) x.alive w.out w.alive)

  pub call_stays : (ms : List Compiling) → AllStay ms → (site : Site) → SiteStays site
      → (g : FunctionId) (pre down : Option CheckId)
      → Stays (λ k env reach. bind k (all ms k env reach) (λ n xs alive. site n alive g pre down xs))
  call_stays ms h site hs g pre down k env reach e r =
      let x = all ms k env reach in
      let w = all_within ms h [] k env reach tt e r in
      joined_within k x (site (after k x) x.alive g pre down x.out) w
      (hs (after k x) x.alive g pre down x.out (up_to base k (length x.steps) e.0) w.alive w.out)
