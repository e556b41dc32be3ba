-- Patterns and `match`: their steps look at earlier ones alone.
use Rattle.std.proofs.Common.{◌≡◌, ℕ, suc, ◌+◌, ◌<◌, ◌≤◌, Bool, true, false, List, [], ◌∷◌, ◌++◌, length, map, Option}
use Rattle.std.proofs.Common.{Some, None, sym, ap, ◌∙◌, subst, arith, length-append}
use Rattle.pp_list.proofs.With.{With, elements}
use Rattle.pp_prog.proofs.Induction.{each_pattern, pattern_under}
use Rattle.pp_prog.specs.declared.expr.Pattern.{Pattern}
use Rattle.pp_prog.specs.declared.expr.Pattern.TheFolds.{fold-roll-Pattern, map-Pattern}
use Rattle.pp_prog.specs.declared.expr.Pattern.TheOpen as pattern
use Rattle.pp_prog.specs.declared.expr.Pattern.TheViews.{roll-Pattern}
use Rattle.pp_prog.specs.declared.id.CheckId.{CheckId}
use Rattle.pp_prog.specs.declared.id.CtorId.{CtorId}
use Rattle.pp_steps.specs.declared.step.Step.{Step}
use Rattle.pp_steps.specs.declared.step.Step.TheVariants as steps
use Rattle.pp_steps.specs.Compile.{Arm, Compiling, all_of, cases, deciding, matched, number_or, unless, when}
use Rattle.pp_steps.specs.Patterns.{Fitting, Matching, equals, fit_fields, fitting, fitting_step}
use Rattle.pp_steps.specs.Piece.{Piece, after, asks, bind, choice, failing, joined, plain}
use Rattle.pp_steps.specs.Reads.{AllRead, Below, Reads}
use Rattle.pp_steps_exist.proofs.Within.{IsWithin, LessMaybe, LessOne, at_most, below_join, below_later, choice_within}
use Rattle.pp_steps_exist.proofs.Within.{joined_within, plain_within, possible_within, read_join, unless_within, up}
use Rattle.pp_steps_exist.proofs.Within.{when_within}
use Rattle.pp_steps_exist.proofs.Forms.{Scope, Stays, below_end, scope_end, scope_join, suc_self, suc_up}

-- ---- patterns

-- how the steps of these patterns are laid out, whatever is known of each
abbrev pub inner_of : {P : Pattern → Type 0} → List (With P) → List Matching
inner_of ps = map fitting (elements ps)

-- the steps look at earlier ones, and the tests and the bound numbers are those of steps that stand
pub record IsFittingWithin (k : ℕ) (x : Fitting) : Type 0 where
  pub reads : AllRead k x.steps
  pub tests : Below (k + length x.steps) x.tests
  pub bound : Below (k + length x.steps) x.bound

abbrev pub FitsWithin : Pattern → Type 0
FitsWithin p = (k t : ℕ) → t < k → IsFittingWithin k (fitting p k t)

equals_within : (s : Step) (k t : ℕ) → Reads k s → t < k → IsFittingWithin k (equals s k t)
equals_within s k t r h =
    record { reads = (r, ((suc_self k, suc_up t k h), tt)); tests = (end_two k, tt); bound = tt }
  where
    end_two : (k : ℕ) → suc k < k + 2
    end_two k = omega arith

assoc : (a b c : ℕ) → suc a + b + c ≡ a + suc (b + c)
assoc a b c = omega arith

le_sum : (a b c : ℕ) → suc a + b ≤ a + suc (b + c)
le_sum a b c = omega arith

fields_within : (c : CtorId) (ps : List (With FitsWithin)) (j k t : ℕ) → t < k
    → IsFittingWithin k (fit_fields c j (inner_of ps) k t)
fields_within c [] j k t h = record { reads = tt; tests = tt; bound = tt }
fields_within c (p ∷ ps) j k t h =
    let x = fitting p.0 (suc k) k in
    let n = suc k + length x.steps in
    let y = fit_fields c (suc j) (inner_of ps) n t in
    let hx = p.1 (suc k) k (suc_self k) in
    let hy = fields_within c ps (suc j) n t (up t (suc k) (length x.steps) (suc_up t k h)) in
    let e : n + length y.steps ≡ k + suc (length (x.steps ++ y.steps)) = assoc k (length x.steps) (length y.steps)
    ∙ ap (λ m. k + suc m) (sym (length-append x.steps y.steps)) in
    let le = at_most n (length y.steps) in
    record {
      reads = (h, read_join (suc k) x.steps y.steps hx.reads hy.reads);
      tests = subst (λ m. Below m (x.tests ++ y.tests)) e
          (below_join (n + length y.steps) x.tests y.tests
          (below_later n (n + length y.steps) x.tests le hx.tests) hy.tests);
      bound = subst (λ m. Below m (x.bound ++ y.bound)) e
          (below_join (n + length y.steps) x.bound y.bound
          (below_later n (n + length y.steps) x.bound le hx.bound) hy.bound);
    }

pattern_level : (y : pattern.Pattern-F (With FitsWithin)) (k t : ℕ) → t < k
    → IsFittingWithin k (fitting_step (map-Pattern Pattern Matching fitting (pattern_under y)) k t)
pattern_level pattern.Any k t h = record { reads = tt; tests = tt; bound = tt }
pattern_level (pattern.Bind inner) k t h =
    let w = inner.1 k t h in
    record { reads = w.reads; tests = w.tests; bound = (up t k (length (fitting inner.0 k t).steps) h, w.bound) }
pattern_level (pattern.Int n) k t h = equals_within (steps.Int n) k t tt h
pattern_level (pattern.Bool b) k t h = equals_within (steps.Bool b) k t tt h
pattern_level (pattern.Ctor c ps) k t h =
    let x = fit_fields c 0 (inner_of ps) (suc k) t in
    let w = fields_within c ps 0 (suc k) t (suc_up t k h) in
    let e = plus_suc k (length x.steps) in
    record {
      reads = (h, w.reads);
      tests = (first k (length x.steps), subst (λ m. Below m x.tests) e w.tests);
      bound = subst (λ m. Below m x.bound) e w.bound;
    }
  where
    plus_suc : (a b : ℕ) → suc a + b ≡ a + suc b
    plus_suc a b = omega arith

    first : (a b : ℕ) → a < a + suc b
    first a b = omega arith

pattern_at : (y : pattern.Pattern-F (With FitsWithin)) → FitsWithin (roll-Pattern (pattern_under y))
pattern_at y = subst (λ (f : Matching). (k t : ℕ) → t < k → IsFittingWithin k (f k t))
    (sym (fold-roll-Pattern Matching fitting_step (pattern_under y))) (pattern_level y)

pub pattern_within : (p : Pattern) → FitsWithin p
pattern_within = each_pattern FitsWithin pattern_at

-- ---- matches

module _ (base : ℕ) where
  all_of_within : (ts : List ℕ) (k alive : ℕ) → Below k ts → alive < k → IsWithin LessOne k (all_of k ts alive)
  all_of_within [] k alive h a = plain_within {R = LessOne} k [] alive alive tt (up alive k 0 a) a
  all_of_within (t ∷ ts) k alive h a =
      let w = when k alive t in
      let hw = when_within k alive t a h.0 in
      joined_within k w (all_of (after k w) ts k) hw (all_of_within ts (after k w) k (below_end k 1 ts h.1) hw.out)

  abbrev LessBoth : ℕ → ℕ × ℕ → Type 0
  LessBoth k p = (p.0 < k) × (p.1 < k)

  abbrev pub GuardStays : Option Compiling → Type 0
  GuardStays None = Unit {0}
  GuardStays (Some g) = Stays base g

  deciding_within : (o : Option Compiling) → GuardStays o → (k : ℕ) (env : List ℕ) (reach fits : ℕ) → Scope base k env
      → reach < k → fits < k → IsWithin LessBoth k (deciding o k env reach fits)
  deciding_within None h k env reach fits e r f =
      let u = unless k reach fits in
      let hu = unless_within k reach fits r f in
      joined_within k u (plain [] (fits, suc k) reach) hu
      (plain_within {R = LessBoth} (after k u) [] (fits, suc k) reach tt
      (up fits (after k u) 0 (up fits k 2 f), up (suc k) (after k u) 0 hu.out) (up reach k 2 r))
  deciding_within (Some g) h k env reach fits e r f =
      let x = g k env fits in
      let n = after k x in
      let w = when n x.alive x.out in
      let m = after n w in
      let u = unless m x.alive x.out in
      let l = after m u in
      let z : Piece (ℕ × ℕ) = plain (steps.Choose fits (suc m) reach ∷ []) (n, l) reach in
      let hx = h k env fits e f in
      let hw = when_within n x.alive x.out hx.alive hx.out in
      let hu = unless_within m x.alive x.out (up x.alive n 1 hx.alive) (up x.out n 1 hx.out) in
      let far = λ (a : ℕ) (q : a < k). up a m 2 (up a n 1 (up a k (length x.steps) q)) in
      joined_within k x (joined w (joined u z)) hx
      (joined_within n w (joined u z) hw
      (joined_within m u z hu
      (plain_within {R = LessBoth} l z.steps (n, l) reach ((far fits f, hu.out, far reach r), tt)
      (up n l 1 (up n m 2 hw.out), end_one l) (far reach r))))
    where
      end_one : (k : ℕ) → k < k + 1
      end_one k = omega arith

  pub record ArmStays (x : Arm) : Type 0 where
    pub guard : GuardStays x.guard
    pub body : Stays base x.body

  abbrev pub AllArms : List Arm → Type 0
  AllArms [] = Unit {0}
  AllArms (x ∷ xs) = ArmStays x × AllArms xs

  module _ (asked : Option CheckId) where
    failing_within : (b : Bool) (k reach : ℕ) → reach < k → Below (k + 1) (failing b reach)
    failing_within true k reach r = (up reach k 1 r, tt)
    failing_within false k reach r = tt

    cases_within : (xs : List Arm) → AllArms xs → (check : Option CheckId) (t k : ℕ) (env : List ℕ) (reach : ℕ)
        → t < k → Scope base k env → reach < k
        → IsWithin LessMaybe k (cases asked xs check t k env reach)
    cases_within [] h check t k env reach ht e r = record {
      reads =
          (tt, tt);
      out = tt;
      alive = end_one k;
      fails = failing_within (asks asked check) k reach r;
    }
      where
        end_one : (k : ℕ) → k < k + 1
        end_one k = omega arith
    cases_within (x ∷ xs) h check t k env reach ht e r =
        let f = fitting x.pattern k t in
        let wf = pattern_within x.pattern k t ht in
        let inner = env ++ f.bound in
        let p : Piece ℕ = plain f.steps t reach in
        let kt = after k p in
        let y = all_of kt f.tests reach in
        let kg = after kt y in
        let g = deciding x.guard kg inner reach y.out in
        let l = after kg g in
        let b = x.body l inner g.out.0 in
        let rest = cases asked xs check t (after l b) env g.out.1 in
        let c = choice (after (after l b) rest) g.out.0 b rest in
        let hp = plain_within {R = LessOne} k f.steps t reach wf.reads (up t k (length f.steps) ht) r in
        let rt = up reach k (length f.steps) r in
        let hy = all_of_within f.tests kt reach wf.tests rt in
        let et = scope_end base k (length f.steps) env e in
        let it = scope_join base kt env f.bound et wf.bound in
        let ig = scope_end base kt (length y.steps) inner it in
        let hg = deciding_within x.guard h.0.guard kg inner reach y.out ig (up reach kt (length y.steps) rt) hy.out in
        let il = scope_end base kg (length g.steps) inner ig in
        let hb = h.0.body l inner g.out.0 il hg.out.0 in
        let el = scope_end base kg (length g.steps) env (scope_end base kt (length y.steps) env et) in
        let tl = up t kg (length g.steps) (up t kt (length y.steps) (up t k (length f.steps) ht)) in
        let hr = cases_within xs h.1 check t (after l b) env g.out.1 (up t l (length b.steps) tl)
        (scope_end base l (length b.steps) env el) (up g.out.1 l (length b.steps) hg.out.1) in
        possible_within k (joined p (joined y (joined g c)))
        (joined_within k p (joined y (joined g c)) hp
        (joined_within kt y (joined g c) hy
        (joined_within kg g c hg (choice_within l g.out.0 b rest hg.out.0 hb hr))))

    number_below : (k t : ℕ) (o : Option ℕ) → t < k → LessMaybe k o → number_or t o < k
    number_below k t None h g = h
    number_below k t (Some n) h g = g

    pub match_stays : (m : Compiling) → Stays base m → (xs : List Arm) → AllArms xs → (check : Option CheckId)
        → Stays base (λ k env reach. bind k (m k env reach)
        (λ n t alive. matched t (cases asked xs check t n env alive)))
    match_stays m hm xs h check k env reach e r =
        let x = m k env reach in
        let hx = hm k env reach e r in
        let y = cases asked xs check x.out (after k x) env x.alive in
        let hy = cases_within xs h check x.out (after k x) env x.alive hx.out
        (scope_end base k (length x.steps) env e) hx.alive in
        joined_within k x (matched x.out y) hx
        (record {
          reads = hy.reads;
          out = number_below (after (after k x) y) x.out y.out
              (up x.out (after k x) (length y.steps) hx.out) hy.out;
          alive = hy.alive;
          fails = hy.fails;
        })
