-- Each round of a guess run looks at earlier steps alone, and asks for numbers of steps that stand.
use Rattle.std.proofs.Common.{◌≡◌, ℕ, zero, suc, ◌+◌, ◌<◌, ◌≤◌, Bool, true, false, List, [], ◌∷◌, ◌++◌, length, Some}
use Rattle.std.proofs.Common.{subst, sym, ap, ◌∙◌, arith, length-append}
use Rattle.std.specs.Prelude.{nat_eq, nat_lt, if◌then◌else◌, slice_get}
use Rattle.pp_tree.specs.declared.operator.BinaryOp.TheVariants.{Equal}
use Rattle.pp_prog.specs.declared.expr.Function.{Function}
use Rattle.pp_prog.specs.declared.id.CheckId.{CheckId}
use Rattle.pp_prog.specs.Sorts.{param_sorts}
use Rattle.pp_steps.proofs.Counting.{first_one, less_suc, second_three, second_two, self_less, third_three, zero_plus}
use Rattle.pp_steps.proofs.Counting.{le_trans, less_later}
use Rattle.pp_steps.specs.declared.step.Step.{Step}
use Rattle.pp_steps.specs.declared.step.Step.TheVariants as steps
use Rattle.pp_steps.specs.Guesses.{GuessSteps, Standing, agreeing, agreeing_with, all_agreeing, all_unfolded}
use Rattle.pp_steps.specs.Guesses.{answering_alike, calls_before, calls_from, equal_all, equal_answers, guess_steps}
use Rattle.pp_steps.specs.Guesses.{guessing, implying, one_unfolded, standing, unfolded_call, with_agreement}
use Rattle.pp_steps.specs.Piece.{Piece, after, joined, plain}
use Rattle.pp_steps.specs.Reads.{AllRead, Below}
use Rattle.pp_guess_steps.specs.Laws.{IsReading}
use Rattle.pp_steps_run.specs.Told.{AllOf}
use Rattle.pp_steps_run.proofs.Pieces.{all_join}
use Rattle.pp_steps_exist.proofs.Exprs.{any_within, running_within}
use Rattle.pp_steps_exist.proofs.Forms.{below_end}
use Rattle.pp_steps_exist.proofs.Laws.{arguments_below, arguments_read, reach_below}
use Rattle.pp_steps_exist.proofs.Within.{IsWithin, LessOne, at_most, below_join, below_later, joined_within, one_within}
use Rattle.pp_steps_exist.proofs.Within.{plain_within, read_join, up}
use Rattle.pp_guess_steps.proofs.CallsPaired.{base_paired, guess_paired, unfolded_paired}
use Rattle.pp_guess_steps.proofs.OwnFrame.{A, F, R, base, n}
use Rattle.pp_guess_steps.proofs.Reading.{IsBefore, all_later, before_later, guessing_stays, implying_within}
use Rattle.pp_guess_steps.proofs.Reading.{unfolded_within}
use Rattle.pp_guess_steps.proofs.Rounds.{Paired}
use Rattle.pp_guess_steps.proofs.StandingAgree.{mid}

-- numbers below k, of an outcome
abbrev pub LessAll : ℕ → List ℕ → Type 0
LessAll k ns = Below k ns

-- ---- the calls that stand

le_next : (k n m : ℕ) → k + suc n ≤ m → suc k + n ≤ m
le_next k n m le = omega arith

-- each call of steps that look at earlier ones stands in front of their end
pub standing_before : (k m : ℕ) (ss : List Step) → k + length ss ≤ m → AllRead k ss → Paired ss
    → AllOf (IsBefore m) (standing k ss)
standing_before k m [] le h p = tt
standing_before k m (steps.HasAnswer c ∷ []) le h p = absurd p
standing_before k m (steps.HasAnswer c ∷ steps.Answer d ∷ ss) le h p = (
  record {
    reach = less_later c.reach k m (le_less k (length ss) m le) h.0.0;
    args = below_later k m c.args (le_less k (length ss) m le) h.0.1;
    has = has_less k (length ss) m le;
    result = result_less k (length ss) m le;
  },
  standing_before (suc (suc k)) m ss (le_two k (length ss) m le) h.1.1 p.1,
)
  where
    le_less : (k n m : ℕ) → k + suc (suc n) ≤ m → k ≤ m
    le_less k n m le = omega arith

    has_less : (k n m : ℕ) → k + suc (suc n) ≤ m → k < m
    has_less k n m le = omega arith

    result_less : (k n m : ℕ) → k + suc (suc n) ≤ m → suc k < m
    result_less k n m le = omega arith

    le_two : (k n m : ℕ) → k + suc (suc n) ≤ m → suc (suc k) + n ≤ m
    le_two k n m le = omega arith
standing_before k m (steps.HasAnswer c ∷ steps.HasAnswer d ∷ ss) le h p = absurd p
standing_before k m (steps.HasAnswer d ∷ steps.Open t ∷ ss) le h p = absurd p
standing_before k m (steps.HasAnswer d ∷ steps.Int z ∷ ss) le h p = absurd p
standing_before k m (steps.HasAnswer d ∷ steps.Bool b ∷ ss) le h p = absurd p
standing_before k m (steps.HasAnswer d ∷ steps.Not a ∷ ss) le h p = absurd p
standing_before k m (steps.HasAnswer d ∷ steps.Both a b ∷ ss) le h p = absurd p
standing_before k m (steps.HasAnswer d ∷ steps.Choose e a b ∷ ss) le h p = absurd p
standing_before k m (steps.HasAnswer d ∷ steps.Unary op a ∷ ss) le h p = absurd p
standing_before k m (steps.HasAnswer d ∷ steps.Binary op a b ∷ ss) le h p = absurd p
standing_before k m (steps.HasAnswer d ∷ steps.Construct e fields ∷ ss) le h p = absurd p
standing_before k m (steps.HasAnswer d ∷ steps.IsCtor e w a ∷ ss) le h p = absurd p
standing_before k m (steps.HasAnswer d ∷ steps.CtorField e i a ∷ ss) le h p = absurd p
standing_before k m (steps.HasAnswer d ∷ steps.Field a i ∷ ss) le h p = absurd p
standing_before k m (steps.HasAnswer d ∷ steps.IsAlike a b ∷ ss) le h p = absurd p
standing_before k m (steps.HasAnswer d ∷ steps.GoesDown a b ∷ ss) le h p = absurd p
standing_before k m (steps.Answer c ∷ ss) le h p = absurd p
standing_before k m (steps.Open t ∷ ss) le h p = standing_before (suc k) m ss (le_next k (length ss) m le) h.1 p
standing_before k m (steps.Int z ∷ ss) le h p = standing_before (suc k) m ss (le_next k (length ss) m le) h.1 p
standing_before k m (steps.Bool b ∷ ss) le h p = standing_before (suc k) m ss (le_next k (length ss) m le) h.1 p
standing_before k m (steps.Not a ∷ ss) le h p = standing_before (suc k) m ss (le_next k (length ss) m le) h.1 p
standing_before k m (steps.Both a b ∷ ss) le h p = standing_before (suc k) m ss (le_next k (length ss) m le) h.1 p
standing_before k m (steps.Choose e a b ∷ ss) le h p = standing_before (suc k) m ss (le_next k (length ss) m le) h.1 p
standing_before k m (steps.Unary op a ∷ ss) le h p = standing_before (suc k) m ss (le_next k (length ss) m le) h.1 p
standing_before k m (steps.Binary op a b ∷ ss) le h p = standing_before (suc k) m ss (le_next k (length ss) m le) h.1 p
standing_before k m (steps.Construct e fields ∷ ss) le h p = standing_before (suc k) m ss (le_next k (length ss) m le)
    h.1 p
standing_before k m (steps.IsCtor e w a ∷ ss) le h p = standing_before (suc k) m ss (le_next k (length ss) m le) h.1 p
standing_before k m (steps.CtorField e i a ∷ ss) le h p = standing_before (suc k) m ss (le_next k (length ss) m le) h.1
    p
standing_before k m (steps.Field a i ∷ ss) le h p = standing_before (suc k) m ss (le_next k (length ss) m le) h.1 p
standing_before k m (steps.IsAlike a b ∷ ss) le h p = standing_before (suc k) m ss (le_next k (length ss) m le) h.1 p
standing_before k m (steps.GoesDown a b ∷ ss) le h p = standing_before (suc k) m ss (le_next k (length ss) m le) h.1 p

before_below : (m k : ℕ) (cs : List Standing) → AllOf (IsBefore m) cs → AllOf (IsBefore m) (calls_before k cs)
before_below m k [] h = tt
before_below m k (c ∷ cs) h = by (nat_lt c.has k) (before_below m k cs h.1)
  where
    by : (b : Bool) → AllOf (IsBefore m) (calls_before k cs)
        → AllOf (IsBefore m) (if b then c ∷ calls_before k cs else calls_before k cs)
    by true r = (h.0, r)
    by false r = r

from_below : (m k : ℕ) (cs : List Standing) → AllOf (IsBefore m) cs → AllOf (IsBefore m) (calls_from k cs)
from_below m k [] h = tt
from_below m k (c ∷ cs) h = by (nat_lt c.has k) (from_below m k cs h.1)
  where
    by : (b : Bool) → AllOf (IsBefore m) (calls_from k cs)
        → AllOf (IsBefore m) (if b then calls_from k cs else c ∷ calls_from k cs)
    by true r = r
    by false r = (h.0, r)

-- ---- pairs

equal_within : (k : ℕ) (xs ys : List ℕ) (test : ℕ) → Below k xs → Below k ys → test < k
    → IsWithin LessOne k (equal_all k xs ys test)
equal_within k [] [] test a b t = plain_within {R = LessOne} k [] test test tt (up test k 0 t) t
equal_within k [] (y ∷ ys) test a b t = one_within (steps.Bool false) k test tt t
equal_within k (x ∷ xs) [] test a b t = one_within (steps.Bool false) k test tt t
equal_within k (x ∷ xs) (y ∷ ys) test a b t =
    let p : Piece ℕ = plain (steps.Binary Equal x y ∷ steps.Both test k ∷ []) (suc k) test in
    let hp = plain_within {R = LessOne} k p.steps (suc k) test ((a.0, b.0), ((less_suc test k t, self_less k), tt))
    (second_two k) t in
    joined_within k p (equal_all (after k p) xs ys (suc k)) hp
    (equal_within (after k p) xs ys (suc k) (below_end k 2 xs a.1) (below_end k 2 ys b.1) (second_two k))

-- what is supposed of one number
one_supposed : (k a b near : ℕ) → a < k → b < k → near < k
    → IsWithin LessAll k (joined (implying k a b) (plain [] ((implying k a b).out ∷ []) near))
one_supposed k a b near x y z =
    let i = implying k a b in
    let hi = implying_within k a b x y in
    joined_within k i (plain [] (i.out ∷ []) near) hi
    (plain_within {R = LessAll} (after k i) [] (i.out ∷ []) near tt
    (up i.out (after k i) 0 hi.out, tt) (up near k 3 z))

alike_within : (b : Bool) (k : ℕ) (c d : Standing) (near : ℕ) → IsBefore k c → IsBefore k d → near < k
    → IsWithin LessAll k (answering_alike b k c d near)
alike_within false k c d near hc hd z = plain_within {R = LessAll} k [] [] near tt tt z
alike_within true k c d near hc hd z =
    let p : Piece ℕ = plain (steps.Binary Equal c.has d.has ∷ []) k near in
    let hp = plain_within {R = LessOne} k p.steps k near ((hc.has, hd.has), tt) (first_one k) z in
    joined_within k p _ hp (one_supposed (after k p) near k near (up near k 1 z) (first_one k) (up near k 1 z))

answers_within : (k : ℕ) (c d : Standing) (near : ℕ) → IsBefore k c → IsBefore k d → near < k
    → IsWithin LessAll k (equal_answers k c d near)
answers_within k c d near hc hd z =
    let p : Piece ℕ = plain (steps.Both near c.has ∷ steps.Both k d.has ∷ steps.Binary Equal c.result d.result ∷ [])
    (suc k) near in
    let hp = plain_within {R = LessOne} k p.steps (suc k) near (
      (z, hc.has),
      (
        (self_less k, less_suc d.has k hd.has),
        ((two_up c.result k hc.result, two_up d.result k hd.result), tt),
      ),
    )
    (second_three k) z in
    joined_within k p _ hp
    (one_supposed (after k p) (suc k) (suc (suc k)) near (second_three k) (third_three k) (up near k 3 z))
  where
    two_up : (a k : ℕ) → a < k → a < suc (suc k)
    two_up a k h = omega arith

agreeing_within : (k : ℕ) (c d : Standing) (t : ℕ) → IsBefore k c → IsBefore k d → t < k
    → IsWithin LessAll k (agreeing k c d t)
agreeing_within k c d t hc hd z =
    let s = equal_all k c.call.args d.call.args t in
    let j = after k s in
    let p : Piece ℕ = plain (steps.Both s.out c.call.reach ∷ steps.Both j d.call.reach ∷ []) (suc j) s.out in
    let m = after j p in
    let a = answering_alike (nat_eq c.call.wait d.call.wait) m c d (suc j) in
    let i = after m a in
    let e = equal_answers i c d (suc j) in
    let kj : k ≤ j = at_most k (length s.steps) in
    let km = le_trans k j m kj (at_most j 2) in
    let ki = le_trans k m i km (at_most m (length a.steps)) in
    let hs = equal_within k c.call.args d.call.args t hc.args hd.args z in
    let hp = plain_within {R = LessOne} j p.steps (suc j) s.out (
      (hs.out, less_later c.call.reach k j kj hc.reach),
      ((self_less j, less_suc d.call.reach j (less_later d.call.reach k j kj hd.reach)), tt),
    ) (second_two j) hs.out in
    let ha = alike_within (nat_eq c.call.wait d.call.wait) m c d (suc j) (before_later k m km c hc)
    (before_later k m km d hd) (second_two j) in
    let he = answers_within i c d (suc j) (before_later k i ki c hc) (before_later k i ki d hd)
    (up (suc j) m (length a.steps) (second_two j)) in
    let l = after i e in
    joined_within k s _ hs
    (joined_within j p _ hp
    (joined_within m a _ ha
    (joined_within i e (plain [] (a.out ++ e.out) s.out) he
    (plain_within {R = LessAll} l [] (a.out ++ e.out) s.out tt
    (below_end l 0 (a.out ++ e.out) (below_join l a.out e.out (below_end i (length e.steps) a.out ha.out) he.out))
    (up s.out i (length e.steps) (up s.out m (length a.steps) (up s.out j 2 hs.out)))))))

-- two outcomes, one behind the other
both_within : (k t : ℕ) (x : Piece (List ℕ)) (y : Piece (List ℕ)) → IsWithin LessAll k x → IsWithin LessAll (after k x)
    y
    → t < k → IsWithin LessAll k (joined x (joined y (plain [] (x.out ++ y.out) t)))
both_within k t x y hx hy z =
    let i = after k x in
    let l = after i y in
    joined_within k x _ hx
    (joined_within i y (plain [] (x.out ++ y.out) t) hy
    (plain_within {R = LessAll} l [] (x.out ++ y.out) t tt
    (below_end l 0 (x.out ++ y.out) (below_join l x.out y.out (below_end i (length y.steps) x.out hx.out) hy.out))
    (up t i (length y.steps) (up t k (length x.steps) z))))

with_within : (k : ℕ) (c : Standing) (ds : List Standing) (t : ℕ) → IsBefore k c → AllOf (IsBefore k) ds → t < k
    → IsWithin LessAll k (agreeing_with k c ds t)
with_within k c [] t hc hs z = plain_within {R = LessAll} k [] [] t tt tt z
with_within k c (d ∷ ds) t hc hs z =
    let x = if nat_eq c.call.callee.0 d.call.callee.0 then agreeing k c d t else plain [] [] t in
    let le = at_most k (length x.steps) in
    both_within k t x (agreeing_with (after k x) c ds t) (by (nat_eq c.call.callee.0 d.call.callee.0))
    (with_within (after k x) c ds t (before_later k (after k x) le c hc) (all_later k (after k x) le ds hs.1)
    (up t k (length x.steps) z)) z
  where
    by : (b : Bool) → IsWithin LessAll k (if b then agreeing k c d t else plain [] [] t)
    by true = agreeing_within k c d t hc hs.0 z
    by false = plain_within {R = LessAll} k [] [] t tt tt z

pairs_within : (k : ℕ) (olds cs : List Standing) (t : ℕ) → AllOf (IsBefore k) olds → AllOf (IsBefore k) cs → t < k
    → IsWithin LessAll k (all_agreeing k olds cs t)
pairs_within k olds [] t ho hs z = plain_within {R = LessAll} k [] [] t tt tt z
pairs_within k olds (c ∷ cs) t ho hs z =
    let x = agreeing_with k c olds t in
    let i = after k x in
    let le = at_most k (length x.steps) in
    both_within k t x (all_agreeing i (olds ++ c ∷ []) cs t) (with_within k c olds t hs.0 ho z)
    (pairs_within i (olds ++ c ∷ []) cs t
    (all_join (IsBefore i) olds (c ∷ []) (all_later k i le olds ho) (before_later k i le c hs.0, tt))
    (all_later k i le cs hs.1) (up t k (length x.steps) z)) z

-- ---- calls that are unfolded

unfold_within : (functions : List Function) (wait k : ℕ) (cs : List Standing) → AllOf (IsBefore k) cs → 0 < k
    → IsWithin LessAll k (all_unfolded functions wait k cs)
unfold_within functions wait k [] hs z = plain_within {R = LessAll} k [] [] 0 tt tt z
unfold_within functions wait k (c ∷ cs) hs z =
    let x = one_unfolded functions (nat_eq c.call.wait wait) k c in
    let i = after k x in
    let le = at_most k (length x.steps) in
    both_within k 0 x (all_unfolded functions wait i cs) (by (nat_eq c.call.wait wait))
    (unfold_within functions wait i cs (all_later k i le cs hs.1) (up 0 k (length x.steps) z)) z
  where
    by : (b : Bool) → IsWithin LessAll k (one_unfolded functions b k c)
    by false = plain_within {R = LessAll} k [] [] 0 tt tt z
    by true =
        let x = unfolded_call functions k c in
        let hx = unfolded_within functions (slice_get functions c.call.callee.0) k c hs.0 in
        joined_within k x (plain [] (x.out ∷ []) 0) hx
        (plain_within {R = LessAll} (after k x) [] (x.out ∷ []) 0 tt (up x.out (after k x) 0 hx.out, tt)
        (up 0 k (length x.steps) z))

-- ---- rounds

some_less : (a k : ℕ) → a < k → 0 < k
some_less a k h = omega arith

-- with more steps behind it, and more numbers supposed
pub more_read : (g : GuessSteps) (x : Piece (List ℕ)) → IsReading g → IsWithin LessAll (length g.steps) x
    → IsReading (record {
      steps = g.steps ++ x.steps;
      arguments = g.arguments;
      fails = g.fails;
      true_one = g.true_one;
      supposed = g.supposed ++ x.out;
    })
more_read g x h hx =
    let k = length g.steps in
    let e : k + length x.steps ≡ length (g.steps ++ x.steps) = sym (length-append g.steps x.steps) in
    record {
      reads = read_join 0 g.steps x.steps h.reads (subst (λ i. AllRead i x.steps) (sym (zero_plus k)) hx.reads);
      fails = subst (λ i. g.fails < i) e (up g.fails k (length x.steps) h.fails);
      true_one = subst (λ i. g.true_one < i) e (up g.true_one k (length x.steps) h.true_one);
      supposed = subst (λ i. Below i (g.supposed ++ x.out)) e
          (below_join (after k x) g.supposed x.out (below_end k (length x.steps) g.supposed h.supposed) hx.out);
    }

pub le_zero : (k : ℕ) → 0 + k ≤ k
le_zero k = omega arith

agreement_read : (i : ℕ) (g : GuessSteps) → IsReading g → Paired g.steps → IsReading (with_agreement i g)
agreement_read i g h p =
    let k = length g.steps in
    let cs = standing 0 g.steps in
    let all = standing_before 0 k g.steps (le_zero k) h.reads p in
    more_read g (all_agreeing k (calls_before i cs) (calls_from i cs) g.true_one) h
    (pairs_within k (calls_before i cs) (calls_from i cs) g.true_one (before_below k i cs all) (from_below k i cs all)
    h.true_one)

module _ (functions : List Function) (f : Function) (check : CheckId) where
  run_within : IsWithin LessOne (n functions f check) (R functions f check)
  run_within =
      running_within (guessing functions) (guessing_stays functions) (Some check) f (n functions f check)
      (A functions f check).out (A functions f check).alive (arguments_below (param_sorts f.params))
      (reach_below (param_sorts f.params))

  failed_within : IsWithin LessOne (after (n functions f check) (R functions f check)) (F functions f check)
  failed_within =
      any_within (R functions f check).fails (after (n functions f check) (R functions f check))
      (A functions f check).alive run_within.fails
      (up (A functions f check).alive (n functions f check) (length (R functions f check).steps)
      (reach_below (param_sorts f.params)))

  pub base_read : IsReading (base functions f check)
  base_read =
      let a = A functions f check in
      let i = n functions f check in
      let r = R functions f check in
      let e = F functions f check in
      let ends : after (after i r) e ≡ length (a.steps ++ (r.steps ++ e.steps)) =
      sym (length-append a.steps (r.steps ++ e.steps)
      ∙ ap (λ k. length a.steps + k) (length-append r.steps e.steps)
      ∙ sums (length a.steps) (length r.steps) (length e.steps)) in
      record {
        reads = read_join 0 a.steps (r.steps ++ e.steps) (arguments_read (param_sorts f.params))
            (read_join i r.steps e.steps run_within.reads failed_within.reads);
        fails = subst (λ k. e.out < k) ends failed_within.out;
        true_one = subst (λ k. a.alive < k) ends
            (up a.alive (after i r) (length e.steps)
            (up a.alive i (length r.steps) (reach_below (param_sorts f.params))));
        supposed = tt;
      }
    where
      sums : (a b c : ℕ) → a + (b + c) ≡ ((0 + a) + b) + c
      sums a b c = omega arith

  pub guess_read : (r : ℕ) → IsReading (guess_steps functions f check r)
  guess_read zero = agreement_read 0 (base functions f check) base_read (base_paired functions f check)
  guess_read (suc r) =
      let g = guess_steps functions f check r in
      let k = length g.steps in
      let h = guess_read r in
      let cs = standing 0 g.steps in
      agreement_read k (mid functions r g)
      (more_read g (all_unfolded functions r k cs) h
      (unfold_within functions r k cs (standing_before 0 k g.steps (le_zero k) h.reads
      (guess_paired functions f check r))
      (some_less g.true_one k h.true_one)))
      (unfolded_paired functions f check r)
