-- The calls that stand in the steps of a guess run agree, each two of one function.
use Rattle.std.proofs.Common.{◌≡◌, ◌≤◌, ◌<◌, ℕ, zero, suc, ◌+◌, Bool, true, false, List, [], ◌∷◌, ◌++◌, length, map}
use Rattle.std.proofs.Common.{refl, sym, ap}
use Rattle.std.proofs.Common.{◌∙◌, subst, arith}
use Rattle.std.specs.Prelude.{nat_lt, if◌then◌else◌}
use Rattle.std.proofs.lemmas.Bool.Decides.{nat_tests}
use Rattle.std.proofs.lemmas.List.{append_assoc}
use Rattle.pp_prog.specs.declared.expr.Function.{Function}
use Rattle.pp_prog.specs.declared.id.CheckId.{CheckId}
use Rattle.pp_prog.specs.declared.types.Ctor.{Ctor}
use Rattle.pp_prog.specs.Sorts.{param_sorts}
use Rattle.pp_steps.proofs.Counting.{plus_none, plus_suc, zero_plus}
use Rattle.pp_steps.specs.declared.step.Step.{Step}
use Rattle.pp_steps.specs.declared.step.Step.TheVariants as steps
use Rattle.pp_steps.specs.Frames.{open_step}
use Rattle.pp_steps.specs.Guesses.{GuessSteps, Standing, all_agreeing, all_unfolded, calls_before, calls_from}
use Rattle.pp_steps.specs.Guesses.{guess_steps}
use Rattle.pp_steps.specs.Guesses.{standing, with_agreement}
use Rattle.pp_steps.specs.Meaning.{Missing, Values, bit}
use Rattle.pp_steps.specs.Piece.{Piece, plain}
use Rattle.pp_steps_run.specs.Told.{AllOf, On}
use Rattle.pp_steps_run.proofs.Pieces.{all_join, all_left, all_right, bit_truth}
use Rattle.pp_guess_steps.proofs.OwnFrame.{A, base, true_is}
use Rattle.pp_guess_steps.proofs.PairsBack.{AllAgreed, pairs_back}
use Rattle.pp_guess_steps.proofs.ClosedAlways.{IsSimple, pairs_closed}
use Rattle.pp_guess_steps.proofs.CallsPaired.{simple_quiet}
use Rattle.pp_guess_steps.specs.Laws.{ObeysRest}
use Rattle.pp_guess_steps.proofs.ButCalls.{AllNoCall, quiet_join, quiet_obeys, rest_left, rest_right}

-- ---- calls of joined lists

pub standing_cons : (s : Step) (k : ℕ) (ss : List Step)
    → standing k (s ∷ ss) ≡ standing k (s ∷ []) ++ standing (suc k) ss
standing_cons (steps.HasAnswer c) k ss = refl
standing_cons (steps.Open s) k ss = refl
standing_cons (steps.Int n) k ss = refl
standing_cons (steps.Bool b) k ss = refl
standing_cons (steps.Not a) k ss = refl
standing_cons (steps.Both a b) k ss = refl
standing_cons (steps.Choose c a b) k ss = refl
standing_cons (steps.Unary op a) k ss = refl
standing_cons (steps.Binary op a b) k ss = refl
standing_cons (steps.Construct c fields) k ss = refl
standing_cons (steps.IsCtor c n a) k ss = refl
standing_cons (steps.CtorField c i a) k ss = refl
standing_cons (steps.Field a i) k ss = refl
standing_cons (steps.IsAlike a b) k ss = refl
standing_cons (steps.GoesDown a b) k ss = refl
standing_cons (steps.Answer c) k ss = refl

right_none : (xs : List Standing) → xs ++ [] ≡ xs
right_none [] = refl
right_none (x ∷ xs) = ap (λ l. x ∷ l) (right_none xs)

standing_join : (k : ℕ) (xs ys : List Step) → standing k (xs ++ ys) ≡ standing k xs ++ standing (k + length xs) ys
standing_join k [] ys = ap (λ i. standing i ys) (plus_none k)
standing_join k (x ∷ xs) ys =
    standing_cons x k (xs ++ ys)
    ∙ ap (λ l. standing k (x ∷ []) ++ l) (standing_join (suc k) xs ys)
    ∙ sym (append_assoc (standing k (x ∷ [])) (standing (suc k) xs) (standing (suc k + length xs) ys))
    ∙ ap (λ l. l ++ standing (suc k + length xs) ys) (sym (standing_cons x k xs))
    ∙ ap (λ i. standing k (x ∷ xs) ++ standing i ys) (plus_suc k (length xs))

pub standing_at : (xs ys : List Step) → standing 0 (xs ++ ys) ≡ standing 0 xs ++ standing (length xs) ys
standing_at xs ys = standing_join 0 xs ys ∙ ap (λ i. standing 0 xs ++ standing i ys) (zero_plus (length xs))

-- ---- steps without calls

abbrev pub NoCalls : List Step → Type 0
NoCalls ss = (k : ℕ) → standing k ss ≡ []

none_join : (xs ys : List Step) → NoCalls xs → NoCalls ys → NoCalls (xs ++ ys)
none_join xs ys h g k =
    standing_join k xs ys ∙ ap (λ l. l ++ standing (k + length xs) ys) (h k) ∙ g (k + length xs)

none_simple : (s : Step) → IsSimple s → NoCalls (s ∷ [])
none_simple (steps.HasAnswer c) h k = absurd h
none_simple (steps.Open s) h k = refl
none_simple (steps.Int n) h k = refl
none_simple (steps.Bool b) h k = refl
none_simple (steps.Not a) h k = refl
none_simple (steps.Both a b) h k = refl
none_simple (steps.Choose c a b) h k = refl
none_simple (steps.Unary op a) h k = refl
none_simple (steps.Binary op a b) h k = refl
none_simple (steps.Construct c fields) h k = refl
none_simple (steps.IsCtor c n a) h k = refl
none_simple (steps.CtorField c i a) h k = absurd h
none_simple (steps.Field a i) h k = refl
none_simple (steps.IsAlike a b) h k = refl
none_simple (steps.GoesDown a b) h k = refl
none_simple (steps.Answer c) h k = absurd h

none_agree : (cs olds : List Standing) (k t : ℕ) → NoCalls (all_agreeing k olds cs t).steps
none_agree cs olds k t = pairs_closed NoCalls none_join (λ k. refl) none_simple cs k olds t

-- ---- calls in front of a number

abbrev Low : ℕ → Standing → Type 0
Low n c = c.has < n

abbrev High : ℕ → Standing → Type 0
High n c = n ≤ c.has

one_low : (s : Step) (k m : ℕ) → k < m → AllOf (Low m) (standing k (s ∷ []))
one_low (steps.HasAnswer c) k m h = (h, tt)
one_low (steps.Open s) k m h = tt
one_low (steps.Int n) k m h = tt
one_low (steps.Bool b) k m h = tt
one_low (steps.Not a) k m h = tt
one_low (steps.Both a b) k m h = tt
one_low (steps.Choose c a b) k m h = tt
one_low (steps.Unary op a) k m h = tt
one_low (steps.Binary op a b) k m h = tt
one_low (steps.Construct c fields) k m h = tt
one_low (steps.IsCtor c n a) k m h = tt
one_low (steps.CtorField c i a) k m h = tt
one_low (steps.Field a i) k m h = tt
one_low (steps.IsAlike a b) k m h = tt
one_low (steps.GoesDown a b) k m h = tt
one_low (steps.Answer c) k m h = tt

one_high : (s : Step) (k m : ℕ) → m ≤ k → AllOf (High m) (standing k (s ∷ []))
one_high (steps.HasAnswer c) k m h = (h, tt)
one_high (steps.Open s) k m h = tt
one_high (steps.Int n) k m h = tt
one_high (steps.Bool b) k m h = tt
one_high (steps.Not a) k m h = tt
one_high (steps.Both a b) k m h = tt
one_high (steps.Choose c a b) k m h = tt
one_high (steps.Unary op a) k m h = tt
one_high (steps.Binary op a b) k m h = tt
one_high (steps.Construct c fields) k m h = tt
one_high (steps.IsCtor c n a) k m h = tt
one_high (steps.CtorField c i a) k m h = tt
one_high (steps.Field a i) k m h = tt
one_high (steps.IsAlike a b) k m h = tt
one_high (steps.GoesDown a b) k m h = tt
one_high (steps.Answer c) k m h = tt

first_below : (k n l : ℕ) → k + suc l ≤ n → k < n
first_below k n l h = omega (arith, h)

rest_below : (k n l : ℕ) → k + suc l ≤ n → suc k + l ≤ n
rest_below k n l h = omega (arith, h)

up_one : (k n : ℕ) → n ≤ k → n ≤ suc k
up_one k n h = omega (arith, h)

all_low : (ss : List Step) (k n : ℕ) → k + length ss ≤ n → AllOf (Low n) (standing k ss)
all_low [] k n h = tt
all_low (s ∷ ss) k n h = subst (λ l. AllOf (Low n) l) (sym (standing_cons s k ss))
    (all_join (Low n) (standing k (s ∷ [])) (standing (suc k) ss) (one_low s k n (first_below k n (length ss) h))
    (all_low ss (suc k) n (rest_below k n (length ss) h)))

all_high : (ss : List Step) (k n : ℕ) → n ≤ k → AllOf (High n) (standing k ss)
all_high [] k n h = tt
all_high (s ∷ ss) k n h = subst (λ l. AllOf (High n) l) (sym (standing_cons s k ss))
    (all_join (High n) (standing k (s ∷ [])) (standing (suc k) ss) (one_high s k n h)
    (all_high ss (suc k) n (up_one k n h)))

lt_on : (a b : ℕ) → a < b → nat_lt a b ≡ true
lt_on a b h = grind (arith, nat_tests)

lt_off : (a b : ℕ) → b ≤ a → nat_lt a b ≡ false
lt_off a b h = grind (arith, nat_tests)

pick : (b c : Bool) (xs ys : List Standing) → b ≡ c
    → (if b then xs else ys) ≡ (if c then xs else ys)
pick b c xs ys e = ap (λ z. if z then xs else ys) e

before_low : (n : ℕ) (cs : List Standing) → AllOf (Low n) cs → calls_before n cs ≡ cs
before_low n [] h = refl
before_low n (c ∷ cs) h =
    pick (nat_lt c.has n) true (c ∷ calls_before n cs) (calls_before n cs) (lt_on c.has n h.0)
    ∙ ap (λ l. c ∷ l) (before_low n cs h.1)

before_high : (n : ℕ) (cs : List Standing) → AllOf (High n) cs → calls_before n cs ≡ []
before_high n [] h = refl
before_high n (c ∷ cs) h =
    pick (nat_lt c.has n) false (c ∷ calls_before n cs) (calls_before n cs) (lt_off c.has n h.0)
    ∙ before_high n cs h.1

from_low : (n : ℕ) (cs : List Standing) → AllOf (Low n) cs → calls_from n cs ≡ []
from_low n [] h = refl
from_low n (c ∷ cs) h =
    pick (nat_lt c.has n) true (calls_from n cs) (c ∷ calls_from n cs) (lt_on c.has n h.0) ∙ from_low n cs h.1

from_high : (n : ℕ) (cs : List Standing) → AllOf (High n) cs → calls_from n cs ≡ cs
from_high n [] h = refl
from_high n (c ∷ cs) h =
    pick (nat_lt c.has n) false (calls_from n cs) (c ∷ calls_from n cs) (lt_off c.has n h.0)
    ∙ ap (λ l. c ∷ l) (from_high n cs h.1)

before_join : (n : ℕ) (xs ys : List Standing) → calls_before n (xs ++ ys) ≡ calls_before n xs ++ calls_before n ys
before_join n [] ys = refl
before_join n (c ∷ cs) ys = by (before_join n cs ys) (nat_lt c.has n)
  where
    by : calls_before n (cs ++ ys) ≡ calls_before n cs ++ calls_before n ys → (b : Bool)
        → (if b then c ∷ calls_before n (cs ++ ys) else calls_before n (cs ++ ys))
        ≡ (if b then c ∷ calls_before n cs else calls_before n cs) ++ calls_before n ys
    by is true = ap (λ l. c ∷ l) is
    by is false = is

from_join : (n : ℕ) (xs ys : List Standing) → calls_from n (xs ++ ys) ≡ calls_from n xs ++ calls_from n ys
from_join n [] ys = refl
from_join n (c ∷ cs) ys = by (from_join n cs ys) (nat_lt c.has n)
  where
    by : calls_from n (cs ++ ys) ≡ calls_from n cs ++ calls_from n ys → (b : Bool)
        → (if b then calls_from n (cs ++ ys) else c ∷ calls_from n (cs ++ ys))
        ≡ (if b then calls_from n cs else c ∷ calls_from n cs) ++ calls_from n ys
    by is true = is
    by is false = ap (λ l. c ∷ l) is

self : (m : ℕ) → m ≤ m
self m = omega arith

zero_sum : (m : ℕ) → 0 + m ≤ m
zero_sum m = omega arith

-- the calls of a list that grows: those that stood, and the new ones
pub splits_before : (xs ys : List Step) → calls_before (length xs) (standing 0 (xs ++ ys)) ≡ standing 0 xs
splits_before xs ys =
    ap (λ l. calls_before (length xs) l) (standing_at xs ys)
    ∙ before_join (length xs) (standing 0 xs) (standing (length xs) ys)
    ∙ ap (λ l. l ++ calls_before (length xs) (standing (length xs) ys))
    (before_low (length xs) (standing 0 xs) (all_low xs 0 (length xs) (zero_sum (length xs))))
    ∙ ap (λ l. standing 0 xs ++ l) (before_high (length xs) (standing (length xs) ys)
    (all_high ys (length xs) (length xs) (self (length xs))))
    ∙ right_none (standing 0 xs)

pub splits_from : (xs ys : List Step) → calls_from (length xs) (standing 0 (xs ++ ys)) ≡ standing (length xs) ys
splits_from xs ys =
    ap (λ l. calls_from (length xs) l) (standing_at xs ys)
    ∙ from_join (length xs) (standing 0 xs) (standing (length xs) ys)
    ∙ ap (λ l. l ++ calls_from (length xs) (standing (length xs) ys))
    (from_low (length xs) (standing 0 xs) (all_low xs 0 (length xs) (zero_sum (length xs))))
    ∙ from_high (length xs) (standing (length xs) ys) (all_high ys (length xs) (length xs) (self (length xs)))

-- ---- rounds

-- a round with the calls that it unfolds, before their agreement
abbrev pub mid : List Function → ℕ → GuessSteps → GuessSteps
mid functions n g =
    let x = all_unfolded functions n (length g.steps) (standing 0 g.steps) in
    record {
      steps = g.steps ++ x.steps;
      arguments = g.arguments;
      fails = g.fails;
      true_one = g.true_one;
      supposed = g.supposed ++ x.out;
    }

pub with_stands : (n : ℕ) (g : GuessSteps) → standing 0 (with_agreement n g).steps ≡ standing 0 g.steps
with_stands n g =
    let x = all_agreeing (length g.steps) (calls_before n (standing 0 g.steps)) (calls_from n (standing 0 g.steps))
    g.true_one in
    standing_at g.steps x.steps
    ∙ ap (λ l. standing 0 g.steps ++ l)
    (none_agree (calls_from n (standing 0 g.steps)) (calls_before n (standing 0 g.steps)) (length g.steps) g.true_one
    (length g.steps))
    ∙ right_none (standing 0 g.steps)

module _ (ctors : List Ctor) (missing : Missing) (ρ : Values) where
  abbrev Agree : List Standing → List Standing → Type 0
  Agree = AllAgreed ctors missing ρ

  agree_join : (xs ys olds : List Standing) → Agree olds xs → Agree (olds ++ xs) ys → Agree olds (xs ++ ys)
  agree_join [] ys olds h g = subst (λ l. Agree l ys) (right_none olds) g
  agree_join (x ∷ xs) ys olds h g =
      (h.0, agree_join xs ys (olds ++ x ∷ []) h.1 (subst (λ l. Agree l ys) (sym (append_assoc olds (x ∷ []) xs)) g))

  -- the agreement of what is new
  agreement_back : (n : ℕ) (g : GuessSteps) → ObeysRest ctors missing ρ 0 (with_agreement n g).steps
      → AllOf (On ρ) (with_agreement n g).supposed → On ρ g.true_one
      → Agree (calls_before n (standing 0 g.steps)) (calls_from n (standing 0 g.steps))
  agreement_back n g h on one =
      let x = all_agreeing (length g.steps) (calls_before n (standing 0 g.steps)) (calls_from n (standing 0 g.steps))
      g.true_one in
      pairs_back ctors missing ρ (calls_from n (standing 0 g.steps)) (calls_before n (standing 0 g.steps))
      (length g.steps) g.true_one
      (record {
        steps = quiet_obeys ctors missing ρ (length g.steps) x.steps
            (pairs_closed AllNoCall quiet_join tt (λ s i. (simple_quiet s i, tt)) (calls_from n (standing 0 g.steps))
            (length g.steps) (calls_before n (standing 0 g.steps)) g.true_one)
            (subst (λ i. ObeysRest ctors missing ρ i x.steps) (zero_plus (length g.steps))
            (rest_right ctors missing ρ 0 g.steps x.steps h));
      }) one
      (all_right (On ρ) g.supposed x.out on)

  module _ (functions : List Function) (f : Function) (c : CheckId) where
    -- each two calls of one function agree
    pub all_agree : (n : ℕ) → ObeysRest ctors missing ρ 0 (guess_steps functions f c n).steps
        → AllOf (On ρ) (guess_steps functions f c n).supposed → On ρ (A functions f c).alive
        → Agree [] (standing 0 (guess_steps functions f c n).steps)
    all_agree zero h on one =
        let b = base functions f c in
        let s = standing 0 b.steps in
        subst (λ l. Agree [] l) (sym (with_stands 0 b))
        (subst (λ l. Agree [] l) (from_high 0 s (all_high b.steps 0 0 (self 0)))
        (subst (λ l. Agree l (calls_from 0 s)) (before_high 0 s (all_high b.steps 0 0 (self 0)))
        (agreement_back 0 b h on one)))
    all_agree (suc n) h on one =
        let g = guess_steps functions f c n in
        let x = all_unfolded functions n (length g.steps) (standing 0 g.steps) in
        let m = mid functions n g in
        let k = length g.steps in
        let y = all_agreeing (length m.steps) (calls_before k (standing 0 m.steps)) (calls_from k (standing 0 m.steps))
        m.true_one in
        let hm = rest_left ctors missing ρ 0 m.steps y.steps h in
        let om = all_left (On ρ) m.supposed y.out on in
        let old = all_agree n (rest_left ctors missing ρ 0 g.steps x.steps hm) (all_left (On ρ) g.supposed x.out om) one
        in
        let new = agreement_back k m h on (subst (λ i. On ρ i) (sym (true_is functions f c n)) one) in
        let new1 = subst (λ l. Agree (calls_before k (standing 0 m.steps)) l) (splits_from g.steps x.steps) new in
        let new2 = subst (λ l. Agree l (standing k x.steps)) (splits_before g.steps x.steps) new1 in
        subst (λ l. Agree [] l) (sym (with_stands k m))
        (subst (λ l. Agree [] l) (sym (standing_at g.steps x.steps))
        (agree_join (standing 0 g.steps) (standing k x.steps) [] old new2))

    rest_of : (n : ℕ) → ObeysRest ctors missing ρ 0 (guess_steps functions f c n).steps
        → ObeysRest ctors missing ρ 0 (base functions f c).steps
    rest_of zero h = rest_left ctors missing ρ 0 (base functions f c).steps _ h
    rest_of (suc n) h =
        let g = guess_steps functions f c n in
        rest_of n (rest_left ctors missing ρ 0 g.steps _ (rest_left ctors missing ρ 0 (g.steps ++ _) _ h))

    -- the number that is true in each round is
    pub true_on : (n : ℕ) → ObeysRest ctors missing ρ 0 (guess_steps functions f c n).steps → On ρ
        (A functions f c).alive
    true_on n rest =
        let o : Piece ℕ = plain (map open_step (param_sorts f.params)) 0 0 in
        let h = rest_left ctors missing ρ 0 (A functions f c).steps _ (rest_of n rest) in
        ap bit (rest_right ctors missing ρ 0 o.steps (steps.Bool true ∷ []) h).0 ∙ bit_truth true
