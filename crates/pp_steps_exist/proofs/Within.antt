-- Pieces whose steps look at earlier ones alone, and whose numbers are those of steps that stand.
use Rattle.std.proofs.Common.{◌≡◌, ℕ, suc, ◌+◌, ◌<◌, ◌≤◌, Bool, true, false, List, [], ◌∷◌, ◌++◌, length, Option, Some}
use Rattle.std.proofs.Common.{None, sym, ap, ◌∙◌, subst, arith, length-append}
use Rattle.pp_steps.proofs.Counting.{add_suc, plus_zero, two_up}
use Rattle.pp_steps.specs.declared.step.Step.{Step}
use Rattle.pp_steps.specs.declared.step.Step.TheVariants as steps
use Rattle.pp_steps.specs.Compile.{one, unless, when}
use Rattle.pp_steps.specs.Piece.{Piece, after, choice, demand, joined, pick_step, picked, plain, possible}
use Rattle.pp_steps.specs.Reads.{AllRead, Below, Reads}

add_assoc : (a b c : ℕ) → a + (b + c) ≡ (a + b) + c
add_assoc a b c = omega arith

pub up : (a b n : ℕ) → a < b → a < b + n
up a b n h = omega arith

pub at_most : (a b : ℕ) → a ≤ a + b
at_most a b = omega arith

pub later : (n a b : ℕ) → n < a → a ≤ b → n < b
later n a b h g = omega arith

pub below_later : (a b : ℕ) (ns : List ℕ) → a ≤ b → Below a ns → Below b ns
below_later a b [] le h = tt
below_later a b (n ∷ ns) le h = (later n a b h.0 le, below_later a b ns le h.1)

pub below_join : (k : ℕ) (xs ys : List ℕ) → Below k xs → Below k ys → Below k (xs ++ ys)
below_join k [] ys h g = g
below_join k (x ∷ xs) ys h g = (h.0, below_join k xs ys h.1 g)

pub read_join : (k : ℕ) (xs ys : List Step) → AllRead k xs → AllRead (k + length xs) ys → AllRead k (xs ++ ys)
read_join k [] ys h g = subst (λ n. AllRead n ys) (plus_zero k) g
read_join k (x ∷ xs) ys h g = (h.0, read_join (suc k) xs ys h.1 (subst (λ n. AllRead n ys) (add_suc k (length xs)) g))

pub after_joined : {A B : Type 0} (k : ℕ) (x : Piece A) (y : Piece B) → after (after k x) y ≡ after k (joined x y)
after_joined k x y = sym
    (ap (λ n. k + n) (length-append x.steps y.steps) ∙ add_assoc k (length x.steps) (length y.steps))

-- numbers below k, of an outcome
abbrev pub LessOne : ℕ → ℕ → Type 0
LessOne k n = n < k

abbrev pub LessMaybe : ℕ → Option ℕ → Type 0
LessMaybe k None = Unit {0}
LessMaybe k (Some n) = n < k

-- The piece begins at number k: its steps look at earlier ones, and its numbers are those of steps before its end.
pub record IsWithin {A : Type 0} (R : ℕ → A → Type 0) (k : ℕ) (x : Piece A) : Type 0 where
  pub reads : AllRead k x.steps
  pub out : R (after k x) x.out
  pub alive : x.alive < after k x
  pub fails : Below (after k x) x.fails

pub joined_within : {A B : Type 0} {R : ℕ → A → Type 0} {S : ℕ → B → Type 0} (k : ℕ) (x : Piece A) (y : Piece B)
    → IsWithin R k x → IsWithin S (after k x) y
    → IsWithin S k (joined x y)
joined_within {S = S} k x y h g =
    let e = after_joined k x y in
    record {
      reads = read_join k x.steps y.steps h.reads g.reads;
      out = subst (λ n. S n y.out) e g.out;
      alive = subst (λ n. y.alive < n) e g.alive;
      fails = subst (λ n. Below n (x.fails ++ y.fails)) e
          (below_join (after (after k x) y) x.fails y.fails
          (below_later (after k x) (after (after k x) y) x.fails
          (at_most (after k x) (length y.steps)) h.fails) g.fails);
    }

pub plain_within : {A : Type 0} {R : ℕ → A → Type 0} (k : ℕ) (ss : List Step) (out : A) (alive : ℕ) → AllRead k ss
    → R (k + length ss) out → alive < k
    → IsWithin R k (plain ss out alive)
plain_within k ss out alive reads r h = record { reads = reads; out = r; alive = up alive k (length ss) h; fails = tt }

end_one : (k : ℕ) → k < k + 1
end_one k = omega arith

end_two : (k : ℕ) → suc k < k + 2
end_two k = omega arith

next_one : (a k : ℕ) → a < k → a < suc k
next_one a k h = omega arith

this_one : (k : ℕ) → k < suc k
this_one k = omega arith

-- one step
pub one_within : (s : Step) (k alive : ℕ) → Reads k s → alive < k → IsWithin LessOne k (one s k alive)
one_within s k alive r h = plain_within k (s ∷ []) k alive (r, tt) (end_one k) h

pub when_within : (k alive test : ℕ) → alive < k → test < k → IsWithin LessOne k (when k alive test)
when_within k alive test a t = plain_within k (steps.Both alive test ∷ []) k alive ((a, t), tt) (end_one k) a

pub unless_within : (k alive test : ℕ) → alive < k → test < k → IsWithin LessOne k (unless k alive test)
unless_within k alive test a t =
    plain_within k (steps.Not test ∷ steps.Both alive k ∷ []) (suc k) alive
    (t, ((next_one alive k a, this_one k), tt)) (end_two k) a

end_three : (k : ℕ) → suc (suc k) < k + 3
end_three k = omega arith

first_three : (k : ℕ) → k < k + 3
first_three k = omega arith

pub demand_within : (b : Bool) (k alive test : ℕ) → alive < k → test < k → IsWithin LessOne k (demand b k alive test)
demand_within true k alive test a t = record {
  reads = ((a, t), (next_one test k t, ((two_up alive k a, this_one (suc k)), tt)));
  out = up test k 3 t;
  alive = first_three k;
  fails = (end_three k, tt);
}
demand_within false k alive test a t =
    record { reads = ((a, t), tt); out = up test k 1 t; alive = end_one k; fails = tt }

-- ---- choices

module _ (k taken : ℕ) (x : Piece ℕ) (y : Piece (Option ℕ)) where
  abbrev last : ℕ
  last = after (after k x) y

  abbrev tail : List Step
  tail = steps.Choose taken x.alive y.alive ∷ pick_step taken x.out y.out

  choice_end : last + length tail ≡ after k (choice last taken x y)
  choice_end =
      sym (ap (λ n. k + n) (length-append x.steps (y.steps ++ tail) ∙ ap (λ n. length x.steps + n)
      (length-append y.steps tail))
      ∙ add_assoc k (length x.steps) (length y.steps + length tail) ∙ add_assoc (after k x) (length y.steps)
      (length tail))

  pick_reads : (o : Option ℕ) → taken < last → x.out < last → LessMaybe last o
      → AllRead (suc last) (pick_step taken x.out o)
  pick_reads None t a b = tt
  pick_reads (Some n) t a b = ((next_one taken last t, next_one x.out last a, next_one n last b), tt)

  picked_end : (o : Option ℕ) → x.out < last
      → picked (suc last) x.out o < last + length (steps.Choose taken x.alive y.alive ∷ pick_step taken x.out o)
  picked_end None a = up x.out last 1 a
  picked_end (Some n) a = end_two last

  pub choice_within : taken < k → IsWithin LessOne k x → IsWithin LessMaybe (after k x) y
      → IsWithin LessOne k (choice last taken x y)
  choice_within t h g =
      let le1 : after k x ≤ last = at_most (after k x) (length y.steps) in
      let le0 : k ≤ last = add_three k (length x.steps) (length y.steps) in
      let xo = later x.out (after k x) last h.out le1 in
      record {
        reads = read_join k x.steps (y.steps ++ tail) h.reads (read_join (after k x) y.steps tail g.reads (
          (later taken k last t le0, later x.alive (after k x) last h.alive le1, g.alive),
          pick_reads y.out
              (later taken k last t le0) xo g.out,
        ));
        out = subst (λ n. picked (suc last) x.out y.out < n) choice_end (picked_end y.out xo);
        alive = subst (λ n. last < n) choice_end (tail_there last (length (pick_step taken x.out y.out)));
        fails = subst (λ n. Below n (x.fails ++ y.fails)) choice_end
            (below_later last (last + length tail) (x.fails ++ y.fails) (at_most last (length tail))
            (below_join last x.fails y.fails (below_later (after k x) last x.fails le1 h.fails) g.fails));
      }
    where
      add_three : (a b c : ℕ) → a ≤ a + b + c
      add_three a b c = omega arith

      tail_there : (a n : ℕ) → a < a + suc n
      tail_there a n = omega arith

pub possible_within : (k : ℕ) (x : Piece ℕ) → IsWithin LessOne k x → IsWithin LessMaybe k (possible x)
possible_within k x h = record { reads = h.reads; out = h.out; alive = h.alive; fails = h.fails }
