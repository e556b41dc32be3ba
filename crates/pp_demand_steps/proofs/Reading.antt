-- The steps of moves look at earlier steps alone, and what is asked for are steps that stand.
use Rattle.std.proofs.Common.{ℕ, suc, ◌≤◌, false, List, [], ◌∷◌, ◌++◌, length, Option, Some, None}
use Rattle.std.proofs.Common.{slice_get}
use Rattle.pp_tree.specs.declared.operator.BinaryOp.TheVariants.{Equal}
use Rattle.pp_prog.specs.declared.expr.Function.{Function}
use Rattle.pp_steps.proofs.Counting.{first_one, first_two, le_trans, less_later, second_two, self_less}
use Rattle.pp_steps.specs.declared.step.Step.TheVariants as steps
use Rattle.pp_steps.specs.Compile.{compile}
use Rattle.pp_steps.specs.Guesses.{GuessSteps, Standing, asking, holding, implying, standing}
use Rattle.pp_steps.specs.Piece.{Piece, after, demand, joined, plain}
use Rattle.pp_steps_exist.proofs.Exprs.{expr_stays, le_self}
use Rattle.pp_steps_exist.proofs.Within.{IsWithin, LessOne, at_most, below_join, below_later, demand_within}
use Rattle.pp_steps_exist.proofs.Within.{joined_within, one_within, up}
use Rattle.pp_guess_steps.specs.Laws.{IsReading}
use Rattle.pp_guess_steps.proofs.CallsPaired.{base_paired, paired_join}
use Rattle.pp_guess_steps.proofs.Reading.{IsBefore, asking_stays, holding_within, implying_within}
use Rattle.pp_guess_steps.proofs.Rounds.{Paired}
use Rattle.pp_guess_steps.proofs.RoundsRead.{LessAll, base_read, le_zero, more_read, standing_before}
use Rattle.pp_guess_steps.proofs.SecondHalf.{each_of}
use Rattle.pp_demand_steps.specs.Laws.{MovesRead}
use Rattle.pp_demand_steps.specs.Moves.{AreAllowed, Body, Move, Post, all_moved, bodied_of, call_of, move_steps, moved}
use Rattle.pp_demand_steps.specs.Moves.{posted_of}
use Rattle.pp_demand_steps.proofs.MovesPaired.{move_paired}

-- ---- one move

nowhere_within : (k : ℕ) (c : Standing) → IsBefore k c
    → IsWithin LessOne k (plain (steps.Both c.call.reach c.has ∷ steps.Not k ∷ []) (suc k) k)
nowhere_within k c h = record {
  reads = ((h.reach, h.has), (self_less k, tt));
  out = second_two k;
  alive = first_two k;
  fails = tt;
}

done_within : (k : ℕ) (c : Standing) → IsBefore k c
    → IsWithin LessOne k (plain (steps.Both c.call.reach c.has ∷ []) k k)
done_within k c h = record { reads = ((h.reach, h.has), tt); out = first_one k; alive = first_one k; fails = tt }

bodied_within : (functions : List Function) (o : Option Function) (k : ℕ) (c : Standing) → IsBefore k c
    → IsWithin LessOne k (bodied_of functions o k c)
bodied_within functions None k c h = nowhere_within k c h
bodied_within functions (Some f) k c h =
    let site = asking functions (suc c.call.wait) in
    let p : Piece ℕ = plain (steps.Both c.call.reach c.has ∷ []) k k in
    let n = after k p in
    let x = compile None site f.body n c.call.args k in
    let m = after n x in
    let e : Piece ℕ = plain (steps.Binary Equal x.out c.result ∷ []) m x.alive in
    let l = after m e in
    let d = demand false l x.alive m in
    let i = after l d in
    let kn : k ≤ n = at_most k 1 in
    let nm : n ≤ m = at_most n (length x.steps) in
    let hx = expr_stays n None site (asking_stays functions (suc c.call.wait) n) f.body n c.call.args k
    (le_self n, below_later k n c.call.args kn h.args) (first_one k) in
    let he = one_within (steps.Binary Equal x.out c.result) m x.alive
    (hx.out, less_later c.result k m (le_trans k n m kn nm) h.result) hx.alive in
    let hd = demand_within false l x.alive m (up x.alive m 1 hx.alive) (first_one m) in
    joined_within k p (joined x (joined e (joined d (implying i k d.alive)))) (done_within k c h)
    (joined_within n x (joined e (joined d (implying i k d.alive))) hx
    (joined_within m e (joined d (implying i k d.alive)) he
    (joined_within l d (implying i k d.alive) hd
    (implying_within i k d.alive
    (less_later k n i (le_trans n m i nm (le_trans m l i (at_most m 1) (at_most l (length d.steps)))) (first_one k))
    hd.alive))))

posted_within : (functions : List Function) (o : Option Function) (k : ℕ) (c : Standing) → IsBefore k c
    → IsWithin LessOne k (posted_of functions o k c)
posted_within functions None k c h = nowhere_within k c h
posted_within functions (Some f) k c h =
    let w = suc c.call.wait in
    let p : Piece ℕ = plain (steps.Both c.call.reach c.has ∷ []) k k in
    let n = after k p in
    let z = holding (asking functions w) f.post n (c.call.args ++ c.result ∷ []) k in
    let j = after n z in
    let kn : k ≤ n = at_most k 1 in
    let hz = holding_within functions w f.post n (c.call.args ++ c.result ∷ []) k
    (below_join n c.call.args (c.result ∷ []) (below_later k n c.call.args kn h.args)
    (less_later c.result k n kn h.result, tt)) (first_one k) in
    joined_within k p (joined z (implying j k z.alive)) (done_within k c h)
    (joined_within n z (implying j k z.alive) hz
    (implying_within j k z.alive (less_later k n j (at_most n (length z.steps)) (first_one k)) hz.alive))

move_within : (functions : List Function) (k : ℕ) (m : Move) → IsBefore k (call_of m)
    → IsWithin LessOne k (move_steps functions k m)
move_within functions k (Body c) h = bodied_within functions (slice_get functions c.call.callee.0) k c h
move_within functions k (Post c) h = posted_within functions (slice_get functions c.call.callee.0) k c h

-- ---- all moves

-- the outcome as a list
listed_within : (k : ℕ) (x : Piece ℕ) → IsWithin LessOne k x
    → IsWithin LessAll k (record { steps = x.steps; out = x.out ∷ []; alive = x.alive; fails = x.fails })
listed_within k x h = record { reads = h.reads; out = (h.out, tt); alive = h.alive; fails = h.fails }

moved_read : (functions : List Function) (g : GuessSteps) (m : Move) → IsReading g → IsBefore (length g.steps)
    (call_of m) → IsReading (moved functions g m)
moved_read functions g m h before =
    let x = move_steps functions (length g.steps) m in
    more_read g (record { steps = x.steps; out = x.out ∷ []; alive = x.alive; fails = x.fails }) h
    (listed_within (length g.steps) x (move_within functions (length g.steps) m before))

all_moved_read : (functions : List Function) (n : ℕ) (ms : List Move) (g : GuessSteps) → IsReading g → Paired g.steps
    → AreAllowed functions n g ms → IsReading (all_moved functions g ms)
all_moved_read functions n [] g h p allowed = h
all_moved_read functions n (m ∷ ms) g h p allowed =
    let k = length g.steps in
    let before = each_of (IsBefore k) (standing 0 g.steps) (call_of m)
    (standing_before 0 k g.steps (le_zero k) h.reads p) allowed.0.stands in
    all_moved_read functions n ms (moved functions g m) (moved_read functions g m h before)
    (paired_join g.steps _ p (move_paired functions k m)) allowed.1

pub moves_read : MovesRead
moves_read functions f check n ms moves =
    all_moved_read functions n ms _ (base_read functions f check) (base_paired functions f check) moves.allowed
