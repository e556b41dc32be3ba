-- The pieces of a guess run look at earlier steps alone, and their numbers are those of steps that stand.
use Rattle.std.proofs.Common.{ℕ, suc, ◌+◌, ◌<◌, ◌≤◌, Bool, true, false, List, [], ◌∷◌, ◌++◌, length, Option, Some}
use Rattle.std.proofs.Common.{None, arith}
use Rattle.std.specs.Prelude.{slice_get}
use Rattle.pp_tree.specs.declared.operator.BinaryOp.TheVariants.{Equal}
use Rattle.pp_prog.specs.declared.expr.Expr.{Expr}
use Rattle.pp_prog.specs.declared.expr.Function.{Function}
use Rattle.pp_prog.specs.declared.id.CheckId.{CheckId}
use Rattle.pp_prog.specs.declared.id.FunctionId.{FunctionId}
use Rattle.pp_steps.proofs.Counting.{first_one, first_two, less_suc, second_three, second_two, self_less, two_up}
use Rattle.pp_steps.proofs.Counting.{less_later, third_three}
use Rattle.pp_steps.specs.declared.step.Step.TheVariants as steps
use Rattle.pp_steps.specs.Compile.{Site, compile}
use Rattle.pp_steps.specs.Frames.{Frame, admitting, descending, measuring}
use Rattle.pp_steps.specs.Guesses.{Standing, asking, comparing, comparing_if, guessing, holding, implying, own_call}
use Rattle.pp_steps.specs.Guesses.{unfolded_of}
use Rattle.pp_steps.specs.Piece.{Piece, after, asks, demand, joined, plain}
use Rattle.pp_steps.specs.Reads.{Below}
use Rattle.pp_steps_run.specs.Told.{AllOf}
use Rattle.pp_steps_exist.proofs.Exprs.{AllStays, Frames, LessFrame, admitting_within, descending_within, expr_stays}
use Rattle.pp_steps_exist.proofs.Exprs.{frame_later, le_self, measuring_within, stopped_within}
use Rattle.pp_steps_exist.proofs.Forms.{SiteStays, below_end}
use Rattle.pp_steps_exist.proofs.Within.{IsWithin, LessOne, at_most, below_join, below_later, demand_within}
use Rattle.pp_steps_exist.proofs.Within.{joined_within, one_within, plain_within, up}

two_self : (k : ℕ) → k < suc (suc k)
two_self k = omega arith

le_suc : (k : ℕ) → k ≤ suc k
le_suc k = omega arith

-- ---- calls

module _ (functions : List Function) where
  pub asking_stays : (wait base : ℕ) → SiteStays base (asking functions wait)
  asking_stays wait base k reach g pre down args le r a = record {
    reads = (
      (r, a),
      ((less_suc reach k r, below_later k (suc k) args (le_suc k) a), ((two_up reach k r, two_self k), tt)),
    );
    out = second_three k;
    alive = third_three k;
    fails = tt;
  }

  frames_are : (base : ℕ) (site : Site) (its : SiteStays base site) (k : ℕ) (frame : Frame)
      → LessFrame base None site its k frame → Frames k frame
  frames_are base site its k None h = tt
  frames_are base site its k (Some ns) h = h

  comparing_within : (b : Bool) (asked : Option CheckId) (frame : Frame) (es : List Expr) (check : Option CheckId)
      (k : ℕ)
      (args : List ℕ) (reach : ℕ) → Frames k frame → Below k args → reach < k
      → IsWithin LessOne k (comparing_if b asked (asking functions 1) frame es check k args reach)
  comparing_within false asked frame es check k args reach fr a r =
      plain_within {R = LessOne} k [] reach reach tt (up reach k 0 r) r
  comparing_within true asked frame es check k args reach fr a r =
      let x = measuring None (asking functions 1) es k args reach in
      let hx = measuring_within k None (asking functions 1) (asking_stays 1 k) es k args reach (le_self k, a) r in
      joined_within k x (descending asked check frame x.out (after k x) x.alive) hx
      (descending_within asked check frame x.out (after k x) x.alive
      (frame_later k (after k x) frame (at_most k (length x.steps)) fr)
      (frames_are k (asking functions 1) (asking_stays 1 k) (after k x) x.out hx.out) hx.alive)

  own_within : (asked : Option CheckId) (frame : Frame) (o : Option Function) (k reach : ℕ) (g : FunctionId)
      (pre down : Option CheckId) (args : List ℕ) → Frames k frame → reach < k → Below k args
      → IsWithin LessOne k (own_call functions asked frame o k reach g pre down args)
  own_within asked frame None k reach g pre down args fr r a = stopped_within None k
  own_within asked frame (Some f) k reach g pre down args fr r a =
      let x = admitting asked (asking functions 1) f.pre pre k args reach in
      let n = after k x in
      let y = comparing asked (asking functions 1) frame f.measure down n args x.alive in
      let m = after n y in
      let z = asking functions 0 m y.alive g pre down args in
      let an = below_end k (length x.steps) args a in
      let hx = admitting_within asked (asking functions 1) (asking_stays 1) f.pre pre k args reach a r in
      let hy = comparing_within (asks asked down) asked frame f.measure down n args x.alive
      (frame_later k n frame (at_most k (length x.steps)) fr) an hx.alive in
      joined_within k x (joined y z) hx
      (joined_within n y z hy
      (asking_stays 0 m m y.alive g pre down args (le_self m) hy.alive (below_end n (length y.steps) args an)))

  pub guessing_stays : AllStays (guessing functions)
  guessing_stays asked frame base fr k reach g pre down args le r a =
      own_within asked frame (slice_get functions g.0) k reach g pre down args (frame_later base k frame le fr) r a

-- ---- calls that stand

-- the numbers of a call that stands before number k
pub record IsBefore (k : ℕ) (c : Standing) : Type 0 where
  pub reach : c.call.reach < k
  pub args : Below k c.call.args
  pub has : c.has < k
  pub result : c.result < k

pub before_later : (k n : ℕ) → k ≤ n → (c : Standing) → IsBefore k c → IsBefore n c
before_later k n le c h = record {
  reach = less_later c.call.reach k n le h.reach;
  args = below_later k n c.call.args le h.args;
  has = less_later c.has k n le h.has;
  result = less_later c.result k n le h.result;
}

pub all_later : (k n : ℕ) → k ≤ n → (cs : List Standing) → AllOf (IsBefore k) cs → AllOf (IsBefore n) cs
all_later k n le [] h = tt
all_later k n le (c ∷ cs) h = (before_later k n le c h.0, all_later k n le cs h.1)

pub implying_within : (k a b : ℕ) → a < k → b < k → IsWithin LessOne k (implying k a b)
implying_within k a b x y =
    plain_within {R = LessOne} k (steps.Not b ∷ steps.Both a k ∷ steps.Not (suc k) ∷ []) (suc (suc k)) a
    (y, ((less_suc a k x, self_less k), (self_less (suc k), tt))) (third_three k) x

pub holding_within : (functions : List Function) (wait : ℕ) (o : Option (CheckId × Expr)) (k : ℕ) (values : List ℕ)
    (reach : ℕ)
    → Below k values → reach < k → IsWithin LessOne k (holding (asking functions wait) o k values reach)
holding_within functions wait None k values reach v r =
    plain_within {R = LessOne} k [] reach reach tt (up reach k 0 r) r
holding_within functions wait (Some post) k values reach v r =
    let x = compile None (asking functions wait) post.1 k values reach in
    let hx = expr_stays k None (asking functions wait) (asking_stays functions wait k) post.1 k values reach
    (le_self k, v) r in
    joined_within k x (demand false (after k x) x.alive x.out) hx
    (demand_within false (after k x) x.alive x.out hx.alive hx.out)

pub unfolded_within : (functions : List Function) (o : Option Function) (k : ℕ) (c : Standing) → IsBefore k c
    → IsWithin LessOne k (unfolded_of functions o k c)
unfolded_within functions None k c h = record {
  reads = ((h.reach, h.has), (self_less k, tt));
  out = second_two k;
  alive = first_two k;
  fails = tt;
}
unfolded_within functions (Some f) k c h =
    let site = asking functions (suc c.call.wait) in
    let p : Piece ℕ = plain (steps.Both c.call.reach c.has ∷ []) k k in
    let n = after k p in
    let x = compile None site f.body n c.call.args k in
    let m = after n x in
    let e : Piece ℕ = plain (steps.Binary Equal x.out c.result ∷ []) m x.alive in
    let l = after m e in
    let d = demand false l x.alive m in
    let i = after l d in
    let z = holding site f.post i (c.call.args ++ c.result ∷ []) d.alive in
    let j = after i z in
    let kn : k ≤ n = at_most k 1 in
    let km = le_trans k n m kn (at_most n (length x.steps)) in
    let ki = le_trans k m i km (le_trans m l i (at_most m 1) (at_most l (length d.steps))) in
    let hp : IsWithin LessOne k p =
    record { reads = ((h.reach, h.has), tt); out = first_one k; alive = first_one k; fails = tt } in
    let hx = expr_stays n None site (asking_stays functions (suc c.call.wait) n) f.body n c.call.args k
    (le_self n, below_later k n c.call.args kn h.args) (first_one k) in
    let he = one_within (steps.Binary Equal x.out c.result) m x.alive (hx.out, less_later c.result k m km h.result)
    hx.alive in
    let hd = demand_within false l x.alive m (up x.alive m 1 hx.alive) (first_one m) in
    let hz = holding_within functions (suc c.call.wait) f.post i (c.call.args ++ c.result ∷ []) d.alive
    (below_join i c.call.args (c.result ∷ []) (below_later k i c.call.args ki h.args)
    (less_later c.result k i ki h.result, tt)) hd.alive in
    let kj = le_trans k i j ki (at_most i (length z.steps)) in
    joined_within k p (joined x (joined e (joined d (joined z (implying j k z.alive))))) hp
    (joined_within n x (joined e (joined d (joined z (implying j k z.alive)))) hx
    (joined_within m e (joined d (joined z (implying j k z.alive))) he
    (joined_within l d (joined z (implying j k z.alive)) hd
    (joined_within i z (implying j k z.alive) hz
    (implying_within j k z.alive (less_later k n j (le_trans n m j (at_most n (length x.steps))
    (le_trans m l j (at_most m 1) (le_trans l i j (at_most l (length d.steps)) (at_most i (length z.steps)))))
    (first_one k))
    hz.alive)))))
  where
    le_trans : (a b c : ℕ) → a ≤ b → b ≤ c → a ≤ c
    le_trans a b c h g = omega arith
