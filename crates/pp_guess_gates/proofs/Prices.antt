-- What events are worth, where looks at one datatype, calls of one function and comparisons have prices.
--
-- Steps are weighed by the same prices, and weigh at most what the events of their expression are worth. A call that
-- stands open weighs what is left for it besides: what its body and its postcondition are worth. The round that unfolds
-- it spends that, so no round weighs more than the visit of the own frame is worth. This holds for all prices: without
-- any it bounds the gates and the steps, and a price beyond all bounds tells that there are no more looks, comparisons
-- or calls than events. What looks and pairs take together then follows from how many there are.
use Rattle.std.proofs.Common.{◌≡◌, ℕ, ◌+◌, ◌*◌, ◌≤◌, if◌then◌else◌, Bool, true, false, List, [], ◌∷◌, ◌++◌, refl}
use Rattle.std.proofs.Common.{ap, ◌∙◌, arith}
use Rattle.std.proofs.Math.Nat.{mul-add, mul-zero}
use Rattle.std.specs.Prelude.{nat_eq}
use Rattle.pp_prog.specs.declared.id.DataId.{DataId}
use Rattle.pp_prog.specs.declared.id.FunctionId.{FunctionId}
use Rattle.pp_prog.specs.declared.sort.Sort.{Sort}
use Rattle.pp_prog.specs.declared.sort.Sort.TheVariants as sort
use Rattle.pp_prog.specs.Sizes.{by_sort}
use Rattle.pp_estimate.specs.Events.{Event, called, calls, compare, compares, cost, look, looks, one_if, work}
use Rattle.pp_estimate.specs.Visits.{look_at, node}
use Rattle.pp_estimate_laws.proofs.Growth.{EventsGrow}

-- the price of a look at one datatype, of a comparison, of a call of one function, and of an open call of a function
-- that isn't in the program; others have none
pub record Prices : Type 0 where
  pub datatype : ℕ
  pub look : ℕ
  pub compare : ℕ
  pub function : ℕ
  pub call : ℕ
  pub stray : ℕ

abbrev pub look_price : Prices → DataId → ℕ
look_price ψ d = if nat_eq d.0 ψ.datatype then ψ.look else 0

abbrev pub call_price : Prices → FunctionId → ℕ
call_price ψ g = if nat_eq g.0 ψ.function then ψ.call else 0

-- a node is worth twice its weight
abbrev pub price : Prices → Event → ℕ
price ψ (work n) = 2 * n
price ψ (look d) = look_price ψ d
price ψ (called g) = call_price ψ g
price ψ compare = ψ.compare

-- what the events are worth together
abbrev pub worth : Prices → List Event → ℕ
worth ψ [] = 0
worth ψ (e ∷ es) = price ψ e + worth ψ es

module _ (ψ : Prices) where
  pub worth_of_both : (a b : List Event) → worth ψ (a ++ b) ≡ worth ψ a + worth ψ b
  worth_of_both [] b = omega arith
  worth_of_both (e ∷ a) b = let rest = worth_of_both a b in omega arith

  pub worth_of_node : (n : ℕ) → worth ψ (node n) ≡ 128 + 2 * n
  worth_of_node n = omega arith

  pub worth_of_look : (s : Sort) → worth ψ (look_at s) ≡ by_sort 0 0 (look_price ψ) s
  worth_of_look sort.Int = refl
  worth_of_look sort.Bool = refl
  worth_of_look (sort.Tree d) = omega arith

  -- the looks, comparisons and calls that have a price
  abbrev pub priced : List Event → ℕ
  priced es = ψ.look * looks es ψ.datatype + (ψ.compare * compares es + ψ.call * calls es ψ.function)

  priced_one : (a n : ℕ) (t : Bool) → a * (one_if t + n) ≡ (if t then a else 0) + a * n
  priced_one a n t = mul-add a (one_if t) n ∙ ap (λ k. k + a * n) (by t)
    where
      by : (t : Bool) → a * one_if t ≡ (if t then a else 0)
      by true = omega arith
      by false = omega arith

  pub worth_is : (es : List Event) → worth ψ es ≡ 2 * cost es + priced es
  worth_is [] =
      let a = mul-zero ψ.look in let b = mul-zero ψ.compare in let c = mul-zero ψ.call in omega arith
  worth_is (work n ∷ es) =
      let rest = worth_is es in
      let a = priced_one ψ.look (looks es ψ.datatype) false in
      let b = priced_one ψ.compare (compares es) false in
      let c = priced_one ψ.call (calls es ψ.function) false in
      omega arith
  worth_is (look d ∷ es) =
      let rest = worth_is es in
      let a = priced_one ψ.look (looks es ψ.datatype) (nat_eq d.0 ψ.datatype) in
      let b = priced_one ψ.compare (compares es) false in
      let c = priced_one ψ.call (calls es ψ.function) false in
      omega arith
  worth_is (called g ∷ es) =
      let rest = worth_is es in
      let a = priced_one ψ.look (looks es ψ.datatype) false in
      let b = priced_one ψ.compare (compares es) false in
      let c = priced_one ψ.call (calls es ψ.function) (nat_eq g.0 ψ.function) in
      omega arith
  worth_is (compare ∷ es) =
      let rest = worth_is es in
      let a = priced_one ψ.look (looks es ψ.datatype) false in
      let b = priced_one ψ.compare (compares es) true in
      let c = priced_one ψ.call (calls es ψ.function) false in
      omega arith

  -- events that grow are worth no less
  pub worth_grows : (a b : List Event) → EventsGrow a b → worth ψ a ≤ worth ψ b
  worth_grows a b h =
      let costs = h.costs in
      let one = worth_is a in
      let two = worth_is b in
      let l = ap (λ n. ψ.look * n) (h.looks ψ.datatype) in
      let c = ap (λ n. ψ.compare * n) h.compares in
      let k = ap (λ n. ψ.call * n) (h.calls ψ.function) in
      omega arith
