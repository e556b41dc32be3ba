-- Calls inside a group, and the ranks of what is called.
use Rattle.std.proofs.Common.{◌≡◌, ℕ, true, List, [], ◌∷◌, ◌++◌, Some, Contains, slice_get, refl, sym, ap, ◌∙◌, subst}
use Rattle.std.proofs.Common.{arith, inl, inr}
use Rattle.std.proofs.lemmas.List.Elements.{Contains-append_left}
use Rattle.std.proofs.lemmas.Option.{slice_get_cases, slice_get_within}
use Rattle.pp_graph.specs.Reaches.{Reaches, SameGroup, by_call, by_more, calls_of}
use Rattle.pp_graph.proofs.Paths.{further}
use Rattle.pp_prog.specs.declared.expr.Expr.{Expr}
use Rattle.pp_prog.specs.declared.expr.Function.{Function}
use Rattle.pp_prog.specs.declared.program.Program.{Program}
use Rattle.pp_prog.specs.Calls.{OneGroup, call_table, calls, contract_calls, function_calls, post_calls}
use Rattle.pp_prog.specs.Cone.{InCone}
use Rattle.pp_prog.specs.Valid.{is_written}
use Rattle.pp_checks.specs.Plan.{IsPlanOf, Plan}
use Rattle.pp_checks.specs.Ranks.{IsRank}
use Rattle.pp_checks.proofs.Ruling.{calls_at}

-- the way back to a function of the group begins inside the group
first_step : (calls : List (List ℕ)) (k g : ℕ) → Reaches calls k g → Reaches calls g k
    → (x : ℕ) × Contains (calls_of calls k) x × SameGroup calls k x
first_step calls _ _ (by_call k g c) back = (g, c, inr (by_call k g c, back))
first_step calls _ _ (by_more k x g c r) back = (x, c, inr (by_call k x c, further calls x g k r back))

module _ (plan : Plan) (p : Program) (is_plan : IsPlanOf plan p) where
  abbrev graph : List (List ℕ)
  graph = call_table p.functions

  -- a function that calls into its own group has a measure
  pub measured : (i x : ℕ) (f : Function) → slice_get p.functions i ≡ Some f → Contains (function_calls f) x
      → OneGroup p.functions i x → is_written f.measure ≡ true
  measured i x f is has same = by f.measure refl
    where
      by : (es : List Expr) → f.measure ≡ es → is_written es ≡ true
      by [] e =
          absurd ((is_plan.rules i f (slice_get_within p.functions i f is) is).measured (e, (x, has, same)))
      by (e ∷ es) same = refl

  -- and so has the function of the group that it calls
  pub callee_measured : (i g : ℕ) (f h : Function) → slice_get p.functions i ≡ Some f → slice_get p.functions g ≡ Some h
      → Contains (function_calls f) g → OneGroup p.functions i g → is_written h.measure ≡ true
  callee_measured i g f h is there has (inl e) =
      let same : f ≡ h = (let both : Some f ≡ Some h = sym is ∙ ap (slice_get p.functions) e ∙ there in cc) in
      subst (λ (k : Function). is_written k.measure ≡ true) same (measured i g f is has (inl e))
  callee_measured i g f h is there has (inr ways) =
      let x = first_step graph g i ways.1 ways.0 in
      measured g x.0 h there (subst (λ l. Contains l x.0) (calls_at p.functions g h there) x.1) x.2

  -- each function has a rank
  pub rank_of : (i : ℕ) (f : Function) → slice_get p.functions i ≡ Some f → (r : ℕ) × IsRank p.functions i r
  rank_of i f is = elim (slice_get_cases plan.ranks i).1 [
    | inl here ↦ (here.0, is_plan.ranks.each i here.0 here.2)
    | inr past ↦ absurd (omega (arith, past.0, is_plan.ranks.size, slice_get_within p.functions i f is))
  ]

-- what a function of the cone calls is in the cone
pub cone_step : (functions : List Function) (f i g : ℕ) (h : Function) → InCone functions f i
    → slice_get functions i ≡ Some h → Contains (function_calls h) g → InCone functions f g
cone_step functions f i g h cone is has =
    by cone (by_call i g (subst (λ l. Contains l g) (sym (calls_at functions i h is)) has))
  where
    by : InCone functions f i → Reaches (call_table functions) i g → InCone functions f g
    by (inl e) r = inr (subst (λ k. Reaches (call_table functions) k g) (sym e) r)
    by (inr q) r = inr (further (call_table functions) f i g q r)

-- what the precondition and the measure list call is called
pub contract_within : (f : Function) (g : ℕ) → Contains (contract_calls f) g → Contains (function_calls f) g
contract_within f g has =
    Contains-append_left (contract_calls f ++ calls f.body) (post_calls f.post) g
    (Contains-append_left (contract_calls f) (calls f.body) g has)
