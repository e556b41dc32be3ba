-- Values that obey all steps but the open calls.
use Rattle.std.proofs.Common.{ℕ, suc, ◌+◌, List, [], ◌∷◌, ◌++◌, length, subst}
use Rattle.pp_prog.specs.declared.types.Ctor.{Ctor}
use Rattle.pp_prog.specs.declared.value.Value.{Value}
use Rattle.pp_steps.specs.declared.step.Step.{Step}
use Rattle.pp_steps.specs.declared.step.Step.TheVariants as steps
use Rattle.pp_steps.specs.Meaning.{Does, Missing, Obeys, Values}
use Rattle.pp_steps.proofs.Counting.{plus_none, plus_suc}
use Rattle.pp_steps_run.specs.Told.{AllOf}
use Rattle.pp_guess_steps.specs.Laws.{DoesRest, ObeysRest}
use Rattle.pp_guess_steps.proofs.CallsPaired.{IsNoCall}

abbrev pub AllNoCall : List Step → Type 0
AllNoCall = AllOf IsNoCall

pub quiet_join : (xs ys : List Step) → AllNoCall xs → AllNoCall ys → AllNoCall (xs ++ ys)
quiet_join [] ys h g = g
quiet_join (x ∷ xs) ys h g = (h.0, quiet_join xs ys h.1 g)

module _ (ctors : List Ctor) (missing : Missing) (ρ : Values) where
  pub rest_left : (k : ℕ) (xs ys : List Step) → ObeysRest ctors missing ρ k (xs ++ ys) → ObeysRest ctors missing ρ k xs
  rest_left k [] ys h = tt
  rest_left k (x ∷ xs) ys h = (h.0, rest_left (suc k) xs ys h.1)

  pub rest_right : (k : ℕ) (xs ys : List Step) → ObeysRest ctors missing ρ k (xs ++ ys) → ObeysRest ctors missing ρ
      (k + length xs) ys
  rest_right k [] ys h = subst (λ i. ObeysRest ctors missing ρ i ys) (plus_none k) h
  rest_right k (x ∷ xs) ys h =
      subst (λ i. ObeysRest ctors missing ρ i ys) (plus_suc k (length xs)) (rest_right (suc k) xs ys h.1)

  quiet_does : (s : Step) (v : Value) → IsNoCall s → DoesRest ctors missing ρ s v → Does ctors missing ρ s v
  quiet_does (steps.HasAnswer c) v h g = absurd h
  quiet_does (steps.Answer c) v h g = absurd h
  quiet_does (steps.Open s) v h g = g
  quiet_does (steps.Int n) v h g = g
  quiet_does (steps.Bool b) v h g = g
  quiet_does (steps.Not a) v h g = g
  quiet_does (steps.Both a b) v h g = g
  quiet_does (steps.Choose c a b) v h g = g
  quiet_does (steps.Unary op a) v h g = g
  quiet_does (steps.Binary op a b) v h g = g
  quiet_does (steps.Construct c fields) v h g = g
  quiet_does (steps.IsCtor c n a) v h g = g
  quiet_does (steps.CtorField c i a) v h g = g
  quiet_does (steps.Field a i) v h g = g
  quiet_does (steps.IsAlike a b) v h g = g
  quiet_does (steps.GoesDown a b) v h g = g

  pub quiet_obeys : (k : ℕ) (ss : List Step) → AllNoCall ss → ObeysRest ctors missing ρ k ss → Obeys ctors missing ρ k
      ss
  quiet_obeys k [] h g = tt
  quiet_obeys k (s ∷ ss) h g = (quiet_does s (ρ k) h.0 g.0, quiet_obeys (suc k) ss h.1 g.1)
