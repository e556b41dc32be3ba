-- The operands of a step, which are the numbers that it reads, and the step with other operands. Source: own.
use Rattle.std.specs.Prelude.{ℕ, List, [], ◌∷◌, map}
use Rattle.pp_steps.specs.declared.step.OpenCall.{OpenCall}
use Rattle.pp_steps.specs.declared.step.Step.{Step}
use Rattle.pp_steps.specs.declared.step.Step.TheVariants as steps

abbrev pub operands : Step → List ℕ
operands (steps.Open s) = []
operands (steps.Int n) = []
operands (steps.Bool b) = []
operands (steps.Not a) = a ∷ []
operands (steps.Both a b) = a ∷ b ∷ []
operands (steps.Choose c a b) = c ∷ a ∷ b ∷ []
operands (steps.Unary op a) = a ∷ []
operands (steps.Binary op a b) = a ∷ b ∷ []
operands (steps.Construct c fields) = fields
operands (steps.IsCtor c n a) = a ∷ []
operands (steps.CtorField c i a) = a ∷ []
operands (steps.Field a i) = a ∷ []
operands (steps.IsAlike a b) = a ∷ b ∷ []
operands (steps.GoesDown a b) = a ∷ b ∷ []
operands (steps.HasAnswer c) = c.reach ∷ c.args
operands (steps.Answer c) = c.reach ∷ c.args

-- each of the numbers has the property
abbrev pub Each : (ℕ → Type 0) → List ℕ → Type 0
Each P [] = Unit {0}
Each P (n ∷ ns) = P n × Each P ns

-- the open call with its numbers renamed
abbrev pub call_renamed : (ℕ → ℕ) → OpenCall → OpenCall
call_renamed r c = record {
  callee = c.callee;
  wait = c.wait;
  reach = r c.reach;
  params = c.params;
  result = c.result;
  args = map r c.args;
}

-- the step with its operands renamed
abbrev pub renamed : (ℕ → ℕ) → Step → Step
renamed r (steps.Open s) = steps.Open s
renamed r (steps.Int n) = steps.Int n
renamed r (steps.Bool b) = steps.Bool b
renamed r (steps.Not a) = steps.Not (r a)
renamed r (steps.Both a b) = steps.Both (r a) (r b)
renamed r (steps.Choose c a b) = steps.Choose (r c) (r a) (r b)
renamed r (steps.Unary op a) = steps.Unary op (r a)
renamed r (steps.Binary op a b) = steps.Binary op (r a) (r b)
renamed r (steps.Construct c fields) = steps.Construct c (map r fields)
renamed r (steps.IsCtor c n a) = steps.IsCtor c n (r a)
renamed r (steps.CtorField c i a) = steps.CtorField c i (r a)
renamed r (steps.Field a i) = steps.Field (r a) i
renamed r (steps.IsAlike a b) = steps.IsAlike (r a) (r b)
renamed r (steps.GoesDown a b) = steps.GoesDown (r a) (r b)
renamed r (steps.HasAnswer c) = steps.HasAnswer (call_renamed r c)
renamed r (steps.Answer c) = steps.Answer (call_renamed r c)
