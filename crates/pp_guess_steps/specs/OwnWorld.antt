-- The world of values themselves: an open call is answered by the first call like it that is reached and has an answer.
-- Source: own.
use Rattle.std.specs.Prelude.{ℕ, nat_eq, nat_le, Bool, ◌&&◌, if◌then◌else◌, List, [], ◌∷◌, map, Option, Some, None}
use Rattle.std.specs.Prelude.{is_some, slice_get}
use Rattle.pp_prog.specs.declared.expr.Function.{Function}
use Rattle.pp_prog.specs.declared.id.CtorId.{CtorId}
use Rattle.pp_prog.specs.declared.id.FunctionId.{FunctionId}
use Rattle.pp_prog.specs.declared.value.Value.{Value}
use Rattle.pp_eval.specs.Equality.{equal, pass_all}
use Rattle.pp_guess_runs.specs.Answers.{Answers, Entry}
use Rattle.pp_steps.specs.Guesses.{Standing}
use Rattle.pp_steps.specs.Meaning.{Missing, Values, bit}

-- whether the call waits as the test says, is of this function on these arguments, is reached and has an answer
abbrev pub is_hit : Values → (ℕ → Bool) → FunctionId → List Value → Standing → Bool
is_hit ρ test g vs c =
    test c.call.wait && (nat_eq c.call.callee.0 g.0 && (pass_all (map equal (map ρ c.call.args)) vs
    && (bit (ρ c.call.reach) && bit (ρ c.has))))

-- the answer of the first such call
abbrev pub own_answer : Values → List Standing → (ℕ → Bool) → FunctionId → List Value → Option Value
own_answer ρ [] test g vs = None
own_answer ρ (c ∷ cs) test g vs = if is_hit ρ test g vs c then Some (ρ c.result) else own_answer ρ cs test g vs

abbrev pub own_world : (CtorId → ℕ → Value) → Values → List Standing → Missing
own_world field ρ calls = record {
  field = field;
  answer = λ wait g params result args. own_answer ρ calls (λ i. nat_eq i wait) g args;
}

-- the answers of the calls that no round up to this one unfolds
abbrev pub answers_left : Values → List Standing → ℕ → Answers
answers_left ρ calls n g args = own_answer ρ calls (λ wait. nat_le n wait) g args

-- whether the call is of a function, waits at least so long, is reached and has an answer
abbrev pub is_entry : List Function → Values → ℕ → Standing → Bool
is_entry functions ρ n c =
    is_some (slice_get functions c.call.callee.0) && (nat_le n c.call.wait && (bit (ρ c.call.reach) && bit (ρ c.has)))

abbrev pub entry_of : Values → Standing → Entry
entry_of ρ c = record { function = c.call.callee; args = map ρ c.call.args; answer = ρ c.result }

-- the table of these calls
abbrev pub table_of : List Function → Values → ℕ → List Standing → List Entry
table_of functions ρ n [] = []
table_of functions ρ n (c ∷ cs) =
    if is_entry functions ρ n c then entry_of ρ c ∷ table_of functions ρ n cs else table_of functions ρ n cs
