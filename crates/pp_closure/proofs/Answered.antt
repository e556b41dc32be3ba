-- Calls that are left open, and their answers.
use Rattle.std.proofs.Common.{◌≡◌, ℕ, true, List, Option, Some, None, map, refl, sym, ap, ◌∙◌}
use Rattle.pp_prog.specs.declared.id.FunctionId.{FunctionId}
use Rattle.pp_prog.specs.declared.sort.Sort.{Sort}
use Rattle.pp_prog.specs.declared.value.Value.{Value}
use Rattle.pp_prog.specs.declared.value.Value.TheVariants.{Bool as Truth}
use Rattle.pp_demand_steps.specs.Laws.{AnswersAlike}
use Rattle.pp_steps.specs.declared.step.OpenCall.{OpenCall}
use Rattle.pp_steps.specs.Meaning.{Missing, Values, answer_of, bit, is_answered}
use Rattle.pp_closure.specs.Calls.{AskAlike, HasOne}
use Rattle.pp_closure.proofs.Values.{bit_of}

-- what a call is answered that waits so long and asks like another one
asked_alike : (missing : Missing) (ρ : Values) (c d : OpenCall) (wait : ℕ) → AskAlike ρ c d
    → missing.answer wait c.callee c.params c.result (map ρ c.args)
    ≡ missing.answer wait d.callee d.params d.result (map ρ d.args)
asked_alike missing ρ c d wait alike =
    ap (λ (g : FunctionId). missing.answer wait g c.params c.result (map ρ c.args)) alike.callee
    ∙ ap (λ (ss : List Sort). missing.answer wait d.callee ss c.result (map ρ c.args)) alike.params
    ∙ ap (λ (s : Sort). missing.answer wait d.callee d.params s (map ρ c.args)) alike.result
    ∙ ap (λ (vs : List Value). missing.answer wait d.callee d.params d.result vs) alike.args

-- calls that ask alike and wait as long are answered alike
pub answered_alike : (missing : Missing) (ρ : Values) (c d : OpenCall) → AskAlike ρ c d → c.wait ≡ d.wait
    → answer_of missing ρ c ≡ answer_of missing ρ d
answered_alike missing ρ c d alike wait =
    ap (λ (w : ℕ). missing.answer w c.callee c.params c.result (map ρ c.args)) wait
    ∙ asked_alike missing ρ c d d.wait alike

-- two answers of calls that ask alike are one
pub one_answer : (missing : Missing) (ρ : Values) (c d : OpenCall) (x y : Value) → AnswersAlike missing
    → AskAlike ρ c d → answer_of missing ρ c ≡ Some x → answer_of missing ρ d ≡ Some y → x ≡ y
one_answer missing ρ c d x y answers alike one other =
    answers c.wait d.wait d.callee d.params d.result (map ρ d.args) x y
    (sym (asked_alike missing ρ c d c.wait alike) ∙ one) other

some_answer : (o : Option Value) → is_answered o ≡ true → (u : Value) × (o ≡ Some u)
some_answer None h = absurd (cc)
some_answer (Some u) h = (u, refl)

-- a call has an answer where the step that tells so is true, and one that is answered alike
pub has_one : (missing : Missing) (ρ : Values) (k : ℕ) (c d : OpenCall) → bit (ρ k) ≡ true
    → ρ k ≡ Truth (is_answered (answer_of missing ρ c)) → answer_of missing ρ c ≡ answer_of missing ρ d
    → HasOne missing ρ d
has_one missing ρ k c d told is alike =
    some_answer (answer_of missing ρ d) (ap is_answered (sym alike) ∙ sym (bit_of (ρ k) _ is) ∙ told)

-- the step is the answer
pub is_answer : (o : Option Value) (v : Value) → (u : Value) × (o ≡ Some u) → ((u : Value) → o ≡ Some u → v ≡ u)
    → o ≡ Some v
is_answer o v has is = has.1 ∙ ap (λ (x : Value). Some x) (sym (is has.0 has.1))
