-- Several conditions that are one, and what they call.
use Rattle.std.proofs.Common.{◌≡◌, ℕ, List, ◌++◌, map, Option, Some, None, refl, ap, ◌∙◌}
use Rattle.std.specs.Option.{option_map}
use Rattle.pp_list.specs.Joined.{joined, or_none}
use Rattle.pp_prog.specs.Calls.{calls, pre_calls}
use Rattle.pp_tree.specs.declared.operator.BinaryOp.TheVariants.{AndAlso}
use Rattle.pp_prog.specs.declared.expr.Expr.{Expr}
use Rattle.pp_prog.proofs.CallForms.{calls_of_binary}
use Rattle.pp_translation.specs.Functions.{as_one}
use Rattle.pp_translation.proofs.Conditions.{as_one_joined}

abbrev Ns : Type 0
Ns = List ℕ

-- two parts, each another list
pub both_parts : {a b c d : Ns} → a ≡ c → b ≡ d → a ++ b ≡ c ++ d
both_parts {a} {b} {c} {d} p q = ap (λ (l : Ns). l ++ b) p ∙ ap (λ (l : Ns). c ++ l) q

pre_calls_if : (o : Option Expr) → pre_calls o ≡ or_none (option_map calls o)
pre_calls_if None = refl
pre_calls_if (Some e) = refl

-- several conditions that are one call what they call
pub calls_of_one : (es : List Expr) → pre_calls (as_one es) ≡ joined (map calls es)
calls_of_one es =
    pre_calls_if (as_one es) ∙ as_one_joined calls (λ (a b : Expr). calls_of_binary AndAlso a b None) es
