use Rattle.std.proofs.Common.{rules}
use Rattle.std.specs.Int.{w32}
use Rattle.std.specs.Int.RustNames.{FitsSigned}
use Rattle.pp_word.proofs.Ranges.{IsWord-from_fits}
use Rattle.pp_closure.proofs.AddedNumbers.{back_difference, exact_part}
use Rattle.pp_closure.proofs.amounts.is_exact_part.Goals as goal

pub returns-in-Some-Some : goal.returns-in-Some-Some
returns-in-Some-Some c ρ adds holds is =
    let low = c.in-Some-Some.low in
    let high = c.in-Some-Some.high in
    let f : FitsSigned w32 low = search rules in
    let g : FitsSigned w32 high = search rules in
    let a : FitsSigned w32 c.low.result = search rules in
    let b : FitsSigned w32 c.high.result = search rules in
    let d : FitsSigned w32 c.high-2.result = search rules in
    let e : FitsSigned w32 c.low-2.result = search rules in
    exact_part ρ c.args.it _ _ _ _ low high adds (c.low.ensures ρ holds adds.sum.word)
    (c.high-2.ensures ρ holds adds.sum.word) (c.low-2.ensures ρ holds adds.other.word)
    (c.high.ensures ρ holds adds.other.word) (back_difference low _ _ a b c.in-Some-Some.ensures)
    (back_difference high _ _ d e c.in-Some-Some.ensures')
    (IsWord-from_fits w32 low f) (IsWord-from_fits w32 high g)
