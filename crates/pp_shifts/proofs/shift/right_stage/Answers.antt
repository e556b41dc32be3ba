use Rattle.std.proofs.Common.{refl, ap, ◌∙◌}
use Rattle.pp_clause.specs.Literal.{lit_value}
use Rattle.pp_bits.specs.Number.{nat_of}
use Rattle.pp_bits.proofs.Numbers.{nat_of_below}
use Rattle.pp_shifts.proofs.Moved.{right_moves, move_chosen}
use Rattle.pp_shifts.proofs.Places.{nat_of_moved}
use Rattle.pp_shifts.proofs.shift.right_stage.Goals as goal

pub returns-clause-value : goal.returns-clause-value
returns-clause-value c = λ s gives.
    let ls = c.args.digits.now in
    move_chosen (right_moves _ (lit_value s c.args.fill)) (lit_value s c.args.choice) (nat_of s ls) _ c.args.by _
    (nat_of_below s ls)
    (ap (nat_of s) (c.deref.ensures.value ∙ c.in_ok-moved.ensures.value) ∙ nat_of_moved s ls c.args.by _ _ refl)
    (c.in_ok-chosen.ensures.stands.value s gives)
