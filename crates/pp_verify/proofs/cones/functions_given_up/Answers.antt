use Rattle.std.proofs.Common.{length}
use Rattle.pp_verify.specs.GivenUp.{HasHope, HasTriedSize}
use Rattle.pp_verify.proofs.Others.{more_given_up, others_are_proved}
use Rattle.pp_verify.proofs.cones.functions_given_up.Goals as goal

pub returns : goal.returns
returns c =
    let p = c.args.program.now in
    let limits = c.args.limits in
    let ends = c.args.ends.now in
    let by_ends = c.give_up_by_ends.ensures in
    let by_sizes = c.in_ok-give_up_by_sizes.ensures in
    let by_guesses = c.in_ok-give_up_by_guesses.ensures in
    let marks = c.give_up_by_guesses.new.given_up in
    others_are_proved c.args.plan.now p c.requires.plan limits ends c.requires.size c.requires.ends marks
    by_guesses.marks
    (more_given_up p ends (HasHope p limits) (length p.checks) c.give_up_by_ends.new.given_up marks
    (λ g h. by_guesses.kept g (by_sizes.kept g h)) by_ends.others)
    by_guesses.others
    (more_given_up p ends (HasTriedSize p limits) (length p.checks) c.give_up_by_sizes.new.given_up marks
    by_guesses.kept by_sizes.others)
