use Rattle.pp_instances.specs.declared.member.Decl.TheVariants.{Function}
use Rattle.pp_numbers.proofs.Found.{members_turn}
use Rattle.pp_translation.specs.Numbers.{stands_for}
use Rattle.pp_numbers.proofs.tables.functions_of.Goals as goal

pub loop-i-preserved : goal.loop-i-preserved
loop-i-preserved c =
    members_turn (stands_for Function) c.args.functions.now c.loop-i.i-index c.i-item.result c.requires
    c.loop-i-test.true c.i-item.is
    c.loop-i.invariant c.in_ok-add_member.ensures
