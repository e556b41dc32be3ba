use Rattle.std.proofs.Common.{List, Bool, MatchOption, length, subst}
use Rattle.pp_inhabited.specs.Table.{IsFirstUnwritten, NoneUnwritten}
use Rattle.pp_inhabited.proofs.Answer.{answer}
use Rattle.pp_inhabited.proofs.uninhabited.first_uninhabited.Goals as goal

pub returns : goal.returns
returns c =
    answer c.args.roots.now c.args.ctors.now c.settle.new.rows c.requires.few c.settle.ensures.sound
    c.settle.ensures.closed c.first_unwritten.result
    (subst (λ (t : List Bool). MatchOption c.first_unwritten.result (NoneUnwritten t (length c.args.roots.now))
    (IsFirstUnwritten t (length c.args.roots.now)))
    c.as_slice.ensures c.first_unwritten.ensures)
