use Rattle.std.proofs.Common.{◌≡◌, ◌<◌, take, length}
use Rattle.std.specs.Prelude.{filter, IfSome}
use Rattle.std.specs.Option.{option_to_list}
use Rattle.pp_clause.specs.Literal.{opposite}
use Rattle.pp_refute.specs.Table.{marked}
use Rattle.pp_refute.proofs.table.only_clash.Given as goal

abbrev pub invariant-loop-lit : goal.invariant-loop-lit
invariant-loop-lit l =
    (filter (λ x. marked l.table (opposite x)) (take l.lit-index l.clause) ≡ option_to_list l.found)
    × IfSome l.found (λ x. x.var < length l.table)
