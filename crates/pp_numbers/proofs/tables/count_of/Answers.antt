use Rattle.std.proofs.Common.{arith}
use Rattle.pp_numbers.proofs.Counts.{count_at_most}
use Rattle.pp_numbers.proofs.tables.count_of.Goals as goal

pub overflow_add-count : goal.overflow_add-count
overflow_add-count c = omega (arith, count_at_most c.args.ctors.now c.loop-c.c-index c.args.r)
