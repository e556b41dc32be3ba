use Rattle.std.proofs.Common.{◌≡◌, ◌*◌, length}
use Rattle.pp_inhabited.specs.Laws.{IsSound}
use Rattle.pp_inhabited.proofs.order.visit_in_order.Given as goal

abbrev pub invariant-loop : goal.invariant-loop
invariant-loop l = (length l.rows ≡ 16 * length l.roots) × IsSound l.roots l.ctors l.rows
