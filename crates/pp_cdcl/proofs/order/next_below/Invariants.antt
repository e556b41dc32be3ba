use Rattle.pp_cdcl.proofs.order.next_below.Given as goal

abbrev pub decreases-loop-var : goal.decreases-loop-var
decreases-loop-var l = l.var
