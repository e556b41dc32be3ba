use Rattle.pp_ordinary.proofs.Offsets.{cases_few, nodes_few}
use Rattle.pp_ordinary.proofs.spelled_are_small.Goals as goal

pub returns : goal.returns
returns c texts units are spells =
    (nodes_few texts units are.few are.short spells, cases_few texts units are.short spells)
