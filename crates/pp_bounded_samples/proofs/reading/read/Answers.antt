use Rattle.pp_bounded_samples.proofs.Keeping.{kept_readable}
use Rattle.pp_bounded_samples.proofs.reading.read.Goals as goal

pub read_where-requires : goal.read_where-requires
read_where-requires c = λ ok holds. kept_readable _ _ _ _ _ c.requires ok
