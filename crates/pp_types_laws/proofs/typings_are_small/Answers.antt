use Rattle.std.proofs.Common.{◌<◌, ◌^◌, subst, sym}
use Rattle.pp_types_laws.proofs.Narrow.{typing_narrow}
use Rattle.pp_types_laws.proofs.Sizes.{typing_nodes}
use Rattle.pp_types_laws.proofs.typings_are_small.Goals as goal

pub returns : goal.returns
returns c most units t within few narrow h = record {
  nodes = subst (λ n. n < 2 ^ 22) (sym (typing_nodes units t h)) few;
  cases = typing_narrow most within units t narrow h;
}
