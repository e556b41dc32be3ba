use Rattle.std.proofs.Common.{sym, ◌∙◌}
use Rattle.pp_bounded_samples.proofs.Going.{goes_more}
use Rattle.pp_bounded_samples.proofs.trees.unknown_pair.Goals as goal

pub returns-clause-goes : goal.returns-clause-goes
returns-clause-goes c = goes_more _ _ _ _ _ _ _ c.in_ok-left.ensures.goes c.in_ok-right.ensures.goes

pub returns-clause-pair : goal.returns-clause-pair
returns-clause-pair c =
    let go = c.in_ok-right.ensures.goes in record {
      fits = go.fits;
      left = go.kept _ c.in_ok-left.ensures.kept;
      right = c.in_ok-right.ensures.kept;
      of = c.in_ok-right.ensures.of ∙ sym c.in_ok-left.ensures.of;
      height = c.in_ok-right.ensures.height ∙ sym c.in_ok-left.ensures.height;
    }
