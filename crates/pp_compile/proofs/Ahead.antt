-- What is still to be written, while a loop writes.
use Rattle.std.proofs.Common.{◌≡◌, ℕ, List, ◌++◌}
use Rattle.pp_steps.specs.Piece.{Piece}
use Rattle.pp_steps.specs.Patterns.{Fitting}
use Rattle.pp_compile.specs.declared.work.Tests.{Tests}
use Rattle.pp_compile.specs.declared.work.Work.{Work}

-- from o the whole is to be written, and from n on the rest: of several values
pub record IsAheadAll (o n : Work) (whole rest : Piece (List ℕ)) : Type 0 where
  pub steps : o.steps ++ whole.steps ≡ n.steps ++ rest.steps
  pub fails : o.fails ++ whole.fails ≡ n.fails ++ rest.fails
  pub out : whole.out ≡ rest.out
  pub alive : whole.alive ≡ rest.alive

-- so of one number, whatever tells that it stands
pub record IsAhead (o n : Work) (whole rest : Piece ℕ) : Type 0 where
  pub steps : o.steps ++ whole.steps ≡ n.steps ++ rest.steps
  pub fails : o.fails ++ whole.fails ≡ n.fails ++ rest.fails
  pub out : whole.out ≡ rest.out

-- of a pattern: from o the whole is to be written, and from n on the rest
pub record IsAheadFit (o n : Work) (p q : Tests) (whole rest : Fitting) : Type 0 where
  pub steps : o.steps ++ whole.steps ≡ n.steps ++ rest.steps
  pub fails : n.fails ≡ o.fails
  pub tests : p.tests ++ whole.tests ≡ q.tests ++ rest.tests
  pub bound : p.bound ++ whole.bound ≡ q.bound ++ rest.bound
