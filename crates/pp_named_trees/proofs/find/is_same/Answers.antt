use Rattle.std.proofs.Common.{◌≡◌, rules}
use Rattle.std.specs.Bool.{Decides}
use Rattle.std.proofs.lemmas.Slice.Eq.{slice_eq-Decides}
use Rattle.pp_clause.specs.Literal.{Literal}
use Rattle.pp_clause.specs.contracts.lit.LitPartialEq.TheImpl.{ghosts}
use Rattle.pp_named_trees.proofs.find.is_same.Goals as goal

lit_decides : (a b : Literal) → Decides (ghosts.eq a b) (a ≡ b)
lit_decides a b = search rules

pub returns : goal.returns
returns c = let e = slice_eq-Decides lit_decides _ _ _ c.eq.ensures in (e.0, e.1)
