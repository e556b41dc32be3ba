use Rattle.std.proofs.Common.{refl, sym, ◌∙◌}
use Rattle.pp_translate.proofs.Outside.{no_value}
use Rattle.pp_translate.proofs.covered.is_covered.Goals as goal

pub returns-then-not-is_sort : goal.returns-then-not-is_sort
returns-then-not-is_sort c = (
  λ _ v has. absurd (no_value c.args.types.now.datatypes c.args.types.now.ctors c.args.types.now.agree c.args.sort
      (sym c.is_sort.ensures ∙ c.if-not-is_sort.true) v has),
  λ _. refl,
)
