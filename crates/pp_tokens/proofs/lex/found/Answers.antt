use Rattle.std.proofs.Common.{arith, ap, ◌∙◌}
use Rattle.pp_tokens.specs.Characters.{width}
use Rattle.pp_tokens.proofs.Widths.{width-chars}
use Rattle.pp_tokens.proofs.lex.found.Goals as goal

pub cut-requires : goal.cut-requires
cut-requires c =
    omega (arith, width-chars c.args.text.now c.utf8.text, ap width (c.deref.ensures.value ∙ c.in_ok-cs.ensures))
