use Rattle.std.proofs.Common.{◌∙◌, map, sym}
use Rattle.std.proofs.lemmas.List.{length-map}
use Rattle.pp_prog.specs.Fits.{fit}
use Rattle.pp_eval.proofs.Uneven.{uneven}
use Rattle.pp_eval.proofs.fit.+fit.Goals as goal

pub bind_fields-returns-then-patterns-values : goal.bind_fields-returns-then-patterns-values
bind_fields-returns-then-patterns-values t c =
    sym (uneven (map fit c.args.patterns.now) c.args.values.now
    (λ e. c.if-patterns-values.true (sym (length-map c.args.patterns.now fit) ∙ e)))
