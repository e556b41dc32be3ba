use Rattle.std.proofs.Common.{map, ap, ◌∙◌}
use Rattle.pp_translation.specs.Numbers.{function_number}
use Rattle.pp_typed.specs.Put.{put}
use Rattle.pp_translate.proofs.exprs.callee.Goals as goal

pub returns : goal.returns
returns c =
    let functions = c.args.target.now.numbers.functions in
    c.function.ensures ∙ ap (function_number functions c.args.f)
    (c.in_ok-puts.ensures ∙ ap (λ args. map (put args) c.args.sorts.now) c.as_slice.ensures)
