use Rattle.std.proofs.Common.{◌++◌, ◌∙◌, ap, sym, append-nil, string_bytes, List, ℕ, rules}
use Rattle.std.proofs.lemmas.Slice.Zip.{zip_end}
use Rattle.pp_print.proofs.Arguments.{no_more_arguments}
use Rattle.pp_print.proofs.value.push_arguments.Goals as goal

pub returns : goal.returns
returns c =
    let ended =
    zip_end c.args.params.now c.args.values.now c.loop-param.yielded c.into_iter-param-iterator.result
    c.loop-param.param-iterator c.next.new.self c.next.result
    (search rules) (search rules) c.loop-param.yielded_by c.in-None.is c.next.ensures.steps in
    let done = no_more_arguments c.args.ctors.now c.args.params.now c.args.values.now _ ended in
    sym (c.loop-param.invariant ∙ ap (λ (rest : List ℕ). string_bytes c.loop-param.out ++ rest) done ∙ append-nil _)
