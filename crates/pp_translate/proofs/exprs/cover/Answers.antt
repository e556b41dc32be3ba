use Rattle.std.proofs.Common.{List, ap, ◌∙◌, subst}
use Rattle.std.specs.Prelude.{◌↔◌, IfOk, IsTrue}
use Rattle.pp_prog.specs.Valid.{Covers}
use Rattle.pp_prog.specs.declared.expr.Pattern.{Pattern}
use Rattle.pp_prog.specs.declared.sort.Sort.{Sort}
use Rattle.pp_translation.specs.Numbered.{unguarded_at}
use Rattle.pp_translation.specs.Numbers.{sort_at}
use Rattle.pp_typed.specs.Put.{put}
use Rattle.pp_translate.proofs.exprs.cover.Goals as goal

pub returns : goal.returns
returns c =
    let typed = c.args.typed.now in
    let roots = c.args.target.now.numbers.roots in
    let ctors = c.args.target.now.types.ctors in
    let of = c.args.matched.now.of in
    let args = c.as_slice-args.ensures in
    let whole = c.in_ok-whole.ensures ∙ ap (λ l. sort_at roots l of) args in
    let sort = c.in_ok-sort.ensures ∙ ap (λ l. put l of) args in
    let patterns = c.as_slice.ensures ∙ c.in_ok-patterns.ensures
    ∙ ap (λ s. unguarded_at typed roots s c.args.cases.now) sort in
    subst (λ (s : Sort). IfOk c.is_covered.result
    (λ b. IsTrue b ↔ Covers ctors s (unguarded_at typed roots (put c.args.own.now.args of) c.args.cases.now))) whole
    (subst (λ (ps : List Pattern). IfOk c.is_covered.result (λ b. IsTrue b ↔ Covers ctors c.in_ok-whole.whole ps))
    patterns c.is_covered.ensures)
