use Rattle.std.proofs.Common.{rules, ◌≡◌, ◌∙◌, Err, Ok, [], ap, map, sym}
use Rattle.std.specs.Prelude.{option_copied, slice_get}
use Rattle.pp_fault.specs.declared.Rule.TheVariants.{Arity}
use Rattle.pp_fault.proofs.Parts.{goes}
use Rattle.pp_typed.specs.Put.{put}
use Rattle.pp_rules.specs.Elab.{bind, ctor_bound, elab_patterns}
use Rattle.pp_tree.specs.Shown.{pattern_of, pattern_trees}
use Rattle.pp_typing.proofs.CtorPatterns.{both_stop_as, ctor_arity, ctor_bind, ctor_rest, flaw_both, leaves_stop}
use Rattle.pp_typing.specs.Views.{env_of, scope_of, word_of}
use Rattle.pp_typing.proofs.patterns.+patterns.Goals as goal

pub of_ctor-returns-then-parts-len-clause-told : goal.of_ctor-returns-then-parts-len-clause-told
of_ctor-returns-then-parts-len-clause-told t c =
    let env = env_of c.args.context.now in
    let f = sym c.find_ctor.ensures.place ∙ c.in-Some.is in
    let g = ap (λ l. slice_get l c.in-Some.i) (sym (c.as_slice.ensures ∙ ap (λ d. d.ctors) c.declared.ensures))
    ∙ sym c.at.ensures ∙ ap option_copied c.in-Some-item.is in
    flaw_both env c.flaw-then-parts-len.result (scope_of c.args.scope.now) Arity c.args.ctor.now c.args.at _
    (ctor_arity env c.args.at (word_of c.args.name) c.args.ctor.now c.args.parts.now c.args.sort.now c.args.fresh
    (scope_of c.args.scope.now) c.in-Some.i c.in-Some-item.found.now c.in_ok-args.args f g c.in_ok-args.ensures
    (λ e. c.if-parts-len.true (e ∙ sym c.len.ensures)))
    c.flaw-then-parts-len.ensures

pub of_ctor-returns-in_err-bind-clause-told : goal.of_ctor-returns-in_err-bind-clause-told
of_ctor-returns-in_err-bind-clause-told t c =
    let env = env_of c.args.context.now in
    let n = word_of c.args.name in
    let f = sym c.find_ctor.ensures.place ∙ c.in-Some.is in
    let g = ap (λ l. slice_get l c.in-Some.i) (sym (c.as_slice.ensures ∙ ap (λ d. d.ctors) c.declared.ensures))
    ∙ sym c.at.ensures ∙ ap option_copied c.in-Some-item.is in
    let stopped : c.from_residual-in_err-bind.result ≡ Err c.in_err-bind.field-0.0 = search rules in
    leaves_stop c.from_residual-in_err-bind.result c.in_err-bind.field-0.0 (scope_of c.bind.new.scope)
    (scope_of c.bind.new.scope)
    (bind env c.args.at n c.args.sort.now c.args.fresh (scope_of c.args.scope.now)) _ _ stopped
    (ctor_bind env c.args.at n c.args.ctor.now c.args.parts.now c.args.sort.now c.args.fresh
    (scope_of c.args.scope.now) c.in-Some.i c.in-Some-item.found.now c.in_ok-args.args f g c.in_ok-args.ensures
    (c.if-parts-len.false ∙ c.len.ensures))
    c.in_err-bind.ensures.told

pub of_ctor-returns-in_err-parts-clause-told : goal.of_ctor-returns-in_err-parts-clause-told
of_ctor-returns-in_err-parts-clause-told t c =
    let env = env_of c.args.context.now in
    let n = word_of c.args.name in
    let fields = c.in-Some-item.found.now.fields in
    let args = c.in_ok-args.args in
    let after = scope_of c.bind.new.scope in
    let f = sym c.find_ctor.ensures.place ∙ c.in-Some.is in
    let g = ap (λ l. slice_get l c.in-Some.i) (sym (c.as_slice.ensures ∙ ap (λ d. d.ctors) c.declared.ensures))
    ∙ sym c.at.ensures ∙ ap option_copied c.in-Some-item.is in
    let sorts = c.as_slice-4.ensures ∙ c.in_ok-sorts.ensures
    ∙ ap (λ l. map (put l) c.as_slice-3.result.now) c.as_slice-2.ensures
    ∙ ap (map (put args)) c.as_slice-3.ensures in
    let stopped : c.from_residual-in_err-parts.result ≡ Err c.in_err-parts.field-0.0 = search rules in
    both_stop_as c.from_residual-in_err-parts.result c.in_err-parts.field-0.0 (scope_of c.patterns.new.scope)
    (scope_of c.patterns.new.scope)
    (elab_patterns env [] (pattern_trees
    (map pattern_of c.args.parts.now)) c.as_slice-4.result.now c.args.fresh after) _
    (ctor_bound env c.args.at n c.in-Some.i) stopped
    (ctor_rest env c.args.at n c.args.ctor.now c.args.parts.now c.args.sort.now c.args.fresh
    (scope_of c.args.scope.now) c.in-Some.i c.in-Some-item.found.now args f g c.in_ok-args.ensures after
    c.as_slice-4.result.now
    (c.if-parts-len.false ∙ c.len.ensures) c.in_ok-bind.ensures.told (sym sorts))
    c.in_err-parts.ensures.told

pub of_ctor-returns-clause-told : goal.of_ctor-returns-clause-told
of_ctor-returns-clause-told t c =
    let env = env_of c.args.context.now in
    let n = word_of c.args.name in
    let args = c.in_ok-args.args in
    let after = scope_of c.bind.new.scope in
    let f = sym c.find_ctor.ensures.place ∙ c.in-Some.is in
    let g = ap (λ l. slice_get l c.in-Some.i) (sym (c.as_slice.ensures ∙ ap (λ d. d.ctors) c.declared.ensures))
    ∙ sym c.at.ensures ∙ ap option_copied c.in-Some-item.is in
    let sorts = c.as_slice-4.ensures ∙ c.in_ok-sorts.ensures
    ∙ ap (λ l. map (put l) c.as_slice-3.result.now) c.as_slice-2.ensures
    ∙ ap (map (put args)) c.as_slice-3.ensures in
    ctor_rest env c.args.at n c.args.ctor.now c.args.parts.now c.args.sort.now c.args.fresh
    (scope_of c.args.scope.now) c.in-Some.i c.in-Some-item.found.now args f g c.in_ok-args.ensures after
    c.as_slice-4.result.now
    (c.if-parts-len.false ∙ c.len.ensures) c.in_ok-bind.ensures.told (sym sorts)
    ∙ goes (elab_patterns env [] (pattern_trees
    (map pattern_of c.args.parts.now)) c.as_slice-4.result.now c.args.fresh after)
    (ctor_bound env c.args.at n c.in-Some.i)
    (c.in_ok-parts.parts, scope_of c.patterns.new.scope) c.in_ok-parts.ensures.told
    ∙ ap (λ z. Ok (z, scope_of c.patterns.new.scope)) (sym c.node.ensures)
