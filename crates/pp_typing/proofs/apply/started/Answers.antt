use Rattle.std.proofs.Common.{rules, ◌≡◌, ◌∙◌, Err, Ok, ap, sym, map, []}
use Rattle.pp_fault.proofs.Parts.{goes, stops_as, tells_along}
use Rattle.pp_rules.specs.Written.{written_from}
use Rattle.pp_tree.specs.Shown.{type_of, type_trees}
use Rattle.pp_typing.proofs.Told.{started_arity, started_sorts}
use Rattle.pp_typing.specs.Views.{env_of}
use Rattle.pp_typing.proofs.apply.started.Goals as goal

pub returns-then-types-callee : goal.returns-then-types-callee
returns-then-types-callee c =
    tells_along c.flaw.result _ _
    (started_arity (env_of c.args.context.now) c.args.at c.args.expected.now c.args.name.now c.args.types.now
    c.args.callee.now
    (sym c.is_empty.ensures ∙ c.if-is_empty.false) c.if-types-callee.true)
    c.flaw.ensures

pub returns-in_err-sorts : goal.returns-in_err-sorts
returns-in_err-sorts c =
    let stopped : c.from_residual-in_err-sorts.result ≡ Err c.in_err-sorts.field-0.0 = search rules in
    let whole = started_sorts (env_of c.args.context.now) c.args.at c.args.expected.now c.args.name.now
    c.args.types.now c.args.callee.now
    (sym c.is_empty.ensures ∙ c.if-is_empty.false) c.if-types-callee.false in
    stops_as c.from_residual-in_err-sorts.result c.in_err-sorts.field-0.0
    (written_from (env_of c.args.context.now) [] (type_trees
    (map type_of c.args.types.now))) _ _ stopped whole c.in_err-sorts.ensures

pub returns : goal.returns
returns c =
    started_sorts (env_of c.args.context.now) c.args.at c.args.expected.now c.args.name.now c.args.types.now
    c.args.callee.now
    (sym c.is_empty.ensures ∙ c.if-is_empty.false) c.if-types-callee.false
    ∙ goes (written_from (env_of c.args.context.now) [] (type_trees
    (map type_of c.args.types.now))) _ c.in_ok-sorts.sorts c.in_ok-sorts.ensures
    ∙ ap Ok (sym c.in_ok-each_found.ensures)
