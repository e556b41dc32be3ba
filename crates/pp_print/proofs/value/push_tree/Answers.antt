use Rattle.std.proofs.Common.{◌∙◌, ◌++◌, Option, Some, ap, slice_get, string_bytes, sym}
use Rattle.std.proofs.lemmas.Option.{slice_get-get_or, slice_get_past}
use Rattle.std.proofs.lemmas.Result.{on_ok_weaker}
use Rattle.pp_prog.specs.declared.types.Ctor.{Ctor}
use Rattle.pp_print.proofs.Pending.{prints_named, prints_unnamed}
use Rattle.pp_print.proofs.value.push_tree.Goals as goal

pub returns-else-ctor : goal.returns-else-ctor
returns-else-ctor c =
    on_ok_weaker c.push_brackets.result
    (λ prints. prints_named c.args.ctors.now (slice_get c.args.ctors.now c.args.ctor) c.args.fields.now
    c.args.pending.now c.push_brackets.new.pending (string_bytes c.args.out.now) (string_bytes c.push_brackets.new.out)
    c.in-Some.ctor.now (string_bytes c.push_str.new.self)
    (sym (slice_get-get_or c.args.ctors.now c.args.ctor c.in-Some.ctor.now c.in-Some.ensures.lookup.3.0
    ∙ ap (λ (x : Ctor). let r : Option Ctor = Some x in r) (sym c.in-Some.ensures.lookup.1)))
    c.if-ctor.false
    (c.in_ok-push_str-in-Some.ensures.bytes ∙ ap (λ t. string_bytes c.args.out.now ++ t) c.as_str.ensures)
    (prints c.args.ctors.now))
    c.push_brackets.ensures

pub returns-in-None : goal.returns-in-None
returns-in-None c =
    on_ok_weaker c.push_brackets-in-None.result
    (λ prints. prints_unnamed c.args.ctors.now (slice_get c.args.ctors.now c.args.ctor) c.args.fields.now
    c.args.pending.now c.push_brackets-in-None.new.pending (string_bytes c.args.out.now)
    (string_bytes c.push_brackets-in-None.new.out)
    (sym (slice_get_past c.args.ctors.now c.args.ctor c.in-None.ensures.lookup.3)) (prints c.args.ctors.now))
    c.push_brackets-in-None.ensures
