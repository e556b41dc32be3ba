use Rattle.std.proofs.Common.{◌≡◌, ◌∙◌, Err, List, rules, subst, sym, ap}
use Rattle.pp_prog.specs.declared.expr.Expr.{Expr}
use Rattle.pp_eval.specs.Invocation.{frame_of}
use Rattle.pp_eval.specs.Part.{Tells}
use Rattle.pp_store.specs.Values.{value_of}
use Rattle.pp_stack.specs.Left.{calls}
use Rattle.pp_stack.specs.State.{framed_state, state_of}
use Rattle.pp_stack.proofs.Starts.{body_halts, started_ends}
use Rattle.pp_stack.proofs.machine.Machine.start.Goals as goal

pub returns-in_err-held : goal.returns-in_err-held
returns-in_err-held c =
    let s = state_of c.args.self.now.stacks in
    let f = c.args.f.now in
    let measured = c.in_ok-measure.ensures in
    let stopped : c.from_residual-in_err-held.result ≡ Err c.in_err-held.field-0.0 = search rules in
    body_halts c.args.code f s.here.fuel s.env measured.0 (state_of c.measure.new.self.stacks)
    (sym (ap (λ (es : List Expr). frame_of (calls c.args.code s.here.fuel) es s.env) c.as_slice.ensures) ∙ measured.1)
    (measured.2.stand.same ∙ ap (framed_state measured.0) c.requires.own) c.value.new.self
    c.from_residual-in_err-held.result c.in_err-held.field-0.0 stopped c.in_err-held.ensures

pub returns : goal.returns
returns c =
    let s = state_of c.args.self.now.stacks in
    let f = c.args.f.now in
    let measured = c.in_ok-measure.ensures in
    subst (Tells c.finish.result)
    (started_ends c.args.code f s.here.fuel s.env measured.0 (state_of c.measure.new.self.stacks)
    (sym (ap (λ (es : List Expr). frame_of (calls c.args.code s.here.fuel) es s.env) c.as_slice.ensures) ∙ measured.1)
    (measured.2.stand.same ∙ ap (framed_state measured.0) c.requires.own) (state_of c.value.new.self.stacks)
    (value_of c.value.new.self.stacks.store c.in_ok-held.held) c.in_ok-held.ensures.0.stand.same
    c.in_ok-held.ensures.2)
    c.finish.ensures
