use Rattle.pp_compile.proofs.Joining.{ok_map}
use Rattle.pp_compile.proofs.Moving.{body_made}
use Rattle.pp_compile.specs.Guessed.{stands}
use Rattle.std.proofs.Common.{◌∙◌, arith}
use Rattle.pp_compile.proofs.moves.tie_body.Goals as goal

pub returns : goal.returns
returns c =
    ok_map c.imply.result c.imply.ensures
    (λ r h. body_made c.args.functions.now c.args.f.now (stands c.args.c.now) c.args.work.now
    (c.in_ok-values.ensures ∙ c.as_slice.ensures) (omega arith) c.in_ok-done.ensures.written
    c.in_ok-done.ensures.number c.in_ok-body.ensures.made c.in_ok-same.ensures c.in_ok-agreed.ensures h)
