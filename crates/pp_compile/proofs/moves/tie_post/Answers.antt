use Rattle.pp_compile.proofs.Joining.{ok_map}
use Rattle.pp_compile.proofs.Moving.{post_made}
use Rattle.pp_compile.specs.Guessed.{stands}
use Rattle.std.proofs.Common.{◌∙◌, arith}
use Rattle.pp_compile.proofs.moves.tie_post.Goals as goal

pub returns : goal.returns
returns c =
    ok_map c.imply.result c.imply.ensures
    (λ r h. post_made c.args.functions.now c.args.f.now (stands c.args.c.now) c.args.work.now
    (c.in_ok-values.ensures ∙ c.as_slice.ensures) (omega arith) c.in_ok-done.ensures.written
    c.in_ok-done.ensures.number c.in_ok-push.ensures.ok c.in_ok-ends.ensures h)
