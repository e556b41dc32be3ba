use Rattle.pp_compile.proofs.Joining.{ok_map}
use Rattle.pp_compile.proofs.Guessing.{agree_made}
use Rattle.pp_compile.specs.Guessed.{stands}
use Rattle.pp_compile.proofs.agree.agree.Goals as goal

pub returns : goal.returns
returns c =
    ok_map c.answer_equal.result c.answer_equal.ensures
    (λ r h. agree_made (stands c.args.c.now) (stands c.args.d.now) c.args.true_one c.args.work.now
    c.as_slice.ensures c.as_slice-2.ensures c.in_ok-same.ensures c.in_ok-near.ensures c.in_ok-answer_alike.ensures h)
