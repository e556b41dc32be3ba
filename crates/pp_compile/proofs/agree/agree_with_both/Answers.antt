use Rattle.std.proofs.Common.{map}
use Rattle.pp_compile.specs.Guessed.{stands}
use Rattle.pp_compile.proofs.Guessing.{with_both}
use Rattle.pp_compile.proofs.Joining.{ok_map}
use Rattle.pp_compile.proofs.agree.agree_with_both.Goals as goal

pub returns : goal.returns
returns c =
    ok_map c.agree_with-2.result c.agree_with-2.ensures
    (λ r h. with_both (stands c.args.c.now) (map stands c.args.before.now) (map stands c.args.earlier.now)
    c.args.true_one c.args.work.now c.agree_with.new.work c.agree_with-2.new.work c.args.supposed.now
    c.agree_with.new.supposed c.agree_with-2.new.supposed c.in_ok-agree_with.ensures h)
