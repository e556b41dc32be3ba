use Rattle.std.proofs.Common.{◌<◌, arith}
use Rattle.pp_compile.specs.Guessed.{guess_of, move_of, stands}
use Rattle.pp_query.proofs.Demanded.{allowed_move, one_more, still_stands}
use Rattle.pp_query.proofs.demanding.unfold.Goals as goal

pub returns-then-call-round-clause-demanded : goal.returns-then-call-round-clause-demanded
returns-then-call-round-clause-demanded c f check there is =
    let call = stands c.args.call.now in
    let early : call.call.wait < c.args.round = omega arith in
    one_more c.args.functions.now f check c.args.round (guess_of c.args.guess) (guess_of c.in_ok-longer.longer)
    (move_of c.args.part call) (allowed_move c.args.round (guess_of c.args.guess) c.args.part call there early)
    c.in_ok-longer.ensures is

pub returns-then-call-round-clause-stand : goal.returns-then-call-round-clause-stand
returns-then-call-round-clause-stand c =
    still_stands c.args.functions.now (guess_of c.args.guess) (guess_of c.in_ok-longer.longer)
    (move_of c.args.part (stands c.args.call.now)) c.in_ok-longer.ensures
