use Rattle.std.proofs.Common.{arith}
use Rattle.pp_bounded_samples.proofs.FieldReading.{looked}
use Rattle.pp_bounded_samples.proofs.looks.ctor_literal.Goals as goal

pub is_ctor-requires-clause-room : goal.is_ctor-requires-clause-room
is_ctor-requires-clause-room c = λ new. (let most = c.in_ok-room.ensures in omega arith)

pub returns : goal.returns
returns c = let test = c.in_ok-lit.ensures.answer in looked _ _ _ _ _ _ _ _ c.is_ctor.ensures.moves test.looks
