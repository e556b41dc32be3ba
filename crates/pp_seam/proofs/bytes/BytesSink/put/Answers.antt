use Rattle.pp_seam.proofs.Fronts.{piece_front}
use Rattle.pp_seam.proofs.bytes.BytesSink.put.Goals as goal

pub returns-clause-front : goal.returns-clause-front
returns-clause-front c =
    piece_front c.put_piece.result c.args.self.now c.put_piece.new.self c.args.bytes.now c.put_piece.ensures.after
