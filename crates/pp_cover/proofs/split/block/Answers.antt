use Rattle.std.proofs.Common.{◌≤◌, ◌+◌, List, length, sym, subst}
use Rattle.pp_prog.specs.declared.types.Ctor.{Ctor}
use Rattle.pp_cover.proofs.Blocks.{block_inside}
use Rattle.pp_cover.proofs.split.block.Goals as goal

pub numbered-requires : goal.numbered-requires
numbered-requires c =
    let t = c.datatype-datatype.result.now in
    subst (λ (l : List Ctor). t.first.0 + t.count ≤ length l) (sym c.as_slice.ensures)
    (block_inside c.args.table.now c.args.d t c.datatype-datatype.ensures)
