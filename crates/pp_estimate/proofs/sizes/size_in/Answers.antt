use Rattle.std.proofs.Common.{◌∙◌, List, length, get_or, ap, sym, arith}
use Rattle.pp_estimate.specs.declared.sizes.Size.{Size}
use Rattle.pp_estimate.specs.Bounds.{size}
use Rattle.pp_estimate.proofs.Rows.{row_at, row_length, size_beyond}
use Rattle.pp_estimate.proofs.Sums.{of}
use Rattle.pp_estimate.proofs.sizes.size_in.Goals as goal

pub bounds-row-d : goal.bounds-row-d
bounds-row-d c =
    let long = ap length c.requires ∙ row_length c.args.types.now c.args.height (length c.args.types.now.datatypes) in
    omega (arith, long, c.if-d-len.true, c.len.ensures)

pub returns-then-d-len : goal.returns-then-d-len
returns-then-d-len c =
    ap (λ (l : List Size). get_or l c.in-Tree.d.0 (record { bits = 0; nodes = 0 })) c.requires
    ∙ row_at c.args.types.now c.args.height (length c.args.types.now.datatypes) c.in-Tree.d.0 _
    (omega (arith, c.if-d-len.true, c.len.ensures))
    ∙ ap (size c.args.types.now c.args.height) (sym c.in-Tree.is)

pub returns-else-d-len : goal.returns-else-d-len
returns-else-d-len c =
    ap (of 0) c.min.ensures
    ∙ size_beyond c.args.types.now c.args.height c.in-Tree.d (omega (arith, c.if-d-len.false, c.len.ensures))
    ∙ ap (size c.args.types.now c.args.height) (sym c.in-Tree.is)
