use Rattle.std.proofs.Common.{◌∙◌, string_bytes, subst}
use Rattle.std.specs.Io.KnownBytes.{Appends}
use Rattle.pp_seam.specs.Pieces.{AppendsFront}
use Rattle.pp_print.proofs.Cut.{line_put, line_cut, cut_front, on_err}
use Rattle.pp_print.proofs.put.put_lines.Goals as goal

pub loop-line-preserved : goal.loop-line-preserved
loop-line-preserved g c =
    record {
      faults = c.in_ok-put.ensures.steady ∙ c.loop-line.invariant.faults;
      taken = line_put string_bytes c.args.lines.now c.loop-line.line-index c.line-item.result _ _ _
          c.loop-line-test.true c.line-item.is
          c.loop-line.invariant.taken (subst (Appends _ _) c.as_bytes.ensures.value c.in_ok-put.ensures.whole);
    }

pub returns-in_err-put-clause-front : goal.returns-in_err-put-clause-front
returns-in_err-put-clause-front g c =
    on_err _ _ (line_cut string_bytes c.args.lines.now c.loop-line.line-index c.line-item.result _ _ _
    c.loop-line-test.true c.line-item.is
    c.loop-line.invariant.taken (subst (AppendsFront _ _) c.as_bytes.ensures.value c.in_err-put.ensures.front))

pub returns-in_err-put-clause-prefix : goal.returns-in_err-put-clause-prefix
returns-in_err-put-clause-prefix g c =
    on_err _ _ (cut_front _ _ _
    (line_cut string_bytes c.args.lines.now c.loop-line.line-index c.line-item.result _ _ _ c.loop-line-test.true
    c.line-item.is
    c.loop-line.invariant.taken (subst (AppendsFront _ _) c.as_bytes.ensures.value c.in_err-put.ensures.front)))
