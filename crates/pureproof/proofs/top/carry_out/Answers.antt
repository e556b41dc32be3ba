use Rattle.std.proofs.Common.{refl}
use Rattle.pp_modes.specs.Responses.{refusal}
use Rattle.pp_modes.specs.declared.status.Status.TheVariants as status
use Rattle.pp_print.specs.Refusals.{memory_text}
use Rattle.pureproof.proofs.Showing.{shows_line}
use Rattle.pureproof.specs.Dues.{no_memory}
use Rattle.pureproof.specs.Shown.{took}
use Rattle.pureproof.proofs.top.carry_out.Goals as goal

pub returns-in-Err-clause-ends : goal.returns-in-Err-clause-ends
returns-in-Err-clause-ends g c =
    let out = took g.K.Sink.taken g.K.Sink.faults c.args.out.now c.args.out.now in
    record {
      response = refusal status.Memory memory_text;
      due = no_memory;
      shows = shows_line out (took g.E.Sink.taken g.E.Sink.faults c.args.err.now c.put_refusal.new.err) status.Memory
          c.put_refusal.result
          c.memory_line.result.now memory_text c.memory_line.ensures
          (c.put_refusal.ensures out (record { same = refl; calm = refl }));
    }
