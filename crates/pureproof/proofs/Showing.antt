-- A fault on `out`, and then a put on `err` that isn't looked at.
use Rattle.std.proofs.Common.{◌≡◌, List, Result, Ok, Err, OnErr, OnOk, subst}
use Rattle.std.specs.Io.KnownBytes.{Appends}
use Rattle.pp_seam.specs.Faults.{Rose}
use Rattle.pp_seam.specs.Pieces.{AppendsFront}
use Rattle.pp_print.specs.Refusals.{write_fault_text}
use Rattle.pp_modes.specs.Responses.{refusal, report}
use Rattle.pureproof.specs.Shown.{Shows, Took, TookLines, both_cut, cut}
use Rattle.pureproof.specs.Fetched.{Text}
use Rattle.pp_modes.specs.declared.status.Status.{Status}
use Rattle.pp_modes.specs.declared.status.Status.TheVariants as status

pub after_fault : {T F : Type 0} (s : Status) (lines : List Text) (out err : Took) (r : Result T F) (piece : Text)
    → TookLines out lines → piece ≡ write_fault_text
    → OnOk r (Appends err.before err.after piece) → OnErr r (AppendsFront err.before err.after piece)
    → OnErr r (Rose err.faults err.faults_after) → OnOk r (err.faults_after ≡ err.faults)
    → Shows out err (report s lines) status.WriteFault
after_fault s lines out err (Ok x) piece taken is whole front cause steady = cut s lines taken
    (record { all = subst (Appends err.before err.after) is whole; calm = steady })
after_fault s lines out err (Err x) piece taken is whole front cause steady = both_cut s lines taken
    (record { front = subst (AppendsFront err.before err.after) is front; rose = cause })

pub shows_line : (out err : Took) (s end : Status) (line text : Text) → line ≡ text → Shows out err (refusal s line) end
    → Shows out err (refusal s text) end
shows_line out err s end line text is shows = subst (λ l. Shows out err (refusal s l) end) is shows
