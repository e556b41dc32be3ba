use Rattle.std.proofs.Common.{◌≡◌, take}
use Rattle.pp_named_below.specs.Fields.{fields_among}
use Rattle.pp_named_below.proofs.fields.fields_of_all.Given as goal

abbrev pub invariant-loop-place : goal.invariant-loop-place
invariant-loop-place l = record { is : l.fields ≡ fields_among (take l.place l.alternatives) }
