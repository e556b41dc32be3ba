use Rattle.std.proofs.Common.{◌≡◌, ◌++◌, map, take, drop}
use Rattle.std.specs.String.{string_bytes}
use Rattle.pp_list.specs.Joined.{joined}
use Rattle.pp_instances.specs.Names.{printed_later}
use Rattle.pp_instances.proofs.names.+names.Given as goal

abbrev pub invariant-add_args-loop-i : goal.invariant-add_args-loop-i
invariant-add_args-loop-i l =
    string_bytes l.out ≡ string_bytes l.initial.out ++ joined (map (printed_later l.typed) (drop 1 (take l.i l.sorts)))
