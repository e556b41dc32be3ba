use Rattle.std.proofs.Common.{◌≡◌, ◌++◌, drop, length, string_bytes}
use Rattle.pp_print.specs.Values.{arguments_text}
use Rattle.pp_print.proofs.value.push_arguments.Given as goal

abbrev pub invariant-loop-param : goal.invariant-loop-param
invariant-loop-param l =
    string_bytes l.initial.out ++ arguments_text l.ctors l.params l.values
    ≡ string_bytes l.out ++ arguments_text l.ctors (drop (length l.yielded) l.params) (drop (length l.yielded) l.values)
