use Rattle.std.proofs.Common.{◌≡◌, ◌++◌, take, map}
use Rattle.pp_translation.specs.Numbers.{ctor_at}
use Rattle.pp_typed.specs.Sorted.{ctors_of}
use Rattle.pp_numbers.proofs.ctors.add_ctors.Given as goal

abbrev pub invariant-loop-c : goal.invariant-loop-c
invariant-loop-c l =
    l.ctors ≡ l.initial.ctors
    ++ map (ctor_at l.typed l.numbers.roots l.d l.of.args) (ctors_of (take l.c-index l.c-items) l.r)
