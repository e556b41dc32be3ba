use Rattle.std.proofs.Common.{◌≡◌, ◌++◌, drop, map}
use Rattle.pp_list.specs.Joined.{joined}
use Rattle.pp_checks.specs.Marks.{Marking, marks_of}
use Rattle.pp_checks.proofs.plain.+add_marks.Given as goal

abbrev pub invariant-loop-p : goal.invariant-loop-p
invariant-loop-p l =
    l.initial.marks ++ joined (map (λ (m : Marking). m l.below l.below) (map marks_of l.patterns)) ≡ l.marks ++
    joined (map (λ (m : Marking). m l.below l.below) (map marks_of (drop l.p-index l.patterns)))
