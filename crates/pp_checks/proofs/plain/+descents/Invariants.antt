use Rattle.std.proofs.Common.{◌≡◌, ◌++◌, drop, map}
use Rattle.pp_checks.specs.Marks.{descents_in_case, in_all, in_cases, seen}
use Rattle.pp_checks.proofs.plain.+descents.Given as goal

abbrev pub invariant-add_all-loop-e : goal.invariant-add_all-loop-e
invariant-add_all-loop-e l =
    (l.initial.found ++ in_all (map (seen l.d.functions.now l.d.param) l.es) l.initial.marks ≡ l.found ++ in_all
    (map (seen l.d.functions.now l.d.param) (drop l.e-index l.es)) l.initial.marks)
    × (l.marks ≡ l.initial.marks)

abbrev pub invariant-add_cases-loop-c : goal.invariant-add_cases-loop-c
invariant-add_cases-loop-c l =
    (l.initial.found ++ in_cases (map (descents_in_case l.d.functions.now l.d.param) l.cases) l.live
    l.initial.marks ≡ l.found ++ in_cases (map (descents_in_case l.d.functions.now l.d.param) (drop l.c-index
    l.cases)) l.live l.initial.marks)
    × (l.marks ≡ l.initial.marks)
