-- The groups of the functions of a program, which are known before the program is. Source: own.
use Rattle.std.specs.Prelude.{◌≡◌, ℕ, List, map}
use Rattle.pp_graph.specs.Reaches.{AreGroups}
use Rattle.pp_instances.specs.declared.member.Instance.{Instance}
use Rattle.pp_instances.specs.declared.member.Member.{Member}
use Rattle.pp_prog.specs.Calls.{call_table}
use Rattle.pp_prog.specs.declared.expr.Function.{Function}
use Rattle.pp_translation.specs.Bare.{bare_function}
use Rattle.pp_translation.specs.Functions.{functions_of}
use Rattle.pp_typed.specs.declared.typed.Typed.{Typed}

-- these are the groups of all functions that, with the numbers of their checks left out, are those of the instances
abbrev pub AreGroupsOf : Typed → List Member → List Instance → List ℕ → Type 0
AreGroupsOf typed functions instances groups =
    (texts : List (List ℕ)) (roots : List Member) (fs : List Function)
    → map bare_function fs ≡ functions_of typed texts roots functions instances → AreGroups (call_table fs) groups
