-- How many values have to be named, so that a domain can follow the steps of a guess run. Source: own.
use Rattle.std.specs.Prelude.{ℕ, ◌+◌, ◌*◌, ◌^◌, min, List, map, length}
use Rattle.pp_prog.specs.declared.types.Ctor.{Ctor}
use Rattle.pp_prog.specs.declared.types.TypeTable.{TypeTable}
use Rattle.pp_prog.specs.Values.{greatest}
use Rattle.pp_steps.specs.declared.step.Step.{Step}
use Rattle.pp_guess_values.specs.NamedGuess.{all_looked_at}

abbrev pub count_fields : Ctor → ℕ
count_fields k = length k.fields

-- as many fields as a constructor of the table has at most
abbrev pub most_fields : TypeTable → ℕ
most_fields types = greatest (map count_fields types.ctors)

-- one more than the values that have to be named, at most 2^30: for each step a default and its value, and for each
-- look as many fields as any constructor has
abbrev pub more_than_named : TypeTable → List Step → ℕ
more_than_named types steps =
    min (2 * length steps + most_fields types * length (all_looked_at steps) + 1) (2 ^ 30)
