-- Values of a guess run that a domain of symbolic trees can follow, with a naming that names all of them. Source: own.
use Rattle.std.specs.Prelude.{◌≡◌, ℕ, ◌+◌, ◌*◌, ◌<◌, ◌≤◌, List, [], ◌∷◌, All, IsTrue, Some, length, map}
use Rattle.std.specs.Prelude.{slice_get}
use Rattle.std.specs.List.{sum_by}
use Rattle.pp_list.specs.Joined.{joined}
use Rattle.pp_prog.specs.declared.expr.Function.{Function}
use Rattle.pp_prog.specs.declared.id.CheckId.{CheckId}
use Rattle.pp_prog.specs.declared.id.CtorId.{CtorId}
use Rattle.pp_prog.specs.declared.id.DataId.{DataId}
use Rattle.pp_prog.specs.declared.program.Program.{Program}
use Rattle.pp_prog.specs.declared.types.Ctor.{Ctor}
use Rattle.pp_prog.specs.declared.types.TypeTable.{TypeTable}
use Rattle.pp_prog.specs.declared.value.Value.{Value}
use Rattle.pp_prog.specs.Sizes.{by_sort}
use Rattle.pp_prog.specs.Sorts.{have_sorts, param_sorts}
use Rattle.pp_domain.specs.Naming.{Naming, Names}
use Rattle.pp_domain.specs.Sense.{Sense}
use Rattle.pp_steps.specs.declared.step.Step.{Step}
use Rattle.pp_steps.specs.declared.step.Step.TheVariants as steps
use Rattle.pp_steps.specs.Guesses.{guess_steps}
use Rattle.pp_steps.specs.Meaning.{Missing, Values}
use Rattle.pp_steps.specs.Sorted.{Sorts}
use Rattle.pp_guess_steps.specs.Laws.{IsGuess, IsSupposed}
use Rattle.pp_build.specs.Followed.{AreNamed, LooksNamed}

-- the number of the step whose tree a step looks at; who reads a field of a constructor looks at a tree that was looked
-- at before
abbrev pub looked_at : Step → List ℕ
looked_at (steps.IsCtor c n a) = a ∷ []
looked_at (steps.Field a i) = a ∷ []
looked_at s = []

-- the numbers of the trees that are looked at, as often as they are
abbrev pub all_looked_at : List Step → List ℕ
all_looked_at ss = joined (map looked_at ss)

-- as many fields as the datatype of the step with this number has at most
abbrev pub fields_at : (DataId → ℕ) → Sorts → ℕ → ℕ
fields_at most σ k = by_sort 0 0 most (σ k)

-- What has to be named is fewer values than the limit: for each step a default and its value, and for each look the
-- fields of the tree, of which no constructor of datatype d has more than `most d`.
pub record IsShort (types : TypeTable) (σ : Sorts) (steps : List Step) (limit : ℕ) : Type 0 where
  pub most : DataId → ℕ
  pub fields : (c : CtorId) (k : Ctor) → slice_get types.ctors c.0 ≡ Some k → length k.fields ≤ most k.of
  pub few : 2 * length steps + sum_by (fields_at most σ) (all_looked_at steps) < limit

-- On some arguments, values that obey the steps of round n, have their sorts, and for which the check fails and all
-- that is supposed is true; and a naming that the domain admits and its names reach, which names the arguments, the
-- values and the fields of those that are looked at, and by which what stands for missing fields is their default.
pub record IsNamedGuess {D T : Type 0} (m : Sense D T) (d : D) (p : Program) (f : Function) (check : CheckId) (n : ℕ)
    (sorts : Sorts) : Type 0 where
  pub args : List Value
  pub args_sorted : IsTrue (have_sorts p.types.ctors args (param_sorts f.params))
  pub missing : Missing
  pub values : Values
  pub guess : IsGuess p.types.ctors p.functions f check n missing values args
  pub supposed : IsSupposed values (guess_steps p.functions f check n)
  pub naming : Naming
  pub admitted : m.Admits p.types naming
  pub reaches : m.Reaches d naming
  pub args_named : All (Names p.types naming) args
  pub are : AreNamed p.types naming sorts values (length (guess_steps p.functions f check n).steps)
  pub looked : (k : ℕ) (s : Step) → slice_get (guess_steps p.functions f check n).steps k ≡ Some s
      → LooksNamed p.types naming sorts values missing k s
