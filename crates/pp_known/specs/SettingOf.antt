-- What is given of the program of the instances of well-sorted typed units. Source: own.
use Rattle.std.specs.Prelude.{◌≡◌, ℕ, List, [], map}
use Rattle.pp_graph.specs.Reaches.{AreGroups}
use Rattle.pp_instances.specs.Closure.{AreInstances}
use Rattle.pp_instances.specs.Order.{AreListed}
use Rattle.pp_instances.specs.declared.member.Decl.TheVariants.{Function, Root}
use Rattle.pp_instances.specs.declared.member.Instance.{Instance}
use Rattle.pp_instances.specs.declared.member.Member.{Member}
use Rattle.pp_prog.specs.Calls.{call_table}
use Rattle.pp_prog.specs.declared.expr.Function.{Function as ProgramFunction}
use Rattle.pp_translation.specs.Defs.{TranslatesDefs}
use Rattle.pp_translation.specs.Numbers.{ctors, datatypes, stands_for}
use Rattle.pp_translation.specs.Setting.{Setting}
use Rattle.pp_translation.specs.declared.frame.CheckAt.{CheckAt}
use Rattle.pp_typed.specs.WellSorted.{IsWellSorted}
use Rattle.pp_typed.specs.declared.typed.Typed.{Typed}

-- the setting is that of the instances of well-sorted typed units, whose functions and datatypes are listed in order
pub record IsSettingOf (typed : Typed) (ms : List Member) (fs rs : List Instance) (set : Setting) : Type 0 where
  pub well : IsWellSorted typed
  pub instances : AreInstances typed ms
  pub listed : AreListed typed ms fs rs
  pub roots : set.roots ≡ map (stands_for Root) rs
  pub functions : set.functions ≡ map (stands_for Function) fs
  pub datatypes : set.types.datatypes ≡ datatypes typed rs
  pub ctors : set.types.ctors ≡ ctors typed set.roots

-- the functions are those of the instances in the setting, with these checks, and the groups of the setting are theirs
pub record AreTranslated (typed : Typed) (texts : List (List ℕ)) (fs : List Instance) (set : Setting)
    (all : List ProgramFunction)
    (checks : List CheckAt) : Type 0 where
  pub translates : TranslatesDefs typed set texts fs all [] checks
  pub groups : AreGroups (call_table all) set.groups
