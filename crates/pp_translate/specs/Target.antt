-- What a target tells. Source: own.
use Rattle.pp_translate.specs.declared.target.Target.{Target}
use Rattle.pp_translation.specs.Setting.{Setting}

abbrev pub setting : Target → Setting
setting t = record { types = t.types; roots = t.numbers.roots; functions = t.numbers.functions; groups = t.groups }
