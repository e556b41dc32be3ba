use Rattle.std.proofs.Common.{◌≡◌, map, take}
use Rattle.pp_declared.specs.Shown.{units_of}
use Rattle.pp_front.specs.Programs.{SpellUnits, bytes_of}
use Rattle.pp_front.proofs.sources.read_all.Given as goal

abbrev pub invariant-loop-bytes : goal.invariant-loop-bytes
invariant-loop-bytes l = (l.texts.items ≡ map bytes_of (take l.bytes-index l.sources))
    × SpellUnits (map bytes_of (take l.bytes-index l.sources)) (units_of l.units.items)
