-- The lines on faults of sources, each with the newline that ends it. Source: own.
use Rattle.std.specs.Prelude.{◌++◌, codes}
use Rattle.pp_prog.specs.declared.place.Place.{Place}
use Rattle.pp_print.specs.Lines.{place_text}
use Rattle.pp_print.specs.Values.{Text}
use Rattle.pp_print.specs.declared.fault.NamedFault.{NamedFault}
use Rattle.pp_print.specs.declared.fault.NamedFault.TheVariants as named
use Rattle.pp_print.specs.declared.fault.SourceFault.{SourceFault}
use Rattle.pp_print.specs.declared.fault.SourceFault.TheVariants as source

abbrev pub source_word : SourceFault → Text
source_word source.BadCharacter = codes "bad character"
source_word source.BadNumber = codes "bad number"
source_word source.OpenComment = codes "open comment"
source_word source.Syntax = codes "syntax"
source_word source.TooDeep = codes "too deep"

abbrev pub named_word : NamedFault → Text
named_word named.Unsupported = codes "unsupported"
named_word named.Unknown = codes "unknown"
named_word named.Duplicate = codes "duplicate"
named_word named.Mismatch = codes "mismatch"
named_word named.Arity = codes "arity"
named_word named.CannotInfer = codes "cannot infer"
named_word named.Uninhabited = codes "uninhabited"
named_word named.NotABoolean = codes "not a boolean"
named_word named.OverLimit = codes "over limit"
named_word named.NoMeasure = codes "no measure"
named_word named.MeasureShape = codes "measure shape"
named_word named.ContractCycle = codes "contract cycle"

-- `refused: FAULT at S:L:C`
abbrev pub source_fault_text : SourceFault → Place → Text
source_fault_text fault place = codes "refused: " ++
    (source_word fault ++ (codes " at " ++ (place_text place ++ codes "\n")))

-- `refused: FAULT NAME at S:L:C`
abbrev pub named_fault_text : NamedFault → Text → Place → Text
named_fault_text fault name place =
    codes "refused: " ++ (named_word fault ++
    (codes " " ++ (name ++ (codes " at " ++ (place_text place ++ codes "\n")))))

-- the sources have too many instances
abbrev pub too_many_instances_text : Text
too_many_instances_text = codes "refused: too many instances\n"
