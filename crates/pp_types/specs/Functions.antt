-- The typings of all functions, or the first fault in one. Source: own.
use Rattle.std.specs.Prelude.{List, [], ◌∷◌, ◌++◌, Ok}
use Rattle.pp_declared.specs.Listed.{DefIn}
use Rattle.pp_fault.specs.Part.{Part, and_then}
use Rattle.pp_rules.specs.Bodies.{elab_def}
use Rattle.pp_typed.specs.declared.declared.Declared.{Declared}
use Rattle.pp_typed.specs.declared.declared.Signature.{Signature}
use Rattle.pp_typed.specs.declared.typed.TypedDef.{TypedDef}

-- these functions, and then those of these definitions and signatures
abbrev pub defs_after : Declared → List TypedDef → List DefIn → List Signature → Part (List TypedDef)
defs_after declared done [] ss = Ok done
defs_after declared done (d ∷ ds) [] = Ok done
defs_after declared done (d ∷ ds) (s ∷ ss) =
    and_then (elab_def declared d.source d.def s) (λ t. defs_after declared (done ++ t ∷ []) ds ss)
