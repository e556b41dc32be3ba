-- The checks of an expression: a slot at each site that may carry one, in the order of the sites.
use Rattle.std.proofs.Common.{List, [], ◌∷◌, ◌++◌, map, Option, Some, None}
use Rattle.pp_list.specs.Joined.{joined, or_none}
use Rattle.pp_prog.specs.Listing.{Site, plain, division, assertion, precondition, measure, matching, postcondition}
use Rattle.pp_prog.specs.declared.expr.Case.{Case}
use Rattle.pp_prog.specs.declared.expr.Expr.{Expr}
use Rattle.pp_prog.specs.declared.expr.Expr.TheFolds.{fold-Case, fold-Expr}
use Rattle.pp_prog.specs.declared.expr.Expr.TheOpen as layer
use Rattle.pp_prog.specs.declared.expr.Function.{Function}
use Rattle.pp_prog.specs.declared.id.CheckId.{CheckId}
use Rattle.pp_translation.specs.Exprs.{unnumbered}

abbrev pub Slots : Type 0
Slots = List (Option CheckId)

-- the slot of a site
abbrev pub slot_of : Site → Option CheckId
slot_of (plain check) = check
slot_of (division check) = check
slot_of (assertion check) = Some check
slot_of (precondition g check) = check
slot_of (measure g check) = check
slot_of (matching s patterns check) = check
slot_of (postcondition check) = Some check

-- the site without its check
abbrev pub blank : Site → Site
blank (plain check) = plain None
blank (division check) = division None
blank (assertion check) = assertion unnumbered
blank (precondition g check) = precondition g None
blank (measure g check) = measure g None
blank (matching s patterns check) = matching s patterns None
blank (postcondition check) = postcondition unnumbered

-- one level, with the slots of the parts in their place
abbrev pub slot_step : layer.Expr-F Slots Slots → Slots
slot_step (layer.Int n) = []
slot_step (layer.Bool b) = []
slot_step (layer.Var i) = []
slot_step (layer.Unary op a) = a
slot_step (layer.Binary op a b check) = a ++ b ++ check ∷ []
slot_step (layer.Construct c args) = joined args
slot_step (layer.Field e k) = e
slot_step (layer.If c a b) = c ++ a ++ b
slot_step (layer.Match e cases check) = e ++ check ∷ joined cases
slot_step (layer.Val bound rest) = bound ++ rest
slot_step (layer.Assert check c rest) = c ++ Some check ∷ rest
slot_step (layer.Call g args pre down) = joined args ++ pre ∷ down ∷ []

abbrev pub case_step : layer.Case-F Slots Slots → Slots
case_step c = or_none c.guard ++ c.body

-- the slots of an expression
abbrev pub slots : Expr → Slots
slots = fold-Expr Slots Slots slot_step case_step

abbrev pub case_slots : Case → Slots
case_slots = fold-Case Slots Slots slot_step case_step

abbrev pub pre_slots : Option Expr → Slots
pre_slots None = []
pre_slots (Some pre) = slots pre

abbrev pub post_slots : Option (CheckId × Expr) → Slots
post_slots None = []
post_slots (Some post) = slots post.1 ++ Some post.0 ∷ []

-- the slots of a function
abbrev pub function_slots : Function → Slots
function_slots f = pre_slots f.pre ++ joined (map slots f.measure) ++ slots f.body ++ post_slots f.post

-- the slots of all functions, in order
abbrev pub all_slots : List Function → Slots
all_slots fs = joined (map function_slots fs)
