-- What a call leaves, by how calls are compiled, and the steps of an expression at a site. Source: own.
use Rattle.std.specs.Prelude.{List, Option}
use Rattle.pp_prog.specs.declared.expr.Case.{Case}
use Rattle.pp_prog.specs.declared.expr.Expr.{Expr}
use Rattle.pp_prog.specs.declared.expr.Function.{Function}
use Rattle.pp_prog.specs.declared.id.CheckId.{CheckId}
use Rattle.pp_steps.specs.Compile as steps
use Rattle.pp_steps.specs.Frames.{Frame, inlined}
use Rattle.pp_steps.specs.Guesses.{asking, guessing}
use Rattle.pp_compile.specs.declared.calls.CallKind.{CallKind}
use Rattle.pp_compile.specs.declared.calls.Site.{Site}
use Rattle.pp_compile.specs.declared.calls.CallKind.TheVariants.{Followed, Left, Own}

-- calls that are followed with so much fuel, that are left open and wait so many rounds, and those of a guess run's own
-- frame, in a frame where this check is asked
abbrev pub site_of : List Function → CallKind → Option CheckId → Frame → steps.Site
site_of functions (Followed fuel) asked frame = inlined functions fuel asked frame
site_of functions (Left wait) asked frame = asking functions wait
site_of functions Own asked frame = guessing functions asked frame

-- what a call leaves at this site
abbrev pub site_at : Site → steps.Site
site_at s = site_of s.calls.functions.now s.calls.kind s.asked s.frame.now

-- the steps of an expression there
abbrev pub compile_at : Site → Expr → steps.Compiling
compile_at s = steps.compile s.asked (site_at s)

-- a case there
abbrev pub arm_at : Site → Case → steps.Arm
arm_at s = steps.arm s.asked (site_at s)
