-- How the automaton joins operands and statements, one frame at a time: `pp_grammar/specs/Joining` for what a stack
-- shows. Source: own.
use Rattle.std.specs.Prelude.{ℕ, Bool, true, false, cond, ◌||◌, nat_le, List, [], ◌∷◌}
use Rattle.pp_tree.specs.Plain.{unary, binary, choice, val_in, assert_in}
use Rattle.pp_grammar.specs.Words.{level, tightest}
use Rattle.pp_grammar.specs.Joining.{Operand as plain_operand, Sealed}
use Rattle.pp_parse_state.specs.declared.frame.Frame.{Frame}
use Rattle.pp_parse_state.specs.declared.frame.Frame.TheVariants.{Prefixing, Left, IfRest, AfterVal, AfterAssert}
use Rattle.pp_parse_state.specs.declared.frame.Frame.TheVariants.{ClaimingHole}
use Rattle.pp_parse_state.specs.Parts.{top_given_type}
use Rattle.pp_parse_state.specs.Shown.{Shown, expr_on, name_on, under_expr, with_expr, without_expr}
use Rattle.pp_parse_state.specs.Shown.{without_given_type, without_name}

-- the frame is an operator before an operand that binds at least as tight as level p, or, at level 0, the rest of an
-- `if`
abbrev pub binds : ℕ → Frame → Bool
binds p (Prefixing at op) = nat_le p tightest
binds p (Left at op h) = nat_le p (level op)
binds p (IfRest at) = nat_le p 0
binds p _ = false

-- the operand on the stack with the operator before it, whose parts lie below
abbrev pub join : Frame → Shown → Shown
join (Prefixing at op) s = with_expr (unary at op (expr_on s)) (without_expr s)
join (Left at op h) s =
    let b = without_expr s in
    with_expr (binary at op (expr_on b) (expr_on s)) (without_expr b)
join (IfRest at) s =
    let yes = without_expr s in
    let test = without_expr yes in
    with_expr (choice at (expr_on test) (expr_on yes) (expr_on s)) (without_expr test)
join _ s = s

-- whether the hole stands in it then
abbrev pub joined_holed : Frame → Bool → Bool
joined_holed (Left at op h) g = h || g
joined_holed _ g = g

-- the operand on the stack, with the frames under it
abbrev pub unwound : Shown → Bool → plain_operand
unwound s h = record { frames = under_expr s; tree = expr_on s; holed = h }

abbrev pub top_binds : ℕ → List Frame → Bool
top_binds p [] = false
top_binds p (f ∷ s) = binds p f

-- the frame is a finished statement
abbrev pub is_statement : Frame → Bool
is_statement (AfterVal at) = true
is_statement (AfterAssert at) = true
is_statement _ = false

abbrev pub top_is_statement : List Frame → Bool
top_is_statement [] = false
top_is_statement (f ∷ s) = is_statement f

-- the expression on the stack with the statement before it, whose parts lie below
abbrev pub join_statement : Frame → Shown → Shown
join_statement (AfterVal at) s =
    let b = without_expr s in
    with_expr (val_in at (name_on b) (top_given_type b.parts) (expr_on b) (expr_on s))
    (without_name (without_given_type (without_expr b)))
join_statement (AfterAssert at) s =
    let b = without_expr s in
    with_expr (assert_in at (expr_on b) (expr_on s)) (without_expr b)
join_statement _ s = s

-- the expression on the stack, with the frames under it
abbrev pub sealed : Shown → Sealed
sealed s = record { frames = under_expr s; tree = expr_on s }

-- a frame above which the hole may stand, if it may stand below it
abbrev pub lets_hole : Frame → Bool
lets_hole (Prefixing at op) = true
lets_hole (Left at op false) = true
lets_hole _ = false

abbrev pub is_claim : Frame → Bool
is_claim ClaimingHole = true
is_claim _ = false

-- the hole may stand above these frames, the last first
abbrev pub hole_in : List Frame → Bool
hole_in [] = false
hole_in (f ∷ fs) = cond (lets_hole f) (hole_in fs) (is_claim f)
