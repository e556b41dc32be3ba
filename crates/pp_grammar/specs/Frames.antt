-- The states of the automaton: the frames of what is open, and the modes. Lists of what is finished have the last
-- first. Source: own; the form is that of operator precedence parsing with a stack.
use Rattle.std.specs.Prelude.{ℕ, Bool, List, Option}
use Rattle.pp_tree.specs.declared.operator.BinaryOp.{BinaryOp}
use Rattle.pp_tree.specs.declared.operator.UnaryOp.{UnaryOp}
use Rattle.pp_tree.specs.Plain.{Word, TypeTree, TypeTrees, PatternTree, Tree, ParamTree, PostTree, DeclTree, ImportTree}
use Rattle.pp_tree.specs.Plain.{UnitTree}

-- Why tokens spell no unit: a token that can't stand there, or what the language leaves out, with its name.
pub data Fault : Type 0 where
  syntax_at : ℕ → Fault
  unsupported_at : Word → ℕ → Fault

-- ---- parts of frames

-- what is read of the head of a class or a function: its name and place, its type parameters, whether a list of
-- parameters is written, and the parameters
pub record Head : Type 0 where
  pub at : ℕ
  pub name : Word
  pub type_params : List Word
  pub listed : Bool
  pub params : List ParamTree

-- a class, with the words `sealed`, `case` and `trait`, or a function
pub data Kind : Type 0 where
  of_class : Bool → Bool → Bool → Kind
  of_def : Kind

-- a word and where it stands
pub record Placed : Type 0 where
  pub word : Word
  pub at : ℕ

-- The contracts at the head of a body: the requirements, the measure (no components where there is none), the first
-- contract's word, and where a `decreases` stands behind a `require`, so that no other may follow.
pub record Contracts : Type 0 where
  pub requirements : List Tree
  pub measure : List Tree
  pub first : Option Placed
  pub late : Option ℕ

-- what is read of a case
pub record CaseText : Type 0 where
  pub pattern : PatternTree
  pub guard : Option Tree
  pub body : Tree

-- the brackets of a postcondition
pub data Around : Type 0 where
  in_parentheses : Around
  in_braces : Around

-- ---- frames: what is open around what is read next

pub data Frame : Type 0 where
  -- the head of a class or a function, and above it the type of a parameter, of the result, of the parent
  header : Kind → Head → Frame
  param_type : ℕ → Word → Frame
  result_type : Frame
  parent_type : Frame
  -- `case object NAME extends`
  object_parent : ℕ → Word → Frame
  -- the body of a function behind `=`
  body_of : Head → TypeTree → Contracts → Frame
  -- above it, the braces with which it begins, and in these `require(`, `decreases(`, and `decreases((` before and
  -- behind the first comma
  head_braces : Contracts → Frame
  requiring : Frame
  measuring : ℕ → List Tree → Frame
  tuple_or_round : Frame
  in_tuple : List Tree → Frame
  -- above `body_of`, the bracket behind `ensuring`, with the word's place and the body
  post_of : ℕ → Tree → Around → Frame
  -- above that, the claim behind a name with its type, the claim with a hole, and the type of the name
  claiming : Word → Option TypeTree → Frame
  claiming_hole : Frame
  result_name_type : Word → Frame
  result_name_type_in_round : Word → Frame
  -- types: `NAME[`
  type_args : ℕ → Word → List TypeTree → Frame
  -- patterns: `NAME @`, `(`, `NAME(`
  naming : ℕ → Word → Frame
  pattern_round : Frame
  pattern_args : ℕ → Word → List PatternTree → Frame
  -- expressions: `(`, `NAME[`, `NAME[..](`
  round : Frame
  name_types : ℕ → Word → List TypeTree → Frame
  args : ℕ → Word → TypeTrees → List Tree → Frame
  -- a prefix; an operator with its left side, and whether the hole stands there
  prefixing : ℕ → UnaryOp → Frame
  left : ℕ → BinaryOp → Tree → Bool → Frame
  -- `if (`, `if (..)`, `if (..) .. else`
  if_test : ℕ → Frame
  if_then : ℕ → Tree → Frame
  if_rest : ℕ → Tree → Tree → Frame
  -- a match with its finished cases, and above it the guard of a case or its body
  cases_of : ℕ → Tree → List CaseText → Frame
  guarding : PatternTree → Frame
  arm : PatternTree → Option Tree → Frame
  -- a block; `val NAME :`, `val NAME .. =`, `assert(`; a finished `val` or `assert`, which what follows belongs to
  braces : Frame
  val_type : ℕ → Word → Frame
  val_value : ℕ → Word → Option TypeTree → Frame
  after_val : ℕ → Word → Option TypeTree → Tree → Frame
  asserting : ℕ → Frame
  after_assert : ℕ → Tree → Frame

-- ---- modes within a declaration: what was read last

pub data Mode : Type 0 where
  -- an expression or an operand is wanted; a simple expression is read, with or without the hole
  want : Mode
  have : Tree → Bool → Mode
  -- behind a name: alone, with type arguments, before its first argument; behind `Int`, and behind `Int.`
  after_name : ℕ → Word → Mode
  after_name_types : ℕ → Word → TypeTrees → Mode
  args_open : ℕ → Word → TypeTrees → Mode
  after_int : ℕ → Mode
  after_int_dot : ℕ → Mode
  -- behind a minus sign, its place and its end; behind a number with a sign; behind a dot
  after_minus : ℕ → ℕ → Mode
  have_negative : Tree → Mode
  after_negative_dot : Tree → Mode
  after_dot : Tree → Bool → Mode
  -- behind `if`; before the first branch; behind `;` before `else`
  after_if : ℕ → Mode
  want_then : Mode
  want_else : Tree → Mode
  -- behind `match`; behind its brace; behind a whole match, and a dot
  after_match : ℕ → Tree → Mode
  want_case : Mode
  have_matched : Tree → Mode
  after_matched_dot : Tree → Mode
  -- patterns: one is wanted; behind a name, a minus sign, `NAME(`, a whole pattern
  want_pattern : Mode
  after_pattern_name : ℕ → Word → Mode
  after_pattern_minus : ℕ → ℕ → Mode
  pattern_args_open : ℕ → Word → Mode
  have_pattern : PatternTree → Mode
  -- types: one is wanted; behind its name; behind a whole type
  want_type : Mode
  after_type_name : ℕ → Word → Mode
  have_type : TypeTree → Mode
  -- a statement or the last expression of a block is wanted; semis are wanted behind a statement; the last expression
  -- is read, and semis
  want_stat : Mode
  after_stat : Mode
  after_last : Tree → Mode
  -- behind `val`, and its name; behind `assert`, `require`, `decreases`; behind `decreases(`; behind its inner `)`
  after_val_word : ℕ → Mode
  after_val_name : ℕ → Word → Mode
  after_assert_word : ℕ → Mode
  after_require : Mode
  after_decreases : ℕ → Mode
  measure_open : Mode
  after_tuple : List Tree → Mode
  -- behind the `=` of a function; behind a block with contracts that begins its body, and a dot
  want_body : Mode
  have_contracted : Tree → Mode
  after_contracted_dot : Tree → Mode
  -- behind `ensuring`; where a lambda is wanted, with semis before it or without; behind its first name, its first `(`,
  -- the name behind that, `(NAME)`, `(NAME: TYPE)`; behind the claim and semis; behind the whole body
  after_ensuring : ℕ → Tree → Mode
  want_lambda_or_semi : Mode
  want_lambda : Mode
  after_lambda_name : ℕ → Word → Mode
  after_lambda_round : Mode
  after_lambda_round_name : ℕ → Word → Mode
  after_lambda_closed : ℕ → Word → Mode
  after_lambda_typed : Word → TypeTree → Mode
  after_claim : Word → Option TypeTree → Tree → Mode
  after_body : Tree → Option PostTree → Mode
  -- heads: a name is wanted; behind it; in and behind type parameters; in and behind parameters
  want_name : Kind → Mode
  after_head_name : Mode
  want_type_param : Mode
  after_type_param : Mode
  after_type_params : Mode
  params_open : Mode
  want_param : Mode
  after_param_name : ℕ → Word → Mode
  after_params : Mode
  -- behind `case object`, and its name
  want_object_name : Mode
  after_object_name : ℕ → Word → Mode

-- what one token does within a declaration: on, with these frames, in this mode; a fault; or it stands behind the end
-- of the declaration
pub data Move : Type 0 where
  go : List Frame → Mode → Move
  stop : Fault → Move
  ends : DeclTree → Move

-- ---- between declarations

pub data ItemMode : Type 0 where
  -- at the start; where an item may come; behind one
  at_start : ItemMode
  at_item : ItemMode
  after_item : ItemMode
  -- behind `package`, and a name
  after_package : ItemMode
  after_package_name : ItemMode
  -- behind `import`; in the path, with its first name and whether it is the only one: behind a name, a dot; in the
  -- braces: where a name is wanted, behind one
  after_import : ItemMode
  after_path_name : Placed → Bool → ItemMode
  after_path_dot : Placed → Bool → ItemMode
  want_chosen : Placed → ItemMode
  after_chosen : Placed → ItemMode
  -- behind `object`, its name, and a newline
  after_object : ItemMode
  after_object_title : ItemMode
  after_object_line : ItemMode
  -- behind `@`, its name, and a newline
  after_at : ItemMode
  after_annotation : ItemMode
  after_annotation_line : ItemMode
  -- behind one word `case`; behind other words before `class` or `trait`: is `sealed` one of them, is `case`?
  after_case : ItemMode
  after_modifiers : Bool → Bool → ItemMode

-- what is read of the unit, the last first
pub record Parsed : Type 0 where
  pub imports : List ImportTree
  pub objects : List Word
  pub decls : List DeclTree

-- Between declarations or within one, with what is read before and whether an object is open; or at the end.
pub data State : Type 0 where
  between : Parsed → Bool → ItemMode → State
  within : Parsed → Bool → List Frame → Mode → State
  failed : Fault → State
  done : UnitTree → State
