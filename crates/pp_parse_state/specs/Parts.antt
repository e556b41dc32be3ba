-- The parts of frames and modes: names, trees and lists, of each kind the last first. Source: own; the form is that of
-- the value stacks of table-driven parsers.
use Rattle.std.specs.Prelude.{List, [], ◌∷◌, Option, None}
use Rattle.pp_tree.specs.Plain.{Word, TypeTree, PatternTree, Tree, PostTree, DeclTree}
use Rattle.pp_grammar.specs.Frames.{Head, Contracts, CaseText}
use Rattle.pp_grammar.specs.Joining.{head_at, no_contracts}

-- the trees that stand for parts that aren't there: each frame and each mode has its parts, so none is ever asked for;
-- no clause says so
pub record Spares : Type 0 where
  pub of : TypeTree
  pub pattern : PatternTree
  pub expr : Tree
  pub decl : DeclTree

-- what lies on the stack besides the frames
pub record Parts : Type 0 where
  pub names : List Word
  pub types : List TypeTree
  pub patterns : List PatternTree
  pub exprs : List Tree
  -- types and guards that may be left out
  pub given_types : List (Option TypeTree)
  pub guards : List (Option Tree)
  -- lists that grow, each with its last first
  pub type_lists : List (List TypeTree)
  pub pattern_lists : List (List PatternTree)
  pub expr_lists : List (List Tree)
  pub case_lists : List (List CaseText)
  pub heads : List Head
  pub contracts : List Contracts
  -- what is claimed behind a body, if anything is
  pub posts : List (Option PostTree)
  pub decls : List DeclTree
  pub spares : Spares

-- no parts but the spare ones
abbrev pub no_parts : Spares → Parts
no_parts s = record {
  names = [];
  types = [];
  patterns = [];
  exprs = [];
  given_types = [];
  guards = [];
  type_lists = [];
  pattern_lists = [];
  expr_lists = [];
  case_lists = [];
  heads = [];
  contracts = [];
  posts = [];
  decls = [];
  spares = s;
}

-- the head that stands for one that isn't there
abbrev pub no_head : Head
no_head = head_at 0 []

-- the last part, or this one where there is none
abbrev first : {A : Type 0} → A → List A → A
first x [] = x
first x (y ∷ ys) = y

-- the parts before the last
abbrev pub rest : {A : Type 0} → List A → List A
rest [] = []
rest (y ∷ ys) = ys

-- the parts on top; where there is none, the empty one or the spare one
abbrev pub top_name : Parts → Word
top_name p = first [] p.names

abbrev pub top_type : Parts → TypeTree
top_type p = first p.spares.of p.types

abbrev pub top_pattern : Parts → PatternTree
top_pattern p = first p.spares.pattern p.patterns

abbrev pub top_expr : Parts → Tree
top_expr p = first p.spares.expr p.exprs

abbrev pub top_given_type : Parts → Option TypeTree
top_given_type p = first None p.given_types

abbrev pub top_guard : Parts → Option Tree
top_guard p = first None p.guards

abbrev pub top_type_list : Parts → List TypeTree
top_type_list p = first [] p.type_lists

abbrev pub top_pattern_list : Parts → List PatternTree
top_pattern_list p = first [] p.pattern_lists

abbrev pub top_expr_list : Parts → List Tree
top_expr_list p = first [] p.expr_lists

abbrev pub top_case_list : Parts → List CaseText
top_case_list p = first [] p.case_lists

abbrev pub top_head : Parts → Head
top_head p = first no_head p.heads

abbrev pub top_contracts : Parts → Contracts
top_contracts p = first no_contracts p.contracts

abbrev pub top_post : Parts → Option PostTree
top_post p = first None p.posts

abbrev pub top_decl : Parts → DeclTree
top_decl p = first p.spares.decl p.decls

-- the expression below the one on top
abbrev pub second_expr : Parts → Tree
second_expr p = first p.spares.expr (rest p.exprs)
