-- What trees and tokens weigh, each node and each token by its offset.
use Rattle.std.proofs.Common.{ℕ, ◌+◌, List, [], ◌∷◌, Option, Some, None}
use Rattle.pp_grammar.specs.Bodies.{Contract, decreases, require}
use Rattle.pp_grammar.specs.Units.{Piece, decls_of}
use Rattle.pp_tokens.specs.declared.token.Token.{Token}
use Rattle.pp_tree.specs.Plain.{CaseTrees, DeclTree, DefTree, PostTree, Tree, Trees, apply, assert_in, binary, bool}
use Rattle.pp_tree.specs.Plain.{choice, def, field, guarded_case, int, matching, more_trees, name, no_cases, no_trees}
use Rattle.pp_tree.specs.Plain.{plain_case, unary, val_in}

-- by these weights of offsets
module _ (mass : ℕ → ℕ) where
  abbrev pub weight : List Token → ℕ
  weight [] = 0
  weight (t ∷ ts) = mass t.from + weight ts

  abbrev mutual
    pub weigh : Tree → ℕ
    weigh (int at n) = mass at
    weigh (bool at b) = mass at
    weigh (name at v) = mass at
    weigh (apply at v ts es) = weigh_all es + mass at
    weigh (field at e v) = weigh e + mass at
    weigh (unary at op a) = weigh a + mass at
    weigh (binary at op a b) = weigh a + weigh b + mass at
    weigh (choice at c a b) = weigh c + weigh a + weigh b + mass at
    weigh (matching at e cs) = weigh e + weigh_cases cs + mass at
    weigh (val_in at v t a b) = weigh a + weigh b + mass at
    weigh (assert_in at c e) = weigh c + weigh e + mass at

    pub weigh_all : Trees → ℕ
    weigh_all no_trees = 0
    weigh_all (more_trees e es) = weigh e + weigh_all es

    pub weigh_cases : CaseTrees → ℕ
    weigh_cases no_cases = 0
    weigh_cases (plain_case p body cs) = weigh body + weigh_cases cs
    weigh_cases (guarded_case p guard body cs) = weigh guard + weigh body + weigh_cases cs

  abbrev pub weigh_maybe : Option Tree → ℕ
  weigh_maybe None = 0
  weigh_maybe (Some e) = weigh e

  abbrev pub weigh_list : List Tree → ℕ
  weigh_list [] = 0
  weigh_list (e ∷ es) = weigh e + weigh_list es

  abbrev pub weigh_post : Option PostTree → ℕ
  weigh_post None = 0
  weigh_post (Some p) = weigh p.claim

  abbrev pub weigh_contract : Contract → ℕ
  weigh_contract (require e) = weigh e
  weigh_contract (decreases es) = weigh_list es

  abbrev pub weigh_def : DefTree → ℕ
  weigh_def d = weigh_list d.pre + weigh_list d.measure + weigh d.body + weigh_post d.post

  abbrev pub weigh_decl : DeclTree → ℕ
  weigh_decl (def d) = weigh_def d
  weigh_decl _ = 0

  abbrev pub weigh_decls : List DeclTree → ℕ
  weigh_decls [] = 0
  weigh_decls (d ∷ ds) = weigh_decl d + weigh_decls ds

  abbrev pub weigh_pieces : List Piece → ℕ
  weigh_pieces ps = weigh_decls (decls_of ps)
