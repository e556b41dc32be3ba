-- Where checks may stand in units: at each name and each application, each division, each match and each assertion.
-- Source: own.
use Rattle.std.specs.Prelude.{◌≡◌, ℕ, List, [], ◌∷◌, ◌++◌, Option, Some, None, All, slice_get}
use Rattle.pp_declared.specs.Listed.{DefIn, decls_in, defs_of}
use Rattle.pp_tree.specs.Plain.{Tree, int, bool, name, apply, field, unary, binary, choice, matching, val_in, assert_in}
use Rattle.pp_tree.specs.Plain.{Trees, no_trees, more_trees, CaseTrees, no_cases, plain_case, guarded_case, PostTree}
use Rattle.pp_tree.specs.Plain.{DefTree, UnitTree}
use Rattle.pp_typed.specs.Apart.{Mark, a_call, a_match, an_assertion, operator_mark}

-- in a source
module _ (source : ℕ) where
  abbrev mutual
    -- the sites of an expression, in the order of evaluation
    pub sites : Tree → List Mark
    sites (int at n) = []
    sites (bool at b) = []
    sites (name at w) = (a_call, (source, at)) ∷ []
    sites (apply at w ts es) = all_sites es ++ (a_call, (source, at)) ∷ []
    sites (field at e w) = sites e
    sites (unary at op a) = sites a
    sites (binary at op a b) = sites a ++ sites b ++ operator_mark op (source, at)
    sites (choice at c a b) = sites c ++ sites a ++ sites b
    sites (matching at e cs) = sites e ++ (a_match, (source, at)) ∷ case_sites cs
    sites (val_in at w t a b) = sites a ++ sites b
    sites (assert_in at c e) = sites c ++ (an_assertion, (source, at)) ∷ sites e

    pub all_sites : Trees → List Mark
    all_sites no_trees = []
    all_sites (more_trees e es) = sites e ++ all_sites es

    pub case_sites : CaseTrees → List Mark
    case_sites no_cases = []
    case_sites (plain_case p body cs) = sites body ++ case_sites cs
    case_sites (guarded_case p guard body cs) = (sites guard ++ sites body) ++ case_sites cs

  abbrev pub list_sites : List Tree → List Mark
  list_sites [] = []
  list_sites (e ∷ es) = sites e ++ list_sites es

  abbrev pub post_sites : Option PostTree → List Mark
  post_sites None = []
  post_sites (Some p) = sites p.claim

  -- the sites of a function
  abbrev pub def_sites : DefTree → List Mark
  def_sites d = list_sites d.pre ++ list_sites d.measure ++ sites d.body ++ post_sites d.post

-- no site stands there twice
abbrev pub AreOnce : List Mark → Type 0
AreOnce ms = (i j : ℕ) (m : Mark) → slice_get ms i ≡ Some m → slice_get ms j ≡ Some m → i ≡ j

-- the sites of each function of units are apart
abbrev pub HaveSitesApart : List UnitTree → Type 0
HaveSitesApart units = All (λ (d : DefIn). AreOnce (def_sites d.source d.def)) (defs_of (decls_in units))
