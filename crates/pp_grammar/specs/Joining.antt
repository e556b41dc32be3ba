-- How finished parts are put together: operands with the operators before them, statements with what follows them,
-- lists whose last item stands first.
use Rattle.std.specs.Prelude.{ℕ, suc, Bool, true, false, cond, ◌||◌, nat_le, List, [], ◌∷◌, Option, Some, None}
use Rattle.pp_tree.specs.Plain.{Word, TypeTree, TypeTrees, more_types, PatternTree, PatternTrees, more_patterns, Tree}
use Rattle.pp_tree.specs.Plain.{unary, binary, choice, val_in, assert_in, Trees, more_trees, CaseTrees, ClassTree}
use Rattle.pp_tree.specs.Plain.{PostTree, DeclTree, ctor, def, UnitTree}
use Rattle.pp_tree.specs.Shown.{case_before}
use Rattle.pp_grammar.specs.Words.{level, loosest, tightest}
use Rattle.pp_grammar.specs.Frames.{Head, Placed, Contracts, CaseText, Frame, prefixing, left, if_rest, after_val}
use Rattle.pp_grammar.specs.Frames.{after_assert, guarding, claiming_hole, Parsed}

-- ---- lists, the last first, before others

abbrev pub onto : {A : Type 0} → List A → List A → List A
onto [] ys = ys
onto (x ∷ xs) ys = onto xs (x ∷ ys)

abbrev pub trees_onto : List Tree → Trees → Trees
trees_onto [] es = es
trees_onto (d ∷ ds) es = trees_onto ds (more_trees d es)

abbrev pub types_onto : List TypeTree → TypeTrees → TypeTrees
types_onto [] ts = ts
types_onto (u ∷ us) ts = types_onto us (more_types u ts)

abbrev pub patterns_onto : List PatternTree → PatternTrees → PatternTrees
patterns_onto [] ps = ps
patterns_onto (q ∷ qs) ps = patterns_onto qs (more_patterns q ps)

abbrev pub cases_onto : List CaseText → CaseTrees → CaseTrees
cases_onto [] cs = cs
cases_onto (d ∷ ds) cs = cases_onto ds (case_before d.pattern d.guard d.body cs)

-- ---- operands

-- how tight an operand has to bind above these frames: 0 for any expression, the level of an operand of an operator
abbrev pub floor : List Frame → ℕ
floor (prefixing a op ∷ s) = suc tightest
floor (left a op x h ∷ s) = suc (level op)
floor (guarding p ∷ s) = loosest
floor (claiming_hole ∷ s) = loosest
floor _ = 0

-- the hole may stand here: only operators, without a hole, and prefixes stand between here and the claim
abbrev pub takes_hole : List Frame → Bool
takes_hole (claiming_hole ∷ s) = true
takes_hole (prefixing a op ∷ s) = takes_hole s
takes_hole (left a op x false ∷ s) = takes_hole s
takes_hole _ = false

-- frames, and an operand above them, with or without the hole
pub record Operand : Type 0 where
  pub frames : List Frame
  pub tree : Tree
  pub holed : Bool

abbrev pub above : List Frame → Tree → Bool → Operand
above s e h = record { frames = s; tree = e; holed = h }

-- the operand joined with all before it that binds at least as tight as level p
abbrev pub unwind : ℕ → List Frame → Tree → Bool → Operand
unwind p (prefixing a op ∷ s) e h =
    cond (nat_le p tightest) (unwind p s (unary a op e) h) (above (prefixing a op ∷ s) e h)
unwind p (left a op x g ∷ s) e h =
    cond (nat_le p (level op)) (unwind p s (binary a op x e) (g || h)) (above (left a op x g ∷ s) e h)
unwind p (if_rest a c x ∷ s) e h = cond (nat_le p 0) (unwind p s (choice a c x e) h) (above (if_rest a c x ∷ s) e h)
unwind p s e h = above s e h

-- ---- statements

-- frames, and an expression above them
pub record Sealed : Type 0 where
  pub frames : List Frame
  pub tree : Tree

-- the last expression of a block joined with the statements before it
abbrev pub seal : List Frame → Tree → Sealed
seal (after_val a w t x ∷ s) e = seal s (val_in a w t x e)
seal (after_assert a x ∷ s) e = seal s (assert_in a x e)
seal s e = record { frames = s; tree = e }

-- ---- contracts

abbrev pub no_contracts : Contracts
no_contracts = record { requirements = []; measure = []; first = None; late = None }

abbrev pub first_or : Option Placed → Placed → Option Placed
first_or None p = Some p
first_or (Some q) p = Some q

-- a contract begins with this word
abbrev pub with_word : Contracts → Word → ℕ → Contracts
with_word c w at = record c { first = first_or c.first (record { word = w; at = at }) }

abbrev pub with_requirement : Contracts → Tree → Contracts
with_requirement c e = record c { requirements = e ∷ c.requirements }

abbrev pub late_behind : List Tree → ℕ → Option ℕ
late_behind [] at = None
late_behind (e ∷ es) at = Some at

-- the components, the last first
abbrev pub with_measure : Contracts → ℕ → List Tree → Contracts
with_measure c at es = record c { measure = onto es []; late = late_behind c.requirements at }

abbrev pub has_measure : List Tree → Bool
has_measure [] = false
has_measure (e ∷ es) = true

-- ---- heads and declarations

abbrev pub head_at : ℕ → Word → Head
head_at at w = record { at = at; name = w; type_params = []; listed = false; params = [] }

abbrev pub with_type_param : Head → Word → Head
with_type_param h w = record h { type_params = w ∷ h.type_params }

abbrev pub with_param : Head → ℕ → Word → TypeTree → Head
with_param h at w t = record h { params = record { at = at; name = w; of = t } ∷ h.params }

abbrev pub with_list : Head → Head
with_list h = record h { listed = true }

abbrev pub class_tree : Head → Option TypeTree → ClassTree
class_tree h parent = record {
  at = h.at;
  name = h.name;
  params = onto h.type_params [];
  fields = onto h.params [];
  parent = parent;
  object = false;
}

abbrev pub object_tree : ℕ → Word → TypeTree → DeclTree
object_tree at w t = ctor (record { at = at; name = w; params = []; fields = []; parent = Some t; object = true })

abbrev pub def_tree : Head → TypeTree → Contracts → Tree → Option PostTree → DeclTree
def_tree h t c e post = def (record {
  at = h.at;
  name = h.name;
  type_params = onto h.type_params [];
  params = onto h.params [];
  list = h.listed;
  result = t;
  pre = onto c.requirements [];
  measure = c.measure;
  body = e;
  post = post;
})

-- ---- the unit

abbrev pub nothing_parsed : Parsed
nothing_parsed = record { imports = []; objects = []; decls = [] }

abbrev pub with_import : Parsed → Placed → Parsed
with_import d p = record d { imports = record { name = p.word; at = p.at } ∷ d.imports }

abbrev pub with_object : Parsed → Word → Parsed
with_object d w = record d { objects = w ∷ d.objects }

abbrev pub with_decl : Parsed → DeclTree → Parsed
with_decl d x = record d { decls = x ∷ d.decls }

abbrev pub unit_of : Parsed → UnitTree
unit_of d = record { imports = onto d.imports []; objects = onto d.objects []; decls = onto d.decls [] }
