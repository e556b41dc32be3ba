-- What holds of each declaration of the units that texts spell holds of their roots and functions.
use Rattle.std.proofs.Common.{◌+◌, ℕ, Bool, true, false, List, [], ◌∷◌, All, map}
use Rattle.std.proofs.lemmas.List.Elements.{All-append, All-cons, All-map, All-nil}
use Rattle.pp_declared.proofs.Steps.{all_first, all_rest}
use Rattle.pp_declared.specs.Listed.{ClassIn, DeclIn, DefIn, decl_in, decls_from, def_of, defs_of, is_missing}
use Rattle.pp_declared.specs.Listed.{root_of, roots_of, unparented}
use Rattle.pp_tree.specs.Plain.{ClassTree, DeclTree, UnitTree, ctor, def, other, root}
use Rattle.pp_ordinary.specs.Spelled.{EachSpells, Spells, more_texts, no_texts}

-- what holds of each declaration of a unit that a text spells, in a source
abbrev pub OfEachUnit : (ℕ → DeclTree → Type 0) → Type 0
OfEachUnit P = (n : ℕ) (text : List ℕ) (u : UnitTree) → Spells text u → All (P n) u.decls

module _ (P : ℕ → DeclTree → Type 0) where
  abbrev pub OfDecl : DeclIn → Type 0
  OfDecl d = P d.source d.decl

  pub each_decl : OfEachUnit P → {texts : List (List ℕ)} {units : List UnitTree} (n : ℕ) → EachSpells texts units
      → All OfDecl (decls_from n units)
  each_decl holds n no_texts = All-nil OfDecl
  each_decl holds n (more_texts {text = text} {unit = u} {units = us} spells rest) =
      All-append OfDecl (map (decl_in n) u.decls) (decls_from (n + 1) us)
      (All-map OfDecl (decl_in n) u.decls (holds n text u spells)) (each_decl holds (n + 1) rest)

-- of functions
module _ (P : DefIn → Type 0) where
  abbrev pub IfDef : ℕ → DeclTree → Type 0
  IfDef n (def d) = P (record { source = n; def = d })
  IfDef n _ = Unit {0}

  one_def : (n : ℕ) (d : DeclTree) → IfDef n d → All P (def_of n d)
  one_def n (root c) h = All-nil P
  one_def n (ctor c) h = All-nil P
  one_def n (other c) h = All-nil P
  one_def n (def d) h = All-cons P (record { source = n; def = d }) [] h (All-nil P)

  pub each_def : (ds : List DeclIn) → All (OfDecl IfDef) ds → All P (defs_of ds)
  each_def [] h = All-nil P
  each_def (d ∷ ds) h =
      All-append P (def_of d.source d.decl) (defs_of ds) (one_def d.source d.decl (all_first (OfDecl IfDef) d ds h))
      (each_def ds (all_rest (OfDecl IfDef) d ds h))

-- of roots
module _ (P : ClassTree → Type 0) where
  abbrev pub IfClass : ℕ → DeclTree → Type 0
  IfClass n (root c) = P c
  IfClass n (ctor c) = P c
  IfClass n (other c) = P c
  IfClass n (def d) = Unit {0}

  abbrev OfClass : ClassIn → Type 0
  OfClass c = P c.class

  if_unparented : (n : ℕ) (c : ClassTree) (b : Bool) → P c → All OfClass (unparented n c b)
  if_unparented n c true h = All-cons OfClass (record { source = n; sealed = false; class = c }) [] h (All-nil OfClass)
  if_unparented n c false h = All-nil OfClass

  one_root : (n : ℕ) (d : DeclTree) → IfClass n d → All OfClass (root_of n d)
  one_root n (root c) h = All-cons OfClass (record { source = n; sealed = true; class = c }) [] h (All-nil OfClass)
  one_root n (ctor c) h = if_unparented n c (is_missing c.parent) h
  one_root n (other c) h = All-nil OfClass
  one_root n (def d) h = All-nil OfClass

  pub each_root : (ds : List DeclIn) → All (OfDecl IfClass) ds → All OfClass (roots_of ds)
  each_root [] h = All-nil OfClass
  each_root (d ∷ ds) h =
      All-append OfClass (root_of d.source d.decl) (roots_of ds)
      (one_root d.source d.decl (all_first (OfDecl IfClass) d ds h))
      (each_root ds (all_rest (OfDecl IfClass) d ds h))
