-- The sites of units that texts spell are apart.
use Rattle.std.proofs.Common.{◌≤◌, ℕ, List, [], ◌∷◌, All, arith}
use Rattle.std.proofs.lemmas.List.Elements.{All-cons, All-nil}
use Rattle.pp_declared.specs.Listed.{DefIn, decls_in}
use Rattle.pp_tree.specs.Plain.{DeclTree, UnitTree, ctor, def, other, root}
use Rattle.pp_types_laws.specs.Sites.{AreOnce, HaveSitesApart, def_sites}
use Rattle.pp_ordinary.proofs.Listed.{IfDef, OfEachUnit, each_decl, each_def}
use Rattle.pp_ordinary.proofs.Marks.{apart, le_def_sites}
use Rattle.pp_ordinary.proofs.OneAt.{one_at}
use Rattle.pp_ordinary.proofs.Strict.{begin_once}
use Rattle.pp_ordinary.proofs.WeighUnits.{le_unit}
use Rattle.pp_ordinary.proofs.Weights.{weigh_decl, weigh_decls}
use Rattle.pp_ordinary.specs.Spelled.{EachSpells}

abbrev SitesApart : DefIn → Type 0
SitesApart d = AreOnce (def_sites d.source d.def)

one_apart : (n : ℕ) (d : DeclTree) → ((x : ℕ) → weigh_decl (one_at x) d ≤ 1) → IfDef SitesApart n d
one_apart n (root c) h = tt
one_apart n (ctor c) h = tt
one_apart n (other c) h = tt
one_apart n (def d) h = apart (def_sites n d) (λ x. omega (arith, h x, le_def_sites (one_at x) n d))

each_apart : (n : ℕ) (ds : List DeclTree) → ((x : ℕ) → weigh_decls (one_at x) ds ≤ 1) → All (IfDef SitesApart n) ds
each_apart n [] h = All-nil (IfDef SitesApart n)
each_apart n (d ∷ ds) h =
    All-cons (IfDef SitesApart n) d ds (one_apart n d (λ x. omega (arith, h x)))
    (each_apart n ds (λ x. omega (arith, h x)))

of_unit : OfEachUnit (IfDef SitesApart)
of_unit n text u s =
    each_apart n u.decls
    (λ x. omega (arith, le_unit text (one_at x) s.spells, begin_once text s.tokens x s.utf8 s.cut))

pub sites_apart : (texts : List (List ℕ)) (units : List UnitTree) → EachSpells texts units → HaveSitesApart units
sites_apart texts units spells =
    each_def SitesApart (decls_in units) (each_decl (IfDef SitesApart) of_unit 1 spells)
