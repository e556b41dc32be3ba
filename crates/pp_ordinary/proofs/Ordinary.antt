-- Units that texts spell are ordinary.
use Rattle.std.proofs.Common.{ℕ, List, Contains}
use Rattle.std.proofs.lemmas.List.Elements.{All-contains_itself, All-weaker}
use Rattle.pp_declared.specs.Listed.{DefIn, decls_in}
use Rattle.pp_plain_names.proofs.Names.{declared_names_are_plain}
use Rattle.pp_plain_names.specs.Laws.{declared_name}
use Rattle.pp_tokens.proofs.Every.{all_of}
use Rattle.pp_tree.specs.Plain.{ClassTree, DeclTree, UnitTree, ctor, def, other, root}
use Rattle.pp_typed.specs.WellSorted.{IsPlain}
use Rattle.pp_types_laws.specs.Literals.{DefInts}
use Rattle.pp_ordinary.proofs.DefInts.{DeclInts, spelled_ints}
use Rattle.pp_ordinary.proofs.Listed.{IfClass, IfDef, OfEachUnit, each_decl, each_def, each_root}
use Rattle.pp_ordinary.specs.Ordinary.{AreOrdinary}
use Rattle.pp_ordinary.specs.Spelled.{EachSpells, Spells}

abbrev PlainClass : ClassTree → Type 0
PlainClass c = IsPlain c.name

abbrev PlainDef : DefIn → Type 0
PlainDef d = IsPlain d.def.name

abbrev IntsOf : DefIn → Type 0
IntsOf d = DefInts d.def

plain_class : (n : ℕ) (d : DeclTree) → IsPlain (declared_name d) → IfClass PlainClass n d
plain_class n (root c) h = h
plain_class n (ctor c) h = h
plain_class n (other c) h = h
plain_class n (def d) h = tt

plain_def : (n : ℕ) (d : DeclTree) → IsPlain (declared_name d) → IfDef PlainDef n d
plain_def n (root c) h = tt
plain_def n (ctor c) h = tt
plain_def n (other c) h = tt
plain_def n (def d) h = h

ints_def : (n : ℕ) (d : DeclTree) → DeclInts d → IfDef IntsOf n d
ints_def n (root c) h = tt
ints_def n (ctor c) h = tt
ints_def n (other c) h = tt
ints_def n (def d) h = h

plain_names : (text : List ℕ) (u : UnitTree) → Spells text u → (d : DeclTree) → Contains u.decls d
    → IsPlain (declared_name d)
plain_names text u s d here = declared_names_are_plain text s.tokens u d s.utf8 s.cut s.spells here

classes_plain : OfEachUnit (IfClass PlainClass)
classes_plain n text u s =
    All-weaker (Contains u.decls) (IfClass PlainClass n)
    (λ d here. plain_class n d (plain_names text u s d here)) u.decls
    (All-contains_itself u.decls)

defs_plain : OfEachUnit (IfDef PlainDef)
defs_plain n text u s =
    All-weaker (Contains u.decls) (IfDef PlainDef n) (λ d here. plain_def n d (plain_names text u s d here)) u.decls
    (All-contains_itself u.decls)

defs_ints : OfEachUnit (IfDef IntsOf)
defs_ints n text u s =
    All-weaker DeclInts (IfDef IntsOf n) (ints_def n) u.decls
    (all_of DeclInts u.decls (spelled_ints text s.tokens s.cut u s.spells))

pub ordinary : (texts : List (List ℕ)) (units : List UnitTree) → EachSpells texts units → AreOrdinary units
ordinary texts units spells = record {
  types_plain =
      each_root PlainClass (decls_in units) (each_decl (IfClass PlainClass) classes_plain 1 spells);
  functions_plain = each_def PlainDef (decls_in units) (each_decl (IfDef PlainDef) defs_plain 1 spells);
  numbers = each_def IntsOf (decls_in units) (each_decl (IfDef IntsOf) defs_ints 1 spells);
}
