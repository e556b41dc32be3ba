-- The constructors that units declare: their names are words, no two are the same, and case objects have no fields.
use Rattle.std.proofs.Common.{◌≡◌, ◌∙◌, ℕ, zero, suc, true, false, List, [], ◌∷◌, All, Contains, refl, sym, ap}
use Rattle.std.proofs.Common.{subst, option_map}
use Rattle.std.specs.Prelude.{Some, slice_get}
use Rattle.std.proofs.lemmas.List.Elements.{All-append, All-cons, All-nil, All-contains_itself, All-weaker}
use Rattle.std.proofs.lemmas.Option.{get_or_from_slice_get, same_Some, slice_get-map, slice_get_within}
use Rattle.pp_declared.proofs.Steps.{all_first, all_rest}
use Rattle.pp_declared.specs.Declares.{AreCtors, IsCtor, class_names, more_ctors, no_ctors, param_types, typed_root}
use Rattle.pp_declared.specs.Listed.{ClassIn, DeclIn, DefIn, defs_of, ctor_of, ctors_of, decls_in, roots_of}
use Rattle.pp_ordinary.proofs.Listed.{IfClass, IfDef, each_def, each_root, OfDecl, OfEachUnit, each_decl}
use Rattle.pp_tokens.proofs.Every.{Every}
use Rattle.pp_line_contents.proofs.Spans.{every_of}
use Rattle.pp_ordinary.specs.Spelled.{EachSpells, Spells}
use Rattle.pp_plain_names.proofs.Names.{declared_names_are_words, declared_objects_are_bare, declared_params_are_words}
use Rattle.pp_plain_names.specs.Laws.{IsBareObject, IsWord, declared_name}
use Rattle.pp_sorts.specs.IsSort.{AreSorts, more_sorts, no_sorts}
use Rattle.pp_tree.specs.Plain.{ClassTree, DeclTree, ParamTree, TypeTrees, UnitTree, ctor, def, no_types, other, root}
use Rattle.pp_typed.specs.declared.sort.GenericSort.{GenericSort}
use Rattle.pp_typed.specs.declared.typed.Typed.{Typed}
use Rattle.pp_typed.specs.declared.typed.TypedCtor.{TypedCtor}
use Rattle.pp_typed.specs.declared.typed.TypedParam.{TypedParam}
use Rattle.pp_typed.specs.declared.typed.TypedRoot.{TypedRoot}
use Rattle.pp_types_laws.proofs.Names.{names_differ}
use Rattle.pp_types_laws.specs.Typing.{HasTyping, TypesDefs, more_defs, no_defs}
use Rattle.pp_rules.specs.Bodies.{TypesDef, a_def, typed_params}
use Rattle.pp_typed.specs.declared.declared.Declared.{Declared}
use Rattle.pp_typed.specs.declared.declared.Signature.{Signature}
use Rattle.pp_typed.specs.declared.typed.TypedDef.{TypedDef}
use Rattle.pp_legible.proofs.Unlike.{has_mapped}

-- ---- classes of units

pub record IsFine (c : ClassTree) : Type 0 where
  pub word : IsWord c.name
  pub bare : c.object ≡ true → c.fields ≡ []

abbrev IfCtor : ℕ → DeclTree → Type 0
IfCtor n (root c) = Unit {0}
IfCtor n (ctor c) = IsFine c
IfCtor n (other c) = Unit {0}
IfCtor n (def d) = Unit {0}

abbrev IsFineIn : ClassIn → Type 0
IsFineIn c = IsFine c.class

one_ctor : (n : ℕ) (d : DeclTree) → IfCtor n d → All IsFineIn (ctor_of n d)
one_ctor n (root c) h = All-nil IsFineIn
one_ctor n (ctor c) h = All-cons IsFineIn (record { source = n; sealed = false; class = c }) [] h (All-nil IsFineIn)
one_ctor n (other c) h = All-nil IsFineIn
one_ctor n (def d) h = All-nil IsFineIn

each_ctor : (ds : List DeclIn) → All (OfDecl IfCtor) ds → All IsFineIn (ctors_of ds)
each_ctor [] h = All-nil IsFineIn
each_ctor (d ∷ ds) h =
    All-append IsFineIn (ctor_of d.source d.decl) (ctors_of ds)
    (one_ctor d.source d.decl (all_first (OfDecl IfCtor) d ds h)) (each_ctor ds (all_rest (OfDecl IfCtor) d ds h))

fine_decl : (n : ℕ) (d : DeclTree) → IsWord (declared_name d) → IsBareObject d → IfCtor n d
fine_decl n (root c) word bare = tt
fine_decl n (ctor c) word bare = record { word = word; bare = bare }
fine_decl n (other c) word bare = tt
fine_decl n (def d) word bare = tt

-- what holds of each of a list holds of the one at a place
of_place : {X : Type 0} (P : X → Type 0) (xs : List X) (k : ℕ) (x : X) → All P xs → slice_get xs k ≡ Some x → P x
of_place P xs k x all at = subst P (get_or_from_slice_get xs k x x at) (all k x (slice_get_within xs k x at))

fine_units : OfEachUnit IfCtor
fine_units n text u s =
    All-weaker (Contains u.decls) (IfCtor n)
    (λ d here. fine_decl n d (declared_names_are_words text s.tokens u d s.utf8 s.cut s.spells here)
    (declared_objects_are_bare text s.tokens u d s.spells here)) u.decls
    (All-contains_itself u.decls)

fine_classes : (texts : List (List ℕ)) (units : List UnitTree) → EachSpells texts units
    → All IsFineIn (ctors_of (decls_in units))
fine_classes texts units spells = each_ctor (decls_in units) (each_decl IfCtor fine_units 1 spells)

-- ---- names of roots and functions

abbrev ClassWord : ClassTree → Type 0
ClassWord c = IsWord c.name

abbrev IsWordParam : ParamTree → Type 0
IsWordParam q = IsWord q.name

-- the names of a function and of its parameters
record DefWords (d : DefIn) : Type 0 where
  pub name : IsWord d.def.name
  pub params : Every IsWordParam d.def.params

class_word : (n : ℕ) (d : DeclTree) → IsWord (declared_name d) → IfClass ClassWord n d
class_word n (root c) h = h
class_word n (ctor c) h = h
class_word n (other c) h = h
class_word n (def d) h = tt

def_words_in : (n : ℕ) (text : List ℕ) (u : UnitTree) → Spells text u → (d : DeclTree) → Contains u.decls d
    → IfDef DefWords n d
def_words_in n text u s (root c) here = tt
def_words_in n text u s (ctor c) here = tt
def_words_in n text u s (other c) here = tt
def_words_in n text u s (def d) here = record {
  name = declared_names_are_words text s.tokens u (def d) s.utf8 s.cut s.spells here;
  params =
      every_of IsWordParam d.params
      (λ q there. declared_params_are_words text s.tokens u d q s.utf8 s.cut s.spells here there);
}

class_words : OfEachUnit (IfClass ClassWord)
class_words n text u s =
    All-weaker (Contains u.decls) (IfClass ClassWord n)
    (λ d here. class_word n d (declared_names_are_words text s.tokens u d s.utf8 s.cut s.spells here)) u.decls
    (All-contains_itself u.decls)

def_words : OfEachUnit (IfDef DefWords)
def_words n text u s =
    All-weaker (Contains u.decls) (IfDef DefWords n) (def_words_in n text u s) u.decls (All-contains_itself u.decls)

-- the definition of a typed function
record IsOfDef (ds : List DefIn) (k : ℕ) (t : TypedDef) : Type 0 where
  pub written : DefIn
  pub here : slice_get ds k ≡ Some written
  pub name : t.name ≡ written.def.name
  pub sorts : List GenericSort
  pub params : t.params ≡ typed_params written.def.params sorts

own_def : {declared : Declared} {d : DefIn} {s : Signature} {t : TypedDef} (ds : List DefIn)
    → TypesDef declared d.source d.def s t → IsOfDef (d ∷ ds) 0 t
own_def {d = d} {s = s} ds (a_def p m b q) =
    record { written = d; here = refl; name = refl; sorts = s.params; params = refl }

def_of_typed : {declared : Declared} {ds : List DefIn} {ss : List Signature} {ts : List TypedDef}
    → TypesDefs declared ds ss ts → (k : ℕ) (t : TypedDef) → slice_get ts k ≡ Some t → IsOfDef ds k t
def_of_typed no_defs k t at = cc
def_of_typed (more_defs {d = d} {ds = ds} one rest) zero t at =
    subst (IsOfDef (d ∷ ds) 0) (same_Some _ _ at) (own_def ds one)
def_of_typed (more_defs one rest) (suc k) t at =
    let own = def_of_typed rest k t at in
    record { written = own.written; here = own.here; name = own.name; sorts = own.sorts; params = own.params }

abbrev pub IsWordOfTyped : TypedParam → Type 0
IsWordOfTyped q = IsWord q.name

typed_words : (ps : List ParamTree) (ss : List GenericSort) → Every IsWordParam ps
    → Every IsWordOfTyped (typed_params ps ss)
typed_words [] ss h = tt
typed_words (p ∷ ps) [] h = tt
typed_words (p ∷ ps) (s ∷ ss) h = (h.0, typed_words ps ss h.1)

-- ---- constructors of classes

-- the class that declares a constructor
record IsOfClass (roots : List ClassIn) (cs : List ClassIn) (k : ℕ) (t : TypedCtor) : Type 0 where
  pub class : ClassIn
  pub here : slice_get cs k ≡ Some class
  pub declares : IsCtor roots class t

class_of : (roots : List ClassIn) {before : List TypedCtor} {cs : List ClassIn} {ts : List TypedCtor}
    → AreCtors roots before cs ts → (k : ℕ) (t : TypedCtor) → slice_get ts k ≡ Some t → IsOfClass roots cs k t
class_of roots (no_ctors before) k t at = cc
class_of roots (more_ctors before {c} one room rest) zero t at =
    record { class = c; here = refl; declares = subst (IsCtor roots c) (same_Some _ _ at) one }
class_of roots (more_ctors before one room rest) (suc k) t at =
    let own = class_of roots rest k t at in
    record { class = own.class; here = own.here; declares = own.declares }

no_written : {roots : List TypedRoot} {params : List (List ℕ)} {ts : TypeTrees} {ss : List GenericSort}
    → AreSorts roots params ts ss → ts ≡ no_types → ss ≡ []
no_written no_sorts none = refl
no_written (more_sorts one rest) none = cc

-- ---- constructors of typed units

module _ (texts : List (List ℕ)) (units : List UnitTree) (typed : Typed) (spells : EachSpells texts units)
    (h : HasTyping units typed) where
  abbrev classes : List ClassIn
  classes = ctors_of (decls_in units)

  own_class : (k : ℕ) (t : TypedCtor) → slice_get typed.ctors k ≡ Some t
      → IsOfClass (roots_of (decls_in units)) classes k t
  own_class k t at =
      class_of (roots_of (decls_in units)) h.declares.ctors k t (ap (λ l. slice_get l k) (sym h.ctors) ∙ at)

  fine : (k : ℕ) (c : ClassIn) → slice_get classes k ≡ Some c → IsFine c.class
  fine k c at = of_place IsFineIn classes k c (fine_classes texts units spells) at

  pub roots_are_words : (r : ℕ) (t : TypedRoot) → slice_get typed.roots r ≡ Some t → IsWord t.name
  roots_are_words r t at =
      let all = each_root ClassWord (decls_in units) (each_decl (IfClass ClassWord) class_words 1 spells) in
      let own = has_mapped typed_root (roots_of (decls_in units)) r t
      (ap (λ l. slice_get l r) (sym h.declares.roots ∙ sym h.roots) ∙ at) in
      subst IsWord (ap (λ (t : TypedRoot). t.name) own.2)
      (of_place (λ (c : ClassIn). ClassWord c.class) (roots_of (decls_in units)) own.1.place own.0 all own.1.here)

  of_def : (f : ℕ) (d : TypedDef) (own : IsOfDef (defs_of (decls_in units)) f d) → DefWords own.written
  of_def f d own =
      of_place DefWords (defs_of (decls_in units)) f own.written
      (each_def DefWords (decls_in units) (each_decl (IfDef DefWords) def_words 1 spells)) own.here

  pub defs_are_words : (f : ℕ) (d : TypedDef) → slice_get typed.defs f ≡ Some d → IsWord d.name
  defs_are_words f d at =
      let own = def_of_typed h.defs f d at in subst IsWord (sym own.name) (of_def f d own).name

  pub params_are_words : (f : ℕ) (d : TypedDef) → slice_get typed.defs f ≡ Some d → Every IsWordOfTyped d.params
  params_are_words f d at =
      let own = def_of_typed h.defs f d at in
      subst (Every IsWordOfTyped) (sym own.params)
      (typed_words own.written.def.params own.sorts (of_def f d own).params)

  pub ctors_are_words : (k : ℕ) (t : TypedCtor) → slice_get typed.ctors k ≡ Some t → IsWord t.name
  ctors_are_words k t at =
      let own = own_class k t at in subst IsWord (sym own.declares.name) (fine k own.class own.here).word

  pub objects_are_bare : (k : ℕ) (t : TypedCtor) → slice_get typed.ctors k ≡ Some t → t.object ≡ true → t.fields ≡ []
  objects_are_bare k t at is =
      let own = own_class k t at in
      let none = (fine k own.class own.here).bare (sym own.declares.object ∙ is) in
      no_written own.declares.fields (ap param_types none)

  name_at : (k : ℕ) (t : TypedCtor) → slice_get typed.ctors k ≡ Some t → slice_get (class_names classes) k ≡ Some t.name
  name_at k t at =
      let own = own_class k t at in
      slice_get-map (λ (c : ClassIn). c.class.name) classes k
      ∙ ap (option_map (λ (c : ClassIn). c.class.name)) own.here ∙ ap Some (sym own.declares.name)

  pub ctor_names_differ : (i j : ℕ) (a b : TypedCtor) → slice_get typed.ctors i ≡ Some a
      → slice_get typed.ctors j ≡ Some b → a.name ≡ b.name → i ≡ j
  ctor_names_differ i j a b there here same =
      names_differ [] (class_names classes) h.declares.ctors_new i j b.name (name_at i a there ∙ ap Some same)
      (name_at j b here)
