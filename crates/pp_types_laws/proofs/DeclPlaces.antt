-- A fault of units stands at one of their offsets.
use Rattle.std.proofs.Common.{◌≡◌, ℕ, ◌+◌, Bool, true, false, List, [], ◌∷◌, ◌++◌, All, Some, map, sym, subst}
use Rattle.std.proofs.lemmas.List.Elements.{All-nil, All-cons, All-append, All-contains}
use Rattle.pp_declared.proofs.Steps.{all_first, all_rest}
use Rattle.pp_declared.specs.Declares.{param_types, typed_root}
use Rattle.pp_declared.specs.Fault.{HeadBreaks, many_type_params, type_param_twice, many_params, param_twice}
use Rattle.pp_declared.specs.Fault.{DeclBreaks, a_root, a_ctor, a_def, another, OwnerBreaks, nothing, no_root, hidden}
use Rattle.pp_declared.specs.Fault.{closed, not_whole, DeclaresBreak, an_import, by_itself, type_twice, ctor_twice}
use Rattle.pp_declared.specs.Fault.{function_twice, an_owner, many_ctors, a_field, a_param, a_result}
use Rattle.pp_declared.specs.Listed.{ClassIn, DeclIn, ImportIn, ctor_of, ctors_of, decl_in, decls_from, decls_in}
use Rattle.pp_declared.specs.Listed.{defs_of, import_in, imports_from, imports_in, is_missing, root_of, roots_of}
use Rattle.pp_declared.specs.Listed.{unparented}
use Rattle.pp_fault.specs.declared.Fault.{Fault}
use Rattle.pp_fault.specs.declared.Rule.{Rule}
use Rattle.pp_names.specs.Places.{Word}
use Rattle.pp_tree.specs.Offsets.{ClassOffsets, DeclOffsets, DeclsOffsets, ImportsOffsets, ParamOffsets, TypesOffsets}
use Rattle.pp_tree.specs.Offsets.{WrittenOffsets}
use Rattle.pp_tree.specs.Plain.{type_text, TypeTrees, ParamTree, ClassTree, DeclTree, root, ctor, other, def}
use Rattle.pp_tree.specs.Plain.{ImportTree, UnitTree}
use Rattle.pp_typed.specs.Stand.{Offset}
use Rattle.pp_types_laws.proofs.FaultPlaces.{def_fault_at, type_fault_at, types_fault_at}
use Rattle.pp_types_laws.proofs.Placed.{DefOffsets, of_units}
use Rattle.pp_types_laws.proofs.WellSorted.{all_at}
use Rattle.pp_types_laws.specs.Fault.{Stands, in_declarations, without_value, in_function}
use Rattle.pp_types_laws.specs.Offsets.{OffsetsFrom, UnitsHave}

all_split : {X : Type 0} (P : X → Type 0) (xs before after : List X) (x : X) → xs ≡ before ++ x ∷ after → All P xs → P x
all_split P xs before after x e h = middle before (subst (All P) e h)
  where
    middle : (ys : List _) → All P (ys ++ x ∷ after) → P x
    middle [] k = all_first P x after k
    middle (y ∷ ys) k = middle ys (all_rest P y (ys ++ x ∷ after) k)

module _ (P : Offset → Type 0) where
  abbrev ClassHas : ClassIn → Type 0
  ClassHas c = ClassOffsets (λ at. P (c.source, at)) c.class

  abbrev DeclHas : DeclIn → Type 0
  DeclHas d = DeclOffsets (λ at. P (d.source, at)) d.decl

  abbrev ImportHas : ImportIn → Type 0
  ImportHas i = P (i.source, i.path.at)

  -- the offsets of each kind of declaration
  root_has : (n : ℕ) (d : DeclTree) → DeclOffsets (λ at. P (n, at)) d → All ClassHas (root_of n d)
  root_has n (root c) h = All-cons ClassHas _ [] h (All-nil ClassHas)
  root_has n (ctor c) h = by (is_missing c.parent)
    where
      by : (b : Bool) → All ClassHas (unparented n c b)
      by true = All-cons ClassHas _ [] h (All-nil ClassHas)
      by false = All-nil ClassHas
  root_has n (other c) h = All-nil ClassHas
  root_has n (def d) h = All-nil ClassHas

  ctor_has : (n : ℕ) (d : DeclTree) → DeclOffsets (λ at. P (n, at)) d → All ClassHas (ctor_of n d)
  ctor_has n (root c) h = All-nil ClassHas
  ctor_has n (ctor c) h = All-cons ClassHas _ [] h (All-nil ClassHas)
  ctor_has n (other c) h = All-nil ClassHas
  ctor_has n (def d) h = All-nil ClassHas

  roots_have : (ds : List DeclIn) → All DeclHas ds → All ClassHas (roots_of ds)
  roots_have [] h = All-nil ClassHas
  roots_have (d ∷ ds) h =
      All-append ClassHas (root_of d.source d.decl) (roots_of ds) (root_has d.source d.decl (all_first DeclHas d ds h))
      (roots_have ds (all_rest DeclHas d ds h))

  ctors_have : (ds : List DeclIn) → All DeclHas ds → All ClassHas (ctors_of ds)
  ctors_have [] h = All-nil ClassHas
  ctors_have (d ∷ ds) h =
      All-append ClassHas (ctor_of d.source d.decl) (ctors_of ds) (ctor_has d.source d.decl (all_first DeclHas d ds h))
      (ctors_have ds (all_rest DeclHas d ds h))

  decls_of : (n : ℕ) (ds : List DeclTree) → DeclsOffsets (λ at. P (n, at)) ds → All DeclHas (map (decl_in n) ds)
  decls_of n [] h = All-nil DeclHas
  decls_of n (d ∷ ds) h = All-cons DeclHas (decl_in n d) (map (decl_in n) ds) h.0 (decls_of n ds h.1)

  decls_have : (n : ℕ) (us : List UnitTree) → OffsetsFrom P n us → All DeclHas (decls_from n us)
  decls_have n [] h = All-nil DeclHas
  decls_have n (u ∷ us) h =
      All-append DeclHas (map (decl_in n) u.decls) (decls_from (n + 1) us) (decls_of n u.decls h.0.1) (decls_have
      (n + 1) us h.1)

  imports_of : (n : ℕ) (is : List ImportTree) → ImportsOffsets (λ at. P (n, at)) is
      → All ImportHas (map (import_in n) is)
  imports_of n [] h = All-nil ImportHas
  imports_of n (i ∷ is) h = All-cons ImportHas (import_in n i) (map (import_in n) is) h.0 (imports_of n is h.1)

  imports_have : (n : ℕ) (us : List UnitTree) → OffsetsFrom P n us → All ImportHas (imports_from n us)
  imports_have n [] h = All-nil ImportHas
  imports_have n (u ∷ us) h =
      All-append ImportHas (map (import_in n) u.imports) (imports_from (n + 1) us) (imports_of n u.imports h.0.0)
      (imports_have (n + 1) us h.1)

  -- the offsets of parameters and of their types
  module _ (source : ℕ) where
    abbrev At : ℕ → Type 0
    At at = P (source, at)

    params_all : (ps : List ParamTree) → ParamOffsets At ps → All (λ (p : ParamTree). At p.at) ps
    params_all [] o = All-nil (λ (p : ParamTree). At p.at)
    params_all (p ∷ ps) o = All-cons (λ (p : ParamTree). At p.at) p ps o.0.0 (params_all ps o.1)

    types_all : (ps : List ParamTree) → ParamOffsets At ps → TypesOffsets At (param_types ps)
    types_all [] o = tt
    types_all (p ∷ ps) o = (o.0.1, types_all ps o.1)

    head_at : {at place : ℕ} {w v : Word} {ts : List Word} {ps : List ParamTree} {rule : Rule}
        → HeadBreaks at w ts ps rule v place
        → At at → ParamOffsets At ps → At place
    head_at (many_type_params many) o ps = o
    head_at (type_param_twice twice) o ps = o
    head_at (many_params many) o ps = o
    head_at {ps = all} (param_twice before p after is taken) o ps =
        all_split (λ (q : ParamTree). At q.at) all before after p is (params_all all ps)

    decl_at : {d : DeclTree} {rule : Rule} {w : Word} {place : ℕ} → DeclBreaks d rule w place → DeclOffsets At d
        → At place
    decl_at (a_root b) o = head_at b o.0 o.1
    decl_at (a_ctor b) o = head_at b o.0 o.1
    decl_at (a_def b) o = head_at b o.0 o.1
    decl_at (another c) o = o.0

    parent_at : (c : ClassTree) (at : ℕ) (w : Word) (ts : TypeTrees) → c.parent ≡ Some (type_text at w ts)
        → ClassOffsets At c → At at
    parent_at c at w ts is o =
        let h : WrittenOffsets At (Some (type_text at w ts)) = subst (WrittenOffsets At) is o.2 in h.0

  owner_at : (roots : List ClassIn) (c : ClassIn) {rule : Rule} {w : Word} {place : ℕ}
      → OwnerBreaks roots c rule w place
      → ClassHas c → P (c.source, place)
  owner_at roots c (nothing none parent) o = o.0
  owner_at roots c (no_root at w ts parent none) o = parent_at c.source c.class at w ts parent o
  owner_at roots c (hidden at w ts parent has) o = parent_at c.source c.class at w ts parent o
  owner_at roots c (closed at w ts r parent place shut) o = parent_at c.source c.class at w ts parent o
  owner_at roots c (not_whole at w ts r parent free place open_to partly) o = o.0

  declares_at : (units : List UnitTree) {rule : Rule} {w : Word} {source place : ℕ}
      → DeclaresBreak units rule w source place
      → UnitsHave P units → P (source, place)
  declares_at units (an_import i has none) o = All-contains ImportHas (imports_in units) i (imports_have 1 units o) has
  declares_at units (by_itself d has b) o =
      decl_at d.source b (All-contains DeclHas (decls_in units) d (decls_have 1 units o) has)
  declares_at units (type_twice before c after is taken) o =
      (all_split ClassHas (roots_of (decls_in units)) before after c is (roots_have (decls_in units)
      (decls_have 1 units o))).0
  declares_at units (ctor_twice before c after is taken) o =
      (all_split ClassHas (ctors_of (decls_in units)) before after c is (ctors_have (decls_in units)
      (decls_have 1 units o))).0
  declares_at units (function_twice before d after is taken) o =
      (all_split (DefOffsets P) (defs_of (decls_in units)) before after d is (of_units P 1 units o)).0
  declares_at units (an_owner c has b) o =
      owner_at (roots_of (decls_in units)) c b
      (All-contains ClassHas (ctors_of (decls_in units)) c (ctors_have (decls_in units) (decls_have 1 units o)) has)
  declares_at units (many_ctors before c after ts r is are owner many) o =
      (all_split ClassHas (ctors_of (decls_in units)) before after c is (ctors_have (decls_in units)
      (decls_have 1 units o))).0
  declares_at units (a_field c has b) o =
      let h = All-contains ClassHas (ctors_of (decls_in units)) c (ctors_have (decls_in units)
      (decls_have 1 units o)) has in
      types_fault_at (λ at. P (c.source, at)) (map typed_root (roots_of (decls_in units))) c.class.params b
      (types_all c.source c.class.fields h.1)
  declares_at units (a_param d has b) o =
      let h = All-contains (DefOffsets P) (defs_of (decls_in units)) d (of_units P 1 units o) has in
      types_fault_at (λ at. P (d.source, at)) (map typed_root (roots_of (decls_in units))) d.def.type_params b
      (types_all d.source d.def.params h.1)
  declares_at units (a_result d has b) o =
      let h = All-contains (DefOffsets P) (defs_of (decls_in units)) d (of_units P 1 units o) has in
      type_fault_at (λ at. P (d.source, at)) (map typed_root (roots_of (decls_in units))) d.def.type_params b h.2

  -- a fault stands at an offset of the units
  pub fault_placed : (units : List UnitTree) (f : Fault) → UnitsHave P units → Stands units f → P (f.source, f.at)
  fault_placed units f o (in_declarations b) = declares_at units b o
  fault_placed units f o (without_value declared declares w) =
      subst (λ (g : Fault). P (g.source, g.at)) (sym w.is)
      (all_at ClassHas (roots_of (decls_in units)) w.place w.class w.written
      (roots_have (decls_in units) (decls_have 1 units o))).0
  fault_placed units f o (in_function declared i d s declares there signature b) =
      def_fault_at P declared d.source d.def s b
      (all_at (DefOffsets P) (defs_of (decls_in units)) i d there (of_units P 1 units o))
