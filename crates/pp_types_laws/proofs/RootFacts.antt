-- What is known of the roots and constructors of declarations.
use Rattle.std.proofs.Common.{◌≡◌, ◌∙◌, ℕ, ◌<◌, ◌≤◌, Bool, true, false, List, [], ◌∷◌, All, Ok, map, length, sym, ap}
use Rattle.std.proofs.Common.{subst, arith}
use Rattle.std.proofs.lemmas.List.{length-map}
use Rattle.std.proofs.lemmas.List.Elements.{All-nil, All-cons, All-append}
use Rattle.pp_declared.specs.Declare.{declare}
use Rattle.pp_declared.specs.Declares.{typed_root}
use Rattle.pp_declared.specs.Listed.{ClassIn, DeclIn, decls_in, is_missing, root_of, roots_of, unparented}
use Rattle.pp_declared.specs.Shown.{class_in, class_ins}
use Rattle.pp_declared.specs.declared.listed.ClassAt.{ClassAt}
use Rattle.pp_declared.specs.WellFormed.{IsWellFormed}
use Rattle.pp_declared.proofs.Known.{owners_within}
use Rattle.pp_declared.proofs.Sound.{declares_sound}
use Rattle.pp_declared.proofs.Steps.{all_first, all_rest}
use Rattle.pp_inhabited.specs.Laws.{FewTypeParams}
use Rattle.pp_inhabited.specs.Settled.{HaveRoots}
use Rattle.pp_names.specs.Find.{owners_of}
use Rattle.pp_tree.specs.Plain.{DeclTree, root, ctor, other, def, UnitTree}
use Rattle.pp_typed.specs.declared.declared.Declared.{Declared}
use Rattle.pp_typed.specs.declared.typed.TypedCtor.{TypedCtor}
use Rattle.pp_typed.specs.declared.typed.TypedRoot.{TypedRoot}

abbrev Small : ClassIn → Type 0
Small c = length c.class.params ≤ 4

small_root : (n : ℕ) (d : DeclTree) → IsWellFormed d → All Small (root_of n d)
small_root n (root c) h = All-cons Small _ [] h.few_type_params (All-nil Small)
small_root n (ctor c) h = by (is_missing c.parent)
  where
    by : (b : Bool) → All Small (unparented n c b)
    by true = All-cons Small _ [] h.few_type_params (All-nil Small)
    by false = All-nil Small
small_root n (other c) h = All-nil Small
small_root n (def d) h = All-nil Small

small_roots : (ds : List DeclIn) → All (λ (d : DeclIn). IsWellFormed d.decl) ds → All Small (roots_of ds)
small_roots [] h = All-nil Small
small_roots (d ∷ ds) h =
    All-append Small (root_of d.source d.decl) (roots_of ds) (small_root d.source d.decl (all_first (λ
    (x : DeclIn). IsWellFormed x.decl) d ds h))
    (small_roots ds (all_rest (λ (x : DeclIn). IsWellFormed x.decl) d ds h))

typed_small : (cs : List ClassIn) → All Small cs → FewTypeParams (map typed_root cs)
typed_small [] h = All-nil (λ (r : TypedRoot). r.type_params ≤ 4)
typed_small (c ∷ cs) h =
    All-cons (λ (r : TypedRoot). r.type_params ≤ 4) (typed_root c) (map typed_root cs) (all_first Small c cs h)
    (typed_small cs (all_rest Small c cs h))

have_roots : (n : ℕ) (cs : List TypedCtor) → All (λ r. r < n) (owners_of cs) → All (λ (c : TypedCtor). c.root < n) cs
have_roots n [] h = All-nil (λ (c : TypedCtor). c.root < n)
have_roots n (c ∷ cs) h =
    All-cons (λ (k : TypedCtor). k.root < n) c cs (all_first (λ r. r < n) c.root (owners_of cs) h) (have_roots n cs
    (all_rest (λ r. r < n) c.root (owners_of cs) h))

module _ (units : List UnitTree) (d : Declared) (e : declare units ≡ Ok d) where
  pub few_type_params : FewTypeParams d.roots
  few_type_params = let h = declares_sound units d e in
      subst FewTypeParams (sym h.roots) (typed_small (roots_of (decls_in units)) (small_roots
      (decls_in units) h.well_formed))

  roots_count : length d.roots ≡ length (roots_of (decls_in units))
  roots_count = let h = declares_sound units d e in ap length h.roots
      ∙ length-map (roots_of (decls_in units)) typed_root

  pub ctors_have_roots : HaveRoots d.roots d.ctors
  ctors_have_roots =
      let h = declares_sound units d e in
      subst (λ n. All (λ (c : TypedCtor). c.root < n) d.ctors) (sym roots_count)
      (have_roots (length (roots_of (decls_in units))) d.ctors (owners_within (roots_of (decls_in units)) h.ctors))

  pub class_within : (classes : List ClassAt) (r : ℕ) → class_ins classes ≡ roots_of (decls_in units)
      → r < length d.roots → r < length classes
  class_within classes r is lt = omega (arith, roots_count, ap length is, length-map classes class_in)
