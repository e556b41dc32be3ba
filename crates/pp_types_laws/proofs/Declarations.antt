-- What units declare has sorts in range, and keeps the limits of the language.
use Rattle.std.proofs.Common.{◌≡◌, ◌∙◌, ℕ, zero, suc, ◌+◌, ◌<◌, ◌≤◌, Bool, true, false, cond, nat_eq, count_by, List}
use Rattle.std.proofs.Common.{[], ◌∷◌, ◌++◌, All, Some, None, length, map, option_map, slice_get, refl, sym, ap, subst}
use Rattle.std.proofs.Common.{arith, append_assoc, eq-eqb}
use Rattle.std.proofs.lemmas.Bool.{eqb-true}
use Rattle.std.proofs.lemmas.List.{append-nil, length-append}
use Rattle.std.proofs.lemmas.List.Elements.{All-nil, All-cons, All-append, filter-append}
use Rattle.std.proofs.lemmas.List.Sums.{sum_by-cons}
use Rattle.std.proofs.lemmas.Option.{same_Some, slice_get-map}
use Rattle.pp_declared.proofs.Steps.{all_first, all_rest}
use Rattle.pp_declared.specs.Declares.{AreCtors, no_ctors, more_ctors, AreSignatures, no_signatures, more_signatures}
use Rattle.pp_declared.specs.Declares.{IsCtor, IsOwner, itself, extended, IsSignature, class_names, param_types}
use Rattle.pp_declared.specs.Declares.{typed_root}
use Rattle.pp_declared.specs.Listed.{ClassIn, DeclIn, DefIn, ctor_of, ctors_of, def_of, defs_of, is_missing, root_of}
use Rattle.pp_declared.specs.Listed.{roots_of, unparented}
use Rattle.pp_declared.specs.WellFormed.{AreNew, IsHead, IsWellFormed, most_ctors}
use Rattle.pp_names.specs.Find.{owners_of}
use Rattle.pp_rules.specs.Bodies.{TypesDef, a_def}
use Rattle.pp_sorts.specs.IsSort.{count}
use Rattle.pp_tree.specs.Plain.{DeclTree, root, ctor, other, def, ParamTree}
use Rattle.pp_typed.specs.InRange.{IsInRange, AreInRange}
use Rattle.pp_typed.specs.Sorted as sorted
use Rattle.pp_typed.specs.declared.declared.Declared.{Declared}
use Rattle.pp_typed.specs.declared.declared.Signature.{Signature}
use Rattle.pp_typed.specs.declared.typed.TypedCtor.{TypedCtor}
use Rattle.pp_typed.specs.declared.typed.TypedDef.{TypedDef}
use Rattle.pp_typed.specs.declared.typed.TypedRoot.{TypedRoot}
use Rattle.pp_types_laws.proofs.Callees.{IsFunctionAs}
use Rattle.pp_types_laws.proofs.Defs.{params_sorts}
use Rattle.pp_types_laws.proofs.Names.{found_at, names_differ}
use Rattle.pp_types_laws.proofs.Patterns.{HasFields}
use Rattle.pp_types_laws.proofs.WrittenTypes.{all_written_count, all_written_in_range, written_in_range}
use Rattle.pp_types_laws.specs.Typing.{TypesDefs, no_defs, more_defs}

pub types_count : (ps : List ParamTree) → count (param_types ps) ≡ length ps
types_count [] = refl
types_count (p ∷ ps) = ap suc (types_count ps)

-- the limits of classes and functions
abbrev pub ClassHead : ClassIn → Type 0
ClassHead c = IsHead c.class.params c.class.fields

abbrev pub DefHead : DefIn → Type 0
DefHead d = IsHead d.def.type_params d.def.params

abbrev WellFormed : DeclIn → Type 0
WellFormed d = IsWellFormed d.decl

ctor_head : (n : ℕ) (d : DeclTree) → IsWellFormed d → All ClassHead (ctor_of n d)
ctor_head n (root c) h = All-nil ClassHead
ctor_head n (ctor c) h = All-cons ClassHead _ [] h (All-nil ClassHead)
ctor_head n (other c) h = All-nil ClassHead
ctor_head n (def d) h = All-nil ClassHead

root_head : (n : ℕ) (d : DeclTree) → IsWellFormed d → All ClassHead (root_of n d)
root_head n (root c) h = All-cons ClassHead _ [] h (All-nil ClassHead)
root_head n (ctor c) h = by (is_missing c.parent)
  where
    by : (b : Bool) → All ClassHead (unparented n c b)
    by true = All-cons ClassHead _ [] h (All-nil ClassHead)
    by false = All-nil ClassHead
root_head n (other c) h = All-nil ClassHead
root_head n (def d) h = All-nil ClassHead

def_head : (n : ℕ) (d : DeclTree) → IsWellFormed d → All DefHead (def_of n d)
def_head n (root c) h = All-nil DefHead
def_head n (ctor c) h = All-nil DefHead
def_head n (other c) h = All-nil DefHead
def_head n (def d) h = All-cons DefHead _ [] h (All-nil DefHead)

pub ctor_heads : (ds : List DeclIn) → All WellFormed ds → All ClassHead (ctors_of ds)
ctor_heads [] h = All-nil ClassHead
ctor_heads (d ∷ ds) h =
    All-append ClassHead (ctor_of d.source d.decl) (ctors_of ds) (ctor_head d.source d.decl
    (all_first WellFormed d ds h))
    (ctor_heads ds (all_rest WellFormed d ds h))

pub root_heads : (ds : List DeclIn) → All WellFormed ds → All ClassHead (roots_of ds)
root_heads [] h = All-nil ClassHead
root_heads (d ∷ ds) h =
    All-append ClassHead (root_of d.source d.decl) (roots_of ds) (root_head d.source d.decl
    (all_first WellFormed d ds h))
    (root_heads ds (all_rest WellFormed d ds h))

pub def_heads : (ds : List DeclIn) → All WellFormed ds → All DefHead (defs_of ds)
def_heads [] h = All-nil DefHead
def_heads (d ∷ ds) h =
    All-append DefHead (def_of d.source d.decl) (defs_of ds) (def_head d.source d.decl (all_first WellFormed d ds h))
    (def_heads ds (all_rest WellFormed d ds h))

-- where an element stands in a list
pub record Stands {X : Type 0} (xs : List X) (x : X) : Type 0 where
  pub place : ℕ
  pub there : slice_get xs place ≡ Some x

later : {X : Type 0} (ys xs : List X) (x : X) → Stands xs x → Stands (ys ++ xs) x
later [] xs x s = s
later (y ∷ ys) xs x s = let q = later ys xs x s in record { place = suc q.place; there = q.there }

-- a constructor without a parent is a root
abbrev IsOwnRoot : List ClassIn → ClassIn → Type 0
IsOwnRoot roots c = c.class.parent ≡ None → Stands roots c

own_first : (n : ℕ) (d : DeclTree) (rest : List ClassIn) → All (IsOwnRoot (root_of n d ++ rest)) (ctor_of n d)
own_first n (root c) rest = All-nil (IsOwnRoot (root_of n (root c) ++ rest))
own_first n (ctor c) rest =
    All-cons (IsOwnRoot (root_of n (ctor c) ++ rest)) _ []
    (λ e. subst (λ o. Stands (unparented n c (is_missing o) ++ rest)
    (record { source = n; sealed = false; class = c })) (sym e)
    (record { place = 0; there = refl }))
    (All-nil (IsOwnRoot (root_of n (ctor c) ++ rest)))
own_first n (other c) rest = All-nil (IsOwnRoot (root_of n (other c) ++ rest))
own_first n (def d) rest = All-nil (IsOwnRoot (root_of n (def d) ++ rest))

all_later : (ys xs : List ClassIn) (cs : List ClassIn) → All (IsOwnRoot xs) cs → All (IsOwnRoot (ys ++ xs)) cs
all_later ys xs [] h = All-nil (IsOwnRoot (ys ++ xs))
all_later ys xs (c ∷ cs) h =
    All-cons (IsOwnRoot (ys ++ xs)) c cs (λ e. later ys xs c (all_first (IsOwnRoot xs) c cs h e))
    (all_later ys xs cs (all_rest (IsOwnRoot xs) c cs h))

pub own_roots : (ds : List DeclIn) → All (IsOwnRoot (roots_of ds)) (ctors_of ds)
own_roots [] = All-nil (IsOwnRoot [])
own_roots (d ∷ ds) =
    All-append (IsOwnRoot (roots_of (d ∷ ds))) (ctor_of d.source d.decl) (ctors_of ds)
    (own_first d.source d.decl (roots_of ds)) (all_later (root_of d.source d.decl) (roots_of ds) (ctors_of ds)
    (own_roots ds))

-- the root of a constructor has as many type parameters as it
record HasOwner (roots : List ClassIn) (c : ClassIn) (r : ℕ) : Type 0 where
  root : ClassIn
  there : slice_get roots r ≡ Some root
  same_count : length root.class.params ≡ length c.class.params

module _ (roots : List ClassIn) (new : AreNew (class_names roots)) where
  name_at : (r : ℕ) (c : ClassIn) → slice_get roots r ≡ Some c → slice_get (class_names roots) r ≡ Some c.class.name
  name_at r c e = slice_get-map (λ (k : ClassIn). k.class.name) roots r
      ∙ ap (option_map (λ (k : ClassIn). k.class.name)) e

  owner_has : (c : ClassIn) (r : ℕ) → IsOwnRoot roots c → IsOwner roots c r → HasOwner roots c r
  owner_has c q own (itself r parent place) =
      let s = own parent in
      let same = names_differ [] (class_names roots) new r s.place c.class.name (found_at c.class.name
      (class_names roots) r place)
      (name_at s.place c s.there) in
      record { root = c; there = ap (slice_get roots) same ∙ s.there; same_count = refl }
  owner_has c q own (extended r at w ts owner parent hidden place there sealed source same params) =
      record { root = owner; there = there; same_count = sym same }

  -- what is known of a constructor
  pub record CtorFacts (t : TypedCtor) : Type 0 where
    pub fields : HasFields (map typed_root roots) t
    pub few : length t.fields ≤ 16

  ctor_facts : (c : ClassIn) (t : TypedCtor) → ClassHead c → IsOwnRoot roots c → IsCtor roots c t → CtorFacts t
  ctor_facts c t head own h =
      let o = owner_has c t.root own h.owner in
      let counted = all_written_count (map typed_root roots) c.class.params h.fields ∙ types_count c.class.fields in
      record {
        fields = record {
          owner = typed_root o.root;
          there = slice_get-map typed_root roots t.root ∙ ap (option_map typed_root) o.there;
          fields = subst (λ n. AreInRange (map typed_root roots) n t.fields) (sym o.same_count)
              (all_written_in_range (map typed_root roots) c.class.params h.fields);
        };
        few = omega (arith, counted, head.few_params);
      }

  pub all_ctor_facts : {before : List TypedCtor} {cs : List ClassIn} {ts : List TypedCtor} → AreCtors roots before cs ts
      → All ClassHead cs → All (IsOwnRoot roots) cs → All CtorFacts ts
  all_ctor_facts (no_ctors before) heads own = All-nil CtorFacts
  all_ctor_facts (more_ctors before {c} {cs} {t} {ts} one room rest) heads own =
      All-cons CtorFacts t ts
      (ctor_facts c t (all_first ClassHead c cs heads) (all_first (IsOwnRoot roots) c cs own) one)
      (all_ctor_facts rest (all_rest ClassHead c cs heads) (all_rest (IsOwnRoot roots) c cs own))

-- a root has at most 64 constructors
same_eq : (a b : ℕ) (s t : Bool) → nat_eq a b ≡ s → nat_eq b a ≡ t → s ≡ t
same_eq a b true true e f = refl
same_eq a b false false e f = refl
same_eq a b true false e f = let g : true ≡ false = sym (eq-eqb b a (sym (eqb-true a b e))) ∙ f in cc
same_eq a b false true e f = let g : false ≡ true = sym e ∙ eq-eqb a b (sym (eqb-true b a f)) in cc

counted_step : (b : Bool) (c : TypedCtor) (cs : List TypedCtor) (n : ℕ) → n ≡ length cs
    → cond b 1 0 + n ≡ length (cond b (c ∷ cs) cs)
counted_step true c cs n e = omega (arith, e)
counted_step false c cs n e = omega (arith, e)

counted : (r : ℕ) (cs : List TypedCtor) → count_by (nat_eq r) (owners_of cs) ≡ length (sorted.ctors_of cs r)
counted r [] = refl
counted r (c ∷ cs) =
    sum_by-cons (λ n. cond (nat_eq r n) 1 0) c.root (owners_of cs)
    ∙ ap (λ b. cond b 1 0 + count_by (nat_eq r) (owners_of cs)) (same_eq r c.root (nat_eq r c.root)
    (nat_eq c.root r) refl refl)
    ∙ counted_step (nat_eq c.root r) c (sorted.ctors_of cs r) (count_by (nat_eq r) (owners_of cs)) (counted r cs)

one_more_few : (before : List TypedCtor) (t : TypedCtor) (r : ℕ) (b : Bool) → nat_eq t.root r ≡ b
    → count_by (nat_eq t.root) (owners_of before) < most_ctors → length (sorted.ctors_of before r) ≤ most_ctors
    → length (sorted.ctors_of (before ++ t ∷ []) r) ≤ most_ctors
one_more_few before t r true e room h =
    let same = eqb-true t.root r e in
    let size = ap length (filter-append (λ (c : TypedCtor). nat_eq c.root r) before (t ∷ [])
    ∙ ap (λ x. sorted.ctors_of before r ++ cond x (t ∷ []) []) e) ∙ length-append (sorted.ctors_of before r) (t ∷ []) in
    let n = counted r before in
    let room2 : count_by (nat_eq r) (owners_of before) < most_ctors =
    subst (λ q. count_by (nat_eq q) (owners_of before) < most_ctors) same room in
    omega (arith, size, n, room2)
one_more_few before t r false e room h =
    let size = ap length (filter-append (λ (c : TypedCtor). nat_eq c.root r) before (t ∷ [])
    ∙ ap (λ x. sorted.ctors_of before r ++ cond x (t ∷ []) []) e ∙ append-nil (sorted.ctors_of before r)) in
    omega (arith, size, h)

pub few_ctors : (roots : List ClassIn) {before : List TypedCtor} {cs : List ClassIn} {ts : List TypedCtor}
    → AreCtors roots before cs ts → (r : ℕ) → length (sorted.ctors_of before r) ≤ most_ctors
    → length (sorted.ctors_of (before ++ ts) r) ≤ most_ctors
few_ctors roots (no_ctors before) r h = subst (λ l. length (sorted.ctors_of l r) ≤ most_ctors) (sym
    (append-nil before)) h
few_ctors roots (more_ctors before {c} {cs} {t} {ts} one room rest) r h =
    subst (λ l. length (sorted.ctors_of l r) ≤ most_ctors) (append_assoc before (t ∷ []) ts)
    (few_ctors roots rest r (one_more_few before t r (nat_eq t.root r) refl room h))

-- a function that has a typing is as its signature says
record IsDefAt (roots : List TypedRoot) (ts : List TypedDef) (i : ℕ) (s : Signature) : Type 0 where
  def_is : TypedDef
  there : slice_get ts i ≡ Some def_is
  type_params : def_is.type_params ≡ s.type_params
  params : sorted.param_sorts def_is.params ≡ s.params
  result : def_is.result ≡ s.result

-- what is known of a signature
pub record SignatureFacts (roots : List TypedRoot) (d : DefIn) (s : Signature) : Type 0 where
  pub name : s.name ≡ d.def.name
  pub type_params : s.type_params ≡ length d.def.type_params
  pub count : length d.def.params ≡ length s.params
  pub params : AreInRange roots s.type_params s.params
  pub result : IsInRange roots s.type_params s.result

pub signature_facts : (roots : List TypedRoot) (d : DefIn) (s : Signature) → IsSignature roots d s
    → SignatureFacts roots d s
signature_facts roots d s h =
    let range = all_written_in_range roots d.def.type_params h.params in
    record {
      name = h.name;
      type_params = h.type_params;
      count = sym (all_written_count roots d.def.type_params h.params ∙ types_count d.def.params);
      params = subst (λ n. AreInRange roots n s.params) (sym h.type_params) range;
      result = subst (λ n. IsInRange roots n s.result) (sym h.type_params)
          (written_in_range roots d.def.type_params h.result);
    }

module _ (declared : Declared) where
  def_parts : (source : ℕ) (d : DefIn) (s : Signature) (t : TypedDef) → TypesDef declared source d.def s t
      → length d.def.params ≡ length s.params → IsDefAt declared.roots (t ∷ []) 0 s
  def_parts source d s t (a_def conditions measure body post) count = record {
    def_is = t;
    there = refl;
    type_params = refl;
    params = params_sorts d.def.params s.params count;
    result = refl;
  }

  defs_at : {ds : List DefIn} {ss : List Signature} {ts : List TypedDef} → AreSignatures declared.roots ds ss
      → TypesDefs declared ds ss ts → (i : ℕ) (s : Signature) → slice_get ss i ≡ Some s → IsDefAt declared.roots ts i s
  defs_at no_signatures no_defs i s e = cc
  defs_at (more_signatures one rest) (more_defs {d} {ds} {s} {ss} {t} {ts} first more) zero r e =
      let same = same_Some s r e in
      let q = def_parts d.source d s t first (signature_facts declared.roots d s one).count in
      subst (IsDefAt declared.roots (t ∷ ts) 0) same
      (record { def_is = q.def_is; there = q.there; type_params = q.type_params; params = q.params; result = q.result })
  defs_at (more_signatures one rest) (more_defs {d} {ds} {s} {ss} {t} {ts} first more) (suc i) r e =
      let q = defs_at rest more i r e in
      record { def_is = q.def_is; there = q.there; type_params = q.type_params; params = q.params; result = q.result }

  facts_at : {ds : List DefIn} {ss : List Signature} → AreSignatures declared.roots ds ss → (i : ℕ) (s : Signature)
      → slice_get ss i ≡ Some s → AreInRange declared.roots s.type_params s.params × IsInRange declared.roots
      s.type_params s.result
  facts_at no_signatures i s e = cc
  facts_at (more_signatures {d} {ds} {s} one rest) zero r e =
      let f = signature_facts declared.roots d s one in
      subst (λ x. AreInRange declared.roots x.type_params x.params × IsInRange declared.roots x.type_params x.result)
      (same_Some s r e) (f.params, f.result)
  facts_at (more_signatures one rest) (suc i) r e = facts_at rest i r e

  -- each function is as its callers see it
  pub functions_as : {ds : List DefIn} {ts : List TypedDef} → AreSignatures declared.roots ds declared.functions
      → TypesDefs declared ds declared.functions ts → (i : ℕ) (s : Signature) → slice_get declared.functions i ≡ Some s
      → IsFunctionAs declared ts i s
  functions_as signatures types i s e =
      let q = defs_at signatures types i s e in
      let f = facts_at signatures i s e in
      record {
        def = q.def_is;
        there = q.there;
        type_params = q.type_params;
        params = q.params;
        result = q.result;
        params_in_range = f.0;
        result_in_range = f.1;
      }
