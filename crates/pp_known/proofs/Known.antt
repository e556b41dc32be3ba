-- What is known of the program: each instance that is used is found.
use Rattle.std.proofs.Common.{◌≡◌, ℕ, zero, suc, ◌+◌, nat_eq, Bool, List, [], ◌∷◌, map, take, length, refl, sym, ap}
use Rattle.std.proofs.Common.{◌∙◌, subst, arith, eq-eqb}
use Rattle.std.specs.Prelude.{Some, None, All, Contains, if◌then◌else◌, slice_get}
use Rattle.std.specs.List.{sum_by}
use Rattle.std.proofs.lemmas.List.{take-map}
use Rattle.std.proofs.lemmas.List.Elements.{All-contains, All-contains_itself, All-filter}
use Rattle.std.proofs.lemmas.Option.{same_Some, slice_get-get_or}
use Rattle.pp_instances.specs.Same.{place_of}
use Rattle.pp_instances.specs.Uses.{ctor_mentions, function_at, root_at, types_in, types_of}
use Rattle.pp_instances.specs.declared.member.Decl.TheVariants.{Root}
use Rattle.pp_instances.specs.declared.member.Instance.{Instance}
use Rattle.pp_instances.specs.declared.member.Member.{Member}
use Rattle.pp_known.proofs.Listed.{args_have_types, declared, function_place, root_listed, root_of_member, root_place}
use Rattle.pp_known.proofs.Listed.{root_within}
use Rattle.pp_known.specs.SettingOf.{AreTranslated, IsSettingOf}
use Rattle.pp_list.proofs.Lists.{element}
use Rattle.pp_members.proofs.Lists.{first_in, joined_in}
use Rattle.pp_members.proofs.Sorts.{all_at}
use Rattle.pp_prog.specs.declared.expr.Function.{Function as ProgramFunction}
use Rattle.pp_translation.specs.Numbers.{count_of, ctor_at, ctor_if, ctor_number, decl_number, first_of}
use Rattle.pp_translation.specs.Numbers.{function_number, rank_of, sort_at, stands_for}
use Rattle.pp_translation.specs.Setting.{Setting}
use Rattle.pp_translation.specs.declared.frame.CheckAt.{CheckAt}
use Rattle.pp_typed.specs.InRange.{AreInRange}
use Rattle.pp_typed.specs.Put.{put}
use Rattle.pp_typed.specs.Sorted.{ctors_of, param_sorts}
use Rattle.pp_typed.specs.WellSorted.{IsCtor, IsDef}
use Rattle.pp_typed.specs.declared.sort.GenericSort.{GenericSort}
use Rattle.pp_typed.specs.declared.typed.Typed.{Typed}
use Rattle.pp_typed.specs.declared.typed.TypedCtor.{TypedCtor}
use Rattle.pp_typed.specs.declared.typed.TypedDef.{TypedDef}
use Rattle.pp_typed.specs.declared.typed.TypedRoot.{TypedRoot}
use Rattle.pp_validity.proofs.Known.{HasTypes, IsFunctionAt, IsKnown, IsOnlyAt}
use Rattle.pp_validity.proofs.Placed.{at_rank, ctor_found, data_found, datatype}
use Rattle.pp_validity.proofs.Signatures.{IsSignature, signatures}
use Rattle.pp_validity.proofs.Types.{types_put}

-- the place of an element
record IsAt {A : Type 0} (xs : List A) (x : A) : Type 0 where
  n : ℕ
  at : slice_get xs n ≡ Some x

place_in : {A : Type 0} (xs : List A) (x : A) → Contains xs x → IsAt xs x
place_in xs x h = record { n = h.0; at = slice_get-get_or xs h.0 x h.1 ∙ ap Some h.2 }

-- a list of one element has that at its first place
only_first : {A : Type 0} (x : A) (n : ℕ) → slice_get (x ∷ []) n ≡ Some x → n ≡ 0
only_first x zero h = refl
only_first x (suc n) h = let no : None ≡ Some x = h in cc

module _ (typed : Typed) (ms : List Member) (fs rs : List Instance) (set : Setting)
    (s : IsSettingOf typed ms fs rs set) where
  ctors_found : (c : ℕ) (k : TypedCtor) (args : List GenericSort) → slice_get typed.ctors c ≡ Some k
      → Contains ms (root_at k.root args)
      → slice_get set.types.ctors (ctor_number typed.ctors set.roots c args).0
      ≡ Some (ctor_at typed set.roots (place_of set.roots (root_at k.root args)) args k)
  ctors_found c k args at has =
      ap (λ l. slice_get l (ctor_number typed.ctors set.roots c args).0) s.ctors
      ∙ ctor_found typed set.roots c k args at (root_listed typed ms fs rs set s k.root args has)

  -- the place of the only constructor of a root
  only_place : (k : TypedCtor) → ctors_of typed.ctors k.root ≡ k ∷ [] → IsAt typed.ctors k
  only_place k only =
      let of_root : TypedCtor → Bool = λ z. nat_eq z.root k.root in
      let all_in = All-filter of_root (Contains typed.ctors) typed.ctors (All-contains_itself typed.ctors) in
      let one : All (Contains typed.ctors) (k ∷ []) = subst (All (Contains typed.ctors)) only all_in in
      place_in typed.ctors k (All-contains (Contains typed.ctors) (k ∷ []) k one (first_in k []))

  only_rank : (k : TypedCtor) (c : ℕ) → ctors_of typed.ctors k.root ≡ k ∷ [] → slice_get typed.ctors c ≡ Some k
      → rank_of typed.ctors c k ≡ 0
  only_rank k c only at =
      let of_root : TypedCtor → Bool = λ z. nat_eq z.root k.root in
      let here = at_rank of_root typed.ctors c k at (eq-eqb k.root k.root refl) in
      only_first k (rank_of typed.ctors c k) (ap (λ l. slice_get l (rank_of typed.ctors c k)) (sym only) ∙ here)

  -- how many constructors stand before those of a datatype
  abbrev before : ℕ → ℕ
  before d = sum_by (count_of typed.ctors) (map (stands_for Root) (take d rs))

  before_is : (d : ℕ) → before d ≡ first_of typed.ctors set.roots d
  before_is d = ap (sum_by (count_of typed.ctors)) (sym (take-map (stands_for Root) d rs) ∙ ap (take d) (sym s.roots))

  -- the only constructor of a root is the first of the root's datatype
  only_at : (k : TypedCtor) (args : List GenericSort) → ctors_of typed.ctors k.root ≡ k ∷ []
      → Contains ms (root_at k.root args) → IsOnlyAt typed set k.root k args
  only_at k args only has =
      let c = only_place k only in
      let p = root_place typed ms fs rs set s k.root args has in
      let d = place_of set.roots (root_at k.root args) in
      let t = datatype typed.ctors (0 + before d) p.i in
      let number = ap (λ o. (ctor_if typed.ctors set.roots c.n args o).0) c.at in
      let first : t.first.0 ≡ (ctor_number typed.ctors set.roots c.n args).0 =
      omega (arith, before_is d, only_rank k c.n only c.at, number) in
      record {
        c = c.n;
        declared = c.at;
        t = t;
        found = ap (λ l. slice_get l d) s.datatypes ∙ data_found typed.ctors 0 d rs p.i p.at;
        one = ap (count_of typed.ctors) p.is ∙ ap length only;
        first = ap (slice_get set.types.ctors) first ∙ ctors_found c.n k args c.at has;
      }

  -- the types of the fields of a root's constructor are members
  field_types : (c : ℕ) (k : TypedCtor) (args : List GenericSort) → slice_get typed.ctors c ≡ Some k
      → Contains ms (root_at k.root args) → (t : GenericSort) → Contains k.fields t → HasTypes ms (put args t)
  field_types c k args at has t field =
      let mentions : ctor_mentions k.root k ≡ types_of k.fields =
      ap (λ b. if b then types_of k.fields else []) (eq-eqb k.root k.root refl) in
      types_put ms args (args_have_types typed ms fs rs set s (root_at k.root args) has) t
      (λ m c_in. root_within typed ms fs rs set s k.root args has m
      (joined_in (ctor_mentions k.root) typed.ctors k m (element typed.ctors c k at)
      (subst (λ (l : List Member). Contains l m) (sym mentions) (joined_in types_in k.fields t m field c_in))))

  -- the root of a constructor, over whose type parameters the fields are
  owner_of : (c : ℕ) (k : TypedCtor) → slice_get typed.ctors c ≡ Some k
      → (root : TypedRoot) × (slice_get typed.roots k.root ≡ Some root)
      × AreInRange typed.roots root.type_params k.fields
  owner_of c k at = let o = all_at (IsCtor typed) typed.ctors c k s.well.ctors at in (o.owner, o.declared, o.fields)

  -- a member of a root has all its arguments
  all_args : (r : ℕ) (root : TypedRoot) (args : List GenericSort) → slice_get typed.roots r ≡ Some root
      → Contains ms (root_at r args) → length args ≡ root.type_params
  all_args r root args at has =
      let o = root_of_member typed ms fs rs set s r args has in
      o.all ∙ ap (λ (z : TypedRoot). z.type_params) (same_Some _ _ (sym o.declared ∙ at))

  module _ (texts : List (List ℕ)) (all : List ProgramFunction) (cs : List CheckAt)
      (t : AreTranslated typed texts fs set all cs) where
    -- the function at a place
    pub signature_at : (n : ℕ) (i : Instance) (d : TypedDef) → slice_get fs n ≡ Some i
        → slice_get typed.defs i.number ≡ Some d → IsSignature typed set texts all n i d
    signature_at n i d at at_def =
        signatures typed set texts t.translates (declared typed ms fs rs set s) n i d at at_def

    -- the instance at a place is of the function at these arguments, and the function there has its signature
    pub record HasSignature (n : ℕ) (d : TypedDef) (args : List GenericSort) : Type 0 where
      pub i : Instance
      pub is : IsSignature typed set texts all n i d
      pub are : i.args ≡ args

    -- the function of a member
    pub signature_of_member : (f : ℕ) (d : TypedDef) (args : List GenericSort) → slice_get typed.defs f ≡ Some d
        → Contains ms (function_at f args) → HasSignature (function_number set.functions f args).0 d args
    signature_of_member f d args at has =
        let p = function_place typed ms fs rs set s f args has in
        let number : p.i.number ≡ f = ap (λ (z : Member). decl_number z.of) p.is in
        let at_def = ap (slice_get typed.defs) number ∙ at in
        record {
          i = p.i;
          is = signature_at (place_of set.functions (function_at f args)) p.i d p.at at_def;
          are = ap (λ (z : Member). z.args) p.is;
        }

    function_found : (f : ℕ) (d : TypedDef) (args : List GenericSort) → slice_get typed.defs f ≡ Some d
        → Contains ms (function_at f args) → IsFunctionAt set all f d args
    function_found f d args at has =
        let m = signature_of_member f d args at has in
        record {
          g = m.is.g;
          found = m.is.found;
          params = m.is.params ∙ ap (λ (l : List GenericSort). map (sort_at set.roots l) (param_sorts d.params)) m.are;
          result = m.is.result ∙ ap (λ (l : List GenericSort). sort_at set.roots l d.result) m.are;
        }

    -- the numbers of the program are those of its members
    pub known : IsKnown typed set ms all
    known = record {
      ctors = ctors_found;
      only = only_at;
      functions = function_found;
      fields = field_types;
      owner = owner_of;
      signature = λ f d at. let h = all_at (IsDef typed) typed.defs f d s.well.defs at in (h.params, h.result);
      whole = all_args;
    }
