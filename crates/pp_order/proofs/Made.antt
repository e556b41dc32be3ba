-- The instances that members are.
use Rattle.std.proofs.Common.{◌≡◌, ◌<◌, ◌≤◌, ℕ, Bool, true, false, List, [], ◌∷◌, ◌++◌, ◌+◌, length, get_or, take}
use Rattle.std.proofs.Common.{Contains, Option, Some, None, option_map, refl, sym, ap, ◌∙◌, subst, arith, ⊎_elim}
use Rattle.std.specs.List.{IsDistinct, cons_option}
use Rattle.std.proofs.lemmas.List.{append-nil, take_more}
use Rattle.std.proofs.lemmas.List.Elements.{filter_map-append}
use Rattle.std.proofs.lemmas.List.Elements.{All-contains_itself, All-weaker, Contains-append_cases}
use Rattle.std.proofs.lemmas.List.Elements.{Contains-append_left, Contains-append_right, Contains-push}
use Rattle.std.proofs.lemmas.List.Elements.{Contains-push_cases, recursion_from_All}
use Rattle.std.proofs.lemmas.Map.Keys.{IsDistinct-cons}
use Rattle.std.proofs.lemmas.Option.{same_Some}
use Rattle.pp_instance_names.specs.Laws.{AreOneKind, both_functions, both_roots}
use Rattle.pp_instances.proofs.Kept.{nothing_in}
use Rattle.pp_instances.specs.Closure.{Distinct}
use Rattle.pp_instances.specs.Decides.{same_is}
use Rattle.pp_instances.specs.Names.{printed}
use Rattle.pp_instances.specs.Order.{MemberOf, member_of}
use Rattle.pp_instances.specs.Same.{same}
use Rattle.pp_instances.specs.declared.member.Decl.{Decl}
use Rattle.pp_instances.specs.declared.member.Decl.TheVariants.{Function, Root}
use Rattle.pp_instances.specs.declared.member.Instance.{Instance}
use Rattle.pp_instances.specs.declared.member.Member.{Member}
use Rattle.pp_order.specs.Instances.{as_function, as_root, instance_at, instance_of, instances_of}
use Rattle.pp_typed.specs.declared.typed.Typed.{Typed}

-- the declarations of one kind
pub record IsKind (kind : Decl → Option ℕ) (make : MemberOf) : Type 0 where
  pub tells : (d : Decl) (n : ℕ) → kind d ≡ Some n → d ≡ make n
  pub finds : (n : ℕ) → kind (make n) ≡ Some n
  pub one_kind : (n m : ℕ) → AreOneKind (make n) (make m)

tells_function : (d : Decl) (n : ℕ) → as_function d ≡ Some n → d ≡ Function n
tells_function (Function f) n is = ap Function (same_Some f n is)
tells_function (Root r) n is = cc

tells_root : (d : Decl) (n : ℕ) → as_root d ≡ Some n → d ≡ Root n
tells_root (Function f) n is = cc
tells_root (Root r) n is = ap Root (same_Some r n is)

pub functions_are : IsKind as_function Function
functions_are = record { tells = tells_function; finds = λ n. refl; one_kind = both_functions }

pub roots_are : IsKind as_root Root
roots_are = record { tells = tells_root; finds = λ n. refl; one_kind = both_roots }

not_true : (b : Bool) → (b ≡ true → ⊥) → b ≡ false
not_true true never = absurd (never refl)
not_true false never = refl

IsDistinct-nil : {X : Type 0} (e : X → X → Bool) → IsDistinct e []
unfolding IsDistinct
IsDistinct-nil e = tt

in_one : {X : Type 0} (x y : X) → Contains (x ∷ []) y → x ≡ y
in_one x y has = ⊎_elim (λ none. absurd (nothing_in y none)) (λ is. is) (Contains-push_cases [] x y has)

pub in_head : {X : Type 0} (x : X) (xs : List X) → Contains (x ∷ xs) x
in_head x xs = Contains-append_left (x ∷ []) xs x (Contains-push [] x)

pub in_tail : {X : Type 0} (x y : X) (xs : List X) → Contains xs y → Contains (x ∷ xs) y
in_tail x y xs has = Contains-append_right (x ∷ []) xs y has

-- an element is the first or a later one
pub in_more : {X P : Type 0} (x y : X) (xs : List X) → Contains (x ∷ xs) y → (x ≡ y → P) → (Contains xs y → P) → P
in_more x y xs has first later =
    ⊎_elim (λ one. first (in_one x y one)) later (Contains-append_cases (x ∷ []) xs y has)

module _ (typed : Typed) {kind : Decl → Option ℕ} {make : MemberOf} (is : IsKind kind make) where
  -- the member that an instance stands for
  abbrev pub stands : Instance → Member
  stands = member_of typed make

  pub member_again : (m : Member) (n : ℕ) → kind m.of ≡ Some n → stands (instance_at typed n m) ≡ m
  member_again m n there =
      let at : Decl → Member = λ d. record { of = d; args = m.args } in ap at (sym (is.tells m.of n there))

  -- the instance is that of a member, with its printed name
  pub record IsMade (ms : List Member) (i : Instance) : Type 0 where
    pub among : Contains ms (stands i)
    pub named : i.name ≡ printed typed (stands i)

  made_here : (m : Member) (ms : List Member) (n : ℕ) → kind m.of ≡ Some n → IsMade (m ∷ ms) (instance_at typed n m)
  made_here m ms n there = record {
    among = subst (λ z. Contains (m ∷ ms) z) (sym (member_again m n there)) (in_head m ms);
    named = ap (printed typed) (sym (member_again m n there));
  }

  made_later : (m : Member) (ms : List Member) (i : Instance) → IsMade ms i → IsMade (m ∷ ms) i
  made_later m ms i made = record { among = in_tail m (stands i) ms made.among; named = made.named }

  made_by : (m : Member) (ms : List Member) (i : Instance) (o : Option ℕ) → kind m.of ≡ o
      → Contains (cons_option (option_map (λ n. instance_at typed n m) o) (instances_of typed kind ms)) i
      → (Contains (instances_of typed kind ms) i → IsMade ms i) → IsMade (m ∷ ms) i
  made_by m ms i None there has more = made_later m ms i (more has)
  made_by m ms i (Some n) there has more =
      in_more (instance_at typed n m) i (instances_of typed kind ms) has
      (λ first. subst (IsMade (m ∷ ms)) first (made_here m ms n there)) (λ later. made_later m ms i (more later))

  -- each instance is that of a member
  pub made : (ms : List Member) (i : Instance) → Contains (instances_of typed kind ms) i → IsMade ms i
  made [] i has = absurd (nothing_in i has)
  made (m ∷ ms) i has = made_by m ms i (kind m.of) refl has (made ms i)

  kept : (m : Member) (rest : List Instance) (o : Option ℕ) (i : Instance) → Contains rest i
      → Contains (cons_option (option_map (λ n. instance_at typed n m) o) rest) i
  kept m rest None i has = has
  kept m rest (Some n) i has = in_tail (instance_at typed n m) i rest has

  present_first : (k m : Member) (ms : List Member) (n : ℕ) → k ≡ m → kind m.of ≡ Some n
      → Contains (instances_of typed kind (k ∷ ms)) (instance_at typed n m)
  present_first k m ms n same there =
      let rest = instances_of typed kind ms in
      subst (λ z. Contains (instances_of typed kind (z ∷ ms)) (instance_at typed n m)) (sym same)
      (subst (λ o. Contains (cons_option (option_map (λ j. instance_at typed j m) o) rest) (instance_at typed n m))
      (sym there) (in_head (instance_at typed n m) rest))

  -- each member of the kind has its instance
  pub present : (ms : List Member) (m : Member) (n : ℕ) → Contains ms m → kind m.of ≡ Some n
      → Contains (instances_of typed kind ms) (instance_at typed n m)
  present [] m n has there = absurd (nothing_in m has)
  present (k ∷ ms) m n has there =
      in_more k m ms has (λ first. present_first k m ms n first there)
      (λ later. kept k (instances_of typed kind ms) (kind k.of) (instance_at typed n m) (present ms m n later there))

  -- whether two instances are those of one member
  abbrev pub alike : Instance → Instance → Bool
  alike a b = same (stands a) (stands b)

  other : (m : Member) (ms : List Member) (n : ℕ) (i : Instance) → kind m.of ≡ Some n → (Contains ms m → ⊥)
      → Contains (instances_of typed kind ms) i → alike (instance_at typed n m) i ≡ false
  other m ms n i there none has =
      not_true (alike (instance_at typed n m) i)
      (λ t. none (subst (λ z. Contains ms z)
      (sym (same_is (stands (instance_at typed n m)) (stands i) t) ∙ member_again m n there) (made ms i has).among))

  differ_by : (m : Member) (ms : List Member) (o : Option ℕ) → kind m.of ≡ o → (Contains ms m → ⊥)
      → IsDistinct alike (instances_of typed kind ms)
      → IsDistinct alike (cons_option (option_map (λ n. instance_at typed n m) o) (instances_of typed kind ms))
  differ_by m ms None there none more = more
  differ_by m ms (Some n) there none more =
      let rest = instances_of typed kind ms in
      let first = instance_at typed n m in
      IsDistinct-cons alike first rest
      (recursion_from_All (λ i. alike first i ≡ false) rest
      (All-weaker (Contains rest) (λ i. alike first i ≡ false) (λ i has. other m ms n i there none has) rest
      (All-contains_itself rest)))
      more

  -- where members differ, their instances do
  pub instances_differ : (ms : List Member) → Distinct ms → IsDistinct alike (instances_of typed kind ms)
  instances_differ [] once = IsDistinct-nil alike
  instances_differ (m ∷ ms) once = differ_by m ms (kind m.of) refl once.0 (instances_differ ms once.1)

-- one more member is looked at

module _ (typed : Typed) (kind : Decl → Option ℕ) where
  one_more : (xs : List Member) (i : ℕ) (m : Member) → i < length xs → m ≡ get_or xs i m
      → instances_of typed kind (take (i + 1) xs)
      ≡ instances_of typed kind (take i xs) ++ cons_option (instance_of typed kind m) []
  one_more xs i m lt is =
      ap (instances_of typed kind) (take_more xs i m lt)
      ∙ filter_map-append (instance_of typed kind) (take i xs) (get_or xs i m ∷ [])
      ∙ ap (λ z. instances_of typed kind (take i xs) ++ cons_option (instance_of typed kind z) []) (sym is)

  -- it is of the kind
  pub added : (xs : List Member) (i : ℕ) (m : Member) (n : ℕ) {one : Instance} {old new : List Instance} → i < length xs
      → m ≡ get_or xs i m → kind m.of ≡ Some n → one ≡ instance_at typed n m → old ≡ instances_of typed kind (take i xs)
      → new ≡ old ++ one ∷ [] → new ≡ instances_of typed kind (take (i + 1) xs)
  added xs i m n {one} {old} lt is there made old_is new_is =
      let done = instances_of typed kind (take i xs) in
      new_is ∙ ap (λ z. old ++ z ∷ []) made ∙ ap (λ l. l ++ instance_at typed n m ∷ []) old_is
      ∙ ap (λ o. done ++ cons_option (option_map (λ j. instance_at typed j m) o) []) (sym there)
      ∙ sym (one_more xs i m lt is)

  -- it is of the other kind
  pub skipped : (xs : List Member) (i : ℕ) (m : Member) {old new : List Instance} → i < length xs → m ≡ get_or xs i m
      → kind m.of ≡ None → old ≡ instances_of typed kind (take i xs) → new ≡ old
      → new ≡ instances_of typed kind (take (i + 1) xs)
  skipped xs i m lt is there old_is new_is =
      let done = instances_of typed kind (take i xs) in
      new_is ∙ old_is ∙ sym (append-nil done)
      ∙ ap (λ o. done ++ cons_option (option_map (λ j. instance_at typed j m) o) []) (sym there)
      ∙ sym (one_more xs i m lt is)

  fewer : (m : Member) (rest : List Instance) (o : Option ℕ)
      → length (cons_option (option_map (λ n. instance_at typed n m) o) rest) ≤ length rest + 1
  fewer m rest None = omega arith
  fewer m rest (Some n) = omega arith

  -- there are at most as many instances as members
  pub no_more : (ms : List Member) → length (instances_of typed kind ms) ≤ length ms
  no_more [] = omega arith
  no_more (m ∷ ms) = omega (arith, fewer m (instances_of typed kind ms) (kind m.of), no_more ms)
