-- The list of values that a naming has to name: the defaults of the steps' sorts, which come first, the values of the
-- steps, and the fields of those that are looked at.
use Rattle.std.proofs.Common.{◌≡◌, ◌≤◌, ◌<◌, ℕ, zero, suc, ◌+◌, ◌*◌, Bool, true, false, List, [], ◌∷◌, ◌++◌, map}
use Rattle.std.proofs.Common.{length, slice_get, Some, All, refl, sym, ap, ◌∙◌, subst, arith, append_assoc}
use Rattle.std.proofs.Common.{length-append}
use Rattle.std.specs.Prelude.{if◌then◌else◌}
use Rattle.std.specs.List.{sum_by}
use Rattle.std.proofs.lemmas.List.{length-map, map-append}
use Rattle.std.proofs.lemmas.List.Elements.{All-cons, All-head, All-nil, All-tail}
use Rattle.std.proofs.lemmas.List.Sums.{sum_by-cons}
use Rattle.std.proofs.lemmas.Option.{same_Some}
use Rattle.pp_list.specs.Joined.{joined}
use Rattle.pp_prog.specs.declared.id.DataId.{DataId}
use Rattle.pp_prog.specs.declared.sort.Sort.TheVariants as sort
use Rattle.pp_prog.specs.declared.types.TypeTable.{TypeTable}
use Rattle.pp_prog.specs.declared.value.Value.{Value}
use Rattle.pp_prog.specs.Sorts.{has_sort}
use Rattle.pp_prog.specs.Table.{HaveValues, is_sort}
use Rattle.pp_domain.specs.Naming.{first_of}
use Rattle.pp_steps.proofs.Counting.{zero_plus}
use Rattle.pp_steps.specs.declared.step.Step.{Step}
use Rattle.pp_steps.specs.declared.step.Step.TheVariants as steps
use Rattle.pp_steps.specs.Frames.{numbers}
use Rattle.pp_steps.specs.Meaning.{Values}
use Rattle.pp_steps.specs.Reads.{AllRead, Below, Reads}
use Rattle.pp_steps.specs.Sorted.{Sorts}
use Rattle.pp_guess_values.specs.NamedGuess.{all_looked_at, looked_at}
use Rattle.pp_guess_values.proofs.Defaults.{default_has_sort, default_of, default_of_data}
use Rattle.pp_guess_values.proofs.OwnFields.{own_fields}

-- ---- lists

all_left : {A : Type 0} (P : A → Type 0) (xs ys : List A) → All P (xs ++ ys) → All P xs
all_left P [] ys h = All-nil P
all_left P (x ∷ xs) ys h = All-cons P x xs (All-head P x (xs ++ ys) h) (all_left P xs ys (All-tail P x (xs ++ ys) h))

all_right : {A : Type 0} (P : A → Type 0) (xs ys : List A) → All P (xs ++ ys) → All P ys
all_right P [] ys h = h
all_right P (x ∷ xs) ys h = all_right P xs ys (All-tail P x (xs ++ ys) h)

length_numbers : {A : Type 0} (j : ℕ) (xs : List A) → length (numbers j xs) ≡ length xs
length_numbers j [] = refl
length_numbers j (x ∷ xs) = ap suc (length_numbers (suc j) xs)

plus_zero : (j : ℕ) → j ≡ j + 0
plus_zero j = omega arith

plus_suc : (j k : ℕ) → suc j + k ≡ j + suc k
plus_suc j k = omega arith

-- what holds of all that have these numbers holds of each
at_number : {A B : Type 0} (P : B → Type 0) (f : ℕ → B) (j : ℕ) (xs : List A) → All P (map f (numbers j xs))
    → (k : ℕ) → k < length xs → P (f (j + k))
at_number P f j [] h k lt = absurd (omega (arith, lt))
at_number P f j (x ∷ xs) h zero lt =
    subst (λ i. P (f i)) (plus_zero j) (All-head P (f j) (map f (numbers (suc j) xs)) h)
at_number P f j (x ∷ xs) h (suc k) lt =
    subst (λ i. P (f i)) (plus_suc j k)
    (at_number P f (suc j) xs (All-tail P (f j) (map f (numbers (suc j) xs)) h) k (omega (arith, lt)))

-- ---- the fields of values

-- the fields of all of them
abbrev pub all_fields : List Value → List Value
all_fields vs = joined (map own_fields vs)

fields_joined : (vs ws : List Value) → all_fields (vs ++ ws) ≡ all_fields vs ++ all_fields ws
fields_joined [] ws = refl
fields_joined (v ∷ vs) ws =
    ap (λ l. own_fields v ++ l) (fields_joined vs ws)
    ∙ sym (append_assoc (own_fields v) (all_fields vs) (all_fields ws))

sum_le : (a b m n : ℕ) → a ≤ m → b ≤ n → a + b ≤ m + n
sum_le a b m n first rest = omega (arith, first, rest)

-- where each value has few fields, all together have few
few_in_all : (most : ℕ → ℕ) (ρ : ℕ → Value) (many : ℕ)
    → ((k : ℕ) → k < many → length (own_fields (ρ k)) ≤ most k) → (ks : List ℕ) → Below many ks
    → length (all_fields (map ρ ks)) ≤ sum_by most ks
few_in_all most ρ many few [] below = omega arith
few_in_all most ρ many few (k ∷ ks) below =
    subst (λ n. n ≤ sum_by most (k ∷ ks)) (sym (length-append (own_fields (ρ k)) (all_fields (map ρ ks))))
    (subst (λ n. length (own_fields (ρ k)) + length (all_fields (map ρ ks)) ≤ n) (sym (sum_by-cons most k ks))
    (sum_le (length (own_fields (ρ k))) (length (all_fields (map ρ ks))) (most k) (sum_by most ks) (few k below.0)
    (few_in_all most ρ many few ks below.1)))

-- ---- what is looked at

plus_suc_length : {A : Type 0} (k : ℕ) (x : A) (xs : List A) → suc k + length xs ≡ k + length (x ∷ xs)
plus_suc_length k x xs = omega arith

below_joined : (n : ℕ) (ks ls : List ℕ) → Below n ks → Below n ls → Below n (ks ++ ls)
below_joined n [] ls first rest = rest
below_joined n (k ∷ ks) ls first rest = (first.0, below_joined n ks ls first.1 rest)

-- what a step looks at stands before it
look_below : (k n : ℕ) (s : Step) → k ≤ n → Reads k s → Below n (looked_at s)
look_below k n (steps.Open s) le reads = tt
look_below k n (steps.Int z) le reads = tt
look_below k n (steps.Bool b) le reads = tt
look_below k n (steps.Not a) le reads = tt
look_below k n (steps.Both a b) le reads = tt
look_below k n (steps.Choose c a b) le reads = tt
look_below k n (steps.Unary op a) le reads = tt
look_below k n (steps.Binary op a b) le reads = tt
look_below k n (steps.Construct c fields) le reads = tt
look_below k n (steps.IsCtor c i a) le reads = (omega (arith, le, reads), tt)
look_below k n (steps.CtorField c i a) le reads = tt
look_below k n (steps.Field a i) le reads = (omega (arith, le, reads), tt)
look_below k n (steps.IsAlike a b) le reads = tt
look_below k n (steps.GoesDown a b) le reads = tt
look_below k n (steps.HasAnswer c) le reads = tt
look_below k n (steps.Answer c) le reads = tt

looks_below : (k : ℕ) (ss : List Step) → AllRead k ss → Below (k + length ss) (all_looked_at ss)
looks_below k [] reads = tt
looks_below k (s ∷ ss) reads =
    below_joined (k + length (s ∷ ss)) (looked_at s) (all_looked_at ss)
    (look_below k (k + length (s ∷ ss)) s (omega arith) reads.0)
    (subst (λ n. Below n (all_looked_at ss)) (plus_suc_length k s ss) (looks_below (suc k) ss reads.1))

-- what holds of the fields of all that is looked at holds of those of what one step looks at
fields_looked_at : (P : Value → Type 0) (ρ : ℕ → Value) (ss : List Step)
    → All P (all_fields (map ρ (all_looked_at ss))) → (k : ℕ) (s : Step) → slice_get ss k ≡ Some s
    → All P (all_fields (map ρ (looked_at s)))
fields_looked_at P ρ [] all k s at = absurd (cc)
fields_looked_at P ρ (t ∷ ss) all k s at =
    by k at (fields_looked_at P ρ ss
    (all_right P (all_fields (map ρ (looked_at t))) (all_fields (map ρ (all_looked_at ss))) (subst (All P) parts all)))
  where
    parts : all_fields (map ρ (all_looked_at (t ∷ ss)))
        ≡ all_fields (map ρ (looked_at t)) ++ all_fields (map ρ (all_looked_at ss))
    parts =
        ap all_fields (map-append ρ (looked_at t) (all_looked_at ss))
        ∙ fields_joined (map ρ (looked_at t)) (map ρ (all_looked_at ss))

    by : (k : ℕ) → slice_get (t ∷ ss) k ≡ Some s
        → ((j : ℕ) (z : Step) → slice_get ss j ≡ Some z → All P (all_fields (map ρ (looked_at z))))
        → All P (all_fields (map ρ (looked_at s)))
    by zero here rest =
        subst (λ z. All P (all_fields (map ρ (looked_at z)))) (same_Some t s here)
        (all_left P (all_fields (map ρ (looked_at t))) (all_fields (map ρ (all_looked_at ss)))
        (subst (All P) parts all))
    by (suc j) later rest = rest j s later

-- ---- the list

module _ (types : TypeTable) (values : HaveValues types.datatypes types.ctors) (σ : Sorts) where
  abbrev default_here : ℕ → Value
  default_here k = default_of types values (σ k)

  -- the defaults of the sorts of the steps from number j on
  abbrev defaults : ℕ → List Step → List Value
  defaults j ss = map default_here (numbers j ss)

  -- the first value of a datatype is its default, where some step has its sort
  pub first_is_default : (j : ℕ) (ss : List Step) (more : List Value) (k : ℕ) (d : DataId) → k < length ss
      → σ (j + k) ≡ sort.Tree d → is_sort types.datatypes (sort.Tree d) ≡ true
      → first_of types d (defaults j ss ++ more) ≡ Some (default_of types values (sort.Tree d))
  first_is_default j [] more k d lt is stands = absurd (omega (arith, lt))
  first_is_default j (s ∷ ss) more k d lt is stands =
      by (λ i less same. first_is_default (suc j) ss more i d less same stands)
      (has_sort types.ctors (default_here j) (sort.Tree d)) refl k lt is
    where
      by : ((i : ℕ) → i < length ss → σ (suc j + i) ≡ sort.Tree d
          → first_of types d (defaults (suc j) ss ++ more) ≡ Some (default_of types values (sort.Tree d)))
          → (b : Bool) → has_sort types.ctors (default_here j) (sort.Tree d) ≡ b → (k : ℕ) → k < suc (length ss)
          → σ (j + k) ≡ sort.Tree d
          → (if b then Some (default_here j) else first_of types d (defaults (suc j) ss ++ more))
          ≡ Some (default_of types values (sort.Tree d))
      by again true e k lt is = ap Some (default_of_data types values (σ j) d e)
      by again false e zero lt is =
          let has = default_has_sort types values (sort.Tree d) stands in
          let here : σ j ≡ sort.Tree d = ap σ (plus_zero j) ∙ is in
          let no : false ≡ true = sym e
          ∙ ap (λ s. has_sort types.ctors (default_of types values s) (sort.Tree d)) here ∙ has in cc
      by again false e (suc k) lt is = again k (omega (arith, lt)) (ap σ (plus_suc j k) ∙ is)

  module _ (ρ : Values) (ss : List Step) where
    abbrev step_values : List Value
    step_values = map ρ (numbers 0 ss)

    abbrev looked_fields : List Value
    looked_fields = all_fields (map ρ (all_looked_at ss))

    -- what a naming has to name
    abbrev pub listed : List Value
    listed = defaults 0 ss ++ (step_values ++ looked_fields)

    length_parts : length listed ≡ length ss + (length ss + length looked_fields)
    length_parts =
        length-append (defaults 0 ss) (step_values ++ looked_fields)
        ∙ ap (λ n. length (defaults 0 ss) + n) (length-append step_values looked_fields)
        ∙ ap (λ n. n + (length step_values + length looked_fields))
        (length-map (numbers 0 ss) default_here ∙ length_numbers 0 ss)
        ∙ ap (λ n. length ss + (n + length looked_fields)) (length-map (numbers 0 ss) ρ ∙ length_numbers 0 ss)

    twice_more : (n a b : ℕ) → a ≤ b → n + (n + a) ≤ 2 * n + b
    twice_more n a b le = omega (arith, le)

    -- it is short where no value has many fields
    pub few_listed : (most : ℕ → ℕ) → ((k : ℕ) → k < length ss → length (own_fields (ρ k)) ≤ most k)
        → AllRead 0 ss → length listed ≤ 2 * length ss + sum_by most (all_looked_at ss)
    few_listed most few reads =
        subst (λ n. n ≤ 2 * length ss + sum_by most (all_looked_at ss)) (sym length_parts)
        (twice_more (length ss) (length looked_fields) (sum_by most (all_looked_at ss))
        (few_in_all most ρ (length ss) few (all_looked_at ss)
        (subst (λ n. Below n (all_looked_at ss)) (zero_plus (length ss)) (looks_below 0 ss reads))))

    -- what holds of all of it
    module _ (P : Value → Type 0) (all : All P listed) where
      behind : All P (step_values ++ looked_fields)
      behind = all_right P (defaults 0 ss) (step_values ++ looked_fields) all

      pub each_value : (k : ℕ) → k < length ss → P (ρ k)
      each_value k lt =
          subst (λ i. P (ρ i)) (zero_plus k)
          (at_number P ρ 0 ss (all_left P step_values looked_fields behind) k lt)

      -- the fields of the trees that a step looks at
      pub each_look : (k : ℕ) (s : Step) → slice_get ss k ≡ Some s → All P (all_fields (map ρ (looked_at s)))
      each_look k s at = fields_looked_at P ρ ss (all_right P step_values looked_fields behind) k s at
