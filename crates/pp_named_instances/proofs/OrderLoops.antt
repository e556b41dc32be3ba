-- Tests of the order, one field after another.
use Rattle.std.proofs.Common.{◌≡◌, ◌↔◌, ℕ, zero, suc, ◌+◌, ◌%◌, ◌^◌, ◌≤◌, nat_lt, if◌then◌else◌}
use Rattle.std.proofs.Common.{Bool, true}
use Rattle.std.proofs.Common.{false, ◌&&◌, ◌||◌, not, List, [], ◌∷◌, length, take, drop, Some, refl, sym, ap, ◌∙◌}
use Rattle.std.proofs.Common.{subst}
use Rattle.std.proofs.Common.{arith, slice_get, inl, inr}
use Rattle.std.proofs.lemmas.Bool.{and_from, and_parts, eq-eqb, lt-ltb, ltb-true}
use Rattle.std.proofs.lemmas.List.{take_all}
use Rattle.std.proofs.lemmas.Option.{same_Some}
use Rattle.pp_prog.specs.declared.id.DataId.{DataId}
use Rattle.pp_clause.specs.Literal.{Literal, lit_value, opposite}
use Rattle.pp_gate.specs.declared.gate.Gate.{Gate}
use Rattle.pp_gate.specs.Circuit.{IsOf, StandsFor}
use Rattle.pp_gate.specs.Growth.{AddsGates}
use Rattle.pp_gate.proofs.Growing.{AddsGates_more, IsOf_more}
use Rattle.pp_gate.proofs.Places.{at_left, at_next, at_push}
use Rattle.pp_bits.specs.Number.{StandsForNumber, nat_of}
use Rattle.pp_bits.proofs.Growing.{Gives_before}
use Rattle.pp_bits.proofs.Numbers.{lit_value_negated}
use Rattle.pp_domain.specs.declared.symbol.Symbol.{Symbol}
use Rattle.pp_domain.specs.declared.symbol.Symbol.TheVariants as symbol
use Rattle.pp_bounded_trees.specs.Possible.{total}
use Rattle.pp_bounded_trees.proofs.Candidates.{take_next}
use Rattle.pp_named_order.specs.Order.{OneGroup, place}
use Rattle.pp_named_trees.specs.declared.arena.Alternative.{Alternative}
use Rattle.pp_named_trees.specs.declared.arena.Expansion.{Expansion}
use Rattle.pp_named_trees.specs.declared.arena.Level.{Level}
use Rattle.pp_named_trees.specs.declared.arena.NamedTree.{NamedTree}
use Rattle.pp_named_trees.specs.Arena.{IsName}
use Rattle.pp_named_trees.specs.Laws.{name_later}
use Rattle.pp_named_instances.specs.OrderTests.{AllBefore, AllBeforeTest, AreBefore, AreBeforeTest, AreCtors, AreFields}
use Rattle.pp_named_instances.specs.OrderTests.{AreLevels, IsBefore, IsBeforeTest, IsField, IsLevelWord, IsOrderTest}
use Rattle.pp_named_instances.specs.OrderTests.{IsPlace, level_value}
use Rattle.pp_named_instances.proofs.ContentTests.{total_next}

pub levels_later : (gs fs : List Gate) (k : ℕ) (levels : List Level) → AddsGates gs fs k → AreLevels gs levels
    → AreLevels fs levels
levels_later gs fs k levels adds are i z at = name_later gs fs k adds.grows z.word (are i z at)

field_later : (gs fs : List Gate) (k : ℕ) (x : Symbol NamedTree) → AddsGates gs fs k → IsField gs x → IsField fs x
field_later gs fs k (symbol.Word w) adds is = tt
field_later gs fs k (symbol.Bit l) adds is = tt
field_later gs fs k (symbol.Tree t) adds is = name_later gs fs k adds.grows t.name is

pub fields_later : (gs fs : List Gate) (k : ℕ) (xs : List (Symbol NamedTree)) → AddsGates gs fs k → AreFields gs xs
    → AreFields fs xs
fields_later gs fs k xs adds are p x at = field_later gs fs k x adds (are p x at)

pub ctors_later : (gs fs : List Gate) (k : ℕ) (ys : List Alternative) → AddsGates gs fs k → AreCtors gs ys
    → AreCtors fs ys
ctors_later gs fs k ys adds are = record {
  lits = λ j y at. IsOf_more gs fs k y.lit adds.grows (are.lits j y at);
  fields = λ j y at. fields_later gs fs k y.fields adds (are.fields j y at);
}

pub ctors_read : (gs fs : List Gate) (k : ℕ) (xs ys : List Alternative) → AddsGates gs fs k → xs ≡ ys → AreCtors gs ys
    → AreCtors fs xs
ctors_read gs fs k xs ys adds same are =
    subst (λ (zs : List Alternative). AreCtors fs zs) (sym same) (ctors_later gs fs k ys adds are)

pub field_at : (gs fs : List Gate) (k : ℕ) (xs ys : List (Symbol NamedTree)) (p : ℕ) (x : Symbol NamedTree)
    → AddsGates gs fs k → xs ≡ ys → AreFields gs ys → slice_get xs p ≡ Some x → IsField fs x
field_at gs fs k xs ys p x adds same are at =
    field_later gs fs k x adds (are p x (ap (λ zs. slice_get zs p) (sym same) ∙ at))

pub total_same : {X : Type 0} (f : X → ℕ) (xs ys : List X) (n most : ℕ) → xs ≡ ys → n + total f ys ≤ most
    → n + total f xs ≤ most
total_same f xs ys n most same le = let e = ap (total f) same in omega arith

pub next_same : {X : Type 0} (f : X → ℕ) (xs ys : List X) (i : ℕ) (x : X) → xs ≡ ys → slice_get xs i ≡ Some x
    → total f (take i xs) + f x ≤ total f ys
next_same f xs ys i x same at = let e = ap (total f) same in let w = total_next f xs i x at in omega arith

-- ---- places

pub place_is : (gs hs : List Gate) (k : ℕ) (levels : List Level) (d : DataId) (name level la lb sum p : List Literal)
    → IsLevelWord gs levels d level → AddsGates gs hs k → la ≡ name → lb ≡ level → length name ≡ 32
    → StandsForNumber hs (length la) sum (λ s. (nat_of s la + nat_of s lb) % 2 ^ length la) → p ≡ sum
    → IsPlace hs levels d name p
place_is gs hs k levels d name level la lb sum p word adds one other len stands same =
    let n : length la ≡ 32 = ap length one ∙ len in record {
      digits = subst (λ ls. IsName hs ls) (sym same) (record { len = stands.len ∙ n; of = stands.of });
      value = λ a gives.
          ap (nat_of a) same ∙ stands.value a gives
          ∙ (λ i. (nat_of a (one i) + nat_of a (other i)) % 2 ^ (n i))
          ∙ ap (λ v. (nat_of a name + v) % 2 ^ 32) (word.value a (Gives_before gs hs k adds a gives));
    }

level_found : (a : ℕ → Bool) (levels : List Level) (i : ℕ) (z : Level) (d : DataId) → slice_get levels i ≡ Some z
    → z.of.0 ≡ d.0 → level_value a (drop i levels) d ≡ nat_of a z.word
level_found a [] i z d at same = cc
level_found a (y ∷ ys) zero z d at same =
    let one : y ≡ z = same_Some y z at in
    ap (λ b. if b then nat_of a y.word else level_value a ys d)
    (eq-eqb y.of.0 d.0 (ap (λ (x : Level). x.of.0) one ∙ same)) ∙ ap (λ (x : Level). nat_of a x.word) one
level_found a (y ∷ ys) (suc i) z d at same = level_found a ys i z d at same

pub level_word_found : (gs : List Gate) (levels : List Level) (i : ℕ) (d : DataId) (y z : Level)
    → ((a : ℕ → Bool) → level_value a levels d ≡ level_value a (drop i levels) d) → slice_get levels i ≡ Some z
    → slice_get levels i ≡ Some y → y.of.0 ≡ d.0 → AreLevels gs levels → IsLevelWord gs levels d z.word
level_word_found gs levels i d y z none at read same are = record {
  name = are i z at;
  value = λ a gives.
      let one : z ≡ y = same_Some z y (sym at ∙ read) in
      sym (none a ∙ level_found a levels i z d at (ap (λ (x : Level). x.of.0) one ∙ same));
}

-- ---- one field

either_not : (b c : Bool) → (not b || c ≡ true) ↔ (b ≡ true → c ≡ true)
either_not true true = (λ e on. refl, λ f. refl)
either_not true false = (λ e on. e, λ f. f refl)
either_not false c = (λ e on. cc, λ f. refl)

pub tree_test : (fs ms ns hs : List Gate) (j k m : ℕ) (groups : List ℕ) (levels : List Level) (d : DataId)
    (tree own la lb : List Literal) (all lit off less holds l : Literal) (t : NamedTree) → OneGroup groups d t.of
    → IsPlace fs levels t.of t.name own → AddsGates fs ms j
    → StandsFor ms less (λ s. nat_lt (nat_of s la) (nat_of s lb))
    → la ≡ own → lb ≡ tree → off ≡ opposite lit → AddsGates ms ns k
    → StandsFor ns holds (λ s. lit_value s off || lit_value s less) → AddsGates ns hs m
    → StandsFor hs l (λ s. lit_value s all && lit_value s holds)
    → IsBeforeTest hs groups levels d tree all lit (symbol.Tree t) l
tree_test fs ms ns hs j k m groups levels d tree own la lb all lit off less holds l t one stands first lower left
    right turned second either third both = record {
      of = both.of;
      means = λ a gives.
          let before = Gives_before ns hs m third a gives in
          let early = Gives_before ms ns k second a before in
          let is : lit_value a holds ≡ (not (lit_value a lit) || lit_value a less) =
          either.value a before ∙ ap (λ b. b || lit_value a less) (lit_value_negated a off lit turned) in
          let number : lit_value a less
          ≡ nat_lt (place (level_value a levels t.of) (nat_of a t.name)) (nat_of a tree) =
          lower.value a early ∙ (λ i. nat_lt (nat_of a (left i)) (nat_of a (right i)))
          ∙ ap (λ v. nat_lt v (nat_of a tree)) (stands.value a (Gives_before fs ms j first a early)) in
          let pair = either_not (lit_value a lit) (lit_value a less) in (
            λ on.
                let p = and_parts (lit_value a all) (lit_value a holds) (sym (both.value a gives) ∙ on) in
                (p.0, λ group lit_on. ltb-true _ _ (sym number ∙ pair.0 (sym is ∙ p.1) lit_on)),
            λ p. both.value a gives ∙ and_from (lit_value a all) (lit_value a holds) p.0
                (is ∙ pair.1 (λ lit_on. number ∙ lt-ltb _ _ (p.1 one lit_on))),
          );
    }

pub tree_gates : (gs fs ms ns : List Gate) (own la : List Literal) (n : ℕ) → AddsGates gs fs 96
    → AddsGates fs ms (length la) → la ≡ own → length own ≡ 32 → AddsGates ms ns 1 → 129 ≤ n → AddsGates gs ns n
tree_gates gs fs ms ns own la n first second same len third le =
    let e = ap length same ∙ len in
    AddsGates_more gs ms ns (96 + length la) 1 n
    (AddsGates_more gs fs ms 96 (length la) (96 + length la) first second (omega arith)) third (omega arith)

pub tree_skip : (gs : List Gate) (groups : List ℕ) (levels : List Level) (d : DataId) (tree : List Literal)
    (all lit : Literal) (t : NamedTree) → IsOf gs all → (OneGroup groups d t.of → ⊥)
    → IsBeforeTest gs groups levels d tree all lit (symbol.Tree t) all
tree_skip gs groups levels d tree all lit t of differ = record {
  of = of;
  means = λ a gives. (λ on. (on, λ group. absurd (differ group)), λ p. p.0);
}

pub word_skip : (gs : List Gate) (groups : List ℕ) (levels : List Level) (d : DataId) (tree : List Literal)
    (all lit : Literal) (w : List Literal) → IsOf gs all
    → IsBeforeTest gs groups levels d tree all lit (symbol.Word w) all
word_skip gs groups levels d tree all lit w of = record { of = of; means = λ a gives. (λ on. (on, tt), λ p. p.0) }

pub bit_skip : (gs : List Gate) (groups : List ℕ) (levels : List Level) (d : DataId) (tree : List Literal)
    (all lit m : Literal) → IsOf gs all → IsBeforeTest gs groups levels d tree all lit (symbol.Bit m) all
bit_skip gs groups levels d tree all lit m of = record { of = of; means = λ a gives. (λ on. (on, tt), λ p. p.0) }

-- ---- the loops

module _ (groups : List ℕ) (levels : List Level) (d : DataId) (tree : List Literal) where
  pub before_none : (gs : List Gate) (all lit : Literal) → IsOf gs all
      → AreBeforeTest gs groups levels d tree all lit [] all
  before_none gs all lit of = record { of = of; means = λ a gives. (λ on. (on, λ p x at. cc), λ p. p.0) }

  pub before_turn : (fs hs : List Gate) (k : ℕ) (all lit m l : Literal) (xs : List (Symbol NamedTree)) (i : ℕ)
      (x : Symbol NamedTree) → slice_get xs i ≡ Some x → AddsGates fs hs k
      → AreBeforeTest fs groups levels d tree all lit (take i xs) m → IsBeforeTest hs groups levels d tree m lit x l
      → AreBeforeTest hs groups levels d tree all lit (take (i + 1) xs) l
  before_turn fs hs k all lit m l xs i x at adds before own =
      subst (λ zs. AreBeforeTest hs groups levels d tree all lit zs l) (sym (take_next xs i x at)) (record {
        of = own.of;
        means = λ a gives.
            let old = before.means a (Gives_before fs hs k adds a gives) in
            let new = own.means a gives in (
              λ on.
                  let q = new.0 on in
                  let r = old.0 q.0 in (
                    r.0,
                    λ p z to. elim (at_push (take i xs) x p z to) [
                      | inl here ↦ r.1 p z here
                      | inr there ↦
                          subst (λ u. IsBefore a groups levels d (nat_of a tree) lit u) there.1 q.1
                    ],
                  ),
              λ q. new.1 (
                old.1 (q.0, λ p z to. q.1 p z (at_left (take i xs) (x ∷ []) p z to)),
                q.1 (length (take i xs)) x (at_next (take i xs) [] x),
              ),
            );
      })

  pub before_whole : (hs : List Gate) (all lit l : Literal) (xs ys : List (Symbol NamedTree)) (i : ℕ) → xs ≡ ys
      → length xs ≤ i → AreBeforeTest hs groups levels d tree all lit (take i xs) l
      → AreBeforeTest hs groups levels d tree all lit ys l
  before_whole hs all lit l xs ys i same end test =
      subst (λ zs. AreBeforeTest hs groups levels d tree all lit zs l) (take_all i xs end ∙ same) test

  pub all_none : (gs : List Gate) (truth : Literal) → StandsFor gs truth (λ s. true)
      → AllBeforeTest gs groups levels d tree [] truth
  all_none gs truth stands = record {
    of = stands.of;
    means = λ a gives. (λ on j y at. cc, λ each. stands.value a gives);
  }

  pub all_turn : (fs hs : List Gate) (k : ℕ) (m l : Literal) (ys : List Alternative) (i : ℕ) (y : Alternative)
      → slice_get ys i ≡ Some y → AddsGates fs hs k → AllBeforeTest fs groups levels d tree (take i ys) m
      → AreBeforeTest hs groups levels d tree m y.lit y.fields l
      → AllBeforeTest hs groups levels d tree (take (i + 1) ys) l
  all_turn fs hs k m l ys i y at adds before own =
      subst (λ zs. AllBeforeTest hs groups levels d tree zs l) (sym (take_next ys i y at)) (record {
        of = own.of;
        means = λ a gives.
            let old = before.means a (Gives_before fs hs k adds a gives) in
            let new = own.means a gives in (
              λ on.
                  let q = new.0 on in
                  λ j z to. elim (at_push (take i ys) y j z to) [
                    | inl here ↦ old.0 q.0 j z here
                    | inr there ↦ subst (λ (u : Alternative).
                        AreBefore a groups levels d (nat_of a tree) u.lit u.fields) there.1 q.1
                  ],
              λ each. new.1 (
                old.1 (λ j z to. each j z (at_left (take i ys) (y ∷ []) j z to)),
                each (length (take i ys)) y (at_next (take i ys) [] y),
              ),
            );
      })

  pub all_whole : (hs : List Gate) (l : Literal) (ys : List Alternative) (i : ℕ) → length ys ≤ i
      → AllBeforeTest hs groups levels d tree (take i ys) l → AllBeforeTest hs groups levels d tree ys l
  all_whole hs l ys i end test = subst (λ zs. AllBeforeTest hs groups levels d tree zs l) (take_all i ys end) test

pub order_is : (fs hs : List Gate) (k : ℕ) (groups : List ℕ) (levels : List Level) (y : Expansion)
    (tree : List Literal) (xs : List Alternative) (l : Literal) → IsPlace fs levels y.of y.name tree → AddsGates fs hs k
    → xs ≡ y.alternatives → AllBeforeTest hs groups levels y.of tree xs l → IsOrderTest hs groups levels y l
order_is fs hs k groups levels y tree xs l stands adds same test =
    let whole = subst (λ zs. AllBeforeTest hs groups levels y.of tree zs l) same test in record {
      of = whole.of;
      means = λ a gives.
          let here = stands.value a (Gives_before fs hs k adds a gives) in
          let means = whole.means a gives in (
            λ on. subst (λ n. AllBefore a groups levels y.of n y.alternatives) here (means.0 on),
            λ each. means.1 (subst (λ n. AllBefore a groups levels y.of n y.alternatives) (sym here) each),
          );
    }
