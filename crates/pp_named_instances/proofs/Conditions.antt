-- The tests of agreement and order together are the condition on a tree that is looked at.
use Rattle.std.proofs.Common.{◌≡◌, ◌⊎◌, ℕ, zero, suc, ◌<◌, ◌^◌, if◌then◌else◌, Bool, ◌&&◌}
use Rattle.std.proofs.Common.{List, []}
use Rattle.std.proofs.Common.{◌∷◌, Some, refl, sym, ap, ◌∙◌, subst, inl, inr, slice_get}
use Rattle.std.proofs.lemmas.Bool.{and_from, and_parts}
use Rattle.std.proofs.lemmas.Bool.Decides.{eqb_tells}
use Rattle.std.proofs.lemmas.Option.{same_Some}
use Rattle.pp_prog.specs.declared.id.DataId.{DataId}
use Rattle.pp_prog.specs.declared.types.TypeTable.{TypeTable}
use Rattle.pp_clause.specs.Literal.{Literal, lit_value}
use Rattle.pp_gate.specs.declared.gate.Gate.{Gate}
use Rattle.pp_gate.specs.Circuit.{StandsFor}
use Rattle.pp_gate.specs.Growth.{AddsGates, Grows}
use Rattle.pp_gate.proofs.Agreement.{Gives_old}
use Rattle.pp_bits.specs.Number.{nat_of}
use Rattle.pp_bits.proofs.Growing.{Gives_before}
use Rattle.pp_domain.specs.declared.symbol.Symbol.{Symbol}
use Rattle.pp_domain.specs.declared.symbol.Symbol.TheVariants as symbol
use Rattle.pp_domain.specs.Naming.{IsNaming, Naming}
use Rattle.pp_named_order.specs.Order.{place}
use Rattle.pp_named_trees.specs.declared.arena.Alternative.{Alternative}
use Rattle.pp_named_trees.specs.declared.arena.Expansion.{Expansion}
use Rattle.pp_named_trees.specs.declared.arena.Level.{Level}
use Rattle.pp_named_trees.specs.declared.arena.NamedTree.{NamedTree}
use Rattle.pp_named_trees.specs.declared.arena.NamedTrees.{NamedTrees}
use Rattle.pp_named_trees.specs.Arena.{ExpansionFits}
use Rattle.pp_named_trees.specs.Holding.{ExpansionHolds, LevelsHold}
use Rattle.pp_named_trees.specs.Instances.{InOrder, IsLevel, base, word}
use Rattle.pp_named_instances.specs.Condition.{HasLevel, HaveLevels, IsCondition, is_first, was_made}
use Rattle.pp_named_instances.specs.OrderTests.{AllBefore, IsBefore, IsOrderTest, level_value}
use Rattle.pp_named_instances.specs.Tests.{IsAgreementTest}
use Rattle.pp_named_instances.proofs.Ordering.{in_order, level_is}
use Rattle.pp_named_instances.proofs.Same.{expansions_agree}

-- the word that gives the level, if there is one
record MadeWord (a : ℕ → Bool) (levels : List Level) (d : DataId) : Type 0 where
  number : ℕ
  level : Level
  at : slice_get levels number ≡ Some level
  of : level.of ≡ d
  value : level_value a levels d ≡ nat_of a level.word

-- none was made
record NoWord (a : ℕ → Bool) (levels : List Level) (d : DataId) : Type 0 where
  none : (i : ℕ) (z : Level) → slice_get levels i ≡ Some z → z.of ≡ d → ⊥
  value : level_value a levels d ≡ 2 ^ 31

made_or_not : (a : ℕ → Bool) (levels : List Level) (d : DataId) → MadeWord a levels d ⊎ NoWord a levels d
made_or_not a [] d = inr (record { none = λ i z at. cc; value = refl })
made_or_not a (y ∷ ys) d = elim (eqb_tells y.of.0 d.0) [
  | inl same ↦ inl (record {
    number = 0;
    level = y;
    at = refl;
    of = let mk : ℕ → DataId = λ n. record { 0 = n } in ap mk same.1;
    value = ap (λ b. if b then nat_of a y.word else level_value a ys d) same.0;
  })
  | inr differ ↦
      let skip = ap (λ b. if b then nat_of a y.word else level_value a ys d) differ.0 in
      elim (made_or_not a ys d) [
        | inl made ↦ inl (record {
          number = suc made.number;
          level = made.level;
          at = made.at;
          of = made.of;
          value = skip ∙ made.value;
        })
        | inr left ↦ inr (record {
          none = λ i z at same. elsewhere i z at same (λ e. differ.1 e) left.none;
          value = skip ∙ left.value;
        })
      ]
]
  where
    elsewhere : (i : ℕ) (z : Level) → slice_get (y ∷ ys) i ≡ Some z → z.of ≡ d → (y.of.0 ≡ d.0 → ⊥)
        → ((j : ℕ) (u : Level) → slice_get ys j ≡ Some u → u.of ≡ d → ⊥) → ⊥
    elsewhere zero z at same differ rest =
        differ (ap (λ (u : Level). u.of.0) (same_Some y z at) ∙ ap (λ (e : DataId). e.0) same)
    elsewhere (suc i) z at same differ rest = rest i z at same

-- where there is a level, it is the one that is read
level_read : (a : ℕ → Bool) (groups : List ℕ) (levels : List Level) (d : DataId) → HasLevel groups levels d
    → IsLevel a groups levels d (level_value a levels d)
level_read a groups levels d has = by has (made_or_not a levels d)
  where
    by : HasLevel groups levels d → MadeWord a levels d ⊎ NoWord a levels d
        → IsLevel a groups levels d (level_value a levels d)
    by has (inl made) = word made.number made.level made.at made.of made.value
    by (is_first first) (inr left) = base first left.value
    by (was_made i z at of) (inr left) = absurd (left.none i z at of)

module _ (a : ℕ → Bool) (groups : List ℕ) (levels : List Level) (y : Expansion)
    (have : HaveLevels groups levels y) where
  order_sound : AllBefore a groups levels y.of (place (level_value a levels y.of) (nat_of a y.name)) y.alternatives
      → InOrder a groups levels y
  order_sound all j x p t at on field one = record {
    field_level = level_value a levels t.of;
    tree_level = level_value a levels y.of;
    field_is = level_read a groups levels t.of (have.fields j x p t at field one);
    tree_is = level_read a groups levels y.of have.own;
    below = all j x at p (symbol.Tree t) field one on;
  }

  module _ (types : TypeTable) (n : Naming) (naming : IsNaming types n) (hold : LevelsHold a n groups levels) where
    one_level : (d : DataId) (k : ℕ) → HasLevel groups levels d → IsLevel a groups levels d k
        → k ≡ level_value a levels d
    one_level d k has is =
        level_is types a n naming groups levels hold d k is
        ∙ sym (level_is types a n naming groups levels hold d (level_value a levels d)
        (level_read a groups levels d has))

    before_holds : InOrder a groups levels y → (j : ℕ) (x : Alternative) → slice_get y.alternatives j ≡ Some x
        → (p : ℕ) (f : Symbol NamedTree) → slice_get x.fields p ≡ Some f
        → IsBefore a groups levels y.of (place (level_value a levels y.of) (nat_of a y.name)) x.lit f
    before_holds ordered j x at p (symbol.Word w) field = tt
    before_holds ordered j x at p (symbol.Bit l) field = tt
    before_holds ordered j x at p (symbol.Tree t) field = λ one on.
        let is = ordered j x p t at on field one in
        let low = one_level t.of is.field_level (have.fields j x p t at field one) is.field_is in
        let high = one_level y.of is.tree_level have.own is.tree_is in
        subst (λ k. place (level_value a levels t.of) (nat_of a t.name) < place k (nat_of a y.name)) high
        (subst (λ k. place k (nat_of a t.name) < place is.tree_level (nat_of a y.name)) low is.below)

pub condition_is : (types : TypeTable) (d : NamedTrees) (gs fs ms hs : List Gate) (i j k : ℕ) (y : Expansion)
    (agree order l : Literal) → Grows gs hs i → ExpansionFits gs d.nodes types y
    → ((e : ℕ) (z : Expansion) → slice_get d.expansions e ≡ Some z → ExpansionFits gs d.nodes types z)
    → HaveLevels d.groups d.levels y → IsAgreementTest fs y d.expansions agree → AddsGates fs ms j
    → IsOrderTest ms d.groups d.levels y order → AddsGates ms hs k
    → StandsFor hs l (λ s. lit_value s agree && lit_value s order) → IsCondition types hs d y l
condition_is types d gs fs ms hs i j k y agree order l grows own each have agreement first ordered second both =
    record {
      of = both.of;
      agrees = λ a gives on.
          let p = and_parts (lit_value a agree) (lit_value a order) (sym (both.value a gives) ∙ on) in
          (agreement.means a (Gives_before fs ms j first a (Gives_before ms hs k second a gives))).0 p.0;
      ordered = λ a gives on.
          let p = and_parts (lit_value a agree) (lit_value a order) (sym (both.value a gives) ∙ on) in
          order_sound a d.groups d.levels y have
          ((ordered.means a (Gives_before ms hs k second a gives)).0 p.1);
      holds = λ a n gives naming levels all holds.
          let later = Gives_before ms hs k second a gives in
          let old = Gives_old gs hs i grows a gives in
          both.value a gives ∙ and_from (lit_value a agree) (lit_value a order)
          ((agreement.means a (Gives_before fs ms j first a later)).1 (λ e z at same.
          expansions_agree types gs d.nodes a n naming old y z own (each e z at) same holds (all e z at)))
          ((ordered.means a later).1 (λ u x at p f field.
          before_holds a d.groups d.levels y have types n naming levels
          (ordered_by a n naming levels holds) u x at p f field));
    }
  where
    ordered_by : (a : ℕ → Bool) (n : Naming) → IsNaming types n → LevelsHold a n d.groups d.levels
        → ExpansionHolds a n y → InOrder a d.groups d.levels y
    ordered_by a n naming levels holds =
        in_order types a n naming d.groups d.levels levels y (level_value a d.levels y.of)
        (level_read a d.groups d.levels y.of have.own) (λ u x p t at field one.
        (level_value a d.levels t.of, level_read a d.groups d.levels t.of (have.fields u x p t at field one))) holds
