-- What the definitions on sorts make of each form.
use Rattle.std.proofs.Common.{◌≡◌, ◌∙◌, ℕ, List, Option, Some, None, map, sym, ap, slice_get}
use Rattle.pp_generic.specs.declared.expected.Expected.{Expected}
use Rattle.pp_generic.specs.declared.expected.Expected.TheFolds.{fold-roll-Expected}
use Rattle.pp_generic.specs.declared.expected.Expected.TheOpen as expected_layer
use Rattle.pp_generic.specs.declared.expected.Expected.TheVariants as expected
use Rattle.pp_generic.specs.declared.expected.Expected.TheViews.{out-Expected}
use Rattle.pp_generic.specs.Expected.{Found, exact, exact_step, expect, expect_found, expect_step, every, whole}
use Rattle.pp_generic.specs.Expected.{whole_root, whole_step}
use Rattle.pp_generic.specs.Found.{Learning, learn, learn_root, learn_step, note}
use Rattle.pp_typed.specs.declared.sort.GenericSort.{GenericSort}
use Rattle.pp_typed.specs.declared.sort.GenericSort.TheFolds.{fold-roll-GenericSort}
use Rattle.pp_typed.specs.declared.sort.GenericSort.TheOpen as layer
use Rattle.pp_typed.specs.declared.sort.GenericSort.TheVariants as sort

-- exactly a sort
pub exact_int : exact sort.Int ≡ expected.Int
exact_int = ap exact (sym sort.rolls-Int) ∙ fold-roll-GenericSort Expected exact_step layer.Int

pub exact_bool : exact sort.Bool ≡ expected.Bool
exact_bool = ap exact (sym sort.rolls-Bool) ∙ fold-roll-GenericSort Expected exact_step layer.Bool

pub exact_param : (i : ℕ) → exact (sort.Param i) ≡ expected.Param i
exact_param i = ap exact (sym (sort.rolls-Param i)) ∙ fold-roll-GenericSort Expected exact_step (layer.Param i)

pub exact_root : (r : ℕ) (parts : List GenericSort) → exact (sort.Root r parts) ≡ expected.Root r (map exact parts)
exact_root r parts = ap exact (sym (sort.rolls-Root r parts))
    ∙ fold-roll-GenericSort Expected exact_step (layer.Root r parts)

-- what is expected where a declared sort stands
module _ (found : Found) where
  pub expect_int : expect found sort.Int ≡ expected.Int
  expect_int = ap (expect found) (sym sort.rolls-Int) ∙ fold-roll-GenericSort Expected (expect_step found) layer.Int

  pub expect_bool : expect found sort.Bool ≡ expected.Bool
  expect_bool = ap (expect found) (sym sort.rolls-Bool) ∙ fold-roll-GenericSort Expected (expect_step found) layer.Bool

  pub expect_param : (i : ℕ) → expect found (sort.Param i) ≡ expect_found (slice_get found i)
  expect_param i = ap (expect found) (sym (sort.rolls-Param i))
      ∙ fold-roll-GenericSort Expected (expect_step found) (layer.Param i)

  pub expect_root : (r : ℕ) (parts : List GenericSort)
      → expect found (sort.Root r parts) ≡ expected.Root r (map (expect found) parts)
  expect_root r parts = ap (expect found) (sym (sort.rolls-Root r parts))
      ∙ fold-roll-GenericSort Expected (expect_step found) (layer.Root r parts)

-- the one sort that is expected
pub whole_open : whole expected.Open ≡ None
whole_open = ap whole (sym expected.rolls-Open) ∙ fold-roll-Expected (Option GenericSort) whole_step expected_layer.Open

pub whole_int : whole expected.Int ≡ Some sort.Int
whole_int = ap whole (sym expected.rolls-Int) ∙ fold-roll-Expected (Option GenericSort) whole_step expected_layer.Int

pub whole_bool : whole expected.Bool ≡ Some sort.Bool
whole_bool = ap whole (sym expected.rolls-Bool) ∙ fold-roll-Expected (Option GenericSort) whole_step expected_layer.Bool

pub whole_param : (i : ℕ) → whole (expected.Param i) ≡ Some (sort.Param i)
whole_param i = ap whole (sym (expected.rolls-Param i))
    ∙ fold-roll-Expected (Option GenericSort) whole_step (expected_layer.Param i)

pub whole_of_root : (r : ℕ) (parts : List Expected)
    → whole (expected.Root r parts) ≡ whole_root r (every (map whole parts))
whole_of_root r parts = ap whole (sym (expected.rolls-Root r parts))
    ∙ fold-roll-Expected (Option GenericSort) whole_step (expected_layer.Root r parts)

-- what a declared sort tells
module _ (x : Expected) (found : Found) where
  pub learn_int : learn sort.Int x found ≡ found
  learn_int = ap (λ s. learn s x found) (sym sort.rolls-Int)
      ∙ ap (λ (l : Learning). l x found) (fold-roll-GenericSort Learning learn_step layer.Int)

  pub learn_bool : learn sort.Bool x found ≡ found
  learn_bool = ap (λ s. learn s x found) (sym sort.rolls-Bool)
      ∙ ap (λ (l : Learning). l x found) (fold-roll-GenericSort Learning learn_step layer.Bool)

  pub learn_param : (i : ℕ) → learn (sort.Param i) x found ≡ note i (whole x) found
  learn_param i = ap (λ s. learn s x found) (sym (sort.rolls-Param i))
      ∙ ap (λ (l : Learning). l x found) (fold-roll-GenericSort Learning learn_step (layer.Param i))

  pub learn_of_root : (r : ℕ) (parts : List GenericSort)
      → learn (sort.Root r parts) x found ≡ learn_root r (map learn parts) (out-Expected x) found
  learn_of_root r parts = ap (λ s. learn s x found) (sym (sort.rolls-Root r parts))
      ∙ ap (λ (l : Learning). l x found) (fold-roll-GenericSort Learning learn_step (layer.Root r parts))
