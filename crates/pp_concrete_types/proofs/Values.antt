-- Values of the sorts of a program.
use Rattle.std.proofs.Common.{◌≡◌, ℕ, Bool, true, ◌&&◌, List, [], ◌∷◌, map, refl, sym, ap, ◌∙◌, eq-eqb, pos}
use Rattle.std.specs.Prelude.{Option, Some, slice_get}
use Rattle.pp_prog.specs.Sorts.{has_sort, has_step, have_sorts, tree_has}
use Rattle.pp_prog.specs.Table.{HasValue}
use Rattle.pp_prog.specs.declared.id.CtorId.{CtorId}
use Rattle.pp_prog.specs.declared.sort.Sort.{Sort}
use Rattle.pp_prog.specs.declared.sort.Sort.TheVariants as prog
use Rattle.pp_prog.specs.declared.types.Ctor.{Ctor}
use Rattle.pp_prog.specs.declared.value.Value.{Value}
use Rattle.pp_prog.specs.declared.value.Value.TheFolds.{fold-roll-Value, map-Value}
use Rattle.pp_prog.specs.declared.value.Value.TheOpen as value
use Rattle.pp_prog.specs.declared.value.Value.TheVariants.{Int, Bool as Truth, Tree, rolls-Int, rolls-Bool, rolls-Tree}
use Rattle.pp_prog.specs.declared.value.Value.TheViews.{roll-Value}

module _ (cs : List Ctor) where
  -- a value for each sort
  pub record Values (ss : List Sort) : Type 0 where
    pub values : List Value
    pub have : have_sorts cs values ss ≡ true

  pub no_values : Values []
  no_values = record { values = []; have = refl }

  pub more_values : {s : Sort} {ss : List Sort} → HasValue cs s → Values ss → Values (s ∷ ss)
  more_values {s} {ss} v vs =
      record { values = v.0 ∷ vs.values; have = ap (λ b. b && have_sorts cs vs.values ss) v.1 ∙ vs.have }

  -- what a layer of values has
  layer_has : (y : value.Value-F Value) (v : Value) (s : Sort) → v ≡ roll-Value y
      → has_sort cs v s ≡ has_step cs (map-Value Value (Sort → Bool) (has_sort cs) y) s
  layer_has y v s is =
      ap (λ (u : Value). has_sort cs u s) is
      ∙ ap (λ (f : Sort → Bool). f s) (fold-roll-Value (Sort → Bool) (has_step cs) y)

  pub int_value : HasValue cs prog.Int
  int_value = (Int (pos 0), layer_has (value.Int (pos 0)) (Int (pos 0)) prog.Int (sym (rolls-Int (pos 0))))

  pub truth_value : HasValue cs prog.Bool
  truth_value = (Truth true, layer_has (value.Bool true) (Truth true) prog.Bool (sym (rolls-Bool true)))

  -- a constructor with a value of each field
  pub tree_value : (n : ℕ) (k : Ctor) → slice_get cs n ≡ Some k → Values k.fields → HasValue cs (prog.Tree k.of)
  tree_value n k at vs =
      let c : CtorId = record { 0 = n } in
      let own = prog.Tree k.of in
      let fields = vs.values in (
        Tree c fields,
        layer_has (value.Tree c fields) (Tree c fields) own (sym (rolls-Tree c fields))
            ∙ ap (λ (o : Option Ctor). tree_has o (map (has_sort cs) fields) own) at
            ∙ ap (λ b. b && have_sorts cs fields k.fields) (eq-eqb k.of.0 k.of.0 refl) ∙ vs.have,
      )
