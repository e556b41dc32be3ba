-- Values of one sort are alike.
use Rattle.std.proofs.Common.{◌≡◌, true, List, Some, sym, ap, ◌∙◌, slice_get}
use Rattle.std.proofs.lemmas.Bool.{eq-eqb}
use Rattle.pp_prog.specs.declared.id.DataId.{DataId}
use Rattle.pp_prog.specs.declared.sort.Sort.{Sort}
use Rattle.pp_prog.specs.declared.sort.Sort.TheVariants as sort
use Rattle.pp_prog.specs.declared.types.Ctor.{Ctor}
use Rattle.pp_prog.specs.declared.value.Value.{Value}
use Rattle.pp_prog.specs.declared.value.Value.TheOpen as layer
use Rattle.pp_prog.specs.declared.value.Value.TheVariants.{outs-Int, outs-Bool, outs-Tree}
use Rattle.pp_prog.specs.declared.value.Value.TheViews.{out-Value}
use Rattle.pp_prog.specs.Sorts.{has_sort}
use Rattle.pp_eval.specs.Measure.{one_datatype, one_sort}
use Rattle.pp_prog.proofs.ValueSorts.{bool_value, int_value, tree_value}

module _ (ctors : List Ctor) where
  -- two values of one sort are alike
  pub alike : (s : Sort) (v w : Value) → has_sort ctors v s ≡ true → has_sort ctors w s ≡ true
      → one_sort ctors (out-Value v) (out-Value w) ≡ true
  alike sort.Int v w h g =
      let x = int_value ctors v h in let y = int_value ctors w g in
      ap (λ o. one_sort ctors o (out-Value w)) (ap out-Value x.is ∙ outs-Int x.number)
      ∙ ap (λ o. one_sort ctors (layer.Int x.number) o) (ap out-Value y.is ∙ outs-Int y.number)
  alike sort.Bool v w h g =
      let x = bool_value ctors v h in let y = bool_value ctors w g in
      ap (λ o. one_sort ctors o (out-Value w)) (ap out-Value x.is ∙ outs-Bool x.truth)
      ∙ ap (λ o. one_sort ctors (layer.Bool x.truth) o) (ap out-Value y.is ∙ outs-Bool y.truth)
  alike (sort.Tree d) v w h g =
      let x = tree_value ctors d v h in let y = tree_value ctors d w g in
      ap (λ o. one_sort ctors o (out-Value w)) (ap out-Value x.is ∙ outs-Tree x.ctor x.fields)
      ∙ ap (λ o. one_sort ctors (layer.Tree x.ctor x.fields) o) (ap out-Value y.is ∙ outs-Tree y.ctor y.fields)
      ∙ ap (λ o. one_datatype o (slice_get ctors y.ctor.0)) x.at ∙ ap (one_datatype (Some x.entry)) y.at
      ∙ eq-eqb x.entry.of.0 y.entry.of.0 (ap (λ (e : DataId). e.0) (x.data_of ∙ sym y.data_of))
