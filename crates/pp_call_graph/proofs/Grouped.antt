-- Which functions are of one group, read from the groups.
use Rattle.std.proofs.Common.{◌≡◌, ℕ, ◌<◌, nat_eq, List, length, get_or, Option, Some, sym, ap, ◌∙◌, arith, eq-eqb}
use Rattle.std.proofs.lemmas.List.{length-map}
use Rattle.std.specs.Prelude.{◌↔◌, IsTrue, slice_get}
use Rattle.std.proofs.lemmas.Bool.{eqb-true}
use Rattle.std.proofs.lemmas.Option.{slice_get-get_or}
use Rattle.pp_graph.proofs.Paths.{one_number}
use Rattle.pp_graph.specs.Reaches.{AreGroups, SameGroup}
use Rattle.pp_prog.specs.Calls.{OneGroup, call_table, function_calls}
use Rattle.pp_prog.specs.declared.expr.Function.{Function}
use Rattle.pp_translation.specs.Numbered.{same_number}

module _ (calls : List (List ℕ)) (groups : List ℕ) (h : AreGroups calls groups) where
  abbrev group : ℕ → ℕ
  group f = get_or groups f 0

  there : (f : ℕ) → f < length calls → slice_get groups f ≡ Some (group f)
  there f lt = let size = h.size in slice_get-get_or groups f 0 (omega arith)

  -- two functions have one number exactly where they are of one group
  pub same_group : (f g : ℕ) → f < length calls → g < length calls
      → IsTrue (same_number (slice_get groups f) (slice_get groups g)) ↔ SameGroup calls f g
  same_group f g within also =
      let at_f = there f within in
      let at_g = there g also in
      let read : same_number (slice_get groups f) (slice_get groups g) ≡ nat_eq (group f) (group g) =
      ap (λ (o : Option ℕ). same_number o (slice_get groups g)) at_f
      ∙ ap (λ (o : Option ℕ). same_number (Some (group f)) o) at_g in
      let one = one_number calls f g (group f) (group g) (h.each f (group f) at_f) (h.each g (group g) at_g) in
      (λ t. one.0 (eqb-true (group f) (group g) (sym read ∙ t)), λ s. read ∙ eq-eqb (group f) (group g) (one.1 s))

-- two functions of a program have one number exactly where they are of one group
pub grouped : (fs : List Function) (groups : List ℕ) → AreGroups (call_table fs) groups → (f g : ℕ)
    → f < length fs → g < length fs
    → IsTrue (same_number (slice_get groups f) (slice_get groups g)) ↔ OneGroup fs f g
grouped fs groups h f g within also =
    let size = length-map fs function_calls in
    same_group (call_table fs) groups h f g (omega arith) (omega arith)
