use Rattle.std.proofs.Common.{◌≡◌, ◌+◌, ◌-◌, ◌<◌, ℕ, ap, sym, arith, take, length, ◌∙◌, List, Some, ◌++◌, ◌∷◌, []}
use Rattle.std.specs.Prelude.{slice_get}
use Rattle.std.proofs.lemmas.List.{take_more}
use Rattle.std.proofs.lemmas.Option.{get_or_from_slice_get}
use Rattle.pp_clause.specs.Literal.{Literal}
use Rattle.pp_trail.proofs.trail.copy_of.Goals as goal

copied : (cs copy : List (List Literal)) (i : ℕ) (x y : List Literal) → copy ≡ take i cs → i < length cs
    → slice_get cs (i + 1 - 1) ≡ Some x → y ≡ x → copy ++ y ∷ [] ≡ take (i + 1) cs
copied cs copy i x y h lt at same =
    let back : i + 1 - 1 ≡ i = omega arith in
    let got : slice_get cs i ≡ Some x = ap (slice_get cs) (sym back) ∙ at in
    ap (λ (z : List (List Literal)). z ++ y ∷ []) h ∙ ap (λ (z : List Literal). take i cs ++ z ∷ [])
    (same ∙ sym (get_or_from_slice_get cs i x x got)) ∙ sym (take_more cs i x lt)

pub loop-place-preserved : goal.loop-place-preserved
loop-place-preserved c =
    let end = c.loop-place.invariant.end in
    record {
      end = end;
      made = rw c.in_ok-add.ensures.ok
          (copied c.args.clauses.now c.loop-place.copy c.loop-place.place c.get.result.now c.in_ok-clause.clause
          c.loop-place.invariant.made (omega arith) c.get.ensures c.in_ok-clause.ensures);
    }
