use Rattle.std.proofs.Common.{◌∙◌, ◌∷◌, ◌++◌, [], ap, sym, add-one, List, ℕ, Vec, Global, map}
use Rattle.std.proofs.lemmas.List.{map_push}
use Rattle.pp_names.specs.Places.{grouped_from}
use Rattle.pp_names.proofs.Grouped.{grouped_from-empty}
use Rattle.pp_names.proofs.by_root.empty_lists.Goals as goal

pub loop-preserved : goal.loop-preserved
loop-preserved c =
    ap (map (λ (v : Vec ℕ Global). v.items)) c.in_ok-push.ensures.items
    ∙ map_push (λ (v : Vec ℕ Global). v.items) c.loop.lists.items c.new.result
    ∙ ap (λ (l : List (List ℕ)). l ++ c.new.result.items ∷ []) c.loop.invariant
    ∙ ap (λ (l : List ℕ). grouped_from 0 c.loop.counter [] ++ l ∷ []) c.new.ensures.items
    ∙ sym (grouped_from-empty 0 c.loop.counter) ∙ ap (λ (n : ℕ). grouped_from 0 n []) (sym (add-one c.loop.counter))
