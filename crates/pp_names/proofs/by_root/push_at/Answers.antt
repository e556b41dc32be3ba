use Rattle.std.proofs.Common.{arith, ℕ, List, Vec, Global}
use Rattle.std.proofs.lemmas.List.{length-map}
use Rattle.pp_names.proofs.Grouped.{items_set}
use Rattle.pp_names.proofs.by_root.push_at.Goals as goal

pub returns : goal.returns
returns c = items_set c.args.lists.now.items c.args.at c.args.item c.index_mut.result.now c.push.new.self (omega
    (arith, length-map {A = Vec ℕ Global} {B = List ℕ})) c.index_mut.ensures.value c.in_ok-push.ensures.items
