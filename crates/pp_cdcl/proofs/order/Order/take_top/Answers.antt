use Rattle.std.proofs.Common.{◌<◌, All, Some, vec_len}
use Rattle.std.proofs.lemmas.List.Elements.{All-pop, All-set, All-take, All-append, All-drop}
use Rattle.pp_cdcl.proofs.order.Order.take_top.Goals as goal

pub sift_down-requires-clause-heap : goal.sift_down-requires-clause-heap
sift_down-requires-clause-heap c =
    let p = All-pop (λ x. x < vec_len c.self.inside.ranks) c.self.inside.heap.items c.pop.new.self.items
    (Some c.in_ok-last.last) c.in_ok-last.ensures.items c.self.invariant.heap in
    rw (c.deref_mut.ensures.value, c.deref.ensures.len)
    (All-set (λ x. x < vec_len c.self.inside.ranks) c.pop.new.self.items 0 c.in_ok-last.last p.1 p.0)

pub invariant_of-self-2 : goal.invariant_of-self-2
invariant_of-self-2 c =
    let p = All-pop (λ x. x < vec_len c.self.inside.ranks) c.self.inside.heap.items c.pop.new.self.items
    (Some c.in_ok-last.last) c.in_ok-last.ensures.items c.self.invariant.heap in
    let set = All-set (λ x. x < vec_len c.self.inside.ranks) c.pop.new.self.items 0 c.in_ok-last.last p.1 p.0 in
    let sifted : All (λ x. x < vec_len c.self.inside.ranks) c.sift_down.new.heap =
    rw c.deref.ensures.len at c.sift_down.ensures in
    record {
      signs = c.self.invariant.signs;
      places = c.self.invariant.places;
      heap = All-take (λ x. x < vec_len c.self.inside.ranks) _ _
          (All-append (λ x. x < vec_len c.self.inside.ranks) c.sift_down.new.heap _ sifted
          (All-drop (λ x. x < vec_len c.self.inside.ranks) _ _ set));
    }
