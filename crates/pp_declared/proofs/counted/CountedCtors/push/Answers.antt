use Rattle.std.proofs.Common.{◌≡◌, ◌∙◌, ◌+◌, arith, ap, sym, get_or, slice_set, count_by, nat_eq}
use Rattle.std.proofs.lemmas.List.{map_push}
use Rattle.pp_declared.specs.Counts.{counts_from}
use Rattle.pp_names.specs.Find.{owners_of}
use Rattle.pp_typed.specs.declared.typed.TypedCtor.{TypedCtor}
use Rattle.pp_declared.proofs.Counting.{count_within, count_at, counts_set}
use Rattle.pp_declared.proofs.counted.CountedCtors.push.Goals as goal

pub bounds-as_slice-root : goal.bounds-as_slice-root
bounds-as_slice-root c =
    let s = c.args.self.now in
    count_within c.as_slice.result.now s.roots c.args.ctor.root (owners_of s.ctors) (c.as_slice.ensures
    ∙ s.counted) c.requires.root

pub overflow_add-count : goal.overflow_add-count
overflow_add-count c =
    let s = c.args.self.now in
    let e : get_or c.as_slice.result.now c.args.ctor.root 0 ≡ count_by (nat_eq c.args.ctor.root) (owners_of s.ctors) =
    count_at c.as_slice.result.now s.roots c.args.ctor.root (owners_of s.ctors) 0 (c.as_slice.ensures
    ∙ s.counted) c.requires.root in
    omega (arith, e, c.requires.room)

pub set-requires : goal.set-requires
set-requires c =
    let s = c.args.self.now in
    count_within s.counts s.roots c.args.ctor.root (owners_of s.ctors) s.counted c.requires.root

pub invariant_of-self-2 : goal.invariant_of-self-2
invariant_of-self-2 c =
    let s = c.args.self.now in
    let root = c.args.ctor.root in
    let e = count_at c.as_slice.result.now s.roots root (owners_of s.ctors) 0 (c.as_slice.ensures
    ∙ s.counted) c.requires.root in
    let more = ap owners_of c.in_ok-push.ensures.ok ∙ map_push (λ (t : TypedCtor). t.root) s.ctors c.args.ctor in
    record {
      counted = c.set.ensures ∙ ap (λ l. slice_set l root (get_or c.as_slice.result.now root 0 + 1)) s.counted
          ∙ ap (λ n. slice_set (counts_from 0 s.roots (owners_of s.ctors)) root (n + 1)) e
          ∙ counts_set s.roots root (owners_of s.ctors) c.requires.root
          ∙ ap (counts_from 0 s.roots) (sym more);
    }
