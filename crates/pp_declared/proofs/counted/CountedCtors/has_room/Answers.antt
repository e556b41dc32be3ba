use Rattle.std.proofs.Common.{◌∙◌, ap, nat_lt}
use Rattle.pp_names.specs.Find.{owners_of}
use Rattle.pp_declared.proofs.Counting.{count_within, count_at}
use Rattle.pp_declared.proofs.counted.CountedCtors.has_room.Goals as goal

pub bounds-as_slice-root : goal.bounds-as_slice-root
bounds-as_slice-root c =
    let s = c.args.self.now in
    count_within c.as_slice.result.now s.roots c.args.root (owners_of s.ctors) (c.as_slice.ensures
    ∙ s.counted) c.requires

pub returns : goal.returns
returns c =
    let s = c.args.self.now in
    ap (λ n. nat_lt n 64) (count_at c.as_slice.result.now s.roots c.args.root (owners_of s.ctors) 0
    (c.as_slice.ensures ∙ s.counted) c.requires)
