use Rattle.std.proofs.Common.{rules}
use Rattle.pp_seam.proofs.Counted.{rose_of, refused_as_due}
use Rattle.pp_seam.proofs.shelves.ShelvesShelf.fetch.Goals as goal

pub returns-then-contains-clause-err : goal.returns-then-contains-clause-err
returns-then-contains-clause-err c = refused_as_due _ _ c.refuse.ensures.fault (search rules)

pub returns-then-contains-clause-rose : goal.returns-then-contains-clause-rose
returns-then-contains-clause-rose c =
    rose_of c.refuse.result c.args.path.now c.args.self.now.failed c.refuse.new.self.failed (search rules)

pub returns-in_default-clause-rose : goal.returns-in_default-clause-rose
returns-in_default-clause-rose c =
    rose_of c.refuse-in_default.result c.args.path.now c.args.self.now.failed c.refuse-in_default.new.self.failed
    (search rules)
