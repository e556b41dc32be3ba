use Rattle.std.proofs.Common.{◌++◌, [], List, ℕ}
use Rattle.std.specs.Borrow.{Bor}
use Rattle.pp_sorts.specs.Words.{words_of}
use Rattle.pp_declared.proofs.Imported.{names_turn}
use Rattle.pp_declared.proofs.imports.push_objects.Goals as goal

pub loop-name-preserved : goal.loop-name-preserved
loop-name-preserved c =
    let none : Bor (List ℕ) = record { ref_ptr = (0, 0); now = [] } in
    names_turn c.loop-name.objects c.add.new.self c.args.names.now c.loop-name.name-index none
    (c.args.objects.now ++ words_of c.args.names.now)
    c.loop-name-test.true c.in_ok-add.ensures.adds c.loop-name.invariant
