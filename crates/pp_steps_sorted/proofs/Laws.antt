-- The steps of a run are well sorted in a program that has a plan.
use Rattle.std.proofs.Common.{◌++◌, Some}
use Rattle.std.proofs.lemmas.Bool.{and_parts}
use Rattle.std.specs.List.{list_all}
use Rattle.pp_prog.specs.declared.sort.Sort.TheVariants as sort
use Rattle.pp_prog.specs.Sorts.{param_sorts}
use Rattle.pp_prog.specs.Table.{is_sort}
use Rattle.pp_prog.specs.Valid.{is_in_range}
use Rattle.pp_prog.proofs.Sure.{is_valid}
use Rattle.pp_sound.proofs.Listed.{all_at}
use Rattle.pp_steps.specs.Frames.{any_of, arguments, inlined, run_steps, running}
use Rattle.pp_steps.specs.Piece.{after}
use Rattle.pp_steps_exist.proofs.Laws.{runs_read}
use Rattle.pp_steps_sorted.specs.Laws.{RunsAreSorted}
use Rattle.pp_steps_sorted.proofs.Assigned.{assign, assign_assigned, assigned_parts}
use Rattle.pp_steps_sorted.proofs.Calls.{inlined_sorted}
use Rattle.pp_steps_sorted.proofs.Pieces.{sorted_join}
use Rattle.pp_steps_sorted.proofs.Runs.{any_sorted, arguments_sorted, running_sorted}

pub runs_are_sorted : RunsAreSorted
runs_are_sorted plan p plans i f is check fuel =
    let run = run_steps p.functions f check fuel in
    let σ = assign p.types 0 run.steps (λ k. sort.Bool) in
    let args = arguments (param_sorts f.params) in
    let n = after 0 args in
    let x = running (inlined p.functions fuel (Some check)) (Some check) f n args.out args.alive in
    let any = any_of x.fails (after n x) args.alive in
    let all = assign_assigned p.types 0 run.steps (λ k. sort.Bool) (runs_read p.functions f check fuel) in
    let first = assigned_parts p.types σ 0 args.steps (x.steps ++ any.steps) all in
    let second = assigned_parts p.types σ n x.steps any.steps first.1 in
    let range = all_at (is_in_range p.types.datatypes) p.functions i f (is_valid p).in_range is in
    let params = (and_parts (list_all (is_sort p.types.datatypes) (param_sorts f.params)) _ range).0 in
    let a = (arguments_sorted p.types σ (param_sorts f.params) params).given first.0 in
    let b = (running_sorted p σ (inlined p.functions fuel) (inlined_sorted p σ plan plans fuel) i f is (Some check) n
    args.out args.alive a.leaves.out a.leaves.alive).given second.0 in
    let c = (any_sorted p.types σ x.fails (after n x) args.alive b.fails a.leaves.alive).given second.1 in
    record {
      sorts = σ;
      sorted = sorted_join p.types σ 0 args.steps (x.steps ++ any.steps) a.sorted
          (sorted_join p.types σ n x.steps any.steps b.sorted c.sorted);
      arguments = a.leaves.out;
      fails = c.leaves.out;
    }
