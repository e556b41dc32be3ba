use Rattle.std.proofs.Common.{◌<◌, List, ℕ, length, slice_index_or, sym, subst, arith}
use Rattle.std.proofs.lemmas.Option.{slice_get-get_or}
use Rattle.pp_graph.specs.Reaches.{IsGroup}
use Rattle.pp_graph.proofs.Decided.{groups_sure}
use Rattle.pp_graph.proofs.Paths.{one_number}
use Rattle.std.proofs.lemmas.List.{length-map}
use Rattle.pp_prog.specs.declared.program.Program.{Program}
use Rattle.pp_prog.specs.Calls.{call_table, function_calls}
use Rattle.pp_prog.proofs.program.Program.group_of.Goals as goal

group_at : (p : Program) (f : ℕ) → f < length p.functions
    → IsGroup (call_table p.functions) f (slice_index_or p.groups f 0)
group_at p f lt =
    let calls = call_table p.functions in
    let all = groups_sure calls p.groups p.grouped in
    let inside : f < length p.groups = omega (arith, all.size, length-map p.functions function_calls) in
    all.each f (slice_index_or p.groups f 0) (slice_get-get_or p.groups f 0 inside)

pub returns-clause-least : goal.returns-clause-least
returns-clause-least c =
    let p = c.args.self.now in
    let f = c.args.f.0 in
    subst (λ (l : List ℕ). IsGroup (call_table p.functions) f (slice_index_or l f 0)) (sym c.as_slice.ensures)
    (group_at p f c.requires)

pub returns-clause-shared : goal.returns-clause-shared
returns-clause-shared c g n is =
    let p = c.args.self.now in
    let f = c.args.f.0 in
    let own = subst (λ (l : List ℕ). IsGroup (call_table p.functions) f (slice_index_or l f 0)) (sym c.as_slice.ensures)
    (group_at p f c.requires) in
    one_number (call_table p.functions) g f n (slice_index_or c.as_slice.result.now f 0) is own
