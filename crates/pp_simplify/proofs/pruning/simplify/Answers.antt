use Rattle.std.proofs.Common.{◌≤◌, ◌∙◌, List, arith, ap, length, subst, sym}
use Rattle.pp_steps.specs.declared.step.Step.{Step}
use Rattle.pp_steps.specs.Reads.{AllRead}
use Rattle.pp_simplify.specs.Folded.{all_folded}
use Rattle.pp_simplify.specs.Names.{named}
use Rattle.pp_simplify.proofs.Turns.{as_many, reading}
use Rattle.pp_simplify.proofs.pruning.simplify.Goals as goal

pub prune-requires-clause-reads : goal.prune-requires-clause-reads
prune-requires-clause-reads c =
    let is = c.in_ok-folded.ensures.steps ∙ ap (λ (l : List Step). (all_folded l).steps) c.as_slice.ensures in
    subst (λ (l : List Step). AllRead 0 l) (sym is) (reading c.args.steps.now c.requires.reads).reads

pub prune-requires-clause-first : goal.prune-requires-clause-first
prune-requires-clause-first c =
    let is = c.in_ok-folded.ensures.steps ∙ ap (λ (l : List Step). (all_folded l).steps) c.as_slice.ensures in
    subst (λ n. c.args.first ≤ n) (sym (ap length is ∙ as_many c.args.steps.now)) c.requires.first

pub prune-requires-clause-asked : goal.prune-requires-clause-asked
prune-requires-clause-asked c =
    let is = c.in_ok-folded.ensures.steps ∙ ap (λ (l : List Step). (all_folded l).steps) c.as_slice.ensures in
    let many = ap length is ∙ as_many c.args.steps.now in
    let low = (reading c.args.steps.now c.requires.reads).low c.args.asked in
    let name = c.named-name.ensures
    ∙ ap (λ l. named l c.args.asked) (c.as_slice-2.ensures ∙ c.in_ok-folded.ensures.names
    ∙ ap (λ (l : List Step). (all_folded l).names) c.as_slice.ensures) in
    let stands = c.requires.asked in
    omega arith
