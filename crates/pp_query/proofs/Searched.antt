-- What the replies to a search's question say of the arguments that fail a check.
use Rattle.std.proofs.Common.{◌↔◌, ◌<◌, ℕ, Bool, List, All, length, refl}
use Rattle.pp_prog.specs.declared.id.CheckId.{CheckId}
use Rattle.pp_prog.specs.declared.program.Program.{Program}
use Rattle.pp_prog.specs.declared.value.Value.{Value}
use Rattle.pp_clause.specs.declared.spent.Spent.{Spent as SpentQuery}
use Rattle.pp_gate.proofs.Places.{at_some}
use Rattle.pp_domain.specs.Naming.{Naming}
use Rattle.pp_domain.specs.Symbols.{SymbolsStand}
use Rattle.pp_bounded_trees.specs.declared.arena.BoundedTree.{BoundedTree}
use Rattle.pp_bounded_trees.specs.declared.arena.Trees.{Trees}
use Rattle.pp_bounded_trees.specs.Meaning.{bounded_sense}
use Rattle.pp_bounded_trees.specs.Readable.{IsReadable}
use Rattle.pp_evidence.specs.Evidence.{Satisfiable}
use Rattle.pp_sound.specs.Counterexample.{IsCounterexample}
use Rattle.pp_sound.specs.Sound.{IsCheckOf}
use Rattle.pp_symbolic.specs.declared.frame.Mode.TheVariants.{Real}
use Rattle.pp_query.specs.declared.found.Found.TheVariants.{Args, Nothing, Spent}
use Rattle.pp_query.specs.declared.question.Question.{Question}
use Rattle.pp_query.specs.Found.{IsFound}
use Rattle.pp_query.specs.Question.{IsQuestion}
use Rattle.pp_query.specs.Reply.{IsFailing, IsSpentReply}
use Rattle.pp_query.proofs.Frames.{failing_of, failing_readable, read_counterexample, some_counterexample}
use Rattle.pp_query.proofs.Variables.{spent_within}

module _ (p : Program) (c : CheckId) (round depth : ℕ) (q : Question Trees BoundedTree)
    (is : IsQuestion bounded_sense p c Real round depth q)
  where
    -- under a model the symbols of the arguments can be read
    pub model_readable : (a : ℕ → Bool) → IsFailing q.circuit q.frame.fails q.frame.circuit_ok a
        → c.0 < length p.checks → All (IsReadable p.types q.domain a) q.frame.arguments
    model_readable a failing lt =
        let found = at_some p.checks c.0 lt in
        let check : IsCheckOf p found.0.function.0 c.0 = record { check = found.0; listed = found.1; owner = refl } in
        failing_readable p c round depth q is found.0.function.0 check a failing

    -- and what they stand for is looked for
    pub model_found : (lemmas : ℕ) (a : ℕ → Bool) → IsFailing q.circuit q.frame.fails q.frame.circuit_ok a
        → (args : List Value) → ((n : Naming) → SymbolsStand bounded_sense q.domain a n q.frame.arguments args)
        → IsFound p c round depth lemmas (Args args)
    model_found lemmas a failing args stand i check =
        read_counterexample p c round depth q is i check a failing args stand

    -- where there is no model no arguments fail the check
    pub no_model_found : (lemmas : ℕ)
        → ((a : ℕ → Bool) → IsFailing q.circuit q.frame.fails q.frame.circuit_ok a → ⊥)
        → IsFound p c round depth lemmas Nothing
    no_model_found lemmas none i check args ce =
        let f = failing_of p c round depth q is i check args ce in none f.0 f.1

    -- clauses that can be satisfied exactly where there is a model can where some arguments fail the check
    satisfied_exactly : (s : SpentQuery)
        → Satisfiable s.clauses s.assumptions
        ↔ ((a : ℕ → Bool) × IsFailing q.circuit q.frame.fails q.frame.circuit_ok a)
        → (i : ℕ) → IsCheckOf p i c.0
        → Satisfiable s.clauses s.assumptions ↔ ((args : List Value) × IsCounterexample p i c round depth args)
    satisfied_exactly s exact i check = (
      λ all. let f = exact.0 all in some_counterexample p c round depth q is i check f.0 f.1,
      λ ce. exact.1 (failing_of p c round depth q is i check ce.0 ce.1),
    )

    pub spent_found : (lemmas : ℕ) (s : SpentQuery)
        → IsSpentReply q.circuit q.frame.fails q.frame.circuit_ok lemmas s
        → IsFound p c round depth lemmas (Spent s)
    spent_found lemmas s reply i check = record {
      spent = spent_within _ _ lemmas s is.small reply.spent;
      exact = satisfied_exactly s reply.exact i check;
    }
