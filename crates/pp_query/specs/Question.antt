-- What a round asks, and what a query of it answers. Source: own.
use Rattle.std.specs.Prelude.{◌≡◌, ◌≤◌, ℕ, length}
use Rattle.pp_limits.specs.declared.TheConstants.{GATES}
use Rattle.pp_prog.specs.declared.id.CheckId.{CheckId}
use Rattle.pp_prog.specs.declared.program.Program.{Program}
use Rattle.pp_gate.specs.Circuit.{IsCircuit, IsOf}
use Rattle.pp_domain.specs.Sense.{Sense}
use Rattle.pp_estimate.specs.Estimates.{estimate}
use Rattle.pp_symbolic.specs.declared.frame.Mode.{Mode}
use Rattle.pp_symbolic.specs.declared.frame.Mode.TheVariants.{Guess, Real}
use Rattle.pp_symbolic.specs.Frame.{IsFrame, IsGuessFrame}
use Rattle.pp_query.specs.declared.query.Query.{Query}
use Rattle.pp_query.specs.declared.question.Question.{Question}
use Rattle.pp_query.specs.declared.reply.Reply.{Reply}
use Rattle.pp_query.specs.Reply.{IsReply}

module _ {D T : Type 0} (q : Question D T) where
  -- the literals that are asked for are of the circuit, which isn't large
  pub record CanAsk : Type 0 where
    pub circuit : IsCircuit q.circuit
    pub small : length q.circuit ≤ GATES.most
    pub fails : IsOf q.circuit q.frame.fails
    pub circuit_ok : IsOf q.circuit q.frame.circuit_ok

  -- the reply is one to whether the check fails, where all that was supposed holds
  abbrev pub IsReplyTo : ℕ → Reply → Type 0
  IsReplyTo = IsReply q.circuit q.frame.fails q.frame.circuit_ok

module _ {D T : Type 0} (m : Sense D T) (p : Program) (c : CheckId) (mode : Mode) (round depth : ℕ) where
  -- the frame is that of the round's run, or of its guess runs, over a circuit that fits the domain and isn't larger
  -- than the estimate
  pub record IsQuestion (q : Question D T) : Type 0 where
    pub fits : m.Fits p.types q.domain q.circuit
    pub small : length q.circuit ≤ estimate p.types p.functions p.checks c.0 round depth
    pub run : mode ≡ Real → IsFrame m p c round depth q.domain q.circuit q.frame
    pub guess : mode ≡ Guess → IsGuessFrame m p c round q.domain q.circuit q.frame

  -- the question is that of the round, and the reply is one to it
  pub record IsQuery (lemmas : ℕ) (query : Query D T) : Type 0 where
    pub question : IsQuestion query.question
    pub reply : IsReplyTo query.question lemmas query.reply
