-- What a reply says in each of its cases.
use Rattle.std.proofs.Common.{◌≡◌, ℕ, Bool, List, subst}
use Rattle.pp_clause.specs.declared.spent.Spent.{Spent as SpentQuery}
use Rattle.pp_clause.specs.Assignment.{assigned}
use Rattle.pp_clause.specs.Literal.{Literal}
use Rattle.pp_gate.specs.declared.gate.Gate.{Gate}
use Rattle.pp_query.specs.declared.reply.Reply.{Reply}
use Rattle.pp_query.specs.declared.reply.Reply.TheVariants.{Model, NoModel, Spent}
use Rattle.pp_query.specs.Reply.{IsFailing, IsReply, IsSpentReply}

module _ (gs : List Gate) (failing supposed : Literal) (lemmas : ℕ) (reply : Reply)
    (is : IsReply gs failing supposed lemmas reply)
  where
    pub model_fails : (values : List Bool) → reply ≡ Model values → IsFailing gs failing supposed (assigned values)
    model_fails values e = subst (IsReply gs failing supposed lemmas) e is

    pub none_fails : reply ≡ NoModel → (a : ℕ → Bool) → IsFailing gs failing supposed a → ⊥
    none_fails e = subst (IsReply gs failing supposed lemmas) e is

    pub spent_reply : (s : SpentQuery) → reply ≡ Spent s → IsSpentReply gs failing supposed lemmas s
    spent_reply s e = subst (IsReply gs failing supposed lemmas) e is
