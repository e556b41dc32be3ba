use Rattle.std.proofs.Common.{sym, ap, ◌∙◌, subst, IsUtf8}
use Rattle.pp_tokens.specs.Tokens.{tokens_of}
use Rattle.pp_tokens.proofs.Counts.{few_tokens, fault_begins}
use Rattle.pp_tokens.proofs.TokensOf.{is_layout, are_spans, are_in_order, has_end, is_behind}
use Rattle.pp_tokens.proofs.lex.tokens.Goals as goal

pub returns-in-Ok-clause-whole_characters : goal.returns-in-Ok-clause-whole_characters
returns-in-Ok-clause-whole_characters c =
    are_spans c.args.text.now c.in-Ok.found.items (ap tokens_of (sym c.as_str.ensures.same) ∙ c.in-Ok.ensures.spelled)
    (subst IsUtf8 c.as_str.ensures.same c.as_str.ensures.utf8)

pub returns-in-Ok-clause-in_order : goal.returns-in-Ok-clause-in_order
returns-in-Ok-clause-in_order c =
    are_in_order c.args.text.now c.in-Ok.found.items
    (ap tokens_of (sym c.as_str.ensures.same) ∙ c.in-Ok.ensures.spelled)

pub returns-in-Ok-clause-ended : goal.returns-in-Ok-clause-ended
returns-in-Ok-clause-ended c =
    has_end c.args.text.now c.in-Ok.found.items (ap tokens_of (sym c.as_str.ensures.same) ∙ c.in-Ok.ensures.spelled)
    (subst IsUtf8 c.as_str.ensures.same c.as_str.ensures.utf8)

pub returns-in-Ok-clause-laid_out : goal.returns-in-Ok-clause-laid_out
returns-in-Ok-clause-laid_out c =
    is_layout c.args.text.now c.in-Ok.found.items (ap tokens_of (sym c.as_str.ensures.same) ∙ c.in-Ok.ensures.spelled)

pub returns-in-Err-clause-laid_out_before : goal.returns-in-Err-clause-laid_out_before
returns-in-Err-clause-laid_out_before c =
    is_behind c.args.text.now c.in-Err.fault (rw c.as_str.ensures.same at c.in-Err.ensures.refused)

pub returns-in-Ok-clause-few : goal.returns-in-Ok-clause-few
returns-in-Ok-clause-few c =
    few_tokens c.args.text.now c.in-Ok.found.items (subst IsUtf8 c.as_str.ensures.same c.as_str.ensures.utf8)
    (is_layout c.args.text.now c.in-Ok.found.items
    (ap tokens_of (sym c.as_str.ensures.same) ∙ c.in-Ok.ensures.spelled))

pub returns-in-Err-clause-fault_begins : goal.returns-in-Err-clause-fault_begins
returns-in-Err-clause-fault_begins c =
    fault_begins c.args.text.now c.in-Err.fault (subst IsUtf8 c.as_str.ensures.same c.as_str.ensures.utf8)
    (rw c.as_str.ensures.same at c.in-Err.ensures.refused)
