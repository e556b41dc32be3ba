use Rattle.std.proofs.Common.{IfOk, IfErr, ap, ◌∙◌, subst}
use Rattle.pp_tokens.specs.Tokens.{tokens_of}
use Rattle.pp_tokens.proofs.TokensOf.{are_spans, has_end}
use Rattle.pp_tree.specs.Plain.{Word}
use Rattle.pp_tree.specs.Shown.{unit_of}
use Rattle.pp_parse.specs.Answers.{IsAnswer, IsRefusal}
use Rattle.pp_parse.proofs.Runs.{some_tokens}
use Rattle.pp_parse.proofs.Spelled.{is_spelled, is_low, is_why, stands_at_token, answers_unit, refuses_word}
use Rattle.pp_parse.proofs.Spelled.{offsets_at_tokens, has_few_nodes, has_few_cases}
use Rattle.pp_parse.proofs.reading.parse.Goals as goal

pub answer-requires-clause-whole_characters : goal.answer-requires-clause-whole_characters
answer-requires-clause-whole_characters c =
    are_spans _ _ (ap tokens_of c.as_str.ensures.same ∙ c.requires) c.as_str.ensures.utf8

pub answer-requires-clause-ended : goal.answer-requires-clause-ended
answer-requires-clause-ended c =
    some_tokens _ _ (has_end _ _ (ap tokens_of c.as_str.ensures.same ∙ c.requires) c.as_str.ensures.utf8)

pub returns : goal.returns
returns c =
    let text = c.args.text.now in
    let ts = c.args.tokens.now in
    let r = c.answer.result in
    let P : Word → Type 0 = λ w. IfOk r (λ u. IsAnswer w ts (unit_of u)) in
    let Q : Word → Type 0 = λ w. IfErr r (λ f. IsRefusal f w ts) in
    let a = subst P c.as_str.ensures.same c.answer.ensures.answered in
    let b = subst Q c.as_str.ensures.same c.answer.ensures.refused in
    let some = some_tokens _ _ (has_end _ _ (ap tokens_of c.as_str.ensures.same ∙ c.requires) c.as_str.ensures.utf8) in
    record {
      answered = a;
      refused = b;
      spelled = is_spelled text ts unit_of r a;
      low = is_low text ts unit_of r a;
      why = is_why text ts unit_of r b;
      at_token = stands_at_token text ts unit_of r b;
      every_unit = answers_unit text ts unit_of r a b;
      every_unused = refuses_word text ts unit_of r a b;
      offsets = offsets_at_tokens text ts unit_of r a;
      few_nodes = has_few_nodes text ts unit_of some r a;
      few_cases = has_few_cases text ts unit_of some r a;
    }
