use Rattle.std.proofs.Common.{◌≡◌, ◌∙◌, Some, None, ap, option_map, rules}
use Rattle.pp_words.specs.Line.{given_in, line_given, line_of}
use Rattle.pp_words.specs.Told.{given_told, task_told, texts}
use Rattle.pp_words.proofs.Taken.{line_of_task, line_where_taken, no_line_of_faults, no_line_of_hyphen}
use Rattle.pp_words.proofs.line.read.Goals as goal

pub returns-then-has_lone_hyphen-clause-refused : goal.returns-then-has_lone_hyphen-clause-refused
returns-then-has_lone_hyphen-clause-refused c refused = no_line_of_hyphen (texts c.args.words.now) (search rules)

pub returns-in_err-matches-clause-refused : goal.returns-in_err-matches-clause-refused
returns-in_err-matches-clause-refused c refused =
    no_line_of_faults (texts c.args.words.now) (c.in_err-matches.ensures.refused (search rules))

pub returns-in-None-clause-refused : goal.returns-in-None-clause-refused
returns-in-None-clause-refused c refused =
    let given = given_told c.in_ok-given.given in
    line_where_taken (texts c.args.words.now) given (search rules) c.in_ok-matches.ensures.taken
    (c.in_ok-given.ensures ∙ ap given_in c.in_ok-matches.ensures.values) ∙ line_of_task given None c.in-None.ensures

pub returns-clause-read : goal.returns-clause-read
returns-clause-read c =
    let given = given_told c.in_ok-given.given in
    line_where_taken (texts c.args.words.now) given (search rules) c.in_ok-matches.ensures.taken
    (c.in_ok-given.ensures ∙ ap given_in c.in_ok-matches.ensures.values) ∙ line_of_task given
    (Some (task_told c.in-Some.task)) c.in-Some.ensures
