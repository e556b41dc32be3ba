use Rattle.pp_query.proofs.RunsRefuted.{none_found}
use Rattle.pp_query.proofs.Searched.{model_found, model_readable, no_model_found, spent_found}
use Rattle.pp_query.proofs.Replies.{model_fails, none_fails, spent_reply}
use Rattle.pp_query.proofs.searching.search.Goals as goal

pub returns-then-branch : goal.returns-then-branch
returns-then-branch c = record {
  found = none_found _ _ _ c.args.depth c.args.lemmas (c.in_ok-no_run_fails.ensures.none c.if-branch.true);
}

pub read_all-requires : goal.read_all-requires
read_all-requires c =
    let query = c.in_ok-query.ensures.query in
    let failing = model_fails _ _ _ _ _ query.reply _ c.in-Model.is in
    rw (c.types.ensures, c.as_slice-arguments.ensures)
    (model_readable _ _ _ _ _ query.question _ failing c.requires.check)

pub returns-in-Model : goal.returns-in-Model
returns-in-Model c = record {
  found =
      let query = c.in_ok-query.ensures.query in
      let failing = model_fails _ _ _ _ _ query.reply _ c.in-Model.is in
      model_found _ _ _ _ _ query.question c.args.lemmas _ failing c.in_ok-values-in-Model.values
      (rw c.as_slice-arguments.ensures at c.in_ok-values-in-Model.ensures);
}

pub returns-in-NoModel : goal.returns-in-NoModel
returns-in-NoModel c = record {
  found =
      let query = c.in_ok-query.ensures.query in
      no_model_found _ _ _ _ _ query.question c.args.lemmas (none_fails _ _ _ _ _ query.reply c.in-NoModel.is);
}

pub returns-then-branch-2 : goal.returns-then-branch-2
returns-then-branch-2 c = record {
  found = none_found _ _ _ c.args.depth c.args.lemmas (c.in_ok-no_run_fails-in-Spent.ensures.none c.if-branch-2.true);
}

pub returns : goal.returns
returns c = record {
  found =
      let query = c.in_ok-query.ensures.query in
      spent_found _ _ _ _ _ query.question c.args.lemmas _ (spent_reply _ _ _ _ _ query.reply _ c.in-Spent.is);
}
