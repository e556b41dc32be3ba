use Rattle.pp_query.proofs.Plain.{plain_is_proved}
use Rattle.pp_query.proofs.Proved.{model_leaves_unproved, no_model_proves, spent_proves}
use Rattle.pp_query.proofs.Replies.{model_fails, none_fails, spent_reply}
use Rattle.pp_query.proofs.proving.prove.Goals as goal

pub returns-then-plain : goal.returns-then-plain
returns-then-plain c = record {
  proof = plain_is_proved c.args.plan.now c.args.program.now c.requires.plan c.args.check c.args.round c.args.lemmas
      ((c.plain.ensures c.args.program.now c.requires.plan c.requires.check).0 c.if-plain.true);
}

pub returns-in-Model : goal.returns-in-Model
returns-in-Model c = record {
  proof =
      let query = c.in_ok-query.ensures.query in
      model_leaves_unproved _ _ _ _ query.question c.args.lemmas _ (model_fails _ _ _ _ _ query.reply _ c.in-Model.is)
      (λ plain. let told = (c.plain.ensures c.args.program.now c.requires.plan c.requires.check).1 plain in cc);
}

pub returns-in-NoModel : goal.returns-in-NoModel
returns-in-NoModel c = record {
  proof =
      let query = c.in_ok-query.ensures.query in
      no_model_proves _ _ _ _ query.question c.args.lemmas (none_fails _ _ _ _ _ query.reply c.in-NoModel.is);
}

pub returns : goal.returns
returns c = record {
  proof =
      let query = c.in_ok-query.ensures.query in
      spent_proves _ _ _ _ query.question c.args.lemmas _ (spent_reply _ _ _ _ _ query.reply _ c.in-Spent.is)
      (λ plain. let told = (c.plain.ensures c.args.program.now c.requires.plan c.requires.check).1 plain in cc);
}
