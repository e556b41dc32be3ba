use Rattle.pp_translate.specs.Target.{setting}
use Rattle.pp_translate.proofs.Post.{is_no_post, is_post}
use Rattle.pp_translate.proofs.functions.post_of.Goals as goal

pub returns-in-None : goal.returns-in-None
returns-in-None c = is_no_post c.args.typed.now (setting c.args.target.now) c.args.own.now c.args.source c.args.post.now
    _ c.in-None.is

pub returns-in_ok-check-in-Some : goal.returns-in_ok-check-in-Some
returns-in_ok-check-in-Some c =
    is_post c.args.typed.now (setting c.args.target.now) c.args.own.now c.args.source c.args.post.now c.in-Some.post _ _
    _ _ _ c.in-Some.is
    c.in_ok-claim-in-Some.ensures c.in_ok-check-in-Some.ensures.number c.in_ok-check-in-Some.ensures.listed
