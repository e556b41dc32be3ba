use Rattle.std.proofs.Common.{◌∙◌, ap, map}
use Rattle.pp_answers.proofs.Seeds.{fetched_all, made_alone, made_range, one_is_few}
use Rattle.pp_front.specs.Programs.{bytes_of}
use Rattle.pp_made.specs.Made.{made_source}
use Rattle.pp_modes.proofs.Asked.{if_ok}
use Rattle.pp_words.specs.Told.{task_told}
use Rattle.pp_answers.proofs.responding.respond.Goals as goal

pub made_sources-requires : goal.made_sources-requires
made_sources-requires c = made_range (task_told c.args.task) c.in-Some.seed c.in-Some.ensures c.requires.range

pub respond_on-requires-clause-few : goal.respond_on-requires-clause-few
respond_on-requires-clause-few c =
    one_is_few c.deref.result.now (made_source c.in-Some.seed)
    (ap (map bytes_of) c.deref.ensures.value ∙ c.in_ok-made-in-Some.ensures.made)

pub returns-in_ok-made-in-Some : goal.returns-in_ok-made-in-Some
returns-in_ok-made-in-Some c =
    if_ok c.respond_on.result c.respond_on.ensures
    (λ r says. says (map bytes_of c.args.fetched.now)
    (made_alone (task_told c.args.task) c.in-Some.seed (map bytes_of c.args.fetched.now)
    (map bytes_of c.deref.result.now) c.in-Some.ensures
    (ap (map bytes_of) c.deref.ensures.value ∙ c.in_ok-made-in-Some.ensures.made)))

pub returns-in-None : goal.returns-in-None
returns-in-None c =
    if_ok c.respond_on-in-None.result c.respond_on-in-None.ensures
    (λ r says. says (map bytes_of c.args.fetched.now)
    (fetched_all (task_told c.args.task) (map bytes_of c.args.fetched.now) c.in-None.ensures))
