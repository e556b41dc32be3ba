use Rattle.std.proofs.Common.{◌∙◌}
use Rattle.std.proofs.lemmas.Result.{on_ok_weaker}
use Rattle.pp_store.proofs.Loading.{is_made}
use Rattle.pp_store.proofs.store.Store.make_next.Goals as goal

pub returns-clause-made : goal.returns-clause-made
returns-clause-made c =
    on_ok_weaker c.push.result
    (is_made c.args.self.now c.args.helds.now c.requires c.args.count c.popped.new.values c.in_ok-fields.ensures.rest
    c.args.ctor c.as_slice.result.now c.make.new.self c.in_ok-held.held c.push.new.self
    (c.as_slice.ensures ∙ c.in_ok-fields.ensures.fields) c.in_ok-held.ensures.extends c.in_ok-held.ensures.made)
    c.push.ensures.ok
