use Rattle.std.proofs.Common.{sym, ◌∙◌, subst}
use Rattle.pp_front.proofs.Spelled.{are_short}
use Rattle.pp_ordinary.specs.Laws.{AreShort}
use Rattle.pp_front.proofs.accepting.accept.Goals as goal

pub accept_units-requires-clause-short : goal.accept_units-requires-clause-short
accept_units-requires-clause-short c =
    subst AreShort (sym (c.deref.ensures.value ∙ c.in-Ok.ensures.texts))
    (are_short c.args.sources.now c.requires.few c.requires.short)
