use Rattle.pp_translate.proofs.functions.conditions.Goals as goal

pub returns : goal.returns
returns c = record { parts = c.in_ok-parts.parts; each = c.in_ok-parts.ensures; one = c.in_ok-whole.ensures }
