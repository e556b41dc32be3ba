use Rattle.pp_bounded_cases.proofs.trying.told.Goals as goal

pub show_parts-requires-2 : goal.show_parts-requires-2
show_parts-requires-2 c =
    c.in_ok-show_parts.ensures.reads _ _
    (record { fits = c.requires.kept.pair.fits; kept = c.requires.kept.merged; gives = c.requires.gives })
