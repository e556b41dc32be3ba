use Rattle.std.proofs.Common.{◌∙◌, ◌++◌, List, ap, reverse, sym}
use Rattle.std.specs.List.{flat_map}
use Rattle.std.proofs.lemmas.Result.{IfOk-weaker}
use Rattle.pp_turns.specs.declared.part.Turn.{Turn}
use Rattle.pp_turns.specs.Parts.{ends_in}
use Rattle.pp_turns.proofs.EndLists.{last_off}
use Rattle.pp_turns.proofs.finishing.ends_of.Goals as goal

pub loop-turn-preserved : goal.loop-turn-preserved
loop-turn-preserved c =
    c.loop-turn.invariant
    ∙ last_off c.loop-turn.rest c.pop.new.self c.in-Some.turn c.loop-turn.back c.push_end.new.ends c.in-Some.ensures
    c.in_ok-push_end.ensures

pub returns : goal.returns
returns c =
    IfOk-weaker c.reversed.result _ _
    (λ all h.
    h
    ∙ sym (c.loop-turn.invariant
    ∙ ap (λ (l : List Turn). flat_map ends_in l ++ reverse c.loop-turn.back) c.in_default.ensures.0))
    c.reversed.ensures
